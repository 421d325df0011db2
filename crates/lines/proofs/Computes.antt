-- What a proof by computation names on its `unfolding` line: it opens every definition of Line
-- and Lines, and of the files that they stand on.
-- Assumes nothing.
use Rattle.paper.proofs.Computes.{jobs_computes}
use Rattle.line.specs.Line.{kind_of, effect, with_point, comes_of, content_from, line_limit, content_of, decimal_below, decimal, answer_line, content_line, line_out}
use Rattle.lines.specs.Lines.{at_end, output_from, output, output_cut, newlines, first_lines, after_lines}

unfoldable pub lines_computes : Unit {0}
unfolding kind_of effect with_point comes_of content_from line_limit content_of decimal_below decimal answer_line content_line line_out at_end output_from output output_cut newlines first_lines after_lines jobs_computes
lines_computes = tt
