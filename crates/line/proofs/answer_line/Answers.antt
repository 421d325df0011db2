-- `line::answer_line` meets its contract: by the line's form.
-- Assumes nothing.
use Rattle.line.proofs.AnswerLines.{line_other, line_points}
use Rattle.line.proofs.answer_line.Goals as goal

pub returns-in-Some : goal.returns-in-Some
returns-in-Some c = rw (line_points _ _ c.in-Some.ensures.0) c.answer_points.ensures

pub returns-in-None : goal.returns-in-None
returns-in-None c = rw (line_other _ c.in-None.ensures) c.write_line.ensures
