-- The label program on its whole input: how it falls into lines, and what is written for them.
-- Document 01, "The label program". Assumes nothing.
use Rattle.std.specs.Prelude.{◌∷◌, ◌++◌, if◌then◌else◌}
use Rattle.helpers.specs.Prelude.{ℕ, zero, suc, true, false, List, [], eqb}
use Rattle.line.specs.Line.{line_out}

-- "A last line without newline counts": what the bytes after the last newline give
unfoldable pub at_end : List ℕ → List ℕ
at_end [] = []
at_end (c ∷ cs) = line_out (c ∷ cs)

-- what is written for the rest of the input, where the bytes `line` of a line are already read; a
-- newline, byte 10, ends the line, and `last` is what the bytes after the last newline give
unfoldable pub output_from : (List ℕ → List ℕ) → List ℕ → List ℕ → List ℕ
output_from last line [] = last line
output_from last line (c ∷ cs) = elim (eqb c 10) [ true ↦ line_out line ++ output_from last [] cs | false ↦ output_from last (line ++ (c ∷ [])) cs ]

-- "Each line gives one line out": what is written for the whole input
unfoldable pub output : List ℕ → List ℕ
output input = output_from at_end [] input

-- what is written where this much was read and the next read failed: no answer for the line that
-- was cut
unfoldable pub output_cut : List ℕ → List ℕ
output_cut input = output_from (λ line. []) [] input

-- ---- lines of an input and of an output
-- how many newlines a list has
unfoldable pub newlines : List ℕ → ℕ
newlines [] = 0
newlines (c ∷ cs) = if eqb c 10 then suc (newlines cs) else newlines cs

-- the first n lines, each with its newline; all there is where there are fewer
unfoldable pub first_lines : ℕ → List ℕ → List ℕ
first_lines zero x = []
first_lines (suc n) [] = []
first_lines (suc n) (c ∷ cs) = c ∷ (if eqb c 10 then first_lines n cs else first_lines (suc n) cs)

-- what follows the first n lines
unfoldable pub after_lines : ℕ → List ℕ → List ℕ
after_lines zero x = x
after_lines (suc n) [] = []
after_lines (suc n) (c ∷ cs) = if eqb c 10 then after_lines n cs else after_lines (suc n) cs
