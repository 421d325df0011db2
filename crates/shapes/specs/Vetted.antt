-- The tests that several jobs begin with, as answers that write nothing.
-- Document 01, "Order": draw, spell and scan ask 10 and 13 first; read and pack ask 10 and 11.
-- Assumes nothing.
use Rattle.std.specs.Prelude.{ℕ, List, [], length}
use Rattle.helpers.specs.Answers.{Answer, accept, ◌then◌, ask, every}
use Rattle.paper.specs.Jobs.{possible, well_formed, symbol_count, possible_row, is_cell}

-- 10 and 13 of a symbol list
unfoldable pub vetted : List ℕ → Answer
vetted s = ask (possible (length s)) 10 (length s) then well_formed s then accept (length s) []

-- 10 and 11 of a row; accepted with its number of symbols
unfoldable pub shaped : List ℕ → Answer
shaped cs = ask (possible_row (length cs)) 10 (length cs) then every is_cell 11 0 cs then accept (symbol_count (length cs)) []
