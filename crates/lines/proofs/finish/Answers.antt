-- `lines::finish` meets its contract: the buffer says what the line gives.
-- Assumes nothing.
use native.Mathlib.Omega.{arith}
use Rattle.std.proofs.Common.{rules}
use Rattle.lines.proofs.Feeds.{finish_none, finish_room, finish_line}
use Rattle.lines.proofs.finish.Goals as goal

pub returns-then-is_empty-clause-by_index : goal.returns-then-is_empty-clause-by_index
returns-then-is_empty-clause-by_index c cur h = finish_none c.as_slice-held.ensures h _ (search rules)

pub returns-in-0-clause-by_index : goal.returns-in-0-clause-by_index
returns-in-0-clause-by_index c cur h = finish_room c.as_slice-held.ensures h (search rules) c.answer_line.ensures (omega arith)

pub returns-in_default-clause-by_index : goal.returns-in_default-clause-by_index
returns-in_default-clause-by_index c cur h = finish_line c.as_slice-held.ensures h (search rules) c.answer_line.ensures (search rules)
