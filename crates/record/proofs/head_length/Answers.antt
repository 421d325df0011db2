-- `record::head_length` meets its contract: the head of a count up to 255, and of one above.
-- Assumes nothing.
use mathlib.Core.Path.{sym}
use native.Mathlib.Omega.{arith}
use Rattle.paper.proofs.Records.{head_short, head_long}
use Rattle.record.proofs.head_length.Goals as goal

pub returns-then-n-le-ONE_BYTE : goal.returns-then-n-le-ONE_BYTE
returns-then-n-le-ONE_BYTE c = sym (head_short c.args.n (omega arith))

pub returns-else-n-le-ONE_BYTE : goal.returns-else-n-le-ONE_BYTE
returns-else-n-le-ONE_BYTE c = sym (head_long c.args.n (omega arith))
