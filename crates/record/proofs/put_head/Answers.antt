-- `record::put_head` meets its contract: the head of a count up to 255, and of one above.
-- Assumes nothing.
use Prim.Native.Nat.{◌/◌, ◌%◌}
use mathlib.Core.Path.{◌≡◌}
use native.Mathlib.Omega.{arith}
use lib.ListN.{get_or}
use borrow.Author.Tests.{le-leb, lt-leb}
use Rattle.paper.specs.Jobs.{most, head}
use Rattle.record.proofs.put_head.Goals as goal

pub returns-then-n-le-ONE_BYTE : goal.returns-then-n-le-ONE_BYTE
unfolding head
returns-then-n-le-ONE_BYTE c = rw (le-leb c.args.n 255 (omega arith)) c.join_slices.ensures

pub overflow_cast-n-else-n-le-ONE_BYTE : goal.overflow_cast-n-else-n-le-ONE_BYTE
unfolding most
overflow_cast-n-else-n-le-ONE_BYTE c = omega arith

pub returns-else-n-le-ONE_BYTE : goal.returns-else-n-le-ONE_BYTE
unfolding head most
returns-else-n-le-ONE_BYTE c =
    let high : c.args.n / 256 ≡ get_or c.to_be_bytes.result 0 0 = rw c.to_be_bytes.ensures (omega arith) in
    let low : c.args.n % 256 ≡ get_or c.to_be_bytes.result 1 0 = rw c.to_be_bytes.ensures (omega arith) in
    rw (lt-leb c.args.n 255 (omega arith), high, low) c.join_slices-else-n-le-ONE_BYTE.ensures
