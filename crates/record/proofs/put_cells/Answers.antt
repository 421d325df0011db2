-- `record::put_cells` meets its contract: the cells of a byte a turn, and what is left of the last.
-- Assumes nothing.
use Prim.Native.Nat.{◌/◌}
use mathlib.Core.Path.{◌≡◌}
use native.Mathlib.Omega.{arith}
use lib.ListN.{length, length-take}
use lib.Seq.{get_or-take}
use Rattle.record.proofs.Unpacks.{Unpacking, unpacking_full, unpacking_last, unpacking_end}
use Rattle.record.proofs.put_cells.Goals as goal

pub loop-k-preserved : goal.loop-k-preserved
loop-k-preserved c =
    let full = length c.args.out.now / 8 in
    let many = length-take full c.args.bytes.now in
    unpacking_full c.loop-k.invariant _ _ (get_or-take full c.args.bytes.now c.loop-k.k 0 (omega (arith, many))) (omega (arith, many)) (omega (arith, many)) c.spread.ensures

pub returns-then-full-len : goal.returns-then-full-len
returns-then-full-len c =
    let full = length c.args.out.now / 8 in
    let last : c.loop-k.k ≡ full = omega (arith, length-take full c.args.bytes.now) in
    let p : Unpacking c.args.bytes.now c.args.out.now c.loop-k.out full = rw last at c.loop-k.invariant in
    unpacking_last p _ (omega arith) (omega arith) c.requires c.spread-then-full-len.ensures

pub returns-else-full-len : goal.returns-else-full-len
returns-else-full-len c = unpacking_end c.loop-k.invariant (omega (arith, length-take (length c.args.out.now / 8) c.args.bytes.now)) c.requires
