-- `ean13::payload` meets its contract: one digit a turn.
-- Assumes nothing.
use Prim.Native.Nat.{◌+◌, ◌*◌}
use mathlib.Core.Logic.{inl, inr}
use native.Mathlib.Omega.{arith}
use Rattle.std.specs.Iterator.Adapters.{enumerate_count}
use Rattle.ean.proofs.Draws.{drawing_turn, drawing_end, part_digit, next_side, next_digit, next_within}
use Rattle.ean.proofs.ean13.payload.Goals as goal

pub loop-k-preserved : goal.loop-k-preserved
loop-k-preserved c =
    let s = c.in-Some.ensures.steps in
    let i = c.loop-k.invariant.2 in
    let within = next_within i s.0.0 s.0.1 in
    let cells = part_digit c.loop-k.part c.join_slices.new.part _ _ _ _ (7 * c.in-Some.k) (7 * c.in-Some.k + 7) (enumerate_count c.loop-k.k-iterator) c.from.ensures c.from-in-loop-k.ensures (next_side i s.0.0 s.0.1) (next_digit i s.0.0 s.0.1) (omega arith) (omega (arith, within, i.writes.long, s.1, c.requires)) (omega (arith, s.1)) c.join_slices.ensures in
    let next = drawing_turn i s.0.0 s.0.1 cells in
    (((tt, tt), tt, inl (omega (arith, s.2, next.all, next.alike, c.iter.ensures.bound))), tt, rw s.2 next)

pub returns : goal.returns
returns c = elim c.in-None.ensures.steps.0 [ inl p ↦ drawing_end c.loop-k.invariant.2 (inl p.1.0) | inr p ↦ drawing_end c.loop-k.invariant.2 (inr p.1.0) ]
