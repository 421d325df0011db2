-- `record::put_bytes` meets its contract: a byte a turn, and a last one where cells are left.
-- Assumes nothing.
use mathlib.Core.Path.{sym, ◌∙◌}
use native.Mathlib.Omega.{arith}
use lib.ListN.{length}
use borrow.Author.Tests.{eqb-true, eqb-false}
use Rattle.record.proofs.Packs.{packing_turn, packing_last, packing_end}
use Rattle.record.proofs.put_bytes.Goals as goal

pub loop-k-preserved : goal.loop-k-preserved
loop-k-preserved c =
    let s = c.in-Some.ensures.steps in
    let i = c.loop-k.invariant in
    let part = packing_turn i.3 _ _ _ s.0.1.0 (omega (arith, s.0.1.1, i.2)) c.byte.ensures in
    (c.in-Some.ensures.goes.keeps, tt, omega (arith, s.0.0, i.2), rw (s.1, s.2) part)

pub returns-then-not-is_empty : goal.returns-then-not-is_empty
returns-then-not-is_empty c =
    let i = c.loop-k.invariant in
    let some = eqb-false (length c.remainder-left.result.now) 0 (sym c.if-not-is_empty.ensures) in
    packing_last i.3 _ (omega (arith, c.in-None.ensures.steps.0.1.0, i.2)) (c.remainder-left.ensures ∙ c.chunks_exact-eights.ensures.remainder) _ (omega (arith, some)) c.byte-then-not-is_empty.ensures

pub returns-else-not-is_empty : goal.returns-else-not-is_empty
returns-else-not-is_empty c =
    let i = c.loop-k.invariant in
    packing_end i.3 _ (omega (arith, c.in-None.ensures.steps.0.1.0, i.2)) (c.remainder-left.ensures ∙ c.chunks_exact-eights.ensures.remainder) (eqb-true _ _ (sym c.if-not-is_empty.ensures))
