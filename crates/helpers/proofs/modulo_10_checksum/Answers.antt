-- `helpers::modulo_10_checksum` meets its contract: a loop over parts of 1,000 digits.
-- Assumes nothing.
use Prim.Native.Nat.{ℕ, ◌-◌, ◌%◌}
use mathlib.Core.Path.{ap, ◌∙◌}
use native.Mathlib.Omega.{arith}
use Rattle.helpers.specs.Modulo10.{in_turn, modulo10}
use Rattle.helpers.proofs.Sums.{parting_turn, parting_end, turn_of, turn_small}
use Rattle.helpers.proofs.modulo_10_checksum.Goals as goal

pub sum_in_turn-requires : goal.sum_in_turn-requires
sum_in_turn-requires c = (omega (arith, c.in-Some.ensures.steps.1.1, c.loop-part.invariant.2), rw c.first_weight-weight.ensures (turn_of _))

pub loop-part-preserved : goal.loop-part-preserved
loop-part-preserved c =
    let s = c.in-Some.ensures.steps in
    let i = c.loop-part.invariant in
    let part = parting_turn i.3 _ _ _ (rw c.first_weight-weight.ensures (turn_small (turn_of _))) s.1.0 (omega (arith, s.1.1, i.2)) c.sum_in_turn.ensures.0 in
    (omega (arith, s.0, i.0), tt, omega (arith, s.0, i.2), part)

pub returns : goal.returns
unfolding modulo10
returns c = ap (λ (x : ℕ). (10 - x) % 10) (parting_end c.loop-part.invariant.3 (omega (arith, c.in-None.ensures.steps.1.0)) ∙ ap (λ (w : ℕ). in_turn w c.args.data.now % 10) c.first_weight-weight.ensures)
