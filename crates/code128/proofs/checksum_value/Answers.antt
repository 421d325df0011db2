-- `code128::checksum_value` meets its contract: a loop that sums number times weight.
-- Assumes nothing.
use mathlib.Core.Logic.{inl, inr}
use mathlib.Core.Path.{◌≡◌, sym, ◌∙◌}
use native.Mathlib.Omega.{arith}
use lib.ListN.{length, take, length-take}
use Rattle.std.proofs.Math.Nat.{min_comm}
use Rattle.std.proofs.lemmas.List.{take_min}
use Rattle.paper.specs.Jobs.{most}
use Rattle.code128.proofs.Sums.{check_of_none, summing_begin, summing_turn, summing_end, small, weight_small}
use Rattle.code128.proofs.checksum_value.Goals as goal

pub returns-in_default : goal.returns-in_default
unfolding most
returns-in_default c = sym (check_of_none _ (omega (arith, c.in_default.ensures.cases, length-take 4000 c.args.symbols.now, length-take c.min-n.result c.args.symbols.now)))

pub loop-weight-init : goal.loop-weight-init
loop-weight-init c =
    let s = c.args.symbols.now in
    let front : take c.min-n.result s ≡ take 4000 s = rw (c.min-n.ensures, min_comm (length s) 4000) (take_min 4000 s) in
    let pairs = c.zip-weight-items.ensures in
    rw (c.into_iter-weight-iterator.ensures.into_iter_gives, pairs.first, pairs.second.0, c.from-sum.ensures)
    (summing_begin (sym front ∙ c.in-Some.ensures.cases.0) (omega (arith, length-take 4000 s)) (omega arith))

pub overflow_mul-sum : goal.overflow_mul-sum
overflow_mul-sum c =
    let (step, rest) = c.in-Some-2.ensures.steps in
    omega (arith, small c.in-Some-2.weight c.from.result (omega (arith, step.0, weight_small c.loop-weight.invariant rest)) (omega arith))

pub overflow_add-sum : goal.overflow_add-sum
overflow_add-sum c =
    let (step, rest) = c.in-Some-2.ensures.steps in
    let inv = c.loop-weight.invariant in
    omega (arith, inv.fits, step.0, weight_small inv rest, small c.in-Some-2.weight c.from.result (omega (arith, step.0, weight_small inv rest)) (omega arith))

pub loop-weight-preserved : goal.loop-weight-preserved
loop-weight-preserved c =
    let (step, rest) = c.in-Some-2.ensures.steps in
    rw (step.1, step.0, c.from.ensures) (summing_turn c.loop-weight.invariant rest (omega arith))

pub returns : goal.returns
unfolding most
returns c = elim c.in-None.ensures.steps [ inl x ↦ absurd (omega (arith, x.1.0, c.loop-weight.invariant.within)) | inr x ↦ summing_end c.loop-weight.invariant x.1.0 ]
