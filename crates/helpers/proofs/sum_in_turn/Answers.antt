-- `helpers::sum_in_turn` meets its contract: a loop that sums digits by weight.
-- Assumes nothing.
use native.Mathlib.Omega.{arith}
use Rattle.helpers.proofs.Sums.{summing_turn, summing_end}
use Rattle.helpers.proofs.sum_in_turn.Goals as goal

pub loop-digit-preserved : goal.loop-digit-preserved
loop-digit-preserved c = rw c.from.ensures (summing_turn c.loop-digit.invariant (omega arith) (omega (arith, c.type_inv.part c.loop-digit.digit-index)))

pub returns : goal.returns
returns c = (summing_end c.loop-digit.invariant (omega arith), (let p = c.loop-digit.invariant in omega (arith, p.small, p.within)))
