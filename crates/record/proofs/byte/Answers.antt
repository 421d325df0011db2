-- `record::byte` meets its contract: a loop that adds up what the cells weigh.
-- Assumes nothing.
use native.Mathlib.Omega.{arith}
use Rattle.record.proofs.Weighs.{weighing_begin, weighing_fits, weighing_turn, weighing_end}
use Rattle.record.proofs.byte.Goals as goal

pub loop-cell-init : goal.loop-cell-init
loop-cell-init c = weighing_begin c.requires

pub overflow_add-sum : goal.overflow_add-sum
overflow_add-sum c = omega (arith, weighing_fits c.loop-cell.invariant (omega arith))

pub loop-cell-preserved : goal.loop-cell-preserved
loop-cell-preserved c = weighing_turn c.loop-cell.invariant (omega arith)

pub returns : goal.returns
returns c = weighing_end c.loop-cell.invariant (omega arith)
