use Rattle.record.proofs.Weighs.{Weighing}
use Rattle.record.proofs.byte.Given as goal

abbrev pub invariant-loop-cell : goal.invariant-loop-cell
invariant-loop-cell l = Weighing l.cells l.sum l.weight l.cell-index
