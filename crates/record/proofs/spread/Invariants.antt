use Rattle.record.proofs.Spreads.{Spreading}
use Rattle.record.proofs.spread.Given as goal

abbrev pub invariant-loop-cell : goal.invariant-loop-cell
invariant-loop-cell l = Spreading l.initial.part l.byte l.part l.rest l.cell-index
