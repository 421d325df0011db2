use Rattle.reader.proofs.Words.{Wording}
use Rattle.reader.proofs.word.Given as goal

abbrev pub invariant-loop-cell : goal.invariant-loop-cell
invariant-loop-cell l = Wording l.cells l.w l.cell-index
