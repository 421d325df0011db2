use Rattle.reader.proofs.Walks.{Walking}
use Rattle.reader.proofs.blocks.Given as goal

abbrev pub invariant-loop-b : goal.invariant-loop-b
invariant-loop-b l = Walking l.row l.initial.list l.list l.b
