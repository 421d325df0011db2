use Rattle.record.proofs.Unpacks.{Unpacking}
use Rattle.record.proofs.put_cells.Given as goal

abbrev pub invariant-loop-k : goal.invariant-loop-k
invariant-loop-k l = Unpacking l.bytes l.initial.out l.out l.k
