use Rattle.helpers.proofs.Writes.{Storing}
use Rattle.reader.proofs.read_by.Given as goal

abbrev pub invariant-loop-i : goal.invariant-loop-i
invariant-loop-i l = Storing l.initial.out 0 l.symbols l.out l.i
