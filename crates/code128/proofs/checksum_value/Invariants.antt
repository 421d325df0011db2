use lib.ListN.{take}
use Rattle.std.specs.Slice.Iter.{iter_rest}
use Rattle.code128.proofs.Sums.{Summing}
use Rattle.code128.proofs.checksum_value.Given as goal

abbrev pub invariant-loop-weight : goal.invariant-loop-weight
invariant-loop-weight l = Summing (take 4000 l.symbols) l.sum l.weight-iterator.a.start (iter_rest l.weight-iterator.b)
