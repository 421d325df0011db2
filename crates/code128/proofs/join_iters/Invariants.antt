use Rattle.code128.proofs.Joins.{Joining}
use Rattle.code128.proofs.join_iters.Given as goal

abbrev pub invariant-loop-i : goal.invariant-loop-i
invariant-loop-i l = Joining l.symbols l.initial.out l.out l.i
