use Rattle.reader.proofs.Finds.{Matching, Hunting}
use Rattle.reader.proofs.find.Given as goal

abbrev pub invariant-patterns : goal.invariant-patterns
invariant-patterns l = Hunting l.cells l.s

abbrev pub invariant-loop-j : goal.invariant-loop-j
invariant-loop-j l = Matching l.pattern l.block l.j
