use Rattle.tokens.specs.Sets.{set_of}
use Rattle.speller.proofs.Walks.{Counting}
use Rattle.speller.proofs.needed.Given as goal

abbrev pub invariant-loop-m : goal.invariant-loop-m
invariant-loop-m g l = Counting g.T.Element.says l.symbols (set_of l.set) l.n l.m-index
