use Rattle.tokens.specs.Sets.{set_of}
use Rattle.speller.proofs.Walks.{Filling}
use Rattle.speller.proofs.write.Given as goal

abbrev pub invariant-loop-m : goal.invariant-loop-m
invariant-loop-m g l = Filling g.T.Element.says l.symbols l.initial.out (set_of l.place.set) (set_of l.place.text) l.out l.at l.m-index
