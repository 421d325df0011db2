use Rattle.tokens.specs.Tokens.{state_of}
use Rattle.tokens.proofs.Parsing.{Parsing}
use Rattle.tokens.proofs.parse.parse.Given as goal

abbrev pub invariant-loop-i : goal.invariant-loop-i
invariant-loop-i l = Parsing l.text l.initial.list l.list (state_of l.state) l.n l.retired l.i
