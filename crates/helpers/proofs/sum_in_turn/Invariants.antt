use Rattle.helpers.proofs.Sums.{Summing}
use Rattle.helpers.proofs.sum_in_turn.Given as goal

abbrev pub invariant-loop-digit : goal.invariant-loop-digit
invariant-loop-digit l = Summing l.part l.first l.sum l.weight l.digit-index
