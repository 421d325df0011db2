-- What proofs by computation name on their `unfolding` lines: the first opens every definition of
-- Answers, the second those of Order too.
-- Assumes nothing.
use Rattle.helpers.specs.Answers.{same, ◌then◌, ask, every, whole, into, number, second, after}
use Rattle.helpers.specs.Order.{in_order, room_for, earned, answered_and_earned, due}

unfoldable pub answers_computes : Unit {0}
unfolding same ◌then◌ ask every whole into number second after
answers_computes = tt

unfoldable pub tests_computes : Unit {0}
unfolding in_order room_for earned answered_and_earned due answers_computes
tests_computes = tt
