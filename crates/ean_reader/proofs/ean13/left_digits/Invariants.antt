use Rattle.helpers.proofs.Writes.{Storing}
use Rattle.ean.specs.Terms.{sets_left, digits_left}
use Rattle.ean.proofs.Lists.{Finding}
use Rattle.ean_reader.proofs.ean13.left_digits.Given as goal

abbrev pub invariant-loop-k : goal.invariant-loop-k
invariant-loop-k l = Storing l.initial.sides 0 (sets_left l.row) l.sides l.k × Finding l.initial.digits (digits_left l.row) l.digits l.k
