use Rattle.ean.specs.Terms.{digits_right}
use Rattle.ean.proofs.Lists.{Finding}
use Rattle.ean_reader.proofs.ean13.right_digits.Given as goal

abbrev pub invariant-loop-k : goal.invariant-loop-k
invariant-loop-k l = Finding l.initial.digits (digits_right l.row) l.digits l.k
