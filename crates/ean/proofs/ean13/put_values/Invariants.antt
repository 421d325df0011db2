use Rattle.helpers.proofs.Writes.{Storing}
use Rattle.ean.specs.Ean13.{values_of}
use lib.ListN.{take}
use Rattle.ean.proofs.ean13.put_values.Given as goal

abbrev pub invariant-loop-i : goal.invariant-loop-i
invariant-loop-i l = Storing l.initial.digits 0 (take 12 (values_of l.text)) l.digits l.i
