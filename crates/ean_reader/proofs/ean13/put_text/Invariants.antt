use Prim.Native.Nat.{◌+◌}
use mathlib.Core.List.{map}
use Rattle.helpers.proofs.Writes.{Storing}
use Rattle.ean_reader.proofs.ean13.put_text.Given as goal

abbrev pub invariant-loop-i : goal.invariant-loop-i
invariant-loop-i l = Storing l.initial.text 0 (map (λ d. d + 48) l.digits) l.text l.i
