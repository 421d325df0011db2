use Prim.Native.Nat.{◌+◌}
use mathlib.Core.List.{map}
use lib.ListN.{length}
use Rattle.helpers.proofs.Writes.{Storing}
use Rattle.line.proofs.text.write_line.Given as goal

abbrev pub invariant-loop-j : goal.invariant-loop-j
invariant-loop-j l = Storing l.initial.out (length l.head) (map (λ c. 48 + c) l.cells) l.out l.j
