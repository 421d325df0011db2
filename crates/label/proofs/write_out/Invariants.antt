-- `label::write_out` meets its contract and ends: each turn leaves fewer bytes.
use Rattle.std.proofs.Common.{ℕ, ◌≡◌, drop, length}
use Rattle.label.proofs.write_out.Given as goal

abbrev pub invariant-loop-rest : goal.invariant-loop-rest
invariant-loop-rest g l = (k : ℕ) × (l.rest ≡ drop k l.bytes)

abbrev pub decreases-loop-rest : goal.decreases-loop-rest
decreases-loop-rest g l = length l.rest
