use mathlib.Core.Path.{◌≡◌}
use Rattle.std.specs.Slice.Iter.{chunks_rest, chunks_size}
use Rattle.helpers.proofs.Sums.{Parting}
use Rattle.helpers.proofs.modulo_10_checksum.Given as goal

abbrev pub invariant-loop-part : goal.invariant-loop-part
invariant-loop-part l =
    (goal.iterator-loop-part).can_next l.part-iterator ×
    (goal.iterator-loop-part).is_finite l.part-iterator ×
    (chunks_size l.part-iterator ≡ 1000) × Parting l.data l.weight l.sum (chunks_rest l.part-iterator)
