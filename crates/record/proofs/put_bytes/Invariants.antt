use mathlib.Core.Path.{◌≡◌}
use Rattle.std.specs.Slice.Iter.{chunks_exact_rest, chunks_exact_size}
use Rattle.record.proofs.Packs.{Packing}
use Rattle.record.proofs.put_bytes.Given as goal

abbrev pub invariant-loop-k : goal.invariant-loop-k
invariant-loop-k l =
    (goal.iterator-loop-k).can_next l.k-iterator ×
    (goal.iterator-loop-k).is_finite l.k-iterator ×
    (chunks_exact_size l.k-iterator.iter ≡ 8) × Packing l.row l.initial.out l.out (chunks_exact_rest l.k-iterator.iter) l.k-iterator.count
