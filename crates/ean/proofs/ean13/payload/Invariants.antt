use Rattle.std.specs.Iterator.Adapters.{enumerate_source, enumerate_count, zip_first, zip_second}
use Rattle.std.specs.Slice.Iter.{iter_rest}
use Rattle.ean.proofs.Draws.{Drawing}
use Rattle.ean.proofs.ean13.payload.Given as goal

abbrev pub invariant-loop-k : goal.invariant-loop-k
invariant-loop-k l =
    (goal.iterator-loop-k).can_next l.k-iterator ×
    (goal.iterator-loop-k).is_finite l.k-iterator ×
    Drawing l.sides l.digits l.initial.part l.part (enumerate_count l.k-iterator) (iter_rest (zip_first (enumerate_source l.k-iterator))) (iter_rest (zip_second (enumerate_source l.k-iterator)))
