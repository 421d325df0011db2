-- `replay::show_symbols` is safe and ends: no row has more symbols than the list has room for.
-- Assumes nothing.
use Rattle.std.proofs.Common.{replicate, arith, length-take}
use Rattle.replay.proofs.Counted.{counted}
use Rattle.replay.proofs.show_symbols.Goals as goal

pub slice_bounds-list-end : goal.slice_bounds-list-end
slice_bounds-list-end g c = omega (arith, counted _ (replicate 4000 0) c.in-Ok.is c.read.ensures)

pub slice_bounds-symbols-end : goal.slice_bounds-symbols-end
slice_bounds-symbols-end g c = simp length-take (omega (arith, counted _ (replicate 4000 0) c.in-Ok.is c.read.ensures))
