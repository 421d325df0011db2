-- `ean_reader::ean13::same_cells` meets its contract: the first four cells, and then the others.
-- Assumes nothing.
use native.Mathlib.Omega.{arith}
use mathlib.Core.Path.{◌∙◌}
use Rattle.ean_reader.proofs.Finds.{fours_same}
use Rattle.ean_reader.proofs.ean13.same_cells.Goals as goal

pub returns-then-quad : goal.returns-then-quad
returns-then-quad c = c.eq.ensures ∙ fours_same c.args.list.now c.args.cells.now c.requires.0 c.requires.1 (λ i. omega (arith, c.type_inv.list i)) (λ i. omega (arith, c.type_inv.cells i)) c.quad.ensures c.quad-2.ensures c.if-quad.true
