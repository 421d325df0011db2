-- `ean_reader::ean13::find` meets its contract: the place, as a digit.
-- Assumes nothing.
use native.Mathlib.Omega.{arith}
use Rattle.ean_reader.proofs.Finds.{placed}
use Rattle.ean_reader.proofs.ean13.find.Goals as goal

pub returns-in_err-d : goal.returns-in_err-d
returns-in_err-d g c = rw c.from_residual.ensures (placed c.args.table.now c.args.cells.now (omega arith) c.in_err-d.ensures)

pub returns : goal.returns
returns g c = placed c.args.table.now c.args.cells.now (omega arith) c.in_ok-d.ensures
