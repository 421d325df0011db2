-- `line::form::Number::read_byte` meets its contract: what fewer than six digits make, and one more, fits.
-- Assumes nothing.
use native.Mathlib.Omega.{arith}
use Rattle.line.proofs.Forms.{room}
use Rattle.line.proofs.form.Number.read_byte.Goals as goal

pub overflow_mul-result : goal.overflow_mul-result
overflow_mul-result c = omega (arith, room c.args.self.digits c.args.self.value c.requires (omega arith))

pub overflow_add-result-in-Hex : goal.overflow_add-result-in-Hex
overflow_add-result-in-Hex c = omega (arith, room c.args.self.digits c.args.self.value c.requires (omega arith))
