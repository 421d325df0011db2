-- `line::text::put_numbers` meets its contract: the first number, a blank, the second.
-- Assumes nothing.
use Rattle.helpers.proofs.Gives.{stored_one, stored_then}
use Rattle.line.proofs.text.put_numbers.Goals as goal

pub returns : goal.returns
returns c = stored_then c.decimal-at.ensures (stored_then stored_one c.decimal.ensures)
