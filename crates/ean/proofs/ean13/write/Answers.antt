-- `ean13::write` meets its contract: the tests of a text, the room, and the row.
-- Assumes nothing.
use native.Mathlib.Omega.{arith}
use Rattle.helpers.specs.Numbers.{refusal_number}
use Rattle.helpers.specs.declared.Refusal.TheVariants.{Room}
use Rattle.helpers.proofs.Gives.{refused, refused_through, stored}
use Rattle.ean.specs.Ean13.{ean13_row}
use Rattle.ean.proofs.Values.{write_refused}
use Rattle.ean.proofs.Draws.{listed_digits, listed_length, write_short, write_done}
use Rattle.ean.proofs.ean13.write.Goals as goal

pub returns-in_err-digits : goal.returns-in_err-digits
returns-in_err-digits c = refused_through _ c.from_residual.result c.from_residual.ensures.1 (write_refused _ _ _ c.in_err-digits.ensures)

pub returns-then-row-lt-CELLS : goal.returns-then-row-lt-CELLS
unfolding refusal_number
returns-then-row-lt-CELLS c = refused (Room 95) (write_short _ c.in_ok-digits.was c.list_digits.ensures _ (omega arith))

pub draw-requires : goal.draw-requires
draw-requires c = ((listed_digits _ c.in_ok-digits.was c.list_digits.ensures).0, omega arith)

pub returns : goal.returns
returns c =
    let done = c.in_ok-digits.was in
    let listed = c.list_digits.ensures in
    stored 95 (ean13_row _) (write_done _ done listed _ (omega arith)) (omega (arith, listed_length _ done listed)) c.draw.ensures
