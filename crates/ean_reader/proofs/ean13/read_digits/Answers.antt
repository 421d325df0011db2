-- `ean_reader::ean13::read_digits` meets its contract: the left six, the right six, and the first.
-- Assumes nothing.
use mathlib.Core.Path.{refl, sym, ap, ◌∙◌}
use mathlib.Core.List.{[], ◌∷◌}
use Rattle.ean.specs.Ean13.{parity_row, first_of}
use Rattle.ean.proofs.Tables.{first_found}
use Rattle.ean.proofs.Lists.{left_missing, right_missing, first_missing, read_all}
use Rattle.ean_reader.proofs.ean13.read_digits.Goals as goal

pub returns-in_err-sides : goal.returns-in_err-sides
returns-in_err-sides c = rw c.from_residual.ensures (left_missing c.args.row.now c.in_err-sides.ensures)

pub returns-in_err-right : goal.returns-in_err-right
returns-in_err-right c = rw c.from_residual-in_err-right.ensures (right_missing c.args.row.now c.in_err-right.ensures)

pub returns-in_err-digits : goal.returns-in_err-digits
returns-in_err-digits c =
    let sides = c.in_ok-sides.ensures.0 in
    rw c.from_residual-in_err-digits.ensures (first_missing c.args.row.now (ap (first_of parity_row 10 0) (sym sides) ∙ sym (first_found _) ∙ c.in_err-digits.ensures))

pub returns : goal.returns
returns c =
    let left = c.in_ok-sides.ensures in
    let right = c.in_ok-right.ensures in
    let first = c.in_ok-digits.ensures in
    read_all c.args.row.now left.0 (first.0 ∙ first_found _) first.1 (c.copy_from_slice.ensures.after ∙ left.1, left.2) (c.copy_from_slice-2.ensures.after ∙ right.0, right.1) (0 ∷ 0 ∷ 0 ∷ 0 ∷ 0 ∷ 0 ∷ []) refl
