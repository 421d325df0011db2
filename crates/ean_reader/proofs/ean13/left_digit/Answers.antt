-- `ean_reader::ean13::left_digit` meets its contract: set A, then set B.
-- Assumes nothing.
use mathlib.Core.Path.{◌∙◌, sym}
use native.Mathlib.Omega.{arith}
use Rattle.ean.proofs.Tables.{digit_found_in}
use Rattle.ean.proofs.Lists.{left_first, left_second, left_none}
use Rattle.ean_reader.proofs.ean13.left_digit.Goals as goal

pub returns-in-Some : goal.returns-in-Some
returns-in-Some c =
    let cells = c.args.cells.now in
    let a = c.in-Some.ensures in
    left_first cells (a.0 ∙ digit_found_in 0 (omega arith) cells) a.1

pub returns-in_err-find-in-None : goal.returns-in_err-find-in-None
returns-in_err-find-in-None c =
    let cells = c.args.cells.now in
    rw c.from_residual.ensures (left_none cells (sym (digit_found_in 0 (omega arith) cells) ∙ c.in-None.ensures) (sym (digit_found_in 1 (omega arith) cells) ∙ c.in_err-find-in-None.ensures))

pub returns-in_ok-find-in-None : goal.returns-in_ok-find-in-None
returns-in_ok-find-in-None c =
    let cells = c.args.cells.now in
    let b = c.in_ok-find-in-None.ensures in
    left_second cells (sym (digit_found_in 0 (omega arith) cells) ∙ c.in-None.ensures) (b.0 ∙ digit_found_in 1 (omega arith) cells) b.1
