-- `ean_reader::ean13::digits_of` meets its contract: the length and the guards, the digits, and their
-- check.
-- Assumes nothing.
use mathlib.Core.Path.{refl, sym, ◌∙◌}
use Rattle.helpers.proofs.Answering.{and_false}
use Rattle.ean.specs.Terms.{checked}
use Rattle.ean.proofs.Reading.{framed_other, check_other, check_same}
use Rattle.ean_reader.proofs.ean13.digits_of.Goals as goal

pub returns-in_err-row : goal.returns-in_err-row
returns-in_err-row c = rw (c.from_residual.ensures, framed_other c.args.row.now c.in_err-row.ensures.cases) refl

pub returns-in_err-digits : goal.returns-in_err-digits
unfolding checked
returns-in_err-digits c = rw (c.from_residual-in_err-digits.ensures, rw c.in_ok-row.ensures.cases.same at c.in_err-digits.ensures) (and_false _)

pub returns-else-digits-check : goal.returns-else-digits-check
returns-else-digits-check c =
    let e = rw c.in_ok-row.ensures.cases.same at c.in_ok-digits.ensures in
    rw (← e.0) (rw (check_other _ (rw (← e.0) at e.1) c.modulo_10_checksum-check.ensures c.if-digits-check.false) (and_false _))

pub returns-then-digits-check : goal.returns-then-digits-check
returns-then-digits-check c =
    let e = rw c.in_ok-row.ensures.cases.same at c.in_ok-digits.ensures in
    let guards = rw c.in_ok-row.ensures.cases.same at c.has_guards.ensures in
    (e.0, rw (← e.0, sym guards ∙ c.if-not-has_guards.false) (check_same _ (rw (← e.0) at e.1) c.modulo_10_checksum-check.ensures c.if-digits-check.true))
