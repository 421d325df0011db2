-- `ean_reader::ean13::right_digits` meets its contract: a loop that stores six digits.
-- Assumes nothing.
use mathlib.Core.Path.{sym, ◌∙◌}
use native.Mathlib.Omega.{arith}
use Rattle.ean.proofs.Tables.{digit_found_in}
use Rattle.ean.proofs.Lists.{digits_missing, finding_turn, finding_end, digits_right_length, right_digit_at}
use Rattle.ean_reader.proofs.ean13.right_digits.Goals as goal

pub returns-in_err-digits : goal.returns-in_err-digits
returns-in_err-digits c =
    let row = c.args.row.now in
    rw c.from_residual.ensures (digits_missing _ c.loop-k.k (omega (arith, digits_right_length row)) (right_digit_at row (omega arith) c.loop-k.k (omega arith) c.as_chunks.ensures.front ∙ sym (digit_found_in 2 (omega arith) _) ∙ c.in_err-digits.ensures))

pub loop-k-preserved : goal.loop-k-preserved
loop-k-preserved c =
    let row = c.args.row.now in
    let d = c.in_ok-digits.ensures in
    finding_turn c.loop-k.invariant (omega (arith, digits_right_length row)) (d.0 ∙ digit_found_in 2 (omega arith) _ ∙ sym (right_digit_at row (omega arith) c.loop-k.k (omega arith) c.as_chunks.ensures.front)) d.1

pub returns : goal.returns
returns c = let row = c.args.row.now in finding_end c.loop-k.invariant (omega (arith, digits_right_length row)) (sym (digits_right_length row))
