-- `ean_reader::ean13::left_digits` meets its contract: a loop that stores six sets and six digits.
-- Assumes nothing.
use mathlib.Core.Path.{sym, ◌∙◌}
use native.Mathlib.Omega.{arith}
use Rattle.helpers.proofs.Writes.{storing_turn, storing_end}
use Rattle.ean.proofs.Lists.{digits_missing, finding_turn, finding_end, sets_whole, sets_left_length, digits_left_length, left_set_at, left_digit_at}
use Rattle.ean_reader.proofs.ean13.left_digits.Goals as goal

pub returns-in_err-left : goal.returns-in_err-left
returns-in_err-left c =
    let row = c.args.row.now in
    rw c.from_residual.ensures (digits_missing _ c.loop-k.k (omega (arith, digits_left_length row)) (left_digit_at row (omega arith) c.loop-k.k (omega arith) c.as_chunks.ensures.front ∙ c.in_err-left.ensures))

pub loop-k-preserved : goal.loop-k-preserved
loop-k-preserved c =
    let row = c.args.row.now in
    let k = c.loop-k.k in
    let left = c.in_ok-left.ensures in (
      storing_turn c.loop-k.invariant.0 _ _ (omega arith) (omega (arith, sets_left_length row)) (left.of_side ∙ sym (left_set_at row (omega arith) k (omega arith) c.as_chunks.ensures.front)),
      finding_turn c.loop-k.invariant.1 (omega (arith, digits_left_length row)) (left.of_digit ∙ sym (left_digit_at row (omega arith) k (omega arith) c.as_chunks.ensures.front)) left.found,
    )

pub returns : goal.returns
returns c =
    let row = c.args.row.now in
    let found = finding_end c.loop-k.invariant.1 (omega (arith, digits_left_length row)) (sym (digits_left_length row)) in
    (storing_end c.loop-k.invariant.0 (omega (arith, sets_left_length row)) ∙ sets_whole _ _ (sym (sets_left_length row)), found.0, found.1)
