-- `ean_reader::ean13::read` meets its contract: the digits of the row, and the room.
-- Assumes nothing.
use Prim.Native.Nat.{ℕ, ◌+◌}
use mathlib.Core.Path.{ap, ◌∙◌}
use mathlib.Core.List.{List, map}
use native.Mathlib.Omega.{arith}
use lib.ListN.{length-map}
use lib.Seq.{sets}
use Rattle.helpers.specs.Numbers.{refusal_number}
use Rattle.helpers.specs.declared.Refusal.TheVariants.{Room}
use Rattle.helpers.proofs.Gives.{refused, refused_through, stored}
use Rattle.ean.specs.Ean13.{digits_read}
use Rattle.ean.proofs.Lists.{read_length}
use Rattle.ean.proofs.Reading.{checked_digits, read_refused, read_short, read_done}
use Rattle.ean_reader.proofs.Finds.{given_none, given_some}
use Rattle.ean_reader.proofs.ean13.read.Goals as goal

pub returns-in_err-digits : goal.returns-in_err-digits
unfolding refusal_number
returns-in_err-digits c =
    let none = given_none _ c.in_err-digits.ensures.value in
    refused_through _ c.from_residual.result c.from_residual.ensures.1 (rw none.1 (read_refused _ _ (rw none.0 at c.digits_of.ensures)))

-- 5 is the last test: it is asked of a row alone, so the guards, the
-- digits and their check are known here,
-- and the room is what is left.
pub returns-then-text-lt13 : goal.returns-then-text-lt13
unfolding refusal_number
returns-then-text-lt13 c = refused (Room 13) (read_short _ _ (rw (given_some _ _ c.in_ok-digits.ensures.value) at c.digits_of.ensures).1 (omega arith))

pub put_text-requires : goal.put_text-requires
put_text-requires c =
    let e = rw (given_some _ _ c.in_ok-digits.ensures.value) at c.digits_of.ensures in
    (rw e.0 (checked_digits _ e.1), omega arith)

pub returns : goal.returns
returns c =
    let row = c.args.row.now in
    let e = rw (given_some _ _ c.in_ok-digits.ensures.value) at c.digits_of.ensures in
    stored 13 _ (read_done row _ e.1 (omega arith)) (omega (arith, length-map (digits_read row) (λ d. d + 48), read_length row))
    (c.put_text.ensures ∙ ap (λ (ds : List ℕ). sets c.args.text.now 0 (map (λ d. d + 48) ds)) e.0)
