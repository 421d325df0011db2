-- `ean13::list_digits` meets its contract: what `parse` refuses, the check, and after it the
-- digits.
-- Assumes nothing.
use mathlib.Core.Path.{refl, sym, ◌∙◌}
use Rattle.std.proofs.lemmas.Result.{err_from_is_err_and}
use Rattle.helpers.specs.Numbers.{refusal_number}
use Rattle.helpers.proofs.Gives.{said_done}
use Rattle.ean.specs.Terms.{listed}
use Rattle.ean.proofs.Values.{parsed_proper, right_check_lem, thirteen_stored, listed_refused, listed_wrong, listed_right}
use Rattle.ean.proofs.ean13.list_digits.Goals as goal

pub returns-in_err-parse : goal.returns-in_err-parse
returns-in_err-parse c = let p = err_from_is_err_and c.from_residual.result c.from_residual.ensures.1 in rw (p.1, p.2) (listed_refused _ c.in_err-parse.was c.parse.ensures)

pub put_values-requires : goal.put_values-requires
put_values-requires c = let p = parsed_proper _ _ (said_done c.in_ok-parse.was c.parse.ensures) in (p.least, p.digits)

pub verified-requires : goal.verified-requires
verified-requires c = (parsed_proper _ _ (said_done c.in_ok-parse.was c.parse.ensures)).digits

pub returns-then-not-verified : goal.returns-then-not-verified
unfolding listed refusal_number
returns-then-not-verified c =
    let done = said_done c.in_ok-parse.was c.parse.ensures in
    let check = right_check_lem c.args.text.now _ _ refl (parsed_proper _ _ done).least c.put_values.ensures _ c.modulo_10_checksum-check.ensures in
    listed_wrong _ _ _ done check (sym c.verified.ensures ∙ c.if-not-verified.true) _ c.from.ensures

pub returns : goal.returns
unfolding listed
returns c =
    let done = said_done c.in_ok-parse.was c.parse.ensures in
    let least = (parsed_proper _ _ done).least in
    let check = right_check_lem c.args.text.now _ _ refl least c.put_values.ensures _ c.modulo_10_checksum-check.ensures in
    listed_right _ _ _ done check (sym c.verified.ensures ∙ c.if-not-verified.false) (thirteen_stored c.args.text.now _ _ refl least c.put_values.ensures _ check)
