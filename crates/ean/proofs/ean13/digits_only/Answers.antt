-- `ean13::digits_only` meets its contract: a search for a byte that is no digit.
-- Assumes nothing.
use mathlib.Core.Path.{sym, ◌∙◌}
use Rattle.helpers.specs.Numbers.{refusal_number}
use Rattle.helpers.specs.Terms.{answers}
use Rattle.ean.proofs.Values.{digits_refused, digits_done}
use Rattle.ean.proofs.ean13.digits_only.Goals as goal

pub returns-in-Some : goal.returns-in-Some
unfolding answers refusal_number
returns-in-Some c = digits_refused _ (sym c.first_other.ensures ∙ c.in-Some.is) _

pub returns-in-None : goal.returns-in-None
unfolding answers
returns-in-None c = digits_done _ (sym c.first_other.ensures ∙ c.in-None.is)
