-- `ean::ean13::parse` meets its contract: the length, and else what `digits_only` answers.
-- Assumes nothing.
use mathlib.Core.Path.{◌∙◌}
use native.Mathlib.Omega.{arith}
use Rattle.helpers.specs.Numbers.{refusal_number}
use Rattle.helpers.specs.Terms.{answers}
use Rattle.ean.proofs.Values.{parsed_size, parsed_on}
use Rattle.ean.proofs.ean13.parse.Goals as goal

pub returns-in-12 : goal.returns-in-12
returns-in-12 c = c.digits_only.ensures ∙ parsed_on _ (omega arith) (omega arith)

-- Of any other length nothing is asked but the length itself:
-- 30 is the first test, and is answered whatever the bytes are.
pub returns-in_default : goal.returns-in_default
unfolding answers refusal_number
returns-in_default c = parsed_size _ (λ low high. omega arith)

pub returns-in_default-2 : goal.returns-in_default-2
unfolding answers refusal_number
returns-in_default-2 c = parsed_size _ (λ low high. omega arith)
