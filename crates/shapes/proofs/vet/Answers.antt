-- `shapes::vet` meets its contract: the size, and else what test 13 answers.
-- Assumes nothing.
use mathlib.Core.Path.{sym}
use native.Mathlib.Omega.{arith}
use Rattle.helpers.specs.Numbers.{refusal_number}
use Rattle.helpers.specs.Terms.{answers}
use Rattle.paper.specs.Jobs.{most}
use Rattle.shapes.proofs.Vets.{vetted_size}
use Rattle.shapes.proofs.vet.Goals as goal

pub vet_places-requires : goal.vet_places-requires
unfolding most
vet_places-requires c = (omega arith, omega arith)

pub returns-in_default : goal.returns-in_default
unfolding answers refusal_number
returns-in_default c = let s = c.args.symbols.now in sym (vetted_size s (λ low high. omega arith))

pub returns-in_default-2 : goal.returns-in_default-2
unfolding answers refusal_number
returns-in_default-2 c = let s = c.args.symbols.now in sym (vetted_size s (λ low high. omega arith))
