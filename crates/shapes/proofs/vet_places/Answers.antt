-- `shapes::vet_places` meets its contract: each way out is one law of the tests.
-- Assumes nothing.
use Prim.Native.Nat.{◌-◌}
use mathlib.Core.Path.{◌≡◌, sym, ◌∙◌}
use lib.ListN.{length, take, drop}
use Rattle.std.specs.Prelude.{nat_lt, position}
use native.Mathlib.Omega.{arith}
use Rattle.helpers.specs.Numbers.{refusal_number}
use Rattle.helpers.specs.Terms.{answers}
use Rattle.paper.specs.Jobs.{most}
use Rattle.shapes.proofs.Vets.{vetted_start, vetted_data, vetted_done}
use Rattle.shapes.proofs.vet_places.Goals as goal

pub returns-in-Some : goal.returns-in-Some
unfolding answers refusal_number most
returns-in-Some c =
    let s = c.args.symbols.now in
    let e : c.first_above.result ≡ position (λ x. nat_lt 102 x) (take (length s - 1) (drop 1 s)) = c.first_above.ensures in
    sym (vetted_data s (omega arith) (omega arith) (omega arith) (omega arith) c.in-Some.k (sym e ∙ c.in-Some.is))

pub returns-in_default-first_above : goal.returns-in_default-first_above
unfolding answers most
returns-in_default-first_above c =
    let s = c.args.symbols.now in
    let e : c.first_above.result ≡ position (λ x. nat_lt 102 x) (take (length s - 1) (drop 1 s)) = c.first_above.ensures in
    sym (vetted_done s (omega arith) (omega arith) (omega arith) (omega arith) (sym e ∙ c.in_default-first_above.is))

pub returns-in_default : goal.returns-in_default
unfolding answers refusal_number most
returns-in_default c = sym (vetted_start c.args.symbols.now (omega arith) (omega arith) (λ low high. omega arith))

pub returns-in_default-2 : goal.returns-in_default-2
unfolding answers refusal_number most
returns-in_default-2 c = sym (vetted_start c.args.symbols.now (omega arith) (omega arith) (λ low high. omega arith))
