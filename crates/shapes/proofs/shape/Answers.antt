-- `shapes::shape` meets its contract: each way out is one law of the tests.
-- Assumes nothing.
use Prim.Native.Nat.{◌-◌, ◌/◌}
use mathlib.Core.Path.{sym, ◌∙◌}
use lib.ListN.{length}
use native.Mathlib.Omega.{arith}
use Rattle.helpers.specs.Numbers.{refusal_number}
use Rattle.helpers.specs.Terms.{answers}
use Rattle.shapes.proofs.Vets.{shaped_size, shaped_cell, shaped_done}
use Rattle.shapes.proofs.shape.Goals as goal

pub returns-then-len-n : goal.returns-then-len-n
unfolding answers refusal_number
returns-then-len-n c = sym (shaped_size c.args.row.now (λ n low high e. omega arith))

pub returns-in-Some : goal.returns-in-Some
unfolding answers refusal_number
returns-in-Some c =
    let r = c.args.row.now in
    sym (shaped_cell r ((length r - 24) / 11) (omega arith) (omega arith) (omega arith) c.in-Some.at (sym c.first_above.ensures ∙ c.in-Some.is))

pub returns-in_default-first_above : goal.returns-in_default-first_above
unfolding answers
returns-in_default-first_above c =
    let r = c.args.row.now in
    sym (shaped_done r ((length r - 24) / 11) (omega arith) (omega arith) (omega arith) (sym c.first_above.ensures ∙ c.in_default-first_above.is))

pub returns-in_default : goal.returns-in_default
unfolding answers refusal_number
returns-in_default c = sym (shaped_size c.args.row.now (λ n low high e. omega arith))

pub returns-in_default-2 : goal.returns-in_default-2
unfolding answers refusal_number
returns-in_default-2 c = sym (shaped_size c.args.row.now (λ n low high e. omega arith))
