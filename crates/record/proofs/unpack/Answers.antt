-- `record::unpack` meets its contract: the tests of a record, the room, the cells.
-- Assumes nothing.
use mathlib.Core.Path.{refl, sym, ◌∙◌}
use native.Mathlib.Omega.{arith}
use lib.ListN.{length-take}
use Rattle.helpers.specs.Numbers.{refusal_number}
use Rattle.helpers.specs.Terms.{answers}
use Rattle.helpers.specs.declared.Refusal.TheVariants.{Room}
use Rattle.helpers.proofs.Answering.{into_room, into_short}
use Rattle.helpers.proofs.Gives.{refused, refused_through, stored}
use Rattle.record.proofs.Answering.{tested_passed, filled, unpack_refused}
use Rattle.record.proofs.unpack.Goals as goal

pub returns-in_err-cells : goal.returns-in_err-cells
unfolding answers
returns-in_err-cells c =
    refused_through _ c.from_residual.result c.from_residual.ensures.1 (unpack_refused _ _ _ _ (sym c.in_err-cells.ensures))

pub returns-then-out-cells : goal.returns-then-out-cells
unfolding answers refusal_number
returns-then-out-cells c =
    let known = tested_passed _ _ _ (sym c.in_ok-cells.ensures) refl in
    refused (Room _) (known.answer _ ∙ into_short _ _ _ _ (omega arith) (sym known.long))

pub overflow_sub-start : goal.overflow_sub-start
unfolding answers
overflow_sub-start c = (tested_passed _ _ _ (sym c.in_ok-cells.ensures) (omega arith)).headed

pub put_cells-requires : goal.put_cells-requires
unfolding answers
put_cells-requires c =
    let known = tested_passed _ _ c.div_ceil.result (sym c.in_ok-cells.ensures) (omega arith) in
    omega (arith, known.enough, length-take c.in_ok-cells.cells c.args.out.now)

pub returns : goal.returns
unfolding answers
returns c =
    let known = tested_passed _ _ c.div_ceil.result (sym c.in_ok-cells.ensures) (omega arith) in
    stored _ _ (known.answer _ ∙ into_room _ _ _ (omega arith)) (omega arith) (filled _ _ _ _ known.long (omega arith) c.put_cells.ensures)
