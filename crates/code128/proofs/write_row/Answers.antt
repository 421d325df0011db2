-- `code128::write_row` meets its contract: too little room, or the four parts of the row stored one
-- after the other.
-- Assumes nothing.
use Prim.Native.Nat.{ℕ, ◌<◌}
use mathlib.Core.List.{List}
use mathlib.Core.Path.{◌≡◌, refl, ap, ◌∙◌}
use native.Mathlib.Omega.{arith}
use lib.ListN.{length, take}
use lib.Seq.{take_all}
use Rattle.paper.specs.Iso15417.{pattern, row, check}
use Rattle.paper.specs.Jobs.{most, SymbolList}
use Rattle.helpers.proofs.Answering.{into_room, into_short}
use Rattle.paper.proofs.Cells.{length_row, check_small}
use Rattle.helpers.specs.declared.Refusal.TheVariants.{Room}
use Rattle.helpers.specs.Numbers.{refusal_number}
use Rattle.helpers.proofs.Gives.{refused, stored}
use Rattle.paper.proofs.Table.{length_pattern}
use Rattle.code128.proofs.Joins.{part_whole, part_eleven}
use Rattle.code128.proofs.Rows.{payload_numbers, row_stored}
use Rattle.code128.proofs.write_row.Goals as goal

-- the check that stands in the row, which is a number of the table
right : (s : List ℕ) → SymbolList s → (r : ℕ) → r ≡ check (take most s) → r ≡ check s
unfolding most
right s proper r e = e ∙ ap check (take_all 4000 s (omega (arith, proper.size)))

small : (s : List ℕ) → (r : ℕ) → r ≡ check s → r < 106
small s r e = omega (arith, check_small s)

pub returns-then-out-end : goal.returns-then-out-end
unfolding refusal_number
returns-then-out-end c =
    let s = c.args.symbols.now in
    let long = length_row s c.requires in
    refused (Room _) (into_short _ _ (row s) _ (omega arith) (omega arith))

pub join_iters-requires : goal.join_iters-requires
join_iters-requires c = (payload_numbers _ c.requires, omega arith)

pub spread-requires : goal.spread-requires
spread-requires c =
    let s = c.args.symbols.now in
    (part_eleven c.join_iters.new.out _ (omega arith), small s _ (right s c.requires _ c.checksum_value.ensures))

pub returns : goal.returns
unfolding most
returns c =
    let s = c.args.symbols.now in
    let long = length_row s c.requires in
    let checked = right s c.requires _ c.checksum_value.ensures in
    let same = c.spread.ensures ∙ ap pattern checked in
    stored (length s) (row s) (into_room _ (length s) (row s) (omega arith)) (omega arith)
    (row_stored s c.requires _ _ _ _ _ c.join_iters.ensures
    (part_whole c.join_iters.new.out _ _ _ _ same (omega (arith, length_pattern (check s) (small s _ refl))) (omega arith))
    (part_whole _ _ _ _ _ c.copy_from_slice.ensures.after (omega arith) (omega arith))
    (part_whole _ _ _ _ _ c.copy_from_slice-2.ensures.after (omega arith) (omega arith)))
