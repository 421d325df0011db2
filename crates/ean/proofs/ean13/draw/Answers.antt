-- `ean13::draw` meets its contract: the guards and the two sides, stored one after the other.
-- Assumes nothing.
use mathlib.Core.Path.{◌≡◌, refl, sym, ap, ◌∙◌}
use mathlib.Core.List.{◌++◌}
use native.Mathlib.Omega.{arith}
use lib.ListN.{length}
use lib.Seq.{sets}
use borrow.Rule.Slice.PartMut.{put_mid}
use Rattle.helpers.specs.Terms.{Stored}
use Rattle.helpers.proofs.Gives.{nothing_stored, part_then}
use Rattle.ean.specs.Ean13.{guard, centre}
use Rattle.ean.proofs.Draws.{six_length, left_of, right_of, left_six, right_six, row_parts}
use Rattle.ean.proofs.ean13.draw.Goals as goal

pub returns : goal.returns
unfolding guard centre
returns c =
    let digits = c.args.digits.now in
    let long : length digits ≡ 13 = omega arith in
    let first = c.from-first.result in
    let old = c.args.row.now in
    let left_long = six_length (left_six digits c.requires.0 long first c.from-first.ensures) in
    let right_long = six_length (right_six digits c.requires.0 long) in
    let row1 = put_mid 0 3 old c.join_slices.new.part in
    let row2 = put_mid 3 42 row1 c.payload.new.part in
    let row3 = put_mid 45 5 row2 c.join_slices-2.new.part in
    let row4 = put_mid 50 42 row3 c.payload-2.new.part in
    let row5 = put_mid 92 3 row4 c.join_slices-3.new.part in
    let begun : Stored guard old 0 row1 3 = part_then nothing_stored guard 3 refl (omega arith) c.join_slices.ensures in
    let lefted : Stored (guard ++ left_of first digits) old 0 row2 45 = part_then begun (left_of first digits) 45 (omega arith) (omega arith) c.payload.ensures in
    let half : Stored (guard ++ left_of first digits ++ centre) old 0 row3 50 = part_then lefted centre 50 refl (omega arith) c.join_slices-2.ensures in
    let drawn : Stored (guard ++ left_of first digits ++ centre ++ right_of digits) old 0 row4 92 = part_then half (right_of digits) 92 (omega arith) (omega arith) c.payload-2.ensures in
    let all : Stored (guard ++ left_of first digits ++ centre ++ right_of digits ++ guard) old 0 row5 95 = part_then drawn guard 95 refl (omega arith) c.join_slices-3.ensures in
    all.stored ∙ ap (sets old 0) (sym (row_parts digits c.requires.0 long first c.from-first.ensures))
