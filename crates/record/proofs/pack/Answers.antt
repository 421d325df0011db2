-- `record::pack` meets its contract: the tests of a row, the room, the head, the bytes.
-- Assumes nothing.
use mathlib.Core.Path.{◌≡◌, sym, ap, ◌∙◌}
use native.Mathlib.Omega.{arith}
use lib.ListN.{length}
use lib.Seq.{length-sets}
use borrow.Rule.Slice.PartMut.{mid_len}
use Rattle.helpers.specs.Numbers.{refusal_number}
use Rattle.helpers.specs.Terms.{answers}
use Rattle.helpers.specs.declared.Refusal.TheVariants.{Room}
use Rattle.helpers.proofs.Gives.{refused, refused_through, stored}
use Rattle.paper.specs.Jobs.{most, head, pack}
use Rattle.shapes.proofs.Shaping.{row_refused, row_proper}
use Rattle.record.proofs.Counts.{length_needed}
use Rattle.record.proofs.Answering.{packed, length_packed, pack_room, pack_done, packed_stored}
use Rattle.record.proofs.pack.Goals as goal

pub returns-in_err-n : goal.returns-in_err-n
unfolding pack answers
returns-in_err-n c =
    refused_through _ c.from_residual.result c.from_residual.ensures.1 (row_refused _ _ _ _ _ (sym c.in_err-n.ensures))

pub record_length-needed-requires : goal.record_length-needed-requires
unfolding answers most
record_length-needed-requires c = (row_proper _ _ (sym c.in_ok-n.ensures)).limited

pub returns-then-out-needed : goal.returns-then-out-needed
unfolding answers refusal_number
returns-then-out-needed c =
    let known = sym c.in_ok-n.ensures in
    refused (Room _) (pack_room _ _ (row_proper _ _ known).sized _ known c.record_length-needed.ensures (omega arith))

pub put_head-requires : goal.put_head-requires
unfolding answers most
put_head-requires c = (row_proper _ _ (sym c.in_ok-n.ensures)).limited

pub put_bytes-requires : goal.put_bytes-requires
unfolding answers
put_bytes-requires c =
    let row = row_proper _ _ (sym c.in_ok-n.ensures) in
    let out : length c.put_head.new.out ≡ length c.args.out.now = ap length c.put_head.ensures ∙ length-sets c.args.out.now 0 (head c.in_ok-n.n) in
    let part = mid_len c.head_length.result c.record_length-needed.result c.put_head.new.out (omega arith) in
    (omega (arith, part, row.sized, length_needed c.in_ok-n.n), row.two_colours)

pub returns : goal.returns
unfolding answers
returns c =
    let known = sym c.in_ok-n.ensures in
    let sized = (row_proper _ _ known).sized in
    let needed = c.record_length-needed.ensures in
    let long : c.record_length-needed.result ≡ length (packed c.args.row.now c.in_ok-n.n) = needed ∙ length_packed _ _ sized in
    stored _ _ (pack_done _ _ sized _ known needed (omega arith)) (omega (arith, long))
    (packed_stored _ _ sized _ _ c.args.out.now _ _ c.head_length.ensures needed (omega arith) c.put_head.ensures c.put_bytes.ensures)
