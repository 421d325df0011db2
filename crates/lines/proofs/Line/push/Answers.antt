-- `lines::Line::push` meets its contract: it takes what there is room for.
-- Assumes nothing.
use Prim.Native.Nat.{ℕ, ◌≤◌}
use mathlib.Core.Path.{ap, ◌∙◌}
use mathlib.Core.List.{List, ◌++◌}
use native.Mathlib.Omega.{arith}
use lib.ListN.{length, take, length-take}
use borrow.Rule.Slice.PartMut.{same_len_mid}
use Rattle.std.proofs.lemmas.Slice.{take-put_mid}
use Rattle.lines.proofs.Splits.{holds_part}
use Rattle.lines.proofs.Line.push.Goals as goal

pub returns-clause-by_index : goal.returns-clause-by_index
returns-clause-by_index c cur h =
    let copied = c.copy_from_slice.ensures in
    let held = take c.args.self.now.len c.args.self.now.bytes in
    let room : c.args.self.now.len ≤ length c.args.self.now.bytes = omega (arith, h.holds_size) in
    holds_part c.args.part.now h c.requires c.min-n.ensures (same_len_mid _ _ c.args.self.now.bytes _ copied.len)
    (take-put_mid _ _ c.args.self.now.bytes _ _ (omega (arith, ap length copied.after, length-take c.min-n.result c.args.part.now)) room ∙ ap (λ (l : List ℕ). held ++ l) copied.after)
