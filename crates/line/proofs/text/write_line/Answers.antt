-- `line::text::write_line` meets its contract: head, cells and newline, one after the other, the
-- cells by one store a turn.
-- Assumes nothing.
use Prim.Native.Nat.{◌+◌}
use mathlib.Core.Path.{refl, sym}
use mathlib.Core.List.{map}
use native.Mathlib.Omega.{arith}
use lib.ListN.{length, length-append, length-map}
use Rattle.std.proofs.lemmas.List.{get_or-map}
use Rattle.helpers.proofs.Gives.{stored_one, stored_at, stored_then}
use Rattle.helpers.proofs.Writes.{storing_turn, storing_end}
use Rattle.line.proofs.Texts.{wrote, wrote_none}
use Rattle.line.proofs.text.write_line.Goals as goal

pub returns-then-out-end : goal.returns-then-out-end
returns-then-out-end c = wrote_none (simp (length-append, length-map) (omega arith))

pub loop-j-preserved : goal.loop-j-preserved
loop-j-preserved c =
    storing_turn c.loop-j.invariant _ _ refl (simp length-map (omega arith)) (sym (get_or-map (λ x. 48 + x) c.args.cells.now c.loop-j.j 0 0 c.loop-j-test.true))

pub returns : goal.returns
returns c = let a = c.args in
    let head = stored_at a.head.now _ _ 0 (length a.head.now) c.join_slices.ensures (omega arith) in
    let cells = stored_at (map (λ x. 48 + x) a.cells.now) _ _ _ (length a.head.now + length a.cells.now) (storing_end c.loop-j.invariant (simp length-map (omega arith))) (simp length-map) in
    wrote (simp (length-append, length-map) (omega arith)) (stored_then (stored_then head cells) stored_one)
