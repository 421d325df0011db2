-- `ean_reader::ean13::put_text` meets its contract: a loop that stores the bytes of the digits.
-- Assumes nothing.
use Prim.Native.Nat.{ℕ, ◌+◌}
use native.Mathlib.Omega.{arith}
use lib.ListN.{length-map}
use Rattle.helpers.proofs.Writes.{storing_turn}
use Rattle.ean.proofs.Lists.{map_at}
use Rattle.ean_reader.proofs.ean13.put_text.Goals as goal

pub loop-i-preserved : goal.loop-i-preserved
loop-i-preserved c =
    let digits = c.args.digits.now in
    storing_turn c.loop-i.invariant _ _ (omega arith) (omega (arith, length-map digits (λ (d : ℕ). d + 48))) (map_at (λ d. d + 48) digits c.loop-i.i (omega arith))
