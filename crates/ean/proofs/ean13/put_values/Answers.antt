-- `ean13::put_values` meets its contract: a loop that stores twelve digits.
-- Assumes nothing.
use mathlib.Core.Path.{◌≡◌, ap, ◌∙◌}
use mathlib.Core.Bool.{true}
use Prim.Native.Nat.{ℕ, ◌-◌, ◌<◌}
use native.Mathlib.Omega.{arith}
use lib.Seq.{length-take-le, get_or-take}
use Rattle.helpers.proofs.Answering.{each_at}
use Rattle.helpers.proofs.Writes.{storing_turn}
use Rattle.ean.specs.Ean13.{is_digit}
use Rattle.ean.proofs.Values.{digit_bounds, twelve_length, twelve_at}
use Rattle.ean.proofs.ean13.put_values.Goals as goal

pub overflow_sub-digits : goal.overflow_sub-digits
overflow_sub-digits c =
    let text = c.args.text.now in
    let i = c.loop-i.i in
    let place : i < 12 = omega (arith, length-take-le 12 text c.requires.0) in
    omega (arith, get_or-take 12 text i 0 place, (digit_bounds _ (each_at (λ x. is_digit x ≡ true) text i 0 c.requires.1 (omega arith))).0)

pub loop-i-preserved : goal.loop-i-preserved
loop-i-preserved c =
    let text = c.args.text.now in
    let i = c.loop-i.i in
    let place : i < 12 = omega (arith, length-take-le 12 text c.requires.0) in
    storing_turn c.loop-i.invariant _ _ (omega arith) (omega (arith, twelve_length text c.requires.0))
    (ap (λ (d : ℕ). d - 48) (get_or-take 12 text i 0 place) ∙ twelve_at text i place (omega arith))
