-- Cells as the bits of a byte: what they weigh together, and a loop that adds it up.
-- Assumes nothing.
use Prim.Native.Nat.{ℕ, zero, suc, ◌+◌, ◌-◌, ◌*◌, ◌/◌, ◌<◌, ◌≤◌}
use mathlib.Core.Path.{◌≡◌}
use mathlib.Core.List.{List, [], ◌∷◌}
use native.Mathlib.Nat.{not-suc-le-zero, le_of_suc-le-suc}
use native.Mathlib.Numerals.{add-one}
use native.Mathlib.Omega.{arith}
use lib.ListN.{length, get_or, drop, drop_of_length-le}
use lib.Seq.{drop-cons}
use Rattle.helpers.specs.Answers.{Each}
use Rattle.paper.specs.Jobs.{bits}

-- cells weigh less than twice what the first of them weighs
bits_small : (w : ℕ) (cs : List ℕ) → Each (λ c. c ≤ 1) cs → bits w cs ≤ 2 * w - 1
unfolding bits
bits_small w [] a = omega arith
bits_small w (zero ∷ cs) a = omega (arith, bits_small (w / 2) cs a.1)
bits_small w (suc zero ∷ cs) a = omega (arith, bits_small (w / 2) cs a.1)
bits_small w (suc (suc c) ∷ cs) a = absurd (not-suc-le-zero (le_of_suc-le-suc a.0))

-- A loop that has added up the cells before place i, the next of which weighs w.
pub record Weighing (cells : List ℕ) (sum w i : ℕ) : Type 0 where
  pub within : i ≤ length cells
  pub small : bits 128 cells ≤ 255
  -- with what is left to add the sum is the whole
  pub left : sum + bits w (drop i cells) ≡ bits 128 cells

pub weighing_begin : {cells : List ℕ} → Each (λ c. c ≤ 1) cells → Weighing cells 0 128 0
weighing_begin {cells} a = record { within = omega arith; small = omega (arith, bits_small 128 cells a); left = omega arith }

module _ {cells : List ℕ} {sum w i : ℕ} (p : Weighing cells sum w i) where
  weighed_first : i < length cells → bits w (drop i cells) ≡ w * get_or cells i 0 + bits (w / 2) (drop (suc i) cells)
  unfolding bits
  weighed_first h = rw (drop-cons cells i 0 h)

  pub weighing_fits : i < length cells → sum + w * get_or cells i 0 ≤ 255
  weighing_fits h = omega (arith, p.left, p.small, weighed_first h)

  pub weighing_turn : i < length cells → Weighing cells (sum + w * get_or cells i 0) (w / 2) (i + 1)
  weighing_turn h = record { within = omega arith; small = p.small; left = rw (add-one i) (omega (arith, p.left, weighed_first h)) }

  pub weighing_end : length cells ≤ i → sum ≡ bits 128 cells
  unfolding bits
  weighing_end h = omega (arith, rw (drop_of_length-le cells h) at p.left)
