-- The cells of a byte, taken from its top bit one after the other, and a loop that stores them.
-- Assumes nothing.
use Prim.Native.Nat.{ℕ, suc, ◌+◌, ◌*◌, ◌/◌, ◌%◌, ◌<◌, ◌≤◌}
use mathlib.Core.Path.{◌≡◌, refl, ◌∙◌}
use mathlib.Core.Bool.{Bool}
use mathlib.Core.List.{List}
use native.Mathlib.Nat.{zero-add, add-suc, suc-add}
use native.Mathlib.Numerals.{add-one}
use native.Mathlib.Omega.{arith}
use lib.Dec.{eqb, eqb→eq}
use lib.ListN.{length, get_or, set}
use lib.Seq.{sets}
use Rattle.paper.specs.Jobs.{eight}
use Rattle.helpers.proofs.Below.{below, at}
use Rattle.helpers.proofs.Writes.{Storing, storing_turn, storing_short}

pub length_eight : (b : ℕ) → length (eight b) ≡ 8
unfolding eight
length_eight b = refl

-- a byte without its top bit, doubled, has the cells of the byte from the second on
next_cell : (r i : ℕ) → r < 256 → i < 7 → get_or (eight (r % 128 * 2)) i 0 ≡ get_or (eight r) (suc i) 0
unfolding eight
next_cell r i h l =
    let test : ℕ → ℕ → Bool = λ x j. eqb (get_or (eight (x % 128 * 2)) j 0) (get_or (eight x) (suc j) 0) in
    eqb→eq (get_or (eight (r % 128 * 2)) i 0) (get_or (eight r) (suc i) 0) (at (test r) 7 (at (λ x. below (test x) 7) 256 tt r h) i l)

-- A loop that stores the cells of the byte b into the list l₀ until it is full; j cells are stored,
-- and the others are the first cells of `rest`.
pub record Spreading (l₀ : List ℕ) (b : ℕ) (l : List ℕ) (rest j : ℕ) : Type 0 where
  pub short : length l₀ ≤ 8
  pub small : rest < 256
  pub ahead : (i : ℕ) → i + j < 8 → get_or (eight rest) i 0 ≡ get_or (eight b) (i + j) 0
  pub stores : Storing l₀ 0 (eight b) l j

module _ {l₀ l : List ℕ} {b rest j : ℕ} (p : Spreading l₀ b l rest j) where
  top_cell : j < 8 → rest / 128 ≡ get_or (eight b) j 0
  unfolding eight
  top_cell h =
      let top : rest / 128 ≡ rest / 128 % 2 = omega (arith, p.small) in
      top ∙ (rw (zero-add j) at (p.ahead 0 (omega arith)))

  pub spreading_turn : (v r : ℕ) → v ≡ rest / 128 → r ≡ rest % 128 * 2 → j < length l₀ → Spreading l₀ b (set l j v) r (j + 1)
  spreading_turn v r d e h =
      record {
        short = p.short;
        small = omega arith;
        ahead = rw e (λ i m. next_cell rest i p.small (omega arith) ∙ p.ahead (suc i) (omega arith) ∙ rw (add-one j, suc-add i j, add-suc i j) refl);
        stores = storing_turn p.stores j v (omega arith) (omega (arith, p.short, length_eight b)) (d ∙ top_cell (omega (arith, p.short)));
      }

  pub spreading_end : length l₀ ≤ j → l ≡ sets l₀ 0 (eight b)
  spreading_end h = storing_short p.stores (omega arith)
