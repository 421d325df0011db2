-- Laws of the weighed sum, and of a loop that makes it.
-- Assumes nothing.
use Prim.Native.Nat.{ℕ, ◌+◌, ◌*◌, ◌%◌, ◌≤◌}
use mathlib.Core.Path.{◌≡◌, refl}
use mathlib.Core.List.{List, [], ◌∷◌}
use native.Mathlib.Nat.{mul-le-mul, add-zero}
use native.Mathlib.Numerals.{add-one}
use native.Mathlib.Omega.{arith}
use lib.ListN.{length}
use Rattle.paper.specs.Iso15417.{weighed, check}

pub check_of_none : (s : List ℕ) → length s ≡ 0 → check s ≡ 0
unfolding check
check_of_none [] h = refl
check_of_none (x ∷ xs) h = absurd (omega arith)

-- A loop that sums the numbers of s by weight: w is the next weight, and `rest` is left to sum.
pub record Summing (s : List ℕ) (sum w : ℕ) (rest : List ℕ) : Type 0 where
  pub within : w + length rest ≤ 4000
  pub fits : sum ≤ 1019745 * w
  pub left : (sum + weighed w rest) % 103 ≡ check s

pub summing_begin : {s rest : List ℕ} {v : ℕ} → s ≡ v ∷ rest → length s ≤ 4000 → v ≤ 255 → Summing s v 1 rest
unfolding check
summing_begin {s} {rest} e h b =
    let longer : length s ≡ 1 + length rest = rw e (omega arith) in
    record { within = omega (arith, longer); fits = omega arith; left = rw e refl }

-- the product of a weight and a byte
pub small : (a b : ℕ) → a ≤ 3999 → b ≤ 255 → a * b ≤ 1019745
small a b ha hb = mul-le-mul ha hb

pub weight_small : {s rest rest' : List ℕ} {sum w v : ℕ} → Summing s sum w rest → rest ≡ v ∷ rest' → w ≤ 3999
weight_small {rest} {rest'} p e =
    let some : 1 ≤ length rest = rw e (omega arith) in
    omega (arith, some, p.within)

pub summing_turn : {s rest rest' : List ℕ} {sum w v : ℕ} → Summing s sum w rest → rest ≡ v ∷ rest' → v ≤ 255 → Summing s (sum + w * v) (w + 1) rest'
unfolding weighed
summing_turn {s} {rest} {rest'} {sum} {w} {v} p e b =
    let fewer : w + length rest ≡ w + 1 + length rest' = rw e (omega arith) in
    let turn : sum + w * v + weighed (w + 1) rest' ≡ sum + weighed w rest = rw (e, add-one w) (omega arith) in
    record {
      within = rw fewer at p.within;
      fits = omega (arith, small w v (weight_small p e) b, p.fits);
      left = rw turn p.left;
    }

pub summing_end : {s rest : List ℕ} {sum w : ℕ} → Summing s sum w rest → length rest ≡ 0 → sum % 103 ≡ check s
unfolding weighed
summing_end {rest = []} {sum = sum} p h = rw (add-zero sum) at p.left
summing_end {rest = x ∷ xs} p h = absurd (omega arith)
