-- Sums modulo 103, which is prime: when they agree, though one number in them is another, or two
-- have changed places.
-- Assumes nothing.
use mathlib.Core.Path.{◌≡◌, refl, sym, ap, ◌∙◌}
use mathlib.Core.Logic.{◌≢◌}
use mathlib.Core.Bool.{Bool, true, false}
use mathlib.Core.List.{List, [], ◌∷◌}
use Prim.Native.Nat.{ℕ, zero, suc, ◌+◌, ◌-◌, ◌*◌, ◌/◌, ◌%◌, ◌<◌, ◌≤◌}
use native.Mathlib.Omega.{arith}
use native.Mathlib.Nat.{div-add-mod, add-sub_of_le, add-mul}
use native.Mathlib.Decide.{dec_lt}
use lib.Dec.{ltb, eqb, T}
use lib.ListN.{length, get_or, set, length-set}
use lib.Seq.{get_or-set_other}
use borrow.Author.Tests.{ltb-true, eqb-true, eqb-false, eq-eqb, ne_eqb}
use Rattle.paper.specs.Iso15417.{weighed, check}
use Rattle.paper.specs.Damage.{exchanged_list}
use Rattle.helpers.proofs.Answering.{truth}
use Rattle.helpers.proofs.Below.{below, from}

-- no product of two numbers from 1 to 102 is a multiple of 103
products : T (below (λ i. below (λ j. ltb 0 ((1 + i) * (1 + j) % 103)) 102) 102)
products = tt

no_multiple : (v d : ℕ) → 1 ≤ v → v ≤ 102 → 1 ≤ d → d ≤ 102 → 0 < v * d % 103
no_multiple v d v1 v2 d1 d2 =
    let one : T (below (λ j. ltb 0 (v * (1 + j) % 103)) 102) = from (λ a. below (λ j. ltb 0 (a * (1 + j) % 103)) 102) 1 102 products v v1 (omega arith) in
    ltb-true 0 (v * d % 103) (truth (ltb 0 (v * d % 103)) (from (λ b. ltb 0 (v * b % 103)) 1 102 one d d1 (omega arith)))

split : (q v d : ℕ) → (103 * q + v) * d ≡ 103 * (q * d) + v * d
split q v d = omega arith

split_weight : (w d : ℕ) → w * d ≡ 103 * (w / 103 * d) + w % 103 * d
split_weight w d = sym (ap (λ (x : ℕ). x * d) (div-add-mod w 103)) ∙ split (w / 103) (w % 103) d

-- a weight that is a multiple of 103 hides every change
hidden : (w a b x y : ℕ) → w % 103 ≡ 0 → y + w * a ≡ x + w * b → x % 103 ≡ y % 103
hidden w a b x y z e =
    let none : (k : ℕ) → w * k ≡ 103 * (w / 103 * k) = λ k. split_weight w k ∙ rw z (omega arith) in
    omega (arith, none a, none b)

-- any other shows a change by 1 to 102
shown : (w a d x y : ℕ) → 1 ≤ d → d ≤ 102 → w % 103 ≢ 0 → y + w * a ≡ x + w * (a + d) → x % 103 ≢ y % 103
shown w a d x y d1 d2 n e f = omega (arith, split_weight w d, no_multiple (w % 103) d (omega arith) (omega arith) d1 d2)

differ : (w a b x y : ℕ) → a ≢ b → a ≤ b + 102 → b ≤ a + 102 → w % 103 ≢ 0 → y + w * a ≡ x + w * b → x % 103 ≢ y % 103
differ w a b x y n ab ba z e =
    elim (dec_lt a b) as (λ (d : Dec (a < b)). x % 103 ≢ y % 103) [
      | yes l ↦ shown w a (b - a) x y (omega arith) (omega arith) z (rw (add-sub_of_le {n = b} {m = a} (omega arith)) e)
      | no l ↦ λ f. shown w b (a - b) y x (omega arith) (omega arith) z (rw (add-sub_of_le {n = a} {m = b} (omega arith)) (sym e)) (sym f)
    ]

-- Two sums, alike but for a number of weight w, which is a in the one and b in the other: they
-- agree modulo 103 exactly if w is a multiple of it. The same holds of two numbers that change
-- places, w being how far apart they stand.
sums_agree : (w a b x y : ℕ) → a ≢ b → a ≤ b + 102 → b ≤ a + 102 → y + w * a ≡ x + w * b → eqb (x % 103) (y % 103) ≡ eqb (w % 103) 0
sums_agree w a b x y n ab ba e = weight_case (eqb (w % 103) 0) refl
  where
    weight_case : (t : Bool) → eqb (w % 103) 0 ≡ t → eqb (x % 103) (y % 103) ≡ t
    weight_case true z = eq-eqb _ _ (hidden w a b x y (eqb-true _ _ z) e)
    weight_case false z = ne_eqb _ _ (differ w a b x y n ab ba (eqb-false _ _ z) e)

-- ---- the check, one number of the list being another

weighed_set : (w : ℕ) (xs : List ℕ) (i m : ℕ) → i < length xs → weighed w (set xs i m) + (w + i) * get_or xs i 0 ≡ weighed w xs + (w + i) * m
unfolding weighed
weighed_set w [] i m l = absurd (omega arith)
weighed_set w (x ∷ xs) zero m l = omega arith
weighed_set w (x ∷ xs) (suc i) m l = omega (arith, weighed_set (suc w) xs i m (omega arith))

-- "The START weighs 1, and so does place 1; place i weighs i."
abbrev pub weight : ℕ → ℕ
weight zero = 1
weight (suc i) = suc i

-- what the check is taken of
abbrev sum : List ℕ → ℕ
sum [] = 0
sum (x ∷ xs) = x + weighed 1 xs

check_sum : (s : List ℕ) → check s ≡ sum s % 103
unfolding check
check_sum [] = refl
check_sum (x ∷ xs) = refl

sum_set : (s : List ℕ) (i m : ℕ) → i < length s → sum (set s i m) + weight i * get_or s i 0 ≡ sum s + weight i * m
sum_set [] i m l = absurd (omega arith)
sum_set (x ∷ xs) zero m l = omega arith
sum_set (x ∷ xs) (suc i) m l = omega (arith, weighed_set 1 xs i m (omega arith))

-- the check stays the same exactly where the place weighs a multiple of 103
pub check_set : (s : List ℕ) (i m : ℕ) → i < length s → m ≢ get_or s i 0 → get_or s i 0 ≤ m + 102 → m ≤ get_or s i 0 + 102
    → eqb (check s) (check (set s i m)) ≡ eqb (weight i % 103) 0
check_set s i m l n low high =
    rw (check_sum s, check_sum (set s i m)) (sums_agree (weight i) (get_or s i 0) m (sum s) (sum (set s i m)) (omega arith) low high (sum_set s i m l))

-- ---- two numbers of the list changing places

weight_data : (i : ℕ) → 1 ≤ i → weight i ≡ i
weight_data zero l = absurd (omega arith)
weight_data (suc i) l = refl

sum_exchanged : (s : List ℕ) (i j : ℕ) → 1 ≤ i → i < j → j < length s
    → sum (exchanged_list i j s) + (j - i) * get_or s j 0 ≡ sum s + (j - i) * get_or s i 0
unfolding exchanged_list
sum_exchanged s i j low order high =
    let a : ℕ = get_or s i 0 in
    let b : ℕ = get_or s j 0 in
    let one = rw (weight_data j (omega arith)) at (sum_set s j a high) in
    let kept : get_or (set s j a) i 0 ≡ a = get_or-set_other s j i a 0 (omega arith) in
    let two = rw (weight_data i low, kept) at (sum_set (set s j a) i b (omega (arith, length-set s j a))) in
    let apart : (k : ℕ) → j * k ≡ i * k + (j - i) * k = λ k. rw (← add-mul i (j - i) k, add-sub_of_le {n = j} {m = i} (omega arith)) in
    omega (arith, one, two, apart a, apart b)

-- the check stays the same exactly where they stand a multiple of 103 apart
pub check_exchanged : (s : List ℕ) (i j : ℕ) → 1 ≤ i → i < j → j < length s → get_or s i 0 ≢ get_or s j 0 → get_or s i 0 ≤ 102 → get_or s j 0 ≤ 102
    → eqb (check s) (check (exchanged_list i j s)) ≡ eqb ((j - i) % 103) 0
check_exchanged s i j low order high n a b =
    rw (check_sum s, check_sum (exchanged_list i j s))
    (sums_agree (j - i) (get_or s j 0) (get_or s i 0) (sum s) (sum (exchanged_list i j s)) (omega arith) (omega arith) (omega arith) (sum_exchanged s i j low order high))
