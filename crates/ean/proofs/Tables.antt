-- The tables of EAN-13: their rules by computed tests, and what a digit's cells are found as.
-- Assumes nothing.
use Prim.Native.Nat.{ℕ, zero, suc, ◌+◌, ◌%◌, ◌<◌, ◌≤◌}
use mathlib.Core.Path.{◌≡◌, refl, sym, ap, ◌∙◌}
use mathlib.Core.Logic.{◌⊎◌, inl, inr}
use mathlib.Core.Bool.{Bool, true, false, ◌&&◌}
use mathlib.Core.List.{List, [], ◌∷◌}
use native.Mathlib.Nat.{not-suc-le-zero, le_of_suc-le-suc}
use native.Mathlib.Omega.{arith}
use native.Mathlib.Decide.{dec_lt}
use lib.Dec.{T, leb, ltb, eqb}
use lib.ListN.{length, get_or, set}
use lib.Seq.{set_out}
use borrow.Author.Tests.{lt-ltb, le-ltb}
use Rattle.std.specs.Prelude.{if◌then◌else◌}
use Rattle.helpers.specs.Answers.{same, Each}
use Rattle.helpers.proofs.Below.{below, at, and_left, and_right}
use Rattle.helpers.proofs.Same.{same_true, as_equal, as_least, as_same}
use Rattle.ean.specs.Ean13.{set_a, set_b, set_c, in_set, parity_rows, parity_row, first_of, digit_in, left_set}
use Rattle.ean.specs.declared.ean13.TheConstants.{ENCODINGS, PARITY}
use Rattle.ean.specs.Promises.{bars_of, DigitRule}
use Rattle.ean.proofs.Computes.{ean13_computes}

-- ---- the first of some numbers whose list is at hand

module _ (f : ℕ → List ℕ) (cs : List ℕ) where
  -- where it is one of them, its list is the one at hand
  pub first_hit : (n d : ℕ) → first_of f n d cs < d + n → f (first_of f n d cs) ≡ cs
  unfolding first_of
  first_hit zero d h = absurd (omega arith)
  first_hit (suc n) d h = hit_case (same (f d) cs) refl h (first_hit n (suc d))
    where
      hit_case : (b : Bool) → same (f d) cs ≡ b → (if b then d else first_of f n (suc d) cs) < d + suc n
          → (first_of f n (suc d) cs < suc d + n → f (first_of f n (suc d) cs) ≡ cs) → f (if b then d else first_of f n (suc d) cs) ≡ cs
      hit_case true e l g = same_true (f d) cs e
      hit_case false e l g = g (omega arith)

  -- it is none after them
  pub first_most : (n d : ℕ) → first_of f n d cs ≤ d + n
  unfolding first_of
  first_most zero d = omega arith
  first_most (suc n) d = most_case (same (f d) cs) (first_most n (suc d))
    where
      most_case : (b : Bool) → first_of f n (suc d) cs ≤ suc d + n → (if b then d else first_of f n (suc d) cs) ≤ d + suc n
      most_case true h = omega arith
      most_case false h = omega arith

-- where two tables have the same lists, the same is found
pub first_same : (f g : ℕ → List ℕ) (cs : List ℕ) (n d : ℕ) → ((i : ℕ) → i < d + n → f i ≡ g i) → first_of f n d cs ≡ first_of g n d cs
unfolding first_of
first_same f g cs zero d h = refl
first_same f g cs (suc n) d h = rw (h d (omega arith), first_same f g cs n (suc d) (λ i l. h i (omega arith))) refl

-- ---- the thirty patterns

-- bars and spaces alone
low : List ℕ → Bool
low [] = true
low (c ∷ cs) = leb c 1 && low cs

low_each : (cs : List ℕ) → T (low cs) → Each (λ c. c ≤ 1) cs
unfolding low
low_each [] t = tt
low_each (c ∷ cs) t = (as_least c 1 (and_left (leb c 1) (low cs) t), low_each cs (and_right (leb c 1) (low cs) t))

-- the set that some cells are a digit of
set_of : List ℕ → ℕ
set_of cs = if ltb (digit_in set_a cs) 10 then set_a else if ltb (digit_in set_b cs) 10 then set_b else set_c

-- the tests of one pattern: its rule, and what its cells are found as
right : ℕ → ℕ → List ℕ → Bool
right s d p =
    eqb (length p) 7 && low p && eqb (get_or p 0 2) (if eqb s set_c then 1 else 0) && eqb (get_or p 6 2) (if eqb s set_c then 0 else 1)
    && eqb (bars_of p % 2) (if eqb s set_a then 1 else 0) && eqb (digit_in s p) d && eqb (set_of p) s

all_right : T (below (λ s. below (λ d. right s d (in_set s d)) 10) 3)
unfolding right low set_of bars_of ean13_computes
all_right = tt

module _ (s d : ℕ) (hs : s < 3) (hd : d < 10) where
  passed : T (right s d (in_set s d))
  passed = at (λ e. right s e (in_set s e)) 10 (at (λ r. below (λ e. right r e (in_set r e)) 10) 3 all_right s hs) d hd

  pub digit_rule : DigitRule s (in_set s d)
  unfolding right
  digit_rule =
      let p = in_set s d in
      let t = passed in
      record {
        seven = as_equal (length p) 7 (search (and_left, and_right) depth 9);
        bars_and_spaces = low_each p (search (and_left, and_right) depth 9);
        first_cell = as_equal (get_or p 0 2) (if eqb s set_c then 1 else 0) (search (and_left, and_right) depth 9);
        last_cell = as_equal (get_or p 6 2) (if eqb s set_c then 0 else 1) (search (and_left, and_right) depth 9);
        parity = as_equal (bars_of p % 2) (if eqb s set_a then 1 else 0) (search (and_left, and_right) depth 9);
      }

  pub digit_found : digit_in s (in_set s d) ≡ d
  unfolding right
  digit_found = let t = passed in as_equal (digit_in s (in_set s d)) d (search (and_left, and_right) depth 9)

  set_found : set_of (in_set s d) ≡ s
  unfolding right
  set_found = let t = passed in as_equal (set_of (in_set s d)) s (search (and_left, and_right) depth 9)

pub digit_length : (s d : ℕ) → s < 3 → d < 10 → length (in_set s d) ≡ 7
digit_length s d hs hd = (digit_rule s d hs hd).seven

pub digits_apart : (s d t e : ℕ) → s < 3 → d < 10 → t < 3 → e < 10 → in_set s d ≡ in_set t e → (s ≡ t) × (d ≡ e)
digits_apart s d t e hs hd ht he q =
    let sets : s ≡ t = sym (set_found s d hs hd) ∙ ap set_of q ∙ set_found t e ht he in
    (sets, sym (digit_found s d hs hd) ∙ ap (digit_in s) q ∙ ap (λ (u : ℕ). digit_in u (in_set t e)) sets ∙ digit_found t e ht he)

-- a digit left of the centre is of the set that it is drawn in
pub left_set_lem : (s d : ℕ) → s < 2 → d < 10 → left_set (in_set s d) ≡ s
unfolding left_set set_of
left_set_lem s d hs hd = left_case s (in_set s d) hs (digit_found s d (omega arith) hd) (set_found s d (omega arith) hd)
  where
    left_case : (r : ℕ) (cs : List ℕ) → r < 2 → digit_in r cs ≡ d → set_of cs ≡ r → (if ltb (digit_in set_a cs) 10 then set_a else set_b) ≡ r
    left_case zero cs h e f = rw (e, lt-ltb d 10 hd) refl
    left_case (suc zero) cs h e f = of_B (ltb (digit_in set_a cs) 10) (ltb (digit_in set_b cs) 10) f
      where
        of_B : (a b : Bool) → (if a then set_a else if b then set_b else set_c) ≡ 1 → (if a then set_a else set_b) ≡ 1
        of_B true b q = q
        of_B false b q = refl
    left_case (suc (suc r)) cs h e f = absurd (not-suc-le-zero (le_of_suc-le-suc (le_of_suc-le-suc h)))

-- the code's table has each pattern at its place
in_table : T (below (λ s. below (λ d. same (get_or (get_or ENCODINGS s []) d []) (in_set s d)) 10) 3)
unfolding ean13_computes
in_table = tt

pub table_at : (s d : ℕ) → s < 3 → d < 10 → get_or (get_or ENCODINGS s []) d [] ≡ in_set s d
table_at s d hs hd =
    let row = at (λ r. below (λ e. same (get_or (get_or ENCODINGS r []) e []) (in_set r e)) 10) 3 in_table s hs in
    as_same _ _ (at (λ e. same (get_or (get_or ENCODINGS s []) e []) (in_set s e)) 10 row d hd)

-- so the digit found in a set of the table is the one that is meant
pub digit_found_in : (s : ℕ) → s < 3 → (cs : List ℕ) → first_of (λ d. get_or (get_or ENCODINGS s []) d []) 10 0 cs ≡ digit_in s cs
unfolding digit_in
digit_found_in s h cs = first_same _ (in_set s) cs 10 0 (λ d l. table_at s d h (omega arith))

-- ---- the parity rows

-- the code's table has them
parities : PARITY ≡ parity_rows
unfolding parity_rows
parities = refl

pub row_at : (f : ℕ) → get_or PARITY f [] ≡ parity_row f
unfolding parity_row
row_at f = ap (λ (t : List (List ℕ)). get_or t f []) parities

pub first_found : (ss : List ℕ) → first_of (λ f. get_or PARITY f []) 10 0 ss ≡ first_of parity_row 10 0 ss
first_found ss = first_same _ parity_row ss 10 0 (λ f l. row_at f)

-- sets left of the centre alone
left : List ℕ → Bool
left [] = true
left (s ∷ ss) = ltb s 2 && left ss

left_each : (ss : List ℕ) → T (left ss) → Each (λ s. (s ≡ set_a) ⊎ (s ≡ set_b)) ss
unfolding left
left_each [] t = tt
left_each (zero ∷ ss) t = (inl refl, left_each ss (and_right (ltb 0 2) (left ss) t))
left_each (suc zero ∷ ss) t = (inr refl, left_each ss (and_right (ltb 1 2) (left ss) t))
left_each (suc (suc s) ∷ ss) t = absurd (not_below (and_left (ltb (suc (suc s)) 2) (left ss) t))
  where
    not_below : T (ltb (suc (suc s)) 2) → ⊥
    not_below u = rw (le-ltb (suc (suc s)) 2 (omega arith)) at u

-- the tests of one row; the last, that it is found by itself where any one place is left out
even : ℕ → List ℕ → Bool
even f p =
    eqb (length p) 6 && left p && eqb (get_or p 0 set_c) set_a && eqb (first_of parity_row 10 0 p) f
    && below (λ k. eqb (first_of (λ g. set (parity_row g) k set_c) 10 0 (set p k set_c)) f) 6

all_even : T (below (λ f. even f (parity_row f)) 10)
unfolding even left ean13_computes
all_even = tt

module _ (f : ℕ) (h : f < 10) where
  row_passed : T (even f (parity_row f))
  row_passed = at (λ g. even g (parity_row g)) 10 all_even f h

  pub parity_length : length (parity_row f) ≡ 6
  unfolding even
  parity_length = let t = row_passed in as_equal (length (parity_row f)) 6 (search (and_left, and_right) depth 9)

  pub parity_sets : Each (λ s. (s ≡ set_a) ⊎ (s ≡ set_b)) (parity_row f) × (get_or (parity_row f) 0 set_c ≡ set_a)
  unfolding even
  parity_sets =
      let t = row_passed in
      (left_each (parity_row f) (search (and_left, and_right) depth 9), as_equal (get_or (parity_row f) 0 set_c) set_a (search (and_left, and_right) depth 9))

  pub parity_found : first_of parity_row 10 0 (parity_row f) ≡ f
  unfolding even
  parity_found = let t = row_passed in as_equal (first_of parity_row 10 0 (parity_row f)) f (search (and_left, and_right) depth 9)

  but_one : (k : ℕ) → k < 6 → first_of (λ g. set (parity_row g) k set_c) 10 0 (set (parity_row f) k set_c) ≡ f
  unfolding even
  but_one k l =
      let t = row_passed in
      as_equal _ _ (at (λ j. eqb (first_of (λ g. set (parity_row g) j set_c) 10 0 (set (parity_row f) j set_c)) f) 6 (search (and_left, and_right) depth 9) k l)

pub parity_apart : (f g : ℕ) → f < 10 → g < 10 → parity_row f ≡ parity_row g → f ≡ g
parity_apart f g hf hg e = sym (parity_found f hf) ∙ ap (first_of parity_row 10 0) e ∙ parity_found g hg

pub parity_two_places : (f g k : ℕ) → f < 10 → g < 10 → set (parity_row f) k set_c ≡ set (parity_row g) k set_c → f ≡ g
parity_two_places f g k hf hg e = elim (dec_lt k 6) [ yes h ↦ within h | no h ↦ without (omega arith) ]
  where
    within : k < 6 → f ≡ g
    within h = sym (but_one f hf k h) ∙ ap (first_of (λ j. set (parity_row j) k set_c) 10 0) e ∙ but_one g hg k h

    without : 6 ≤ k → f ≡ g
    without h =
        let out : (j : ℕ) → j < 10 → set (parity_row j) k set_c ≡ parity_row j = λ j l. set_out (parity_row j) k set_c (omega (arith, parity_length j l)) in
        parity_apart f g hf hg (sym (out f hf) ∙ e ∙ out g hg)
