-- Sums of digits where 1 and 3 weigh in turn: a loop that sums them, a loop over parts of 1,000,
-- and what one digit counts for.
-- Assumes nothing.
use Prim.Native.Nat.{ℕ, zero, suc, ◌+◌, ◌-◌, ◌*◌, ◌%◌, ◌<◌, ◌≤◌, min}
use mathlib.Core.Path.{◌≡◌, refl, sym, ap, ◌∙◌}
use mathlib.Core.Logic.{inl, inr}
use mathlib.Core.Bool.{Bool, true, false}
use mathlib.Core.List.{List, [], ◌∷◌, ◌++◌}
use native.Mathlib.Nat.{not-suc-le-zero, le_of_suc-le-suc}
use native.Mathlib.Numerals.{add-one}
use native.Mathlib.Omega.{arith}
use native.Mathlib.Decide.{dec_lt}
use lib.ListN.{length, get_or, drop, set, length-append, drop_of_length-le}
use lib.Seq.{drop-cons}
use lib.Dec.{eqb}
use Rattle.std.proofs.lemmas.List.{nil_from_length}
use Rattle.helpers.specs.Terms.{Turn}
use Rattle.helpers.specs.Modulo10.{in_turn, first_weight, modulo10}
use Rattle.helpers.proofs.Below.{at}
use Rattle.helpers.proofs.Same.{as_equal}

-- A loop that has summed the digits before place i, the next of which weighs w; w₀ the first.
pub record Summing (ds : List ℕ) (w₀ sum w i : ℕ) : Type 0 where
  pub within : i ≤ length ds
  pub turn : Turn w
  pub small : sum ≤ 765 * i
  -- with what is left to add the sum is the whole
  pub left : sum + in_turn w (drop i ds) ≡ in_turn w₀ ds

pub summing_begin : {ds : List ℕ} {w : ℕ} → Turn w → Summing ds w 0 w 0
summing_begin {ds} {w} t = record { within = omega arith; turn = t; small = omega arith; left = omega arith }

-- after 1 comes 3, and after 3 comes 1
pub other_turn : {w : ℕ} → Turn w → Turn (4 - w)
other_turn (inl e) = inr (omega arith)
other_turn (inr e) = inl (omega arith)

pub turn_small : {w : ℕ} → Turn w → w ≤ 3
turn_small (inl e) = omega arith
turn_small (inr e) = omega arith

pub product_small : {w d : ℕ} → Turn w → d < 256 → w * d ≤ 765
product_small (inl e) h = rw e (omega arith)
product_small (inr e) h = rw e (omega arith)

module _ {ds : List ℕ} {w₀ sum w i : ℕ} (p : Summing ds w₀ sum w i) where
  pub summing_turn : i < length ds → get_or ds i 0 < 256 → Summing ds w₀ (sum + w * get_or ds i 0) (4 - w) (i + 1)
  unfolding in_turn
  summing_turn h b =
      let on : in_turn w (drop i ds) ≡ w * get_or ds i 0 + in_turn (4 - w) (drop (i + 1) ds) = rw (add-one i, drop-cons ds i 0 h) refl in
      record { within = omega arith; turn = other_turn p.turn; small = omega (arith, p.small, product_small p.turn b); left = omega (arith, p.left, on) }

  pub summing_end : length ds ≤ i → sum ≡ in_turn w₀ ds
  unfolding in_turn
  summing_end h =
      let none : in_turn w (drop i ds) ≡ 0 = rw (drop_of_length-le ds h) refl in
      omega (arith, p.left, none)

pub turn_of : (b : Bool) → Turn (first_weight b)
unfolding first_weight
turn_of true = inl refl
turn_of false = inr refl

-- ---- a sum in parts

-- what the digit at place k weighs, where the first weighs w
weight_at : ℕ → ℕ → ℕ
weight_at w zero = w
weight_at w (suc k) = weight_at (4 - w) k

sum_append : (w : ℕ) (xs ys : List ℕ) → in_turn w (xs ++ ys) ≡ in_turn w xs + in_turn (weight_at w (length xs)) ys
unfolding in_turn weight_at
sum_append w [] ys = omega arith
sum_append w (x ∷ xs) ys = omega (arith, sum_append (4 - w) xs ys)

-- after an even number of digits the weight is the first one's
weight_even : (w m : ℕ) → w ≤ 4 → weight_at w (2 * m) ≡ w
unfolding weight_at
weight_even w zero h = refl
weight_even w (suc m) h =
    let two : 2 * suc m ≡ suc (suc (2 * m)) = omega arith in
    let same : 4 - (4 - w) ≡ w = omega arith in
    ap (weight_at w) two ∙ ap (λ (v : ℕ). weight_at v (2 * m)) same ∙ weight_even w m h

-- A loop that sums digits in parts, and keeps the last digit of the sum: rest is left to sum.
pub record Parting (ds : List ℕ) (w sum : ℕ) (rest : List ℕ) : Type 0 where
  pub last : sum < 10
  pub left : (sum + in_turn w rest) % 10 ≡ in_turn w ds % 10

pub parting_begin : {ds : List ℕ} {w : ℕ} → Parting ds w 0 ds
parting_begin {ds} {w} = record { last = omega arith; left = omega arith }

module _ {ds : List ℕ} {w sum : ℕ} {rest : List ℕ} (p : Parting ds w sum rest) where
  -- the next part has 1,000 digits, or all that are left
  next_part : (part rest' : List ℕ) → w ≤ 3 → rest ≡ part ++ rest' → length part ≡ min 1000 (length rest) → in_turn w rest ≡ in_turn w part + in_turn w rest'
  unfolding in_turn
  next_part part rest' h e f =
      let all : length rest ≡ length part + length rest' = ap length e ∙ length-append part rest' in
      ap (in_turn w) e
      ∙ sum_append w part rest'
      ∙ ap (λ (k : ℕ). in_turn w part + k) (elim (dec_lt (length rest) 1000) [ yes few ↦ rw (nil_from_length rest' (omega arith)) refl | no more ↦ rw (full (omega arith)) refl ])
    where
      full : length part ≡ 1000 → weight_at w (length part) ≡ w
      full k = rw k (weight_even w 500 (omega arith))

  pub parting_turn : (part rest' : List ℕ) (r : ℕ) → w ≤ 3 → rest ≡ part ++ rest' → length part ≡ min 1000 (length rest) → r ≡ in_turn w part → Parting ds w ((sum + r) % 10) rest'
  parting_turn part rest' r h e f q = record { last = omega arith; left = omega (arith, p.left, next_part part rest' h e f) }

  pub parting_end : length rest ≡ 0 → sum ≡ in_turn w ds % 10
  unfolding in_turn
  parting_end e =
      let none : in_turn w rest ≡ 0 = rw (nil_from_length rest e) refl in
      omega (arith, p.left, p.last, none)

-- ---- one digit

weight_turn : (w k : ℕ) → Turn w → Turn (weight_at w k)
unfolding weight_at
weight_turn w zero t = t
weight_turn w (suc k) t = weight_turn (4 - w) k (other_turn t)

sum_set : (w : ℕ) (ds : List ℕ) (k v : ℕ) → k < length ds → in_turn w (set ds k v) + weight_at w k * get_or ds k 0 ≡ in_turn w ds + weight_at w k * v
unfolding in_turn weight_at
sum_set w [] k v h = absurd (not-suc-le-zero h)
sum_set w (d ∷ ds) zero v h = omega arith
sum_set w (d ∷ ds) (suc k) v h = omega (arith, sum_set (4 - w) ds k v (le_of_suc-le-suc h))

-- three times a digit, modulo ten, determines the digit
three_times : (a : ℕ) → a < 10 → 7 * (3 * a % 10) % 10 ≡ a
three_times a h = as_equal _ _ (at (λ k. eqb (7 * (3 * k % 10) % 10) k) 10 tt a h)

cancel : (s t x y : ℕ) → s % 10 ≡ t % 10 → s + x ≡ t + y → x % 10 ≡ y % 10
cancel s t x y q e = omega arith

-- two sums alike modulo ten, where a digit a of the one is b in the other
alike : (s t a b w : ℕ) → Turn w → a < 10 → b < 10 → s % 10 ≡ t % 10 → s + w * a ≡ t + w * b → b ≡ a
alike s t a b w (inl e) l m q both = let once : s + 1 * a ≡ t + 1 * b = rw e at both in omega arith
alike s t a b w (inr e) l m q both =
    let thrice : s + 3 * a ≡ t + 3 * b = rw e at both in
    let r : 3 * a % 10 ≡ 3 * b % 10 = cancel s t (3 * a) (3 * b) q thrice in
    sym (three_times b m) ∙ ap (λ (x : ℕ). 7 * x % 10) (sym r) ∙ three_times a l

-- another digit at one place gives another check digit
pub check_one : (b : Bool) (ds : List ℕ) (k v : ℕ) → k < length ds → get_or ds k 0 < 10 → v < 10 → modulo10 b (set ds k v) ≡ modulo10 b ds → v ≡ get_or ds k 0
unfolding modulo10
check_one b ds k v h l m e =
    let w = first_weight b in
    alike (in_turn w (set ds k v)) (in_turn w ds) (get_or ds k 0) v (weight_at w k) (weight_turn w k (turn_of b)) l m (omega arith) (sum_set w ds k v h)

-- the check digit is a digit
pub check_digit : (b : Bool) (ds : List ℕ) → modulo10 b ds < 10
unfolding modulo10
check_digit b ds = omega arith
