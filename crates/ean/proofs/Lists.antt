-- Lists by places: `list_of`, the digits of a row as the reader finds them, and the text's bytes.
-- Assumes nothing.
use Prim.Native.Nat.{ℕ, zero, suc, ◌+◌, ◌-◌, ◌*◌, ◌/◌, ◌<◌, ◌≤◌}
use mathlib.Core.Path.{◌≡◌, refl, sym, ap, ap₂, ◌∙◌}
use mathlib.Core.List.{List, [], ◌∷◌, ◌++◌, map, append-nil}
use native.Mathlib.Nat.{zero-add, add-zero, add-suc, suc-add, not-suc-le-zero, le_of_suc-le-suc}
use native.Mathlib.Omega.{arith}
use lib.ListN.{length, get_or, set, take, drop, length-append, length-drop, drop_of_length-le}
use lib.Seq.{sets, drop-drop, length-take-le, take_at, drop_at}
use borrow.Rule.Slice.PartMut.{put_mid}
use borrow.Author.Tests.{lt-ltb, le-ltb}
use Rattle.std.specs.Simd.{first_chunks}
use Rattle.std.proofs.lemmas.List.{drop-take}
use lib.Dec.{ltb}
use native.Mathlib.Decide.{dec_lt}
use mathlib.Core.Bool.{Bool, true, false, ◌&&◌}
use Rattle.helpers.proofs.Answering.{and_false}
use Rattle.helpers.proofs.Writes.{Storing, storing_turn, storing_end, sets_front}
use Rattle.ean.specs.Ean13.{set_a, set_b, set_c, digit_place, digit_cells, digit_in, parity_row, first_of, left_set, list_of, digits_read}
use Rattle.ean.specs.Terms.{Digit, LeftOf, sets_left, digits_left, digits_right, all_digits}

module _ (f : ℕ → ℕ) where
  pub list_length : (k n : ℕ) → length (list_of f k n) ≡ n
  unfolding list_of
  list_length k zero = refl
  list_length k (suc n) = ap suc (list_length (suc k) n)

  pub list_at : (k n i : ℕ) → i < n → get_or (list_of f k n) i 0 ≡ f (k + i)
  unfolding list_of
  list_at k zero i h = absurd (not-suc-le-zero h)
  list_at k (suc n) zero h = ap f (sym (add-zero k))
  list_at k (suc n) (suc i) h = list_at (suc k) n i (le_of_suc-le-suc h) ∙ ap f (suc-add k i ∙ sym (add-suc k i))

  pub map_at : (l : List ℕ) (i : ℕ) → i < length l → f (get_or l i 0) ≡ get_or (map f l) i 0
  map_at [] i h = absurd (not-suc-le-zero h)
  map_at (x ∷ l) zero h = refl
  map_at (x ∷ l) (suc i) h = map_at l i (le_of_suc-le-suc h)

-- it is the list that has these numbers
pub list_is : (f : ℕ → ℕ) (k n : ℕ) (l : List ℕ) → length l ≡ n → ((i : ℕ) → i < n → f (k + i) ≡ get_or l i 0) → list_of f k n ≡ l
unfolding list_of
list_is f k zero [] h e = refl
list_is f k zero (x ∷ l) h e = absurd (omega arith)
list_is f k (suc n) [] h e = absurd (omega arith)
list_is f k (suc n) (x ∷ l) h e =
    ap₂ (λ (a : ℕ) (r : List ℕ). a ∷ r) (rw (add-zero k) at (e 0 (omega arith)))
    (list_is f (suc k) n l (omega arith) (λ i l. ap f (suc-add k i ∙ sym (add-suc k i)) ∙ e (suc i) (omega arith)))

-- a run of stores over a whole list
pub sets_whole : (l vs : List ℕ) → length l ≡ length vs → sets l 0 vs ≡ vs
sets_whole l vs h = sets_front l vs (omega arith) ∙ rw (drop_of_length-le l {i = length vs} (omega arith)) (append-nil vs)

-- a part of a part at the front
take_take : (n m : ℕ) (l : List ℕ) → n ≤ m → take n (take m l) ≡ take n l
take_take zero m l h = refl
take_take (suc n) zero l h = absurd (omega arith)
take_take (suc n) (suc m) [] h = refl
take_take (suc n) (suc m) (x ∷ l) h = ap (λ (r : List ℕ). x ∷ r) (take_take n m l (omega arith))

-- the parts of n that a list is cut into
chunk_at : (n c k : ℕ) (l : List ℕ) → k < c → get_or (first_chunks n c l) k [] ≡ take n (drop (n * k) l)
chunk_at n zero k l h = absurd (omega arith)
chunk_at n (suc c) zero l h = let none : n * 0 ≡ 0 = omega arith in rw none refl
chunk_at n (suc c) (suc k) l h =
    let more : n * suc k ≡ n + n * k = omega arith in
    chunk_at n c k (drop n l) (le_of_suc-le-suc h) ∙ rw more (ap (take n) (drop-drop (n * k) n l))

-- the code's blocks of seven, of the 42 cells from place a on
abbrev Blocks : ℕ → List ℕ → List (List ℕ) → Type 0
Blocks a row bs = bs ≡ first_chunks 7 (length (take 42 (drop a row)) / 7) (take 42 (drop a row))

block_at : (a k : ℕ) (row : List ℕ) (bs : List (List ℕ)) → Blocks a row bs → a + 42 ≤ length row → k < 6 → get_or bs k [] ≡ take 7 (drop (a + 7 * k) row)
block_at a k row bs e long h =
    let six : length (take 42 (drop a row)) ≡ 42 = length-take-le 42 (drop a row) (omega (arith, length-drop a row)) in
    let all : 42 ≡ 7 * k + (42 - 7 * k) = omega arith in
    ap (λ (l : List (List ℕ)). get_or l k []) (e ∙ ap (λ (n : ℕ). first_chunks 7 (n / 7) (take 42 (drop a row))) six)
    ∙ chunk_at 7 6 k (take 42 (drop a row)) h
    ∙ ap (λ (n : ℕ). take 7 (drop (7 * k) (take n (drop a row)))) all
    ∙ ap (take 7) (drop-take (7 * k) (42 - 7 * k) (drop a row))
    ∙ take_take 7 (42 - 7 * k) (drop (7 * k) (drop a row)) (omega arith)
    ∙ ap (take 7) (drop-drop (7 * k) a row)

-- ---- all are digits

pub digits_append : (xs ys : List ℕ) → all_digits (xs ++ ys) ≡ (all_digits xs && all_digits ys)
unfolding all_digits
digits_append [] ys = refl
digits_append (x ∷ xs) ys = tail_case (ltb x 10) (digits_append xs ys)
  where
    tail_case : (b : Bool) → all_digits (xs ++ ys) ≡ (all_digits xs && all_digits ys) → (b && all_digits (xs ++ ys)) ≡ ((b && all_digits xs) && all_digits ys)
    tail_case true e = e
    tail_case false e = refl

pub digits_missing : (ds : List ℕ) (k : ℕ) → k < length ds → get_or ds k 0 ≡ 10 → all_digits ds ≡ false
unfolding all_digits
digits_missing [] k h e = absurd (not-suc-le-zero h)
digits_missing (d ∷ ds) zero h e = rw e refl
digits_missing (d ∷ ds) (suc k) h e = rw (digits_missing ds k (le_of_suc-le-suc h) e) (and_false (ltb d 10))

pub digits_all : (ds : List ℕ) → ((k : ℕ) → k < length ds → Digit (get_or ds k 0)) → all_digits ds ≡ true
unfolding all_digits
digits_all [] h = refl
digits_all (d ∷ ds) h = rw (lt-ltb d 10 (h 0 (omega arith))) (digits_all ds (λ k l. h (suc k) (omega arith)))

-- A loop that stores digits that it finds; k of them are stored.
pub record Finding (l₀ ds l : List ℕ) (k : ℕ) : Type 0 where
  pub stores : Storing l₀ 0 ds l k
  pub found : (j : ℕ) → j < k → Digit (get_or ds j 0)

module _ {l₀ ds l : List ℕ} {k : ℕ} (p : Finding l₀ ds l k) where
  pub finding_turn : k < length ds → {d : ℕ} → d ≡ get_or ds k 0 → Digit d → Finding l₀ ds (set l k d) (k + 1)
  finding_turn h {d} e b = record { stores = storing_turn p.stores k d (omega arith) h e; found = λ j m. elim (dec_lt j k) [ yes less ↦ p.found j less | no more ↦ last j (omega arith) ] }
    where
      last : (j : ℕ) → j ≡ k → Digit (get_or ds j 0)
      last j q = rw (q, ← e) b

  pub finding_end : length ds ≤ k → length l₀ ≡ length ds → (l ≡ ds) × (all_digits ds ≡ true)
  finding_end h e = (storing_end p.stores h ∙ sets_whole l₀ ds e, digits_all ds (λ j m. p.found j (omega arith)))

-- ---- a digit left of the centre

module _ (cs : List ℕ) where
  pub left_first : {d : ℕ} → d ≡ digit_in set_a cs → Digit d → LeftOf cs set_a d
  unfolding left_set
  left_first {d} e h = let one : left_set cs ≡ set_a = rw (← e, lt-ltb d 10 h) refl in record { of_side = sym one; of_digit = rw one e; found = h }

  module _ (none : digit_in set_a cs ≡ 10) where
    set_second : left_set cs ≡ set_b
    unfolding left_set
    set_second = rw none refl

    pub left_second : {d : ℕ} → d ≡ digit_in set_b cs → Digit d → LeftOf cs set_b d
    left_second e h = record { of_side = sym set_second; of_digit = rw set_second e; found = h }

    pub left_none : digit_in set_b cs ≡ 10 → digit_in (left_set cs) cs ≡ 10
    left_none e = rw set_second e

-- ---- the digits of a row

module _ (row : List ℕ) where
  pub sets_left_length : length (sets_left row) ≡ 6
  sets_left_length = list_length (λ k. left_set (digit_cells k row)) 0 6

  pub digits_left_length : length (digits_left row) ≡ 6
  digits_left_length = list_length (λ k. digit_in (left_set (digit_cells k row)) (digit_cells k row)) 0 6

  pub digits_right_length : length (digits_right row) ≡ 6
  digits_right_length = list_length (λ k. digit_in set_c (digit_cells k row)) 6 6

  module _ (long : 95 ≤ length row) (k : ℕ) (h : k < 6) {bs : List (List ℕ)} where
    module _ (e : Blocks 3 row bs) where
      left_cells : digit_cells (0 + k) row ≡ get_or bs k []
      unfolding digit_cells digit_place
      left_cells = rw (zero-add k, lt-ltb k 6 h) (sym (block_at 3 k row bs e (omega arith) h))

      pub left_digit_at : get_or (digits_left row) k 0 ≡ digit_in (left_set (get_or bs k [])) (get_or bs k [])
      left_digit_at = list_at (λ j. digit_in (left_set (digit_cells j row)) (digit_cells j row)) 0 6 k h ∙ ap (λ (l : List ℕ). digit_in (left_set l) l) left_cells

      pub left_set_at : get_or (sets_left row) k 0 ≡ left_set (get_or bs k [])
      left_set_at = list_at (λ j. left_set (digit_cells j row)) 0 6 k h ∙ ap left_set left_cells

    module _ (e : Blocks 50 row bs) where
      right_cells : digit_cells (6 + k) row ≡ get_or bs k []
      unfolding digit_cells digit_place
      right_cells =
          let place : 8 + 7 * (6 + k) ≡ 50 + 7 * k = omega arith in
          rw (le-ltb (6 + k) 6 (omega arith), place) (sym (block_at 50 k row bs e (omega arith) h))

      pub right_digit_at : get_or (digits_right row) k 0 ≡ digit_in set_c (get_or bs k [])
      right_digit_at = list_at (λ j. digit_in set_c (digit_cells j row)) 6 6 k h ∙ ap (digit_in set_c) right_cells

  -- the thirteen, in three runs
  both_length : length (digits_left row ++ digits_right row) ≡ 12
  both_length = omega (arith, length-append (digits_left row) (digits_right row), digits_left_length, digits_right_length)

  pub read_length : length (digits_read row) ≡ 13
  unfolding digits_read
  read_length = omega (arith, both_length)

  -- one of the three runs has a digit missing
  pub left_missing : all_digits (digits_left row) ≡ false → all_digits (digits_read row) ≡ false
  unfolding digits_read all_digits
  left_missing e = ap (λ b. ltb (first_of parity_row 10 0 (sets_left row)) 10 && b) (digits_append (digits_left row) (digits_right row) ∙ rw e refl) ∙ and_false _

  pub right_missing : all_digits (digits_right row) ≡ false → all_digits (digits_read row) ≡ false
  unfolding digits_read all_digits
  right_missing e = ap (λ b. ltb (first_of parity_row 10 0 (sets_left row)) 10 && b) (digits_append (digits_left row) (digits_right row) ∙ rw e (and_false _)) ∙ and_false _

  pub first_missing : first_of parity_row 10 0 (sets_left row) ≡ 10 → all_digits (digits_read row) ≡ false
  unfolding digits_read all_digits
  first_missing e = rw e refl

  -- the first digit before the two sides, in their places
  pub read_all : {first : ℕ} {sides left right : List ℕ} → sides ≡ sets_left row → first ≡ first_of parity_row 10 0 sides → Digit first
      → (left ≡ digits_left row) × (all_digits (digits_left row) ≡ true) → (right ≡ digits_right row) × (all_digits (digits_right row) ≡ true)
      → (rest : List ℕ) → length rest ≡ 6 → (put_mid 7 6 (first ∷ left ++ rest) right ≡ digits_read row) × (all_digits (digits_read row) ≡ true)
  unfolding digits_read all_digits
  read_all {first} {left} {right} s f b l r rest six =
      let here : first ≡ first_of parity_row 10 0 (sets_left row) = f ∙ ap (first_of parity_row 10 0) s in
      let long : length left ≡ 6 = ap length l.0 ∙ digits_left_length in (
        rw (take_at left rest 6 long, drop_at left rest 6 long, drop_of_length-le rest {i = 6} (omega arith), append-nil right, here, l.0, r.0),
        rw (← here, lt-ltb first 10 b) (digits_append (digits_left row) (digits_right row) ∙ rw (l.1, r.1) refl),
      )
