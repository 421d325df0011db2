-- The row of thirteen digits, part by part: its length, the cells of each drawn digit, the digits
-- that are read from it, and when a row is the row of the digits read.
-- Assumes nothing.
use Prim.Native.Nat.{ℕ, zero, suc, ◌+◌, ◌-◌, ◌*◌, ◌<◌, ◌≤◌}
use mathlib.Core.Path.{◌≡◌, refl, sym, ap, ap₂, ◌∙◌}
use mathlib.Core.Logic.{◌⊎◌, inl, inr}
use mathlib.Core.Bool.{true, ◌&&◌}
use mathlib.Core.List.{List, [], ◌∷◌, ◌++◌, append_assoc, append-nil}
use native.Mathlib.Nat.{not-suc-le-zero, le_of_suc-le-suc, add-zero, zero-add}
use native.Mathlib.Omega.{arith}
use lib.Dec.{ltb, eqb}
use lib.ListN.{length, get_or, take, drop, replicate, length-append, length-drop, take-append-drop, get_or-replicate, get_or-append}
use lib.Seq.{length-take-le, get_or-take, take_all, take-add, take_at, drop_at, drop-drop, get_or-drop}
use borrow.Author.Tests.{lt-ltb, le-ltb, eqb-true}
use Rattle.std.specs.Prelude.{if◌then◌else◌}
use Rattle.helpers.specs.Answers.{same, Each}
use Rattle.helpers.proofs.Answering.{and_true, each_at, each_map, each_drop}
use Rattle.helpers.proofs.Same.{same_true}
use Rattle.ean.specs.Ean13.{set_a, set_b, set_c, in_set, parity_row, guard, centre, in_sets, ean13_row, digit_place, digit_cells, first_of, digit_in, left_set, list_of, digits_read}
use Rattle.ean.specs.Terms.{Digit, Side, sets_left, digits_left, digits_right, framed}
use Rattle.ean.proofs.Lists.{list_length, list_at, list_is, digits_left_length, digits_right_length}
use Rattle.ean.proofs.Tables.{first_hit, digit_rule, digit_found, left_set_lem, parity_length, parity_sets, parity_found}

-- ---- digits drawn one after the other

-- the sets of a parity row, and those right of the centre
pub parity_sides : (f : ℕ) → f < 10 → Each Side (parity_row f)
parity_sides f h = each_map _ _ small (parity_row f) (parity_sets f h).0
  where
    small : (s : ℕ) → (s ≡ set_a) ⊎ (s ≡ set_b) → s < 3
    small s (inl e) = omega arith
    small s (inr e) = omega arith

pub right_sides : Each Side (replicate 6 set_c)
right_sides = (omega arith, (omega arith, (omega arith, (omega arith, (omega arith, (omega arith, tt))))))

pub drawn_length : (ss ds : List ℕ) → Each Side ss → Each Digit ds → length ss ≤ length ds → length (in_sets ss ds) ≡ 7 * length ss
unfolding in_sets
drawn_length [] ds a b h = refl
drawn_length (s ∷ ss) [] a b h = absurd (not-suc-le-zero h)
drawn_length (s ∷ ss) (d ∷ ds) a b h =
    length-append (in_set s d) (in_sets ss ds) ∙ omega (arith, (digit_rule s d a.0 b.0).seven, drawn_length ss ds a.1 b.1 (le_of_suc-le-suc h))

-- the cells of the digit at place k, whatever comes after the last
pub drawn_at : (ss ds rest : List ℕ) (k : ℕ) → Each Side ss → Each Digit ds → k < length ss → k < length ds
    → take 7 (drop (7 * k) (in_sets ss ds ++ rest)) ≡ in_set (get_or ss k 0) (get_or ds k 0)
unfolding in_sets
drawn_at [] ds rest k a b h l = absurd (not-suc-le-zero h)
drawn_at (s ∷ ss) [] rest k a b h l = absurd (not-suc-le-zero l)
drawn_at (s ∷ ss) (d ∷ ds) rest zero a b h l =
    ap (take 7) (append_assoc (in_set s d) (in_sets ss ds) rest) ∙ take_at (in_set s d) (in_sets ss ds ++ rest) 7 (digit_rule s d a.0 b.0).seven
drawn_at (s ∷ ss) (d ∷ ds) rest (suc k) a b h l =
    let next : 7 * suc k ≡ 7 + 7 * k = omega arith in
    let first = (digit_rule s d a.0 b.0).seven in
    ap (λ (n : ℕ). take 7 (drop n ((in_set s d ++ in_sets ss ds) ++ rest))) next
    ∙ ap (take 7) (sym (drop-drop (7 * k) 7 ((in_set s d ++ in_sets ss ds) ++ rest)))
    ∙ ap (λ (x : List ℕ). take 7 (drop (7 * k) x)) (ap (drop 7) (append_assoc (in_set s d) (in_sets ss ds) rest) ∙ drop_at (in_set s d) (in_sets ss ds ++ rest) 7 first)
    ∙ drawn_at ss ds rest k a.1 b.1 (le_of_suc-le-suc h) (le_of_suc-le-suc l)

-- ---- the row of a first digit and twelve others

-- the row in its five parts
pub row_parts : (f : ℕ) (ds : List ℕ) → ean13_row (f ∷ ds) ≡ guard ++ (in_sets (parity_row f) ds ++ (centre ++ (in_sets (replicate 6 set_c) (drop 6 ds) ++ guard)))
unfolding ean13_row guard
row_parts f ds =
    let left = in_sets (parity_row f) ds in
    let right = in_sets (replicate 6 set_c) (drop 6 ds) in
    ap (λ (x : List ℕ). 1 ∷ 0 ∷ 1 ∷ x) (append_assoc (left ++ centre) right guard ∙ append_assoc left centre (right ++ guard))

module _ (f : ℕ) (ds : List ℕ) (hf : f < 10) (hd : Each Digit ds) (twelve : length ds ≡ 12) where
  left : List ℕ
  left = in_sets (parity_row f) ds

  right : List ℕ
  right = in_sets (replicate 6 set_c) (drop 6 ds)

  right_digits_lem : Each Digit (drop 6 ds)
  right_digits_lem = each_drop Digit 6 ds hd

  left_length : length left ≡ 42
  unfolding left
  left_length = drawn_length (parity_row f) ds (parity_sides f hf) hd (omega (arith, parity_length f hf)) ∙ omega (arith, parity_length f hf)

  right_length : length right ≡ 42
  unfolding right
  right_length = drawn_length (replicate 6 set_c) (drop 6 ds) right_sides right_digits_lem (omega (arith, length-drop 6 ds))

  -- the row after its first guard, after the digits left of the centre, and after the centre
  after_centre : List ℕ
  after_centre = right ++ guard

  after_left : List ℕ
  after_left = centre ++ after_centre

  row_is : ean13_row (f ∷ ds) ≡ guard ++ (left ++ after_left)
  unfolding left right after_centre after_left
  row_is = row_parts f ds

  pub row_length : length (ean13_row (f ∷ ds)) ≡ 95
  unfolding guard centre after_left after_centre
  row_length =
      ap length row_is
      ∙ length-append guard (left ++ after_left)
      ∙ omega (arith, length-append left after_left, left_length, length-append centre after_centre, length-append right guard, right_length)

  from_guard : drop 3 (ean13_row (f ∷ ds)) ≡ left ++ after_left
  unfolding guard
  from_guard = ap (drop 3) row_is

  from_left : drop 45 (ean13_row (f ∷ ds)) ≡ after_left
  from_left = sym (drop-drop 42 3 (ean13_row (f ∷ ds))) ∙ ap (drop 42) from_guard ∙ drop_at left after_left 42 left_length

  from_centre : drop 50 (ean13_row (f ∷ ds)) ≡ after_centre
  unfolding centre after_left
  from_centre = sym (drop-drop 5 45 (ean13_row (f ∷ ds))) ∙ ap (drop 5) from_left

  from_right : drop 92 (ean13_row (f ∷ ds)) ≡ guard
  unfolding after_centre
  from_right = sym (drop-drop 42 50 (ean13_row (f ∷ ds))) ∙ ap (drop 42) from_centre ∙ drop_at right guard 42 right_length

  guards_are : (same guard (take 3 (drop 0 (ean13_row (f ∷ ds)))) && same centre (take 5 after_left) && same guard (take 3 guard)) ≡ true
  unfolding guard centre after_left same
  guards_are = rw row_is refl

  pub row_framed : framed (ean13_row (f ∷ ds)) ≡ true
  unfolding framed
  row_framed = rw (row_length, from_left, from_right) guards_are

  -- the cells of a digit left of the centre, and of one right of it
  pub left_cells : (k : ℕ) → k < 6 → digit_cells k (ean13_row (f ∷ ds)) ≡ in_set (get_or (parity_row f) k 0) (get_or ds k 0)
  unfolding digit_cells digit_place left
  left_cells k h =
      rw (lt-ltb k 6 h)
      (ap (take 7) (sym (drop-drop (7 * k) 3 (ean13_row (f ∷ ds))) ∙ ap (drop (7 * k)) from_guard)
      ∙ drawn_at (parity_row f) ds after_left k (parity_sides f hf) hd (omega (arith, parity_length f hf)) (omega arith))

  pub right_cells : (k : ℕ) → 6 ≤ k → k < 12 → digit_cells k (ean13_row (f ∷ ds)) ≡ in_set set_c (get_or ds k 0)
  unfolding digit_cells digit_place right after_centre
  right_cells k h l =
      let j = k - 6 in
      let place : 8 + 7 * k ≡ 50 + 7 * j = omega arith in
      let back : 6 + j ≡ k = omega arith in
      rw (le-ltb k 6 h)
      (ap (λ (n : ℕ). take 7 (drop n (ean13_row (f ∷ ds)))) place
      ∙ ap (take 7) (sym (drop-drop (7 * j) 50 (ean13_row (f ∷ ds))) ∙ ap (drop (7 * j)) from_centre)
      ∙ drawn_at (replicate 6 set_c) (drop 6 ds) guard j right_sides right_digits_lem (omega arith) (omega (arith, length-drop 6 ds))
      ∙ ap₂ in_set (get_or-replicate 6 j set_c 0 (omega arith)) (get_or-drop 6 ds j 0 ∙ ap (λ (n : ℕ). get_or ds n 0) back))

  -- ---- the digits that are read from it

  left_below : (k : ℕ) → k < 6 → get_or (parity_row f) k 0 < 2
  left_below k h = below_two (get_or (parity_row f) k 0) (each_at _ (parity_row f) k 0 (parity_sets f hf).0 (omega (arith, parity_length f hf)))
    where
      below_two : (s : ℕ) → (s ≡ set_a) ⊎ (s ≡ set_b) → s < 2
      below_two s (inl e) = omega arith
      below_two s (inr e) = omega arith

  digit_below : (k : ℕ) → k < 12 → get_or ds k 0 < 10
  digit_below k h = each_at Digit ds k 0 hd (omega arith)

  set_read : (k : ℕ) → k < 6 → left_set (digit_cells k (ean13_row (f ∷ ds))) ≡ get_or (parity_row f) k 0
  set_read k h = ap left_set (left_cells k h) ∙ left_set_lem (get_or (parity_row f) k 0) (get_or ds k 0) (left_below k h) (digit_below k (omega arith))

  left_read : (k : ℕ) → k < 6 → digit_in (left_set (digit_cells k (ean13_row (f ∷ ds)))) (digit_cells k (ean13_row (f ∷ ds))) ≡ get_or ds k 0
  left_read k h =
      ap₂ digit_in (set_read k h) (left_cells k h)
      ∙ digit_found (get_or (parity_row f) k 0) (get_or ds k 0) (omega (arith, left_below k h)) (digit_below k (omega arith))

  right_read : (k : ℕ) → 6 ≤ k → k < 12 → digit_in set_c (digit_cells k (ean13_row (f ∷ ds))) ≡ get_or ds k 0
  right_read k h l = ap (digit_in set_c) (right_cells k h l) ∙ digit_found set_c (get_or ds k 0) (omega arith) (digit_below k l)

  sets_read : list_of (λ k. left_set (digit_cells k (ean13_row (f ∷ ds)))) 0 6 ≡ parity_row f
  sets_read = list_is _ 0 6 (parity_row f) (parity_length f hf) (λ i h. rw (zero-add i) (set_read i h))

  lefts_read : list_of (λ k. digit_in (left_set (digit_cells k (ean13_row (f ∷ ds)))) (digit_cells k (ean13_row (f ∷ ds)))) 0 6 ≡ take 6 ds
  lefts_read = list_is _ 0 6 (take 6 ds) (length-take-le 6 ds (omega arith)) (λ i h. rw (zero-add i) (left_read i h ∙ sym (get_or-take 6 ds i 0 h)))

  rights_read : list_of (λ k. digit_in set_c (digit_cells k (ean13_row (f ∷ ds)))) 6 6 ≡ drop 6 ds
  rights_read = list_is _ 6 6 (drop 6 ds) (length-drop 6 ds ∙ omega arith) (λ i h. right_read (6 + i) (omega arith) (omega arith) ∙ sym (get_or-drop 6 ds i 0))

  pub row_read : digits_read (ean13_row (f ∷ ds)) ≡ f ∷ ds
  unfolding digits_read
  row_read = rw (sets_read, lefts_read, rights_read, parity_found f hf) (ap (λ (l : List ℕ). f ∷ l) (take-append-drop 6 ds))

-- ---- the row of the digits that are read

each_left : (P : ℕ → Type 0) (f : ℕ → ℕ) (k n : ℕ) (rest : List ℕ) → Each P (list_of f k n ++ rest) → (i : ℕ) → i < n → P (f (k + i))
each_left P f k n rest a i h = rw (← list_at f k n i h, ← get_or-append (list_of f k n) rest 0 i (omega (arith, list_length f k n))) (each_at P (list_of f k n ++ rest) i 0 a (omega (arith, length-append (list_of f k n) rest, list_length f k n)))

-- the blocks of a row from block k on, each the cells of its digit
blocks : (S D : ℕ → ℕ) (row : List ℕ) (a k n : ℕ) (rest : List ℕ) → ((i : ℕ) → i < n → in_set (S (k + i)) (D (k + i)) ≡ take 7 (drop (a + 7 * (k + i)) row))
    → in_sets (list_of S k n) (list_of D k n ++ rest) ≡ take (7 * n) (drop (a + 7 * k) row)
unfolding in_sets list_of
blocks S D row a k zero rest e = refl
blocks S D row a k (suc n) rest e =
    let first : in_set (S k) (D k) ≡ take 7 (drop (a + 7 * k) row) = rw (add-zero k) at (e 0 (omega arith)) in
    let place : a + 7 * suc k ≡ a + 7 * k + 7 = omega arith in
    let size : 7 + 7 * n ≡ 7 * suc n = omega arith in
    ap₂ ◌++◌ first (blocks S D row a (suc k) n rest (λ i l. let up : suc k + i ≡ k + suc i = omega arith in rw up (e (suc i) (omega arith))) ∙ ap (λ (m : ℕ). take (7 * n) (drop m row)) place ∙ ap (take (7 * n)) (sym (drop-drop 7 (a + 7 * k) row)))
    ∙ sym (take-add 7 (7 * n) (drop (a + 7 * k) row))
    ∙ ap (λ (m : ℕ). take m (drop (a + 7 * k) row)) size

module _ (row : List ℕ) where
  -- the cells of a row from place a on, n of them and the others
  cut : (a n : ℕ) → drop a row ≡ take n (drop a row) ++ drop (a + n) row
  cut a n = sym (take-append-drop n (drop a row)) ∙ ap (λ (x : List ℕ). take n (drop a row) ++ x) (drop-drop n a row)

  -- a row of 95 cells in five parts
  five_parts : length row ≡ 95
      → row ≡ take 3 (drop 0 row) ++ (take 42 (drop 3 row) ++ (take 5 (drop 45 row) ++ (take 42 (drop 50 row) ++ take 3 (drop 92 row))))
  five_parts h =
      let last : drop 92 row ≡ take 3 (drop 92 row) = sym (take_all 3 (drop 92 row) (omega (arith, length-drop 92 row))) in
      cut 0 3
      ∙ ap (λ (x : List ℕ). take 3 (drop 0 row) ++ x)
      (cut 3 42
      ∙ ap (λ (x : List ℕ). take 42 (drop 3 row) ++ x)
      (cut 45 5 ∙ ap (λ (x : List ℕ). take 5 (drop 45 row) ++ x) (cut 50 42 ∙ ap (λ (x : List ℕ). take 42 (drop 50 row) ++ x) last)))

  abbrev first : ℕ
  first = first_of parity_row 10 0 (sets_left row)

  module _ (h : first < 10) (a : Each Digit (digits_left row ++ digits_right row)) where
    left_block : (i : ℕ) → i < 6 → in_set (left_set (digit_cells (0 + i) row)) (digit_in (left_set (digit_cells (0 + i) row)) (digit_cells (0 + i) row)) ≡ take 7 (drop (3 + 7 * (0 + i)) row)
    unfolding digit_in digit_cells digit_place
    left_block i l =
        let found = each_left Digit (λ k. digit_in (left_set (digit_cells k row)) (digit_cells k row)) 0 6 (digits_right row) a i l in
        first_hit (in_set (left_set (digit_cells (0 + i) row))) (digit_cells (0 + i) row) 10 0 found
        ∙ ap (λ (n : ℕ). take 7 (drop n row)) (place_left (0 + i) (omega arith))
      where
        place_left : (k : ℕ) → k < 6 → (if ltb k 6 then 3 + 7 * k else 8 + 7 * k) ≡ 3 + 7 * k
        place_left k l = rw (lt-ltb k 6 l)

    each_right : (i : ℕ) → i < 6 → digit_in set_c (digit_cells (6 + i) row) < 10
    each_right i l =
        rw (← list_at (λ k. digit_in set_c (digit_cells k row)) 6 6 i l)
        (each_at Digit (digits_right row) i 0 (each_rest Digit (digits_left row) (digits_right row) a) (omega (arith, digits_right_length row)))
      where
        each_rest : (P : ℕ → Type 0) (xs ys : List ℕ) → Each P (xs ++ ys) → Each P ys
        each_rest P [] ys b = b
        each_rest P (x ∷ xs) ys b = each_rest P xs ys b.1

    right_block : (i : ℕ) → i < 6 → in_set set_c (digit_in set_c (digit_cells (6 + i) row)) ≡ take 7 (drop (8 + 7 * (6 + i)) row)
    unfolding digit_in digit_cells digit_place
    right_block i l =
        first_hit (in_set set_c) (digit_cells (6 + i) row) 10 0 (each_right i l)
        ∙ ap (λ (n : ℕ). take 7 (drop n row)) (place_right (6 + i) (omega arith))
      where
        place_right : (k : ℕ) → 6 ≤ k → (if ltb k 6 then 3 + 7 * k else 8 + 7 * k) ≡ 8 + 7 * k
        place_right k l = rw (le-ltb k 6 l)

    lefts_drawn : in_sets (parity_row first) (digits_left row ++ digits_right row) ≡ take 42 (drop 3 row)
    lefts_drawn =
        ap (λ (ss : List ℕ). in_sets ss (digits_left row ++ digits_right row)) (first_hit parity_row (sets_left row) 10 0 h)
        ∙ blocks (λ k. left_set (digit_cells k row)) (λ k. digit_in (left_set (digit_cells k row)) (digit_cells k row)) row 3 0 6 (digits_right row) left_block

    rights_drawn : in_sets (replicate 6 set_c) (drop 6 (digits_left row ++ digits_right row)) ≡ take 42 (drop 50 row)
    unfolding list_of
    rights_drawn =
        ap (in_sets (replicate 6 set_c)) (drop_at (digits_left row) (digits_right row) 6 (digits_left_length row) ∙ sym (append-nil (digits_right row)))
        ∙ blocks (λ k. set_c) (λ k. digit_in set_c (digit_cells k row)) row 8 6 6 [] right_block

    -- a row with the length and the guards is the row of the digits read, where all are digits
    pub row_of_read : framed row ≡ true → row ≡ ean13_row (digits_read row)
    unfolding framed digits_read
    row_of_read e =
        let ended = and_true _ (same guard (take 3 (drop 92 row))) e in
        let centred = and_true _ (same centre (take 5 (drop 45 row))) ended.0 in
        let begun = and_true (eqb (length row) 95) (same guard (take 3 (drop 0 row))) centred.0 in
        five_parts (eqb-true (length row) 95 begun.0)
        ∙ ap₂ ◌++◌ (sym (same_true guard (take 3 (drop 0 row)) begun.1))
        (ap₂ ◌++◌ (sym lefts_drawn)
        (ap₂ ◌++◌ (sym (same_true centre (take 5 (drop 45 row)) centred.1)) (ap₂ ◌++◌ (sym rights_drawn) (sym (same_true guard (take 3 (drop 92 row)) ended.1)))))
        ∙ sym (row_parts first (digits_left row ++ digits_right row))
