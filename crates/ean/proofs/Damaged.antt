-- A written row in which the cells of one drawn digit, or any one cell, are changed, or that is
-- taken upside down: no text is written so.
-- Assumes nothing.
use Prim.Native.Nat.{ℕ, zero, suc, ◌+◌, ◌-◌, ◌*◌, ◌/◌, ◌<◌, ◌≤◌, min}
use mathlib.Core.Path.{◌≡◌, refl, sym, ap, ◌∙◌}
use mathlib.Core.Logic.{◌≢◌, ◌⊎◌, inl, inr}
use mathlib.Core.Bool.{true}
use mathlib.Core.List.{List, ◌++◌, append_assoc, reverse, reverse-append}
use native.Mathlib.Omega.{arith}
use native.Mathlib.Decide.{ℕ_discrete, dec_lt}
use lib.Dec.{ltb}
use lib.ListN.{length, get_or, take, drop, set, length-set, length-append, length-take, length-drop, length-reverse, take-append-drop, get_or-append}
use lib.Seq.{length-take-le, take_at, drop_at, drop-drop, get_or-take, get_or-drop, get_or-append-add, get_or-set_same, get_or-set_other, ext_get_or}
use borrow.Author.Tests.{lt-ltb, le-ltb}
use Rattle.std.specs.Prelude.{if◌then◌else◌}
use Rattle.helpers.specs.Answers.{refuse, accept}
use Rattle.helpers.specs.Modulo10.{modulo10}
use Rattle.helpers.proofs.Answering.{each_at, into_accept}
use Rattle.helpers.proofs.Sums.{check_one}
use Rattle.ean.specs.Ean13.{set_a, set_b, set_c, in_b, in_set, parity_row, ean13_row, thirteen, write_ean13, digit_place, digit_cells, read_ean13, set_at, redrawn_as}
use Rattle.ean.specs.Terms.{Digit}
use Rattle.ean.proofs.Tables.{digit_rule, digits_apart, parity_length, parity_sets, parity_two_places}
use Rattle.ean.proofs.Texts.{any_default, Thirteen, valid_thirteen, plain, write_is, plain_valid}
use Rattle.ean.proofs.Reading.{set_left, set_right, length_row, cells_at, ean13_reads_back}

-- ---- thirteen digits that agree but for one place are the same

module _ (ds es : List ℕ) (p : Thirteen ds) (q : Thirteen es) (k : ℕ) (agree : (i : ℕ) → i < 13 → i ≢ k → get_or ds i 0 ≡ get_or es i 0) where
  long : length ds ≡ length es
  long = p.long ∙ sym q.long

  -- the first twelve of the one are those of the other, with another number at place k
  first_twelve : set (take 12 ds) k (get_or es k 0) ≡ take 12 es
  first_twelve =
      let twelve : length (take 12 ds) ≡ 12 = length-take-le 12 ds (omega (arith, p.long)) in
      ext_get_or 0 _ _ (length-set (take 12 ds) k (get_or es k 0) ∙ twelve ∙ sym (length-take-le 12 es (omega (arith, q.long))))
      (λ i h. at_place i (omega (arith, length-set (take 12 ds) k (get_or es k 0), twelve)) twelve)
    where
      at_place : (i : ℕ) → i < 12 → length (take 12 ds) ≡ 12 → get_or (set (take 12 ds) k (get_or es k 0)) i 0 ≡ get_or (take 12 es) i 0
      at_place i h twelve =
          elim (ℕ_discrete i k) [
            | yes e ↦ rw e (get_or-set_same (take 12 ds) k (get_or es k 0) 0 (omega arith) ∙ sym (get_or-take 12 es k 0 (omega arith)))
            | no n ↦ get_or-set_other (take 12 ds) k i (get_or es k 0) 0 n ∙ get_or-take 12 ds i 0 h ∙ agree i (omega arith) n ∙ sym (get_or-take 12 es i 0 h)
          ]

  -- the check tells a changed digit, and is told by the others
  at_k : k < 13 → get_or ds k 0 ≡ get_or es k 0
  at_k h = elim (dec_lt k 12) [ yes l ↦ a_digit l | no l ↦ the_check (omega arith) ]
    where
      a_digit : k < 12 → get_or ds k 0 ≡ get_or es k 0
      a_digit l =
          let here : get_or (take 12 ds) k 0 ≡ get_or ds k 0 = get_or-take 12 ds k 0 l in
          let checks : modulo10 true (set (take 12 ds) k (get_or es k 0)) ≡ modulo10 true (take 12 ds) =
          ap (modulo10 true) first_twelve ∙ sym q.right ∙ sym (agree 12 (omega arith) (λ e. absurd (omega arith))) ∙ p.right in
          sym here
          ∙ sym (check_one true (take 12 ds) k (get_or es k 0) (omega (arith, length-take-le 12 ds (omega (arith, p.long))))
          (rw here (each_at Digit ds k 0 p.digits (omega (arith, p.long)))) (each_at Digit es k 0 q.digits (omega (arith, q.long))) checks)

      the_check : k ≡ 12 → get_or ds k 0 ≡ get_or es k 0
      the_check e =
          let alike : take 12 ds ≡ take 12 es =
          ext_get_or 0 _ _ (length-take-le 12 ds (omega (arith, p.long)) ∙ sym (length-take-le 12 es (omega (arith, q.long))))
          (λ i h. let l : i < 12 = omega (arith, length-take-le 12 ds (omega (arith, p.long))) in get_or-take 12 ds i 0 l ∙ agree i (omega arith) (λ r. absurd (omega arith)) ∙ sym (get_or-take 12 es i 0 l)) in
          rw e (p.right ∙ ap (modulo10 true) alike ∙ sym q.right)

  pub one_place : ds ≡ es
  one_place = ext_get_or 0 ds es long (λ i h. place_case i (omega (arith, p.long)))
    where
      place_case : (i : ℕ) → i < 13 → get_or ds i 0 ≡ get_or es i 0
      place_case i h = elim (ℕ_discrete i k) [ yes e ↦ rw e (at_k (omega arith)) | no n ↦ agree i h n ]

-- ---- the cells of one drawn digit changed

place_least : (k : ℕ) → (k < 6) → digit_place k ≡ 3 + 7 * k
unfolding digit_place
place_least k h = rw (lt-ltb k 6 h)

place_most : (k : ℕ) → 6 ≤ k → digit_place k ≡ 8 + 7 * k
unfolding digit_place
place_most k h = rw (le-ltb k 6 h)

-- the blocks of two digits do not overlap
places_apart : (j k : ℕ) → j < k → digit_place j + 7 ≤ digit_place k
places_apart j k h =
    elim (dec_lt j 6) [
      | yes a ↦ elim (dec_lt k 6) [ yes b ↦ omega (arith, place_least j a, place_least k b) | no b ↦ omega (arith, place_least j a, place_most k (omega arith)) ]
      | no a ↦ omega (arith, place_most j (omega arith), place_most k (omega arith))
    ]

place_within : (k : ℕ) → k < 12 → digit_place k + 7 ≤ 92
place_within k h = elim (dec_lt k 6) [ yes a ↦ omega (arith, place_least k a) | no a ↦ omega (arith, place_most k (omega arith)) ]

-- two rows with the same cells in the block of a digit
cells_alike : (x y : List ℕ) (j : ℕ) → length x ≡ length y → ((m : ℕ) → m < 7 → get_or x (digit_place j + m) 0 ≡ get_or y (digit_place j + m) 0) → digit_cells j x ≡ digit_cells j y
unfolding digit_cells
cells_alike x y j e f =
    let size : (z : List ℕ) → length (take 7 (drop (digit_place j) z)) ≡ min 7 (length z - digit_place j) = λ z. length-take 7 (drop (digit_place j) z) ∙ ap (min 7) (length-drop (digit_place j) z) in
    ext_get_or 0 _ _ (size x ∙ ap (λ (n : ℕ). min 7 (n - digit_place j)) e ∙ sym (size y)) (λ m b. at_cell m (omega (arith, size x)))
  where
    at_cell : (m : ℕ) → m < 7 → get_or (take 7 (drop (digit_place j) x)) m 0 ≡ get_or (take 7 (drop (digit_place j) y)) m 0
    at_cell m b =
        get_or-take 7 (drop (digit_place j) x) m 0 b
        ∙ get_or-drop (digit_place j) x m 0
        ∙ f m b
        ∙ sym (get_or-take 7 (drop (digit_place j) y) m 0 b ∙ get_or-drop (digit_place j) y m 0)

module _ (k : ℕ) (cells r : List ℕ) (h : k < 12) (seven : length cells ≡ 7) (long : length r ≡ 95) where
  place : ℕ
  place = digit_place k

  front : List ℕ
  front = take (digit_place k) r ++ cells

  front_take : length (take (digit_place k) r) ≡ digit_place k
  front_take = length-take-le (digit_place k) r (omega (arith, place_within k h))

  front_length : length front ≡ digit_place k + 7
  unfolding front
  front_length = length-append (take (digit_place k) r) cells ∙ omega (arith, front_take)

  pub this_digit : digit_cells k (redrawn_as k cells r) ≡ cells
  unfolding digit_cells redrawn_as
  this_digit =
      ap (λ (x : List ℕ). take 7 (drop (digit_place k) x)) (append_assoc (take (digit_place k) r) cells (drop (digit_place k + 7) r))
      ∙ ap (take 7) (drop_at (take (digit_place k) r) (cells ++ drop (digit_place k + 7) r) (digit_place k) front_take)
      ∙ take_at cells (drop (digit_place k + 7) r) 7 seven

  before : (n : ℕ) → n < digit_place k → get_or (redrawn_as k cells r) n 0 ≡ get_or r n 0
  unfolding redrawn_as front
  before n l =
      get_or-append front (drop (digit_place k + 7) r) 0 n (omega (arith, front_length))
      ∙ get_or-append (take (digit_place k) r) cells 0 n (omega (arith, front_take))
      ∙ get_or-take (digit_place k) r n 0 l

  after : (n : ℕ) → digit_place k + 7 ≤ n → get_or (redrawn_as k cells r) n 0 ≡ get_or r n 0
  unfolding redrawn_as front
  after n l =
      let m = n - (digit_place k + 7) in
      let there : n ≡ length front + m = omega (arith, front_length) in
      let back : digit_place k + 7 + m ≡ n = omega arith in
      ap (λ (i : ℕ). get_or (front ++ drop (digit_place k + 7) r) i 0) there
      ∙ get_or-append-add front (drop (digit_place k + 7) r) m 0
      ∙ get_or-drop (digit_place k + 7) r m 0
      ∙ ap (λ (i : ℕ). get_or r i 0) back

  redrawn_length : length (redrawn_as k cells r) ≡ 95
  unfolding redrawn_as front
  redrawn_length = length-append front (drop (digit_place k + 7) r) ∙ omega (arith, front_length, length-drop (digit_place k + 7) r, place_within k h)

  pub other_digit : (j : ℕ) → j < 12 → j ≢ k → digit_cells j (redrawn_as k cells r) ≡ digit_cells j r
  other_digit j l n = cells_alike (redrawn_as k cells r) r j (redrawn_length ∙ sym long) same_cell
    where
      after_other : (j < k → ⊥) → k < j
      after_other a = omega arith

      same_cell : (m : ℕ) → m < 7 → get_or (redrawn_as k cells r) (digit_place j + m) 0 ≡ get_or r (digit_place j + m) 0
      same_cell m b =
          elim (dec_lt j k) [
            | yes a ↦ before (digit_place j + m) (omega (arith, places_apart j k a))
            | no a ↦ after (digit_place j + m) (let c : k < j = after_other a in omega (arith, places_apart k j c))
          ]

-- ---- no text is written so

-- the set of a drawn digit is one of the three
pub set_below : (f k : ℕ) → f < 10 → k < 12 → set_at f k < 3
set_below f k h l = elim (dec_lt k 6) [ yes a ↦ to_left a | no a ↦ omega (arith, set_right f k h (omega arith) l) ]
  where
    of_two : (s : ℕ) → (s ≡ set_a) ⊎ (s ≡ set_b) → s < 3
    of_two s (inl e) = omega arith
    of_two s (inr e) = omega arith

    to_left : k < 6 → set_at f k < 3
    to_left a = rw (set_left f k h a) (of_two _ (each_at (λ s. (s ≡ set_a) ⊎ (s ≡ set_b)) (parity_row f) k 0 (parity_sets f h).0 (omega (arith, parity_length f h))))

-- two rows of thirteen digits whose drawn digits have the same cells but for one are the same
module _ (ds es : List ℕ) (p : Thirteen ds) (q : Thirteen es) (k : ℕ)
    (alike : (j : ℕ) → j < 12 → j ≢ k → digit_cells j (ean13_row ds) ≡ digit_cells j (ean13_row es)) where
  below_ten : (l : List ℕ) → Thirteen l → (i : ℕ) → i < 13 → get_or l i 0 < 10
  below_ten l t i h = each_at Digit l i 0 t.digits (omega (arith, t.long))

  f : ℕ
  f = get_or ds 0 0

  g : ℕ
  g = get_or es 0 0

  drawn_alike : (j : ℕ) → j < 12 → j ≢ k → (set_at f j ≡ set_at g j) × (get_or ds (j + 1) 0 ≡ get_or es (j + 1) 0)
  unfolding f g
  drawn_alike j h n =
      digits_apart (set_at f j) (get_or ds (j + 1) 0) (set_at g j) (get_or es (j + 1) 0)
      (set_below f j (below_ten ds p 0 (omega arith)) h) (below_ten ds p (j + 1) (omega arith))
      (set_below g j (below_ten es q 0 (omega arith)) h) (below_ten es q (j + 1) (omega arith))
      (sym (cells_at ds p j h) ∙ alike j h n ∙ cells_at es q j h)

  rows_alike : set (parity_row f) k set_c ≡ set (parity_row g) k set_c
  unfolding f g
  rows_alike =
      let fl = parity_length f (below_ten ds p 0 (omega arith)) in
      let gl = parity_length g (below_ten es q 0 (omega arith)) in
      ext_get_or 0 _ _ (length-set (parity_row f) k set_c ∙ fl ∙ sym (length-set (parity_row g) k set_c ∙ gl))
      (λ i h. at_place i (omega (arith, length-set (parity_row f) k set_c, fl)) fl gl)
    where
      at_place : (i : ℕ) → i < 6 → length (parity_row f) ≡ 6 → length (parity_row g) ≡ 6 → get_or (set (parity_row f) k set_c) i 0 ≡ get_or (set (parity_row g) k set_c) i 0
      at_place i h fl gl =
          elim (ℕ_discrete i k) [
            | yes e ↦ rw e (get_or-set_same (parity_row f) k set_c 0 (omega arith) ∙ sym (get_or-set_same (parity_row g) k set_c 0 (omega arith)))
            | no n ↦
                get_or-set_other (parity_row f) k i set_c 0 n
                ∙ sym (set_left f i (below_ten ds p 0 (omega arith)) h)
                ∙ (drawn_alike i (omega arith) n).0
                ∙ set_left g i (below_ten es q 0 (omega arith)) h
                ∙ sym (get_or-set_other (parity_row g) k i set_c 0 n)
          ]

  pub one_digit : ds ≡ es
  unfolding f g
  one_digit = one_place ds es p q (k + 1) digit_case
    where
      digit_case : (i : ℕ) → i < 13 → i ≢ k + 1 → get_or ds i 0 ≡ get_or es i 0
      digit_case zero h n = parity_two_places f g k (below_ten ds p 0 (omega arith)) (below_ten es q 0 (omega arith)) rows_alike
      digit_case (suc j) h n =
          let up : suc j ≡ j + 1 = omega arith in
          rw up (drawn_alike j (omega arith) (λ e. n (omega arith))).1

-- ---- the answers

module _ (room room' : ℕ) (x : List ℕ) (n : ℕ) (r : List ℕ) (w : write_ean13 room x ≡ accept n r) (k : ℕ) (h : k < 12) where
  pub changed_refused : (cells : List ℕ) → length cells ≡ 7 → cells ≢ digit_cells k r → read_ean13 room' (redrawn_as k cells r) ≡ refuse 33 0
  changed_refused cells seven other = (ean13_reads_back.never_written room' 0 (redrawn_as k cells r)).1 (refl, never)
    where
      never : (room'' : ℕ) (y : List ℕ) (m : ℕ) → write_ean13 room'' y ≢ accept m (redrawn_as k cells r)
      never room'' y m v =
          let a = plain_valid x n r (into_accept room (plain x) (sym (write_is room x) ∙ w)).0 in
          let b = plain_valid y m (redrawn_as k cells r) (into_accept room'' (plain y) (sym (write_is room'' y) ∙ v)).0 in
          let p = valid_thirteen x a.0 in
          let q = valid_thirteen y b.0 in
          let long : length r ≡ 95 = ap length (sym a.1) ∙ length_row (thirteen x) p in
          let alike : (j : ℕ) → j < 12 → j ≢ k → digit_cells j (ean13_row (thirteen x)) ≡ digit_cells j (ean13_row (thirteen y)) =
          λ j l d. ap (digit_cells j) a.1 ∙ sym (other_digit k cells r h seven long j l d) ∙ ap (digit_cells j) (sym b.1) in
          let rows : r ≡ redrawn_as k cells r = sym a.1 ∙ ap ean13_row (one_digit (thirteen x) (thirteen y) p q k alike) ∙ b.1 in
          other (sym (this_digit k cells r h seven long) ∙ ap (digit_cells k) (sym rows))

  pub redrawn_refused : (d : ℕ) → d < 10 → d ≢ get_or (thirteen x) (k + 1) 0
      → read_ean13 room' (redrawn_as k (in_set (set_at (get_or (thirteen x) 0 0) k) d) r) ≡ refuse 33 0
  redrawn_refused d l other =
      let a = plain_valid x n r (into_accept room (plain x) (sym (write_is room x) ∙ w)).0 in
      let p = valid_thirteen x a.0 in
      let below : (i : ℕ) → i < 13 → get_or (thirteen x) i 0 < 10 = λ i m. each_at Digit (thirteen x) i 0 p.digits (omega (arith, p.long)) in
      let s = set_at (get_or (thirteen x) 0 0) k in
      let hs : s < 3 = set_below (get_or (thirteen x) 0 0) k (below 0 (omega arith)) h in
      let drawn : digit_cells k r ≡ in_set s (get_or (thirteen x) (k + 1) 0) = ap (digit_cells k) (sym a.1) ∙ cells_at (thirteen x) p k h in
      changed_refused (in_set s d) (digit_rule s d hs l).seven (λ e. other (digits_apart s d s (get_or (thirteen x) (k + 1) 0) hs l hs (below (k + 1) (omega arith)) (e ∙ drawn)).1)

-- ---- any one cell changed

-- the drawn digit that a cell is of, where it is of one
digit_of : ℕ → ℕ
digit_of i = if ltb i 45 then (i - 3) / 7 else 6 + (i - 50) / 7

-- it is of no other
outside : (i j : ℕ) → j < 12 → j ≢ digit_of i → (m : ℕ) → m < 7 → digit_place j + m ≢ i
unfolding digit_of
outside i j h n m l e = elim (dec_lt i 45) [ yes a ↦ early a | no a ↦ late (omega arith) ]
  where
    early : i < 45 → ⊥
    early a =
        let other : j ≢ (i - 3) / 7 = rw (lt-ltb i 45 a) at n in
        elim (dec_lt j 6) [ yes b ↦ other (omega (arith, place_least j b)) | no b ↦ absurd (omega (arith, place_most j (omega arith))) ]

    late : 45 ≤ i → ⊥
    late a =
        let other : j ≢ 6 + (i - 50) / 7 = rw (le-ltb i 45 a) at n in
        elim (dec_lt j 6) [ yes b ↦ absurd (omega (arith, place_least j b)) | no b ↦ other (omega (arith, place_most j (omega arith))) ]

module _ (room room' : ℕ) (x : List ℕ) (n : ℕ) (r : List ℕ) (w : write_ean13 room x ≡ accept n r) (i v : ℕ) (h : i < 95) (other : v ≢ get_or r i 0) where
  pub cell_refused : read_ean13 room' (set r i v) ≡ refuse 33 0
  cell_refused = (ean13_reads_back.never_written room' 0 (set r i v)).1 (refl, never)
    where
      same_block : (j : ℕ) → j < 12 → j ≢ digit_of i → digit_cells j (set r i v) ≡ digit_cells j r
      same_block j l d = cells_alike (set r i v) r j (length-set r i v) (λ m b. get_or-set_other r i (digit_place j + m) v 0 (outside i j l d m b))

      never : (room'' : ℕ) (y : List ℕ) (m : ℕ) → write_ean13 room'' y ≢ accept m (set r i v)
      never room'' y m u =
          let a = plain_valid x n r (into_accept room (plain x) (sym (write_is room x) ∙ w)).0 in
          let b = plain_valid y m (set r i v) (into_accept room'' (plain y) (sym (write_is room'' y) ∙ u)).0 in
          let p = valid_thirteen x a.0 in
          let q = valid_thirteen y b.0 in
          let long : length r ≡ 95 = ap length (sym a.1) ∙ length_row (thirteen x) p in
          let alike : (j : ℕ) → j < 12 → j ≢ digit_of i → digit_cells j (ean13_row (thirteen x)) ≡ digit_cells j (ean13_row (thirteen y)) =
          λ j l d. ap (digit_cells j) a.1 ∙ sym (same_block j l d) ∙ ap (digit_cells j) (sym b.1) in
          let rows : r ≡ set r i v = sym a.1 ∙ ap ean13_row (one_digit (thirteen x) (thirteen y) p q (digit_of i) alike) ∙ b.1 in
          other (sym (get_or-set_same r i v 0 (omega arith)) ∙ ap (λ (l : List ℕ). get_or l i 0) (sym rows))

-- ---- a row taken upside down

-- its first block is the last digit's, turned round: a digit of set B, where every row has one of A
first_block : (r : List ℕ) → length r ≡ 95 → digit_cells 0 (reverse r) ≡ reverse (digit_cells 11 r)
unfolding digit_cells digit_place
first_block r h =
    let rest : drop 85 r ≡ take 7 (drop 85 r) ++ drop 92 r = sym (take-append-drop 7 (drop 85 r)) ∙ ap (λ (x : List ℕ). take 7 (drop 85 r) ++ x) (drop-drop 7 85 r) in
    let parts : r ≡ (take 85 r ++ take 7 (drop 85 r)) ++ drop 92 r =
    sym (take-append-drop 85 r) ∙ ap (λ (x : List ℕ). take 85 r ++ x) rest ∙ sym (append_assoc (take 85 r) (take 7 (drop 85 r)) (drop 92 r)) in
    let turned : reverse r ≡ reverse (drop 92 r) ++ (reverse (take 7 (drop 85 r)) ++ reverse (take 85 r)) =
    ap reverse parts ∙ reverse-append (take 85 r ++ take 7 (drop 85 r)) (drop 92 r) ∙ ap (λ (x : List ℕ). reverse (drop 92 r) ++ x) (reverse-append (take 85 r) (take 7 (drop 85 r))) in
    ap (λ (x : List ℕ). take 7 (drop 3 x)) turned
    ∙ ap (take 7) (drop_at (reverse (drop 92 r)) (reverse (take 7 (drop 85 r)) ++ reverse (take 85 r)) 3 (length-reverse (drop 92 r) ∙ length-drop 92 r ∙ omega arith))
    ∙ take_at (reverse (take 7 (drop 85 r))) (reverse (take 85 r)) 7 (length-reverse (take 7 (drop 85 r)) ∙ length-take-le 7 (drop 85 r) (omega (arith, length-drop 85 r)))

-- the mirror of a digit in C is the digit in B
mirror : (d : ℕ) → reverse (in_set set_c d) ≡ in_set set_b d
unfolding in_set in_b
mirror d = refl

pub upside_down_refused : (room room' : ℕ) (x : List ℕ) (n : ℕ) (r : List ℕ) → write_ean13 room x ≡ accept n r → read_ean13 room' (reverse r) ≡ refuse 33 0
upside_down_refused room room' x n r w = (ean13_reads_back.never_written room' 0 (reverse r)).1 (refl, never)
  where
    never : (room'' : ℕ) (y : List ℕ) (m : ℕ) → write_ean13 room'' y ≢ accept m (reverse r)
    never room'' y m v =
        let a = plain_valid x n r (into_accept room (plain x) (sym (write_is room x) ∙ w)).0 in
        let b = plain_valid y m (reverse r) (into_accept room'' (plain y) (sym (write_is room'' y) ∙ v)).0 in
        let p = valid_thirteen x a.0 in
        let q = valid_thirteen y b.0 in
        let f = get_or (thirteen x) 0 0 in
        let g = get_or (thirteen y) 0 0 in
        let below : (l : List ℕ) → Thirteen l → (i : ℕ) → i < 13 → get_or l i 0 < 10 = λ l t i h. each_at Digit l i 0 t.digits (omega (arith, t.long)) in
        let long : length r ≡ 95 = ap length (sym a.1) ∙ length_row (thirteen x) p in
        let first_set : set_at g 0 ≡ set_a = set_left g 0 (below (thirteen y) q 0 (omega arith)) (omega arith) ∙ first_of_A g (below (thirteen y) q 0 (omega arith)) in
        let last : digit_cells 11 r ≡ in_set set_c (get_or (thirteen x) 12 0) =
        ap (digit_cells 11) (sym a.1) ∙ cells_at (thirteen x) p 11 (omega arith) ∙ ap (λ (s : ℕ). in_set s (get_or (thirteen x) 12 0)) (set_right f 11 (below (thirteen x) p 0 (omega arith)) (omega arith) (omega arith)) in
        let both : in_set set_a (get_or (thirteen y) 1 0) ≡ in_set set_b (get_or (thirteen x) 12 0) =
        ap (λ (s : ℕ). in_set s (get_or (thirteen y) 1 0)) (sym first_set)
        ∙ sym (cells_at (thirteen y) q 0 (omega arith))
        ∙ ap (digit_cells 0) b.1
        ∙ first_block r long
        ∙ ap reverse last
        ∙ mirror (get_or (thirteen x) 12 0) in
        let apart = (digits_apart set_a (get_or (thirteen y) 1 0) set_b (get_or (thirteen x) 12 0) (omega arith) (below (thirteen y) q 1 (omega arith)) (omega arith) (below (thirteen x) p 12 (omega arith)) both).0 in
        absurd (omega arith)
      where
        first_of_A : (g : ℕ) → g < 10 → get_or (parity_row g) 0 0 ≡ set_a
        first_of_A g h = any_default (parity_row g) 0 0 set_c (omega (arith, parity_length g h)) ∙ (parity_sets g h).1

-- ---- a digit redrawn as itself

pub redrawn_itself : (room : ℕ) (x : List ℕ) (n : ℕ) (r : List ℕ) → write_ean13 room x ≡ accept n r
    → (k : ℕ) → k < 12 → redrawn_as k (in_set (set_at (get_or (thirteen x) 0 0) k) (get_or (thirteen x) (k + 1) 0)) r ≡ r
unfolding redrawn_as digit_cells
redrawn_itself room x n r w k h =
    let a = plain_valid x n r (into_accept room (plain x) (sym (write_is room x) ∙ w)).0 in
    let drawn : digit_cells k r ≡ in_set (set_at (get_or (thirteen x) 0 0) k) (get_or (thirteen x) (k + 1) 0) = ap (digit_cells k) (sym a.1) ∙ cells_at (thirteen x) (valid_thirteen x a.0) k h in
    ap (λ (c : List ℕ). take (digit_place k) r ++ c ++ drop (digit_place k + 7) r) (sym drawn)
    ∙ append_assoc (take (digit_place k) r) (digit_cells k r) (drop (digit_place k + 7) r)
    ∙ ap (λ (y : List ℕ). take (digit_place k) r ++ y) (ap (λ (y : List ℕ). take 7 (drop (digit_place k) r) ++ y) (sym (drop-drop 7 (digit_place k) r)) ∙ take-append-drop 7 (drop (digit_place k) r))
    ∙ take-append-drop (digit_place k) r
