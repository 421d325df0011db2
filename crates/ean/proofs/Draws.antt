-- A loop that draws digits in their sets, a row stored part by part, and write after its tests.
-- Assumes nothing.
use Prim.Native.Nat.{ℕ, ◌+◌, ◌-◌, ◌*◌, ◌<◌, ◌≤◌}
use mathlib.Core.Path.{◌≡◌, refl, sym, ap, ◌∙◌}
use mathlib.Core.List.{List, [], ◌∷◌, ◌++◌}
use mathlib.Core.Logic.{◌⊎◌, inl, inr}
use Rattle.std.proofs.lemmas.List.{nil_from_length}
use native.Mathlib.Omega.{arith}
use lib.ListN.{length, get_or, take, drop, replicate, length-drop}
use lib.Seq.{sets, drop-cons, length-take-le}
use borrow.Rule.Slice.PartMut.{mid_of, put_mid}
use Rattle.helpers.specs.Answers.{Each, refuse, accept, whole, into}
use Rattle.std.specs.Prelude.{Result, Ok}
use Rattle.helpers.specs.declared.Refusal.{Refusal}
use Rattle.helpers.proofs.Answering.{each_at, each_take, each_drop, accept_output, into_room, into_short}
use Rattle.helpers.proofs.Writes.{Writing, writing_block, writing_end}
use Rattle.helpers.proofs.Part.{part_stored}
use Rattle.ean.specs.Ean13.{set_c, in_set, parity_row, guard, centre, in_sets, ean13_row, thirteen, write_ean13}
use Rattle.ean.specs.Terms.{Digit, Side, tested, listed}
use Rattle.ean.specs.declared.ean13.TheConstants.{ENCODINGS, PARITY}
use Rattle.ean.proofs.Tables.{table_at, digit_length, row_at, parity_length}
use Rattle.ean.proofs.Rows.{parity_sides, right_sides, drawn_length, row_length}
use Rattle.ean.proofs.Values.{thirteen_digits, thirteen_length, tested_proper, tested_thirteen, write_on}

-- ---- digits in their sets

-- digits after those that have a set are not drawn
pub in_sets_take : (ss ds : List ℕ) → in_sets ss (take (length ss) ds) ≡ in_sets ss ds
unfolding in_sets
in_sets_take [] ds = refl
in_sets_take (s ∷ ss) [] = refl
in_sets_take (s ∷ ss) (d ∷ ds) = ap (λ (l : List ℕ). in_set s d ++ l) (in_sets_take ss ds)

-- A loop that draws digits in their sets: k are drawn, and ss and ds are left.
pub record Drawing (sides digits l₀ l : List ℕ) (k : ℕ) (ss ds : List ℕ) : Type 0 where
  pub of_sides : Each Side ss
  pub of_digits : Each Digit ds
  pub alike : length ss ≡ length ds
  pub all : k + length ss ≡ length sides
  pub writes : Writing l₀ 0 (in_sets sides digits) l (7 * k) (in_sets ss ds)

module _ {sides digits l₀ l ss ds : List ℕ} {k : ℕ} (p : Drawing sides digits l₀ l k ss ds) where
  module _ {s d : ℕ} {ss' ds' : List ℕ} (e : ss ≡ s ∷ ss') (f : ds ≡ d ∷ ds') where
    pub next_side : Side s
    next_side = (rw e at p.of_sides).0

    pub next_digit : Digit d
    next_digit = (rw f at p.of_digits).0

    pub next_within : k < length sides
    next_within = omega (arith, p.all, ap length e)

    pub drawing_turn : {m : List ℕ} → m ≡ sets l (7 * k) (in_set s d) → Drawing sides digits l₀ m (k + 1) ss' ds'
    unfolding in_sets
    drawing_turn g =
        record {
          of_sides = (rw e at p.of_sides).1;
          of_digits = (rw f at p.of_digits).1;
          alike = omega (arith, p.alike, ap length e, ap length f);
          all = omega (arith, p.all, ap length e);
          writes = writing_block (in_set s d) p.writes (rw (e, f)) g (omega (arith, digit_length s d next_side next_digit));
        }

  pub drawing_end : (length ss ≡ 0) ⊎ (length ds ≡ 0) → l ≡ sets l₀ 0 (in_sets sides digits)
  unfolding in_sets
  drawing_end h = writing_end p.writes (rw (nil_from_length ss (none h)) refl)
    where
      none : (length ss ≡ 0) ⊎ (length ds ≡ 0) → length ss ≡ 0
      none (inl e) = e
      none (inr e) = omega (arith, p.alike)

-- a digit's cells in the table, stored into their part of seven places
pub part_digit : (l m : List ℕ) (s d r q a e k : ℕ) → s ≡ r → d ≡ q → Side r → Digit q → e ≡ a + 7 → e ≤ length l → a ≡ 7 * k
    → m ≡ sets (mid_of a (e - a) l) 0 (get_or (get_or ENCODINGS s []) d []) → put_mid a (e - a) l m ≡ sets l (7 * k) (in_set r q)
part_digit l m s d r q a e k f g side digit h fits at w =
    let seven = digit_length r q side digit in
    let cells : get_or (get_or ENCODINGS s []) d [] ≡ in_set r q = rw (f, g) (table_at r q side digit) in
    rw (← at) (part_stored l m (in_set r q) a e (omega arith) fits (omega (arith, seven)) (w ∙ ap (sets (mid_of a (e - a) l) 0) cells))

-- ---- a row

-- Six digits, and the sets that they are drawn in.
pub record Six (ss ds : List ℕ) : Type 0 where
  pub sides : Each Side ss
  pub digits : Each Digit ds
  pub alike : length ss ≡ length ds
  pub six : length ss ≡ 6

module _ {ss ds : List ℕ} (p : Six ss ds) where
  pub six_length : length (in_sets ss ds) ≡ 42
  six_length = drawn_length ss ds p.sides p.digits (omega (arith, p.alike)) ∙ omega (arith, p.six)

-- the six digits from place n on
six_from : (ss ds : List ℕ) (n : ℕ) → Each Side ss → length ss ≡ 6 → Each Digit ds → length ds ≡ 13 → n ≤ 7 → Six ss (take 6 (drop n ds))
six_from ss ds n sides six a long h =
    let digits : length (take 6 (drop n ds)) ≡ 6 = length-take-le 6 (drop n ds) (omega (arith, length-drop n ds)) in
    record { sides = sides; digits = each_take Digit 6 (drop n ds) (each_drop Digit n ds a); alike = omega arith; six = six }

-- the cells left of the centre, where the first digit is known, and right of it
abbrev pub left_of : ℕ → List ℕ → List ℕ
left_of first ds = in_sets (get_or PARITY first []) (take 6 (drop 1 ds))

abbrev pub right_of : List ℕ → List ℕ
right_of ds = in_sets (replicate 6 set_c) (take 6 (drop 7 ds))

parts_of : (first : ℕ) (ds : List ℕ) → Digit first → ean13_row (first ∷ ds) ≡ guard ++ left_of first (first ∷ ds) ++ centre ++ right_of (first ∷ ds) ++ guard
unfolding ean13_row
parts_of first ds h =
    let left : left_of first (first ∷ ds) ≡ in_sets (parity_row first) ds =
    ap (λ (ss : List ℕ). in_sets ss (take 6 ds)) (row_at first) ∙ ap (λ (n : ℕ). in_sets (parity_row first) (take n ds)) (sym (parity_length first h)) ∙ in_sets_take (parity_row first) ds in
    let right : right_of (first ∷ ds) ≡ in_sets (replicate 6 set_c) (drop 6 ds) = in_sets_take (replicate 6 set_c) (drop 6 ds) in
    rw (left, right)

module _ (ds : List ℕ) (a : Each Digit ds) (long : length ds ≡ 13) where
  pub right_six : Six (replicate 6 set_c) (take 6 (drop 7 ds))
  right_six = six_from (replicate 6 set_c) ds 7 right_sides refl a long (omega arith)

  module _ (first : ℕ) (e : first ≡ get_or ds 0 0) where
    pub first_digit : Digit first
    first_digit = rw e (each_at Digit ds 0 0 a (omega arith))

    pub left_six : Six (get_or PARITY first []) (take 6 (drop 1 ds))
    left_six = rw (row_at first) (six_from (parity_row first) ds 1 (parity_sides first first_digit) (parity_length first first_digit) a long (omega arith))

    -- a row in its five parts
    pub row_parts : ean13_row ds ≡ guard ++ left_of first ds ++ centre ++ right_of ds ++ guard
    row_parts = rw e (parts_case ds a long)
      where
        parts_case : (xs : List ℕ) → Each Digit xs → length xs ≡ 13 → ean13_row xs ≡ guard ++ left_of (get_or xs 0 0) xs ++ centre ++ right_of xs ++ guard
        parts_case [] b h = absurd (omega arith)
        parts_case (x ∷ xs) b h = parts_of x xs b.0

  pub row_size : length (ean13_row ds) ≡ 95
  row_size =
      let split : ds ≡ get_or ds 0 0 ∷ drop 1 ds = drop-cons ds 0 0 (omega arith) in
      ap (λ (l : List ℕ). length (ean13_row l)) split
      ∙ row_length (get_or ds 0 0) (drop 1 ds) (first_digit (get_or ds 0 0) refl) (each_drop Digit 1 ds a) (length-drop 1 ds ∙ omega arith)

-- ---- write, after the tests

module _ (text : List ℕ) {ds : List ℕ} {v : Result (List ℕ) Refusal} (done : v ≡ Ok ds) (said : listed v ≡ tested text) where
  passed : tested text ≡ accept 13 ds
  unfolding listed
  passed = sym said ∙ rw done refl

  is_thirteen : ds ≡ thirteen text
  is_thirteen = accept_output (sym passed ∙ tested_thirteen text 13 passed)

  pub listed_digits : Each Digit ds × (length ds ≡ 13)
  listed_digits = let p = tested_proper text 13 passed in rw is_thirteen (thirteen_digits text p.digits, thirteen_length text p.least)

  pub listed_length : length (ean13_row ds) ≡ 95
  listed_length = row_size ds listed_digits.0 listed_digits.1

  write_row : (room : ℕ) → write_ean13 room text ≡ into room (accept (length (ean13_row ds)) (ean13_row ds))
  unfolding whole
  write_row room = write_on text room 13 passed ∙ ap (λ (l : List ℕ). into room (whole (ean13_row l))) (sym is_thirteen)

  pub write_short : (room : ℕ) → room < 95 → write_ean13 room text ≡ refuse 5 95
  write_short room h = write_row room ∙ into_short room _ (ean13_row ds) 95 (omega (arith, listed_length)) (sym listed_length)

  pub write_done : (room : ℕ) → 95 ≤ room → write_ean13 room text ≡ accept 95 (ean13_row ds)
  write_done room h = write_row room ∙ into_room room _ (ean13_row ds) (omega (arith, listed_length)) ∙ ap (λ (k : ℕ). accept k (ean13_row ds)) listed_length
