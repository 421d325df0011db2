-- The reader over the writer: the row of thirteen digits read back, the law of both, and what the
-- code asks of a row in place of writing it again.
-- Assumes nothing.
use Prim.Native.Nat.{ℕ, ◌+◌, ◌-◌, ◌<◌, ◌≤◌}
use mathlib.Core.Path.{◌≡◌, refl, sym, ap, ap₂, ◌∙◌, subst}
use mathlib.Core.Logic.{◌⊎◌, inl, inr}
use mathlib.Core.Bool.{Bool, true, false, ◌&&◌}
use mathlib.Core.List.{List, [], ◌∷◌, ◌++◌}
use native.Mathlib.Omega.{arith}
use native.Mathlib.Decide.{dec_lt}
use lib.Dec.{ltb}
use lib.ListN.{length, get_or, take, drop, replicate, length-drop, length-map, get_or-replicate, get_or-append}
use lib.Seq.{drop-cons, get_or-drop, get_or-append-add}
use borrow.Author.Tests.{eqb-true, eq-eqb, ne_eqb, lt-ltb, ltb-true}
use Rattle.helpers.specs.Answers.{Each, refuse, accept, ◌then◌, ask, whole, into}
use Rattle.helpers.specs.Modulo10.{modulo10}
use Rattle.helpers.specs.Readers.{gives, read_back, ReadsBack}
use Rattle.helpers.proofs.Answering.{and_true, each_at, into_accept, into_room, into_short}
use Rattle.helpers.proofs.Readers.{reads_back, gives_accept, accept_gives}
use Rattle.ean.specs.Ean13.{set_c, in_set, parity_row, ean13_row, values_of, right_check, thirteen, write_ean13, full_text, digit_cells, digits_read, text_of, read_ean13, set_at}
use Rattle.ean.specs.Terms.{Digit, framed, all_digits, checked}
use Rattle.ean.specs.Promises.{Valid}
use Rattle.ean.proofs.Tables.{parity_length}
use Rattle.ean.proofs.Rows.{row_length, row_framed, left_cells, right_cells, row_read, row_of_read}
use Rattle.ean.proofs.Lists.{read_length}
use Rattle.ean.proofs.Texts.{written, digits_written, written_at, values_written, any_default, Thirteen, valid_thirteen, written_thirteen, written_valid, plain, write_is, plain_valid, valid_plain}

-- ---- the set of a drawn digit

pub set_left : (f k : ℕ) → f < 10 → k < 6 → set_at f k ≡ get_or (parity_row f) k 0
unfolding set_at
set_left f k h l =
    let within : k < length (parity_row f) = omega (arith, parity_length f h) in
    get_or-append (parity_row f) (replicate 6 set_c) set_c k within ∙ any_default (parity_row f) k set_c 0 within

pub set_right : (f k : ℕ) → f < 10 → 6 ≤ k → k < 12 → set_at f k ≡ set_c
unfolding set_at
set_right f k h l m =
    let place : k ≡ length (parity_row f) + (k - 6) = omega (arith, parity_length f h) in
    ap (λ (n : ℕ). get_or (parity_row f ++ replicate 6 set_c) n set_c) place
    ∙ get_or-append-add (parity_row f) (replicate 6 set_c) (k - 6) set_c
    ∙ get_or-replicate 6 (k - 6) set_c set_c (omega arith)

-- ---- the row of thirteen digits

module _ (ds : List ℕ) (p : Thirteen ds) where
  split : ds ≡ get_or ds 0 0 ∷ drop 1 ds
  split = drop-cons ds 0 0 (omega (arith, p.long))

  first_below : get_or ds 0 0 < 10
  first_below = each_at Digit ds 0 0 p.digits (omega (arith, p.long))

  rest_digits : Each Digit (drop 1 ds)
  rest_digits = (subst (Each Digit) split p.digits).1

  rest_long : length (drop 1 ds) ≡ 12
  rest_long = length-drop 1 ds ∙ omega (arith, p.long)

  pub length_row : length (ean13_row ds) ≡ 95
  length_row = ap (λ (l : List ℕ). length (ean13_row l)) split ∙ row_length (get_or ds 0 0) (drop 1 ds) first_below rest_digits rest_long

  pub framed_row : framed (ean13_row ds) ≡ true
  framed_row = ap (λ (l : List ℕ). framed (ean13_row l)) split ∙ row_framed (get_or ds 0 0) (drop 1 ds) first_below rest_digits rest_long

  pub read_row : digits_read (ean13_row ds) ≡ ds
  read_row = ap (λ (l : List ℕ). digits_read (ean13_row l)) split ∙ row_read (get_or ds 0 0) (drop 1 ds) first_below rest_digits rest_long ∙ sym split

  -- the cells of the drawn digit k are those of the digit after it in its set
  pub cells_at : (k : ℕ) → k < 12 → digit_cells k (ean13_row ds) ≡ in_set (set_at (get_or ds 0 0) k) (get_or ds (k + 1) 0)
  cells_at k h = ap (λ (l : List ℕ). digit_cells k (ean13_row l)) split ∙ elim (dec_lt k 6) [ yes l ↦ to_left l | no l ↦ to_right (omega arith) ]
    where
      f : ℕ
      f = get_or ds 0 0

      next : get_or (drop 1 ds) k 0 ≡ get_or ds (k + 1) 0
      next = get_or-drop 1 ds k 0 ∙ ap (λ (n : ℕ). get_or ds n 0) (let e : 1 + k ≡ k + 1 = omega arith in e)

      to_left : k < 6 → digit_cells k (ean13_row (f ∷ drop 1 ds)) ≡ in_set (set_at f k) (get_or ds (k + 1) 0)
      to_left l = left_cells f (drop 1 ds) first_below rest_digits rest_long k l ∙ ap₂ in_set (sym (set_left f k first_below l)) next

      to_right : 6 ≤ k → digit_cells k (ean13_row (f ∷ drop 1 ds)) ≡ in_set (set_at f k) (get_or ds (k + 1) 0)
      to_right l = right_cells f (drop 1 ds) first_below rest_digits rest_long k l h ∙ ap₂ in_set (sym (set_right f k first_below l h)) next

-- ---- the law of reader and writer

one_text : (x : List ℕ) (n : ℕ) (row : List ℕ) → plain x ≡ accept n row → text_of row ≡ full_text x
unfolding text_of full_text
one_text x n row e =
    let v = plain_valid x n row e in
    ap written (ap digits_read (sym v.1) ∙ read_row (thirteen x) (valid_thirteen x v.0))

full_written : (x : List ℕ) (n : ℕ) (row : List ℕ) → plain x ≡ accept n row → plain (full_text x) ≡ accept n row
unfolding full_text
full_written x n row e =
    let v = plain_valid x n row e in
    let t = valid_thirteen x v.0 in
    valid_plain (written (thirteen x)) (written_valid (thirteen x) t) ∙ ap (λ (l : List ℕ). whole (ean13_row l)) (written_thirteen (thirteen x) t) ∙ sym (valid_plain x v.0) ∙ e

pub ean13_reads_back : ReadsBack write_ean13 read_ean13 full_text
unfolding write_ean13 read_ean13 plain
ean13_reads_back = reads_back plain text_of full_text one_text full_written

-- ---- what the code asks of a row

pub all_each : (ds : List ℕ) → all_digits ds ≡ true → Each Digit ds
unfolding all_digits
all_each [] e = tt
all_each (d ∷ ds) e = let both = and_true (ltb d 10) (all_digits ds) e in (ltb-true d 10 both.0, all_each ds both.1)

each_all : (ds : List ℕ) → Each Digit ds → all_digits ds ≡ true
unfolding all_digits
each_all [] a = refl
each_all (d ∷ ds) a = rw (lt-ltb d 10 a.0) (each_all ds a.1)

pub checked_thirteen : (ds : List ℕ) → length ds ≡ 13 → checked ds ≡ true → Thirteen ds
unfolding checked
checked_thirteen ds h e =
    let both = and_true (all_digits ds) _ e in
    record { long = h; digits = all_each ds both.0; right = eqb-true _ _ both.1 }

thirteen_checked : (ds : List ℕ) → Thirteen ds → checked ds ≡ true
unfolding checked
thirteen_checked ds p = rw (each_all ds p.digits, eq-eqb _ _ p.right) refl

-- a row of another length is refused
pub framed_other : (row : List ℕ) → (length row ≡ 95 → ⊥) → framed row ≡ false
unfolding framed
framed_other row h = rw (ne_eqb _ _ h) refl

-- digits, of which the last is held against the check
module _ (ds : List ℕ) {n : ℕ} (all : all_digits ds ≡ true) (e : n ≡ modulo10 true (take 12 ds)) where
  pub check_other : (get_or ds 12 0 ≡ n → ⊥) → checked ds ≡ false
  unfolding checked
  check_other h = rw (all, ne_eqb _ _ (λ q. h (q ∙ sym e))) refl

  pub check_same : get_or ds 12 0 ≡ n → checked ds ≡ true
  unfolding checked
  check_same h = rw (all, eq-eqb _ _ (h ∙ e)) refl

-- two tests that pass together are one
pub one_truth : (a b : Bool) → (a ≡ true → b ≡ true) → (b ≡ true → a ≡ true) → a ≡ b
one_truth true b f g = sym (f refl)
one_truth false true f g = g refl
one_truth false false f g = refl

module _ (row : List ℕ) where
  abbrev ds : List ℕ
  ds = digits_read row

  -- the digits read, where write takes them for a text
  taken : Valid (written ds) → Thirteen ds
  unfolding right_check
  taken v = record { long = read_length row; digits = digits_written ds v.0; right = right_case v.1 }
    where
      right_case : (length (written ds) ≡ 12) ⊎ ((length (written ds) ≡ 13) × (get_or (written ds) 12 0 ≡ modulo10 true (take 12 (values_of (written ds))) + 48))
          → get_or ds 12 0 ≡ modulo10 true (take 12 ds)
      right_case (inl e) = absurd (omega (arith, length-map ds (λ d. d + 48), read_length row))
      right_case (inr e) =
          let asked : get_or ds 12 0 + 48 ≡ modulo10 true (take 12 ds) + 48 = sym (written_at ds 12 (omega (arith, read_length row))) ∙ (rw (values_written ds) at e.1) in
          omega arith

  passes_asked : gives (write_ean13 (length row) (text_of row)) row ≡ true → (framed row && checked ds) ≡ true
  unfolding text_of
  passes_asked e =
      let w = gives_accept (write_ean13 (length row) (written ds)) row e in
      let v = plain_valid (written ds) w.0 row (into_accept (length row) (plain (written ds)) (sym (write_is (length row) (written ds)) ∙ w.1)).0 in
      let t = taken v.0 in
      let drawn : ean13_row ds ≡ row = ap ean13_row (sym (written_thirteen ds t)) ∙ v.1 in
      rw (thirteen_checked ds t, (ap framed (sym drawn) ∙ framed_row ds t)) refl

  asked_drawn : framed row ≡ true → Each Digit ds → row ≡ ean13_row ds
  unfolding digits_read
  asked_drawn e a = row_of_read row a.0 a.1 e

  asked_passes : (framed row && checked ds) ≡ true → gives (write_ean13 (length row) (text_of row)) row ≡ true
  unfolding text_of whole
  asked_passes e =
      let both = and_true (framed row) (checked ds) e in
      let t = checked_thirteen ds (read_length row) both.1 in
      let drawn = asked_drawn both.0 t.digits in
      let plainly : plain (written ds) ≡ accept (length row) row = valid_plain (written ds) (written_valid ds t) ∙ ap (λ (l : List ℕ). whole l) (ap ean13_row (written_thirteen ds t) ∙ sym drawn) in
      accept_gives _ (length row) row (write_is (length row) (written ds) ∙ ap (into (length row)) plainly ∙ into_room (length row) (length row) row (omega arith))

  -- read, by the length, the guards and the digits
  pub read_by : (room : ℕ) → read_ean13 room row ≡ into room (ask (framed row && checked ds) 33 0 then whole (written ds))
  unfolding read_ean13 read_back text_of
  read_by room = ap (λ (b : Bool). into room (ask b 33 0 then whole (written ds))) (one_truth _ _ passes_asked asked_passes)

  -- ---- its answers

  pub read_refused : (room : ℕ) → (framed row && checked ds) ≡ false → read_ean13 room row ≡ refuse 33 0
  unfolding ask ◌then◌ into
  read_refused room e = read_by room ∙ rw e refl

  pub checked_digits : (framed row && checked ds) ≡ true → Each Digit ds
  checked_digits e = (checked_thirteen ds (read_length row) (and_true (framed row) (checked ds) e).1).digits

  module _ (room : ℕ) (e : (framed row && checked ds) ≡ true) where
    passed : read_ean13 room row ≡ into room (accept 13 (written ds))
    unfolding ask ◌then◌ whole
    passed = read_by room ∙ rw e (ap (λ (n : ℕ). into room (accept n (written ds))) (length-map ds (λ d. d + 48) ∙ read_length row))

    pub read_short : room < 13 → read_ean13 room row ≡ refuse 5 13
    read_short h =
        let long = length-map ds (λ d. d + 48) ∙ read_length row in
        passed ∙ into_short room 13 (written ds) 13 (omega (arith, long)) (sym long)

    pub read_done : 13 ≤ room → read_ean13 room row ≡ accept 13 (written ds)
    read_done h = passed ∙ into_room room 13 (written ds) (omega (arith, length-map ds (λ d. d + 48), read_length row))
