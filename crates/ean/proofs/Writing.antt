-- What write accepts, exactly; the check digit given and left out; what both jobs owe.
-- Assumes nothing.
use Prim.Native.Nat.{ℕ, ◌+◌, ◌-◌, ◌<◌, ◌≤◌}
use mathlib.Core.Path.{◌≡◌, refl, sym, ap, ap₂, ◌∙◌}
use mathlib.Core.Logic.{◌↔◌, ◌≢◌, inl, inr}
use mathlib.Core.Bool.{true}
use mathlib.Core.List.{List, [], ◌∷◌, ◌++◌, map-append}
use native.Mathlib.Omega.{arith}
use lib.ListN.{length, get_or, take, length-append, length-map}
use lib.Seq.{length-take-le, take_all, take_at, get_or_at}
use borrow.Author.Tests.{ne_eqb}
use Rattle.helpers.specs.Answers.{Each, refuse, accept, ◌then◌, ask, whole, into}
use Rattle.helpers.specs.Modulo10.{modulo10}
use Rattle.helpers.specs.Owes.{Owes}
use Rattle.helpers.proofs.Answering.{each_append, each_take, then_accept, then_passes, ask_true, into_accept, into_room, into_short, into_refuse, every_passes, whole_accept}
use Rattle.helpers.proofs.Owed.{By, by_then, by_ask, by_every, by_into, owes}
use Rattle.ean.specs.Ean13.{is_digit, values_of, right_check, thirteen, ean13_row, write_ean13, full_text, digits_read, read_ean13}
use Rattle.ean.specs.Promises.{Valid}
use Rattle.helpers.specs.Readers.{read_back}
use Rattle.ean.proofs.Lists.{read_length}
use Rattle.ean.proofs.Values.{digit_bounds, values_length}
use Rattle.ean.proofs.Texts.{written, valid_long, values_take, written_values, value_at, any_default, valid_thirteen, written_thirteen, written_valid, plain, write_is, plain_valid, valid_plain, length_or}
use Rattle.ean.proofs.Reading.{length_row, read_row, read_by, ean13_reads_back}

-- ---- what is accepted

pub row_length : (x : List ℕ) → Valid x → length (ean13_row (thirteen x)) ≡ 95
row_length x v = length_row (thirteen x) (valid_thirteen x v)

-- of an accepted text: it is valid, its row, and the room
pub write_accepts : (room : ℕ) (x : List ℕ) (n : ℕ) (r : List ℕ) → write_ean13 room x ≡ accept n r → Valid x × (n ≡ 95) × (r ≡ ean13_row (thirteen x)) × (95 ≤ room)
write_accepts room x n r e =
    let fits = into_accept room (plain x) (sym (write_is room x) ∙ e) in
    let v = plain_valid x n r fits.0 in
    let long : length r ≡ 95 = ap length (sym v.1) ∙ row_length x v.0 in
    (v.0, v.2 ∙ long, sym v.1, (let room-enough = fits.1 in omega arith))

write_row : (room : ℕ) (x : List ℕ) → Valid x → 95 ≤ room → write_ean13 room x ≡ accept 95 (ean13_row (thirteen x))
unfolding whole
write_row room x v h =
    write_is room x
    ∙ ap (into room) (valid_plain x v ∙ ap (λ (n : ℕ). accept n (ean13_row (thirteen x))) (row_length x v))
    ∙ into_room room 95 (ean13_row (thirteen x)) (omega (arith, row_length x v))

pub write_exactly : (room : ℕ) (x : List ℕ) (n : ℕ) (r : List ℕ)
    → (write_ean13 room x ≡ accept n r) ↔ (Valid x × (n ≡ 95) × (r ≡ ean13_row (thirteen x)) × (95 ≤ room))
write_exactly room x n r = (write_accepts room x n r, λ p. write_row room x p.0 p.3 ∙ ap₂ accept (sym p.1) (sym p.2))

-- ---- the check digit

-- thirteen digits of which the last is not the check
refused_32 : (x : List ℕ) → length x ≡ 13 → Each (λ c. is_digit c ≡ true) x → get_or (values_of x) 12 (right_check x) ≢ right_check x → plain x ≡ refuse 32 (right_check x)
unfolding plain ask ◌then◌
refused_32 x h a wrong =
    then_passes _ _ (ask_true _ _ _ (length_or (length x) (inr h))) ∙ then_passes _ _ (every_passes is_digit 31 0 x a) ∙ rw (ne_eqb _ _ wrong) refl

module _ (x : List ℕ) (twelve : length x ≡ 12) (a : Each (λ c. is_digit c ≡ true) x) where
  -- the full text is the twelve digits and their check
  full_is : full_text x ≡ x ++ ((right_check x + 48) ∷ [])
  unfolding full_text thirteen
  full_is =
      map-append (λ d. d + 48) (take 12 (values_of x)) (right_check x ∷ [])
      ∙ ap (λ (l : List ℕ). written l ++ ((right_check x + 48) ∷ [])) (take_all 12 (values_of x) (omega (arith, values_length x)))
      ∙ ap (λ (l : List ℕ). l ++ ((right_check x + 48) ∷ [])) (written_values x a)

  valid : Valid x
  valid = (a, inl twelve)

  pub check_alike : (room : ℕ) → write_ean13 room (x ++ ((right_check x + 48) ∷ [])) ≡ write_ean13 room x
  unfolding full_text
  check_alike room =
      let t = valid_thirteen x valid in
      ap (write_ean13 room) (sym full_is)
      ∙ write_is room (full_text x)
      ∙ ap (into room) (valid_plain (written (thirteen x)) (written_valid (thirteen x) t) ∙ ap (λ (l : List ℕ). whole (ean13_row l)) (written_thirteen (thirteen x) t) ∙ sym (valid_plain x valid))
      ∙ sym (write_is room x)

  module _ (c : ℕ) (h : is_digit c ≡ true) where
    abbrev longer : List ℕ
    longer = x ++ (c ∷ [])

    same_check : right_check longer ≡ right_check x
    unfolding right_check
    same_check = ap (modulo10 true) (values_take 12 longer ∙ ap values_of (take_at x (c ∷ []) 12 twelve) ∙ sym (take_all 12 (values_of x) (omega (arith, values_length x))))

    last_value : get_or (values_of longer) 12 (right_check longer) ≡ c - 48
    last_value =
        any_default (values_of longer) 12 (right_check longer) 0 (omega (arith, values_length longer, length-append x (c ∷ [])))
        ∙ value_at longer 12 0
        ∙ ap (λ (k : ℕ). k - 48) (get_or_at x c [] 0 12 twelve)

    pub check_wrong : (room : ℕ) → c ≢ right_check x + 48 → write_ean13 room longer ≡ refuse 32 (right_check x)
    check_wrong room other =
        let b = digit_bounds c h in
        let wrong : get_or (values_of longer) 12 (right_check longer) ≢ right_check longer = λ e. other (omega (arith, e, last_value, same_check)) in
        write_is room longer ∙ ap (into room) (refused_32 longer (length-append x (c ∷ []) ∙ omega arith) (each_append _ x (c ∷ []) a (h, tt)) wrong ∙ ap (refuse 32) same_check) ∙ into_refuse room 32 (right_check x)

-- ---- two texts and one row

-- the first twelve digits of a text, from its thirteen digits
twelve_of : (x : List ℕ) → Valid x → (l : List ℕ) → thirteen x ≡ l → take 12 x ≡ written (take 12 l)
unfolding thirteen
twelve_of x v l e =
    let long = valid_long x v in
    sym (written_values (take 12 x) (each_take _ 12 x v.0))
    ∙ ap written (sym (values_take 12 x) ∙ sym (take_at (take 12 (values_of x)) (right_check x ∷ []) 12 (length-take-le 12 (values_of x) (omega (arith, values_length x)))) ∙ ap (take 12) e)

pub ean13_same_row : (room room' : ℕ) (x y : List ℕ) (n m : ℕ) (r q : List ℕ) → write_ean13 room x ≡ accept n r → write_ean13 room' y ≡ accept m q
    → (r ≡ q) ↔ (take 12 x ≡ take 12 y)
unfolding thirteen right_check
ean13_same_row room room' x y n m r q e f =
    let v = write_accepts room x n r e in
    let u = write_accepts room' y m q f in (
      λ s. twelve_of x v.0 (thirteen y)
          (sym (read_row (thirteen x) (valid_thirteen x v.0)) ∙ ap digits_read (sym v.2 ∙ s ∙ u.2) ∙ read_row (thirteen y) (valid_thirteen y u.0))
          ∙ sym (twelve_of y u.0 (thirteen y) refl),
      λ s. v.2 ∙ ap (λ (l : List ℕ). ean13_row (l ++ (modulo10 true l ∷ []))) (values_take 12 x ∙ ap values_of s ∙ sym (values_take 12 y)) ∙ sym u.2,
    )

-- ---- what both jobs owe

write_by : (room : ℕ) (x : List ℕ) → By (30 ∷ 31 ∷ 32 ∷ 5 ∷ []) (write_ean13 room x)
unfolding write_ean13 whole
write_by room x =
    by_into (30 ∷ 31 ∷ 32 ∷ 5 ∷ []) room _ (inr (inr (inr (inl refl))))
    (by_then (30 ∷ 31 ∷ 32 ∷ 5 ∷ []) _ _ (by_ask (30 ∷ 31 ∷ 32 ∷ 5 ∷ []) _ 30 _ (inl refl)) (by_then (30 ∷ 31 ∷ 32 ∷ 5 ∷ []) _ _ (by_every (30 ∷ 31 ∷ 32 ∷ 5 ∷ []) is_digit 31 0 x (inr (inl refl))) (by_then (30 ∷ 31 ∷ 32 ∷ 5 ∷ []) _ _ (by_ask (30 ∷ 31 ∷ 32 ∷ 5 ∷ []) _ 32 _ (inr (inr (inl refl)))) tt)))

pub write_owes : Owes write_ean13 (30 ∷ 31 ∷ 32 ∷ 5 ∷ []) 95
write_owes =
    owes write_ean13 (30 ∷ 31 ∷ 32 ∷ 5 ∷ []) 95 (omega arith, (omega arith, (omega arith, (omega arith, tt)))) write_by
    (λ room x n out e. (into_accept room (plain x) (sym (write_is room x) ∙ e)).1)
    (λ room x n out e. let v = write_accepts room x n out e in omega (arith, ap length v.2, row_length x v.0))

read_by_numbers : (room : ℕ) (row : List ℕ) → By (33 ∷ 5 ∷ []) (read_ean13 room row)
unfolding read_ean13 read_back whole
read_by_numbers room row = by_into (33 ∷ 5 ∷ []) room _ (inr (inl refl)) (by_then (33 ∷ 5 ∷ []) _ _ (by_ask (33 ∷ 5 ∷ []) _ 33 _ (inl refl)) tt)

-- what is read has thirteen digits and fits
read_thirteen : (room : ℕ) (row : List ℕ) (n : ℕ) (t : List ℕ) → read_ean13 room row ≡ accept n t → (length t ≡ 13) × (length t ≤ room)
read_thirteen room row n t e =
    let fits = into_accept room _ (sym (read_by row room) ∙ e) in
    let text = whole_accept (written (digits_read row)) (then_accept _ _ fits.0).1 in
    (ap length (sym text.0) ∙ length-map (digits_read row) (λ d. d + 48) ∙ read_length row, fits.1)

pub read_owes : Owes read_ean13 (33 ∷ 5 ∷ []) 13
read_owes =
    owes read_ean13 (33 ∷ 5 ∷ []) 13 (omega arith, (omega arith, tt)) read_by_numbers (λ room row n t e. (read_thirteen room row n t e).1)
    (λ room row n t e. omega (arith, (read_thirteen room row n t e).0))

-- lent room enough, read accepts exactly the rows written
pub read_exactly : (room : ℕ) (r : List ℕ) (n : ℕ) (t : List ℕ) → 13 ≤ room
    → (read_ean13 room r ≡ accept n t) ↔ ((n ≡ 13) × ((x : List ℕ) × (write_ean13 (length r) x ≡ accept 95 r) × (t ≡ full_text x)))
unfolding full_text whole
read_exactly room r n t h = (
  λ e.
      let w = ean13_reads_back.read_written room r n t e in
      let v = write_accepts (length r) t w.1.0 r w.1.1 in
      let again = ean13_reads_back.written_read room (length r) t w.1.0 r w.1.1 in
      (w.0 ∙ (read_thirteen room r n t e).0, (t, w.1.1 ∙ ap (λ (k : ℕ). accept k r) v.1, sym (whole_accept (full_text t) (into_accept room _ (sym again ∙ e)).0).0)),
  λ p. let w = p.1.1 in
      let full = length-map (thirteen p.1.0) (λ d. d + 48) ∙ (valid_thirteen p.1.0 (write_accepts (length r) p.1.0 95 r w).0).long in
      ean13_reads_back.written_read room (length r) p.1.0 95 r w
      ∙ into_room room (length (full_text p.1.0)) (full_text p.1.0) (omega (arith, full))
      ∙ ap₂ accept (full ∙ sym p.0) (sym p.1.2),
)

-- ---- too little room

pub write_short : (room : ℕ) (x : List ℕ) → Valid x → room < 95 → write_ean13 room x ≡ refuse 5 95
unfolding whole
write_short room x v h =
    write_is room x ∙ ap (into room) (valid_plain x v) ∙ into_short room _ (ean13_row (thirteen x)) 95 (omega (arith, row_length x v)) (sym (row_length x v))

pub read_short : (room room' : ℕ) (x : List ℕ) (n : ℕ) (r : List ℕ) → room < 13 → write_ean13 room' x ≡ accept n r → read_ean13 room r ≡ refuse 5 13
unfolding full_text whole
read_short room room' x n r h e =
    let full = length-map (thirteen x) (λ d. d + 48) ∙ (valid_thirteen x (write_accepts room' x n r e).0).long in
    ean13_reads_back.written_read room room' x n r e ∙ into_short room _ (full_text x) 13 (omega (arith, full)) (sym full)
