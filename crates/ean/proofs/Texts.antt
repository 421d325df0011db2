-- Texts and their thirteen digits: what write accepts, and what is read from what it writes.
-- Assumes nothing.
use Prim.Native.Nat.{ℕ, zero, suc, ◌+◌, ◌-◌, ◌<◌, ◌≤◌}
use mathlib.Core.Path.{◌≡◌, refl, sym, ap, ap₂, ◌∙◌}
use mathlib.Core.Logic.{◌⊎◌, inl, inr}
use mathlib.Core.Bool.{true, ◌||◌}
use mathlib.Core.List.{List, [], ◌∷◌, ◌++◌, map}
use native.Mathlib.Nat.{not-suc-le-zero, le_of_suc-le-suc}
use native.Mathlib.Omega.{arith}
use native.Mathlib.Decide.{dec_lt}
use lib.Dec.{eqb}
use lib.ListN.{length, get_or, take, length-append, length-map, get_or-map, get_or-eq_default}
use lib.Seq.{length-take-le, take-suc, take_all, take_at, get_or_at}
use borrow.Author.Tests.{eqb-true, eq-eqb, le-leb}
use Rattle.helpers.specs.Answers.{Each, Answer, accept, ◌then◌, ask, every, whole, into}
use Rattle.helpers.specs.Modulo10.{modulo10}
use Rattle.helpers.proofs.Answering.{each_at, each_append, each_take, then_accept, then_passes, ask_passes, ask_true, every_good, every_passes, whole_accept}
use Rattle.helpers.proofs.Sums.{check_digit}
use Rattle.ean.specs.Ean13.{is_digit, values_of, right_check, thirteen, ean13_row, write_ean13}
use Rattle.ean.specs.Terms.{Digit}
use Rattle.ean.specs.Promises.{Valid}
use Rattle.ean.proofs.Values.{digit_bounds, values_digits, values_length, or_size, size_or}

-- ---- a text's digits as numbers, and back

digit_is : (c : ℕ) → 48 ≤ c → c ≤ 57 → is_digit c ≡ true
unfolding is_digit
digit_is c h l = rw (le-leb 48 c h, le-leb c 57 l)

-- thirteen digits as ASCII bytes
abbrev pub written : List ℕ → List ℕ
written ds = map (λ d. d + 48) ds

pub written_digits : (ds : List ℕ) → Each Digit ds → Each (λ c. is_digit c ≡ true) (written ds)
written_digits [] a = tt
written_digits (d ∷ ds) a = (digit_is (d + 48) (omega arith) (omega (arith, a.0)), written_digits ds a.1)

pub digits_written : (ds : List ℕ) → Each (λ c. is_digit c ≡ true) (written ds) → Each Digit ds
digits_written [] a = tt
digits_written (d ∷ ds) a = (let b = digit_bounds (d + 48) a.0 in omega arith, digits_written ds a.1)

pub values_written : (ds : List ℕ) → values_of (written ds) ≡ ds
unfolding values_of
values_written [] = refl
values_written (d ∷ ds) = ap₂ (λ (a : ℕ) (l : List ℕ). a ∷ l) (omega arith) (values_written ds)

pub written_values : (x : List ℕ) → Each (λ c. is_digit c ≡ true) x → written (values_of x) ≡ x
unfolding values_of
written_values [] a = refl
written_values (c ∷ x) a = ap₂ (λ (d : ℕ) (l : List ℕ). d ∷ l) (let b = digit_bounds c a.0 in omega arith) (written_values x a.1)

pub values_take : (n : ℕ) (x : List ℕ) → take n (values_of x) ≡ values_of (take n x)
unfolding values_of
values_take zero x = refl
values_take (suc n) [] = refl
values_take (suc n) (c ∷ x) = ap (λ (l : List ℕ). (c - 48) ∷ l) (values_take n x)

pub value_at : (x : List ℕ) (i d : ℕ) → get_or (values_of x) i (d - 48) ≡ get_or x i d - 48
unfolding values_of
value_at x i d = get_or-map (λ c. c - 48) x i d

-- within a list the default does not matter
pub any_default : (l : List ℕ) (i d e : ℕ) → i < length l → get_or l i d ≡ get_or l i e
any_default [] i d e h = absurd (not-suc-le-zero h)
any_default (x ∷ l) zero d e h = refl
any_default (x ∷ l) (suc i) d e h = any_default l i d e (le_of_suc-le-suc h)

pub written_at : (ds : List ℕ) (i : ℕ) → i < length ds → get_or (written ds) i 0 ≡ get_or ds i 0 + 48
written_at ds i h = any_default (written ds) i 0 48 (omega (arith, length-map ds (λ d. d + 48))) ∙ get_or-map (λ d. d + 48) ds i 0

-- ---- thirteen digits, the last of which is the check of the others

pub record Thirteen (ds : List ℕ) : Type 0 where
  pub long : length ds ≡ 13
  pub digits : Each Digit ds
  pub right : get_or ds 12 0 ≡ modulo10 true (take 12 ds)

-- twelve digits and their check
pub with_check : (ds : List ℕ) → length ds ≡ 12 → Each Digit ds → Thirteen (ds ++ (modulo10 true ds ∷ []))
with_check ds h a =
    record {
      long = length-append ds (modulo10 true ds ∷ []) ∙ omega arith;
      digits = each_append Digit ds (modulo10 true ds ∷ []) a (check_digit true ds, tt);
      right = get_or_at ds (modulo10 true ds) [] 0 12 h ∙ ap (modulo10 true) (sym (take_at ds (modulo10 true ds ∷ []) 12 h));
    }

pub valid_long : (x : List ℕ) → Valid x → 12 ≤ length x
valid_long x v = of_length v.1
  where
    of_length : (length x ≡ 12) ⊎ ((length x ≡ 13) × (get_or x 12 0 ≡ right_check x + 48)) → 12 ≤ length x
    of_length (inl e) = omega arith
    of_length (inr e) = let l = e.0 in omega arith

pub valid_thirteen : (x : List ℕ) → Valid x → Thirteen (thirteen x)
unfolding thirteen right_check
valid_thirteen x v =
    let long = valid_long x v in
    with_check (take 12 (values_of x)) (length-take-le 12 (values_of x) (omega (arith, values_length x))) (each_take Digit 12 (values_of x) (values_digits x v.0))

module _ (ds : List ℕ) (p : Thirteen ds) where
  pub again : take 12 ds ++ (modulo10 true (take 12 ds) ∷ []) ≡ ds
  again =
      ap (λ (c : ℕ). take 12 ds ++ (c ∷ [])) (sym p.right)
      ∙ sym (take-suc ds 12 0 (omega (arith, p.long)))
      ∙ take_all 13 ds (omega (arith, p.long))

  -- such digits as a text are valid, and are the thirteen digits of that text
  pub written_thirteen : thirteen (written ds) ≡ ds
  unfolding thirteen right_check
  written_thirteen = rw (values_written ds) again

  pub written_valid : Valid (written ds)
  unfolding right_check
  written_valid = (
    written_digits ds p.digits,
    inr (length-map ds (λ d. d + 48) ∙ p.long, written_at ds 12 (omega (arith, p.long)) ∙ ap (λ (c : ℕ). c + 48) (p.right ∙ ap (λ (l : List ℕ). modulo10 true (take 12 l)) (sym (values_written ds)))),
  )

-- ---- write

-- what write answers before the room is asked
unfoldable pub plain : List ℕ → Answer
plain x =
    ask (eqb (length x) 12 || eqb (length x) 13) 30 (length x) then
    every is_digit 31 0 x then
    ask (eqb (get_or (values_of x) 12 (right_check x)) (right_check x)) 32 (right_check x) then
    whole (ean13_row (thirteen x))

pub write_is : (room : ℕ) (x : List ℕ) → write_ean13 room x ≡ into room (plain x)
unfolding write_ean13 plain
write_is room x = refl

or_length : (n : ℕ) → (eqb n 12 || eqb n 13) ≡ true → (n ≡ 12) ⊎ (n ≡ 13)
or_length n e = let size = or_size n e in elim (dec_lt n 13) [ yes l ↦ inl (omega arith) | no l ↦ inr (omega arith) ]

pub length_or : (n : ℕ) → (n ≡ 12) ⊎ (n ≡ 13) → (eqb n 12 || eqb n 13) ≡ true
length_or n (inl e) = size_or n (omega arith) (omega arith)
length_or n (inr e) = size_or n (omega arith) (omega arith)

-- the check of a text of thirteen, asked as write asks it
check_asked : (x : List ℕ) → Each (λ c. is_digit c ≡ true) x → length x ≡ 13 → get_or (values_of x) 12 (right_check x) ≡ get_or x 12 0 - 48
check_asked x a h = any_default (values_of x) 12 (right_check x) 0 (omega (arith, values_length x)) ∙ value_at x 12 0

accepts_valid : (x : List ℕ) → Each (λ c. is_digit c ≡ true) x → (length x ≡ 12) ⊎ (length x ≡ 13)
    → get_or (values_of x) 12 (right_check x) ≡ right_check x → Valid x
accepts_valid x a (inl e) q = (a, inl e)
accepts_valid x a (inr e) q =
    let c = digit_bounds (get_or x 12 0) (each_at (λ c. is_digit c ≡ true) x 12 0 a (omega arith)) in
    (a, inr (e, omega (arith, check_asked x a e, q)))

valid_asked : (x : List ℕ) → Valid x → get_or (values_of x) 12 (right_check x) ≡ right_check x
valid_asked x v = asked_case v.1
  where
    asked_case : (length x ≡ 12) ⊎ ((length x ≡ 13) × (get_or x 12 0 ≡ right_check x + 48)) → get_or (values_of x) 12 (right_check x) ≡ right_check x
    asked_case (inl e) = get_or-eq_default (values_of x) (right_check x) {n = 12} (omega (arith, values_length x))
    asked_case (inr e) = check_asked x v.0 e.0 ∙ (let q = e.1 in omega arith)

valid_length : (x : List ℕ) → Valid x → (length x ≡ 12) ⊎ (length x ≡ 13)
valid_length x v = length_case v.1
  where
    length_case : (length x ≡ 12) ⊎ ((length x ≡ 13) × (get_or x 12 0 ≡ right_check x + 48)) → (length x ≡ 12) ⊎ (length x ≡ 13)
    length_case (inl e) = inl e
    length_case (inr e) = inr e.0

pub plain_valid : (x : List ℕ) (n : ℕ) (r : List ℕ) → plain x ≡ accept n r → Valid x × (ean13_row (thirteen x) ≡ r) × (n ≡ length r)
unfolding plain
plain_valid x n r e =
    let sized = then_accept _ _ e in
    let spelt = then_accept _ _ sized.1 in
    let asked = then_accept _ _ spelt.1 in
    let row = whole_accept _ asked.1 in
    (accepts_valid x (every_good is_digit 31 0 x spelt.0) (or_length (length x) (ask_passes _ _ _ sized.0)) (eqb-true _ _ (ask_passes _ _ _ asked.0)), row.0, row.1)

pub valid_plain : (x : List ℕ) → Valid x → plain x ≡ whole (ean13_row (thirteen x))
unfolding plain
valid_plain x v =
    then_passes _ _ (ask_true _ _ _ (length_or (length x) (valid_length x v)))
    ∙ then_passes _ _ (every_passes is_digit 31 0 x v.0)
    ∙ then_passes _ _ (ask_true _ _ _ (eq-eqb _ _ (valid_asked x v)))
