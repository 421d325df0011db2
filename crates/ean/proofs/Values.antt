-- The digits of a text as numbers, and what the tests of a text say of `write_ean13`.
-- Assumes nothing.
use Prim.Native.Nat.{ℕ, zero, suc, ◌-◌, ◌<◌, ◌≤◌}
use mathlib.Core.Path.{◌≡◌, refl, sym, ap, ◌∙◌}
use mathlib.Core.Bool.{Bool, true, false, not, not-not, ◌||◌}
use mathlib.Core.List.{List, [], ◌∷◌, append-nil}
use native.Mathlib.Nat.{zero-add, not-suc-le-zero, le_of_suc-le-suc}
use native.Mathlib.Omega.{arith}
use lib.Dec.{eqb}
use lib.ListN.{length, get_or, set, take, drop, length-map, length-append, drop_of_length-le, get_or-eq_default}
use lib.Seq.{sets, get_or-take, length-take-le}
use borrow.Author.Tests.{leb-true, eqb-true, eqb-false, eq-eqb}
use Rattle.std.specs.Prelude.{Result, Err, Some, None, position}
use Rattle.helpers.proofs.Found.{every_found, every_passed}
use Rattle.helpers.specs.Answers.{Each, Answer, refuse, accept, Test, refuses, passes, ◌then◌, ask, every, whole, into}
use Rattle.helpers.specs.Modulo10.{modulo10}
use Rattle.helpers.specs.Terms.{answers}
use Rattle.helpers.specs.Numbers.{refusal_number, refusal_second}
use Rattle.helpers.specs.declared.Refusal.{Refusal}
use Rattle.helpers.proofs.Answering.{and_true, each_append, each_take, refuse_not_accept, then_accept, then_passes, ask_passes, ask_true, every_good, into_refuse}
use Rattle.helpers.proofs.Sums.{check_digit}
use Rattle.helpers.proofs.Writes.{sets_then, sets_front, sets_prefix}
use Rattle.helpers.proofs.Gives.{said_refused}
use Rattle.ean.specs.Ean13.{is_digit, values_of, right_check, thirteen, ean13_row, write_ean13}
use Rattle.ean.specs.Terms.{Digit, parsed, tested, listed}

-- ---- digits

pub digit_bounds : (c : ℕ) → is_digit c ≡ true → (48 ≤ c) × (c ≤ 57)
unfolding is_digit
digit_bounds c e = let both = and_true _ _ e in (leb-true 48 c both.0, leb-true c 57 both.1)

abbrev pub Digits : List ℕ → Type 0
Digits text = Each (λ c. is_digit c ≡ true) text

-- what the search for a byte that is no digit says of all
abbrev other : ℕ → Bool
other c = not (is_digit c)

digit_or_other : (c : ℕ) → is_digit c ≡ not (other c)
digit_or_other c = sym (not-not (is_digit c))

module _ (text : List ℕ) where
  pub digits_refused : {k : ℕ} → position other text ≡ Some k → (n : ℕ) → refuse 31 k ≡ (every is_digit 31 0 text then accept n [])
  unfolding ◌then◌
  digits_refused {k} e n = rw (every_found is_digit other digit_or_other 31 0 text e, zero-add k) refl

  pub digits_done : position other text ≡ None → accept (length text) [] ≡ (every is_digit 31 0 text then accept (length text) [])
  unfolding ◌then◌
  digits_done e = rw (every_passed is_digit other digit_or_other 31 0 text e) refl

-- ---- the digits of a text as numbers

pub values_length : (text : List ℕ) → length (values_of text) ≡ length text
unfolding values_of
values_length text = length-map text _

pub values_at : (text : List ℕ) (i c d : ℕ) → i < length text → get_or text i c - 48 ≡ get_or (values_of text) i d
unfolding values_of
values_at [] i c d h = absurd (not-suc-le-zero h)
values_at (x ∷ text) zero c d h = refl
values_at (x ∷ text) (suc i) c d h = values_at text i c d (le_of_suc-le-suc h)

pub values_digits : (text : List ℕ) → Digits text → Each Digit (values_of text)
unfolding values_of
values_digits [] a = tt
values_digits (c ∷ cs) a = let b = digit_bounds c a.0 in (omega arith, values_digits cs a.1)

module _ (text : List ℕ) where
  pub twelve_length : 12 ≤ length text → length (take 12 (values_of text)) ≡ 12
  twelve_length h = length-take-le 12 (values_of text) (omega (arith, values_length text))

  pub twelve_at : (i : ℕ) → i < 12 → i < length text → get_or text i 0 - 48 ≡ get_or (take 12 (values_of text)) i 0
  twelve_at i l h = values_at text i 0 0 h ∙ sym (get_or-take 12 (values_of text) i 0 l)

  -- the thirteenth digit of a text of twelve, and of a longer one
  pub verified_short : (check : ℕ) → length text < 13 → true ≡ eqb (get_or (values_of text) 12 check) check
  verified_short check h = sym (eq-eqb _ _ (get_or-eq_default (values_of text) check (omega (arith, values_length text))))

  pub verified_long : (check : ℕ) {d : ℕ} → d ≡ get_or text 12 d → 12 < length text → eqb (d - 48) check ≡ eqb (get_or (values_of text) 12 check) check
  verified_long check {d} e h = ap (λ (x : ℕ). eqb x check) (ap (λ (x : ℕ). x - 48) e ∙ values_at text 12 d check h)

  pub thirteen_length : 12 ≤ length text → length (thirteen text) ≡ 13
  unfolding thirteen
  thirteen_length h = length-append (take 12 (values_of text)) (right_check text ∷ []) ∙ omega (arith, twelve_length h)

  pub thirteen_digits : Digits text → Each Digit (thirteen text)
  unfolding thirteen right_check
  thirteen_digits a = each_append Digit (take 12 (values_of text)) _ (each_take Digit 12 (values_of text) (values_digits text a)) (check_digit true _, tt)

  -- twelve digits stored, and their check
  module _ (ds m : List ℕ) (long : length ds ≡ 13) (size : 12 ≤ length text) (stores : m ≡ sets ds 0 (take 12 (values_of text))) where
    pub right_check_lem : (check : ℕ) → check ≡ modulo10 true (take 12 m) → check ≡ right_check text
    unfolding right_check
    right_check_lem check e = e ∙ ap (modulo10 true) (ap (take 12) stores ∙ sets_prefix ds _ 12 (sym (twelve_length size)) (omega (arith, twelve_length size)))

    pub thirteen_stored : (check : ℕ) → check ≡ right_check text → set m 12 check ≡ thirteen text
    unfolding thirteen
    thirteen_stored check e =
        let vs = take 12 (values_of text) in
        let whole : set m 12 check ≡ sets ds 0 (thirteen text) = rw (stores, e) (sets_then vs (right_check text ∷ []) ds 0 12 (omega (arith, twelve_length size))) in
        let none : drop (length (thirteen text)) ds ≡ [] = drop_of_length-le ds {i = length (thirteen text)} (omega (arith, thirteen_length size)) in
        whole ∙ sets_front ds (thirteen text) (omega (arith, thirteen_length size)) ∙ rw (none, append-nil (thirteen text))

-- ---- the tests

-- the same tests before two answers: where they make x of the first, they make y of the second
module _ (x y : Answer) (refusal : (k m : ℕ) → refuse k m ≡ x → refuse k m ≡ y) where
  one_test : (t : Test) (a b : Answer) → (a ≡ x → b ≡ y) → (t then a) ≡ x → (t then b) ≡ y
  unfolding ◌then◌
  one_test (refuses k m) a b f e = refusal k m e
  one_test passes a b f e = f e

  two_tests : (t u : Test) (a b : Answer) → (a ≡ x → b ≡ y) → (t then u then a) ≡ x → (t then u then b) ≡ y
  two_tests t u a b f = one_test t _ _ (one_test u a b f)

  three_tests : (t u v : Test) (a b : Answer) → (a ≡ x → b ≡ y) → (t then u then v then a) ≡ x → (t then u then v then b) ≡ y
  three_tests t u v a b f = one_test t _ _ (two_tests u v a b f)

denied : (b : Bool) → (b ≡ true → ⊥) → b ≡ false
denied true f = absurd (f refl)
denied false f = refl

pub or_size : (n : ℕ) → (eqb n 12 || eqb n 13) ≡ true → (12 ≤ n) × (n ≤ 13)
or_size n e = or_case (eqb n 12) refl e
  where
    or_case : (b : Bool) → eqb n 12 ≡ b → (b || eqb n 13) ≡ true → (12 ≤ n) × (n ≤ 13)
    or_case true f e = let same = eqb-true n 12 f in omega arith
    or_case false f e = let same = eqb-true n 13 e in omega arith

pub size_or : (n : ℕ) → 12 ≤ n → n ≤ 13 → (eqb n 12 || eqb n 13) ≡ true
size_or n l h = size_case (eqb n 12) refl
  where
    size_case : (b : Bool) → eqb n 12 ≡ b → (b || eqb n 13) ≡ true
    size_case true f = refl
    size_case false f = eq-eqb n 13 (omega (arith, eqb-false n 12 f))

-- A text that passes the tests before its check digit.
pub record Proper (text : List ℕ) : Type 0 where
  pub least : 12 ≤ length text
  pub most : length text ≤ 13
  pub digits : Digits text

module _ (text : List ℕ) where
  pub parsed_size : (12 ≤ length text → length text ≤ 13 → ⊥) → refuse 30 (length text) ≡ parsed text
  unfolding parsed ◌then◌ ask
  parsed_size h =
      let no_size = denied (eqb (length text) 12 || eqb (length text) 13) (λ e. let s = or_size (length text) e in h s.0 s.1) in
      rw no_size

  pub parsed_on : 12 ≤ length text → length text ≤ 13 → (every is_digit 31 0 text then accept (length text) []) ≡ parsed text
  unfolding parsed
  parsed_on l h = sym (then_passes _ _ (ask_true _ 30 (length text) (size_or (length text) l h)))

  proper_of : (a : Answer) {n : ℕ} {out : List ℕ}
      → (ask (eqb (length text) 12 || eqb (length text) 13) 30 (length text) then every is_digit 31 0 text then a) ≡ accept n out → Proper text
  proper_of a e =
      let size = then_accept _ _ e in
      let bounds = or_size (length text) (ask_passes _ 30 (length text) size.0) in
      record { least = bounds.0; most = bounds.1; digits = every_good is_digit 31 0 text (then_accept _ _ size.1).0 }

  pub parsed_proper : (n : ℕ) → parsed text ≡ accept n [] → Proper text
  unfolding parsed
  parsed_proper n e = proper_of _ e

  -- the tests after those of `parse`
  abbrev pub right : Bool
  right = eqb (get_or (values_of text) 12 (right_check text)) (right_check text)

  tested_refused : (k m : ℕ) → parsed text ≡ refuse k m → tested text ≡ refuse k m
  unfolding parsed tested
  tested_refused k m e = two_tests (refuse k m) (refuse k m) (λ j l r. r) _ _ _ _ (λ r. refuse_not_accept (sym r)) e

  tested_on : (n : ℕ) → parsed text ≡ accept n [] → tested text ≡ (ask right 32 (right_check text) then accept 13 (thirteen text))
  unfolding parsed tested
  tested_on n e = two_tests (accept n []) _ (λ j l r. refuse_not_accept r) _ _ _ _ (λ r. refl) e

  -- what is answered for a text
  pub listed_refused : {v : Result ℕ Refusal} {r : Refusal} → v ≡ Err r → answers v ≡ parsed text → listed (Err r) ≡ tested text
  unfolding listed
  listed_refused e h = sym (tested_refused _ _ (said_refused e h))

  module _ (n check : ℕ) (e : parsed text ≡ accept n []) (same : check ≡ right_check text) where
    pub listed_wrong : eqb (get_or (values_of text) 12 check) check ≡ false → (k : ℕ) → k ≡ check → refuse 32 k ≡ tested text
    unfolding ◌then◌ ask
    listed_wrong b k q = rw q (sym (tested_on n e ∙ rw (← same, b)))

    pub listed_right : eqb (get_or (values_of text) 12 check) check ≡ true → {out : List ℕ} → out ≡ thirteen text → accept 13 out ≡ tested text
    unfolding ◌then◌ ask
    listed_right b f = rw f (sym (tested_on n e ∙ rw (← same, b)))

  -- ---- write, after the tests

  pub write_refused : (room : ℕ) (r : Refusal) → listed (Err r) ≡ tested text → write_ean13 room text ≡ refuse (refusal_number r) (refusal_second r)
  unfolding listed tested write_ean13
  write_refused room r e =
      let k = refusal_number r in
      let m = refusal_second r in
      ap (into room) (three_tests (refuse k m) (refuse k m) (λ j l q. q) _ _ _ _ _ (λ q. refuse_not_accept (sym q)) (sym e)) ∙ into_refuse room k m

  pub write_on : (room n : ℕ) {ds : List ℕ} → tested text ≡ accept n ds → write_ean13 room text ≡ into room (whole (ean13_row (thirteen text)))
  unfolding tested write_ean13
  write_on room n {ds} e = ap (into room) (three_tests (accept n ds) _ (λ j l r. refuse_not_accept r) _ _ _ _ _ (λ r. refl) e)

  pub tested_proper : (n : ℕ) {ds : List ℕ} → tested text ≡ accept n ds → Proper text
  unfolding tested
  tested_proper n e = proper_of _ e

  pub tested_thirteen : (n : ℕ) {ds : List ℕ} → tested text ≡ accept n ds → tested text ≡ accept 13 (thirteen text)
  unfolding tested
  tested_thirteen n {ds} e = three_tests (accept n ds) (accept 13 (thirteen text)) (λ j l r. refuse_not_accept r) _ _ _ _ _ (λ r. refl) e
