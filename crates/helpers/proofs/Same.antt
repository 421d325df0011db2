-- Tests of equality and order that antt computed, as facts.
-- Assumes nothing.
use mathlib.Core.Path.{◌≡◌, refl, sym, ap₂}
use mathlib.Core.Logic.{◌≢◌}
use mathlib.Core.Bool.{true, not}
use mathlib.Core.List.{List, [], ◌∷◌}
use Prim.Native.Nat.{ℕ, ◌≤◌}
use lib.Dec.{leb, eqb, T}
use borrow.Author.Tests.{leb-true, eqb-true, eq-eqb}
use Rattle.helpers.specs.Answers.{same}
use Rattle.helpers.proofs.Answering.{true_not_false, and_true, truth}

-- ---- equal lists

pub same_true : (xs ys : List ℕ) → same xs ys ≡ true → xs ≡ ys
unfolding same
same_true [] [] e = refl
same_true [] (y ∷ ys) e = true_not_false (sym e)
same_true (x ∷ xs) [] e = true_not_false (sym e)
same_true (x ∷ xs) (y ∷ ys) e =
    let both = and_true (eqb x y) (same xs ys) e in
    ap₂ (λ (a : ℕ) (l : List ℕ). a ∷ l) (eqb-true x y both.0) (same_true xs ys both.1)

pub same_refl : (xs : List ℕ) → same xs xs ≡ true
unfolding same
same_refl [] = refl
same_refl (x ∷ xs) = rw (eq-eqb x x refl) (same_refl xs)

pub eq_same : (xs ys : List ℕ) → xs ≡ ys → same xs ys ≡ true
eq_same xs ys e = rw e (same_refl ys)

-- ---- computed tests, as facts

pub as_equal : (a b : ℕ) → T (eqb a b) → a ≡ b
as_equal a b t = eqb-true a b (truth (eqb a b) t)

pub as_least : (a b : ℕ) → T (leb a b) → a ≤ b
as_least a b t = leb-true a b (truth (leb a b) t)

pub as_same : (xs ys : List ℕ) → T (same xs ys) → xs ≡ ys
as_same xs ys t = same_true xs ys (truth (same xs ys) t)

pub as_other : (xs ys : List ℕ) → T (not (same xs ys)) → xs ≢ ys
as_other xs ys t e = rw (eq_same xs ys e) at t
