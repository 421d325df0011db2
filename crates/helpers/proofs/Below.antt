-- A test that antt computes at every number below a bound, and the law that turns it into the fact
-- at each of them.
-- Assumes nothing.
use mathlib.Core.Path.{subst, sym}
use mathlib.Core.Logic.{inl, inr}
use mathlib.Core.Bool.{Bool, true, false, ◌&&◌}
use Prim.Native.Nat.{ℕ, zero, suc, ◌+◌, ◌-◌, ◌≤◌, ◌<◌}
use native.Mathlib.Omega.{arith}
use native.Mathlib.Nat.{add-sub_of_le, le_of_suc-le-suc, not-suc-le-zero, eq-or-lt_of_le}
use lib.Dec.{T}

pub and_left : (a b : Bool) → T (a && b) → T a
and_left true b t = tt
and_left false b t = t

pub and_right : (a b : Bool) → T (a && b) → T b
and_right true b t = t
and_right false b t = absurd t

pub and_both : (a b : Bool) → T a → T b → T (a && b)
and_both true b t u = u
and_both false b t u = t

-- the test f passes at every number below n
abbrev pub below : (ℕ → Bool) → ℕ → Bool
below f zero = true
below f (suc n) = f n && below f n

pub at : (f : ℕ → Bool) (n : ℕ) → T (below f n) → (k : ℕ) → k < n → T (f k)
at f zero t k h = absurd (not-suc-le-zero h)
at f (suc n) t k h = elim (eq-or-lt_of_le (le_of_suc-le-suc h)) [ inl e ↦ subst (λ (m : ℕ). T (f m)) (sym e) (and_left (f n) (below f n) t) | inr l ↦ at f n (and_right (f n) (below f n) t) k l ]

-- the same from a number a on
pub from : (f : ℕ → Bool) (a n : ℕ) → T (below (λ j. f (a + j)) n) → (k : ℕ) → a ≤ k → k < a + n → T (f k)
from f a n t k l h = subst (λ (m : ℕ). T (f m)) (add-sub_of_le l) (at (λ j. f (a + j)) n t (k - a) (omega arith))
