-- The decimal digits of a number, the last one at a time, and how many they are.
-- Assumes nothing.
use Prim.Native.Nat.{ℕ, zero, suc, ◌+◌, ◌/◌, ◌%◌, ◌^◌, ◌<◌, ◌≤◌}
use mathlib.Core.Path.{◌≡◌, refl, sym, ap, ◌∙◌}
use mathlib.Core.List.{List, [], ◌∷◌, ◌++◌}
use native.Mathlib.Omega.{arith}
use native.Mathlib.Decide.{dec_lt}
use borrow.Author.Tests.{lt-ltb, le-ltb}
use lib.ListN.{length, length-append}
use lib.Dec.{ltb}
use Rattle.std.specs.Prelude.{if◌then◌else◌}
use Rattle.line.specs.Line.{decimal_below, decimal}

last : (k n : ℕ) → n < 10 → decimal_below k n ≡ (48 + n) ∷ []
unfolding decimal_below
last zero n h = ap (λ (d : ℕ). (48 + d) ∷ []) (omega arith)
last (suc k) n h = rw (lt-ltb n 10 h) (ap (λ (d : ℕ). (48 + d) ∷ []) (omega arith))

-- as many turns as the number has digits are enough
enough : (j k n : ℕ) → n ≤ j → n ≤ k → decimal_below j n ≡ decimal_below k n
unfolding decimal_below
enough zero k n p q = last zero n (omega arith) ∙ sym (last k n (omega arith))
enough (suc j) zero n p q = last (suc j) n (omega arith) ∙ sym (last zero n (omega arith))
enough (suc j) (suc k) n p q = elim (dec_lt n 10) [ yes h ↦ last (suc j) n h ∙ sym (last (suc k) n h) | no h ↦ rw (le-ltb n 10 (omega arith), enough j k (n / 10) (omega arith) (omega arith)) ]

-- the digits of all but the last
unfoldable pub front : ℕ → List ℕ
front n = if ltb n 10 then [] else decimal (n / 10)

pub front_none : (n : ℕ) → n < 10 → front n ≡ []
unfolding front
front_none n h = rw (lt-ltb n 10 h)

pub front_some : (n : ℕ) → 10 ≤ n → front n ≡ decimal (n / 10)
unfolding front
front_some n h = rw (le-ltb n 10 h)

pub decimal_front : (n : ℕ) → decimal n ≡ front n ++ ((48 + n % 10) ∷ [])
unfolding decimal decimal_below front
decimal_front zero = refl
decimal_front (suc m) =
    elim (dec_lt (suc m) 10) [ yes l ↦ rw (lt-ltb (suc m) 10 l) | no l ↦ rw (le-ltb (suc m) 10 (omega arith), enough m (suc m / 10) (suc m / 10) (omega arith) (omega arith)) ]

pub front_long : (n : ℕ) → length (decimal n) ≡ length (front n) + 1
front_long n = ap length (decimal_front n) ∙ length-append (front n) ((48 + n % 10) ∷ [])

-- a number below 10, 100, 1000 or 10000 has at most 1, 2, 3 or 4 digits
pub decimal_few : (k n : ℕ) → n < 10 ^ suc k → length (decimal n) ≤ suc k
decimal_few zero n h = omega (arith, front_long n, ap length (front_none n (omega arith)))
decimal_few (suc k) n h =
    elim (dec_lt n 10) [
      | yes l ↦ omega (arith, front_long n, ap length (front_none n l))
      | no l ↦ omega (arith, front_long n, ap length (front_some n (omega arith)), decimal_few k (n / 10) (omega arith))
    ]
