-- Document 01's two numbers determine the answer itself: no refusal is 0, and no two are alike.
-- Assumes nothing.
use Prim.Native.Nat.{ℕ, ◌≤◌}
use mathlib.Core.Path.{◌≡◌, refl, sym, ap, ap₂, ◌∙◌}
use native.Mathlib.Omega.{arith}
use lib.Dec.{eqb}
use Rattle.std.specs.Prelude.{if◌then◌else◌, Result, Ok, Err}
use Rattle.helpers.specs.declared.Refusal.{Refusal}
use Rattle.helpers.specs.declared.Refusal.TheVariants.{Scalar, Length, Character, Symbols, Room, Size, Cell, Pattern, Place, Check, Stop, Worn, Retired, Short, Version, Count, Spare, TextLength, Digit, CheckDigit, Row}
use Rattle.helpers.specs.Numbers.{refusal_number, refusal_second, number_of, second_of}

-- the refusal of two numbers
refusal_of : ℕ → ℕ → Refusal
refusal_of j k =
    if eqb j 1 then Scalar k else if eqb j 2 then Length k else if eqb j 3 then Character k else if eqb j 4 then Symbols k else if eqb j 5 then Room k else
    if eqb j 10 then Size k else if eqb j 11 then Cell k else if eqb j 12 then Pattern k else if eqb j 13 then Place k else if eqb j 14 then Check k else
    if eqb j 15 then Stop k else if eqb j 16 then Worn k else if eqb j 19 then Retired k else if eqb j 20 then Short k else if eqb j 21 then Version k else
    if eqb j 22 then Count k else if eqb j 23 then Spare k else if eqb j 30 then TextLength k else if eqb j 31 then Digit k else
    if eqb j 32 then CheckDigit k else Row k

-- each refusal has a number of its own, and none has 0
back : (r : Refusal) → (refusal_of (refusal_number r) (refusal_second r) ≡ r) × (1 ≤ refusal_number r)
unfolding refusal_of refusal_number
back (Scalar k) = (refl, omega arith)
back (Length k) = (refl, omega arith)
back (Character k) = (refl, omega arith)
back (Symbols k) = (refl, omega arith)
back (Room k) = (refl, omega arith)
back (Size k) = (refl, omega arith)
back (Cell k) = (refl, omega arith)
back (Pattern k) = (refl, omega arith)
back (Place k) = (refl, omega arith)
back (Check k) = (refl, omega arith)
back (Stop k) = (refl, omega arith)
back (Worn k) = (refl, omega arith)
back (Retired k) = (refl, omega arith)
back (Short k) = (refl, omega arith)
back (Version k) = (refl, omega arith)
back (Count k) = (refl, omega arith)
back (Spare k) = (refl, omega arith)
back (TextLength k) = (refl, omega arith)
back (Digit k) = (refl, omega arith)
back (CheckDigit k) = (refl, omega arith)
back (Row k) = (refl, omega arith)

pub answer_determined : (a b : Result ℕ Refusal) → number_of a ≡ number_of b → second_of a ≡ second_of b → a ≡ b
unfolding number_of second_of
answer_determined (Ok n) (Ok m) e f = ap Ok f
answer_determined (Ok n) (Err r) e f = absurd (omega (arith, (back r).1))
answer_determined (Err r) (Ok m) e f = absurd (omega (arith, (back r).1))
answer_determined (Err r) (Err q) e f = ap Err (sym (back r).0 ∙ ap₂ refusal_of e f ∙ (back q).0)
