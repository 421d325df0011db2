-- Demand 3's sentence on inputs: "every Ź standing between the two digits of a set C pair is moved
-- ahead of that pair". Said of code points alone; the parser is not asked. Where a first digit
-- finds no second, the input is refused; a Ź after such a digit goes ahead of it too.
-- Assumes nothing.
use Rattle.std.specs.Prelude.{◌+◌, ◌||◌, ◌∷◌, ◌++◌, if◌then◌else◌}
use Rattle.helpers.specs.Prelude.{ℕ, Bool, false, List, [], eqb}
use Rattle.paper.specs.Crate.{À, Ɓ, Ć, Ź, digit}

-- Where one stands in the input: outside set C, in it between two pairs, or in it after the first
-- digit of a pair, this code point.
pub data Position : Type 0 where
  outside between : Position
  halfway : ℕ → Position

-- À, Ɓ and Ć name the set from there on.
unfoldable pub switched : Position → ℕ → Position
switched p c = if eqb c Ć then between else if eqb c À then outside else if eqb c Ɓ then outside else p

-- where the code point c leads: after a first digit any Ź is passed, and all else ends the pair
unfoldable pub moved : Position → ℕ → Position
moved outside c = switched outside c
moved between c = if digit c then halfway c else switched between c
moved (halfway d) c = if eqb c Ź then halfway d else switched between c

-- what c adds to the settled input: itself; but between two pairs a first digit adds nothing yet,
-- and after it a Ź adds itself, ahead of that digit, and all else that digit and itself
unfoldable pub added : Position → ℕ → List ℕ
added outside c = c ∷ []
added between c = if digit c then [] else (c ∷ [])
added (halfway d) c = if eqb c Ź then (c ∷ []) else (d ∷ c ∷ [])

-- what the end of the input adds: a first digit that found no second
unfoldable pub left_over : Position → List ℕ
left_over outside = []
left_over between = []
left_over (halfway d) = d ∷ []

-- the settled input from this position on
unfoldable pub settle_from : Position → List ℕ → List ℕ
settle_from p [] = left_over p
settle_from p (c ∷ cs) = added p c ++ settle_from (moved p c) cs

-- the input with every Ź that stands inside a pair moved ahead of the pair
unfoldable pub settle : List ℕ → List ℕ
settle x = settle_from outside x

-- is c a Ź inside a pair?
unfoldable pub splits : Position → ℕ → Bool
splits outside c = false
splits between c = false
splits (halfway d) c = eqb c Ź

-- does a Ź stand inside a pair, from this position on?
unfoldable pub inside_from : Position → List ℕ → Bool
inside_from p [] = false
inside_from p (c ∷ cs) = splits p c || inside_from (moved p c) cs

-- does a Ź stand inside a pair, or after a first digit that finds no second?
unfoldable pub inside : List ℕ → Bool
inside x = inside_from outside x

-- how often c stands in a list
unfoldable pub occurrences : ℕ → List ℕ → ℕ
occurrences c [] = 0
occurrences c (x ∷ xs) = (if eqb c x then 1 else 0) + occurrences c xs

-- the list without its Ź
unfoldable pub withoutŹ : List ℕ → List ℕ
withoutŹ [] = []
withoutŹ (c ∷ cs) = (if eqb c Ź then [] else (c ∷ [])) ++ withoutŹ cs
