-- The rule of the table of patterns, and the crate's numbers held against the standard's table.
-- Document 01, "Patterns and check", "Tokens and character sets" and, for "none of the 106
-- patterns", "The seven jobs and their refusals"; document 02, request 1. Assumes nothing.
use Rattle.std.specs.Prelude.{◌-◌, ◌%◌, ◌<◌, ◌≤◌, ◌≡◌, ◌≢◌, ◌∷◌, ◌++◌, if◌then◌else◌}
use Rattle.helpers.specs.Prelude.{ℕ, suc, Bool, true, false, not, List, [], eqb, length, get_or, take}
use Rattle.helpers.specs.Answers.{same, Each}
use Rattle.paper.specs.Iso15417.{Set, before, A, B, C, Meaning, ascii, pair, FNC, SHIFT, CODE, START, pattern, stop, bar_cells, next, digits, sent, is_shift, column}
use Rattle.paper.specs.Crate.{À, Ɓ, Ć, Ź, ź, Ż, ż, Ž, letters}

-- ---- the table
-- one cell more: of the first run where it is of the same colour, and else a run of its own
unfoldable pub longer : Bool → List ℕ → List ℕ
longer true [] = []
longer true (k ∷ ks) = suc k ∷ ks
longer false ks = 1 ∷ ks

-- the lengths of a block's bars and spaces, in order
unfoldable pub runs : List ℕ → List ℕ
runs [] = []
runs (c ∷ []) = 1 ∷ []
runs (c ∷ d ∷ cs) = longer (eqb c d) (runs (d ∷ cs))

-- "Every pattern begins with 1 and ends with 0, has three bars and three spaces of 1 to 4 cells, an
-- even number of bar cells, and equals no other pattern nor the first eleven cells of the stop."
-- (That no two are equal is `table_apart` of Promises.)
pub record PatternRule (p : List ℕ) : Type 0 where
  pub eleven : length p ≡ 11
  pub two_colours : Each (λ c. c ≤ 1) p
  pub begins : get_or p 0 0 ≡ 1
  pub ends : get_or p 10 1 ≡ 0
  pub six : length (runs p) ≡ 6
  pub narrow : Each (λ w. (1 ≤ w) × (w ≤ 4)) (runs p)
  pub even : bar_cells p % 2 ≡ 0
  pub no_stop : p ≢ take 11 stop

-- "none of the 106 patterns", as a statement
abbrev pub NoPattern : List ℕ → Type 0
NoPattern cs = (m : ℕ) → m < 106 → cs ≢ pattern m

-- ---- the numbers of the code sets
-- the code point that names a set
unfoldable pub name_of : Set → List ℕ
name_of before = []
name_of A = À ∷ []
name_of B = Ɓ ∷ []
name_of C = Ć ∷ []

-- the code points by which the crate writes what the standard means
unfoldable pub written : Meaning → List ℕ
written (ascii c) = c ∷ []
written (pair m) = digits m
written (FNC k) = get_or (Ź ∷ ź ∷ Ż ∷ ż ∷ []) (k - 1) 0 ∷ []
written SHIFT = Ž ∷ []
written (CODE s) = name_of s
written (START s) = name_of s

-- what a scanner sends for it
unfoldable pub message : Meaning → List ℕ
message (ascii c) = c ∷ []
message (pair m) = digits m
message (FNC k) = []
message SHIFT = []
message (CODE s) = []
message (START s) = []

-- the set after it
unfoldable pub leads : Set → Meaning → Set
leads s (ascii c) = s
leads s (pair m) = s
leads s (FNC k) = s
leads s SHIFT = s
leads s (CODE t) = t
leads s (START t) = t

-- is the number m of a set written as the standard means it?
unfoldable pub writes : Set → ℕ → Meaning → Bool
writes s m x = same (letters s m) (written x)

-- is the number m of a set sent as the standard means it?
unfoldable pub sends : Set → ℕ → Meaning → Bool
sends s m x = same (sent s m) (message x)

-- does it lead to the set that the standard means?
unfoldable pub switches : Set → ℕ → Meaning → Bool
switches s m x = same (name_of (next s m)) (name_of (leads s x))

-- is it the standard's Shift?
unfoldable pub is_shift_symbol : Meaning → Bool
is_shift_symbol (ascii c) = false
is_shift_symbol (pair m) = false
is_shift_symbol (FNC k) = false
is_shift_symbol SHIFT = true
is_shift_symbol (CODE s) = false
is_shift_symbol (START s) = false

-- is the number m of a set a Shift exactly where the standard means one?
unfoldable pub shifts : Set → ℕ → Meaning → Bool
shifts s m x = if is_shift s m then is_shift_symbol x else not (is_shift_symbol x)

-- a number of a set
pub data Spot : Type 0 where
  spot : Set → ℕ → Spot

-- the numbers of a column, from m on, for which the answer is no
unfoldable pub differences_in : (Set → ℕ → Meaning → Bool) → Set → ℕ → List Meaning → List Spot
differences_in agrees s m [] = []
differences_in agrees s m (x ∷ xs) = (if agrees s m x then [] else (spot s m ∷ [])) ++ differences_in agrees s (suc m) xs

-- the same in the whole table: the STARTs, and 103 numbers in each of the three sets
unfoldable pub differences : (Set → ℕ → Meaning → Bool) → List Spot
differences agrees =
    differences_in agrees before 103 (column before) ++ differences_in agrees A 0 (column A) ++ differences_in agrees B 0 (column B) ++
    differences_in agrees C 0 (column C)
