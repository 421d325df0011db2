-- What the promises on Shift speak of: document 01's scanner reading before request 1, where Shift
-- did nothing, and where a Shift stands. `set_after` serves a promise on FNC2 too.
-- Document 02, request 1; document 01, "Spelling and scanner reading". Assumes nothing.
use Rattle.std.specs.Prelude.{◌≤◌, ◌≡◌, ◌⊎◌, ◌||◌, ◌∷◌, ◌++◌}
use Rattle.helpers.specs.Prelude.{ℕ, Bool, false, List, []}
use Rattle.helpers.specs.Answers.{Answer, whole}
use Rattle.paper.specs.Iso15417.{Set, before, A, B, next, sent, is_shift}
use Rattle.paper.specs.Jobs.{of_list}

-- the bytes of the numbers by document 01 alone: "Shift and the function symbols give nothing"
unfoldable pub unshifted : Set → List ℕ → List ℕ
unshifted s [] = []
unshifted s (m ∷ ms) = sent s m ++ unshifted (next s m) ms

-- the job scan with that reading
unfoldable pub scan_unshifted : ℕ → List ℕ → Answer
scan_unshifted room s = of_list room s (whole (unshifted before s))

-- the set after some numbers, the first of them standing in the set s
unfoldable pub set_after : Set → List ℕ → Set
set_after s [] = s
set_after s (m ∷ ms) = set_after (next s m) ms

-- "98 in A or B": is the set one of the two?
abbrev pub AOrB : Set → Type 0
AOrB s = (s ≡ A) ⊎ (s ≡ B)

-- is there a Shift among the numbers?
unfoldable pub has_shift : Set → List ℕ → Bool
has_shift s [] = false
has_shift s (m ∷ ms) = is_shift s m || has_shift (next s m) ms

-- "If the next symbol is 96 to 102, or there is none": the first of these numbers is no text
abbrev pub NoTextFirst : List ℕ → Type 0
NoTextFirst [] = Unit {0}
NoTextFirst (m ∷ ms) = 96 ≤ m
