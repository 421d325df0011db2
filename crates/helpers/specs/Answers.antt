-- What a job answers, of any symbology: its refusals in order, and the lent buffer afterwards.
-- Document 01, "The seven jobs and their refusals". Assumes nothing.
use Rattle.std.specs.Prelude.{◌≡◌, ◌&&◌, ◌∷◌, ◌++◌}
pub use Rattle.std.specs.Prelude.{if◌then◌else◌}
use Rattle.helpers.specs.Prelude.{ℕ, suc, Bool, true, false, List, [], leb, eqb, length, drop}

-- are two lists the same, element by element?
unfoldable pub same : List ℕ → List ℕ → Bool
same [] [] = true
same [] (y ∷ ys) = false
same (x ∷ xs) [] = false
same (x ∷ xs) (y ∷ ys) = eqb x y && same xs ys

-- every element of a list has the property
abbrev pub Each : (ℕ → Type 0) → List ℕ → Type 0
Each P [] = Unit {0}
Each P (x ∷ xs) = P x × Each P xs

-- `refuse k m`: the refusal numbered k, with second number m. `accept n out`: 0 with the number n,
-- and `out` at the buffer's front.
pub data Answer : Type 0 where
  refuse : ℕ → ℕ → Answer
  accept : ℕ → List ℕ → Answer

-- the answer is an acceptance
abbrev pub Accepted : Answer → Type 0
Accepted (refuse k m) = ⊥
Accepted (accept n out) = Unit {0}

-- "Order": one test of it either refuses, and nothing after it is asked, or passes.
pub data Test : Type 0 where
  refuses : ℕ → ℕ → Test
  passes : Test

infixr 20 ◌then◌
-- the answer a, if the test before it passes
unfoldable pub ◌then◌ : Test → Answer → Answer
refuses k m then a = refuse k m
passes then a = a

-- "Given when": refusal k with second number m where what is asked for does not hold
unfoldable pub ask : Bool → ℕ → ℕ → Test
ask true k m = passes
ask false k m = refuses k m

-- "place of the first": refusal k at the first element that is not good, places counted from `at`
unfoldable pub every : (ℕ → Bool) → ℕ → ℕ → List ℕ → Test
every good k at [] = passes
every good k at (x ∷ xs) = if good x then every good k (suc at) xs else refuses k at

-- "otherwise the elements written": accepted, with the output's length as the number
unfoldable pub whole : List ℕ → Answer
whole out = accept (length out) out

-- "5, output buffer too short, elements needed": the last test of every job, lent `room` elements
unfoldable pub into : ℕ → Answer → Answer
into room (refuse k m) = refuse k m
into room (accept n out) = if leb (length out) room then accept n out else refuse 5 (length out)

-- the answer number: that of a refusal, or 0
unfoldable pub number : Answer → ℕ
number (refuse k m) = k
number (accept n out) = 0

-- the second number: that of a refusal, or the number beside the 0
unfoldable pub second : Answer → ℕ
second (refuse k m) = m
second (accept n out) = n

-- "fills the front of its buffer", "Bytes or numbers behind that are unchanged", "A refusal changes
-- no lent memory": the lent buffer after the call; it was `buf` before
unfoldable pub after : Answer → List ℕ → List ℕ
after (refuse k m) buf = buf
after (accept n out) buf = out ++ drop (length out) buf

-- "Every job's contract determines answer number, second number and each element of lent memory
-- afterwards": where the answer is `a`, the call gave the numbers `num` and `sec` and left `out` in
-- the buffer that held `buf`.
pub record Gave (a : Answer) (num sec : ℕ) (buf out : List ℕ) : Type 0 where
  pub gave_number : num ≡ number a
  pub gave_second : sec ≡ second a
  pub gave_buffer : out ≡ after a buf
