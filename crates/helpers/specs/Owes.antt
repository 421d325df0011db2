-- What every job owes its caller, in one record.
-- Demand 1, and document 01, "What each job owes its caller". Assumes nothing.
use Rattle.std.specs.Prelude.{◌≤◌, ◌≡◌, ◌≢◌, ◌⊎◌, ◌∷◌}
use Rattle.helpers.specs.Prelude.{ℕ, List, [], length}
use Rattle.helpers.specs.Answers.{Answer, refuse, accept, Accepted, Gave}

-- k is one of the list
abbrev pub OneOf : ℕ → List ℕ → Type 0
OneOf k [] = ⊥
OneOf k (x ∷ xs) = (k ≡ x) ⊎ OneOf k xs

-- `job room x` is what the job answers to the input x, whatever x is, where the lent buffer has
-- `room` elements; `refusals` are the numbers that it may refuse by, `largest` the most elements
-- that it writes.
pub record Owes (job : ℕ → List ℕ → Answer) (refusals : List ℕ) (largest : ℕ) : Type 0 where
  -- It refuses by the numbers of its own list, so that the answer number 0 is an acceptance.
  pub refused_by : (room : ℕ) (x : List ℕ) (k m : ℕ) → job room x ≡ refuse k m → OneOf k refusals
  pub zero_accepts : (x : List ℕ) (m : ℕ) (buf out : List ℕ) → Gave (job (length buf) x) 0 m buf out → Accepted (job (length buf) x)
  -- On a refusal the lent buffer is as it was found, whatever the answer a.
  pub refusal_keeps : (a : Answer) (k m : ℕ) (buf out : List ℕ) → Gave a k m buf out → k ≢ 0 → out ≡ buf
  -- What is accepted fits the lent buffer, and the buffer stays as long as it was.
  pub output_fits : (room : ℕ) (x : List ℕ) (n : ℕ) (out : List ℕ) → job room x ≡ accept n out → length out ≤ room
  pub buffer_stays : (x : List ℕ) (k m : ℕ) (buf out : List ℕ) → Gave (job (length buf) x) k m buf out → length out ≡ length buf
  -- The memory limit: whatever is lent and whatever arrives, it writes at most `largest` elements.
  pub memory_limit : (room : ℕ) (x : List ℕ) (n : ℕ) (out : List ℕ) → job room x ≡ accept n out → length out ≤ largest
  -- Any two results that a contract allows are equal, whatever the answer a.
  pub one_result : (a : Answer) (k m : ℕ) (buf out : List ℕ) (k' m' : ℕ) (out' : List ℕ)
      → Gave a k m buf out → Gave a k' m' buf out' → (k ≡ k') × (m ≡ m') × (out ≡ out')
