-- Refusals in order, of any symbology: a job's tests, each asked by itself, and what an input earns.
-- Document 01, "The seven jobs and their refusals" ("Order"). Assumes nothing.
use Rattle.std.specs.Prelude.{◌∷◌}
use Rattle.helpers.specs.Prelude.{ℕ, List, [], leb, length}
use Rattle.helpers.specs.Answers.{Answer, refuse, Test, refuses, passes, ◌then◌, ask}

-- the answer a, if no test refuses; else the refusal of the first that does
unfoldable pub in_order : List Test → Answer → Answer
in_order [] a = a
in_order (t ∷ ts) a = t then in_order ts a

-- 5 by itself: is there room for what would be written?
unfoldable pub room_for : ℕ → List ℕ → Test
room_for room out = ask (leb (length out) room) 5 (length out)

-- what an input earns: the refusals of all tests that refuse it, in order
unfoldable pub earned : List Test → List Answer
earned [] = []
earned (passes ∷ ts) = earned ts
earned (refuses k m ∷ ts) = refuse k m ∷ earned ts

-- ---- tables of inputs
-- an input of one of some jobs, the elements that are lent, the answer, and the refusals that the
-- input earns too, by later tests
pub data Earning (Job : Type 0) : Type 0 where
  ◌of◌into◌gets◌over◌ : Job → List ℕ → ℕ → Answer → List Answer → Earning Job

infix 15 ◌of◌into◌gets◌over◌
-- what each input is answered, and all that it earns
unfoldable pub answered_and_earned : {Job : Type 0} → (Job → ℕ → List ℕ → Answer) → (Job → ℕ → List ℕ → List Test) → List (Earning Job) → List (List Answer)
answered_and_earned answers tests [] = []
answered_and_earned answers tests ((j of x into room gets a over more) ∷ es) = (answers j room x ∷ earned (tests j room x)) ∷ answered_and_earned answers tests es

-- what the table says of both
unfoldable pub due : {Job : Type 0} → List (Earning Job) → List (List Answer)
due [] = []
due ((j of x into room gets a over more) ∷ es) = (a ∷ a ∷ more) ∷ due es
