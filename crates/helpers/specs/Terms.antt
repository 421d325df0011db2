-- What contracts of the code speak of beside the definitions. Nobody audits these.
-- Assumes nothing.
use Rattle.std.specs.Prelude.{ℕ, ◌+◌, ◌≡◌, ◌⊎◌, List, [], length}
use Rattle.std.proofs.lemmas.List.Edits.{sets}
use Rattle.helpers.specs.Answers as Paper
use Rattle.helpers.specs.Answers.{refuse, accept}
use Rattle.std.specs.Prelude.{Result, Ok, Err}
use Rattle.helpers.specs.declared.Refusal.{Refusal}
use Rattle.helpers.specs.Numbers.{refusal_number, refusal_second}

-- one of the two weights of a check digit by modulo 10
abbrev pub Turn : ℕ → Type 0
Turn w = (w ≡ 1) ⊎ (w ≡ 3)

-- what the code's answer is where nothing was written
unfoldable pub answers : Result ℕ Refusal → Paper.Answer
answers (Ok n) = accept n []
answers (Err r) = refuse (refusal_number r) (refusal_second r)

-- an answer without its output
unfoldable pub bare : Paper.Answer → Paper.Answer
bare (refuse k m) = refuse k m
bare (accept n out) = accept n []

-- some elements were stored from place `at` on, and r is the place after them
pub record Stored (vs l : List ℕ) (at : ℕ) (l' : List ℕ) (r : ℕ) : Type 0 where
  pub stored : l' ≡ sets l at vs
  pub next : r ≡ at + length vs
