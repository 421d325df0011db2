-- The two numbers of an answer, as they leave the library.
-- Document 01, "The seven jobs and their refusals". Assumes nothing.
use Rattle.std.specs.Prelude.{ℕ, ◌≡◌, Result}
use Rattle.helpers.specs.declared.Refusal.{Refusal}
use Rattle.helpers.specs.Numbers.{number_of, second_of}

pub record Numbered (a : Result ℕ Refusal) (number second : ℕ) : Type 0 where
  pub is_number : number ≡ number_of a
  pub is_second : second ≡ second_of a
