-- How the code's numbers are read, and the parts of the two jobs that the code does one after the
-- other. Nobody audits these.
-- Assumes nothing.
use Rattle.std.specs.Prelude.{Option, Some, None, Result, Ok, Err, ℕ, ◌<◌, ◌≡◌, Bool, true, ◌&&◌, ◌||◌, List, [], ◌∷◌, ltb, eqb, length, get_or, take, drop}
use Rattle.helpers.specs.Answers.{same, Answer, refuse, accept, ◌then◌, ask, every}
use Rattle.helpers.specs.Modulo10.{modulo10}
use Rattle.helpers.specs.Numbers.{refusal_number, refusal_second}
use Rattle.helpers.specs.declared.Refusal.{Refusal}
use Rattle.ean.specs.Ean13.{guard, centre, is_digit, values_of, right_check, thirteen, set_c, digit_cells, digit_in, left_set, list_of}

-- a digit, as a number; the number of a set
abbrev pub Digit : ℕ → Type 0
Digit d = d < 10

abbrev pub Side : ℕ → Type 0
Side s = s < 3

-- ---- write
-- the tests of a text before its check digit
unfoldable pub parsed : List ℕ → Answer
parsed text =
    ask (eqb (length text) 12 || eqb (length text) 13) 30 (length text) then
    every is_digit 31 0 text then
    accept (length text) []

-- the tests of a text; a text that passes is accepted with its thirteen digits
unfoldable pub tested : List ℕ → Answer
tested text =
    ask (eqb (length text) 12 || eqb (length text) 13) 30 (length text) then
    every is_digit 31 0 text then
    ask (eqb (get_or (values_of text) 12 (right_check text)) (right_check text)) 32 (right_check text) then
    accept 13 (thirteen text)

-- what the code's answer is where it lists the digits
unfoldable pub listed : Result (List ℕ) Refusal → Answer
listed (Ok ds) = accept 13 ds
listed (Err r) = refuse (refusal_number r) (refusal_second r)

-- ---- read
-- the digit that is looked for, 10 where there is none
abbrev pub Found : Option ℕ → ℕ → Type 0
Found None n = n ≡ 10
Found (Some d) n = (d ≡ n) × Digit d

-- a digit left of the centre, found in A or B
pub record LeftOf (cs : List ℕ) (side digit : ℕ) : Type 0 where
  pub of_side : side ≡ left_set cs
  pub of_digit : digit ≡ digit_in (left_set cs) cs
  pub found : Digit digit

-- the sets of the six digits left of the centre, and these digits
abbrev pub sets_left : List ℕ → List ℕ
sets_left row = list_of (λ k. left_set (digit_cells k row)) 0 6

abbrev pub digits_left : List ℕ → List ℕ
digits_left row = list_of (λ k. digit_in (left_set (digit_cells k row)) (digit_cells k row)) 0 6

-- the six right of it
abbrev pub digits_right : List ℕ → List ℕ
digits_right row = list_of (λ k. digit_in set_c (digit_cells k row)) 6 6

-- the length of a row, and its three guards
unfoldable pub framed : List ℕ → Bool
framed row = eqb (length row) 95 && same guard (take 3 (drop 0 row)) && same centre (take 5 (drop 45 row)) && same guard (take 3 (drop 92 row))

-- every number is a digit
unfoldable pub all_digits : List ℕ → Bool
all_digits [] = true
all_digits (d ∷ ds) = ltb d 10 && all_digits ds

-- thirteen digits, the last of which is the check of the others
unfoldable pub checked : List ℕ → Bool
checked ds = all_digits ds && eqb (get_or ds 12 0) (modulo10 true (take 12 ds))
