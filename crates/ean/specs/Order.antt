-- The order of the refusals of EAN-13: the tests of both jobs, each asked by itself, and one table of
-- inputs: each refusal at two (33 has only 0, and 5 only 95 and 13), and each two that stand next to
-- each other at one that earns both.
-- Document 02, request 2: "30 …, 31 …, 32 …, 33 …, then 5, in that order". Assumes nothing.
use Rattle.std.specs.Prelude.{◌||◌, ◌∷◌, ◌++◌}
use Rattle.helpers.specs.Prelude.{ℕ, List, [], eqb, length, get_or, replicate}
use Rattle.helpers.specs.Answers.{Answer, refuse, Test, ask, every, whole}
use Rattle.helpers.specs.Order.{room_for, Earning, ◌of◌into◌gets◌over◌}
use Rattle.helpers.specs.Readers.{gives}
use Rattle.ean.specs.Ean13.{ean13_row, is_digit, values_of, right_check, thirteen, write_ean13, text_of, read_ean13}

-- the two jobs, and what each answers, lent `room` elements
pub data Ean13Job : Type 0 where
  WriteEan13 ReadEan13 : Ean13Job

unfoldable pub ean13_answer_of : Ean13Job → ℕ → List ℕ → Answer
ean13_answer_of WriteEan13 = write_ean13
ean13_answer_of ReadEan13 = read_ean13

-- the tests of a job, in order
unfoldable pub ean13_tests_of : Ean13Job → ℕ → List ℕ → List Test
ean13_tests_of WriteEan13 room text =
    ask (eqb (length text) 12 || eqb (length text) 13) 30 (length text) ∷
    every is_digit 31 0 text ∷
    ask (eqb (get_or (values_of text) 12 (right_check text)) (right_check text)) 32 (right_check text) ∷
    room_for room (ean13_row (thirteen text)) ∷ []
ean13_tests_of ReadEan13 room row =
    ask (gives (write_ean13 (length row) (text_of row)) row) 33 0 ∷
    room_for room (text_of row) ∷ []

-- what a job answers where none of its tests refuses
unfoldable pub ean13_accepted_of : Ean13Job → List ℕ → Answer
ean13_accepted_of WriteEan13 text = whole (ean13_row (thirteen text))
ean13_accepted_of ReadEan13 row = whole (text_of row)

-- The table: 48 is the digit 0, whose check over twelve of it is 0, and 47 is no digit.
unfoldable pub ean13_earnings : List (Earning Ean13Job)
ean13_earnings =
    (WriteEan13 of replicate 11 48 into 95 gets refuse 30 11 over []) ∷
    (WriteEan13 of replicate 14 48 into 95 gets refuse 30 14 over []) ∷
    (WriteEan13 of 48 ∷ 47 ∷ [] into 95 gets refuse 30 2 over (refuse 31 1 ∷ [])) ∷
    (WriteEan13 of 47 ∷ replicate 11 48 into 95 gets refuse 31 0 over []) ∷
    (WriteEan13 of replicate 11 48 ++ (58 ∷ []) into 95 gets refuse 31 11 over []) ∷
    (WriteEan13 of replicate 12 48 ++ (58 ∷ []) into 95 gets refuse 31 12 over (refuse 32 0 ∷ [])) ∷
    (WriteEan13 of replicate 12 48 ++ (49 ∷ []) into 95 gets refuse 32 0 over []) ∷
    (WriteEan13 of replicate 11 48 ++ (49 ∷ 48 ∷ []) into 95 gets refuse 32 7 over []) ∷
    (WriteEan13 of replicate 12 48 ++ (49 ∷ []) into 94 gets refuse 32 0 over (refuse 5 95 ∷ [])) ∷
    (WriteEan13 of replicate 12 48 into 94 gets refuse 5 95 over []) ∷
    (ReadEan13 of [] into 13 gets refuse 33 0 over []) ∷
    (ReadEan13 of replicate 95 0 into 12 gets refuse 33 0 over (refuse 5 13 ∷ [])) ∷
    (ReadEan13 of ean13_row (replicate 13 0) into 12 gets refuse 5 13 over []) ∷
    []
