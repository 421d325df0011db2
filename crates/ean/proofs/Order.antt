-- The order of the refusals of EAN-13: each job answers by the first of its tests that refuses; and
-- the table of inputs, by computation.
-- Assumes nothing.
use Prim.Native.Nat.{ℕ}
use mathlib.Core.Path.{◌≡◌, refl}
use mathlib.Core.Bool.{◌||◌}
use mathlib.Core.List.{List, [], ◌∷◌}
use lib.Dec.{eqb}
use lib.ListN.{length, get_or}
use Rattle.helpers.specs.Answers.{ask, every, whole}
use Rattle.helpers.specs.Order.{in_order, answered_and_earned, due}
use Rattle.helpers.specs.Readers.{gives, read_back}
use Rattle.helpers.proofs.Computes.{tests_computes}
use Rattle.helpers.proofs.Order.{into_order_accept}
use Rattle.ean.specs.Ean13.{is_digit, values_of, right_check, write_ean13, text_of, read_ean13}
use Rattle.ean.specs.Order.{Ean13Job, WriteEan13, ReadEan13, ean13_answer_of, ean13_tests_of, ean13_accepted_of, ean13_earnings}
use Rattle.ean.proofs.Computes.{ean13_computes}

pub ean13_earned : answered_and_earned ean13_answer_of ean13_tests_of ean13_earnings ≡ due ean13_earnings
unfolding ean13_answer_of ean13_tests_of ean13_earnings tests_computes ean13_computes
ean13_earned = refl

pub ean13_in_order : (j : Ean13Job) (room : ℕ) (x : List ℕ) → ean13_answer_of j room x ≡ in_order (ean13_tests_of j room x) (ean13_accepted_of j x)
unfolding ean13_answer_of ean13_tests_of ean13_accepted_of write_ean13 read_ean13 read_back in_order whole
ean13_in_order WriteEan13 room text =
    into_order_accept room (
    ask (eqb (length text) 12 || eqb (length text) 13) 30 (length text) ∷
    every is_digit 31 0 text ∷
    ask (eqb (get_or (values_of text) 12 (right_check text)) (right_check text)) 32 (right_check text) ∷ []) _ _
ean13_in_order ReadEan13 room row = into_order_accept room (ask (gives (write_ean13 (length row) (text_of row)) row) 33 0 ∷ []) _ _
