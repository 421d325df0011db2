-- The check digit by modulo 10, one rule for every symbology that has it.
-- `modulo_10_checksum` of src/sym/helpers.rs; GS1 General Specifications, the check digit; document
-- 02, requests 2 and 11. Assumes nothing.
use Rattle.std.specs.Prelude.{◌+◌, ◌-◌, ◌*◌, ◌%◌, ◌∷◌}
use Rattle.helpers.specs.Prelude.{ℕ, Bool, true, false, List, []}

-- the sum of some digits, the first of which weighs w, where 1 and 3 weigh in turn: 4 - w is the
-- other weight
unfoldable pub in_turn : ℕ → List ℕ → ℕ
in_turn w [] = 0
in_turn w (d ∷ ds) = w * d + in_turn (4 - w) ds

-- what the first digit weighs: 1 where the crate's `even_start` holds
unfoldable pub first_weight : Bool → ℕ
first_weight true = 1
first_weight false = 3

-- the digit that, added to the sum, makes a multiple of ten; the sum is the true one, where the
-- crate's, in bytes, can overflow from 15 digits on
unfoldable pub modulo10 : Bool → List ℕ → ℕ
modulo10 even_start ds = (10 - in_turn (first_weight even_start) ds % 10) % 10
