-- What a proof by computation names on its `unfolding` line: it opens every definition of Ean13.
-- Assumes nothing.
use Rattle.helpers.proofs.Computes.{answers_computes}
use Rattle.helpers.specs.Modulo10.{in_turn, first_weight, modulo10}
use Rattle.helpers.specs.Readers.{gives, read_back}
use Rattle.ean.specs.Ean13.{widths_a, element, four_elements, in_a, in_c, in_b, in_set, parity_rows, parity_row, guard, centre, in_sets, ean13_row, is_digit, values_of, right_check, thirteen, write_ean13, full_text, digit_place, digit_cells, first_of, digit_in, left_set, list_of, digits_read, text_of, read_ean13, set_at, redrawn_as}

unfoldable pub ean13_computes : Unit {0}
unfolding widths_a element four_elements in_a in_c in_b in_set parity_rows parity_row guard centre in_sets ean13_row is_digit values_of right_check thirteen write_ean13 full_text digit_place digit_cells first_of digit_in left_set list_of digits_read text_of read_ean13 set_at redrawn_as in_turn first_weight modulo10 gives read_back answers_computes
ean13_computes = tt
