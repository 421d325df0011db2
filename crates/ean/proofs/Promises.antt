-- What is promised of EAN-13 holds.
-- Assumes nothing.
use mathlib.Core.Path.{◌≡◌, refl}
use Rattle.helpers.specs.Prelude.{map, take}
use Rattle.ean.specs.Ean13.{full_text}
use Rattle.ean.specs.Promises.{printed_text, printed_numbers, Promises}
use Rattle.ean.proofs.Computes.{ean13_computes}
use Rattle.ean.proofs.Order.{ean13_in_order, ean13_earned}
use Rattle.ean.proofs.Tables.{digit_rule, digits_apart, parity_length, parity_sets, parity_apart, parity_two_places}
use Rattle.ean.proofs.Reading.{ean13_reads_back}
use Rattle.ean.proofs.Writing.{row_length, write_exactly, check_alike, check_wrong, ean13_same_row, write_owes, read_owes, read_exactly, write_short, read_short}
use Rattle.ean.proofs.Damaged.{redrawn_itself, redrawn_refused, changed_refused, cell_refused, upside_down_refused}

printed_checks : map (λ p. full_text (take 12 (printed_text p))) printed_numbers ≡ map printed_text printed_numbers
unfolding printed_text printed_numbers ean13_computes
printed_checks = refl

pub promises : Promises
promises =
    record {
      digit_rule = digit_rule;
      digits_apart = digits_apart;
      parity_length = parity_length;
      parity_sets = parity_sets;
      parity_apart = parity_apart;
      parity_two_places = parity_two_places;
      write_owes = write_owes;
      read_owes = read_owes;
      ean13_in_order = ean13_in_order;
      ean13_earned = ean13_earned;
      write_exactly = write_exactly;
      write_short = write_short;
      row_length = row_length;
      check_alike = λ room x h a. check_alike x h a room;
      check_wrong = λ room x c h a d n. check_wrong x h a c d room n;
      ean13_same_row = ean13_same_row;
      printed_checks = printed_checks;
      reads_back = ean13_reads_back;
      read_exactly = read_exactly;
      read_short = read_short;
      redrawn_itself = redrawn_itself;
      redrawn_refused = λ room room' x n r w k d h l o. redrawn_refused room room' x n r w k h d l o;
      changed_refused = λ room room' x n r w k cells h s o. changed_refused room room' x n r w k h cells s o;
      cell_refused = cell_refused;
      upside_down_refused = upside_down_refused;
    }
