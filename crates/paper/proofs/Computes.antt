-- What proofs by computation name on their `unfolding` lines: each opens every definition of one
-- file of specs/, and of the files that it stands on.
-- Assumes nothing.
use Rattle.helpers.proofs.Computes.{answers_computes}
use Rattle.paper.specs.Iso15417.{points, widths, bar_of, space_of, drawn, pattern, stop, bar_cells, worn_or_unknown, found_in, found, weighed, check, cells, row, next, digits, sent, start_of, is_shift, other, read_in, scanned_from, scanned, count, printed, column}
use Rattle.paper.specs.Crate.{utf8_of, utf8_bytes, is_scalar, in_both, spans, number_in, point_in, digit, pairs, listed, step, with_symbol, follow, finished, parse_from, parse, as_list, letters, spell_from, spelled}
use Rattle.paper.specs.Settle.{switched, moved, added, left_over, settle_from, settle, splits, inside_from, inside, occurrences, withoutŹ}
use Rattle.paper.specs.Chars.{chars, entry}
use Rattle.paper.specs.Rules.{longer, runs, name_of, written, message, leads, writes, sends, switches, is_shift_symbol, shifts, differences_in, differences}
use Rattle.paper.specs.Jobs.{most, possible, row_length, symbol_count, possible_row, parsed, encoder, encode_with_fnc2, not_fnc2, encode, is_start, is_data, well_formed, of_list, draw, spell, scan, is_cell, of_row, fits_at, with_number, block, blocks_from, looked, last_of, wanted, read}
use Rattle.paper.specs.Jobs.{bits, bytes, bytes_for, head, record_of, pack, eight, unbytes, all_zero, record_length, version_of, head_length, count_of, count_fits, stored_cells, unpack}
use Rattle.paper.specs.Labels.{symbols_and_check, starred, expected, answered, shift_labels, shift_expected, shift_answered, retired_labels, unpack_labels, unpack_expected, unpack_answered}
use Rattle.paper.specs.Damage.{blocks_of, block_at, over, redrawn, blind, accepted_if, verdict, flipped, flipped_verdict, exchanged, exchanged_list, exchanged_verdict}

unfoldable pub iso15417_computes : Unit {0}
unfolding widths bar_of space_of drawn pattern stop bar_cells worn_or_unknown found_in found weighed check cells row next digits sent start_of is_shift other read_in scanned_from scanned count printed column points answers_computes
iso15417_computes = tt

unfoldable pub crate_computes : Unit {0}
unfolding utf8_of utf8_bytes is_scalar in_both spans number_in point_in digit pairs listed step with_symbol follow finished parse_from parse as_list letters spell_from spelled iso15417_computes
crate_computes = tt

unfoldable pub settle_computes : Unit {0}
unfolding switched moved added left_over settle_from settle splits inside_from inside occurrences withoutŹ crate_computes
settle_computes = tt

unfoldable pub chars_computes : Unit {0}
unfolding chars entry
chars_computes = tt

unfoldable pub rules_computes : Unit {0}
unfolding longer runs name_of written message leads writes sends switches is_shift_symbol shifts differences_in differences crate_computes
rules_computes = tt

unfoldable pub jobs_computes : Unit {0}
unfolding most possible row_length symbol_count possible_row parsed encoder encode_with_fnc2 not_fnc2 encode is_start is_data well_formed of_list draw spell scan is_cell of_row fits_at with_number block blocks_from looked last_of wanted read bits bytes bytes_for head record_of pack eight unbytes all_zero record_length version_of head_length count_of count_fits stored_cells unpack crate_computes
jobs_computes = tt

unfoldable pub labels_computes : Unit {0}
unfolding symbols_and_check starred expected answered shift_labels shift_expected shift_answered retired_labels unpack_labels unpack_expected unpack_answered jobs_computes
labels_computes = tt

unfoldable pub damage_computes : Unit {0}
unfolding blocks_of block_at over redrawn blind accepted_if verdict flipped flipped_verdict exchanged exchanged_list exchanged_verdict jobs_computes
damage_computes = tt
