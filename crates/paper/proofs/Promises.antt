-- All that is promised holds: each field is a law of its own name in the module that its line below
-- shows.
-- Assumes nothing.
use Rattle.paper.specs.Promises.{Promises}
use Rattle.paper.proofs.Labels.{points_named, labels, shift_labels_lem, retired_labels_lem, unpack_labels_lem}
use Rattle.paper.proofs.Order.{in_order_lem, refusals_earned, one_not_two}
use Rattle.paper.proofs.Lengths.{row_sizes}
use Rattle.paper.proofs.Table.{table_length, table_widths, table_rule, table_apart, table_found, table_pattern, stop_cells, look_is, look_worn, look_unknown}
use Rattle.paper.proofs.Codes.{numbers_written, numbers_sent, numbers_switch, numbers_shift, numbers_differ, numbers_all, numbers_back, scan_seven_bits}
use Rattle.paper.proofs.Shifting.{shift_reads, shift_none, shift_pair, scan_as_before, scan_same_length, scan_same_refusal}
use Rattle.paper.proofs.Results.{encode_owes, draw_owes, read_owes, spell_owes, scan_owes, pack_owes, unpack_owes}
use Rattle.paper.proofs.Encoding.{encode_with_fnc2_exactly, encode_size, same_row, spell_encodes, spell_only, spell_exactly}
use Rattle.paper.proofs.Retiring.{retired_without, retired_stopped, retired_refused, retired_exactly, retired_accepted, retired_rows}
use Rattle.paper.proofs.Settling.{settle_quiet, settle_keeps, settle_order, settle_once, settle_still}
use Rattle.paper.proofs.Reading.{draw_size, read_size, read_of_draw, draw_of_read}
use Rattle.paper.proofs.Exactly.{read_exactly}
use Rattle.paper.proofs.Damaged.{replaced, replaced_accepted}
use Rattle.paper.proofs.Wrong.{read_worn, read_unknown}
use Rattle.paper.proofs.Flipped.{flipped_exactly, flipped_refused}
use Rattle.paper.proofs.Exchanged.{exchanged_exactly, neighbours_refused, exchanged_alike}
use Rattle.paper.proofs.Records.{record_sizes, pack_size, unpack_size, unpack_of_pack, pack_of_unpack, one_record}
use Rattle.paper.proofs.Version1.{pack_as_before, unpack_as_before, old_readers}
use Rattle.paper.proofs.Version2.{pack_long, pack_none, unpack_under, unpack_none, unpack_long}
use Rattle.paper.proofs.Sums.{check_most, check_crate, sum_fits}

pub promises : Promises
promises = record {
  table_length = table_length;
  table_widths = table_widths;
  table_rule = table_rule;
  table_apart = table_apart;
  table_found = table_found;
  table_pattern = table_pattern;
  stop_cells = stop_cells;
  look_is = look_is;
  look_worn = look_worn;
  look_unknown = look_unknown;
  numbers_written = numbers_written;
  numbers_sent = numbers_sent;
  numbers_switch = numbers_switch;
  numbers_differ = numbers_differ;
  numbers_all = numbers_all;
  numbers_shift = numbers_shift;
  numbers_back = numbers_back;
  points_named = points_named;
  labels = labels;
  encode_owes = encode_owes;
  draw_owes = draw_owes;
  read_owes = read_owes;
  spell_owes = spell_owes;
  scan_owes = scan_owes;
  pack_owes = pack_owes;
  unpack_owes = unpack_owes;
  encode_size = encode_size;
  draw_size = draw_size;
  read_size = read_size;
  unpack_size = unpack_size;
  row_sizes = row_sizes;
  record_sizes = record_sizes;
  pack_size = pack_size;
  in_order_lem = in_order_lem;
  refusals_earned = refusals_earned;
  one_not_two = one_not_two;
  check_most = check_most;
  check_crate = check_crate;
  sum_fits = sum_fits;
  encode_with_fnc2_exactly = encode_with_fnc2_exactly;
  same_row = same_row;
  settle_quiet = settle_quiet;
  settle_keeps = settle_keeps;
  settle_order = settle_order;
  settle_once = settle_once;
  settle_still = settle_still;
  retired_without = retired_without;
  retired_stopped = retired_stopped;
  retired_refused = retired_refused;
  retired_exactly = retired_exactly;
  retired_accepted = retired_accepted;
  retired_rows = retired_rows;
  retired_labels_lem = retired_labels_lem;
  read_exactly = read_exactly;
  read_of_draw = read_of_draw;
  draw_of_read = draw_of_read;
  replaced = replaced;
  replaced_accepted = replaced_accepted;
  read_worn = read_worn;
  read_unknown = read_unknown;
  flipped_exactly = flipped_exactly;
  flipped_refused = flipped_refused;
  exchanged_exactly = exchanged_exactly;
  neighbours_refused = neighbours_refused;
  exchanged_alike = exchanged_alike;
  spell_encodes = spell_encodes;
  spell_only = spell_only;
  spell_exactly = spell_exactly;
  scan_seven_bits = scan_seven_bits;
  shift_reads = shift_reads;
  shift_none = shift_none;
  shift_pair = shift_pair;
  scan_as_before = scan_as_before;
  scan_same_length = scan_same_length;
  scan_same_refusal = scan_same_refusal;
  shift_labels_lem = shift_labels_lem;
  unpack_of_pack = unpack_of_pack;
  pack_of_unpack = pack_of_unpack;
  one_record = one_record;
  pack_as_before = pack_as_before;
  unpack_as_before = unpack_as_before;
  pack_long = pack_long;
  pack_none = pack_none;
  unpack_under = unpack_under;
  unpack_none = unpack_none;
  unpack_long = unpack_long;
  old_readers = old_readers;
  unpack_labels_lem = unpack_labels_lem;
}
