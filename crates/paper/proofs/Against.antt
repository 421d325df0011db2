-- The definitions give every answer in the tables of Examples.antt, by computation.
-- tools/examples makes this file. Assumes nothing.
use mathlib.Core.Path.{◌≡◌, refl}
use mathlib.Core.List.{map}
use Rattle.paper.specs.Iso15417.{bar_cells, cells, count, stop}
use Rattle.paper.specs.Chars.{chars}
use Rattle.paper.specs.Rules.{runs}
use Rattle.paper.specs.Jobs.{encode, encode_with_fnc2, draw, read, spell, scan, pack, unpack}
use Rattle.paper.specs.Labels.{answered, expected}
use Rattle.paper.proofs.Examples.{examples_computes, elevens, joined, asked, given, briefly, parsed_as, printed_as, answer_of, of_crate, retired, passing}
use Rattle.paper.proofs.Examples.{retires, kept, three_jobs, three_answers, settles, settled, ruled, twice, judged, judgement, flips, thrice, trades}
use Rattle.paper.proofs.Examples.{traded, exchanges, threefold, settled_between, foretold, called, left, fits, fitting, check_in, right_check, headed, begun}
use Rattle.paper.proofs.Examples.{unstarred, unstarred_records, long_rows, order, published, published_rows, crate_chars, crate_stop, crate_widths, crate_bars}
use Rattle.paper.proofs.Examples.{every_number, every_switch, every_function, every_pair, foreign_digits, first_points, documented, randomly, randomly_wrong}
use Rattle.paper.proofs.Examples.{checks_on, with_fnc2, sweeps, read_back, read_lengths, read_blocks, read_worn, read_stops, read_checks, read_long, lists}
use Rattle.paper.proofs.Examples.{bad_lists, draw_short, spell_short, scan_short, shift_each, shift_before, shifting, packings, unpackings, settling, buffers}
use Rattle.paper.proofs.Examples.{redrawings, flippings, fnc2_refused, fnc2_before, fnc2_beside, fnc2_swept, fnc2_rows, fnc2_lists, exchanged_rows, exchangings}
use Rattle.paper.proofs.Examples.{sizes, longest, long_checks, heads, second_packings, second_unpackings, far_redrawings, far_exchangings}

pub unstarred_hold : map (asked encode) unstarred ≡ map given unstarred
unfolding examples_computes
unstarred_hold = refl

pub unstarred_records_hold : map (asked unpack) unstarred_records ≡ map given unstarred_records
unfolding examples_computes
unstarred_records_hold = refl

pub long_rows_hold : map (asked encode) long_rows ≡ map given long_rows
unfolding examples_computes
long_rows_hold = refl

pub order_hold : map (asked encode) order ≡ map given order
unfolding examples_computes
order_hold = refl

pub published_hold : map parsed_as published ≡ map printed_as published
unfolding examples_computes
published_hold = refl

pub published_rows_hold : map (asked encode) published_rows ≡ map given published_rows
unfolding examples_computes
published_rows_hold = refl

pub crate_chars_lem : chars ≡ crate_chars
unfolding examples_computes
crate_chars_lem = refl

pub crate_patterns : cells (count 0 106) ≡ crate_chars
unfolding examples_computes
crate_patterns = refl

pub crate_stop_lem : stop ≡ crate_stop
unfolding examples_computes
crate_stop_lem = refl

pub crate_widths_lem : joined (map runs (elevens 106 crate_chars)) ≡ crate_widths
unfolding examples_computes
crate_widths_lem = refl

pub crate_bars_lem : map bar_cells (elevens 106 crate_chars) ≡ crate_bars
unfolding examples_computes
crate_bars_lem = refl

pub every_number_hold : answered every_number ≡ expected every_number
unfolding examples_computes answered expected
every_number_hold = refl

pub every_switch_hold : answered every_switch ≡ expected every_switch
unfolding examples_computes answered expected
every_switch_hold = refl

pub every_function_hold : answered every_function ≡ expected every_function
unfolding examples_computes answered expected
every_function_hold = refl

pub every_pair_hold : answered every_pair ≡ expected every_pair
unfolding examples_computes answered expected
every_pair_hold = refl

pub foreign_digits_hold : map (asked encode) foreign_digits ≡ map given foreign_digits
unfolding examples_computes
foreign_digits_hold = refl

pub first_points_hold : map (asked encode) first_points ≡ map given first_points
unfolding examples_computes
first_points_hold = refl

pub documented_hold : answered documented ≡ expected documented
unfolding examples_computes answered expected
documented_hold = refl

pub randomly_hold : answered randomly ≡ expected randomly
unfolding examples_computes answered expected
randomly_hold = refl

pub randomly_wrong_hold : answered randomly_wrong ≡ expected randomly_wrong
unfolding examples_computes answered expected
randomly_wrong_hold = refl

pub checks_on_hold : answered checks_on ≡ expected checks_on
unfolding examples_computes answered expected
checks_on_hold = refl

pub with_fnc2_before : map (answer_of encode_with_fnc2) with_fnc2 ≡ map of_crate with_fnc2
unfolding examples_computes
with_fnc2_before = refl

pub with_fnc2_hold : map (answer_of encode) with_fnc2 ≡ map retired with_fnc2
unfolding examples_computes
with_fnc2_hold = refl

pub sweeps_hold : map passing sweeps ≡ map kept sweeps
unfolding examples_computes
sweeps_hold = refl

pub read_back_hold : map (asked read) read_back ≡ map given read_back
unfolding examples_computes
read_back_hold = refl

pub read_lengths_hold : map (asked read) read_lengths ≡ map given read_lengths
unfolding examples_computes
read_lengths_hold = refl

pub read_blocks_hold : map (asked read) read_blocks ≡ map given read_blocks
unfolding examples_computes
read_blocks_hold = refl

pub read_worn_hold : map (asked read) read_worn ≡ map given read_worn
unfolding examples_computes
read_worn_hold = refl

pub read_stops_hold : map (asked read) read_stops ≡ map given read_stops
unfolding examples_computes
read_stops_hold = refl

pub read_checks_hold : map (asked read) read_checks ≡ map given read_checks
unfolding examples_computes
read_checks_hold = refl

pub read_long_hold : map (asked read) read_long ≡ map given read_long
unfolding examples_computes
read_long_hold = refl

pub lists_hold : map three_jobs lists ≡ map three_answers lists
unfolding examples_computes
lists_hold = refl

pub bad_lists_of_draw : map (asked draw) bad_lists ≡ map given bad_lists
unfolding examples_computes
bad_lists_of_draw = refl

pub bad_lists_of_spell : map (asked spell) bad_lists ≡ map given bad_lists
unfolding examples_computes
bad_lists_of_spell = refl

pub bad_lists_of_scan : map (asked scan) bad_lists ≡ map given bad_lists
unfolding examples_computes
bad_lists_of_scan = refl

pub draw_short_hold : map (asked draw) draw_short ≡ map given draw_short
unfolding examples_computes
draw_short_hold = refl

pub spell_short_hold : map (asked spell) spell_short ≡ map given spell_short
unfolding examples_computes
spell_short_hold = refl

pub scan_short_hold : map (asked scan) scan_short ≡ map given scan_short
unfolding examples_computes
scan_short_hold = refl

pub shift_each_hold : map (asked scan) shift_each ≡ map given shift_each
unfolding examples_computes
shift_each_hold = refl

pub shift_before_hold : map (asked scan) shift_before ≡ map given shift_before
unfolding examples_computes
shift_before_hold = refl

pub shifting_hold : map (asked scan) shifting ≡ map given shifting
unfolding examples_computes
shifting_hold = refl

pub packings_hold : map (asked pack) packings ≡ map given packings
unfolding examples_computes
packings_hold = refl

pub unpackings_hold : map (asked unpack) unpackings ≡ map given unpackings
unfolding examples_computes
unpackings_hold = refl

pub settling_hold : map settles settling ≡ map settled settling
unfolding examples_computes
settling_hold = refl

pub buffers_hold : map called buffers ≡ map left buffers
unfolding examples_computes
buffers_hold = refl

pub redrawings_hold : map ruled redrawings ≡ map twice redrawings
unfolding examples_computes
redrawings_hold = refl

pub flippings_hold : map flips flippings ≡ map thrice flippings
unfolding examples_computes
flippings_hold = refl

pub fnc2_refused_hold : map (asked encode) fnc2_refused ≡ map given fnc2_refused
unfolding examples_computes
fnc2_refused_hold = refl

pub fnc2_before_hold : map (asked encode_with_fnc2) fnc2_before ≡ map given fnc2_before
unfolding examples_computes
fnc2_before_hold = refl

pub fnc2_beside_of_encode : map (asked encode) fnc2_beside ≡ map given fnc2_beside
unfolding examples_computes
fnc2_beside_of_encode = refl

pub fnc2_beside_of_encode_with_fnc2 : map (asked encode_with_fnc2) fnc2_beside ≡ map given fnc2_beside
unfolding examples_computes
fnc2_beside_of_encode_with_fnc2 = refl

pub fnc2_swept_hold : map retires fnc2_swept ≡ map kept fnc2_swept
unfolding examples_computes
fnc2_swept_hold = refl

pub fnc2_rows_hold : map (asked read) fnc2_rows ≡ map given fnc2_rows
unfolding examples_computes
fnc2_rows_hold = refl

pub fnc2_lists_hold : map three_jobs fnc2_lists ≡ map three_answers fnc2_lists
unfolding examples_computes
fnc2_lists_hold = refl

pub exchanged_rows_hold : map trades exchanged_rows ≡ map traded exchanged_rows
unfolding examples_computes
exchanged_rows_hold = refl

pub exchangings_hold : map exchanges exchangings ≡ map threefold exchangings
unfolding examples_computes
exchangings_hold = refl

pub sizes_hold : map fits sizes ≡ map fitting sizes
unfolding examples_computes
sizes_hold = refl

pub longest_hold : map (asked (briefly encode)) longest ≡ map given longest
unfolding examples_computes
longest_hold = refl

pub long_checks_hold : map check_in long_checks ≡ map right_check long_checks
unfolding examples_computes
long_checks_hold = refl

pub heads_hold : map headed heads ≡ map begun heads
unfolding examples_computes
heads_hold = refl

pub second_packings_hold : map (asked pack) second_packings ≡ map given second_packings
unfolding examples_computes
second_packings_hold = refl

pub second_unpackings_hold : map (asked unpack) second_unpackings ≡ map given second_unpackings
unfolding examples_computes
second_unpackings_hold = refl

pub far_redrawings_hold : map judged far_redrawings ≡ map judgement far_redrawings
unfolding examples_computes
far_redrawings_hold = refl

pub far_exchangings_hold : map settled_between far_exchangings ≡ map foretold far_exchangings
unfolding examples_computes
far_exchangings_hold = refl
