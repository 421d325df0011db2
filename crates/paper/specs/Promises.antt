-- All that is promised of Code 128, in one record; `promises` of proofs/Promises.antt is its proof.
-- Assumes nothing.
use Rattle.std.specs.Prelude.{◌+◌, ◌-◌, ◌*◌, ◌/◌, ◌%◌, ◌<◌, ◌≤◌, ◌≡◌, ◌↔◌, ◌≢◌, ◌⊎◌, ◌∷◌, ◌++◌}
use Rattle.helpers.specs.Prelude.{ℕ, false, some, List, [], eqb, length, get_or, take, drop}
use Rattle.helpers.specs.Answers.{Each, refuse, accept, Accepted, refuses, ◌then◌, ask, every, whole, into}
use Rattle.helpers.specs.Owes.{Owes}
use Rattle.helpers.specs.Order.{in_order, answered_and_earned, due}
use Rattle.paper.specs.Iso15417.{points, Set, before, A, B, C, is, worn, unknown, bar_cells, ascii, SHIFT, cells, count, weighed, check, row, stop, pattern, found, column, start_of, digits, other, scanned}
use Rattle.paper.specs.Crate.{À, Ɓ, Ć, Ź, ź, Ż, ż, Ž, ÷, is_scalar, utf8_bytes, checksum, stops, symbols, parse, letters, spans, number_in, point_in}
use Rattle.paper.specs.Settle.{settle, inside, occurrences, withoutŹ}
use Rattle.paper.specs.Chars.{chars, entry}
use Rattle.paper.specs.Rules.{PatternRule, NoPattern, spot, differences, message, writes, sends, switches, shifts}
use Rattle.paper.specs.Damage.{blocks_of, block_at, redrawn, verdict, flipped, flipped_verdict, exchanged, exchanged_list, exchanged_verdict}
use Rattle.paper.specs.Jobs.{SymbolList, most, row_length, encode_with_fnc2, encode, draw, read, spell, scan, is_cell, bytes, bytes_for, pack, record_length, unbytes, all_zero, version_of, head_length, count_of, unpack}
use Rattle.paper.specs.Order.{Job, answer_of, tests_of, accepted_of, earnings}
use Rattle.paper.specs.Version1.{old_pack, old_unpack}
use Rattle.paper.specs.Shift.{unshifted, scan_unshifted, set_after, AOrB, has_shift, NoTextFirst}
use Rattle.paper.specs.Labels.{answered, expected, starred, shift_answered, shift_expected, shift_labels, retired_labels, unpack_answered, unpack_expected, unpack_labels}

-- demands 1, 2 and 3, what document 01 says of spelling, scanning and records, and requests 1, 3,
-- 4, 9 and 12 of document 02
pub record Promises : Type 0 where
  -- ---- the tables
  -- The flat table has 106 entries of eleven cells: the standard's widths, drawn in turn.
  pub table_length : length chars ≡ 1166
  pub table_widths : chars ≡ cells (count 0 106)
  -- The rule of the table: each entry by itself, no two alike, each found as its own number, each
  -- the pattern of its number.
  pub table_rule : (m : ℕ) → m < 106 → PatternRule (entry m)
  pub table_apart : (m k : ℕ) → m < 106 → k < 106 → entry m ≡ entry k → m ≡ k
  pub table_found : (m : ℕ) → m < 106 → found (entry m) ≡ is m
  pub table_pattern : (m : ℕ) → m < 106 → entry m ≡ pattern m
  -- The stop's cells.
  pub stop_cells : stop ≡ 1 ∷ 1 ∷ 0 ∷ 0 ∷ 0 ∷ 1 ∷ 1 ∷ 1 ∷ 0 ∷ 1 ∷ 0 ∷ 1 ∷ 1 ∷ []
  -- Request 3: the three cases of the lookup, exactly, for any list: a number, if the cells are its
  -- pattern; worn, if they are none of the 106 and the number of bar cells is odd; unknown, if they
  -- are none and it is even.
  pub look_is : (cs : List ℕ) (m : ℕ) → (found cs ≡ is m) ↔ ((m < 106) × (cs ≡ pattern m))
  pub look_worn : (cs : List ℕ) → (found cs ≡ worn) ↔ (NoPattern cs × (bar_cells cs % 2 ≡ 1))
  pub look_unknown : (cs : List ℕ) → (found cs ≡ unknown) ↔ (NoPattern cs × (bar_cells cs % 2 ≡ 0))
  -- All numbers of all three sets and the STARTs, 103 in each set, against the standard's table: ÷
  -- for DEL at 95 in set B is the only difference.
  pub numbers_written : differences writes ≡ spot B 95 ∷ []
  pub numbers_sent : differences sends ≡ []
  pub numbers_switch : differences switches ≡ []
  pub numbers_differ : (letters B 95 ≡ ÷ ∷ []) × (get_or (column B) 95 (ascii 0) ≡ ascii 0x7F)
  pub numbers_all : (length (column A) ≡ 103) × (length (column B) ≡ 103) × (length (column C) ≡ 103)
  -- Request 1: Shift is where the standard's table has it.
  pub numbers_shift : differences shifts ≡ []
  -- A code point has a number in a set exactly if the number is written by it there.
  pub numbers_back : (s : Set) (c m : ℕ) → (number_in (spans s) c ≡ some m) ↔ (point_in (spans s) m ≡ some c)
  -- The named code points are the letters that name them.
  pub points_named : points "ÀƁĆŹźŻżŽ÷" ≡ À ∷ Ɓ ∷ Ć ∷ Ź ∷ ź ∷ Ż ∷ ż ∷ Ž ∷ ÷ ∷ []
  -- The starred labels: what encode answers to each is what document 01 says.
  pub labels : answered starred ≡ expected starred
  -- ---- demand 1, of each job
  -- What a job owes its caller (helpers, Owes): the numbers that it refuses by, and the most
  -- elements that it ever writes: cells, symbols, code points or bytes. No row exceeds 44,024
  -- cells.
  pub encode_owes : Owes encode (1 ∷ 2 ∷ 3 ∷ 19 ∷ 4 ∷ 5 ∷ []) 44024
  pub draw_owes : Owes draw (10 ∷ 13 ∷ 5 ∷ []) 44024
  pub read_owes : Owes read (10 ∷ 11 ∷ 12 ∷ 16 ∷ 13 ∷ 15 ∷ 14 ∷ 5 ∷ []) 4000
  pub spell_owes : Owes spell (10 ∷ 13 ∷ 5 ∷ []) 7999
  pub scan_owes : Owes scan (10 ∷ 13 ∷ 5 ∷ []) 7998
  pub pack_owes : Owes pack (10 ∷ 11 ∷ 5 ∷ []) 5506
  pub unpack_owes : Owes unpack (20 ∷ 21 ∷ 22 ∷ 23 ∷ 5 ∷ []) 44024
  -- An accepted row has 11(n+1)+13 cells, whether it is written or read, and n is within the limit.
  pub encode_size : (room : ℕ) (x : List ℕ) (n : ℕ) (r : List ℕ) → encode room x ≡ accept n r → (length r ≡ 11 * (n + 1) + 13) × (n ≤ 4000)
  pub draw_size : (room : ℕ) (s : List ℕ) (n : ℕ) (r : List ℕ) → draw room s ≡ accept n r → (length r ≡ 11 * (n + 1) + 13) × (n ≡ length s) × (n ≤ 4000)
  pub read_size : (room : ℕ) (r : List ℕ) (n : ℕ) (s : List ℕ) → read room r ≡ accept n s → (length r ≡ 11 * (n + 1) + 13) × (n ≡ length s) × (n ≤ 4000)
  -- Unpack gives exactly the cells that its count declares, and believes the count only of a record
  -- as long as that count needs.
  pub unpack_size : (room : ℕ) (rec : List ℕ) (n : ℕ) (cs : List ℕ) → unpack room rec ≡ accept n cs
      → (n ≡ length cs) × (length cs ≡ 11 * count_of rec + 24) × (length rec ≡ head_length rec + (length cs + 7) / 8)
  -- The sizes that document 01 and request 4 name, rows of 1, 255 and 4,000 symbols and records of 1
  -- and 255; and those of the shortest and the longest record of version 2.
  pub row_sizes : (row_length 1 ≡ 35) × (row_length 255 ≡ 2829) × (row_length 4000 ≡ 44024)
  pub record_sizes : (record_length 1 ≡ 7) × (record_length 255 ≡ 356) × (record_length 256 ≡ 358) × (record_length 4000 ≡ 5506)
  -- The record of a row of k symbols has that length, so that of one symbol has 7 bytes.
  pub pack_size : (room : ℕ) (cs : List ℕ) (k n : ℕ) (rec : List ℕ) → length cs ≡ row_length k → pack room cs ≡ accept n rec → (n ≡ length rec) × (n ≡ record_length k)
  -- ---- the order of the refusals
  -- Each job answers by the first of its tests that refuses, each of them asked by itself, and
  -- accepts where none does.
  pub in_order_lem : (j : Job) (room : ℕ) (x : List ℕ) → answer_of j room x ≡ in_order (tests_of j room x) (accepted_of j x)
  -- What each input of the table is answered, and all refusals that it earns.
  pub refusals_earned : answered_and_earned answer_of tests_of earnings ≡ due earnings
  -- Encode's 1 and 2 do not meet: a text with a value that is no scalar value makes two bytes.
  pub one_not_two : (x : List ℕ) (at : ℕ) → every is_scalar 1 0 x ≡ refuses 1 at → 2 ≤ utf8_bytes x
  -- ---- the check
  -- It is at most 102, and the same by the crate's own sum, in which place i weighs max(1, i).
  pub check_most : (s : List ℕ) → check s ≤ 102
  pub check_crate : (s : List ℕ) → checksum s ≡ check s
  -- The sum of the check, of any symbol list, fits the crate's `i32`.
  pub sum_fits : (start : ℕ) (ms : List ℕ) → SymbolList (start ∷ ms) → start + weighed 1 ms < 2147483648
  -- ---- encode, and the inputs that give one row
  -- Document 01's encoder accepts exactly the inputs that parse within limit and room, and writes
  -- their row.
  pub encode_with_fnc2_exactly : (room : ℕ) (x : List ℕ) (n : ℕ) (r : List ℕ)
      → (encode_with_fnc2 room x ≡ accept n r) ↔ ((s : List ℕ) × (parse x ≡ symbols s) × (n ≡ length s) × (n ≤ most) × (r ≡ row s) × (length r ≤ room))
  -- Demand 3, in which "the encoder" is document 01's (request 12): two accepted inputs give the
  -- same row exactly if they become equal once every Ź inside a pair is moved ahead of the pair.
  pub same_row : (room room' : ℕ) (x y : List ℕ) (n m : ℕ) (r q : List ℕ) → encode_with_fnc2 room x ≡ accept n r → encode_with_fnc2 room' y ≡ accept m q
      → (r ≡ q) ↔ (settle x ≡ settle y)
  -- Settling leaves no Ź inside a pair, keeps every code point as often as before and all but Ź in
  -- their order, and changes nothing the second time or where no Ź stands inside a pair.
  pub settle_quiet : (x : List ℕ) → inside (settle x) ≡ false
  pub settle_keeps : (c : ℕ) (x : List ℕ) → occurrences c (settle x) ≡ occurrences c x
  pub settle_order : (x : List ℕ) → withoutŹ (settle x) ≡ withoutŹ x
  pub settle_once : (x : List ℕ) → settle (settle x) ≡ settle x
  pub settle_still : (x : List ℕ) → inside x ≡ false → settle x ≡ x
  -- ---- request 12: ź, which is FNC2, is retired
  -- Encode is document 01's encoder, answer for answer, for every input without ź, and for every
  -- input that does not parse, wherever its ź stand;
  pub retired_without : (room : ℕ) (x : List ℕ) → occurrences ź x ≡ 0 → encode room x ≡ encode_with_fnc2 room x
  pub retired_stopped : (room : ℕ) (x : List ℕ) (at : ℕ) → parse x ≡ stops at → encode room x ≡ encode_with_fnc2 room x
  -- an input with ź that parses is refused by 19, whatever its number of symbols and the room;
  pub retired_refused : (room : ℕ) (x s : List ℕ) → parse x ≡ symbols s → occurrences ź x ≢ 0 → (at : ℕ) × (encode room x ≡ refuse 19 at)
  -- the place is that of the first ź, and no other input is refused by 19.
  pub retired_exactly : (room : ℕ) (x : List ℕ) (at : ℕ)
      → (encode room x ≡ refuse 19 at) ↔ (((s : List ℕ) × (parse x ≡ symbols s)) × (at < length x) × (get_or x at 0 ≡ ź) × (occurrences ź (take at x) ≡ 0))
  -- So encode accepts exactly what document 01's encoder accepts and has no ź, with the same row.
  pub retired_accepted : (room : ℕ) (x : List ℕ) (n : ℕ) (r : List ℕ)
      → (encode room x ≡ accept n r) ↔ ((occurrences ź x ≡ 0) × (encode_with_fnc2 room x ≡ accept n r))
  -- The rows that it writes are exactly those of the lists whose every 97 stands in set C: no row
  -- holds a data symbol 97 in set A or B.
  pub retired_rows : (room : ℕ) (s : List ℕ) → SymbolList s → length (row s) ≤ room
      → ((x : List ℕ) × (encode room x ≡ accept (length s) (row s))) ↔ ((i : ℕ) → get_or s i 0 ≡ 97 → set_after before (take i s) ≡ C)
  -- Labels, by hand from request 12: what encode answers to each.
  pub retired_labels_lem : answered retired_labels ≡ expected retired_labels
  -- ---- read
  -- Demand 3, "the encoder" being document 01's: read, lent room enough, accepts a row exactly if
  -- that encoder writes it for some input, and returns that input's symbols.
  pub read_exactly : (room : ℕ) (r : List ℕ) (n : ℕ) (s : List ℕ) → n ≤ room
      → (read room r ≡ accept n s) ↔ ((x : List ℕ) × (parse x ≡ symbols s) × (encode_with_fnc2 (length r) x ≡ accept n r))
  -- Draw and read undo each other.
  pub read_of_draw : (room : ℕ) (s : List ℕ) (n : ℕ) (r : List ℕ) → draw room s ≡ accept n r → (room' : ℕ) → n ≤ room' → read room' r ≡ accept n s
  pub draw_of_read : (room : ℕ) (r : List ℕ) (n : ℕ) (s : List ℕ) → read room r ≡ accept n s → (room' : ℕ) → length r ≤ room' → draw room' s ≡ accept n r
  -- Demand 3: one block of an accepted row, START and check too, is redrawn as another of the 106.
  -- The answer, refused or not, in every case;
  pub replaced : (room : ℕ) (s : List ℕ) → SymbolList s → (i m : ℕ) → i ≤ length s → m < 106 → m ≢ get_or (blocks_of s) i 0
      → read room (redrawn i m (row s)) ≡ into room (verdict s i m)
  -- it is an acceptance exactly for a data number at a data place that is a multiple of 103.
  pub replaced_accepted : (room : ℕ) (s : List ℕ) → SymbolList s → length s ≤ room → (i m : ℕ) → i ≤ length s → m < 106 → m ≢ get_or (blocks_of s) i 0
      → Accepted (read room (redrawn i m (row s))) ↔ ((1 ≤ i) × (i % 103 ≡ 0) × (i < length s) × (m ≤ 102))
  -- Request 3: read refuses a block by 16 only if it is worn, and by 12 only if it is unknown.
  pub read_worn : (room : ℕ) (cs : List ℕ) (b : ℕ) → read room cs ≡ refuse 16 b → found (block_at b cs) ≡ worn
  pub read_unknown : (room : ℕ) (cs : List ℕ) (b : ℕ) → read room cs ≡ refuse 12 b → found (block_at b cs) ≡ unknown
  -- Request 3: one cell of an accepted row is flipped. The answer at every place, into any room;
  pub flipped_exactly : (room : ℕ) (s : List ℕ) → SymbolList s → (i : ℕ) → i < length (row s) → read room (flipped i (row s)) ≡ flipped_verdict s i
  -- so an accepted row with any one cell flipped is refused.
  pub flipped_refused : (room room' : ℕ) (r : List ℕ) (n : ℕ) (s : List ℕ) → read room r ≡ accept n s → (i : ℕ) → i < length r
      → Accepted (read room' (flipped i r)) → ⊥
  -- Request 9: two data blocks of an accepted row, of different numbers, change places, the check
  -- left as drawn. The answer for every two of them, into any room;
  pub exchanged_exactly : (room : ℕ) (s : List ℕ) → SymbolList s → (i j : ℕ) → 1 ≤ i → i < j → j < length s → get_or s i 0 ≢ get_or s j 0
      → read room (exchanged i j (row s)) ≡ into room (exchanged_verdict s i j)
  -- so an accepted row in which two different data symbols next to each other change places, check
  -- left as drawn, is refused at every place, 103 and its multiples and the last data symbol
  -- included: by 14, into any room, with the check that would be right;
  pub neighbours_refused : (room room' : ℕ) (r : List ℕ) (n : ℕ) (s : List ℕ) → read room r ≡ accept n s
      → (i : ℕ) → 1 ≤ i → i + 1 < n → get_or s i 0 ≢ get_or s (i + 1) 0 → read room' (exchanged i (i + 1) r) ≡ refuse 14 (check (exchanged_list i (i + 1) s))
  -- and where two symbols are alike nothing changes.
  pub exchanged_alike : (s : List ℕ) → SymbolList s → (i j : ℕ) → i < length s → j < length s → get_or s i 0 ≡ get_or s j 0
      → exchanged i j (row s) ≡ row s
  -- ---- spell and scan
  -- What spell writes encodes to the list's row, by document 01's encoder, and has no Ź inside a
  -- pair, and no other input does; it has at most 7,999 code points.
  pub spell_encodes : (room : ℕ) (s : List ℕ) (n : ℕ) (x : List ℕ) → spell room s ≡ accept n x
      → (encode_with_fnc2 (length (row s)) x ≡ accept (length s) (row s)) × (inside x ≡ false) × (n ≡ length x) × (n ≤ 7999)
  pub spell_only : (room room' : ℕ) (s : List ℕ) (n : ℕ) (x y : List ℕ) (k : ℕ) → spell room s ≡ accept n x
      → encode_with_fnc2 room' y ≡ accept k (row s) → inside y ≡ false → y ≡ x
  -- Request 12: spell accepts every symbol list for which there is room, one with 97 in set A or B
  -- too, and no other, and writes that input.
  pub spell_exactly : (room : ℕ) (s : List ℕ) (n : ℕ) (x : List ℕ)
      → (spell room s ≡ accept n x) ↔ (SymbolList s × (parse x ≡ symbols s) × (inside x ≡ false) × (n ≡ length x) × (n ≤ room))
  -- Scan's bytes are below 128.
  pub scan_seven_bits : (room : ℕ) (s : List ℕ) (n : ℕ) (b : List ℕ) → scan room s ≡ accept n b → Each (λ c. c < 128) b
  -- Request 1: wherever a Shift stands in set A or B, a number below 96 right after it gives what
  -- the standard's column of the other set says, and those after it give what they give right after
  -- the START of the set that the Shift stands in;
  pub shift_reads : (xs : List ℕ) (m : ℕ) (ms : List ℕ) → AOrB (set_after before xs) → m < 96
      → scanned (xs ++ (98 ∷ m ∷ ms))
      ≡ scanned xs ++ (message (get_or (column (other (set_after before xs))) m SHIFT) ++ scanned (start_of (set_after before xs) ∷ ms))
  -- before any other number, or at the end, it may as well not be there;
  pub shift_none : (xs ms : List ℕ) → AOrB (set_after before xs) → NoTextFirst ms → scanned (xs ++ (98 ∷ ms)) ≡ scanned (xs ++ ms)
  -- in set C 98 is the pair 98, and those after it give what they give right after START C;
  pub shift_pair : (xs ms : List ℕ) → set_after before xs ≡ C → scanned (xs ++ (98 ∷ ms)) ≡ scanned xs ++ (digits 98 ++ scanned (start_of C ∷ ms))
  -- a list without Shift is answered as before the request, at every length of the buffer;
  pub scan_as_before : (room : ℕ) (s : List ℕ) → has_shift before s ≡ false → scan room s ≡ scan_unshifted room s
  -- and with Shift, the number of bytes and every refusal are those of before the request.
  pub scan_same_length : (s : List ℕ) → length (scanned s) ≡ length (unshifted before s)
  pub scan_same_refusal : (room : ℕ) (s : List ℕ) (k m : ℕ) → (scan room s ≡ refuse k m) ↔ (scan_unshifted room s ≡ refuse k m)
  -- Eight lists, by hand from request 1: what scan answers to each.
  pub shift_labels_lem : shift_answered shift_labels ≡ shift_expected shift_labels
  -- ---- pack and unpack
  -- They undo each other.
  pub unpack_of_pack : (room : ℕ) (cs : List ℕ) (n : ℕ) (rec : List ℕ) → pack room cs ≡ accept n rec
      → (room' : ℕ) → length cs ≤ room' → unpack room' rec ≡ accept (length cs) cs
  pub pack_of_unpack : (room : ℕ) (rec : List ℕ) → Each (λ b. b < 256) rec → (n : ℕ) (cs : List ℕ) → unpack room rec ≡ accept n cs
      → (room' : ℕ) → length rec ≤ room' → pack room' cs ≡ accept (length rec) rec
  -- Request 4, "each row has one record": two records of bytes that unpack accepts with the same
  -- cells are equal.
  pub one_record : (room room' : ℕ) (rec rec' : List ℕ) → Each (λ b. b < 256) rec → Each (λ b. b < 256) rec' → (n n' : ℕ) (cs : List ℕ)
      → unpack room rec ≡ accept n cs → unpack room' rec' ≡ accept n' cs → rec ≡ rec'
  -- Every list of up to 2,829 numbers, the cells of 255 symbols, is answered by pack as before the
  -- request, byte for byte, and every record but those of version 2 by unpack, at every length of
  -- the buffer.
  pub pack_as_before : (room : ℕ) (cs : List ℕ) → length cs ≤ 2829 → pack room cs ≡ old_pack room cs
  pub unpack_as_before : (room : ℕ) (rec : List ℕ) → version_of rec ≢ 2 → unpack room rec ≡ old_unpack room rec
  -- What pack answers to a list as long as a row of 256 to 4,000 symbols: 11 at the first number
  -- that is no cell; else version 2, the count in two bytes, the high one first, and the cells,
  -- eight to a byte; or 5, if there is no room for it. And to a list as long as no row: 10.
  pub pack_long : (room : ℕ) (cs : List ℕ) (n : ℕ) → 255 < n → n ≤ 4000 → length cs ≡ row_length n
      → pack room cs ≡ into room (every is_cell 11 0 cs then whole (2 ∷ (n / 256) ∷ (n % 256) ∷ bytes (bytes_for (length cs)) cs))
  pub pack_none : (room : ℕ) (cs : List ℕ) → ((n : ℕ) → 1 ≤ n → n ≤ 4000 → length cs ≢ row_length n) → pack room cs ≡ refuse 10 (length cs)
  -- What unpack answers to a record of version 2. Under 2 bytes, as for any version: 20.
  pub unpack_under : (room : ℕ) (rec : List ℕ) → length rec < 2 → unpack room rec ≡ refuse 20 (length rec)
  -- Of 2 bytes, or with a count n up to 255 or above 4,000: 22 with 0.
  pub unpack_none : (room : ℕ) (rec : List ℕ) (n : ℕ) → 2 ≤ length rec → version_of rec ≡ 2 → n ≡ 256 * get_or rec 1 0 + get_or rec 2 0
      → (length rec < 3) ⊎ ((n ≤ 255) ⊎ (4000 < n)) → unpack room rec ≡ refuse 22 0
  -- With any other count n, in this order: 22 with the length that n symbols need, if the record has
  -- another; 23 with the place of its last byte, if a spare bit is set; the cells, or 5 if there is
  -- no room for them.
  pub unpack_long : (room : ℕ) (rec : List ℕ) (n : ℕ) → 3 ≤ length rec → version_of rec ≡ 2 → n ≡ 256 * get_or rec 1 0 + get_or rec 2 0 → 255 < n → n ≤ 4000
      → unpack room rec
      ≡ into room
      (ask (eqb (length rec) (3 + bytes_for (row_length n))) 22 (3 + bytes_for (row_length n)) then
      ask (all_zero (drop (row_length n) (unbytes (drop 3 rec)))) 23 (length rec - 1) then
      whole (take (row_length n) (unbytes (drop 3 rec))))
  -- Old readers answer 21, with 2, to every record of version 2 of two bytes or more.
  pub old_readers : (room : ℕ) (rec : List ℕ) → 2 ≤ length rec → version_of rec ≡ 2 → old_unpack room rec ≡ refuse 21 2
  -- Records, by hand from document 01 and request 4: what unpack answers to each, at a buffer that
  -- takes any row.
  pub unpack_labels_lem : unpack_answered unpack_labels ≡ unpack_expected unpack_labels
