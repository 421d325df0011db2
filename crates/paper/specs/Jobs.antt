-- The seven jobs, each one definition whose lines are its refusals in the papers' order. `room`
-- is the number of elements of the lent buffer.
-- Document 01, "What is built", "The seven jobs and their refusals", "Row record"; document 02,
-- requests 3, 4 and 12. Assumes nothing.
use Rattle.std.specs.Prelude.{◌+◌, ◌-◌, ◌*◌, ◌/◌, ◌%◌, ◌≤◌, ◌&&◌, ◌||◌, ◌∷◌, ◌++◌, if◌then◌else◌}
use Rattle.helpers.specs.Prelude.{ℕ, zero, suc, Bool, true, not, List, [], leb, eqb, length, get_or, take, drop}
use Rattle.helpers.specs.Answers.{Each, Answer, refuse, accept, Test, refuses, passes, ◌then◌, ask, every, whole, into}
use Rattle.paper.specs.Iso15417.{row, check, stop, Look, is, worn, unknown, found, scanned}
use Rattle.paper.specs.Crate.{ź, is_scalar, utf8_bytes, Parsed, stops, symbols, parse, spelled}

-- ---- the limit
-- "The limit is 1 ≤ n ≤ …", n counting the START and not the check; "The limit becomes 4,000
-- everywhere"
unfoldable pub most : ℕ
most = 4000

-- is a list of n symbols within the limit?
unfoldable pub possible : ℕ → Bool
possible n = leb 1 n && leb n most

-- "A row has 11(n+1)+13 cells": the cells of n symbols
unfoldable pub row_length : ℕ → ℕ
row_length n = 11 * (n + 1) + 13

-- the other way round: the symbols of a row, if `len` is the length of one
unfoldable pub symbol_count : ℕ → ℕ
symbol_count len = (len - 24) / 11

-- "row length not possible under the limit": is `len` the length of a row within it?
unfoldable pub possible_row : ℕ → Bool
possible_row len = possible (symbol_count len) && eqb len (row_length (symbol_count len))

-- ---- encode
-- "3, the crate's `Error::Character`, place where parsing stops"; else the symbols are handed on
unfoldable pub parsed : Parsed → (List ℕ → Answer) → Answer
parsed (stops at) made = refuse 3 at
parsed (symbols s) made = made s

-- "Encode: 1, 2, 3, 4, 5, each over the whole input before the next."; `retired` is what is asked
-- "after 3 and before 4"
unfoldable pub encoder : Test → ℕ → List ℕ → Answer
encoder retired room x =
    into room  -- 5, last
    (every is_scalar 1 0 x then
    ask (leb 2 (utf8_bytes x)) 2 0 then
    parsed (parse x) λ s.  -- 3
    retired then  -- 19
    ask (leb (length s) most) 4 (length s) then
    accept (length s) (row s))

-- "document 01's definition before this request", which accepts ź (FNC2): nothing is retired
unfoldable pub encode_with_fnc2 : ℕ → List ℕ → Answer
encode_with_fnc2 room x = encoder passes room x

-- is it any other code point than ź?
unfoldable pub not_fnc2 : ℕ → Bool
not_fnc2 c = not (eqb c ź)

-- "Encode … no longer accepts ź. … Refusals: 19 at the first ź (its place), after 3 and before 4"
unfoldable pub encode : ℕ → List ℕ → Answer
encode room x = encoder (every not_fnc2 19 0 x) room x

-- ---- draw, spell, scan
-- "a START number (103, 104 or 105)"
unfoldable pub is_start : ℕ → Bool
is_start m = leb 103 m && leb m 105

-- "data numbers 0 to 102"
unfoldable pub is_data : ℕ → Bool
is_data m = leb m 102

-- "a START number (103, 104 or 105) and then data numbers 0 to 102", as a statement
abbrev pub StartThenData : List ℕ → Type 0
StartThenData [] = ⊥
StartThenData (m ∷ ms) = (103 ≤ m) × (m ≤ 105) × Each (λ k. k ≤ 102) ms

-- "A symbol list", within the limit
pub record SymbolList (s : List ℕ) : Type 0 where
  pub form : StartThenData s
  pub size : length s ≤ most

-- "13, a START missing at place 0, or a number above 102 after it, place of the first"
unfoldable pub well_formed : List ℕ → Test
well_formed [] = passes
well_formed (m ∷ ms) = if is_start m then every is_data 13 1 ms else refuses 13 0

-- "Draw, spell, scan: 10, 13, 5.", `a` being what is answered to a symbol list
unfoldable pub of_list : ℕ → List ℕ → Answer → Answer
of_list room s a = into room (ask (possible (length s)) 10 (length s) then well_formed s then a)

-- is it a cell, 0 or 1?
unfoldable pub is_cell : ℕ → Bool
is_cell c = leb c 1

-- "Read: 10, 11, … 5." and "Pack: 10, 11, 5", the number of symbols of a row being handed on
unfoldable pub of_row : ℕ → List ℕ → (ℕ → Answer) → Answer
of_row room cs made =
    into room (ask (possible_row (length cs)) 10 (length cs) then every is_cell 11 0 cs then made (symbol_count (length cs)))

-- "Draw: symbol list to a row."
unfoldable pub draw : ℕ → List ℕ → Answer
draw room s = of_list room s (accept (length s) (row s))

-- "Spell: symbol list to code points."
unfoldable pub spell : ℕ → List ℕ → Answer
spell room s = of_list room s (whole (spelled s))

-- "Scan: symbol list to the bytes a scanner sends."
unfoldable pub scan : ℕ → List ℕ → Answer
scan room s = of_list room s (whole (scanned s))

-- ---- read
-- what some blocks are: wrong, by a refusal at a block, or the patterns of these numbers
pub data Blocks : Type 0 where
  wrong_block : ℕ → ℕ → Blocks
  numbers : List ℕ → Blocks

-- which numbers may stand at block b: a START at 0 and data after it; "The check block counts as
-- block n and falls under 13 if above 102."
unfoldable pub fits_at : ℕ → ℕ → Bool
fits_at zero m = is_start m
fits_at (suc b) m = is_data m

-- one number more, ahead of those of the blocks after it
unfoldable pub with_number : ℕ → Blocks → Blocks
with_number m (wrong_block k b) = wrong_block k b
with_number m (numbers ms) = numbers (m ∷ ms)

-- "12 before 13", and 16 "takes the odd cases of 12 at 12's place in the order", at block b; `rest`
-- is what comes of the blocks after it
unfoldable pub block : Look → ℕ → Blocks → Blocks
block unknown b rest = wrong_block 12 b
block worn b rest = wrong_block 16 b
block (is m) b rest = if fits_at b m then with_number m rest else wrong_block 13 b

-- "for blocks 0 to n from the left": the next k blocks of eleven cells, the first of them block b
unfoldable pub blocks_from : ℕ → ℕ → List ℕ → Blocks
blocks_from zero b cs = numbers []
blocks_from (suc k) b cs = block (found (take 11 cs)) b (blocks_from k (suc b) (drop 11 cs))

-- refused at the first wrong block; else the numbers of all are handed on
unfoldable pub looked : Blocks → (List ℕ → Answer) → Answer
looked (wrong_block k b) made = refuse k b
looked (numbers ms) made = made ms

-- "the last 13 cells": the last k elements of a list
unfoldable pub last_of : ℕ → List ℕ → List ℕ
last_of k cs = drop (length cs - k) cs

-- "place of the first wrong cell": refusal k at the first place where the cells are not those
-- wanted, places counted from `at`
unfoldable pub wanted : ℕ → ℕ → List ℕ → List ℕ → Test
wanted k at [] cs = passes
wanted k at (y ∷ ys) [] = refuses k at
wanted k at (y ∷ ys) (c ∷ cs) = if eqb c y then wanted k (suc at) ys cs else refuses k at

-- "Read: 10, 11, then for blocks 0 to n from the left 12 before 13, then 15, 14, 5." 16 stands
-- where 12 does. The n + 1 numbers are the symbols and the check.
unfoldable pub read : ℕ → List ℕ → Answer
read room cs =
    of_row room cs λ n.  -- 10, 11; and 5 last
    looked (blocks_from (n + 1) 0 cs) λ ms.  -- 12 or 16, 13
    wanted 15 (length cs - 13) stop (last_of 13 cs) then
    ask (eqb (get_or ms n 0) (check (take n ms))) 14 (check (take n ms)) then
    accept n (take n ms)

-- ---- the row record
-- "first cell in the top bit": cells as a number, the first weighing w and each next half of that;
-- "spare low bits 0"
unfoldable pub bits : ℕ → List ℕ → ℕ
bits w [] = 0
bits w (c ∷ cs) = w * c + bits (w / 2) cs

-- "eight to a byte": the first k bytes of some cells
unfoldable pub bytes : ℕ → List ℕ → List ℕ
bytes zero cs = []
bytes (suc k) cs = bits 128 (take 8 cs) ∷ bytes k (drop 8 cs)

-- the bytes that `len` cells take
unfoldable pub bytes_for : ℕ → ℕ
bytes_for len = (len + 7) / 8

-- "Version byte 1; one byte n", and "Up to 255 symbols are still packed as version 1 …; more as
-- version 2", which "has a two-byte count, big-endian, after the version byte"
unfoldable pub head : ℕ → List ℕ
head n = if leb n 255 then 1 ∷ n ∷ [] else 2 ∷ (n / 256) ∷ (n % 256) ∷ []

-- "then the 11n+24 cells": the record of a row with n symbols
unfoldable pub record_of : ℕ → List ℕ → List ℕ
record_of n cs = head n ++ bytes (bytes_for (length cs)) cs

-- "Pack: 10, 11, 5; it does not ask that the row be readable."
unfoldable pub pack : ℕ → List ℕ → Answer
pack room cs = of_row room cs λ n. whole (record_of n cs)

-- the eight cells of a byte
unfoldable pub eight : ℕ → List ℕ
eight b =
    (b / 128 % 2) ∷ (b / 64 % 2) ∷ (b / 32 % 2) ∷ (b / 16 % 2) ∷ (b / 8 % 2) ∷ (b / 4 % 2) ∷ (b / 2 % 2) ∷ (b % 2) ∷ []

-- the cells of some bytes, one after the other
unfoldable pub unbytes : List ℕ → List ℕ
unbytes [] = []
unbytes (b ∷ bs) = eight b ++ unbytes bs

-- "a spare bit set": are these all 0?
unfoldable pub all_zero : List ℕ → Bool
all_zero [] = true
all_zero (c ∷ cs) = eqb c 0 && all_zero cs

-- "what the count needs": the length of a record of n symbols
unfoldable pub record_length : ℕ → ℕ
record_length n = length (head n) + bytes_for (row_length n)

-- the version byte of a record
unfoldable pub version_of : List ℕ → ℕ
version_of rec = get_or rec 0 0

-- the length of its head: 2 bytes in version 1, else 3, as in version 2, whose count has two
unfoldable pub head_length : List ℕ → ℕ
head_length rec = if eqb (version_of rec) 1 then 2 else 3

-- its count: "one byte n", or "a two-byte count, big-endian"
unfoldable pub count_of : List ℕ → ℕ
count_of rec = if eqb (version_of rec) 1 then get_or rec 1 0 else 256 * get_or rec 1 0 + get_or rec 2 0

-- is its count one that its version has? Version 1 has 1 to 255, and version 2 has 256 up to the
-- limit: "A version 2 record with a count of 255 or less is refused".
unfoldable pub count_fits : List ℕ → Bool
count_fits rec = possible (count_of rec) && eqb (version_of rec) (get_or (head (count_of rec)) 0 0)

-- the cells of the bytes after its head, spare bits among them
unfoldable pub stored_cells : List ℕ → List ℕ
stored_cells rec = unbytes (drop (head_length rec) rec)

-- "Unpack: 20, 21, 22, 23, 5."; "21 now means neither 1 nor 2; 22 also for that small count, for a
-- count above 4,000 and for a version 2 record under 3 bytes, each with 0"
unfoldable pub unpack : ℕ → List ℕ → Answer
unpack room rec =
    into room  -- 5, last
    (ask (leb 2 (length rec)) 20 (length rec) then
    ask (eqb (version_of rec) 1 || eqb (version_of rec) 2) 21 (version_of rec) then
    ask (leb (head_length rec) (length rec)) 22 0 then  -- "a version 2 record under 3 bytes"
    ask (count_fits rec) 22 0 then  -- "count 0", "that small count", "a count above 4,000"
    ask (eqb (length rec) (record_length (count_of rec))) 22 (record_length (count_of rec)) then
    ask (all_zero (drop (row_length (count_of rec)) (stored_cells rec))) 23 (length rec - 1) then
    whole (take (row_length (count_of rec)) (stored_cells rec)))
