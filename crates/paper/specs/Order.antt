-- The order of the refusals: each job's tests, each asked by itself, and one table of inputs: each
-- refusal at two, and each two that stand next to each other in a job's order at one that earns
-- both. A test that needs what an earlier one finds (the symbols of a text, the numbers of a row,
-- the cells of a record) is asked of what there is, and of nothing where nothing was found.
-- Document 01, "The seven jobs and their refusals" ("Order"); document 02, requests 3, 4 and 12.
-- Assumes nothing.
use Rattle.std.specs.Prelude.{◌+◌, ◌-◌, ◌||◌, ◌∷◌, ◌++◌}
use Rattle.helpers.specs.Prelude.{ℕ, zero, suc, List, [], leb, eqb, length, get_or, take, drop, set, replicate}
use Rattle.helpers.specs.Answers.{Answer, refuse, accept, Test, refuses, passes, ask, every, whole}
use Rattle.helpers.specs.Order.{room_for, Earning, ◌of◌into◌gets◌over◌}
use Rattle.paper.specs.Iso15417.{points, cells, stop, row, check, found, scanned}
use Rattle.paper.specs.Crate.{Ɓ, ź, is_scalar, utf8_bytes, Parsed, stops, symbols, parse, spelled}
use Rattle.paper.specs.Jobs.{most, possible, possible_row, row_length, symbol_count, not_fnc2, well_formed, is_cell, Blocks, wrong_block, numbers, block, blocks_from, wanted, last_of, record_of, record_length, version_of, head_length, count_of, count_fits, stored_cells, all_zero, encode, draw, read, spell, scan, pack, unpack}

-- the seven jobs, and what each answers, lent `room` elements
pub data Job : Type 0 where
  Encode Draw Read Spell Scan Pack Unpack : Job

unfoldable pub answer_of : Job → ℕ → List ℕ → Answer
answer_of Encode = encode
answer_of Draw = draw
answer_of Read = read
answer_of Spell = spell
answer_of Scan = scan
answer_of Pack = pack
answer_of Unpack = unpack

-- ---- tests that are asked by themselves
-- 3, where parsing stops
unfoldable pub parses : Parsed → Test
parses (stops at) = refuses 3 at
parses (symbols s) = passes

-- the symbols of what parses, and none of what does not
unfoldable pub symbols_of : Parsed → List ℕ
symbols_of (stops at) = []
symbols_of (symbols s) = s

-- 12, 16 or 13, of some blocks
unfoldable pub right : Blocks → Test
right (wrong_block k b) = refuses k b
right (numbers ms) = passes

-- the numbers of blocks that are right, and none of others
unfoldable pub numbers_of : Blocks → List ℕ
numbers_of (wrong_block k b) = []
numbers_of (numbers ms) = ms

-- 12, 16 or 13 of the next k blocks, each by itself, the first of them block b
unfoldable pub block_tests : ℕ → ℕ → List ℕ → List Test
block_tests zero b cs = []
block_tests (suc k) b cs = right (block (found (take 11 cs)) b (numbers [])) ∷ block_tests k (suc b) (drop 11 cs)

-- the n + 1 numbers that are read of a row, n its number of symbols
unfoldable pub numbers_in : ℕ → List ℕ → List ℕ
numbers_in n cs = numbers_of (blocks_from (n + 1) 0 cs)

-- the tests of a symbol list, `out` being what is written for it
unfoldable pub list_tests : ℕ → List ℕ → List ℕ → List Test
list_tests room s out = ask (possible (length s)) 10 (length s) ∷ well_formed s ∷ room_for room out ∷ []

-- the tests that those of a row begin with
unfoldable pub row_tests : List ℕ → List Test
row_tests cs = ask (possible_row (length cs)) 10 (length cs) ∷ every is_cell 11 0 cs ∷ []

-- the tests of read after these, n being the number of symbols and ms the numbers read
unfoldable pub read_tests : ℕ → List ℕ → ℕ → List ℕ → List Test
read_tests room cs n ms =
    block_tests (n + 1) 0 cs ++ (
    wanted 15 (length cs - 13) stop (last_of 13 cs) ∷
    ask (eqb (get_or ms n 0) (check (take n ms))) 14 (check (take n ms)) ∷
    room_for room (take n ms) ∷ [])

-- "Order": the tests of a job. "Encode: 1, 2, 3, 4, 5", with 19 "after 3 and before 4"; "Draw,
-- spell, scan: 10, 13, 5"; "Read: 10, 11, then for blocks 0 to n from the left 12 before 13, then
-- 15, 14, 5"; "Pack: 10, 11, 5"; "Unpack: 20, 21, 22, 23, 5".
unfoldable pub tests_of : Job → ℕ → List ℕ → List Test
tests_of Encode room x =
    every is_scalar 1 0 x ∷
    ask (leb 2 (utf8_bytes x)) 2 0 ∷
    parses (parse x) ∷
    every not_fnc2 19 0 x ∷
    ask (leb (length (symbols_of (parse x))) most) 4 (length (symbols_of (parse x))) ∷
    room_for room (row (symbols_of (parse x))) ∷ []
tests_of Draw room s = list_tests room s (row s)
tests_of Read room cs = row_tests cs ++ read_tests room cs (symbol_count (length cs)) (numbers_in (symbol_count (length cs)) cs)
tests_of Spell room s = list_tests room s (spelled s)
tests_of Scan room s = list_tests room s (scanned s)
tests_of Pack room cs = row_tests cs ++ (room_for room (record_of (symbol_count (length cs)) cs) ∷ [])
tests_of Unpack room rec =
    ask (leb 2 (length rec)) 20 (length rec) ∷
    ask (eqb (version_of rec) 1 || eqb (version_of rec) 2) 21 (version_of rec) ∷
    ask (leb (head_length rec) (length rec)) 22 0 ∷
    ask (count_fits rec) 22 0 ∷
    ask (eqb (length rec) (record_length (count_of rec))) 22 (record_length (count_of rec)) ∷
    ask (all_zero (drop (row_length (count_of rec)) (stored_cells rec))) 23 (length rec - 1) ∷
    room_for room (take (row_length (count_of rec)) (stored_cells rec)) ∷ []

-- what a job answers where none of its tests refuses
unfoldable pub accepted_of : Job → List ℕ → Answer
accepted_of Encode x = accept (length (symbols_of (parse x))) (row (symbols_of (parse x)))
accepted_of Draw s = accept (length s) (row s)
accepted_of Read cs = accept (symbol_count (length cs)) (take (symbol_count (length cs)) (numbers_in (symbol_count (length cs)) cs))
accepted_of Spell s = whole (spelled s)
accepted_of Scan s = whole (scanned s)
accepted_of Pack cs = whole (record_of (symbol_count (length cs)) cs)
accepted_of Unpack rec = whole (take (row_length (count_of rec)) (stored_cells rec))

-- ---- the table
-- START A and its right check, 0; the same with the check 1
unfoldable pub shortest : List ℕ
shortest = row (103 ∷ [])

unfoldable pub wrong_check : List ℕ
wrong_check = cells (103 ∷ 1 ∷ []) ++ stop

-- eleven spaces, which are no pattern, and whose number of bar cells is even
unfoldable pub spaces : List ℕ
spaces = replicate 11 0

-- one bar and ten spaces, which are no pattern, and whose number of bar cells is odd
unfoldable pub one_bar : List ℕ
one_bar = 1 ∷ replicate 10 0

-- The table. Encode's 1 and 2 do not meet (`one_not_two` of Promises); each of them is earned
-- together with 3, since nothing that they are given for parses.
unfoldable pub earnings : List (Earning Job)
earnings =
    (Encode of 0xD800 ∷ [] into 44024 gets refuse 1 0 over (refuse 3 0 ∷ [])) ∷
    (Encode of Ɓ ∷ 0x110000 ∷ [] into 44024 gets refuse 1 1 over (refuse 3 1 ∷ [])) ∷
    (Encode of [] into 44024 gets refuse 2 0 over (refuse 3 0 ∷ [])) ∷
    (Encode of points "A" into 44024 gets refuse 2 0 over (refuse 3 0 ∷ [])) ∷
    (Encode of points "€" into 44024 gets refuse 3 0 over []) ∷
    (Encode of points "Ć1" into 44024 gets refuse 3 2 over []) ∷
    (Encode of points "Ɓź€" into 44024 gets refuse 3 2 over (refuse 19 1 ∷ [])) ∷
    (Encode of points "Ɓź" into 44024 gets refuse 19 1 over []) ∷
    (Encode of points "ƁAź" into 44024 gets refuse 19 2 over []) ∷
    (Encode of Ɓ ∷ replicate 3999 65 ++ (ź ∷ []) into 44035 gets refuse 19 4000 over (refuse 4 4001 ∷ [])) ∷
    (Encode of Ɓ ∷ replicate 4000 65 into 44035 gets refuse 4 4001 over []) ∷
    (Encode of Ɓ ∷ replicate 4001 65 into 44045 gets refuse 4 4002 over (refuse 5 44046 ∷ [])) ∷
    (Encode of points "À" into 34 gets refuse 5 35 over []) ∷
    (Encode of points "Ć12" into 45 gets refuse 5 46 over []) ∷
    (Draw of [] into 44024 gets refuse 10 0 over []) ∷
    (Draw of replicate 4001 0 into 44035 gets refuse 10 4001 over (refuse 13 0 ∷ [])) ∷
    (Draw of 0 ∷ [] into 44024 gets refuse 13 0 over []) ∷
    (Draw of 103 ∷ 103 ∷ [] into 44024 gets refuse 13 1 over []) ∷
    (Draw of 103 ∷ 103 ∷ [] into 45 gets refuse 13 1 over (refuse 5 46 ∷ [])) ∷
    (Draw of 103 ∷ [] into 34 gets refuse 5 35 over []) ∷
    (Draw of 103 ∷ 0 ∷ [] into 45 gets refuse 5 46 over []) ∷
    (Spell of [] into 7999 gets refuse 10 0 over []) ∷
    (Spell of replicate 4001 0 into 7999 gets refuse 10 4001 over (refuse 13 0 ∷ [])) ∷
    (Spell of 0 ∷ [] into 7999 gets refuse 13 0 over []) ∷
    (Spell of 103 ∷ 103 ∷ [] into 7999 gets refuse 13 1 over []) ∷
    (Spell of 103 ∷ 103 ∷ [] into 0 gets refuse 13 1 over (refuse 5 1 ∷ [])) ∷
    (Spell of 103 ∷ [] into 0 gets refuse 5 1 over []) ∷
    (Spell of 105 ∷ 12 ∷ [] into 2 gets refuse 5 3 over []) ∷
    (Scan of [] into 7998 gets refuse 10 0 over []) ∷
    (Scan of replicate 4001 0 into 7998 gets refuse 10 4001 over (refuse 13 0 ∷ [])) ∷
    (Scan of 0 ∷ [] into 7998 gets refuse 13 0 over []) ∷
    (Scan of 103 ∷ 103 ∷ [] into 7998 gets refuse 13 1 over []) ∷
    (Scan of 103 ∷ 0 ∷ 103 ∷ [] into 0 gets refuse 13 2 over (refuse 5 1 ∷ [])) ∷
    (Scan of 103 ∷ 0 ∷ [] into 0 gets refuse 5 1 over []) ∷
    (Scan of 105 ∷ 12 ∷ [] into 1 gets refuse 5 2 over []) ∷
    (Read of take 34 shortest into 4000 gets refuse 10 34 over (refuse 15 21 ∷ refuse 14 0 ∷ [])) ∷
    (Read of shortest ++ (1 ∷ []) into 4000 gets refuse 10 36 over (refuse 15 24 ∷ [])) ∷
    (Read of set (take 34 shortest) 0 2 into 4000 gets refuse 10 34 over (refuse 11 0 ∷ refuse 16 0 ∷ refuse 15 21 ∷ [])) ∷
    (Read of set (spaces ++ cells (0 ∷ []) ++ stop) 34 2 into 4000 gets refuse 11 34 over (refuse 12 0 ∷ refuse 15 34 ∷ [])) ∷
    (Read of set shortest 0 2 into 4000 gets refuse 11 0 over (refuse 16 0 ∷ [])) ∷
    (Read of set (cells (0 ∷ 0 ∷ []) ++ stop) 34 2 into 4000 gets refuse 11 34 over (refuse 13 0 ∷ refuse 15 34 ∷ [])) ∷
    (Read of set shortest 34 2 into 4000 gets refuse 11 34 over (refuse 15 34 ∷ [])) ∷
    (Read of spaces ++ cells (0 ∷ []) ++ stop into 4000 gets refuse 12 0 over []) ∷
    (Read of cells (103 ∷ []) ++ spaces ++ stop into 4000 gets refuse 12 1 over []) ∷
    (Read of one_bar ++ cells (0 ∷ []) ++ stop into 4000 gets refuse 16 0 over []) ∷
    (Read of cells (103 ∷ []) ++ one_bar ++ stop into 4000 gets refuse 16 1 over []) ∷
    (Read of cells (0 ∷ 0 ∷ []) ++ stop into 4000 gets refuse 13 0 over []) ∷
    (Read of cells (103 ∷ 103 ∷ []) ++ stop into 4000 gets refuse 13 1 over []) ∷
    (Read of spaces ++ cells (103 ∷ []) ++ stop into 4000 gets refuse 12 0 over (refuse 13 1 ∷ [])) ∷
    (Read of cells (0 ∷ []) ++ spaces ++ stop into 4000 gets refuse 13 0 over (refuse 12 1 ∷ [])) ∷
    (Read of one_bar ++ cells (103 ∷ []) ++ stop into 4000 gets refuse 16 0 over (refuse 13 1 ∷ [])) ∷
    (Read of spaces ++ one_bar ++ stop into 4000 gets refuse 12 0 over (refuse 16 1 ∷ [])) ∷
    (Read of one_bar ++ spaces ++ stop into 4000 gets refuse 16 0 over (refuse 12 1 ∷ [])) ∷
    (Read of set (cells (103 ∷ []) ++ spaces ++ stop) 22 0 into 4000 gets refuse 12 1 over (refuse 15 22 ∷ [])) ∷
    (Read of set (cells (103 ∷ []) ++ one_bar ++ stop) 22 0 into 4000 gets refuse 16 1 over (refuse 15 22 ∷ [])) ∷
    (Read of cells (0 ∷ []) ++ one_bar ++ stop into 4000 gets refuse 13 0 over (refuse 16 1 ∷ [])) ∷
    (Read of set (cells (103 ∷ 103 ∷ []) ++ stop) 22 0 into 4000 gets refuse 13 1 over (refuse 15 22 ∷ [])) ∷
    (Read of set shortest 22 0 into 4000 gets refuse 15 22 over []) ∷
    (Read of set shortest 34 0 into 4000 gets refuse 15 34 over []) ∷
    (Read of set wrong_check 22 0 into 4000 gets refuse 15 22 over (refuse 14 0 ∷ [])) ∷
    (Read of wrong_check into 4000 gets refuse 14 0 over []) ∷
    (Read of cells (103 ∷ 1 ∷ 0 ∷ []) ++ stop into 4000 gets refuse 14 1 over []) ∷
    (Read of wrong_check into 0 gets refuse 14 0 over (refuse 5 1 ∷ [])) ∷
    (Read of shortest into 0 gets refuse 5 1 over []) ∷
    (Read of row (103 ∷ 0 ∷ []) into 1 gets refuse 5 2 over []) ∷
    (Pack of replicate 34 0 into 5506 gets refuse 10 34 over []) ∷
    (Pack of replicate 36 0 into 5506 gets refuse 10 36 over []) ∷
    (Pack of replicate 34 2 into 5506 gets refuse 10 34 over (refuse 11 0 ∷ [])) ∷
    (Pack of replicate 35 2 into 5506 gets refuse 11 0 over []) ∷
    (Pack of set shortest 34 2 into 5506 gets refuse 11 34 over []) ∷
    (Pack of replicate 35 2 into 6 gets refuse 11 0 over (refuse 5 7 ∷ [])) ∷
    (Pack of shortest into 6 gets refuse 5 7 over []) ∷
    (Pack of replicate 46 0 into 7 gets refuse 5 8 over []) ∷
    (Unpack of [] into 44024 gets refuse 20 0 over (refuse 21 0 ∷ refuse 22 0 ∷ refuse 22 0 ∷ refuse 22 5 ∷ [])) ∷
    (Unpack of 3 ∷ [] into 44024 gets refuse 20 1 over (refuse 21 3 ∷ refuse 22 0 ∷ refuse 22 0 ∷ refuse 22 5 ∷ [])) ∷
    (Unpack of 0 ∷ 1 ∷ [] into 44024 gets refuse 21 0 over (refuse 22 0 ∷ refuse 22 0 ∷ refuse 22 358 ∷ [])) ∷
    (Unpack of 3 ∷ 1 ∷ [] into 44024 gets refuse 21 3 over (refuse 22 0 ∷ refuse 22 0 ∷ refuse 22 358 ∷ [])) ∷
    (Unpack of 1 ∷ 0 ∷ [] into 44024 gets refuse 22 0 over (refuse 22 5 ∷ [])) ∷
    (Unpack of 2 ∷ 1 ∷ [] into 44024 gets refuse 22 0 over (refuse 22 358 ∷ [])) ∷
    (Unpack of 1 ∷ 1 ∷ [] into 44024 gets refuse 22 7 over []) ∷
    (Unpack of 1 ∷ 2 ∷ [] into 44024 gets refuse 22 8 over []) ∷
    (Unpack of 1 ∷ 1 ∷ replicate 6 255 into 44024 gets refuse 22 7 over (refuse 23 7 ∷ [])) ∷
    (Unpack of 1 ∷ 1 ∷ replicate 5 255 into 44024 gets refuse 23 6 over []) ∷
    (Unpack of 1 ∷ 2 ∷ replicate 6 255 into 44024 gets refuse 23 7 over []) ∷
    (Unpack of 1 ∷ 1 ∷ replicate 5 255 into 34 gets refuse 23 6 over (refuse 5 35 ∷ [])) ∷
    (Unpack of 1 ∷ 1 ∷ replicate 5 0 into 34 gets refuse 5 35 over []) ∷
    (Unpack of 1 ∷ 2 ∷ replicate 6 0 into 45 gets refuse 5 46 over []) ∷
    []
