-- The tests of a record before the test of the room, and the parts of them that the code does one
-- after the other. Nobody audits these.
-- Document 01, "Unpack: 20, 21, 22, 23, 5."; document 02, request 4. Assumes nothing.
use Rattle.std.specs.Prelude.{ℕ, ◌-◌, ◌&&◌, ◌||◌, List, [], leb, eqb, length, drop, if◌then◌else◌, Option, Some, None}
use Rattle.helpers.specs.Answers.{Answer, accept, ◌then◌, ask}
use Rattle.paper.specs.Jobs.{row_length, all_zero, record_length, version_of, head_length, count_of, count_fits, stored_cells}

-- the count of a record, if it has all arrived and is one that its version has
unfoldable pub declared : List ℕ → Option ℕ
declared rec = if leb (head_length rec) (length rec) && count_fits rec then Some (count_of rec) else None

-- a record that passes is accepted with its number of cells
unfoldable pub tested : List ℕ → Answer
tested rec =
    ask (leb 2 (length rec)) 20 (length rec) then
    ask (eqb (version_of rec) 1 || eqb (version_of rec) 2) 21 (version_of rec) then
    ask (leb (head_length rec) (length rec)) 22 0 then
    ask (count_fits rec) 22 0 then
    ask (eqb (length rec) (record_length (count_of rec))) 22 (record_length (count_of rec)) then
    ask (all_zero (drop (row_length (count_of rec)) (stored_cells rec))) 23 (length rec - 1) then
    accept (row_length (count_of rec)) []
