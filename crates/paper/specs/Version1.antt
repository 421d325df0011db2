-- The row record before request 4, when version 1 was the only one: what was packed, and what a
-- reader of that time, an old reader, answers.
-- Document 01, "Row record", and pack and unpack of "The seven jobs and their refusals". What it
-- takes from Jobs did not move with the request. Assumes nothing.
use Rattle.std.specs.Prelude.{◌+◌, ◌-◌, ◌&&◌, ◌∷◌, if◌then◌else◌}
use Rattle.helpers.specs.Prelude.{ℕ, Bool, List, leb, eqb, length, get_or, take, drop}
use Rattle.helpers.specs.Answers.{Answer, ◌then◌, ask, every, whole, into}
use Rattle.paper.specs.Jobs.{row_length, symbol_count, is_cell, bytes, bytes_for, unbytes, all_zero}

-- "The limit is 1 ≤ n ≤ 255", as it was
unfoldable pub old_possible : ℕ → Bool
old_possible n = leb 1 n && leb n 255

-- "Version byte 1; one byte n; then the 11n+24 cells, eight to a byte"
unfoldable pub old_record : ℕ → List ℕ → List ℕ
old_record n cs = 1 ∷ n ∷ bytes (bytes_for (length cs)) cs

-- "Pack: 10, 11, 5", of a row of n symbols
unfoldable pub old_pack : ℕ → List ℕ → Answer
old_pack room cs =
    let n = symbol_count (length cs) in
    into room  -- 5, last
    (ask (old_possible n && eqb (length cs) (row_length n)) 10 (length cs) then
    every is_cell 11 0 cs then
    whole (old_record n cs))

-- "what the count needs", 0 where no row had n symbols
unfoldable pub old_length : ℕ → ℕ
old_length n = if old_possible n then 2 + bytes_for (row_length n) else 0

-- "Unpack: 20, 21, 22, 23, 5.", with 21 for every version byte but 1
unfoldable pub old_unpack : ℕ → List ℕ → Answer
old_unpack room rec =
    let n = get_or rec 1 0 in
    into room  -- 5, last
    (ask (leb 2 (length rec)) 20 (length rec) then
    ask (eqb (get_or rec 0 0) 1) 21 (get_or rec 0 0) then
    ask (eqb (length rec) (old_length n)) 22 (old_length n) then
    ask (all_zero (drop (row_length n) (unbytes (drop 2 rec)))) 23 (length rec - 1) then
    whole (take (row_length n) (unbytes (drop 2 rec))))
