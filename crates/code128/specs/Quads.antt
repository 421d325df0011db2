-- How the cells of a word are written: four at once, by a table of sixteen numbers. Nobody audits
-- these.
-- Assumes nothing.
use Rattle.std.specs.Prelude.{ℕ, zero, suc, ◌+◌, ◌*◌, ◌/◌, ◌%◌, List, [], ◌∷◌, ◌++◌, get_or}

-- the k lowest bytes of a number, the lowest first
unfoldable pub low_bytes : ℕ → ℕ → List ℕ
low_bytes zero x = []
low_bytes (suc k) x = (x % 256) ∷ low_bytes k (x / 256)

-- the numbers whose bytes are the four bits of i and of the k - 1 numbers after it
unfoldable pub quads_from : ℕ → ℕ → List ℕ
quads_from zero i = []
quads_from (suc k) i = (i / 8 % 2 + 0x100 * (i / 4 % 2) + 0x10000 * (i / 2 % 2) + 0x1000000 * (i % 2)) ∷ quads_from k (suc i)

-- the numbers of all sixteen
unfoldable pub quads : List ℕ
quads = quads_from 16 0

-- the eleven cells of a word: four, four and three
unfoldable pub spread_of : ℕ → List ℕ
spread_of w = (low_bytes 4 (get_or quads (w / 128 % 16) 0) ++ low_bytes 4 (get_or quads (w / 8 % 16) 0)) ++ low_bytes 3 (get_or quads (w % 8 * 2) 0)
