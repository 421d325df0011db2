-- What read answers to a row in which one symbol is drawn over, one cell is flipped, or two data
-- symbols change places.
-- Demand 3, "Replace one symbol (start, data or check) of an accepted row …"; document 02, request
-- 3, "an accepted row with any one cell flipped", and request 9. Assumes nothing.
use Rattle.std.specs.Prelude.{◌+◌, ◌-◌, ◌*◌, ◌/◌, ◌%◌, ◌&&◌, ◌∷◌, ◌++◌, if◌then◌else◌}
use Rattle.helpers.specs.Prelude.{ℕ, Bool, List, [], leb, ltb, eqb, length, get_or, take, drop, set}
use Rattle.helpers.specs.Answers.{Answer, refuse, accept, ◌then◌, ask}
use Rattle.paper.specs.Iso15417.{pattern, check}
use Rattle.paper.specs.Jobs.{fits_at}

-- the numbers of a row's blocks: its symbols and the check
unfoldable pub blocks_of : List ℕ → List ℕ
blocks_of s = s ++ (check s ∷ [])

-- the eleven cells of block i
unfoldable pub block_at : ℕ → List ℕ → List ℕ
block_at i cs = take 11 (drop (11 * i) cs)

-- the row with the cells b in place of block i
unfoldable pub over : ℕ → List ℕ → List ℕ → List ℕ
over i b cs = take (11 * i) cs ++ (b ++ drop (11 * (i + 1)) cs)

-- the row with the pattern of m in place of block i
unfoldable pub redrawn : ℕ → ℕ → List ℕ → List ℕ
redrawn i m cs = over i (pattern m) cs

-- "demand 3's places become all multiples of 103": the data places whose weight is such a
-- multiple
unfoldable pub blind : List ℕ → ℕ → Bool
blind s i = leb 1 i && ltb i (length s) && eqb (i % 103) 0

-- the list s accepted, if the check that is drawn beside it is right; else 14 with the check that
-- would be right
unfoldable pub accepted_if : Bool → List ℕ → Answer
accepted_if right s = ask right 14 (check s) then accept (length s) s

-- What read answers, the room not yet asked, where block i of the row of s is redrawn as another
-- number m: 13 if m may not stand there; the changed list if the check is blind there; and else 14
-- with the check that would be right. A check redrawn leaves the list as it was.
unfoldable pub verdict : List ℕ → ℕ → ℕ → Answer
verdict s i m = if fits_at i m then accepted_if (blind s i) (set s i m) else refuse 13 i

-- "any one cell flipped": the row with bar for space, or space for bar, at place i
unfoldable pub flipped : ℕ → List ℕ → List ℕ
flipped i cs = set cs i (1 - get_or cs i 0)

-- What read answers, whatever the room, where the cell at place i of the row of s is flipped: 16 at
-- its block, START and check too; and in the stop, the last thirteen cells, 15 at its place.
unfoldable pub flipped_verdict : List ℕ → ℕ → Answer
flipped_verdict s i = if ltb i (11 * (length s + 1)) then refuse 16 (i / 11) else refuse 15 i

-- "change places": the row with the cells of block j in place of block i, and those of block i in
-- place of block j; "check left as drawn", and all other cells too
unfoldable pub exchanged : ℕ → ℕ → List ℕ → List ℕ
exchanged i j cs = over i (block_at j cs) (over j (block_at i cs) cs)

-- the symbols of such a row: the list with the numbers at places i and j exchanged
unfoldable pub exchanged_list : ℕ → ℕ → List ℕ → List ℕ
exchanged_list i j s = set (set s j (get_or s i 0)) i (get_or s j 0)

-- What read answers, the room not yet asked, where data blocks i < j of the row of s, of different
-- numbers, have changed places: the exchanged list if j - i is a multiple of 103, and else 14 with
-- the check that would be right for it.
unfoldable pub exchanged_verdict : List ℕ → ℕ → ℕ → Answer
exchanged_verdict s i j = accepted_if (eqb ((j - i) % 103) 0) (exchanged_list i j s)
