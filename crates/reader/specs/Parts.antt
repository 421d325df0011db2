-- What the reader's parts answer of a row: of one block, of all of them, of the stop, of the check,
-- and of all but the room. Nobody audits these.
-- Document 01, "Order": "Read: 10, 11, then for blocks 0 to n from the left 12 before 13, then 15,
-- 14, 5."; document 02, request 3: 16 "takes the odd cases of 12 at 12's place in the order".
-- Assumes nothing.
use Rattle.std.specs.Prelude.{ℕ, ◌+◌, ◌-◌, ◌*◌, ◌≡◌, List, [], ◌∷◌, eqb, length, Result, Ok, Err}
use Rattle.std.specs.Borrow.{Bor}
use Rattle.helpers.specs.Answers as Paper
use Rattle.helpers.specs.Answers.{refuse, accept, Test, refuses, passes, ask, into}
use Rattle.helpers.specs.declared.Refusal.{Refusal}
use Rattle.helpers.specs.declared.Refusal.TheVariants.{Pattern, Worn}
use Rattle.helpers.specs.Numbers.{refusal_number, refusal_second}
use Rattle.paper.specs.Iso15417.{Look, is, worn, unknown, check, stop}
use Rattle.paper.specs.Jobs.{Blocks, wrong_block, numbers, last_of, wanted, read}

-- a word w with the bits of some cells after its own
unfoldable pub word_of : ℕ → List ℕ → ℕ
word_of w [] = w
word_of w (c ∷ cs) = word_of (w * 2 + c) cs

-- "a block of 11 cells is none of the 106 patterns", and then worn if it "has an odd number of bar
-- cells"; or it is the pattern of a number: what is answered of block b
unfoldable pub found_as : ℕ → Look → Result ℕ Refusal
found_as b (is m) = Ok m
found_as b worn = Err (Worn b)
found_as b unknown = Err (Pattern b)

-- the walk over all blocks: a refusal at one of them, or their numbers, which are then the list
unfoldable pub walk_of : Result (Unit {0}) Refusal → List ℕ → Blocks
walk_of (Ok done) list = numbers list
walk_of (Err r) list = wrong_block (refusal_number r) (refusal_second r)

-- a test: a refusal, or it has passed
unfoldable pub tested : Result (Unit {0}) Refusal → Test
tested (Ok passed) = passes
tested (Err r) = refuses (refusal_number r) (refusal_second r)

-- "15, the last 13 cells are not the stop, place of the first wrong cell": the place in the row
unfoldable pub stop_asked : List ℕ → Test
stop_asked row = wanted 15 (length row - 13) stop (last_of 13 row)

-- "14, check symbol wrong, the right check number": of some symbols and the number after them
unfoldable pub check_asked : List ℕ → ℕ → Test
check_asked symbols drawn = ask (eqb drawn (check symbols)) 14 (check symbols)

-- all but the room: a refusal, or the acceptance of the symbols
unfoldable pub with_symbols : Result (Bor (List ℕ)) Refusal → Paper.Answer
with_symbols (Ok symbols) = accept (length symbols.now) symbols.now
with_symbols (Err r) = refuse (refusal_number r) (refusal_second r)

-- "then 15, 14, 5": read answers so into whatever room there is
pub record Judged (row : List ℕ) (a : Result (Bor (List ℕ)) Refusal) : Type 0 where
  pub judged : (room : ℕ) → read room row ≡ into room (with_symbols a)
