-- A run of the label program over an input that comes in chunks.
-- Document 01, "The label program". Assumes nothing.
use Rattle.std.specs.Prelude.{◌≤◌, ◌∷◌, ◌++◌}
use Rattle.helpers.specs.Prelude.{ℕ, List, [], length, take}
use Rattle.lines.specs.Lines.{at_end}
use Rattle.lines.specs.Given.{Holds, Feeds, Finishes, bytes_of}
use Rattle.lines.specs.declared.Finished.{Finished}

-- the input: its chunks, one after the other
unfoldable pub joined : List (List ℕ) → List ℕ
joined [] = []
joined (chunk ∷ chunks) = chunk ++ joined chunks

-- how a run ends: at the input's end, by a read that fails, or by a write that fails
pub data End : Type 0 where
  ends : End
  fails : End
  stops : End

-- what the bytes after the last newline give in a run that ends so
unfoldable pub last_of : End → List ℕ → List ℕ
last_of ends line = at_end line
last_of fails line = []
last_of stops line = at_end line

-- "It reads lines from standard input": the program at place `at` of a chunk, with its two
-- buffers and how much of each is filled, and these chunks still to come; the last list is what
-- it writes from here on. It calls `feed`, writes out what the output holds, or reads on, in any
-- order; at the input's end it calls `finish`, and after a read that fails it does not. Of a write
-- that fails the first `sent` bytes went out, and nothing is written after it.
pub data Run : End → List ℕ → ℕ → List ℕ → ℕ → List ℕ → ℕ → List (List ℕ) → List ℕ → Type 0 where
  calls_feed : {e : End} {chunk line line' out out' rest : List ℕ} {at at' len len' used used' lines : ℕ} {chunks : List (List ℕ)}
      → Feeds chunk at line len out used at' line' len' out' used' lines → Run e chunk at' line' len' out' used' chunks rest → Run e chunk at line len out used chunks rest
  writes_out : {e : End} {chunk line out rest : List ℕ} {at len used : ℕ} {chunks : List (List ℕ)}
      → Run e chunk at line len out 0 chunks rest → Run e chunk at line len out used chunks (take used out ++ rest)
  reads_on : {e : End} {chunk line out chunk' rest : List ℕ} {at len used : ℕ} {chunks : List (List ℕ)}
      → length chunk ≤ at → Run e chunk' 0 line len out used chunks rest → Run e chunk at line len out used (chunk' ∷ chunks) rest
  calls_finish : {chunk line out : List ℕ} {at len : ℕ} (f : Finished) (out' : List ℕ)
      → length chunk ≤ at → ((cur : List ℕ) → Holds cur line len → Finishes f cur out out') → Run ends chunk at line len out 0 [] (take (bytes_of f) out')
  cannot_read : {chunk line out : List ℕ} {at len : ℕ} → length chunk ≤ at → Run fails chunk at line len out 0 [] []
  cannot_write : {chunk line out : List ℕ} {at len used : ℕ} {chunks : List (List ℕ)} (sent : ℕ) → sent ≤ used → Run stops chunk at line len out used chunks (take sent out)
  cannot_write_last : {chunk line out : List ℕ} {at len : ℕ} (f : Finished) (out' : List ℕ) (sent : ℕ)
      → length chunk ≤ at → ((cur : List ℕ) → Holds cur line len → Finishes f cur out out') → sent ≤ bytes_of f → Run stops chunk at line len out 0 [] (take sent out')
