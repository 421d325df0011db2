-- A reader of one symbology's rows, over its writer: requests 2, 6, 11 and 13 have one law.
-- Document 02, request 2: "a reader refuses only by 33, given exactly for rows that its writer
-- never writes, then 5". Assumes nothing.
use Rattle.std.specs.Prelude.{◌≡◌, ◌↔◌, ◌≢◌}
use Rattle.helpers.specs.Prelude.{ℕ, Bool, false, List, length}
use Rattle.helpers.specs.Answers.{same, Answer, refuse, accept, ◌then◌, ask, whole, into}

-- is the answer an acceptance with this output?
unfoldable pub gives : Answer → List ℕ → Bool
gives (refuse k m) out = false
gives (accept n o) out = same o out

-- The reader of a writer's rows, where `text_of row` is what is read from the row, if it is one:
-- its full text. 33 where the writer, lent as many elements as the row has, does not write the row
-- for that text, and 5.
unfoldable pub read_back : (ℕ → List ℕ → Answer) → (List ℕ → List ℕ) → ℕ → List ℕ → Answer
read_back write text_of room row =
    into room (
    ask (gives (write (length row) (text_of row)) row) 33 0 then
    whole (text_of row))

-- what a reader promises of its writer; `full x` is what is read where x was written
pub record ReadsBack (write read : ℕ → List ℕ → Answer) (full : List ℕ → List ℕ) : Type 0 where
  -- It refuses by 33, with 0, exactly the rows that the writer writes for no text, whatever the
  -- room.
  pub never_written : (room m : ℕ) (row : List ℕ)
      → (read room row ≡ refuse 33 m) ↔ ((m ≡ 0) × ((room' : ℕ) (x : List ℕ) (n : ℕ) → write room' x ≢ accept n row))
  -- What is written is read, in full, or refused by 5 with the elements needed.
  pub written_read : (room room' : ℕ) (x : List ℕ) (n : ℕ) (row : List ℕ) → write room' x ≡ accept n row → read room row ≡ into room (whole (full x))
  -- What is read is a text for which the writer writes that row.
  pub read_written : (room : ℕ) (row : List ℕ) (n : ℕ) (t : List ℕ) → read room row ≡ accept n t
      → (n ≡ length t) × ((m : ℕ) × (write (length row) t ≡ accept m row))
