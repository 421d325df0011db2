-- What `feed` and `finish` give: steps over an input that comes in chunks, with a buffer for the
-- line and one for the output.
-- Document 01, "The label program". Assumes nothing.
use Rattle.helpers.specs.Prelude.{ℕ, List, [], length, get_or, take, drop}
use Rattle.std.specs.Prelude.{min, ◌+◌, ◌-◌, ◌<◌, ◌≤◌, ◌≡◌, ◌≢◌, ◌⊎◌, ◌++◌}
use Rattle.helpers.specs.Terms.{Stored}
use Rattle.line.specs.Line.{line_out}
use Rattle.lines.specs.Lines.{output_from, newlines}
use Rattle.lines.specs.declared.Finished.{Finished}
use Rattle.lines.specs.declared.Finished.TheVariants.{NoLine, NoRoom, Line}

-- "at most 4,096 bytes before the newline": where the bytes `cur` of a line are read, the line's
-- buffer, of 4,097 bytes, holds the first 4,097 of them in its first `len`
pub record Holds (cur line : List ℕ) (len : ℕ) : Type 0 where
  pub holds_size : length line ≡ 4097
  pub holds_bytes : take len line ≡ take 4097 cur

-- From place `at` of a chunk to place `at'`, giving `text`: whatever bytes of a line were read
-- before, however the input goes on after the chunk, and whatever its last bytes give, the output
-- from `at` on is the text and then the output from `at'` on.
pub record Fed (chunk : List ℕ) (at : ℕ) (line : List ℕ) (len : ℕ) (text : List ℕ) (at' : ℕ) (line' : List ℕ) (len' : ℕ) : Type 0 where
  pub fed_onward : at ≤ at'
  pub fed_within : length chunk < at' → at' ≡ at
  pub fed_filled : len' ≤ 4097
  pub fed_output : (cur : List ℕ) → Holds cur line len
      → (cur' : List ℕ) × Holds cur' line' len' × ((last : List ℕ → List ℕ) (rest : List ℕ) → output_from last cur (drop at chunk ++ rest) ≡ text ++ output_from last cur' (drop at' chunk ++ rest))

-- The same where the text, of `lines` lines, was stored into `out` from place `used` on. Where `out`
-- has room for one more answer, which has at most 22,560 bytes, it passes at least one byte, and no
-- answer is begun without that room. It stops where it began, with the line's buffer as it was; or
-- after a whole line; or at the chunk's end, in a line for whose answer there is room.
pub record Feeds (chunk : List ℕ) (at : ℕ) (line : List ℕ) (len : ℕ) (out : List ℕ) (used at' : ℕ) (line' : List ℕ) (len' : ℕ) (out' : List ℕ) (used' lines : ℕ)
    : Type 0 where
  pub feeds_text : List ℕ
  pub feeds_fed : Fed chunk at line len feeds_text at' line' len'
  pub feeds_stored : Stored feeds_text out used out' used'
  pub feeds_lines : lines ≡ newlines feeds_text
  pub feeds_room : length feeds_text ≤ length out - used
  pub feeds_on : at < length chunk → used + 22560 ≤ length out → at < at'
  pub feeds_stop : at' < length chunk → length out < used' + 22560
  pub feeds_where : ((at' ≡ at) × (line' ≡ line) × (len' ≡ min len 4097)) ⊎ (((at < at') × (get_or chunk (at' - 1) 0 ≡ 10) × (len' ≡ 0)) ⊎ ((length chunk ≤ at') × (used' + 22560 ≤ length out)))
  pub feeds_sure : (feeds_text ≡ []) ⊎ (before : List ℕ) × (its : List ℕ) × (feeds_text ≡ before ++ line_out its) × (used + length before + 22560 ≤ length out)

-- What `finish` answers where the bytes `cur` of the last line are read: there is no such line; or
-- it gives more than the buffer has room for; both leave the buffer as it was. Or the answer, n
-- bytes, stands at the buffer's front, and what follows it is as it was.
unfoldable pub Finishes : Finished → List ℕ → List ℕ → List ℕ → Type 0
Finishes NoLine cur buf out = (cur ≡ []) × (out ≡ buf)
Finishes NoRoom cur buf out = (cur ≢ []) × (length buf < length (line_out cur)) × (out ≡ buf)
Finishes (Line n) cur buf out = (cur ≢ []) × (n ≡ length (line_out cur)) × (out ≡ line_out cur ++ drop n buf)

-- how many bytes `finish` leaves to be written
unfoldable pub bytes_of : Finished → ℕ
bytes_of NoLine = 0
bytes_of NoRoom = 0
bytes_of (Line n) = n
