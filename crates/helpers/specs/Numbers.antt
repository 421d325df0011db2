-- Document 01's numbers, and those of document 02: 16 of request 3, 19 of request 12 and 30 to 33
-- of request 2, for the cases of the code's `Refusal`: "An answer may be an enum. If so, a
-- definition gives this paper's number and values for each of the enum's cases". Assumes nothing.
use Rattle.helpers.specs.Prelude.{ℕ}
use Rattle.std.specs.Prelude.{Result, Ok, Err}
use Rattle.helpers.specs.declared.Refusal.{Refusal}
use Rattle.helpers.specs.declared.Refusal.TheVariants.{Scalar, Length, Character, Symbols, Room, Size, Cell, Pattern, Place, Check, Stop, Worn, Retired, Short, Version, Count, Spare, TextLength, Digit, CheckDigit, Row}

-- the number of each refusal
unfoldable pub refusal_number : Refusal → ℕ
refusal_number (Scalar k) = 1
refusal_number (Length k) = 2
refusal_number (Character k) = 3
refusal_number (Symbols k) = 4
refusal_number (Room k) = 5
refusal_number (Size k) = 10
refusal_number (Cell k) = 11
refusal_number (Pattern k) = 12
refusal_number (Place k) = 13
refusal_number (Check k) = 14
refusal_number (Stop k) = 15
refusal_number (Worn k) = 16
refusal_number (Retired k) = 19
refusal_number (Short k) = 20
refusal_number (Version k) = 21
refusal_number (Count k) = 22
refusal_number (Spare k) = 23
refusal_number (TextLength k) = 30
refusal_number (Digit k) = 31
refusal_number (CheckDigit k) = 32
refusal_number (Row k) = 33

-- the second number of each refusal
abbrev pub refusal_second : Refusal → ℕ
refusal_second (Scalar k) = k
refusal_second (Length k) = k
refusal_second (Character k) = k
refusal_second (Symbols k) = k
refusal_second (Room k) = k
refusal_second (Size k) = k
refusal_second (Cell k) = k
refusal_second (Pattern k) = k
refusal_second (Place k) = k
refusal_second (Check k) = k
refusal_second (Stop k) = k
refusal_second (Worn k) = k
refusal_second (Retired k) = k
refusal_second (Short k) = k
refusal_second (Version k) = k
refusal_second (Count k) = k
refusal_second (Spare k) = k
refusal_second (TextLength k) = k
refusal_second (Digit k) = k
refusal_second (CheckDigit k) = k
refusal_second (Row k) = k

-- the answer number: 0 where it is accepted
unfoldable pub number_of : Result ℕ Refusal → ℕ
number_of (Ok n) = 0
number_of (Err r) = refusal_number r

-- the second number
unfoldable pub second_of : Result ℕ Refusal → ℕ
second_of (Ok n) = n
second_of (Err r) = refusal_second r
