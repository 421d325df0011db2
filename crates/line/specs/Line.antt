-- One line of the label program: the code points that its bytes are, and the line that it gives,
-- byte by byte.
-- Document 01, "The label program". Assumes nothing.
use Rattle.std.specs.Prelude.{◌+◌, ◌-◌, ◌*◌, ◌/◌, ◌%◌, ◌≡◌, ◌&&◌, ◌∷◌, ◌++◌, if◌then◌else◌}
use Rattle.helpers.specs.Prelude.{ℕ, zero, suc, List, [], map, leb, ltb, eqb, length, drop}
use Rattle.helpers.specs.Answers.{Answer, refuse, accept}
use Rattle.paper.specs.Jobs.{encode, row_length, most}

-- ---- from a line's bytes to its code points
-- what a byte is in a line: a hex digit, by its value, or the blank between code points, or neither
pub data Kind : Type 0 where
  hex : ℕ → Kind
  blank : Kind
  neither : Kind

-- "upper-case hex": the bytes of 0 to 9 and of A to F are digits
unfoldable pub kind_of : ℕ → Kind
kind_of c =
    if leb 48 c && leb c 57 then hex (c - 48) else if leb 65 c && leb c 70 then hex (c - 65 + 10) else if eqb c 32 then blank else neither

-- what a byte does to the code point that is read: it is one digit more, so that there are k
-- digits of value v; or it ends the code point; or it may not stand there
pub data Effect : Type 0 where
  goes_on : ℕ → ℕ → Effect
  point_ends : Effect
  misplaced : Effect

-- "upper-case hex of 1 to 6 digits, one space between": the next byte, where k digits of value v
-- are read
unfoldable pub effect : ℕ → ℕ → Kind → Effect
effect k v (hex d) = if ltb k 6 then goes_on (suc k) (16 * v + d) else misplaced
effect k v blank = if leb 1 k then point_ends else misplaced
effect k v neither = misplaced

-- what a line has: code points, or it is "A line of another form"
pub data Content : Type 0 where
  code_points : List ℕ → Content
  other_form : Content

-- one code point more, ahead of those of the rest
unfoldable pub with_point : ℕ → Content → Content
with_point v (code_points x) = code_points (v ∷ x)
with_point v other_form = other_form

-- what the next byte does where the digits read have value v, and what comes of the rest
unfoldable pub comes_of : Effect → ℕ → (ℕ → ℕ → Content) → Content
comes_of (goes_on k w) v rest = rest k w
comes_of point_ends v rest = with_point v (rest 0 0)
comes_of misplaced v rest = other_form

-- the content of the bytes that are left, where k digits of value v are read; a line ends after a
-- digit
unfoldable pub content_from : ℕ → ℕ → List ℕ → Content
content_from k v [] = if leb 1 k then code_points (v ∷ []) else other_form
content_from k v (c ∷ cs) = comes_of (effect k v (kind_of c)) v (λ j w. content_from j w cs)

-- "at most 4,096 bytes before the newline"
unfoldable pub line_limit : ℕ
line_limit = 4096

-- "An empty line is an empty input."
unfoldable pub content_of : List ℕ → Content
content_of [] = code_points []
content_of (c ∷ cs) = if leb (length (c ∷ cs)) line_limit then content_from 0 0 (c ∷ cs) else other_form

-- ---- from the answer to the line that says it
-- the decimal digits of a number of at most k + 1 digits, with no leading zero
unfoldable pub decimal_below : ℕ → ℕ → List ℕ
decimal_below zero n = (48 + n % 10) ∷ []
decimal_below (suc k) n = (if ltb n 10 then [] else decimal_below k (n / 10)) ++ ((48 + n % 10) ∷ [])

-- the decimal digits of n, which has at most n + 1 of them
unfoldable pub decimal : ℕ → List ℕ
decimal n = decimal_below n n

-- "answer number, space, second number, and after a 0 a space and the row's cells"
unfoldable pub answer_line : Answer → List ℕ
answer_line (refuse k m) = decimal k ++ (32 ∷ decimal m)
answer_line (accept n out) = decimal 0 ++ (32 ∷ decimal n) ++ (32 ∷ map (λ c. 48 + c) out)

-- "A line of another form gives `?`."; code points give what encode answers, lent room for any row
unfoldable pub content_line : Content → List ℕ
content_line (code_points x) = answer_line (encode (row_length most) x)
content_line other_form = 63 ∷ []

-- "Each line gives one line out", which ends with a newline
unfoldable pub line_out : List ℕ → List ℕ
line_out line = content_line (content_of line) ++ (10 ∷ [])

-- ---- in a lent buffer
-- a text where a buffer of `room` bytes has room for it, and else none
unfoldable pub fitting : ℕ → List ℕ → List ℕ
fitting room text = if leb (length text) room then text else []

-- The text stands at the front of the buffer that held `buf`, and r is its length; where it does
-- not fit, nothing was written and r is 0.
pub record Wrote (text : List ℕ) (r : ℕ) (buf out : List ℕ) : Type 0 where
  pub wrote_length : r ≡ length (fitting (length buf) text)
  pub wrote_buffer : out ≡ fitting (length buf) text ++ drop r buf
