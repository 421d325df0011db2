-- What document 01 takes from the crate: which code points have a number in which set, and how a
-- list of them is parsed and spelled; and the crate's own way to the check.
-- Document 01, "Tokens and character sets" and "Spelling and scanner reading". Assumes nothing.
use Rattle.std.specs.Prelude.{◌+◌, ◌-◌, ◌*◌, ◌%◌, ◌&&◌, ◌∷◌, ◌++◌, if◌then◌else◌}
use Rattle.helpers.specs.Prelude.{ℕ, suc, max, Bool, true, false, Option, none, some, List, [], leb, ltb, eqb}
use Rattle.paper.specs.Iso15417.{Set, before, A, B, C, next, digits}

-- ---- the named code points
-- À U+00C0 names set A
abbrev pub À : ℕ
À = 0xC0

-- Ɓ U+0181 names set B
abbrev pub Ɓ : ℕ
Ɓ = 0x181

-- Ć U+0106 names set C
abbrev pub Ć : ℕ
Ć = 0x106

-- Ź U+0179 is FNC1
abbrev pub Ź : ℕ
Ź = 0x179

-- ź U+017A is FNC2
abbrev pub ź : ℕ
ź = 0x17A

-- Ż U+017B is FNC3
abbrev pub Ż : ℕ
Ż = 0x17B

-- ż U+017C is FNC4
abbrev pub ż : ℕ
ż = 0x17C

-- Ž U+017D is Shift
abbrev pub Ž : ℕ
Ž = 0x17D

-- ÷ U+00F7 stands for DEL
abbrev pub ÷ : ℕ
÷ = 0xF7

-- ---- UTF-8 and scalar values
-- "UTF-8 bytes per code point: 1 below 80, 2 below 800, 3 below 10000, otherwise 4 (hex)."
unfoldable pub utf8_of : ℕ → ℕ
utf8_of c = if ltb c 0x80 then 1 else if ltb c 0x800 then 2 else if ltb c 0x10000 then 3 else 4

-- the UTF-8 bytes of a list of code points
unfoldable pub utf8_bytes : List ℕ → ℕ
utf8_bytes [] = 0
utf8_bytes (c ∷ cs) = utf8_of c + utf8_bytes cs

-- is it a scalar value, and not "a value in D800..DFFF or above 10FFFF (hex)"?
unfoldable pub is_scalar : ℕ → Bool
is_scalar c = if ltb c 0xD800 then true else if ltb c 0xE000 then false else leb c 0x10FFFF

-- ---- the numbers of the code points in each set
-- `span a b n`: the code points a to b have the numbers n and up
pub data Span : Type 0 where
  span : ℕ → ℕ → ℕ → Span

-- one code point, and its number
abbrev pub one : ℕ → ℕ → Span
one c n = span c c n

-- "A and B: Ż U+017B gives 96, ź U+017A 97, Ž U+017D 98, Ć 99, Ź U+0179 102."
unfoldable pub in_both : List Span
in_both = one Ż 96 ∷ one ź 97 ∷ one Ž 98 ∷ one Ć 99 ∷ one Ź 102 ∷ []

-- "Set A: U+0020..005F give 0..63; U+0000..001F give 64..95; Ɓ gives 100; ż U+017C gives 101.", and
-- so for B, C and the START
unfoldable pub spans : Set → List Span
spans before = one À 103 ∷ one Ɓ 104 ∷ one Ć 105 ∷ []
spans A = span 0x20 0x5F 0 ∷ span 0x00 0x1F 64 ∷ one Ɓ 100 ∷ one ż 101 ∷ in_both
spans B = span 0x20 0x7E 0 ∷ one ÷ 95 ∷ one ż 100 ∷ one À 101 ∷ in_both
spans C = one Ɓ 100 ∷ one À 101 ∷ one Ź 102 ∷ []

-- "Nothing else has a number": the number of a code point, by the first span that holds it
unfoldable pub number_in : List Span → ℕ → Option ℕ
number_in [] c = none
number_in (span a b n ∷ t) c = if leb a c && leb c b then some (n + (c - a)) else number_in t c

-- the code point of a number, by the first span that holds it
unfoldable pub point_in : List Span → ℕ → Option ℕ
point_in [] m = none
point_in (span a b n ∷ t) m = if leb n m && leb m (n + (b - a)) then some (a + (m - n)) else point_in t m

-- ---- parsing
-- "In C the first digit of a pair is held": the parser is free in a set, or holds a digit's value
pub data State : Type 0 where
  free : Set → State
  held : ℕ → State

-- what one code point does: stop the parser, be held, or write a number and leave a state
pub data Step : Type 0 where
  halt : Step
  hold : ℕ → Step
  write : ℕ → State → Step

-- is it an ASCII digit?
unfoldable pub digit : ℕ → Bool
digit c = leb 48 c && leb c 57

-- "Set C: two ASCII digits give their value": in C alone digits go by pairs
unfoldable pub pairs : Set → Bool
pairs before = false
pairs A = false
pairs B = false
pairs C = true

-- a code point with a number in the set, which may switch the set; one without stops the parser
unfoldable pub listed : Set → Option ℕ → Step
listed s none = halt
listed s (some m) = write m (free (next s m))

-- "A Ź that comes next gives 102 and the digit is still held. A switch with a digit held is refused
-- 3 at the switch"
unfoldable pub step : State → ℕ → Step
step (free s) c = if pairs s && digit c then hold (c - 48) else listed s (number_in (spans s) c)
step (held d) c = if digit c then write (10 * d + (c - 48)) (free C) else if eqb c Ź then write 102 (held d) else halt

-- "the crate's `Error::Character`, place where parsing stops": that place, or the symbols
pub data Parsed : Type 0 where
  stops : ℕ → Parsed
  symbols : List ℕ → Parsed

-- one symbol more, ahead of those of the rest
unfoldable pub with_symbol : ℕ → Parsed → Parsed
with_symbol m (stops at) = stops at
with_symbol m (symbols ms) = symbols (m ∷ ms)

-- what the code point at place `at` does, and what comes of the rest
unfoldable pub follow : Step → ℕ → (State → Parsed) → Parsed
follow halt at rest = stops at
follow (hold d) at rest = rest (held d)
follow (write m q) at rest = with_symbol m (rest q)

-- may the input end here? Not before the START, nor with "a digit left over"
unfoldable pub finished : State → Bool
finished (free before) = false
finished (free A) = true
finished (free B) = true
finished (free C) = true
finished (held d) = false

-- parsing from this state and place on; "the input's length for a digit left over"
unfoldable pub parse_from : State → ℕ → List ℕ → Parsed
parse_from q at [] = if finished q then symbols [] else stops at
parse_from q at (c ∷ cs) = follow (step q c) at (λ r. parse_from r (suc at) cs)

-- "The first code point must be one of these": only À, Ɓ and Ć have a number before the START
unfoldable pub parse : List ℕ → Parsed
parse x = parse_from (free before) 0 x

-- ---- spelling
-- the code point, where there is one
unfoldable pub as_list : Option ℕ → List ℕ
as_list none = []
as_list (some c) = c ∷ []

-- the code points of a number in a set: the two digits of a pair, else the one with that number
unfoldable pub letters : Set → ℕ → List ℕ
letters s m = if pairs s && ltb m 100 then digits m else as_list (point_in (spans s) m)

-- the code points of the numbers, one after the other, from this set on
unfoldable pub spell_from : Set → List ℕ → List ℕ
spell_from s [] = []
spell_from s (m ∷ ms) = letters s m ++ spell_from (next s m) ms

-- "Spell turns a list into the one input that encodes to it and has no Ź inside a pair."
unfoldable pub spelled : List ℕ → List ℕ
spelled ms = spell_from before ms

-- ---- the crate's check
-- the crate's fold over numbers and places, t so far and the first number at place i: each is added
-- by the weight `max(1, i)`
unfoldable pub folded : ℕ → ℕ → List ℕ → ℕ
folded t i [] = t
folded t i (u ∷ us) = folded (t + u * max 1 i) (suc i) us

-- the crate's `checksum_value`: that sum over the whole list, modulo 103
unfoldable pub checksum : List ℕ → ℕ
checksum s = folded 0 0 s % 103
