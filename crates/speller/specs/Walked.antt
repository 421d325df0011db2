-- What spell and scan have in common: a walk over the numbers of a symbol list, each of which gives
-- at most two elements in the set that it stands in; and what Shift adds to scan's.
-- Document 01, "Spelling and scanner reading" and "Tokens and character sets"; document 02, request
-- 1. Assumes nothing.
use Rattle.std.specs.Prelude.{ℕ, List, [], ◌∷◌, ◌++◌, leb, eqb, length, drop, if◌then◌else◌}
use Rattle.helpers.specs.Answers.{Answer, accept, ◌then◌, ask}
use Rattle.paper.specs.Iso15417.{Set, before, A, B, C, next, other}
use Rattle.paper.specs.Crate.{as_list, point_in, spans}
use Rattle.paper.specs.Jobs.{possible, well_formed}
use Rattle.speller.specs.declared.Said.{Said}
use Rattle.speller.specs.declared.Said.TheVariants.{Nothing, One, Two}

-- what one number gives, as a list: "Set C: 0..99 give two ASCII digits", any other one element or
-- nothing
unfoldable pub said_of : {T : Type 0} → Said T → List T
said_of Nothing = []
said_of (One a) = a ∷ []
said_of (Two a b) = a ∷ b ∷ []

-- the number of a set's spans that are runs of text, which stand first: "Set A: U+0020..005F give
-- 0..63; U+0000..001F give 64..95", "Set B: U+0020..007E give 0..94"
unfoldable pub runs_of : Set → ℕ
runs_of before = 0
runs_of A = 2
runs_of B = 1
runs_of C = 0

-- the letter of a number in the spans after those runs: "U+00F7 gives 95", the switches, Shift and
-- the function symbols
unfoldable pub own_of : Set → ℕ → List ℕ
own_of s m = as_list (point_in (drop (runs_of s) (spans s)) m)

-- "Shift (98 in A or B) makes the next symbol alone be read in the other of those two sets": the
-- set that text, a number below 96, is read in after the number m in the set s
unfoldable pub text_after : Set → ℕ → Set
text_after s m = if eqb m 98 then other s else next s m

-- what the numbers give one after the other, by `say`, each in the set s that those before it have
-- led to, "Switches move the set", and text in the set t
unfoldable pub walked : {T : Type 0} → (Set → Set → ℕ → List T) → Set → Set → List ℕ → List T
walked say s t [] = []
walked say s t (m ∷ ms) = say s t m ++ walked say (next s m) (text_after s m) ms

-- what a symbol list gives
abbrev pub output : {T : Type 0} → (Set → Set → ℕ → List T) → List ℕ → List T
output say s = walked say before before s

-- "Draw, spell, scan: 10, 13, 5.": the answer of either job, before its output of n elements is
-- written
unfoldable pub fitted : ℕ → ℕ → List ℕ → Answer
fitted n room s =
    ask (possible (length s)) 10 (length s) then
    well_formed s then
    ask (leb n room) 5 n then
    accept n []
