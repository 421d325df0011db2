-- What encode answers to a text of less than 10,000 code points, lent room for a row of as many
-- symbols: its numbers have at most four digits, its cells are 0 and 1, and more room changes
-- nothing.
-- Assumes nothing.
use Prim.Native.Nat.{ℕ, suc, ◌+◌, ◌*◌, ◌<◌, ◌≤◌}
use mathlib.Core.Path.{◌≡◌, refl, sym, ◌∙◌}
use mathlib.Core.Bool.{Bool, true, false}
use mathlib.Core.List.{List, [], ◌∷◌}
use native.Mathlib.Omega.{arith}
use borrow.Author.Tests.{leb-true}
use lib.Dec.{leb}
use lib.ListN.{length}
use Rattle.std.specs.Prelude.{if◌then◌else◌}
use Rattle.helpers.specs.Answers.{Each, Answer, refuse, accept, Test, refuses, passes, ◌then◌, ask, every, into}
use Rattle.helpers.proofs.Answering.{into_room, into_refuse}
use Rattle.paper.specs.Iso15417.{row}
use Rattle.paper.specs.Crate.{is_scalar, utf8_bytes, Parsed, stops, symbols, parse}
use Rattle.paper.specs.Jobs.{most, row_length, SymbolList, parsed, encoder, not_fnc2, encode}
use Rattle.paper.proofs.Cells.{length_row}
use Rattle.paper.proofs.Reading.{row_clean}
use Rattle.paper.proofs.Spelling.{parse_form}
use Rattle.paper.proofs.Within.{stops_within, symbols_within}

-- ---- the answer

-- a refusal by a number of at most two digits, or a row of at most `top` symbols
abbrev pub Low : ℕ → Answer → Type 0
Low top (refuse k m) = (1 ≤ k) × (k < 100) × (m < 10000)
Low top (accept n r) = (n ≤ top) × (length r ≡ 11 * n + 24) × Each (λ c. c ≤ 1) r

abbrev LowTest : Test → Type 0
LowTest (refuses k m) = (1 ≤ k) × (k < 100) × (m < 10000)
LowTest passes = Unit {0}

then_low : (top : ℕ) (t : Test) (a : Answer) → LowTest t → Low top a → Low top (t then a)
unfolding ◌then◌
then_low top (refuses k m) a h l = h
then_low top passes a h l = l

ask_low : (b : Bool) (k m : ℕ) → 1 ≤ k → k < 100 → m < 10000 → LowTest (ask b k m)
unfolding ask
ask_low true k m p q r = tt
ask_low false k m p q r = (p, q, r)

every_low : (good : ℕ → Bool) (k at : ℕ) (xs : List ℕ) → 1 ≤ k → k < 100 → at + length xs < 10000 → LowTest (every good k at xs)
unfolding every
every_low good k at [] p q h = tt
every_low good k at (x ∷ xs) p q h = good_case (good x) (every_low good k (suc at) xs p q (omega arith))
  where
    good_case : (b : Bool) → LowTest (every good k (suc at) xs) → LowTest (if b then every good k (suc at) xs else refuses k at)
    good_case true l = l
    good_case false l = (p, q, omega arith)

parsed_low : (x : List ℕ) → length x < 10000 → (p : Parsed) → parse x ≡ p
    → Low (length x) (parsed p λ s. every not_fnc2 19 0 x then ask (leb (length s) most) 4 (length s) then accept (length s) (row s))
unfolding parsed ◌then◌ ask most
parsed_low x h (stops at) e = omega (arith, stops_within x at e)
parsed_low x h (symbols s) e = then_low (length x) (every not_fnc2 19 0 x) _ (every_low not_fnc2 19 0 x (omega arith) (omega arith) (omega arith)) (limit_case (leb (length s) 4000) refl)
  where
    limit_case : (b : Bool) → leb (length s) 4000 ≡ b → Low (length x) (ask b 4 (length s) then accept (length s) (row s))
    limit_case false l = omega (arith, symbols_within x s e)
    limit_case true l =
        let proper : SymbolList s = record { form = parse_form x s e; size = leb-true (length s) 4000 l } in
        (symbols_within x s e, omega (arith, length_row s proper), row_clean s proper)

-- ---- the room

-- what encode answers before the room is asked for
abbrev roomless : List ℕ → Answer
roomless x =
    every is_scalar 1 0 x then ask (leb 2 (utf8_bytes x)) 2 0 then parsed (parse x) λ s. every not_fnc2 19 0 x then ask (leb (length s) most) 4 (length s) then accept (length s) (row s)

roomless_low : (x : List ℕ) → length x < 10000 → Low (length x) (roomless x)
roomless_low x h =
    then_low (length x) (every is_scalar 1 0 x) _ (every_low is_scalar 1 0 x (omega arith) (omega arith) (omega arith))
    (then_low (length x) (ask (leb 2 (utf8_bytes x)) 2 0) _ (ask_low _ 2 0 (omega arith) (omega arith) (omega arith))
    (parsed_low x h (parse x) refl))

-- where a row of the most symbols fits, the room changes nothing
into_enough : (room top : ℕ) (a : Answer) → Low top a → row_length top ≤ room → into room a ≡ a
unfolding row_length
into_enough room top (refuse k m) l h = into_refuse room k m
into_enough room top (accept n r) l h = into_room room n r (omega arith)

encode_enough : (room : ℕ) (x : List ℕ) → length x < 10000 → row_length (length x) ≤ room → encode room x ≡ roomless x
unfolding encode encoder
encode_enough room x l h = into_enough room (length x) (roomless x) (roomless_low x l) h

-- its numbers and its cells
pub encode_low : (room : ℕ) (x : List ℕ) → length x < 10000 → row_length (length x) ≤ room → Low (length x) (encode room x)
encode_low room x l h = rw (encode_enough room x l h) (roomless_low x l)

-- and any two rooms for a row of as many symbols as there are code points are alike
pub encode_rooms : (room other : ℕ) (x : List ℕ) → length x < 10000 → row_length (length x) ≤ room → row_length (length x) ≤ other → encode room x ≡ encode other x
encode_rooms room other x l h k = encode_enough room x l h ∙ sym (encode_enough other x l k)
