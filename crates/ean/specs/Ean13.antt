-- EAN-13: how the GS1 General Specifications draw thirteen digits as 95 cells, and request 2's two
-- jobs. A cell is 1 for bar and 0 for space; text is bytes; places count from 0.
-- Document 02, request 2; GS1 General Specifications, EAN/UPC symbology; `src/sym/ean13.rs`. Of the
-- libraries' words, `reverse` comes in here. Assumes nothing.
use Rattle.std.specs.Prelude.{reverse, ◌+◌, ◌-◌, ◌*◌, ◌/◌, ◌%◌, ◌&&◌, ◌||◌, ◌∷◌, ◌++◌, if◌then◌else◌}
use Rattle.helpers.specs.Prelude.{ℕ, zero, suc, Bool, true, List, [], map, leb, ltb, eqb, length, get_or, take, drop, replicate}
use Rattle.helpers.specs.Answers.{same, Answer, ◌then◌, ask, every, whole, into}
use Rattle.helpers.specs.Modulo10.{modulo10}
use Rattle.helpers.specs.Readers.{read_back}

-- ---- the digits in three number sets
-- GS1: the widths of a digit's four elements in number set A, a space first, of the digits 0 to 9
unfoldable pub widths_a : List ℕ
widths_a = 3211 ∷ 2221 ∷ 2122 ∷ 1411 ∷ 1132 ∷ 1231 ∷ 1114 ∷ 1312 ∷ 1213 ∷ 3112 ∷ []

-- an element, c for each of its cells, whose width is the last digit of w
unfoldable pub element : ℕ → ℕ → List ℕ
element c w = replicate (w % 10) c

-- space, bar, space, bar: 3211 is 0001101
unfoldable pub four_elements : ℕ → List ℕ
four_elements w = element 0 (w / 1000) ++ element 1 (w / 100) ++ element 0 (w / 10) ++ element 1 w

-- number set A; none above 9
unfoldable pub in_a : ℕ → List ℕ
in_a d = four_elements (get_or widths_a d 0)

-- number set C: the complement of A, a bar for each space and a space for each bar
unfoldable pub in_c : ℕ → List ℕ
in_c d = map (λ c. 1 - c) (in_a d)

-- number set B: the mirror of C
unfoldable pub in_b : ℕ → List ℕ
in_b d = reverse (in_c d)

-- the number sets by number, in the order of the crate's `ENCODINGS`
abbrev pub set_a : ℕ
set_a = 0

abbrev pub set_b : ℕ
set_b = 1

abbrev pub set_c : ℕ
set_c = 2

-- the seven cells of a digit in a set, C for any number but 0 and 1
unfoldable pub in_set : ℕ → ℕ → List ℕ
in_set s d = if eqb s set_a then in_a d else if eqb s set_b then in_b d else in_c d

-- ---- the row
-- "the first digit's parity row", GS1: the sets of the six digits left of the centre, for each
-- first digit 0 to 9
unfoldable pub parity_rows : List (List ℕ)
parity_rows =
    (set_a ∷ set_a ∷ set_a ∷ set_a ∷ set_a ∷ set_a ∷ []) ∷
    (set_a ∷ set_a ∷ set_b ∷ set_a ∷ set_b ∷ set_b ∷ []) ∷
    (set_a ∷ set_a ∷ set_b ∷ set_b ∷ set_a ∷ set_b ∷ []) ∷
    (set_a ∷ set_a ∷ set_b ∷ set_b ∷ set_b ∷ set_a ∷ []) ∷
    (set_a ∷ set_b ∷ set_a ∷ set_a ∷ set_b ∷ set_b ∷ []) ∷
    (set_a ∷ set_b ∷ set_b ∷ set_a ∷ set_a ∷ set_b ∷ []) ∷
    (set_a ∷ set_b ∷ set_b ∷ set_b ∷ set_a ∷ set_a ∷ []) ∷
    (set_a ∷ set_b ∷ set_a ∷ set_b ∷ set_a ∷ set_b ∷ []) ∷
    (set_a ∷ set_b ∷ set_a ∷ set_b ∷ set_b ∷ set_a ∷ []) ∷
    (set_a ∷ set_b ∷ set_b ∷ set_a ∷ set_b ∷ set_a ∷ []) ∷ []

-- the parity row of a first digit; none above 9
unfoldable pub parity_row : ℕ → List ℕ
parity_row first = get_or parity_rows first []

-- GS1: the guard at both ends, and the one at the centre
unfoldable pub guard : List ℕ
guard = 1 ∷ 0 ∷ 1 ∷ []

unfoldable pub centre : List ℕ
centre = 0 ∷ 1 ∷ 0 ∷ 1 ∷ 0 ∷ []

-- some digits one after the other, each drawn in its set, as long as there are both
unfoldable pub in_sets : List ℕ → List ℕ → List ℕ
in_sets [] ds = []
in_sets (s ∷ ss) [] = []
in_sets (s ∷ ss) (d ∷ ds) = in_set s d ++ in_sets ss ds

-- the row of thirteen digits: the first is not drawn, and chooses the sets of the next six; the
-- last six stand in set C
unfoldable pub ean13_row : List ℕ → List ℕ
ean13_row [] = []
ean13_row (first ∷ ds) = guard ++ in_sets (parity_row first) ds ++ centre ++ in_sets (replicate 6 set_c) (drop 6 ds) ++ guard

-- ---- write
-- "ASCII digits"
unfoldable pub is_digit : ℕ → Bool
is_digit c = leb 48 c && leb c 57

-- the digits of a text, as numbers
unfoldable pub values_of : List ℕ → List ℕ
values_of text = map (λ c. c - 48) text

-- the right check digit of a text: that of its first twelve digits, the first of which weighs 1
unfoldable pub right_check : List ℕ → ℕ
right_check text = modulo10 true (take 12 (values_of text))

-- the thirteen digits of a text, as numbers: the first twelve and their check
unfoldable pub thirteen : List ℕ → List ℕ
thirteen text = take 12 (values_of text) ++ (right_check text ∷ [])

-- "12 ASCII digits, or 13 with the check verified, to 95 cells": 30, 31, 32, 5. To a text of
-- twelve, which has no thirteenth digit, the right check stands in for it at 32.
unfoldable pub write_ean13 : ℕ → List ℕ → Answer
write_ean13 room text =
    into room (
    ask (eqb (length text) 12 || eqb (length text) 13) 30 (length text) then
    every is_digit 31 0 text then
    ask (eqb (get_or (values_of text) 12 (right_check text)) (right_check text)) 32 (right_check text) then
    whole (ean13_row (thirteen text)))

-- ---- read
-- "all 13 digits", as ASCII bytes
unfoldable pub full_text : List ℕ → List ℕ
full_text text = map (λ d. d + 48) (thirteen text)

-- where the drawn digit k begins, 0 to 11: six after the first guard, six after the centre
unfoldable pub digit_place : ℕ → ℕ
digit_place k = if ltb k 6 then 3 + 7 * k else 8 + 7 * k

-- its seven cells
unfoldable pub digit_cells : ℕ → List ℕ → List ℕ
digit_cells k row = take 7 (drop (digit_place k) row)

-- the first of the n numbers from d on whose list is cs, and d + n where there is none
unfoldable pub first_of : (ℕ → List ℕ) → ℕ → ℕ → List ℕ → ℕ
first_of f zero d cs = d
first_of f (suc n) d cs = if same (f d) cs then d else first_of f n (suc d) cs

-- the digit whose cells in the set s these are, and 10 where there is none
unfoldable pub digit_in : ℕ → List ℕ → ℕ
digit_in s cs = first_of (in_set s) 10 0 cs

-- the set that a digit left of the centre is drawn in: A, or if it is no digit of A, B
unfoldable pub left_set : List ℕ → ℕ
left_set cs = if ltb (digit_in set_a cs) 10 then set_a else set_b

-- what f says of the n numbers from k on, in order
unfoldable pub list_of : (ℕ → ℕ) → ℕ → ℕ → List ℕ
list_of f k zero = []
list_of f k (suc n) = f k ∷ list_of f (suc k) n

-- the thirteen digits that a row can be of, 10 where it has none: the first by the parity row of
-- the six left of the centre, these in A or B, the last six in C
unfoldable pub digits_read : List ℕ → List ℕ
digits_read row =
    first_of parity_row 10 0 (list_of (λ k. left_set (digit_cells k row)) 0 6) ∷
    list_of (λ k. digit_in (left_set (digit_cells k row)) (digit_cells k row)) 0 6 ++
    list_of (λ k. digit_in set_c (digit_cells k row)) 6 6

-- the one full text that a row can be of; where a digit is missing it has the byte 58, which is no
-- digit, and write refuses it
unfoldable pub text_of : List ℕ → List ℕ
text_of row = map (λ d. d + 48) (digits_read row)

-- "The reader accepts exactly the rows written and returns all 13 digits": 33, 5
unfoldable pub read_ean13 : ℕ → List ℕ → Answer
read_ean13 room row = read_back write_ean13 text_of room row

-- ---- one digit redrawn
-- the set of the drawn digit k, 0 to 11, by the first digit
unfoldable pub set_at : ℕ → ℕ → ℕ
set_at first k = get_or (parity_row first ++ replicate 6 set_c) k set_c

-- the row with other cells in place of those of the drawn digit k
unfoldable pub redrawn_as : ℕ → List ℕ → List ℕ → List ℕ
redrawn_as k cells row = take (digit_place k) row ++ cells ++ drop (digit_place k + 7) row
