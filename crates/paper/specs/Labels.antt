-- The starred labels of document 01, twelve cases, as one table under one statement of Promises.
-- Three more tables: symbol lists with Shift, and the bytes that scan answers; labels for request
-- 12; records for request 4.
-- Document 01, "Labels on each side of the line"; document 02, requests 1, 4 and 12. Assumes
-- nothing.
use Rattle.std.specs.Prelude.{◌*◌, ◌∷◌, ◌++◌}
use Rattle.helpers.specs.Prelude.{ℕ, String, List, [], length}
use Rattle.helpers.specs.Answers.{Answer, refuse, accept, whole}
use Rattle.paper.specs.Iso15417.{points, cells, stop}
use Rattle.paper.specs.Jobs.{encode, scan, unpack, row_length, most}

-- a label, or two with one answer
pub data Label : Type 0 where
  ◌⇒◌ : String → Answer → Label
  ◌also◌⇒◌ : String → String → Answer → Label

infix 15 ◌⇒◌
infix 15 ◌also◌⇒◌
-- "symbol 103, check 0": accepted with these symbols, the row drawn from them and this check number
unfoldable pub symbols_and_check : List ℕ → ℕ → Answer
symbols_and_check s c = accept (length s) (cells (s ++ (c ∷ [])) ++ stop)

-- "Starred ones, twelve of them, are proved."
unfoldable pub starred : List Label
starred =
    ("" ⇒ refuse 2 0) ∷
    ("A" ⇒ refuse 2 0) ∷
    ("À" ⇒ symbols_and_check (103 ∷ []) 0) ∷
    ("€" ⇒ refuse 3 0) ∷
    ("Ć12" ⇒ symbols_and_check (105 ∷ 12 ∷ []) 14) ∷
    ("Ć1Ź2" also "ĆŹ12" ⇒ symbols_and_check (105 ∷ 102 ∷ 12 ∷ []) 25) ∷
    ("Ć1" ⇒ refuse 3 2) ∷
    ("ÀÀ" ⇒ refuse 3 1) ∷
    ("ÀĆ12" ⇒ symbols_and_check (103 ∷ 99 ∷ 12 ∷ []) 20) ∷
    ("ƁŽ" ⇒ symbols_and_check (104 ∷ 98 ∷ []) 99) ∷
    ("ÀŽa" ⇒ refuse 3 2) ∷
    ("Ɓ÷" ⇒ symbols_and_check (104 ∷ 95 ∷ []) 96) ∷ []

-- the table's right sides
unfoldable pub expected : List Label → List Answer
expected [] = []
expected ((x ⇒ a) ∷ ls) = a ∷ expected ls
expected ((x also y ⇒ a) ∷ ls) = a ∷ a ∷ expected ls

-- what encode answers to its left sides, at a buffer that takes any row
unfoldable pub answered : List Label → List Answer
answered [] = []
answered ((x ⇒ a) ∷ ls) = encode (row_length most) (points x) ∷ answered ls
answered ((x also y ⇒ a) ∷ ls) = encode (row_length most) (points x) ∷ encode (row_length most) (points y) ∷ answered ls

-- ---- request 1
-- a symbol list and the bytes that a scanner sends for it
pub data ShiftLabel : Type 0 where
  ◌gives◌ : List ℕ → List ℕ → ShiftLabel

infix 15 ◌gives◌
-- eight lists, by hand from request 1
unfoldable pub shift_labels : List ShiftLabel
shift_labels =
    ((103 ∷ 98 ∷ 65 ∷ []) gives (0x61 ∷ [])) ∷
    ((104 ∷ 98 ∷ 65 ∷ []) gives (0x01 ∷ [])) ∷
    ((103 ∷ 98 ∷ 98 ∷ 65 ∷ []) gives (0x61 ∷ [])) ∷
    ((103 ∷ 98 ∷ 99 ∷ 12 ∷ []) gives (0x31 ∷ 0x32 ∷ [])) ∷
    ((105 ∷ 98 ∷ []) gives (0x39 ∷ 0x38 ∷ [])) ∷
    ((104 ∷ 98 ∷ []) gives []) ∷
    ((103 ∷ 98 ∷ 65 ∷ 65 ∷ []) gives (0x61 ∷ 0x01 ∷ [])) ∷
    ((104 ∷ 98 ∷ 100 ∷ 65 ∷ []) gives (0x61 ∷ [])) ∷ []

-- the table's right sides, as answers
unfoldable pub shift_expected : List ShiftLabel → List Answer
shift_expected [] = []
shift_expected ((s gives b) ∷ ls) = whole b ∷ shift_expected ls

-- what scan answers to its left sides, at a buffer that takes any bytes of a list
unfoldable pub shift_answered : List ShiftLabel → List Answer
shift_answered [] = []
shift_answered ((s gives b) ∷ ls) = scan (2 * most) s ∷ shift_answered ls

-- ---- request 12
-- by hand from request 12: ź in sets B and A, the first of two, after a switch; where 3 refuses;
-- and no ź, though the check or a pair is 97
unfoldable pub retired_labels : List Label
retired_labels =
    ("Ɓź" also "Àź" ⇒ refuse 19 1) ∷
    ("ƁAźBź" also "ĆƁźÀź" ⇒ refuse 19 2) ∷
    ("Ɓź€" also "Ć1ź" ⇒ refuse 3 2) ∷
    ("ƁźĆ1" also "ƁźAź\u{7f}" ⇒ refuse 3 4) ∷
    ("Ćź" ⇒ refuse 3 1) ∷
    ("ź" ⇒ refuse 3 0) ∷
    ("ƁŻ" ⇒ symbols_and_check (104 ∷ 96 ∷ []) 97) ∷
    ("Ć97" ⇒ symbols_and_check (105 ∷ 97 ∷ []) 99) ∷ []

-- ---- request 4
-- a record and the answer to it
pub data RecordLabel : Type 0 where
  ◌answers◌ : List ℕ → Answer → RecordLabel

infix 15 ◌answers◌
-- by hand from document 01, "Unpack of", and request 4: a record of one byte; versions 0 and 3; in
-- version 1 the counts 0 and 255; in version 2 a record under 3 bytes, the counts 0, 255, 256, 4,000
-- and 4,001, and 256 with its low byte first
unfoldable pub unpack_labels : List RecordLabel
unpack_labels =
    ((2 ∷ []) answers refuse 20 1) ∷
    ((0 ∷ 1 ∷ []) answers refuse 21 0) ∷
    ((3 ∷ 1 ∷ []) answers refuse 21 3) ∷
    ((1 ∷ 0 ∷ []) answers refuse 22 0) ∷
    ((1 ∷ 255 ∷ []) answers refuse 22 356) ∷
    ((2 ∷ 1 ∷ []) answers refuse 22 0) ∷
    ((2 ∷ 0 ∷ 0 ∷ []) answers refuse 22 0) ∷
    ((2 ∷ 0 ∷ 255 ∷ []) answers refuse 22 0) ∷
    ((2 ∷ 1 ∷ 0 ∷ []) answers refuse 22 358) ∷
    ((2 ∷ 15 ∷ 160 ∷ []) answers refuse 22 5506) ∷
    ((2 ∷ 15 ∷ 161 ∷ []) answers refuse 22 0) ∷
    ((2 ∷ 0 ∷ 1 ∷ []) answers refuse 22 0) ∷ []

-- the table's right sides
unfoldable pub unpack_expected : List RecordLabel → List Answer
unpack_expected [] = []
unpack_expected ((rec answers a) ∷ ls) = a ∷ unpack_expected ls

-- what unpack answers to its left sides, at a buffer that takes any row
unfoldable pub unpack_answered : List RecordLabel → List Answer
unpack_answered [] = []
unpack_answered ((rec answers a) ∷ ls) = unpack (row_length most) rec ∷ unpack_answered ls
