-- Answers from outside that the definitions in specs/ are held to: from documents 01 and 02 by
-- hand, from the standard as we know it, and from the crate when it is run. Where a comment says
-- "by hand", a Python program written from these documents alone gave the same answer
-- (tools/examples/model.py). Only proofs use these tables: Against.antt proves by computation that
-- the definitions give every answer in them. Nobody needs to audit them to know what is promised:
-- that is in specs/.
-- tools/examples makes this file. Assumes nothing.
use Prim.Native.Nat.{ℕ, zero, suc, ◌+◌, ◌-◌, ◌*◌, ◌/◌, ◌%◌}
use Prim.Native.String.{String}
use mathlib.Core.Bool.{Bool, true, false, ◌&&◌, not}
use mathlib.Core.List.{List, [], ◌∷◌, ◌++◌}
use lib.Dec.{ltb, eqb}
use lib.ListN.{length, take, drop, replicate}
use Rattle.std.specs.Prelude.{if◌then◌else◌}
use Rattle.helpers.specs.Answers.{Answer, refuse, accept, number, second, after}
use Rattle.paper.specs.Iso15417.{points, check, count, row}
use Rattle.paper.specs.Crate.{À, Ɓ, Ć, Parsed, symbols, parse}
use Rattle.paper.specs.Settle.{settle, inside}
use Rattle.paper.specs.Jobs.{possible, possible_row, encode, encode_with_fnc2, draw, read, spell, scan, head, pack, record_length, unpack}
use Rattle.paper.specs.Labels.{Label, ◌⇒◌}
use Rattle.paper.specs.Damage.{redrawn, verdict, flipped, flipped_verdict, exchanged, exchanged_verdict}
use Rattle.paper.proofs.Computes.{settle_computes, chars_computes, rules_computes, damage_computes}

-- ---- how the tables are written

-- the digits 0 to 9 and A to F as numbers; blanks are left out
unfoldable pub digit16 : ℕ → List ℕ
digit16 c = if eqb c 32 then [] else if ltb c 65 then (c - 48) ∷ [] else ((c - 55) ∷ [])

unfoldable pub digits16 : List ℕ → List ℕ
digits16 [] = []
digits16 (c ∷ cs) = digit16 c ++ digits16 cs

-- cells one by one
unfoldable pub cells_of : String → List ℕ
cells_of text = digits16 (points text)

-- the four cells of each digit, the first in the top bit
unfoldable pub fours : List ℕ → List ℕ
fours [] = []
fours (d ∷ ds) = (d / 8) ∷ (d / 4 % 2) ∷ (d / 2 % 2) ∷ (d % 2) ∷ fours ds

-- the row of n symbols, four cells to a digit
unfoldable pub row_of : ℕ → String → List ℕ
row_of n text = take (11 * n + 24) (fours (cells_of text))

-- an acceptance with that row
unfoldable pub accepted : ℕ → String → Answer
accepted n text = accept n (row_of n text)

-- the numbers of two digits each
unfoldable pub pairs16 : List ℕ → List ℕ
pairs16 [] = []
pairs16 (a ∷ []) = []
pairs16 (a ∷ b ∷ ds) = (16 * a + b) ∷ pairs16 ds

-- bytes, two digits each
unfoldable pub bytes_of : String → List ℕ
bytes_of text = pairs16 (cells_of text)

-- the first n blocks of eleven cells
unfoldable pub elevens : ℕ → List ℕ → List (List ℕ)
elevens zero cs = []
elevens (suc n) cs = take 11 cs ∷ elevens n (drop 11 cs)

-- some lists, one after the other
unfoldable pub joined : List (List ℕ) → List ℕ
joined [] = []
joined (xs ∷ xss) = xs ++ joined xss

-- n copies of a list, one after the other
unfoldable pub times : ℕ → List ℕ → List ℕ
times zero xs = []
times (suc n) xs = xs ++ times n xs

-- each number right after a Shift, and then once more without one
unfoldable pub shift_then_plain : List ℕ → List ℕ
shift_then_plain [] = []
shift_then_plain (m ∷ ms) = 98 ∷ m ∷ m ∷ shift_then_plain ms

-- ---- what is compared: the answers of the definitions with the answers in a table's entries

infix 15 ◌into◌gives◌
infix 15 ◌is◌checked◌sends◌
infix 15 ◌spells◌scans◌draws◌
infix 15 ◌becomes◌
infix 15 ◌at◌drawn◌gives◌
infix 15 ◌flipped_at◌gives◌
infix 15 ◌exchanging◌with◌draws◌
infix 15 ◌between◌and◌gives◌short◌
infix 15 ◌first_at◌gives◌
infix 15 ◌symbols_fit◌
infix 15 ◌cells_fit◌
infix 15 ◌checks◌
infix 15 ◌packed_after◌long◌
-- a job's input, the number of elements of the lent buffer, and the answer
pub data Example : Type 0 where
  ◌into◌gives◌ : List ℕ → ℕ → Answer → Example

unfoldable pub asked : (ℕ → List ℕ → Answer) → Example → Answer
asked job (x into room gives a) = job room x

unfoldable pub given : Example → Answer
given (x into room gives a) = a

-- an answer without the list that is written
unfoldable pub brief : Answer → Answer
brief (refuse k m) = refuse k m
brief (accept n out) = accept n []

unfoldable pub briefly : (ℕ → List ℕ → Answer) → ℕ → List ℕ → Answer
briefly job room x = brief (job room x)

-- a label, its symbols, its check, and what a scanner sends for it
pub data Published : Type 0 where
  ◌is◌checked◌sends◌ : String → List ℕ → ℕ → String → Published

unfoldable pub parsed_as : Published → Parsed × ℕ × Answer
parsed_as (x is s checked c sends b) = (parse (points x), check s, scan (length (points b)) s)

unfoldable pub printed_as : Published → Parsed × ℕ × Answer
printed_as (x is s checked c sends b) = (symbols s, c, accept (length (points b)) (points b))

-- a label with ź that the crate accepts, the place of its first ź, and document 01's answer: the
-- crate's row, or refusal 4 if that row has more than 4,000 symbols
pub data WithFNC2 : Type 0 where
  ◌first_at◌gives◌ : List ℕ → ℕ → Answer → WithFNC2

unfoldable pub answer_of : (ℕ → List ℕ → Answer) → WithFNC2 → Answer
answer_of job (x first_at i gives a) = job 44024 x

unfoldable pub of_crate : WithFNC2 → Answer
of_crate (x first_at i gives a) = a

unfoldable pub retired : WithFNC2 → Answer
retired (x first_at i gives a) = refuse 19 i

-- two texts, a place, and those code points in `tried` that are not refused 3 at that place when
-- they are put between the texts; or those that are refused 19 there
pub data Sweep : Type 0 where
  swept : String → String → ℕ → List ℕ → Sweep

unfoldable pub tried : List ℕ
tried = count 0 512 ++ (0x7FF ∷ 0x800 ∷ 0xD7FF ∷ 0xE000 ∷ 0xFFFF ∷ 0x10000 ∷ 0x10FFFF ∷ [])

unfoldable pub passes_at : ℕ → Answer → Bool
passes_at place a = not (eqb (number a) 3 && eqb (second a) place)

unfoldable pub retires_at : ℕ → Answer → Bool
retires_at place a = eqb (number a) 19 && eqb (second a) place

-- the elements that have a property
unfoldable pub those : (ℕ → Bool) → List ℕ → List ℕ
those keeps [] = []
those keeps (c ∷ cs) = (if keeps c then c ∷ [] else []) ++ those keeps cs

unfoldable pub passing : Sweep → List ℕ
passing (swept first rest place found) = those (λ c. passes_at place (encode 44024 (points first ++ (c ∷ points rest)))) tried

unfoldable pub retires : Sweep → List ℕ
retires (swept first rest place found) = those (λ c. retires_at place (encode 44024 (points first ++ (c ∷ points rest)))) tried

unfoldable pub kept : Sweep → List ℕ
kept (swept first rest place found) = found

-- a symbol list, the label that spells it, what a scanner sends for it, and its row
pub data Listed : Type 0 where
  ◌spells◌scans◌draws◌ : List ℕ → String → String → String → Listed

unfoldable pub three_jobs : Listed → List Answer
three_jobs (s spells x scans b draws r) = spell (length (points x)) s ∷ scan (length (points b)) s ∷ draw (11 * length s + 24) s ∷ []

unfoldable pub three_answers : Listed → List Answer
three_answers (s spells x scans b draws r) =
    accept (length (points x)) (points x) ∷ accept (length (points b)) (points b) ∷ accepted (length s) r ∷ []

-- a label with a Ź inside a pair and the label that it becomes when each such Ź is moved ahead of
-- its pair; or a label with no Ź inside a pair, which stays as it is
pub data Settled : Type 0 where
  ◌becomes◌ : String → String → Settled
  stays : String → Settled

unfoldable pub settles : Settled → Bool × List ℕ
settles (x becomes y) = (inside (points x), settle (points x))
settles (stays x) = (inside (points x), settle (points x))

unfoldable pub settled : Settled → Bool × List ℕ
settled (x becomes y) = (true, points y)
settled (stays x) = (false, points x)

-- a symbol list, a block of its row, the number that is drawn over it, and what read answers then:
-- `verdict` must say the same, and so must `read` of the changed row
pub data Redrawn : Type 0 where
  ◌at◌drawn◌gives◌ : List ℕ → ℕ → ℕ → Answer → Redrawn

unfoldable pub ruled : Redrawn → List Answer
ruled (s at i drawn m gives a) = verdict s i m ∷ read 4000 (redrawn i m (row s)) ∷ []

unfoldable pub twice : Redrawn → List Answer
twice (s at i drawn m gives a) = a ∷ a ∷ []

-- the same by `verdict` alone, for a long list
unfoldable pub judged : Redrawn → Answer
judged (s at i drawn m gives a) = verdict s i m

unfoldable pub judgement : Redrawn → Answer
judgement (s at i drawn m gives a) = a

-- a symbol list, the place of a cell of its row that is flipped, and what read answers then:
-- `flipped_verdict` must say the same, and so must `read` of the changed row, into 4,000 elements
-- and into none
pub data Flipped : Type 0 where
  ◌flipped_at◌gives◌ : List ℕ → ℕ → Answer → Flipped

unfoldable pub flips : Flipped → List Answer
flips (s flipped_at i gives a) = flipped_verdict s i ∷ read 4000 (flipped i (row s)) ∷ read 0 (flipped i (row s)) ∷ []

unfoldable pub thrice : Flipped → List Answer
thrice (s flipped_at i gives a) = a ∷ a ∷ a ∷ []

-- a symbol list, two of its places, and its row with these two blocks exchanged
pub data Exchange : Type 0 where
  ◌exchanging◌with◌draws◌ : List ℕ → ℕ → ℕ → List ℕ → Exchange

unfoldable pub trades : Exchange → List ℕ
trades (s exchanging i with j draws cs) = exchanged i j (row s)

unfoldable pub traded : Exchange → List ℕ
traded (s exchanging i with j draws cs) = cs

-- a symbol list, two of its data places, and what read answers to that row, into 4,000 elements and
-- into none: `exchanged_verdict` must say the first
pub data Between : Type 0 where
  ◌between◌and◌gives◌short◌ : List ℕ → ℕ → ℕ → Answer → Answer → Between

unfoldable pub exchanges : Between → List Answer
exchanges (s between i and j gives a short b) = exchanged_verdict s i j ∷ read 4000 (exchanged i j (row s)) ∷ read 0 (exchanged i j (row s)) ∷ []

unfoldable pub threefold : Between → List Answer
threefold (s between i and j gives a short b) = a ∷ a ∷ b ∷ []

-- the same by `exchanged_verdict` alone, for a long list
unfoldable pub settled_between : Between → Answer
settled_between (s between i and j gives a short b) = exchanged_verdict s i j

unfoldable pub foretold : Between → Answer
foretold (s between i and j gives a short b) = a

-- a job, its input and the buffer lent to it; then the answer number, the second number and what
-- the buffer holds after the call
pub data Buffer : Type 0 where
  calls : (ℕ → List ℕ → Answer) → List ℕ → List ℕ → ℕ → ℕ → List ℕ → Buffer

unfoldable pub gave : Answer → List ℕ → ℕ × ℕ × List ℕ
gave a buf = (number a, second a, after a buf)

unfoldable pub called : Buffer → ℕ × ℕ × List ℕ
called (calls job x buf k m out) = gave (job (length buf) x) buf

unfoldable pub left : Buffer → ℕ × ℕ × List ℕ
left (calls job x buf k m out) = (k, m, out)

-- a number of symbols, or of cells, and whether a list, or a row, may have it
pub data Size : Type 0 where
  ◌symbols_fit◌ : ℕ → Bool → Size
  ◌cells_fit◌ : ℕ → Bool → Size

unfoldable pub fits : Size → Bool
fits (n symbols_fit b) = possible n
fits (n cells_fit b) = possible_row n

unfoldable pub fitting : Size → Bool
fitting (n symbols_fit b) = b
fitting (n cells_fit b) = b

-- a symbol list and its check
pub data Checked : Type 0 where
  ◌checks◌ : List ℕ → ℕ → Checked

unfoldable pub check_in : Checked → ℕ
check_in (s checks c) = check s

unfoldable pub right_check : Checked → ℕ
right_check (s checks c) = c

-- a number of symbols, the first bytes of the record of such a row, and the record's length
pub data Headed : Type 0 where
  ◌packed_after◌long◌ : ℕ → List ℕ → ℕ → Headed

unfoldable pub headed : Headed → List ℕ × ℕ
headed (n packed_after h long k) = (head n, record_length n)

unfoldable pub begun : Headed → List ℕ × ℕ
begun (n packed_after h long k) = (h, k)

-- ---- a. document 01's labels

-- "Labels on each side of the line", those without a star except those of 255 and 256 symbols, and
-- the lines of "The label program", all as document 01 prints them.
unfoldable pub unstarred : List Example
unstarred =
    (points "Ć1À" into 44024 gives refuse 3 2) ∷ (points "Ɓ\u{7f}" into 44024 gives refuse 3 1) ∷ (65 ∷ 0xD800 ∷ [] into 44024 gives refuse 1 1) ∷
    (0x110000 ∷ [] into 44024 gives refuse 1 0) ∷ (Ɓ ∷ replicate 300 65 ++ (0x20AC ∷ []) into 44024 gives refuse 3 301) ∷ (points "À" into 34 gives refuse 5 35) ∷
    (points "À" into 35 gives accept 1 (cells_of "11010000100110110011001100011101011")) ∷
    (points "À" into 44024 gives accept 1 (cells_of "11010000100110110011001100011101011")) ∷
    (points "Ć12" into 44024 gives accept 2 (cells_of "1101001110010110011100100110011101100011101011")) ∷ ([] into 44024 gives refuse 2 0) ∷
    (points "Ć1" into 44024 gives refuse 3 2) ∷ (0xD800 ∷ [] into 44024 gives refuse 1 0) ∷ []

-- "Unpack of 1, 0: 22, 0. … Of one byte: 20, 1.", and by request 4 of document 02 "unpack of 2, 1
-- answers 22, 0".
unfoldable pub unstarred_records : List Example
unstarred_records =
    (1 ∷ 0 ∷ [] into 44024 gives refuse 22 0) ∷ (2 ∷ 1 ∷ [] into 44024 gives refuse 22 0) ∷ (1 ∷ [] into 44024 gives refuse 20 1) ∷ []

-- "Ɓ and 254 A: n = 255." and "Ć and 508 digits: n = 255.", the digits being 0 to 9 again and
-- again; and by request 4 "Ɓ and 255 A is now accepted with n = 256". The rows are put together
-- from patterns of `CHARS`, copied from the crate's source, and the crate writes the same; model.py
-- computed the checks, 81, 83 and 50.
unfoldable pub long_rows : List Example
long_rows =
    ((Ɓ ∷ replicate 254 65) into 44024 gives accept 255
    (cells_of "11010010000" ++ (times 254 (cells_of "10100011000") ++ cells_of "10010111100 1100011101011"))) ∷
    ((Ć ∷ times 50 (points "0123456789") ++ points "01234567") into 44024 gives accept 255
    (cells_of "11010011100" ++ (times 50 (cells_of "11001101100 11101101110 10111011000 10000101100 11011011110") ++
    cells_of "11001101100 11101101110 10111011000 10000101100 10111100100 1100011101011"))) ∷
    ((Ɓ ∷ replicate 255 65) into 44024 gives accept 256
    (cells_of "11010010000" ++ (times 255 (cells_of "10100011000") ++ cells_of "11000101110 1100011101011"))) ∷ []

-- Encode's refusals, their places and their order, by hand from document 01's table and "Order",
-- with the limit of request 4. The values D800..DFFF and those above 10FFFF are no Rust chars, so
-- the crate cannot be asked about refusal 1.
unfoldable pub order : List Example
order =
    (0xDFFF ∷ [] into 44024 gives refuse 1 0) ∷ (0xFFFFFFFF ∷ [] into 44024 gives refuse 1 0) ∷ (0xD7FF ∷ [] into 44024 gives refuse 3 0) ∷
    (0xE000 ∷ [] into 44024 gives refuse 3 0) ∷ (0x10FFFF ∷ [] into 44024 gives refuse 3 0) ∷ (À ∷ 0xDBFF ∷ 0xDC00 ∷ [] into 44024 gives refuse 1 1) ∷
    (65 ∷ 65 ∷ 65 ∷ 0xDABC ∷ [] into 44024 gives refuse 1 3) ∷ (Ć ∷ 49 ∷ À ∷ 0x110000 ∷ 0xD800 ∷ [] into 0 gives refuse 1 3) ∷
    (Ɓ ∷ replicate 4000 65 ++ (0xD800 ∷ []) into 44024 gives refuse 1 4001) ∷ ([] into 0 gives refuse 2 0) ∷ (0x7F ∷ [] into 0 gives refuse 2 0) ∷
    (0 ∷ [] into 44024 gives refuse 2 0) ∷ (0x80 ∷ [] into 0 gives refuse 3 0) ∷ (65 ∷ 65 ∷ [] into 0 gives refuse 3 0) ∷ (points "ÀÀ" into 0 gives refuse 3 1) ∷
    (Ɓ ∷ replicate 4000 65 ++ (0x20AC ∷ []) into 44024 gives refuse 3 4001) ∷ (Ć ∷ replicate 8000 48 into 0 gives refuse 4 4001) ∷
    (Ɓ ∷ replicate 4000 65 into 0 gives refuse 4 4001) ∷ (points "À" into 0 gives refuse 5 35) ∷ (points "Ć12" into 45 gives refuse 5 46) ∷
    (Ɓ ∷ replicate 254 65 into 2828 gives refuse 5 2829) ∷ (Ɓ ∷ replicate 255 65 into 2839 gives refuse 5 2840) ∷
    (Ć ∷ replicate 509 48 into 44024 gives refuse 3 510) ∷ (Ć ∷ replicate 510 48 into 0 gives refuse 5 2840) ∷ []

-- ---- b. published examples

-- AIM in set B with the check 45 (ISO/IEC 15417, Figure 1); AIM1234 with the check 87 (its Annex
-- A.1); and, from Wikipedia's article "Code 128", PJJ123C in set A with the check 54 and the word
-- Wikipedia in set B. No copy of these texts was at hand: the values are as we know them. An entry
-- has the label, its symbols, its check and what a scanner sends. The sums that give the checks, by
-- hand: 104+33+82+135=354, 354+396+60+204=1014, 103+48+84+126+68+90+114+245=878 and
-- 104+55+146+225+292+400+414+476+584+585=3281.
unfoldable pub published : List Published
published =
    ("ƁAIM" is (104 ∷ 33 ∷ 41 ∷ 45 ∷ []) checked 45 sends "AIM") ∷ ("ƁAIMĆ1234" is (104 ∷ 33 ∷ 41 ∷ 45 ∷ 99 ∷ 12 ∷ 34 ∷ []) checked 87 sends "AIM1234") ∷
    ("ÀPJJ123C" is (103 ∷ 48 ∷ 42 ∷ 42 ∷ 17 ∷ 18 ∷ 19 ∷ 35 ∷ []) checked 54 sends "PJJ123C") ∷
    ("ƁWikipedia" is (104 ∷ 55 ∷ 73 ∷ 75 ∷ 73 ∷ 80 ∷ 69 ∷ 68 ∷ 73 ∷ 65 ∷ []) checked 88 sends "Wikipedia") ∷ []

-- Two of their rows: that of PJJ123C from the bar patterns in the article's table, that of AIM from
-- the standard's widths 211214 111323 231311 113123 113123 2331112.
unfoldable pub published_rows : List Example
published_rows =
    (points "ÀPJJ123C" into 112
    gives accept 8 (cells_of "11010000100 11101110110 10110111000 10110111000 10011100110 11001110010 11001011100 10001000110 11101011000 1100011101011")) ∷
    (points "ƁAIM" into 68 gives accept 4 (cells_of "11010010000 10100011000 11000100010 10111011000 10111011000 1100011101011")) ∷ []

-- ---- c. the crate's answers

-- The tables under c are from the crate barcoders 2.0.0, its source unchanged: first its constants,
-- then what `Code128` answers when it is run. Rows are written in hexadecimal. Error::Length is
-- refusal 2 and Error::Character is refusal 3. The crate gives no place: the place is the length of
-- the longest prefix of the label that the crate accepts with some ending, and each prefix was
-- tried with these endings: none, À, 0, 00, Ź0, A, a. The crate cannot be asked about D800..DFFF
-- and above 10FFFF, which are no Rust chars, nor about the length of a buffer; and it has no upper
-- limit. The labels with ź that the crate accepts, and that encode refuses by request 12 of
-- document 02, stand in `with_fnc2`.

-- `CHARS`, all 1,166 cells as they stand in the crate's source
unfoldable pub crate_chars : List ℕ
crate_chars =
    take 1166 (fours (
    cells_of "D999B333498919132644C48C992322624B39372675CC9D939B3965CC9DB933A76EE99CB393764E69CCB6C6C6C6D4622C44" ++
    cells_of "6B111A231688C5188ADC58E8DD762E3476EEDA3B176E8DC5BBBAC746E2DDA3B171AEF590BC5530A192C24342C84D642C24" ++
    cells_of "D09850D219612CA1EEB0A47AA792F24F5E49E93CBD2794F25B7B7B7B6AF147A2F5E8BC5EA3D15DEBDDD7BD7684D21A70"))

-- `STOP` and then `TERM`
unfoldable pub crate_stop : List ℕ
crate_stop = cells_of "11000111010 11"

-- the widths of the bars and spaces of each pattern, counted in the crate's cells by tools/examples
unfoldable pub crate_widths : List ℕ
crate_widths =
    cells_of "212222 222122 222221 121223 121322 131222 122213 122312 132212 221213 221312 231212 112232 122132 122231 113222 123122 123221 223211 221132" ++
    cells_of "221231 213212 223112 312131 311222 321122 321221 312212 322112 322211 212123 212321 232121 111323 131123 131321 112313 132113 132311 211313" ++
    cells_of "231113 231311 112133 112331 132131 113123 113321 133121 313121 211331 231131 213113 213311 213131 311123 311321 331121 312113 312311 332111" ++
    cells_of "314111 221411 431111 111224 111422 121124 121421 141122 141221 112214 112412 122114 122411 142112 142211 241211 221114 413111 241112 134111" ++
    cells_of "111242 121142 121241 114212 124112 124211 411212 421112 421211 212141 214121 412121 111143 111341 131141 114113 114311 411113 411311 113141" ++
    cells_of "114131 311141 411131 211412 211214 211232"

-- how many cells of each pattern are bars, counted in the same way
unfoldable pub crate_bars : List ℕ
crate_bars = cells_of "6664444444446666666666686666666664444444446666668666686666668464444444444444484666666666688866666668888446"

-- every number of each set, but for the switches and FNC2
unfoldable pub every_number : List Label
every_number =
    ("À !\"#$%&'()*+,-./0123456789:;<=>?" ⇒ accepted 33 "D09B3336666931232264C898919324644C496726E4CEB993B273672CB993B72674EDDD3396726EC9CD3996D8D8DEA31D6") ∷
    ("À@ABCDEFGHIJKLMNOPQRSTUVWXYZ[\\]^_" ⇒ accepted 33 "D098DA8C45888D62234462D118A3115B8B1D1BAEC5C68EDDDB4762EDD1B8B77758E8DC5BB4762E35DEB2178AA61D7B1D6") ∷
    ("À\0\u{1}\u{2}\u{3}\u{4}\u{5}\u{6}\u{7}\u{8}\t\n\u{b}\u{c}\r\u{e}\u{f}" ⇒ accepted 17 "D094325848685909AC85849A130A1A432C25943DD6148F50D31D6") ∷
    ("À\u{10}\u{11}\u{12}\u{13}\u{14}\u{15}\u{16}\u{17}\u{18}\u{19}\u{1a}\u{1b}\u{1c}\u{1d}\u{1e}\u{1f}"
    ⇒ accepted 17 "D094F25E49EBC93D2797A4F29E4B6F6F6F6D5E28F45EBD1E931D6") ∷
    ("ÀŻŽżŹ" ⇒ accepted 5 "D0978BD175EF5D9431D6") ∷
    ("Ɓ !\"#$%&'()*+,-./0123456789:;<=>?" ⇒ accepted 33 "D21B3336666931232264C898919324644C496726E4CEB993B273672CB993B72674EDDD3396726EC9CD3996D8D8DE8B1D6") ∷
    ("Ɓ@ABCDEFGHIJKLMNOPQRSTUVWXYZ[\\]^_" ⇒ accepted 33 "D218DA8C45888D62234462D118A3115B8B1D1BAEC5C68EDDDB4762EDD1B8B77758E8DC5BB4762E35DEB2178AA61EBB1D6") ∷
    ("Ɓ`abcdefghijklmnopqrstuvwxyz{|}~÷" ⇒ accepted 33 "D214325848685909AC85849A130A1A432C25943DD6148F54F25E49EBC93D2797A4F29E4B6F6F6F6D5E28F45EBD12631D6") ∷
    ("ƁŻŽżŹ" ⇒ accepted 5 "D2178BD15EEF5D0CB1D6") ∷
    ("Ć00010203040506070809101112131415161718192021222324" ⇒ accepted 26 "D39B3336666931232264C898919324644C496726E4CEB993B273672CB993B72674EDDD337163AC") ∷
    ("Ć25262728293031323334353637383940414243444546474849" ⇒ accepted 26 "D39CB393764E69CCB6C6C6C6D4622C446B111A231688C5188ADC58E8DD762E3476EEDA3B1463AC") ∷
    ("Ć50515253545556575859606162636465666768697071727374" ⇒ accepted 26 "D398BB746E2DDDD63A3716ED1D8B8D77AC85E2A9850C96121A16426B21612684C28690CB9A63AC") ∷
    ("Ć75767778798081828384858687888990919293949596979899" ⇒ accepted 26 "D3984B287BAC291EA9E4BC93D7927A4F2F49E53C96DEDEDEDABC51E8BD7A2F17A8F4577A7663AC") ∷
    ("ĆŹ" ⇒ accepted 2 "D39EBB3663AC") ∷ []

-- every switch, to another set and to the current one, and what follows it
unfoldable pub every_switch : List Label
every_switch =
    ("ÀƁ" ⇒ accepted 2 "D097BAF763AC") ∷ ("ÀĆ" ⇒ accepted 2 "D0977AEF63AC") ∷ ("ƁÀ" ⇒ accepted 2 "D21D7BD763AC") ∷ ("ƁĆ" ⇒ accepted 2 "D2177AF763AC") ∷
    ("ĆÀ" ⇒ accepted 2 "D39D7B6663AC") ∷ ("ĆƁ" ⇒ accepted 2 "D397BBD763AC") ∷ ("ÀƁa" ⇒ accepted 3 "D097BA5874CC758") ∷ ("ÀĆ00" ⇒ accepted 3 "D0977B665DEC758") ∷
    ("ƁÀ\u{1f}" ⇒ accepted 3 "D21D7AF47A4C758") ∷ ("ƁĆ99" ⇒ accepted 3 "D2177AEF578C758") ∷ ("ĆÀ\0" ⇒ accepted 3 "D39D7A8672CC758") ∷
    ("ĆƁz" ⇒ accepted 3 "D397BB7B650C758") ∷ ("ÀƁÀƁ" ⇒ accepted 4 "D097BBAF5EEF298EB") ∷ ("ÀĆÀĆ" ⇒ accepted 4 "D0977BAF5DEBC98EB") ∷
    ("ƁĆƁĆ" ⇒ accepted 4 "D2177AF75DE93D8EB") ∷ ("ÀƁĆÀĆƁÀ" ⇒ accepted 7 "D097BAEF75EBBD7BBAF58EC758") ∷ ("ĆƁÀĆƁÀĆ" ⇒ accepted 7 "D397BBAF5DEBDDD7AEF628C758") ∷
    ("Ć12À\u{1}Ɓ~Ć34" ⇒ accepted 8 "D39673AF4B0BDD17AEF458DDD8EB") ∷ ("ÀAƁaĆ55Ɓ5À5" ⇒ accepted 10 "D09462F74B0BBDD1AF76E4EBDB93C563AC") ∷
    ("ĆŹƁŹÀŹĆŹ" ⇒ accepted 8 "D39EBAF77AEEBDEBAEF7AEDD18EB") ∷ ("ÀĆ99Ɓ99À99" ⇒ accepted 9 "D0977AEF5EEE59CB3AF72CE59B8B1D6") ∷ ("ÀÀ" ⇒ refuse 3 1) ∷
    ("ƁƁ" ⇒ refuse 3 1) ∷ ("ĆĆ" ⇒ refuse 3 1) ∷ ("ÀƁƁ" ⇒ refuse 3 2) ∷ ("ƁÀÀ" ⇒ refuse 3 2) ∷ ("ÀĆĆ" ⇒ refuse 3 2) ∷ ("ĆÀÀ" ⇒ refuse 3 2) ∷ ("ĆƁƁ" ⇒ refuse 3 2) ∷
    ("Ć12Ć34" ⇒ refuse 3 3) ∷ ("ÀAÀ" ⇒ refuse 3 2) ∷ ("ƁaƁ" ⇒ refuse 3 2) ∷ ("ƁaÀ\u{1}a" ⇒ refuse 3 4) ∷ ("ÀĆ1À" ⇒ refuse 3 3) ∷ ("ÀĆ1Ɓ" ⇒ refuse 3 3) ∷
    ("ÀĆ1Ć" ⇒ refuse 3 3) ∷ ("Ć1À" ⇒ refuse 3 2) ∷ ("Ć1Ɓ" ⇒ refuse 3 2) ∷ ("Ć1Ć" ⇒ refuse 3 2) ∷ ("Ć123À" ⇒ refuse 3 4) ∷ ("Ć123Ɓ4" ⇒ refuse 3 4) ∷
    ("ÀƁ\u{1f}" ⇒ refuse 3 2) ∷ ("ƁÀa" ⇒ refuse 3 2) ∷ ("ÀĆA" ⇒ refuse 3 2) ∷ ("ĆÀa" ⇒ refuse 3 2) ∷ ("ĆƁ\n" ⇒ refuse 3 2) ∷ []

-- Shift and the function symbols in every set, without FNC2 in sets A and B: in encode Ž shifts
-- nothing, and set C has Ź alone
unfoldable pub every_function : List Label
every_function =
    ("ÀŽ" ⇒ accepted 2 "D09E8BD163AC") ∷ ("Àż" ⇒ accepted 2 "D09D7BAF63AC") ∷ ("ÀŻ" ⇒ accepted 2 "D0978AF163AC") ∷ ("ÀŹ" ⇒ accepted 2 "D09EBBD763AC") ∷
    ("ƁŽ" ⇒ accepted 2 "D21E8AEF63AC") ∷ ("Ɓż" ⇒ accepted 2 "D217BBAF63AC") ∷ ("ƁŻ" ⇒ accepted 2 "D2178BD463AC") ∷ ("ƁŹ" ⇒ accepted 2 "D21EBB6663AC") ∷
    ("ĆŽ" ⇒ refuse 3 1) ∷ ("Ćż" ⇒ refuse 3 1) ∷ ("Ćź" ⇒ refuse 3 1) ∷ ("ĆŻ" ⇒ refuse 3 1) ∷ ("ĆŹ" ⇒ accepted 2 "D39EBB3663AC") ∷ ("ÀŽa" ⇒ refuse 3 2) ∷
    ("ÀŽ\u{1}" ⇒ accepted 3 "D09E8A58674C758") ∷ ("ƁŽ\u{1}" ⇒ refuse 3 2) ∷ ("ƁŽa" ⇒ accepted 3 "D21E8A5876EC758") ∷ ("ƁŽA" ⇒ accepted 3 "D21E8A8C78AC758") ∷
    ("ÀŽŽ" ⇒ accepted 3 "D09E8BD1792C758") ∷ ("ÀżA" ⇒ accepted 3 "D09D7A8C50CC758") ∷ ("Ɓż€" ⇒ refuse 3 2) ∷ ("ĆŹŹŹ" ⇒ accepted 4 "D39EBBD77AEBBD8EB") ∷
    ("Ć12Ž" ⇒ refuse 3 3) ∷ ("Ć1Ž2" ⇒ refuse 3 2) ∷ ("Ć1ż2" ⇒ refuse 3 2) ∷ ("Ć1ź2" ⇒ refuse 3 2) ∷ ("Ć1Ż2" ⇒ refuse 3 2) ∷ ("ĆƁŽ" ⇒ accepted 3 "D397BBD1578C758") ∷
    ("ĆÀż" ⇒ accepted 3 "D39D7BAF5DEC758") ∷ ("ÀĆŽ" ⇒ refuse 3 2) ∷ ("ƁĆż" ⇒ refuse 3 2) ∷ []

-- pairs, digits held across Ź, digits left over, and switches while a digit is held
unfoldable pub every_pair : List Label
every_pair =
    ("Ć12" ⇒ accepted 2 "D396726763AC") ∷ ("Ć1Ź2" ⇒ accepted 3 "D39EBACE72CC758") ∷ ("ĆŹ12" ⇒ accepted 3 "D39EBACE72CC758") ∷
    ("Ć1ŹŹ2" ⇒ accepted 4 "D39EBBD759C88D8EB") ∷ ("Ć1ŹŹŹ2" ⇒ accepted 5 "D39EBBD77AEB391BB1D6") ∷ ("ĆŹ1Ź2" ⇒ accepted 4 "D39EBBD759C88D8EB") ∷
    ("ĆŹŹ1Ź2" ⇒ accepted 5 "D39EBBD77AEB391BB1D6") ∷ ("Ć12Ź" ⇒ accepted 3 "D39673D759CC758") ∷ ("ĆŹ1Ź2Ź" ⇒ accepted 5 "D39EBBD759CF5DB1B1D6") ∷
    ("Ć1Ź234" ⇒ accepted 4 "D39EBACE458E998EB") ∷ ("Ć1Ź23Ź4" ⇒ accepted 5 "D39EBACE7AE8B1D1B1D6") ∷ ("Ć12Ź34" ⇒ accepted 4 "D39673D7458C498EB") ∷
    ("Ć12Ź3Ź4" ⇒ accepted 5 "D39673D77AE8B16E31D6") ∷ ("Ć1ŹŹ23ŹŹ4Ź" ⇒ accepted 8 "D39EBBD759CF5DEBA2C7AE9CD8EB") ∷ ("Ć0Ź0" ⇒ accepted 3 "D39EBB6666CC758") ∷
    ("Ć9Ź9" ⇒ accepted 3 "D39EBAEF5E2C758") ∷ ("Ć00" ⇒ accepted 2 "D39B333363AC") ∷ ("Ć99" ⇒ accepted 2 "D3977BAF63AC") ∷ ("Ć09" ⇒ accepted 2 "D399231263AC") ∷
    ("Ć90" ⇒ accepted 2 "D39BDABC63AC") ∷ ("ƁĆ1ŹŹ2" ⇒ accepted 5 "D2177BD77AEB398A31D6") ∷ ("ƁĆ1Ź2Ɓ" ⇒ accepted 5 "D2177BD759CBDD9731D6") ∷
    ("Ć1Ź2ÀA" ⇒ accepted 5 "D39EBACE75EA31DDB1D6") ∷ ("Ć1Ź2Ɓa" ⇒ accepted 5 "D39EBACE5EE9616131D6") ∷ ("Ć1234567890" ⇒ accepted 6 "D396722C716C29BDA7963AC") ∷
    ("Ć1" ⇒ refuse 3 2) ∷ ("Ć123" ⇒ refuse 3 4) ∷ ("Ć12345" ⇒ refuse 3 6) ∷ ("Ć1Ź" ⇒ refuse 3 3) ∷ ("Ć1ŹŹ" ⇒ refuse 3 4) ∷ ("Ć1Ź23" ⇒ refuse 3 5) ∷
    ("Ć12Ź3" ⇒ refuse 3 5) ∷ ("Ć12Ź3Ź" ⇒ refuse 3 6) ∷ ("Ć1ŹÀ" ⇒ refuse 3 3) ∷ ("Ć1ŹƁ2" ⇒ refuse 3 3) ∷ ("Ć1ŹĆ2" ⇒ refuse 3 3) ∷ ("Ć1ŹA" ⇒ refuse 3 3) ∷
    ("Ć1A" ⇒ refuse 3 2) ∷ ("Ć1 2" ⇒ refuse 3 2) ∷ ("ĆA1" ⇒ refuse 3 1) ∷ ("Ć-1" ⇒ refuse 3 1) ∷ ("Ć1/" ⇒ refuse 3 2) ∷ ("Ć1:" ⇒ refuse 3 2) ∷ ("Ć/" ⇒ refuse 3 1) ∷
    ("Ć:" ⇒ refuse 3 1) ∷ ("Ć12a" ⇒ refuse 3 3) ∷ ("Ć1a2" ⇒ refuse 3 2) ∷ ("Ć1Ź2a" ⇒ refuse 3 4) ∷ ("ÀĆ1" ⇒ refuse 3 3) ∷ ("ÀĆ1Ź" ⇒ refuse 3 4) ∷
    ("ƁĆ1Ź2Ź3" ⇒ refuse 3 7) ∷ []

-- digits that are not ASCII
unfoldable pub foreign_digits : List Example
foreign_digits =
    (0x106 ∷ 0x661 ∷ 0x662 ∷ [] into 44024 gives refuse 3 1) ∷ (0x106 ∷ 0x661 ∷ 0x31 ∷ 0x32 ∷ [] into 44024 gives refuse 3 1) ∷
    (0x106 ∷ 0x31 ∷ 0x661 ∷ [] into 44024 gives refuse 3 2) ∷ (0x106 ∷ 0xFF11 ∷ 0xFF12 ∷ [] into 44024 gives refuse 3 1) ∷
    (0x106 ∷ 0x31 ∷ 0xFF12 ∷ [] into 44024 gives refuse 3 2) ∷ (0x106 ∷ 0xFF11 ∷ 0x32 ∷ [] into 44024 gives refuse 3 1) ∷
    (0x106 ∷ 0x967 ∷ 0x968 ∷ [] into 44024 gives refuse 3 1) ∷ (0x106 ∷ 0xB2 ∷ 0xB3 ∷ [] into 44024 gives refuse 3 1) ∷
    (0x106 ∷ 0x31 ∷ 0xB2 ∷ [] into 44024 gives refuse 3 2) ∷ (0x106 ∷ 0x1D7CF ∷ 0x32 ∷ [] into 44024 gives refuse 3 1) ∷
    (0xC0 ∷ 0x661 ∷ [] into 44024 gives refuse 3 1) ∷ (0xC0 ∷ 0xB2 ∷ [] into 44024 gives refuse 3 1) ∷ (0x181 ∷ 0xFF11 ∷ [] into 44024 gives refuse 3 1) ∷
    (0x181 ∷ 0x2460 ∷ [] into 44024 gives refuse 3 1) ∷ (0x661 ∷ 0x31 ∷ [] into 44024 gives refuse 3 0) ∷ []

-- what a label may begin with, and Error::Length; 41 300 is A with a combining accent, not À
unfoldable pub first_points : List Example
first_points =
    ([] into 44024 gives refuse 2 0) ∷ (0x0 ∷ [] into 44024 gives refuse 2 0) ∷ (0x30 ∷ [] into 44024 gives refuse 2 0) ∷ (0x41 ∷ [] into 44024 gives refuse 2 0) ∷
    (0x7F ∷ [] into 44024 gives refuse 2 0) ∷ (0x80 ∷ [] into 44024 gives refuse 3 0) ∷ (0xC0 ∷ [] into 44024 gives accepted 1 "D09B331D6") ∷
    (0x106 ∷ [] into 44024 gives accepted 1 "D3999B1D6") ∷ (0x181 ∷ [] into 44024 gives accepted 1 "D219B31D6") ∷ (0xF7 ∷ [] into 44024 gives refuse 3 0) ∷
    (0x179 ∷ [] into 44024 gives refuse 3 0) ∷ (0x7FF ∷ [] into 44024 gives refuse 3 0) ∷ (0x800 ∷ [] into 44024 gives refuse 3 0) ∷
    (0xFFFF ∷ [] into 44024 gives refuse 3 0) ∷ (0x10000 ∷ [] into 44024 gives refuse 3 0) ∷ (0x10FFFF ∷ [] into 44024 gives refuse 3 0) ∷
    (0x41 ∷ 0x41 ∷ [] into 44024 gives refuse 3 0) ∷ (0x31 ∷ 0x32 ∷ [] into 44024 gives refuse 3 0) ∷ (0x41 ∷ 0xC0 ∷ [] into 44024 gives refuse 3 0) ∷
    (0x179 ∷ 0xC0 ∷ [] into 44024 gives refuse 3 0) ∷ (0x20 ∷ 0xC0 ∷ [] into 44024 gives refuse 3 0) ∷ (0xFEFF ∷ 0xC0 ∷ [] into 44024 gives refuse 3 0) ∷
    (0x41 ∷ 0x300 ∷ [] into 44024 gives refuse 3 0) ∷ []

-- the labels of the crate's documentation, those of b, and others of everyday use
unfoldable pub documented : List Label
documented =
    ("ƁHE1234A*1" ⇒ accepted 10 "D218A2344E6CE597327518C8939A8F63AC") ∷ ("ÀHE@$AĆ123456" ⇒ accepted 10 "D098A234636919462EF59C8B1C5A2F63AC") ∷
    ("À\u{6}" ⇒ accepted 2 "D09612C263AC") ∷ ("ÀHELLO" ⇒ accepted 6 "D098A23446E8DD1DB4463AC") ∷ ("ÀXYĆ2199" ⇒ accepted 6 "D09C5BB45DEDC977A7663AC") ∷
    ("ƁxyZÀ199!*1" ⇒ accepted 11 "D21E4B6F762EBD39B9672CCD9912734BCC758") ∷ ("ƁŹ4218402050À0" ⇒ accepted 14 "D21EBB276729CDD33274ECCE53B3724ECEBD3B28C63AC") ∷
    ("ÀB\u{6}" ⇒ accepted 3 "D09162C24D0C758") ∷ ("ÀPJJ123C" ⇒ accepted 8 "D09DDADC5B89CD9CB2E446EB18EB") ∷ ("ƁAIM" ⇒ accepted 4 "D21463115D8BB18EB") ∷
    ("ƁAIMĆ1234" ⇒ accepted 7 "D21463115D8BBD6722C794C758") ∷ ("ƁWikipedia" ⇒ accepted 10 "D21D1A1A6128694F2C84268692C3C963AC") ∷
    ("ĆŹ0012345678901234567890" ⇒ accepted 13 "D39EBB6659C8B1C5B0A6F6B391638B614DED9D31D6") ∷
    ("ĆŹ0109501101530003Ɓ" ⇒ accepted 11 "D39EBB36648C5D893366EED99262F7622C758") ∷ ("Ɓ-Rattle 0.1-" ⇒ accepted 13 "D21373174B09E93D328590D993B2674E69B9C5B1D6") ∷ []

-- one random label without ź of each length from 2 to 40
unfoldable pub randomly : List Label
randomly =
    ("ÀŻ" ⇒ accepted 2 "D0978AF163AC") ∷ ("À\u{8}\u{1a}" ⇒ accepted 3 "D0930B7B5C6C758") ∷ ("Ɓ6ż5" ⇒ accepted 4 "D219D2F76E4A798EB") ∷
    ("Ɓ$Ż3&" ⇒ accepted 5 "D21232F165C99130B1D6") ∷ ("ĆƁ<UJ'" ⇒ accepted 6 "D397BB9A6EEB713122663AC") ∷ ("ÀŻ9Ɓ#D3" ⇒ accepted 7 "D0978B965EE9316232E6C6C758") ∷
    ("Ć1Ź18Ź0Ź" ⇒ accepted 6 "D39EBB127AEA79EBB9363AC") ∷ ("ƁŻ<AÀƁOŻ^" ⇒ accepted 9 "D2178B9A518EBD7BA3B5E2F15B1B1D6") ∷
    ("À!V\u{1c}ŹG;G-\t" ⇒ accepted 10 "D099B3AC578F5DA23B26889B90D37263AC") ∷ ("ƁŽŻ,= ÷(÷ŻŻ" ⇒ accepted 11 "D21E8AF159CE65B32F4464BD178AF1776C758") ∷
    ("À^Ż\u{1b}ŽŹŻżHFƁ[" ⇒ accepted 12 "D09E2AF17B6F45EBAF175EC5118AF771A8F58EB") ∷ ("ƁĆ03ÀŻƁtż3[e^" ⇒ accepted 12 "D2177A4C75EBC57BA7A5EECB9C6AC878AC9D8EB") ∷
    ("Ć64968229Ź02À?" ⇒ accepted 9 "D39432F149EE65EBB3375ED8D1A31D6") ∷
    ("ĆƁ÷&,ŻÀ)\u{16}\u{e}\u{b}1\u{3}ƁŻ" ⇒ accepted 15 "D397BAF44C8B3978BAF648F49853094E68597BAF14C2C758") ∷
    ("À&Ż'#\u{5}%ŻŽ\u{5}\u{f}\u{2}5Ć49" ⇒ accepted 15 "D09322F14C4931642265E2F456423D486DC977B47462C758") ∷
    ("ÀŻ\u{1b}I\n70\rĆŹÀ\u{1d}:Y%ŽƁ" ⇒ accepted 17 "D0978BDB622865DBA767BABBDEBBAF51EE4DDA2267A2BDD9131D6") ∷
    ("ƁŻŹ$G\"ŻcŻxŻlŻ÷32żt" ⇒ accepted 18 "D2178BD748CD1199AF142CBC5E4AF1650BC57A32E672BDD3D27663AC") ∷
    ("Ć986Ź51Ź323ŹŹ562820" ⇒ accepted 12 "D39E8BD74B0F5D373B77AEF5DC5B9A64ED118EB") ∷
    ("Ć7Ź73Ź247590560À\u{1a}QƁŹ" ⇒ accepted 14 "D39EBBDD7AEC6D1DB8D44CEF5D7B7B68EBDDEBB0A63AC") ∷
    ("Ć1Ź6ÀŽ\u{11}>\u{3}ŻƁŹ÷ŽŻĆ1Ź7ÀŻ" ⇒ accepted 19 "D39EBA7675EF452F36C42CBC57BBD75E8F4578AEF7AE9CDD7AF168EC758") ∷
    ("Ɓ?Ź?y7Jl÷;(%\\÷zŻŹ0÷À7\u{14}" ⇒ accepted 22 "D21B1BD76C6DBDDBADC650BD1D923244CEF57A37B5E2F5D3B2F475EEDD3D2F163AC") ∷
    ("Ɓ&ŹgŻ/hÀ\u{19}\u{15}%\u{6}Ž\u{10}VŻ?*ƁŻ#>÷" ⇒ accepted 23 "D21323D74D0BC57326175EDBD3CA26584F454F3AC5E2D8D912F75E2931B62F45B8C758") ∷
    ("ÀŽ/Y-ż\u{13}OV\u{1a}ŻSUF\u{19}Ż\u{14}Ž>Ć96ƁL" ⇒ accepted 23 "D09E8AE67689B9D7AF2476EB1BDAF16E8DDD18B6F5E29E9E8B6C5DEBC57BA37462C758") ∷
    ("ƁŻ1÷jżŻ!vż7TÀ\u{7}*\u{3}UO\u{1e}#Ć4Ź5Ź" ⇒ accepted 24 "D2178A735E88657BAF166CF497BBB76E2EBD3432242CDDD1DA2F498BBDEBAEC7AEF258EB") ∷
    ("À8ŹĆ910158À\u{19}7ż\u{e}ŽĆ2Ź50Ź827À" ⇒ accepted 20 "D09D33D75DEF6D9B3B175EDBDDBBAF614F4577BD772CF5D193B275E8BD8EB") ∷
    ("ÀŻFT2*^\u{e}6\u{16}\rŻCOD\u{10}Ź\u{b}\u{13}XT\u{16}Ɓd^ÀŻ" ⇒ accepted 27 "D0978A316E2CE5913C5614CE9E93DD5E288D1DAC453CF5D84AF2716DC5E92F7426F15D7AF1674C758") ∷
    ("Ɓ}Ź÷$Źż'qHhŽS I1Ź0Ou%:VŻwul-" ⇒ accepted 28 "D2147BD75E8919EBAF74C49798A2617A2DD1B33114E6F5D3B23B4F2899C9BAC5E2F293CB284DCB1D8EB") ∷
    ("Ć11686Ź35ŹŹ26851ÀIQƁQ[tZŹŽrN÷" ⇒ accepted 23 "D39892137AEA61EBBD76E284DBA3AF622D1D7BB4771A9E9D8BD77A293D71AF445EC758") ∷
    ("Ć51987Ź9ƁŻ82`ŻcŻl~|)ż143ŽŻŽ÷'A" ⇒ accepted 27 "D39BA3D17AE8F57BAF174CCE5432F142CBC59422F578C917BA7364ECB9E8AF17A2BD13128C650C758") ∷
    ("Ć63754389Ź53849Ź5À]\u{1f}M\u{6}\u{15}żŻ88Ɓż7ż" ⇒ accepted 24 "D394C30958EDBDEBB774F4F5D7A3AF642BD1762C24F2EBD78BA674CBDD7BBB75EEBC58EB") ∷
    ("ÀQ?ŽŻ8\"\u{1f}\"żM:_\u{f})Ɓc |%ÀƁWV÷÷6fCy&)" ⇒ accepted 32 "D09A3B637A2BC5D33335E8CCDD7AEC726A611EB245EE859B32BC44CEBD7BBA3758BD17A33A58488DB7A64648BBD8EB") ∷
    ("ƁżŹfpoĆ213Ź274ÀH\u{6}Ž\u{1d}&H1(NĆ55426816" ⇒ accepted 26 "D217BBD7584A791EAEF6E4F5D8DA1975EC51613D151E9918A273464B8D77BA35B884D3B26763AC") ∷
    ("ÀZŹ\u{8}?Ɓ~cżWŻŻQgŻ÷ż%tPuŻsgŻż'Ż-TbŻ8{"
    ⇒ accepted 34 "D09D8BD74C2D8D7BA2F42CBDDD1AF15E2D1D342F15E8BDD1327A7769E578AF24D0BC57BA625E29B9B8A435E2E99EDA3B63AC") ∷
    ("À\u{6}BŹŽ\u{13}CŻEI\u{1a}\rŻ#2\"%\u{3}O^ŻĆ0893À6+ŹƁzÀWK"
    ⇒ accepted 33 "D096122C7AEF45792235E28D188B7B7BABC5263396668990B23B78ABC577A3251EEBD9D3127AEBDDBDBAF746B1D1DB1D6") ∷
    ("Ć5845783994023167Ź8Ź1604Ź45Ź9Ɓ|4<+nŻ" ⇒ accepted 24 "D39D8AEC614D1117B336C6859EBBD74BCEF5EBA377AEE357BABC64EE698930A5E2A618EB") ∷
    ("Ć1527Ź269Ź7197273ƁK}a|`)gŻYV:~ŹŹŹQx 3" ⇒ accepted 30 "D39733B27AEE4DEBBD465C9850D2F758EA3D2C2BC50CC91342F1768EB1C9A2F7AEF5DEBB47792D999726463AC") ∷
    ("ƁŻs:Ź5{ŻJ`Yn@u;Ž3YŻ/r-mKyŻ_S3ŽkTA~O/Y]"
    ⇒ accepted 38 "D2178AF2726F5DB93DB5E2B71433B4614C6D3CBB27A2CB9DA2F15CC93D373DD58EDBD78A986E8CB9E8B096E2A3117A3B5CCED190A6763AC") ∷
    ("ƁYE)`ŹAl&bVĆ1348ŹÀ\u{1b}6ŻŽŻŻ\u{18}ƁÀI\u{19}8ŹŻƁ``'Fa9"
    ⇒ accepted 37 "D21DA234648A19EBA8C65099121BAC5DE9B9DDBD775EF6D9D2F17A2BC578BC95EEEBD88B6F74CF5D78AF750CA19312314B0E598931D6") ∷
    ("ƁŻWŽ>+(}-4B1T*8À\u{c}Y\tƁÀŻ#ŻR,Ż[\u{8}\u{f}\u{1}\u{14}\u{17}Ż\u{3}@\u{14} \u{3}\n"
    ⇒ accepted 40 "D2178BA37A2DB18923251E9B993A2C4E6DC5913A675ECA1DA21A5EEEBD78A4C5E2C5D672F171A9851EA584F4F2978A166369E9B32164328D18EB") ∷ []

-- random labels with one code point changed, so that they are refused
unfoldable pub randomly_wrong : List Label
randomly_wrong =
    ("ÀŽÀ" ⇒ refuse 3 2) ∷ ("Àć\u{1b}Ć" ⇒ refuse 3 1) ∷ ("ÀćNP\"" ⇒ refuse 3 1) ∷ ("À.ƁÀwp" ⇒ refuse 3 4) ∷ ("À,\t\u{1}\u{1e}ć#" ⇒ refuse 3 5) ∷
    ("ĆÀ \u{7f}Mź\u{17}ż" ⇒ refuse 3 3) ∷ ("À=Eć]U#(Ź" ⇒ refuse 3 3) ∷ ("À-À+E\u{2}$,Ż\n" ⇒ refuse 3 2) ∷ ("ĆƁ÷żżP7W#\u{7f}Ć" ⇒ refuse 3 9) ∷
    ("ĆƁ\u{7f}Ć48413160" ⇒ refuse 3 2) ∷ ("ƁŻŽ9GnXÀ/]Ź:€" ⇒ refuse 3 12) ∷ ("ĆƁM'y=ż÷hź9Aż\u{7f}" ⇒ refuse 3 13) ∷ ("À€ź\u{16}Ź%Ɓms÷À \u{1f}ŹQ" ⇒ refuse 3 1) ∷
    ("À^\u{7f}#%F3B'Ż?ƁżŹŽż" ⇒ refuse 3 2) ∷ ("À\t ć=UŽ\u{19}[$WŽ\u{1c}Ć2Ź1" ⇒ refuse 3 3) ∷ ("ÀL\u{1}.żQ/Ż#ć$Ć315998" ⇒ refuse 3 9) ∷
    ("ÀżŹQMŹC,\"Ż-\u{16}PĆŹ:X\r0" ⇒ refuse 3 15) ∷ ("Ɓ.:af)x÷5À9]\u{13}ć828237" ⇒ refuse 3 13) ∷ ("Ć3ŹŹ082ÀŽ\u{16}[ŻORŽƁ\u{7f}8?\":" ⇒ refuse 3 16) ∷
    ("ÀÀ^<ŽŽĆŹ355Ź55Ź45Ź451Ɓ" ⇒ refuse 3 1) ∷ ("Ćć:" ⇒ refuse 3 1) ∷ ("ÀĆ\u{3}1" ⇒ refuse 3 2) ∷ ("ƁŹÀGÀ" ⇒ refuse 3 4) ∷ ("À\u{19}^ŽƁ\u{2}" ⇒ refuse 3 5) ∷
    ("ÀŹĆ\"/ż\u{13}" ⇒ refuse 3 3) ∷ ("ÀŹ\u{1b}N\0ƁćL" ⇒ refuse 3 6) ∷ ("Ć336ŹŹ85À" ⇒ refuse 3 8) ∷ ("Ɓ`mFIsm\"ÀÀ" ⇒ refuse 3 9) ∷
    ("À)BĆ58ƁZ<\u{7f}F" ⇒ refuse 3 9) ∷ ("ƁDżĆŻi÷n.ŹCD" ⇒ refuse 3 4) ∷ []

-- for each of the checks 0, 1, 64, 95, 96, 99, 101, 102 and 97, one label without ź of each START
unfoldable pub checks_on : List Label
checks_on =
    ("À " ⇒ accepted 2 "D09B336663AC") ∷ ("ƁK5+Ć" ⇒ accepted 5 "D2163B72624BBDB331D6") ∷ ("ĆÀ" ⇒ accepted 2 "D39D7B6663AC") ∷ ("À!" ⇒ accepted 2 "D099B33663AC") ∷
    ("ƁvÀ\u{1e}\u{10}<" ⇒ accepted 6 "D21E93AF45EA79CD33663AC") ∷ ("ĆŹ" ⇒ accepted 2 "D39EBB3663AC") ∷ ("ÀŻ\u{e}\u{8}\"" ⇒ accepted 5 "D0978B0A4C2CCD4331D6") ∷
    ("ƁÀ\t\u{1d}F\u{13}" ⇒ accepted 6 "D21D7A1A51E8C57928663AC") ∷ ("Ć071Ź9" ⇒ accepted 4 "D39313D765CA198EB") ∷ ("À\u{1f}" ⇒ accepted 2 "D097A2F463AC") ∷
    ("Ɓżż" ⇒ accepted 3 "D217BAF75E8C758") ∷ ("ĆÀĆ" ⇒ accepted 3 "D39D7AEF5E8C758") ∷ ("ÀŻ" ⇒ accepted 2 "D0978AF163AC") ∷ ("ƁRj" ⇒ accepted 3 "D218BA195E2C758") ∷
    ("Ć5Ź8À6" ⇒ accepted 5 "D39EBBB175ECE978B1D6") ∷ ("ÀĆ" ⇒ accepted 2 "D0977AEF63AC") ∷ ("ƁŽ" ⇒ accepted 2 "D21E8AEF63AC") ∷ ("Ć97" ⇒ accepted 2 "D39EA2EF63AC") ∷
    ("ÀŹ)ŽŹ" ⇒ accepted 5 "D09EBB247A2F5DD7B1D6") ∷ ("Ɓż" ⇒ accepted 2 "D217BBAF63AC") ∷ ("ĆƁŻ4żŻ" ⇒ accepted 6 "D397BAF164EBDD78BAF63AC") ∷
    ("À_\u{7}" ⇒ accepted 3 "D094C2687AEC758") ∷ ("ƁÀ" ⇒ accepted 2 "D21D7BD763AC") ∷ ("ĆƁ" ⇒ accepted 2 "D397BBD763AC") ∷
    ("À1\u{15}PŻ" ⇒ accepted 5 "D0939A79776BC5EA31D6") ∷ ("ƁŻ" ⇒ accepted 2 "D2178BD463AC") ∷ ("Ć7661" ⇒ accepted 3 "D39943217A8C758") ∷ []

-- The labels with ź that the crate accepts: those left out of the tables above, and others, one of
-- them with more than 4,000 symbols. Before request 12 of document 02 they were answered by the
-- crate's row, or by 4 above the limit; now they are refused 19 at their first ź, whose place was
-- looked up in the text.
unfoldable pub with_fnc2 : List WithFNC2
with_fnc2 =
    (points "ÀŻźŽżŹ" first_at 2 gives accepted 6 "D0978BD47A2EBDEBB8B63AC") ∷ (points "ƁŻźŽżŹ" first_at 2 gives accepted 6 "D2178BD47A2BDDEBB7763AC") ∷
    (points "Àź" first_at 1 gives accepted 2 "D09EA3D463AC") ∷ (points "Ɓź" first_at 1 gives accepted 2 "D21EA3D163AC") ∷
    (points "ƁźŻżŹ" first_at 1 gives accepted 5 "D21EA2F15EEF5D3431D6") ∷ (points "Ɓ$ź3&" first_at 2 gives accepted 5 "D21233D465C9910CB1D6") ∷
    (points "Àź9Ɓ#D3" first_at 1 gives accepted 7 "D09EA3965EE9316232E636C758") ∷
    (points "ƁŽŻ,= ÷(÷źŻ" first_at 9 gives accepted 11 "D21E8AF159CE65B32F4464BD1EA2F1768C758") ∷
    (points "À^ź\u{1b}ŽŹŻżHFƁ[" first_at 2 gives accepted 12 "D09E2BD47B6F45EBAF175EC5118AF771A9798EB") ∷
    (points "ƁĆ03ÀźƁtż3[e^" first_at 5 gives accepted 12 "D2177A4C75EF517BA7A5EECB9C6AC878AE998EB") ∷
    (points "À&ź'#\u{5}%źŽ\u{5}\u{f}\u{2}5Ć49" first_at 2 gives accepted 15 "D09323D44C4931642267A8F456423D486DC977B47476C758") ∷
    (points "Ć1Ź6ÀŽ\u{11}>\u{3}ŻƁŹ÷ŽźĆ1Ź7ÀŻ" first_at 14 gives accepted 19 "D39EBA7675EF452F36C42CBC57BBD75E8F45EA2EF7AE9CDD7AF178AC758") ∷
    (points "Ɓ&ŹgŻ/hÀ\u{19}\u{15}%\u{6}Ž\u{10}Vź?*Ɓź#>÷" first_at 15 gives accepted 23 "D21323D74D0BC57326175EDBD3CA26584F454F3AC7A8D8D912F77A8931B62F4650C758") ∷
    (points "ÀŽ/Y-ż\u{13}OV\u{1a}źSUF\u{19}ź\u{14}Ž>Ć96ƁL" first_at 10 gives accepted 23 "D09E8AE67689B9D7AF2476EB1BDBD46E8DDD18B6F7A89E9E8B6C5DEBC57BA37530C758") ∷
    (points "ƁŻ1÷jżź!vż7TÀ\u{7}*\u{3}UO\u{1e}#Ć4Ź5Ź" first_at 6 gives accepted 24 "D2178A735E88657BBD466CF497BBB76E2EBD3432242CDDD1DA2F498BBDEBAEC7AE8BD8EB") ∷
    (points "ÀźFT2*^\u{e}6\u{16}\rŻCOD\u{10}Ź\u{b}\u{13}XT\u{16}Ɓd^ÀŻ" first_at 1
    gives accepted 27 "D09EA2316E2CE5913C5614CE9E93DD5E288D1DAC453CF5D84AF2716DC5E92F7426F15D7AF176EC758") ∷
    (points "Ɓ}Ź÷$Źż'qHhŽS I1Ź0Ou%:Vźwul-" first_at 23 gives accepted 28 "D2147BD75E8919EBAF74C49798A2617A2DD1B33114E6F5D3B23B4F2899C9BAC7A8F293CB284DC90D8EB") ∷
    (points "Ć51987Ź9Ɓź82`Żcźl~|)ż143ŽŻŽ÷'A" first_at 9 gives accepted 27 "D39BA3D17AE8F57BBD474CCE5432F142CF519422F578C917BA7364ECB9E8AF17A2BD13128C45EC758") ∷
    (points "Ć63754389Ź53849Ź5À]\u{1f}M\u{6}\u{15}żź88Ɓż7ż" first_at 24
    gives accepted 24 "D394C30958EDBDEBB774F4F5D7A3AF642BD1762C24F2EBDEA3A674CBDD7BBB75EEC898EB") ∷
    (points "ÀQ?Žź8\"\u{1f}\"żM:_\u{f})Ɓc |%ÀƁWV÷÷6fCy&)" first_at 4
    gives accepted 32 "D09A3B637A2F51D33335E8CCDD7AEC726A611EB245EE859B32BC44CEBD7BBA3758BD17A33A58488DB7A64648D998EB") ∷
    (points "ÀZŹ\u{8}?Ɓ~cżWźŻQgź÷ż%tPuŻsgŻż'ź-TbŻ8{" first_at 10
    gives accepted 34 "D09D8BD74C2D8D7BA2F42CBDDD1BD45E2D1D343D45E8BDD1327A7769E578AF24D0BC57BA627A89B9B8A435E2E99EDBD163AC") ∷
    (points "À\u{6}BŹŽ\u{13}CźEI\u{1a}\rŻ#2\"%\u{3}O^źĆ0893À6+ŹƁzÀWK" first_at 7
    gives accepted 33 "D096122C7AEF45792237A88D188B7B7BABC5263396668990B23B78AF5177A3251EEBD9D3127AEBDDBDBAF746B1D0CB1D6") ∷
    (points "Ɓźs:Ź5{źJ`Yn@u;Ž3YŻ/r-mKyź_S3ŽkTA~O/Y]" first_at 1
    gives accepted 38 "D21EA2F2726F5DB93DB7A8B71433B4614C6D3CBB27A2CB9DA2F15CC93D373DD58EDBDEA2986E8CB9E8B096E2A3117A3B5CCED190A3B63AC") ∷
    (points "ƁYE)`ŹAl&bVĆ1348ŹÀ\u{1b}6ŻŽźź\u{18}ƁÀI\u{19}8ŹŻƁ``'Fa9" first_at 22
    gives accepted 37 "D21DA234648A19EBA8C65099121BAC5DE9B9DDBD775EF6D9D2F17A2F51EA3C95EEEBD88B6F74CF5D78AF750CA19312314B0E59B8B1D6") ∷
    (points "ƁźWŽ>+(}-4B1T*8À\u{c}Y\tƁÀŻ#źR,Ż[\u{8}\u{f}\u{1}\u{14}\u{17}ź\u{3}@\u{14} \u{3}\n" first_at 1
    gives accepted 40 "D21EA3A37A2DB18923251E9B993A2C4E6DC5913A675ECA1DA21A5EEEBD78A4C7A8C5D672F171A9851EA584F4F29EA2166369E9B32164328BD8EB") ∷
    (points "ÀźŹ" first_at 1 gives accepted 3 "D09EA3D75E8C758") ∷ (points "ĆÀźD" first_at 2 gives accepted 4 "D39D7BD4588BC58EB") ∷
    (points "ƁAźź" first_at 2 gives accepted 4 "D21463D47A89198EB") ∷ (points "ĆƁź" first_at 2 gives accepted 3 "D397BBD46F6C758") ∷
    (points "ĆÀź" first_at 2 gives accepted 3 "D39D7BD47B6C758") ∷ (points "Ć97Ɓź" first_at 4 gives accepted 4 "D39EA2F77A8C258EB") ∷
    (points "Ć97Àź" first_at 4 gives accepted 4 "D39EA3AF7A8F758EB") ∷ (points "ÀƁź" first_at 2 gives accepted 3 "D097BBD4792C758") ∷
    (points "ƁÀź" first_at 2 gives accepted 3 "D21D7BD46F6C758") ∷ (points "ÀźƁź" first_at 1 gives accepted 4 "D09EA2F77A88698EB") ∷
    (points "ƁźĆ12" first_at 1 gives accepted 4 "D21EA2EF59CEDD8EB") ∷ (points "ÀĆ12Ɓź" first_at 5 gives accepted 5 "D0977ACE5EEF51BDB1D6") ∷
    (points "Ć1Ź2Ɓź" first_at 5 gives accepted 5 "D39EBACE5EEF517A31D6") ∷ (points "ƁźĆ1Ź2" first_at 1 gives accepted 5 "D21EA2EF7AEB398DB1D6") ∷
    (points "ƁŽź" first_at 2 gives accepted 3 "D21E8BD4794C758") ∷ (points "ÀŹź" first_at 2 gives accepted 3 "D09EBBD46F6C758") ∷
    (points "Ɓ÷ź" first_at 2 gives accepted 3 "D217A3D44F4C758") ∷ (points "À\0ź" first_at 2 gives accepted 3 "D09433D46E2C758") ∷
    (points "ƁźAź" first_at 1 gives accepted 4 "D21EA28C7A8B1D8EB") ∷ (points "ÀAIMź" first_at 4 gives accepted 5 "D09463115D8F5193B1D6") ∷
    (points "ƁAIMĆ1234Ɓź" first_at 10 gives accepted 9 "D21463115D8BBD6722C5EEF519CB1D6") ∷ (points "ÀŻźĆ99" first_at 2 gives accepted 5 "D0978BD45DEBBDC5B1D6") ∷
    (Ɓ ∷ replicate 4000 65 ++ (0x17A ∷ []) first_at 4001 gives refuse 4 4002) ∷ []

-- Every code point below 512 and 7FF, 800, D7FF, E000, FFFF, 10000 and 10FFFF, put between two
-- texts: those that are not refused 3 at that place, in their order. The crate was run on all other
-- code points up to 10FFFF too, and refuses each with Error::Character. The crate accepts ź in sets
-- A and B, and encode refuses it there by 19: see `fnc2_swept`.
unfoldable pub sweeps : List Sweep
sweeps =
    (swept "" "A" 0 (points "ÀĆƁ")) ∷ (swept "À" "" 1 (count 0 96 ++ points "ĆŹźŻżŽƁ")) ∷ (swept "Ɓ" "" 1 (count 32 95 ++ points "À÷ĆŹźŻżŽ")) ∷
    (swept "Ć" "" 1 (points "0123456789ÀŹƁ")) ∷ (swept "Ć1" "" 2 (points "0123456789Ź")) ∷ (swept "ÀĆ1Ź" "2" 4 (points "0123456789Ź")) ∷ []

-- ---- d. read

-- rows that the crate wrote, read into a buffer just long enough; the symbols are the places of the
-- row's blocks in the crate's `CHARS`
unfoldable pub read_back : List Example
read_back =
    (row_of 2 "D0978AF163AC" into 2 gives accept 2 (103 ∷ 96 ∷ [])) ∷ (row_of 3 "D0930B7B5C6C758" into 3 gives accept 3 (103 ∷ 72 ∷ 90 ∷ [])) ∷
    (row_of 4 "D219D2F76E4A798EB" into 4 gives accept 4 (104 ∷ 22 ∷ 100 ∷ 21 ∷ [])) ∷
    (row_of 5 "D21233D465C9910CB1D6" into 5 gives accept 5 (104 ∷ 4 ∷ 97 ∷ 19 ∷ 6 ∷ [])) ∷
    (row_of 6 "D397BB9A6EEB713122663AC" into 6 gives accept 6 (105 ∷ 100 ∷ 28 ∷ 53 ∷ 42 ∷ 7 ∷ [])) ∷
    (row_of 7 "D09EA3965EE9316232E636C758" into 7 gives accept 7 (103 ∷ 97 ∷ 25 ∷ 100 ∷ 3 ∷ 36 ∷ 19 ∷ [])) ∷
    (row_of 9 "D2178B9A518EBD7BA3B5E2F15B1B1D6" into 9 gives accept 9 (104 ∷ 96 ∷ 28 ∷ 33 ∷ 101 ∷ 100 ∷ 47 ∷ 96 ∷ 62 ∷ [])) ∷
    (row_of 10 "D099B3AC578F5DA23B26889B90D37263AC" into 10 gives accept 10 (103 ∷ 1 ∷ 54 ∷ 92 ∷ 102 ∷ 39 ∷ 27 ∷ 39 ∷ 13 ∷ 73 ∷ [])) ∷
    (row_of 12 "D09E2BD47B6F45EBAF175EC5118AF771A9798EB" into 12 gives accept 12 (103 ∷ 62 ∷ 97 ∷ 91 ∷ 98 ∷ 102 ∷ 96 ∷ 101 ∷ 40 ∷ 38 ∷ 100 ∷ 59 ∷ [])) ∷
    (row_of 15 "D397BAF44C8B3978BAF648F49853094E68597BAF14C2C758" into 15
    gives accept 15 (105 ∷ 100 ∷ 95 ∷ 6 ∷ 12 ∷ 96 ∷ 101 ∷ 9 ∷ 86 ∷ 78 ∷ 75 ∷ 17 ∷ 67 ∷ 100 ∷ 96 ∷ [])) ∷
    (row_of 18 "D2178BD748CD1199AF142CBC5E4AF1650BC57A32E672BDD3D27663AC" into 18
    gives accept 18 (104 ∷ 96 ∷ 102 ∷ 4 ∷ 39 ∷ 2 ∷ 96 ∷ 67 ∷ 96 ∷ 88 ∷ 96 ∷ 76 ∷ 96 ∷ 95 ∷ 19 ∷ 18 ∷ 100 ∷ 84 ∷ [])) ∷
    (row_of 20 "D09D33D75DEF6D9B3B175EDBDDBBAF614F4577BD772CF5D193B275E8BD8EB" into 20
    gives accept 20 (103 ∷ 24 ∷ 102 ∷ 99 ∷ 91 ∷ 1 ∷ 58 ∷ 101 ∷ 89 ∷ 23 ∷ 101 ∷ 78 ∷ 98 ∷ 99 ∷ 102 ∷ 25 ∷ 102 ∷ 8 ∷ 27 ∷ 101 ∷ [])) ∷ []

-- Refusals 10 and 11, by hand: a row has 11(n+1)+13 cells with 1 ≤ n ≤ 4,000, and 11 gives the
-- place of the first cell neither 0 nor 1.
unfoldable pub read_lengths : List Example
read_lengths =
    ([] into 4000 gives refuse 10 0) ∷ (replicate 24 1 into 4000 gives refuse 10 24) ∷ (replicate 34 0 into 4000 gives refuse 10 34) ∷
    (replicate 36 0 into 4000 gives refuse 10 36) ∷ (replicate 47 1 into 4000 gives refuse 10 47) ∷ (replicate 2829 0 into 4000 gives refuse 12 0) ∷
    (replicate 2829 1 into 4000 gives refuse 16 0) ∷ (replicate 2830 1 into 4000 gives refuse 10 2830) ∷ (replicate 2840 1 into 4000 gives refuse 16 0) ∷
    (replicate 44025 1 into 4000 gives refuse 10 44025) ∷ (replicate 44035 1 into 4000 gives refuse 10 44035) ∷ (replicate 34 2 into 0 gives refuse 10 34) ∷
    (replicate 35 2 into 0 gives refuse 11 0) ∷ (replicate 35 255 into 4000 gives refuse 11 0) ∷ (replicate 34 0 ++ (2 ∷ []) into 4000 gives refuse 11 34) ∷
    (replicate 2828 0 ++ (3 ∷ []) into 4000 gives refuse 11 2828) ∷ (cells_of "11010000100 11011001100 110001110101" into 4000 gives refuse 10 34) ∷
    (cells_of "11010000100 11011001100 11000111010111" into 4000 gives refuse 10 36) ∷ (cells_of "11010000100 1100011101011" into 4000 gives refuse 10 24) ∷
    (cells_of "11010000100 11021001100 1100011101011" into 4000 gives refuse 11 14) ∷
    (cells_of "00000000000 11011001102 1100011101011" into 4000 gives refuse 11 21) ∷
    (cells_of "11111111111 11011001102 1100011101011" into 4000 gives refuse 11 21) ∷
    (cells_of "10100011000 11010000100 1100011101012" into 4000 gives refuse 11 34) ∷ (cells_of "11010000100 11011001100 2100011101011" into 0 gives refuse 11 22) ∷
    (cells_of "21010000100 11011301100 1100011101011" into 4000 gives refuse 11 0) ∷
    (cells_of "11010000100 10111011110 12111011110 1102011101011" into 4000 gives refuse 11 23) ∷ []

-- Refusals 12, 16 and 13, by hand: the first block from the left that is no pattern, 16 where its
-- number of bar cells is odd and else 12; or that is not a START at block 0, or that is above 102
-- after it. They come before 15, 14 and 5.
unfoldable pub read_blocks : List Example
read_blocks =
    (cells_of "11010000101 11011001100 1100011101011" into 4000 gives refuse 16 0) ∷ (cells_of "00000000000 11011001100 1100011101011" into 4000 gives refuse 12 0) ∷
    (cells_of "11111111111 11011001100 1100011101011" into 4000 gives refuse 16 0) ∷ (cells_of "11000111010 11011001100 1100011101011" into 4000 gives refuse 12 0) ∷
    (cells_of "00100001011 11011001100 1100011101011" into 4000 gives refuse 12 0) ∷ (cells_of "11010000100 11010001100 1100011101011" into 4000 gives refuse 16 1) ∷
    (cells_of "11010000100 11000111010 1100011101011" into 4000 gives refuse 12 1) ∷
    (cells_of "11010011100 11110011100 10011001110 1100011101011" into 4000 gives refuse 16 1) ∷
    (cells_of "11010011100 10110011100 00000000000 1100011101011" into 4000 gives refuse 12 2) ∷
    (cells_of "11010011100 10110011100 10011001100 1100011101011" into 4000 gives refuse 16 2) ∷
    (cells_of "11010010000 10100011000 11000100010 11111111111 10111011000 1100011101011" into 4000 gives refuse 16 3) ∷
    (cells_of "11010010000 10100011000 11000100010 10111011000 11111111111 1100011101011" into 0 gives refuse 16 4) ∷
    (cells_of "11011001100 11011001100 1100011101011" into 4000 gives refuse 13 0) ∷ (cells_of "11110101110 11011001100 1100011101011" into 4000 gives refuse 13 0) ∷
    (cells_of "10100011000 11000100010 10111011000 1100011101011" into 4000 gives refuse 13 0) ∷
    (cells_of "11010000100 11010000100 1100011101011" into 4000 gives refuse 13 1) ∷ (cells_of "11010000100 11010010000 1100011101011" into 4000 gives refuse 13 1) ∷
    (cells_of "11010011100 11010000100 10011001110 1100011101011" into 4000 gives refuse 13 1) ∷
    (cells_of "11010011100 10110011100 11010000100 1100011101011" into 4000 gives refuse 13 2) ∷
    (cells_of "11010011100 10110011100 11010011100 1100011101011" into 4000 gives refuse 13 2) ∷
    (cells_of "11010010000 10100011000 11010010000 10111011000 10111011000 1100011101011" into 4000 gives refuse 13 2) ∷
    (cells_of "11010010000 10100011000 11000100010 10111011000 11010010000 1100011101011" into 0 gives refuse 13 4) ∷
    (cells_of "00000000000 11010000100 1100011101011" into 4000 gives refuse 12 0) ∷ (cells_of "10100011000 00000000000 1100011101011" into 4000 gives refuse 13 0) ∷
    (cells_of "11010011100 00000000000 11010000100 1100011101011" into 4000 gives refuse 12 1) ∷
    (cells_of "11010011100 11010000100 00000000000 1100011101011" into 4000 gives refuse 13 1) ∷
    (cells_of "11010010000 10100011000 00000000000 11010000100 10111011000 1100011101011" into 4000 gives refuse 12 2) ∷
    (cells_of "11010010000 10100011000 11010000100 00000000000 10111011000 1100011101011" into 4000 gives refuse 13 2) ∷
    (cells_of "11010000100 11010000100 0000000000000" into 4000 gives refuse 13 1) ∷ (cells_of "11010000100 00000000000 0000000000000" into 4000 gives refuse 12 1) ∷
    (cells_of "10100011000 11011001100 0100011101011" into 4000 gives refuse 13 0) ∷ []

-- Refusal 16 and its neighbours, by hand from request 3 of document 02: a block that is no pattern
-- is answered 16 where its number of bar cells is odd. Every pattern has an even number, so one
-- cell flipped in a pattern makes 16, and two make 12 or another pattern.
unfoldable pub read_worn : List Example
read_worn =
    (cells_of "11010000100 00000000000 1100011101011" into 4000 gives refuse 12 1) ∷ (cells_of "11010000100 10000000000 1100011101011" into 4000 gives refuse 16 1) ∷
    (cells_of "11010000100 11000000000 1100011101011" into 4000 gives refuse 12 1) ∷ (cells_of "11010000100 11100000000 1100011101011" into 4000 gives refuse 16 1) ∷
    (cells_of "11010000100 11110000000 1100011101011" into 4000 gives refuse 12 1) ∷ (cells_of "11010000100 11111000000 1100011101011" into 4000 gives refuse 16 1) ∷
    (cells_of "11010000100 11111100000 1100011101011" into 4000 gives refuse 12 1) ∷ (cells_of "11010000100 11111110000 1100011101011" into 4000 gives refuse 16 1) ∷
    (cells_of "11010000100 11111111000 1100011101011" into 4000 gives refuse 12 1) ∷ (cells_of "11010000100 11111111100 1100011101011" into 4000 gives refuse 16 1) ∷
    (cells_of "11010000100 11111111110 1100011101011" into 4000 gives refuse 12 1) ∷ (cells_of "11010000100 11111111111 1100011101011" into 4000 gives refuse 16 1) ∷
    (cells_of "11010000111 11011001100 1100011101011" into 4000 gives refuse 12 0) ∷
    (cells_of "11010011100 01110011100 10011001110 1100011101011" into 4000 gives refuse 12 1) ∷
    (cells_of "11010011100 10110011100 10011001101 1100011101011" into 4000 gives refuse 12 2) ∷
    (cells_of "11010010000 11011001100 1100011101011" into 4000 gives refuse 14 1) ∷
    (cells_of "11010011100 11010011100 10011001110 1100011101011" into 4000 gives refuse 13 1) ∷
    (cells_of "00110000100 11011001100 1100011101011" into 4000 gives refuse 16 0) ∷
    (cells_of "11010011100 10110011101 00011001110 1100011101011" into 4000 gives refuse 16 1) ∷
    (cells_of "11111111111 00000000000 1100011101011" into 4000 gives refuse 16 0) ∷ (cells_of "00000000000 11111111111 1100011101011" into 4000 gives refuse 12 0) ∷
    (cells_of "11010011100 11111111111 11000111010 1100011101011" into 4000 gives refuse 16 1) ∷
    (cells_of "11010011100 11000111010 11111111111 1100011101011" into 4000 gives refuse 12 1) ∷
    (cells_of "11010010000 10100011000 11001100010 00000000000 10111011000 1100011101011" into 4000 gives refuse 16 2) ∷
    (cells_of "11010010000 10100011000 00000000000 10110011000 10111011000 1100011101011" into 4000 gives refuse 12 2) ∷
    (cells_of "11111111111 11010000100 1100011101011" into 4000 gives refuse 16 0) ∷ (cells_of "10100011000 11111111111 1100011101011" into 4000 gives refuse 13 0) ∷
    (cells_of "11010011100 10110111100 11010000100 1100011101011" into 4000 gives refuse 16 1) ∷
    (cells_of "11010011100 11010000100 10011101110 1100011101011" into 4000 gives refuse 13 1) ∷
    (cells_of "11010000100 11011001101 1100011101011" into 0 gives refuse 16 1) ∷ (cells_of "11010000100 11001101101 1100011101011" into 4000 gives refuse 16 1) ∷
    (cells_of "11010011100 10011011100 00011001110 1100011101011" into 1 gives refuse 16 2) ∷
    (cells_of "11010000100 01011001100 0000000000000" into 4000 gives refuse 16 1) ∷ (cells_of "01010000100 11001101100 0100011101011" into 0 gives refuse 16 0) ∷ []

-- Refusal 15, by hand: it gives the place in the row of the first wrong cell of the last 13.
unfoldable pub read_stops : List Example
read_stops =
    (cells_of "11010000100 11011001100 0100011101011" into 4000 gives refuse 15 22) ∷
    (cells_of "11010000100 11011001100 1000011101011" into 4000 gives refuse 15 23) ∷
    (cells_of "11010000100 11011001100 1110011101011" into 4000 gives refuse 15 24) ∷
    (cells_of "11010000100 11011001100 1101011101011" into 4000 gives refuse 15 25) ∷
    (cells_of "11010000100 11011001100 1100111101011" into 4000 gives refuse 15 26) ∷
    (cells_of "11010000100 11011001100 1100001101011" into 4000 gives refuse 15 27) ∷
    (cells_of "11010000100 11011001100 1100010101011" into 4000 gives refuse 15 28) ∷
    (cells_of "11010000100 11011001100 1100011001011" into 4000 gives refuse 15 29) ∷
    (cells_of "11010000100 11011001100 1100011111011" into 4000 gives refuse 15 30) ∷
    (cells_of "11010000100 11011001100 1100011100011" into 4000 gives refuse 15 31) ∷
    (cells_of "11010000100 11011001100 1100011101111" into 4000 gives refuse 15 32) ∷
    (cells_of "11010000100 11011001100 1100011101001" into 4000 gives refuse 15 33) ∷
    (cells_of "11010000100 11011001100 1100011101010" into 4000 gives refuse 15 34) ∷
    (cells_of "11010011100 10110011100 10011001110 0100011101011" into 4000 gives refuse 15 33) ∷
    (cells_of "11010011100 10110011100 10011001110 1100010101011" into 4000 gives refuse 15 39) ∷
    (cells_of "11010011100 10110011100 10011001110 1100011101010" into 4000 gives refuse 15 45) ∷
    (cells_of "11010000100 11011001100 0000000000000" into 4000 gives refuse 15 22) ∷
    (cells_of "11010000100 11011001100 1111111111111" into 4000 gives refuse 15 24) ∷
    (cells_of "11010000100 11011001100 1101000010011" into 4000 gives refuse 15 25) ∷
    (cells_of "11010000100 11011001100 1101011100011" into 4000 gives refuse 15 25) ∷
    (cells_of "11010000100 11011001100 1100001101010" into 4000 gives refuse 15 27) ∷
    (cells_of "11010000100 11011001100 1100011101011 00000000000" into 4000 gives refuse 12 2) ∷
    (cells_of "11010000100 11011001100 11000111010 1100011101011" into 4000 gives refuse 12 2) ∷
    (cells_of "11010000100 11001101100 1100011101010" into 4000 gives refuse 15 34) ∷
    (cells_of "11010011100 10110011100 10111001100 1000011101011" into 0 gives refuse 15 34) ∷
    (cells_of "11010010000 11011001100 1100011101001" into 4000 gives refuse 15 33) ∷ []

-- Refusal 14 with the right check number, refusal 5 with n, and rows that are accepted, by hand.
unfoldable pub read_checks : List Example
read_checks =
    (cells_of "11010000100 11001101100 1100011101011" into 4000 gives refuse 14 0) ∷ (cells_of "11010000100 11110101110 1100011101011" into 4000 gives refuse 14 0) ∷
    (cells_of "11010010000 11011001100 1100011101011" into 4000 gives refuse 14 1) ∷ (cells_of "11010011100 11011001100 1100011101011" into 4000 gives refuse 14 2) ∷
    (cells_of "11010011100 10110011100 10011011100 1100011101011" into 4000 gives refuse 14 14) ∷
    (cells_of "11010011100 10110011100 10111001100 1100011101011" into 0 gives refuse 14 14) ∷
    (cells_of "11010011100 10011011100 10011001110 1100011101011" into 4000 gives refuse 14 15) ∷
    (cells_of "11010010000 10110011100 10011001110 1100011101011" into 4000 gives refuse 14 13) ∷
    (cells_of "11010000100 10110011100 10011001110 1100011101011" into 4000 gives refuse 14 12) ∷
    (cells_of "11010011100 10111011110 10111011110 1100011101011" into 4000 gives refuse 14 101) ∷
    (cells_of "11010010000 10100011000 11000100010 10111011000 10001101110 1100011101011" into 4000 gives refuse 14 45) ∷
    (cells_of "11010010000 11000100010 10100011000 10111011000 10111011000 1100011101011" into 4000 gives refuse 14 37) ∷
    (cells_of "11010010000 10100011000 11000100010 10111011000 10111011110 10110011100 10001011000 11110100100 1100011101011" into 6 gives refuse 14 87) ∷
    (cells_of "11010011100 11110101110 10110011100 11101001100 1100011101011" into 4000 gives refuse 14 25) ∷
    (cells_of "11010000100 11011001100 1100011101011" into 0 gives refuse 5 1) ∷ (cells_of "11010000100 11011001100 1100011101011" into 1 gives accept 1 (103 ∷ [])) ∷
    (cells_of "11010010000 11001101100 1100011101011" into 1 gives accept 1 (104 ∷ [])) ∷
    (cells_of "11010011100 11001100110 1100011101011" into 1 gives accept 1 (105 ∷ [])) ∷
    (cells_of "11010000100 11011001100 1100011101011" into 4000 gives accept 1 (103 ∷ [])) ∷
    (cells_of "11010011100 10110011100 10011001110 1100011101011" into 1 gives refuse 5 2) ∷
    (cells_of "11010011100 10110011100 10011001110 1100011101011" into 2 gives accept 2 (105 ∷ 12 ∷ [])) ∷
    (cells_of "11010011100 11110101110 10110011100 11100101100 1100011101011" into 2 gives refuse 5 3) ∷
    (cells_of "11010011100 11110101110 10110011100 11100101100 1100011101011" into 3 gives accept 3 (105 ∷ 102 ∷ 12 ∷ [])) ∷
    (cells_of "11010010000 10100011000 11000100010 10111011000 10111011000 1100011101011" into 3 gives refuse 5 4) ∷
    (cells_of "11010010000 10100011000 11000100010 10111011000 10111011000 1100011101011" into 4 gives accept 4 (104 ∷ 33 ∷ 41 ∷ 45 ∷ [])) ∷
    (cells_of "11010010000 10100011000 11000100010 10111011000 10111011110 10110011100 10001011000 11110010100 1100011101011" into 7
    gives accept 7 (104 ∷ 33 ∷ 41 ∷ 45 ∷ 99 ∷ 12 ∷ 34 ∷ [])) ∷
    (cells_of "11010010000 11110100010 10111011110 1100011101011" into 2 gives accept 2 (104 ∷ 98 ∷ [])) ∷
    (cells_of "11010010000 10111101000 10111100010 1100011101011" into 2 gives accept 2 (104 ∷ 95 ∷ [])) ∷
    (cells_of "11010000100 10111011110 10110011100 11001001110 1100011101011" into 3 gives accept 3 (103 ∷ 99 ∷ 12 ∷ [])) ∷
    (cells_of "11010000100 11101110110 10110111000 10110111000 10011100110 11001110010 11001011100 10001000110 11101011000 1100011101011" into 8
    gives accept 8 (103 ∷ 48 ∷ 42 ∷ 42 ∷ 17 ∷ 18 ∷ 19 ∷ 35 ∷ [])) ∷ []

-- Two of the rows of `long_rows`, read.
unfoldable pub read_long : List Example
read_long =
    (cells_of "11010010000" ++ (times 254 (cells_of "10100011000") ++ cells_of "10010111100 1100011101011") into 255 gives accept 255 (104 ∷ replicate 254 33)) ∷
    (cells_of "11010010000" ++ (times 255 (cells_of "10100011000") ++ cells_of "11000101110 1100011101011") into 256 gives accept 256 (104 ∷ replicate 255 33)) ∷ []

-- ---- e. spell, scan and draw

-- Symbol lists, the label that spell writes and the bytes that scan sends, by hand from document 01
-- and request 1 of document 02; the row is what the crate writes for that label. Each job gets a
-- buffer just long enough.
unfoldable pub lists : List Listed
lists =
    ((103 ∷ []) spells "À" scans "" draws "D09B331D6") ∷ ((104 ∷ []) spells "Ɓ" scans "" draws "D219B31D6") ∷ ((105 ∷ []) spells "Ć" scans "" draws "D3999B1D6") ∷
    ((103 ∷ 0 ∷ []) spells "À " scans " " draws "D09B336663AC") ∷ ((103 ∷ 33 ∷ []) spells "ÀA" scans "A" draws "D094628C63AC") ∷
    ((103 ∷ 63 ∷ []) spells "À_" scans "_" draws "D094C29863AC") ∷ ((103 ∷ 64 ∷ []) spells "À\0" scans "\0" draws "D094328663AC") ∷
    ((103 ∷ 95 ∷ []) spells "À\u{1f}" scans "\u{1f}" draws "D097A2F463AC") ∷ ((103 ∷ 96 ∷ []) spells "ÀŻ" scans "" draws "D0978AF163AC") ∷
    ((103 ∷ 97 ∷ []) spells "Àź" scans "" draws "D09EA3D463AC") ∷ ((103 ∷ 98 ∷ []) spells "ÀŽ" scans "" draws "D09E8BD163AC") ∷
    ((103 ∷ 99 ∷ []) spells "ÀĆ" scans "" draws "D0977AEF63AC") ∷ ((103 ∷ 100 ∷ []) spells "ÀƁ" scans "" draws "D097BAF763AC") ∷
    ((103 ∷ 101 ∷ []) spells "Àż" scans "" draws "D09D7BAF63AC") ∷ ((103 ∷ 102 ∷ []) spells "ÀŹ" scans "" draws "D09EBBD763AC") ∷
    ((104 ∷ 0 ∷ []) spells "Ɓ " scans " " draws "D21B333663AC") ∷ ((104 ∷ 33 ∷ []) spells "ƁA" scans "A" draws "D214622C63AC") ∷
    ((104 ∷ 63 ∷ []) spells "Ɓ_" scans "_" draws "D214C28663AC") ∷ ((104 ∷ 64 ∷ []) spells "Ɓ`" scans "`" draws "D214325863AC") ∷
    ((104 ∷ 94 ∷ []) spells "Ɓ~" scans "~" draws "D2117AF463AC") ∷ ((104 ∷ 95 ∷ []) spells "Ɓ÷" scans "\u{7f}" draws "D217A2F163AC") ∷
    ((104 ∷ 96 ∷ []) spells "ƁŻ" scans "" draws "D2178BD463AC") ∷ ((104 ∷ 97 ∷ []) spells "Ɓź" scans "" draws "D21EA3D163AC") ∷
    ((104 ∷ 98 ∷ []) spells "ƁŽ" scans "" draws "D21E8AEF63AC") ∷ ((104 ∷ 99 ∷ []) spells "ƁĆ" scans "" draws "D2177AF763AC") ∷
    ((104 ∷ 100 ∷ []) spells "Ɓż" scans "" draws "D217BBAF63AC") ∷ ((104 ∷ 101 ∷ []) spells "ƁÀ" scans "" draws "D21D7BD763AC") ∷
    ((104 ∷ 102 ∷ []) spells "ƁŹ" scans "" draws "D21EBB6663AC") ∷ ((105 ∷ 0 ∷ []) spells "Ć00" scans "00" draws "D39B333363AC") ∷
    ((105 ∷ 5 ∷ []) spells "Ć05" scans "05" draws "D391326263AC") ∷ ((105 ∷ 10 ∷ []) spells "Ć10" scans "10" draws "D39912CE63AC") ∷
    ((105 ∷ 33 ∷ []) spells "Ć33" scans "33" draws "D394622363AC") ∷ ((105 ∷ 95 ∷ []) spells "Ć95" scans "95" draws "D397A3D463AC") ∷
    ((105 ∷ 96 ∷ []) spells "Ć96" scans "96" draws "D3978BD163AC") ∷ ((105 ∷ 98 ∷ []) spells "Ć98" scans "98" draws "D39E8AF763AC") ∷
    ((105 ∷ 99 ∷ []) spells "Ć99" scans "99" draws "D3977BAF63AC") ∷ ((105 ∷ 100 ∷ []) spells "ĆƁ" scans "" draws "D397BBD763AC") ∷
    ((105 ∷ 101 ∷ []) spells "ĆÀ" scans "" draws "D39D7B6663AC") ∷ ((105 ∷ 102 ∷ []) spells "ĆŹ" scans "" draws "D39EBB3663AC") ∷
    ((105 ∷ 99 ∷ 99 ∷ 99 ∷ []) spells "Ć999999" scans "999999" draws "D3977AEF5DE9798EB") ∷
    ((103 ∷ 99 ∷ 99 ∷ []) spells "ÀĆ99" scans "99" draws "D0977AEF7B6C758") ∷
    ((104 ∷ 99 ∷ 99 ∷ 100 ∷ 99 ∷ 12 ∷ []) spells "ƁĆ99ƁĆ12" scans "9912" draws "D2177AEF5EEBBD673A663AC") ∷
    ((103 ∷ 100 ∷ 65 ∷ []) spells "ÀƁa" scans "a" draws "D097BA5874CC758") ∷ ((103 ∷ 100 ∷ 100 ∷ 65 ∷ []) spells "ÀƁża" scans "a" draws "D097BAF74B0BC98EB") ∷
    ((103 ∷ 100 ∷ 101 ∷ 65 ∷ []) spells "ÀƁÀ\u{1}" scans "\u{1}" draws "D097BBAF4B09E58EB") ∷
    ((103 ∷ 101 ∷ 65 ∷ []) spells "Àż\u{1}" scans "\u{1}" draws "D09D7A5872CC758") ∷
    ((104 ∷ 101 ∷ 65 ∷ []) spells "ƁÀ\u{1}" scans "\u{1}" draws "D21D7A58726C758") ∷
    ((104 ∷ 101 ∷ 101 ∷ 65 ∷ []) spells "ƁÀż\u{1}" scans "\u{1}" draws "D21D7BAF4B0F298EB") ∷
    ((104 ∷ 101 ∷ 100 ∷ 65 ∷ []) spells "ƁÀƁa" scans "a" draws "D21D7AF74B09E58EB") ∷ ((104 ∷ 100 ∷ 65 ∷ []) spells "Ɓża" scans "a" draws "D217BA5872CC758") ∷
    ((105 ∷ 100 ∷ 65 ∷ []) spells "ĆƁa" scans "a" draws "D397BA58726C758") ∷ ((105 ∷ 101 ∷ 65 ∷ []) spells "ĆÀ\u{1}" scans "\u{1}" draws "D39D7A58764C758") ∷
    ((105 ∷ 100 ∷ 100 ∷ 12 ∷ []) spells "ĆƁż," scans "," draws "D397BAF759CE658EB") ∷
    ((105 ∷ 101 ∷ 101 ∷ 12 ∷ []) spells "ĆÀż," scans "," draws "D39D7BAF59CC6D8EB") ∷
    ((105 ∷ 100 ∷ 101 ∷ 99 ∷ 65 ∷ []) spells "ĆƁÀĆ65" scans "65" draws "D397BBAF5DE9611A31D6") ∷
    ((105 ∷ 101 ∷ 100 ∷ 99 ∷ 65 ∷ []) spells "ĆÀƁĆ65" scans "65" draws "D39D7AF75DE9616231D6") ∷
    ((103 ∷ 99 ∷ 100 ∷ 101 ∷ 95 ∷ []) spells "ÀĆƁÀ\u{1f}" scans "\u{1f}" draws "D0977AF775EBD1D1B1D6") ∷
    ((103 ∷ 99 ∷ 100 ∷ 95 ∷ []) spells "ÀĆƁ÷" scans "\u{7f}" draws "D0977AF75E8B218EB") ∷
    ((103 ∷ 98 ∷ 65 ∷ []) spells "ÀŽ\u{1}" scans "a" draws "D09E8A58674C758") ∷ ((104 ∷ 98 ∷ 65 ∷ []) spells "ƁŽa" scans "\u{1}" draws "D21E8A5876EC758") ∷
    ((103 ∷ 98 ∷ 98 ∷ 65 ∷ []) spells "ÀŽŽ\u{1}" scans "a" draws "D09E8BD14B0F758EB") ∷
    ((103 ∷ 98 ∷ 65 ∷ 65 ∷ []) spells "ÀŽ\u{1}\u{1}" scans "a\u{1}" draws "D09E8A584B0C498EB") ∷
    ((103 ∷ 98 ∷ 99 ∷ 12 ∷ []) spells "ÀŽĆ12" scans "12" draws "D09E8AEF59CEDD8EB") ∷
    ((103 ∷ 98 ∷ 99 ∷ 98 ∷ []) spells "ÀŽĆ98" scans "98" draws "D09E8AEF7A2C258EB") ∷
    ((104 ∷ 98 ∷ 100 ∷ 65 ∷ []) spells "ƁŽża" scans "a" draws "D21E8AF74B093D8EB") ∷
    ((103 ∷ 102 ∷ 33 ∷ 102 ∷ []) spells "ÀŹAŹ" scans "A" draws "D09EBA8C7AEF158EB") ∷
    ((104 ∷ 96 ∷ 65 ∷ 97 ∷ []) spells "ƁŻaź" scans "a" draws "D2178A587A89318EB") ∷ ((105 ∷ 102 ∷ 12 ∷ []) spells "ĆŹ12" scans "12" draws "D39EBACE72CC758") ∷
    ((105 ∷ 12 ∷ 102 ∷ []) spells "Ć12Ź" scans "12" draws "D39673D759CC758") ∷
    ((105 ∷ 102 ∷ 102 ∷ 12 ∷ 102 ∷ 34 ∷ []) spells "ĆŹŹ12Ź34" scans "1234" draws "D39EBBD759CF5D163D163AC") ∷
    ((105 ∷ 12 ∷ 102 ∷ 34 ∷ []) spells "Ć12Ź34" scans "1234" draws "D39673D7458C498EB") ∷
    ((104 ∷ 102 ∷ 95 ∷ 99 ∷ 102 ∷ 95 ∷ 101 ∷ 95 ∷ []) spells "ƁŹ÷ĆŹ95À\u{1f}" scans "\u{7f}95\u{1f}" draws "D21EBAF45DEF5D7A3AF5E890D8EB") ∷
    ((104 ∷ 33 ∷ 41 ∷ 45 ∷ 99 ∷ 12 ∷ 34 ∷ []) spells "ƁAIMĆ1234" scans "AIM1234" draws "D21463115D8BBD6722C794C758") ∷
    ((103 ∷ 48 ∷ 42 ∷ 42 ∷ 17 ∷ 18 ∷ 19 ∷ 35 ∷ []) spells "ÀPJJ123C" scans "PJJ123C" draws "D09DDADC5B89CD9CB2E446EB18EB") ∷
    ((105 ∷ 102 ∷ 0 ∷ 12 ∷ 34 ∷ 56 ∷ 78 ∷ 90 ∷ 12 ∷ 34 ∷ 56 ∷ 78 ∷ 100 ∷ 16 ∷ []) spells "ĆŹ00123456789012345678Ɓ0" scans "001234567890123456780"
    draws "D39EBB6659C8B1C5B0A6F6B391638B614BDD3B31163AC") ∷ []

-- "Draw, spell, scan: 10, 13, 5.", by hand; the three jobs give the same answers.
unfoldable pub bad_lists : List Example
bad_lists =
    ([] into 0 gives refuse 10 0) ∷ ([] into 44024 gives refuse 10 0) ∷ (103 ∷ replicate 4000 33 into 44024 gives refuse 10 4001) ∷
    (replicate 4001 106 into 0 gives refuse 10 4001) ∷ (replicate 5000 0 into 44024 gives refuse 10 5000) ∷ (0 ∷ [] into 44024 gives refuse 13 0) ∷
    (33 ∷ [] into 44024 gives refuse 13 0) ∷ (99 ∷ [] into 0 gives refuse 13 0) ∷ (102 ∷ [] into 44024 gives refuse 13 0) ∷
    (106 ∷ [] into 44024 gives refuse 13 0) ∷ (255 ∷ [] into 0 gives refuse 13 0) ∷ (102 ∷ 103 ∷ [] into 44024 gives refuse 13 0) ∷
    (106 ∷ 106 ∷ [] into 44024 gives refuse 13 0) ∷ (103 ∷ 103 ∷ [] into 44024 gives refuse 13 1) ∷ (103 ∷ 104 ∷ 105 ∷ [] into 44024 gives refuse 13 1) ∷
    (105 ∷ 106 ∷ [] into 0 gives refuse 13 1) ∷ (104 ∷ 255 ∷ [] into 44024 gives refuse 13 1) ∷ (104 ∷ 102 ∷ 103 ∷ [] into 44024 gives refuse 13 2) ∷
    (104 ∷ 33 ∷ 41 ∷ 105 ∷ 255 ∷ [] into 0 gives refuse 13 3) ∷ (105 ∷ 99 ∷ 98 ∷ 97 ∷ 106 ∷ [] into 44024 gives refuse 13 4) ∷
    (104 ∷ replicate 253 33 ++ (103 ∷ []) into 44024 gives refuse 13 254) ∷ (0 ∷ replicate 254 33 into 0 gives refuse 13 0) ∷
    (replicate 255 103 into 44024 gives refuse 13 1) ∷ (replicate 256 106 into 0 gives refuse 13 0) ∷ (replicate 300 0 into 44024 gives refuse 13 0) ∷
    (104 ∷ replicate 254 33 ++ (103 ∷ []) into 44024 gives refuse 13 255) ∷ (replicate 4000 103 into 44024 gives refuse 13 1) ∷ []

-- Refusal 5 of draw, by hand: a row has 11(n+1)+13 cells.
unfoldable pub draw_short : List Example
draw_short =
    (103 ∷ [] into 0 gives refuse 5 35) ∷ (103 ∷ [] into 34 gives refuse 5 35) ∷ (105 ∷ 12 ∷ [] into 45 gives refuse 5 46) ∷
    (104 ∷ 33 ∷ 41 ∷ 45 ∷ [] into 67 gives refuse 5 68) ∷ (104 ∷ replicate 254 33 into 2828 gives refuse 5 2829) ∷
    (104 ∷ replicate 255 33 into 2839 gives refuse 5 2840) ∷ []

-- Refusal 5 of spell, by hand; "At most 1 + 2·254 = 509 code points" in document 01, and "spelling
-- 7,999 code points" by request 4.
unfoldable pub spell_short : List Example
spell_short =
    (103 ∷ [] into 0 gives refuse 5 1) ∷ (105 ∷ [] into 0 gives refuse 5 1) ∷ (105 ∷ 12 ∷ [] into 2 gives refuse 5 3) ∷ (105 ∷ 102 ∷ [] into 1 gives refuse 5 2) ∷
    (104 ∷ 33 ∷ 41 ∷ 45 ∷ [] into 3 gives refuse 5 4) ∷ (103 ∷ 99 ∷ 12 ∷ [] into 3 gives refuse 5 4) ∷ (105 ∷ replicate 254 0 into 508 gives refuse 5 509) ∷
    (105 ∷ replicate 254 0 into 509 gives accept 509 (Ć ∷ replicate 508 48)) ∷ (105 ∷ replicate 255 0 into 510 gives refuse 5 511) ∷
    (105 ∷ replicate 3999 0 into 7999 gives accept 7999 (Ć ∷ replicate 7998 48)) ∷ []

-- Refusal 5 of scan, by hand, empty buffers where nothing is sent, and all that 4,000 symbols can
-- send.
unfoldable pub scan_short : List Example
scan_short =
    (103 ∷ [] into 0 gives accept 0 ([])) ∷ (103 ∷ 98 ∷ 102 ∷ [] into 0 gives accept 0 ([])) ∷ (105 ∷ 12 ∷ [] into 1 gives refuse 5 2) ∷
    (105 ∷ 12 ∷ [] into 0 gives refuse 5 2) ∷ (104 ∷ 33 ∷ 41 ∷ 45 ∷ [] into 2 gives refuse 5 3) ∷ (104 ∷ 33 ∷ 102 ∷ [] into 0 gives refuse 5 1) ∷
    (104 ∷ 33 ∷ 102 ∷ [] into 1 gives accept 1 (65 ∷ [])) ∷ (105 ∷ replicate 254 0 into 507 gives refuse 5 508) ∷
    (105 ∷ replicate 254 0 into 508 gives accept 508 (replicate 508 48)) ∷ (105 ∷ replicate 255 0 into 509 gives refuse 5 510) ∷
    (105 ∷ replicate 3999 0 into 7998 gives accept 7998 (replicate 7998 48)) ∷ []

-- Every number below 96, right after a Shift and then once more without one, in set A and in set B:
-- by hand from request 1 of document 02, the bytes from the columns of the standard's table.
unfoldable pub shift_each : List Example
shift_each =
    (103 ∷ shift_then_plain (count 0 16) into 32
    gives accept 32 (bytes_of "20 20 21 21 22 22 23 23 24 24 25 25 26 26 27 27 28 28 29 29 2A 2A 2B 2B 2C 2C 2D 2D 2E 2E 2F 2F")) ∷
    (103 ∷ shift_then_plain (count 16 16) into 32
    gives accept 32 (bytes_of "30 30 31 31 32 32 33 33 34 34 35 35 36 36 37 37 38 38 39 39 3A 3A 3B 3B 3C 3C 3D 3D 3E 3E 3F 3F")) ∷
    (103 ∷ shift_then_plain (count 32 16) into 32
    gives accept 32 (bytes_of "40 40 41 41 42 42 43 43 44 44 45 45 46 46 47 47 48 48 49 49 4A 4A 4B 4B 4C 4C 4D 4D 4E 4E 4F 4F")) ∷
    (103 ∷ shift_then_plain (count 48 16) into 32
    gives accept 32 (bytes_of "50 50 51 51 52 52 53 53 54 54 55 55 56 56 57 57 58 58 59 59 5A 5A 5B 5B 5C 5C 5D 5D 5E 5E 5F 5F")) ∷
    (103 ∷ shift_then_plain (count 64 16) into 32
    gives accept 32 (bytes_of "60 00 61 01 62 02 63 03 64 04 65 05 66 06 67 07 68 08 69 09 6A 0A 6B 0B 6C 0C 6D 0D 6E 0E 6F 0F")) ∷
    (103 ∷ shift_then_plain (count 80 16) into 32
    gives accept 32 (bytes_of "70 10 71 11 72 12 73 13 74 14 75 15 76 16 77 17 78 18 79 19 7A 1A 7B 1B 7C 1C 7D 1D 7E 1E 7F 1F")) ∷
    (104 ∷ shift_then_plain (count 0 16) into 32
    gives accept 32 (bytes_of "20 20 21 21 22 22 23 23 24 24 25 25 26 26 27 27 28 28 29 29 2A 2A 2B 2B 2C 2C 2D 2D 2E 2E 2F 2F")) ∷
    (104 ∷ shift_then_plain (count 16 16) into 32
    gives accept 32 (bytes_of "30 30 31 31 32 32 33 33 34 34 35 35 36 36 37 37 38 38 39 39 3A 3A 3B 3B 3C 3C 3D 3D 3E 3E 3F 3F")) ∷
    (104 ∷ shift_then_plain (count 32 16) into 32
    gives accept 32 (bytes_of "40 40 41 41 42 42 43 43 44 44 45 45 46 46 47 47 48 48 49 49 4A 4A 4B 4B 4C 4C 4D 4D 4E 4E 4F 4F")) ∷
    (104 ∷ shift_then_plain (count 48 16) into 32
    gives accept 32 (bytes_of "50 50 51 51 52 52 53 53 54 54 55 55 56 56 57 57 58 58 59 59 5A 5A 5B 5B 5C 5C 5D 5D 5E 5E 5F 5F")) ∷
    (104 ∷ shift_then_plain (count 64 16) into 32
    gives accept 32 (bytes_of "00 60 01 61 02 62 03 63 04 64 05 65 06 66 07 67 08 68 09 69 0A 6A 0B 6B 0C 6C 0D 6D 0E 6E 0F 6F")) ∷
    (104 ∷ shift_then_plain (count 80 16) into 32
    gives accept 32 (bytes_of "10 70 11 71 12 72 13 73 14 74 15 75 16 76 17 77 18 78 19 79 1A 7A 1B 7B 1C 7C 1D 7D 1E 7E 1F 7F")) ∷ []

-- Shift before each number from 96 to 102, two text numbers after it, in set A and in set B: by
-- hand from "Shift has no effect and that symbol keeps its meaning in the current set". A switch
-- switches, and a second Shift shifts.
unfoldable pub shift_before : List Example
shift_before =
    (103 ∷ 98 ∷ 96 ∷ 65 ∷ 65 ∷ [] into 2 gives accept 2 (bytes_of "01 01")) ∷ (103 ∷ 98 ∷ 97 ∷ 65 ∷ 65 ∷ [] into 2 gives accept 2 (bytes_of "01 01")) ∷
    (103 ∷ 98 ∷ 98 ∷ 65 ∷ 65 ∷ [] into 2 gives accept 2 (bytes_of "61 01")) ∷ (103 ∷ 98 ∷ 99 ∷ 65 ∷ 65 ∷ [] into 4 gives accept 4 (bytes_of "36 35 36 35")) ∷
    (103 ∷ 98 ∷ 100 ∷ 65 ∷ 65 ∷ [] into 2 gives accept 2 (bytes_of "61 61")) ∷ (103 ∷ 98 ∷ 101 ∷ 65 ∷ 65 ∷ [] into 2 gives accept 2 (bytes_of "01 01")) ∷
    (103 ∷ 98 ∷ 102 ∷ 65 ∷ 65 ∷ [] into 2 gives accept 2 (bytes_of "01 01")) ∷ (104 ∷ 98 ∷ 96 ∷ 65 ∷ 65 ∷ [] into 2 gives accept 2 (bytes_of "61 61")) ∷
    (104 ∷ 98 ∷ 97 ∷ 65 ∷ 65 ∷ [] into 2 gives accept 2 (bytes_of "61 61")) ∷ (104 ∷ 98 ∷ 98 ∷ 65 ∷ 65 ∷ [] into 2 gives accept 2 (bytes_of "01 61")) ∷
    (104 ∷ 98 ∷ 99 ∷ 65 ∷ 65 ∷ [] into 4 gives accept 4 (bytes_of "36 35 36 35")) ∷ (104 ∷ 98 ∷ 100 ∷ 65 ∷ 65 ∷ [] into 2 gives accept 2 (bytes_of "61 61")) ∷
    (104 ∷ 98 ∷ 101 ∷ 65 ∷ 65 ∷ [] into 2 gives accept 2 (bytes_of "01 01")) ∷ (104 ∷ 98 ∷ 102 ∷ 65 ∷ 65 ∷ [] into 2 gives accept 2 (bytes_of "61 61")) ∷ []

-- More lists with Shift, by hand from request 1 of document 02: at the end, several in a row,
-- beside the switches, 98 as a pair in set C, and short buffers. The number of bytes and the
-- refusals do not depend on Shift.
unfoldable pub shifting : List Example
shifting =
    (103 ∷ 98 ∷ [] into 0 gives accept 0 (bytes_of "")) ∷ (104 ∷ 98 ∷ [] into 0 gives accept 0 (bytes_of "")) ∷
    (103 ∷ 65 ∷ 98 ∷ [] into 1 gives accept 1 (bytes_of "01")) ∷ (104 ∷ 65 ∷ 98 ∷ [] into 1 gives accept 1 (bytes_of "61")) ∷
    (103 ∷ 98 ∷ 98 ∷ [] into 0 gives accept 0 (bytes_of "")) ∷ (104 ∷ 98 ∷ 65 ∷ 98 ∷ [] into 1 gives accept 1 (bytes_of "01")) ∷
    (103 ∷ 100 ∷ 65 ∷ 98 ∷ [] into 1 gives accept 1 (bytes_of "61")) ∷ (103 ∷ 65 ∷ 98 ∷ 65 ∷ 98 ∷ 65 ∷ 65 ∷ [] into 4 gives accept 4 (bytes_of "01 61 61 01")) ∷
    (104 ∷ 65 ∷ 98 ∷ 65 ∷ 98 ∷ 65 ∷ 65 ∷ [] into 4 gives accept 4 (bytes_of "61 01 01 61")) ∷
    (103 ∷ 98 ∷ 98 ∷ 98 ∷ 65 ∷ 65 ∷ [] into 2 gives accept 2 (bytes_of "61 01")) ∷ (104 ∷ 98 ∷ 98 ∷ 98 ∷ 65 ∷ 65 ∷ [] into 2 gives accept 2 (bytes_of "01 61")) ∷
    (103 ∷ 98 ∷ 98 ∷ 98 ∷ 98 ∷ 65 ∷ 65 ∷ [] into 2 gives accept 2 (bytes_of "61 01")) ∷
    (104 ∷ 98 ∷ 98 ∷ 98 ∷ 98 ∷ 65 ∷ 65 ∷ [] into 2 gives accept 2 (bytes_of "01 61")) ∷ (103 ∷ 98 ∷ 98 ∷ 102 ∷ 65 ∷ [] into 1 gives accept 1 (bytes_of "01")) ∷
    (104 ∷ 98 ∷ 98 ∷ 96 ∷ 65 ∷ [] into 1 gives accept 1 (bytes_of "61")) ∷ (103 ∷ 98 ∷ 98 ∷ 100 ∷ 65 ∷ [] into 1 gives accept 1 (bytes_of "61")) ∷
    (104 ∷ 98 ∷ 98 ∷ 101 ∷ 65 ∷ [] into 1 gives accept 1 (bytes_of "01")) ∷ (103 ∷ 100 ∷ 98 ∷ 65 ∷ 65 ∷ [] into 2 gives accept 2 (bytes_of "01 61")) ∷
    (104 ∷ 101 ∷ 98 ∷ 65 ∷ 65 ∷ [] into 2 gives accept 2 (bytes_of "61 01")) ∷ (103 ∷ 98 ∷ 100 ∷ 98 ∷ 65 ∷ 65 ∷ [] into 2 gives accept 2 (bytes_of "01 61")) ∷
    (104 ∷ 98 ∷ 101 ∷ 98 ∷ 65 ∷ 65 ∷ [] into 2 gives accept 2 (bytes_of "61 01")) ∷ (103 ∷ 98 ∷ 65 ∷ 100 ∷ 65 ∷ [] into 2 gives accept 2 (bytes_of "61 61")) ∷
    (104 ∷ 98 ∷ 65 ∷ 101 ∷ 65 ∷ [] into 2 gives accept 2 (bytes_of "01 01")) ∷ (103 ∷ 98 ∷ 101 ∷ 98 ∷ 65 ∷ [] into 1 gives accept 1 (bytes_of "61")) ∷
    (104 ∷ 98 ∷ 100 ∷ 98 ∷ 65 ∷ [] into 1 gives accept 1 (bytes_of "01")) ∷ (105 ∷ 98 ∷ [] into 2 gives accept 2 (bytes_of "39 38")) ∷
    (105 ∷ 98 ∷ 98 ∷ 65 ∷ [] into 6 gives accept 6 (bytes_of "39 38 39 38 36 35")) ∷ (105 ∷ 98 ∷ 100 ∷ 65 ∷ [] into 3 gives accept 3 (bytes_of "39 38 61")) ∷
    (105 ∷ 98 ∷ 101 ∷ 65 ∷ [] into 3 gives accept 3 (bytes_of "39 38 01")) ∷ (103 ∷ 98 ∷ 99 ∷ 98 ∷ [] into 2 gives accept 2 (bytes_of "39 38")) ∷
    (103 ∷ 98 ∷ 99 ∷ 98 ∷ 101 ∷ 65 ∷ [] into 3 gives accept 3 (bytes_of "39 38 01")) ∷
    (104 ∷ 98 ∷ 99 ∷ 98 ∷ 100 ∷ 65 ∷ [] into 3 gives accept 3 (bytes_of "39 38 61")) ∷ (104 ∷ 98 ∷ 99 ∷ 100 ∷ 65 ∷ [] into 1 gives accept 1 (bytes_of "61")) ∷
    (103 ∷ 98 ∷ 99 ∷ 101 ∷ 65 ∷ [] into 1 gives accept 1 (bytes_of "01")) ∷ (105 ∷ 100 ∷ 98 ∷ 65 ∷ 99 ∷ 98 ∷ [] into 3 gives accept 3 (bytes_of "01 39 38")) ∷
    (105 ∷ 101 ∷ 98 ∷ 65 ∷ 99 ∷ 98 ∷ [] into 3 gives accept 3 (bytes_of "61 39 38")) ∷
    (103 ∷ 98 ∷ 99 ∷ 98 ∷ 100 ∷ 98 ∷ 65 ∷ 65 ∷ [] into 4 gives accept 4 (bytes_of "39 38 01 61")) ∷
    (104 ∷ 98 ∷ 99 ∷ 65 ∷ 101 ∷ 98 ∷ 65 ∷ 65 ∷ [] into 4 gives accept 4 (bytes_of "36 35 61 01")) ∷ (103 ∷ 98 ∷ 65 ∷ [] into 0 gives refuse 5 1) ∷
    (104 ∷ 98 ∷ 65 ∷ [] into 0 gives refuse 5 1) ∷ (104 ∷ 98 ∷ 65 ∷ [] into 3 gives accept 1 (bytes_of "01")) ∷ (103 ∷ 98 ∷ 65 ∷ 65 ∷ [] into 1 gives refuse 5 2) ∷
    (103 ∷ 98 ∷ 98 ∷ 65 ∷ [] into 0 gives refuse 5 1) ∷ (103 ∷ 98 ∷ 99 ∷ 12 ∷ [] into 1 gives refuse 5 2) ∷ (104 ∷ 98 ∷ 100 ∷ 65 ∷ [] into 0 gives refuse 5 1) ∷
    (105 ∷ 98 ∷ [] into 1 gives refuse 5 2) ∷ (103 ∷ 98 ∷ 99 ∷ 98 ∷ 100 ∷ 98 ∷ 65 ∷ 65 ∷ [] into 3 gives refuse 5 4) ∷
    (103 ∷ 98 ∷ [] into 5 gives accept 0 (bytes_of "")) ∷ (98 ∷ [] into 0 gives refuse 13 0) ∷ (98 ∷ 65 ∷ [] into 9 gives refuse 13 0) ∷
    (103 ∷ 98 ∷ 103 ∷ [] into 0 gives refuse 13 2) ∷ (104 ∷ 98 ∷ 65 ∷ 106 ∷ [] into 9 gives refuse 13 3) ∷ []

-- ---- f. the row record

-- By hand from "Row record" and "Pack: 10, 11, 5", records of version 1. The first rows are those
-- of "The label program", written with eight cells together.
unfoldable pub packings : List Example
packings =
    (cells_of "11010000 10011011 00110011 00011101 011" into 7 gives accept 7 (bytes_of "01 01 D0 9B 33 1D 60")) ∷
    (cells_of "11010000 10011011 00110011 00011101 011" into 6 gives refuse 5 7) ∷ (cells_of "11010000 10011011 00110011 00011101 011" into 0 gives refuse 5 7) ∷
    (cells_of "11010000 10011011 00110011 00011101 011" into 44024 gives accept 7 (bytes_of "01 01 D0 9B 33 1D 60")) ∷
    (cells_of "11010011 10010110 01110010 01100111 01100011 101011" into 8 gives accept 8 (bytes_of "01 02 D3 96 72 67 63 AC")) ∷
    (cells_of "11010011 10010110 01110010 01100111 01100011 101011" into 7 gives refuse 5 8) ∷
    (replicate 35 0 into 7 gives accept 7 (bytes_of "01 01 00 00 00 00 00")) ∷ (replicate 35 1 into 7 gives accept 7 (bytes_of "01 01 FF FF FF FF E0")) ∷
    (replicate 34 0 ++ (1 ∷ []) into 7 gives accept 7 (bytes_of "01 01 00 00 00 00 20")) ∷
    (1 ∷ replicate 34 0 into 7 gives accept 7 (bytes_of "01 01 80 00 00 00 00")) ∷
    (cells_of "00000001 00000010 00000100 00001000 000" into 7 gives accept 7 (bytes_of "01 01 01 02 04 08 00")) ∷
    (cells_of "10101010 01010101 11110000 00001111 101" into 7 gives accept 7 (bytes_of "01 01 AA 55 F0 0F A0")) ∷
    (replicate 112 1 into 16 gives accept 16 (bytes_of "01 08 FF FF FF FF FF FF FF FF FF FF FF FF FF FF")) ∷ ([] into 44024 gives refuse 10 0) ∷
    (replicate 24 1 into 44024 gives refuse 10 24) ∷ (replicate 34 2 into 0 gives refuse 10 34) ∷ (replicate 36 0 into 44024 gives refuse 10 36) ∷
    (replicate 40 0 into 44024 gives refuse 10 40) ∷ (replicate 2830 0 into 44024 gives refuse 10 2830) ∷ (replicate 2839 0 into 44024 gives refuse 10 2839) ∷
    (replicate 35 2 into 0 gives refuse 11 0) ∷ (replicate 34 0 ++ (2 ∷ []) into 0 gives refuse 11 34) ∷ (replicate 46 1 into 0 gives refuse 5 8) ∷
    (cells_of "11010000 10011211 00110011 00011101 091" into 44024 gives refuse 11 13) ∷ (255 ∷ replicate 34 7 into 7 gives refuse 11 0) ∷
    (replicate 2829 0 into 355 gives refuse 5 356) ∷ (replicate 2829 1 into 356 gives accept 356 (1 ∷ 255 ∷ replicate 353 255 ++ (0xF8 ∷ []))) ∷ []

-- By hand from "Row record" and "Unpack: 20, 21, 22, 23, 5", records of version 1: each spare bit,
-- count 0, one byte too few and one too many; and the versions 0, 3, 4 and 255.
unfoldable pub unpackings : List Example
unpackings =
    (bytes_of "01 01 D0 9B 33 1D 60" into 35 gives accept 35 (cells_of "11010000100110110011001100011101011")) ∷
    (bytes_of "01 01 D0 9B 33 1D 60" into 34 gives refuse 5 35) ∷
    (bytes_of "01 02 D3 96 72 67 63 AC" into 46 gives accept 46 (cells_of "1101001110010110011100100110011101100011101011")) ∷
    (bytes_of "01 02 D3 96 72 67 63 AC" into 45 gives refuse 5 46) ∷ (bytes_of "01 01 D0 9B 33 1D 61" into 44024 gives refuse 23 6) ∷
    (bytes_of "01 01 D0 9B 33 1D 62" into 44024 gives refuse 23 6) ∷ (bytes_of "01 01 D0 9B 33 1D 64" into 44024 gives refuse 23 6) ∷
    (bytes_of "01 01 D0 9B 33 1D 68" into 44024 gives refuse 23 6) ∷ (bytes_of "01 01 D0 9B 33 1D 70" into 44024 gives refuse 23 6) ∷
    (bytes_of "01 01 D0 9B 33 1D 7F" into 44024 gives refuse 23 6) ∷ (bytes_of "01 02 D3 96 72 67 63 AD" into 44024 gives refuse 23 7) ∷
    (bytes_of "01 02 D3 96 72 67 63 AE" into 44024 gives refuse 23 7) ∷ (bytes_of "01 02 D3 96 72 67 63 AF" into 44024 gives refuse 23 7) ∷
    (bytes_of "01 01 D0 9B 33 1D 61" into 0 gives refuse 23 6) ∷
    (bytes_of "01 01 00 00 00 00 20" into 35 gives accept 35 (cells_of "00000000000000000000000000000000001")) ∷
    (bytes_of "01 01 80 00 00 00 00" into 35 gives accept 35 (cells_of "10000000000000000000000000000000000")) ∷
    (bytes_of "01 01 FF FF FF FF E0" into 35 gives accept 35 (replicate 35 1)) ∷ (bytes_of "01 01 FF FF FF FF FF" into 35 gives refuse 23 6) ∷
    (bytes_of "01 01 01 02 04 08 00" into 35 gives accept 35 (cells_of "00000001000000100000010000001000000")) ∷
    (bytes_of "01 08 FF FF FF FF FF FF FF FF FF FF FF FF FF FF" into 112 gives accept 112 (replicate 112 1)) ∷
    (bytes_of "01 08 FF FF FF FF FF FF FF FF FF FF FF FF FF FF" into 111 gives refuse 5 112) ∷
    (bytes_of "01 08 FF FF FF FF FF FF FF FF FF FF FF FF FF FF FF" into 112 gives refuse 22 16) ∷ ([] into 44024 gives refuse 20 0) ∷
    (0 ∷ [] into 0 gives refuse 20 1) ∷ (2 ∷ [] into 44024 gives refuse 20 1) ∷ (bytes_of "00 01 D0 9B 33 1D 60" into 35 gives refuse 21 0) ∷
    (bytes_of "04 01 D0 9B 33 1D 60" into 35 gives refuse 21 4) ∷ (bytes_of "FF 01 D0 9B 33 1D 60" into 0 gives refuse 21 255) ∷
    (bytes_of "03 00" into 35 gives refuse 21 3) ∷ (bytes_of "00 00" into 35 gives refuse 21 0) ∷ (bytes_of "03 01 D0 9B 33 1D 61" into 35 gives refuse 21 3) ∷
    (bytes_of "01 00 00" into 35 gives refuse 22 0) ∷ (bytes_of "01 00 00 00 00" into 35 gives refuse 22 0) ∷ (bytes_of "01 00 FF FF FF" into 0 gives refuse 22 0) ∷
    (bytes_of "01 01" into 35 gives refuse 22 7) ∷ (bytes_of "01 01 D0 9B 33 1D" into 35 gives refuse 22 7) ∷
    (bytes_of "01 01 D0 9B 33 1D 60 00" into 35 gives refuse 22 7) ∷ (bytes_of "01 01 D0 9B 33 1D 60 FF" into 0 gives refuse 22 7) ∷
    (bytes_of "01 02 D0 9B 33 1D 60" into 46 gives refuse 22 8) ∷ (bytes_of "01 01 D3 96 72 67 63 AC" into 46 gives refuse 22 7) ∷
    (bytes_of "01 01 D0 9B 33 1D" into 0 gives refuse 22 7) ∷ (bytes_of "01 03" into 0 gives refuse 22 10) ∷ (bytes_of "01 08" into 0 gives refuse 22 16) ∷
    (bytes_of "01 FE" into 44024 gives refuse 22 355) ∷ (bytes_of "01 FF" into 44024 gives refuse 22 356) ∷
    (1 ∷ 255 ∷ replicate 353 0 into 44024 gives refuse 22 356) ∷ (1 ∷ 255 ∷ replicate 355 0 into 44024 gives refuse 22 356) ∷
    (1 ∷ 255 ∷ replicate 354 0 into 2828 gives refuse 5 2829) ∷ (1 ∷ 255 ∷ replicate 353 0 ++ (4 ∷ []) into 44024 gives refuse 23 355) ∷
    (1 ∷ 255 ∷ replicate 353 255 ++ (0xF8 ∷ []) into 2829 gives accept 2829 (replicate 2829 1)) ∷ []

-- ---- g. Ź inside a pair

-- By hand from "every Ź standing between the two digits of a set C pair is moved ahead of that
-- pair" (demand 3). The crate writes the same row for both labels of an entry. Digits outside set C
-- are no pairs, and a Ź before a pair or after it stays. Labels in which a first digit has no
-- second are left out: the sentence says nothing about them, and encode refuses them.
unfoldable pub settling : List Settled
settling =
    ("Ć1Ź2" becomes "ĆŹ12") ∷ ("Ć1ŹŹ2" becomes "ĆŹŹ12") ∷ ("Ć1ŹŹŹ2" becomes "ĆŹŹŹ12") ∷ ("ĆŹ1Ź2Ź" becomes "ĆŹŹ12Ź") ∷ ("Ć12Ź3Ź4" becomes "Ć12ŹŹ34") ∷
    ("Ć1Ź23Ź4" becomes "ĆŹ12Ź34") ∷ ("Ć1ŹŹ23ŹŹŹ4" becomes "ĆŹŹ12ŹŹŹ34") ∷ ("ÀĆ1Ź2" becomes "ÀĆŹ12") ∷ ("ÀAŹĆ9Ź9ÀŹA" becomes "ÀAŹĆŹ99ÀŹA") ∷
    ("Ɓ1Ź2Ć1Ź2" becomes "Ɓ1Ź2ĆŹ12") ∷ ("Ć1Ź2Ɓ1Ź2" becomes "ĆŹ12Ɓ1Ź2") ∷ ("Ć1Ź2ÀĆ3Ź4" becomes "ĆŹ12ÀĆŹ34") ∷ ("Ć12345Ź6" becomes "Ć1234Ź56") ∷
    ("Ć0Ź00Ź0" becomes "ĆŹ00Ź00") ∷ ("ƁźĆ1Ź2" becomes "ƁźĆŹ12") ∷ (stays "") ∷ (stays "À") ∷ (stays "Ć") ∷ (stays "1Ź2") ∷ (stays "1Ź2Ć34") ∷ (stays "ĆŹ12") ∷
    (stays "Ć12") ∷ (stays "Ć12Ź") ∷ (stays "Ć12Ź34") ∷ (stays "ĆŹŹ12ŹŹ") ∷ (stays "À1Ź2") ∷ (stays "Ɓ1Ź2") ∷ (stays "ÀAŹ1Ź2") ∷ (stays "Ć12Ɓ1Ź2") ∷
    (stays "Ć12À1Ź2") ∷ (stays "ĆŹ") ∷ (stays "ƁŽ1Ź2") ∷ (stays "ĆƁ1Ź2") ∷ (stays "ÀĆŹ1234Ź") ∷ (stays "Ɓ1ź2") ∷ (stays "ƁźŹ1Ź2") ∷ []

-- ---- h. the lent buffer

-- By hand from "An accepted call fills the front of its buffer and answers 0 with a number", "Bytes
-- or numbers behind that are unchanged" and "A refusal changes no lent memory". An entry has a job,
-- its input and the buffer before the call, and then the answer number, the second number and the
-- buffer after the call.
unfoldable pub buffers : List Buffer
buffers =
    (calls encode (points "À") (replicate 37 7) 0 1 (cells_of "11010000100110110011001100011101011" ++ (7 ∷ 7 ∷ []))) ∷
    (calls encode (points "À") (replicate 35 9) 0 1 (cells_of "11010000100110110011001100011101011")) ∷
    (calls encode (points "À") (replicate 34 9) 5 35 (replicate 34 9)) ∷ (calls encode (points "Ć1") (4 ∷ 5 ∷ 6 ∷ []) 3 2 (4 ∷ 5 ∷ 6 ∷ [])) ∷
    (calls encode (points "Ɓź") (replicate 47 7) 19 1 (replicate 47 7)) ∷ (calls encode (points "Ć97Ɓź") (4 ∷ 5 ∷ 6 ∷ []) 19 4 (4 ∷ 5 ∷ 6 ∷ [])) ∷
    (calls encode (points "Ɓź") ([]) 19 1 ([])) ∷ (calls encode (points "Ɓź€") (replicate 47 7) 3 2 (replicate 47 7)) ∷
    (calls encode_with_fnc2 (points "Ɓź") (replicate 47 7) 0 2 (cells_of "1101001000011110101000111101000101100011101011" ++ (7 ∷ []))) ∷
    (calls encode_with_fnc2 (points "Ɓź") (4 ∷ 5 ∷ 6 ∷ []) 5 46 (4 ∷ 5 ∷ 6 ∷ [])) ∷
    (calls draw (104 ∷ 97 ∷ []) (replicate 47 7) 0 2 (cells_of "1101001000011110101000111101000101100011101011" ++ (7 ∷ []))) ∷
    (calls read (cells_of "1101001000011110101000111101000101100011101011") (1 ∷ 2 ∷ 3 ∷ []) 0 2 (104 ∷ 97 ∷ 3 ∷ [])) ∷
    (calls spell (104 ∷ 97 ∷ []) (8 ∷ 8 ∷ 8 ∷ []) 0 2 (Ɓ ∷ 0x17A ∷ 8 ∷ [])) ∷ (calls scan (104 ∷ 97 ∷ []) (8 ∷ 9 ∷ []) 0 0 (8 ∷ 9 ∷ [])) ∷
    (calls draw (105 ∷ 2 ∷ []) (3 ∷ []) 5 46 (3 ∷ [])) ∷ (calls read (cells_of "11010000100110110011001100011101011") (1 ∷ 2 ∷ 3 ∷ []) 0 1 (103 ∷ 2 ∷ 3 ∷ [])) ∷
    (calls read (cells_of "11010000100110110011001100011101010") (1 ∷ 2 ∷ 3 ∷ []) 15 34 (1 ∷ 2 ∷ 3 ∷ [])) ∷
    (calls read (cells_of "01010000100110110011001100011101011") (1 ∷ 2 ∷ 3 ∷ []) 16 0 (1 ∷ 2 ∷ 3 ∷ [])) ∷
    (calls read (cells_of "11010000100110110011011100011101011") (9 ∷ []) 16 1 (9 ∷ [])) ∷
    (calls read (cells_of "11010000100110110011011100011101011") ([]) 16 1 ([])) ∷
    (calls spell (105 ∷ 12 ∷ []) (8 ∷ 8 ∷ 8 ∷ 8 ∷ 8 ∷ []) 0 3 (Ć ∷ 49 ∷ 50 ∷ 8 ∷ 8 ∷ [])) ∷
    (calls scan (105 ∷ 12 ∷ []) (8 ∷ 8 ∷ 8 ∷ 8 ∷ 8 ∷ []) 0 2 (49 ∷ 50 ∷ 8 ∷ 8 ∷ 8 ∷ [])) ∷ (calls scan (103 ∷ []) (8 ∷ 9 ∷ []) 0 0 (8 ∷ 9 ∷ [])) ∷
    (calls scan (103 ∷ 106 ∷ []) (8 ∷ 9 ∷ []) 13 1 (8 ∷ 9 ∷ [])) ∷ (calls scan (103 ∷ 98 ∷ 65 ∷ []) (8 ∷ 8 ∷ 9 ∷ []) 0 1 (97 ∷ 8 ∷ 9 ∷ [])) ∷
    (calls scan (104 ∷ 98 ∷ 65 ∷ 65 ∷ []) (8 ∷ 9 ∷ []) 0 2 (1 ∷ 97 ∷ [])) ∷ (calls scan (104 ∷ 98 ∷ 65 ∷ 65 ∷ []) (8 ∷ []) 5 2 (8 ∷ [])) ∷
    (calls pack (replicate 35 1) (0 ∷ 0 ∷ 0 ∷ 0 ∷ 0 ∷ 0 ∷ 0 ∷ 77 ∷ []) 0 7 (bytes_of "01 01 FF FF FF FF E0 4D")) ∷
    (calls unpack (bytes_of "01 01 00 00 00 00 00") (replicate 36 5) 0 35 (replicate 35 0 ++ (5 ∷ []))) ∷ (calls unpack (bytes_of "01 00") (6 ∷ []) 22 0 (6 ∷ [])) ∷
    (calls pack (replicate 2840 1) (replicate 360 7) 0 358 (2 ∷ 1 ∷ 0 ∷ replicate 355 255 ++ (7 ∷ 7 ∷ []))) ∷
    (calls pack (replicate 2840 1) (replicate 357 7) 5 358 (replicate 357 7)) ∷
    (calls unpack (2 ∷ 1 ∷ 0 ∷ replicate 355 0) (replicate 2841 5) 0 2840 (replicate 2840 0 ++ (5 ∷ []))) ∷
    (calls unpack (bytes_of "02 01") (6 ∷ 6 ∷ []) 22 0 (6 ∷ 6 ∷ [])) ∷ (calls unpack (bytes_of "02 01 00") (6 ∷ 6 ∷ []) 22 358 (6 ∷ 6 ∷ [])) ∷ []

-- ---- i. one block drawn over

-- By hand: refusal 13 where the new number may not stand; an acceptance at the data places 103, 206
-- and 309, whose weight is 0 modulo 103; and otherwise refusal 14 with the check of the changed
-- list.
unfoldable pub redrawings : List Redrawn
redrawings =
    ((103 ∷ []) at 0 drawn 104 gives refuse 14 1) ∷ ((103 ∷ []) at 0 drawn 105 gives refuse 14 2) ∷ ((103 ∷ []) at 0 drawn 0 gives refuse 13 0) ∷
    ((103 ∷ []) at 0 drawn 102 gives refuse 13 0) ∷ ((103 ∷ []) at 1 drawn 1 gives refuse 14 0) ∷ ((103 ∷ []) at 1 drawn 102 gives refuse 14 0) ∷
    ((103 ∷ []) at 1 drawn 103 gives refuse 13 1) ∷ ((105 ∷ 12 ∷ []) at 0 drawn 103 gives refuse 14 12) ∷ ((105 ∷ 12 ∷ []) at 0 drawn 104 gives refuse 14 13) ∷
    ((105 ∷ 12 ∷ []) at 0 drawn 14 gives refuse 13 0) ∷ ((105 ∷ 12 ∷ []) at 1 drawn 13 gives refuse 14 15) ∷ ((105 ∷ 12 ∷ []) at 1 drawn 102 gives refuse 14 1) ∷
    ((105 ∷ 12 ∷ []) at 1 drawn 105 gives refuse 13 1) ∷ ((105 ∷ 12 ∷ []) at 2 drawn 12 gives refuse 14 14) ∷ ((105 ∷ 12 ∷ []) at 2 drawn 105 gives refuse 13 2) ∷
    ((104 ∷ 33 ∷ 41 ∷ 45 ∷ []) at 2 drawn 42 gives refuse 14 47) ∷ ((104 ∷ 33 ∷ 41 ∷ 45 ∷ []) at 3 drawn 0 gives refuse 14 13) ∷
    ((104 ∷ 33 ∷ 41 ∷ 45 ∷ []) at 4 drawn 104 gives refuse 13 4) ∷ ((104 ∷ replicate 103 1) at 103 drawn 65 gives accept 104 (104 ∷ replicate 102 1 ++ (65 ∷ []))) ∷
    ((104 ∷ replicate 102 1) at 103 drawn 65 gives refuse 14 1) ∷ ((104 ∷ replicate 206 1) at 206 drawn 0 gives accept 207 (104 ∷ replicate 205 1 ++ (0 ∷ []))) ∷
    ((104 ∷ replicate 309 1) at 309 drawn 65 gives accept 310 (104 ∷ replicate 308 1 ++ (65 ∷ []))) ∷ []

-- ---- j. one cell flipped

-- By hand from request 3 of document 02: refusal 16 with the block of the flipped cell, or 15 with
-- its place in the stop, whatever the length of the buffer. First every cell of one row; then cells
-- in the START, in data, in the check and in the stop of others.
unfoldable pub flippings : List Flipped
flippings =
    ((103 ∷ []) flipped_at 0 gives refuse 16 0) ∷ ((103 ∷ []) flipped_at 1 gives refuse 16 0) ∷ ((103 ∷ []) flipped_at 2 gives refuse 16 0) ∷
    ((103 ∷ []) flipped_at 3 gives refuse 16 0) ∷ ((103 ∷ []) flipped_at 4 gives refuse 16 0) ∷ ((103 ∷ []) flipped_at 5 gives refuse 16 0) ∷
    ((103 ∷ []) flipped_at 6 gives refuse 16 0) ∷ ((103 ∷ []) flipped_at 7 gives refuse 16 0) ∷ ((103 ∷ []) flipped_at 8 gives refuse 16 0) ∷
    ((103 ∷ []) flipped_at 9 gives refuse 16 0) ∷ ((103 ∷ []) flipped_at 10 gives refuse 16 0) ∷ ((103 ∷ []) flipped_at 11 gives refuse 16 1) ∷
    ((103 ∷ []) flipped_at 12 gives refuse 16 1) ∷ ((103 ∷ []) flipped_at 13 gives refuse 16 1) ∷ ((103 ∷ []) flipped_at 14 gives refuse 16 1) ∷
    ((103 ∷ []) flipped_at 15 gives refuse 16 1) ∷ ((103 ∷ []) flipped_at 16 gives refuse 16 1) ∷ ((103 ∷ []) flipped_at 17 gives refuse 16 1) ∷
    ((103 ∷ []) flipped_at 18 gives refuse 16 1) ∷ ((103 ∷ []) flipped_at 19 gives refuse 16 1) ∷ ((103 ∷ []) flipped_at 20 gives refuse 16 1) ∷
    ((103 ∷ []) flipped_at 21 gives refuse 16 1) ∷ ((103 ∷ []) flipped_at 22 gives refuse 15 22) ∷ ((103 ∷ []) flipped_at 23 gives refuse 15 23) ∷
    ((103 ∷ []) flipped_at 24 gives refuse 15 24) ∷ ((103 ∷ []) flipped_at 25 gives refuse 15 25) ∷ ((103 ∷ []) flipped_at 26 gives refuse 15 26) ∷
    ((103 ∷ []) flipped_at 27 gives refuse 15 27) ∷ ((103 ∷ []) flipped_at 28 gives refuse 15 28) ∷ ((103 ∷ []) flipped_at 29 gives refuse 15 29) ∷
    ((103 ∷ []) flipped_at 30 gives refuse 15 30) ∷ ((103 ∷ []) flipped_at 31 gives refuse 15 31) ∷ ((103 ∷ []) flipped_at 32 gives refuse 15 32) ∷
    ((103 ∷ []) flipped_at 33 gives refuse 15 33) ∷ ((103 ∷ []) flipped_at 34 gives refuse 15 34) ∷ ((105 ∷ 12 ∷ []) flipped_at 0 gives refuse 16 0) ∷
    ((105 ∷ 12 ∷ []) flipped_at 10 gives refuse 16 0) ∷ ((105 ∷ 12 ∷ []) flipped_at 11 gives refuse 16 1) ∷ ((105 ∷ 12 ∷ []) flipped_at 21 gives refuse 16 1) ∷
    ((105 ∷ 12 ∷ []) flipped_at 22 gives refuse 16 2) ∷ ((105 ∷ 12 ∷ []) flipped_at 32 gives refuse 16 2) ∷
    ((104 ∷ 33 ∷ 41 ∷ 45 ∷ []) flipped_at 5 gives refuse 16 0) ∷ ((104 ∷ 33 ∷ 41 ∷ 45 ∷ []) flipped_at 12 gives refuse 16 1) ∷
    ((104 ∷ 33 ∷ 41 ∷ 45 ∷ []) flipped_at 27 gives refuse 16 2) ∷ ((104 ∷ 33 ∷ 41 ∷ 45 ∷ []) flipped_at 43 gives refuse 16 3) ∷
    ((104 ∷ 33 ∷ 41 ∷ 45 ∷ []) flipped_at 44 gives refuse 16 4) ∷ ((104 ∷ 33 ∷ 41 ∷ 45 ∷ []) flipped_at 54 gives refuse 16 4) ∷
    ((105 ∷ 12 ∷ []) flipped_at 33 gives refuse 15 33) ∷ ((105 ∷ 12 ∷ []) flipped_at 45 gives refuse 15 45) ∷
    ((104 ∷ 33 ∷ 41 ∷ 45 ∷ []) flipped_at 55 gives refuse 15 55) ∷ ((104 ∷ 33 ∷ 41 ∷ 45 ∷ []) flipped_at 61 gives refuse 15 61) ∷
    ((104 ∷ 33 ∷ 41 ∷ 45 ∷ []) flipped_at 67 gives refuse 15 67) ∷ []

-- ---- k. FNC2 retired

-- Refusal 19 and its place in the order, by hand from request 12 of document 02: "19 at the first ź
-- (its place), after 3 and before 4; in set C ź is still 3".
unfoldable pub fnc2_refused : List Example
fnc2_refused =
    (points "Ɓź" into 0 gives refuse 19 1) ∷ (points "Ɓź" into 34 gives refuse 19 1) ∷ (points "Ɓź" into 35 gives refuse 19 1) ∷
    (points "Ɓź" into 45 gives refuse 19 1) ∷ (points "Ɓź" into 46 gives refuse 19 1) ∷ (points "Ɓź" into 44024 gives refuse 19 1) ∷
    (points "Àź" into 44024 gives refuse 19 1) ∷ (points "ƁAźź" into 44024 gives refuse 19 2) ∷ (points "ÀźźźA" into 44024 gives refuse 19 1) ∷
    (points "ĆƁź" into 44024 gives refuse 19 2) ∷ (points "ĆÀź" into 44024 gives refuse 19 2) ∷ (points "Ć97Ɓź" into 44024 gives refuse 19 4) ∷
    (points "ÀĆ9797Ɓź" into 44024 gives refuse 19 7) ∷ (points "Ć1Ź2Àź" into 44024 gives refuse 19 5) ∷ (points "ƁźĆ12" into 44024 gives refuse 19 1) ∷
    (points "ÀƁź" into 44024 gives refuse 19 2) ∷ (points "ƁÀź" into 44024 gives refuse 19 2) ∷ (points "ÀźƁź" into 44024 gives refuse 19 1) ∷
    (points "ƁŽź" into 44024 gives refuse 19 2) ∷ (points "Ɓ÷÷ź" into 44024 gives refuse 19 3) ∷ (points "ƁŹŻŽżź" into 44024 gives refuse 19 5) ∷
    (points "ƁźĆ12Ź" into 44024 gives refuse 19 1) ∷ (Ɓ ∷ 0x17A ∷ 0xD800 ∷ [] into 44024 gives refuse 1 2) ∷
    (Ɓ ∷ 0x17A ∷ 0x110000 ∷ 0x17A ∷ [] into 0 gives refuse 1 2) ∷ (0x17A ∷ 0xDFFF ∷ [] into 44024 gives refuse 1 1) ∷
    (Ɓ ∷ 0x17A ∷ replicate 300 65 ++ (0xD800 ∷ []) into 44024 gives refuse 1 302) ∷ (points "ź" into 44024 gives refuse 3 0) ∷
    (points "źƁ" into 44024 gives refuse 3 0) ∷ (points "Ćź" into 44024 gives refuse 3 1) ∷ (points "Ć12ź" into 44024 gives refuse 3 3) ∷
    (points "ƁĆź" into 44024 gives refuse 3 2) ∷ (points "ÀĆ97ź" into 44024 gives refuse 3 4) ∷ (points "ƁźĆź" into 44024 gives refuse 3 3) ∷
    (points "Ɓź€" into 44024 gives refuse 3 2) ∷ (points "Ɓ€ź" into 44024 gives refuse 3 1) ∷ (points "Àźa" into 44024 gives refuse 3 2) ∷
    (points "ƁźƁ" into 44024 gives refuse 3 2) ∷ (points "ÀźÀ" into 44024 gives refuse 3 2) ∷ (points "Ć1ź" into 44024 gives refuse 3 2) ∷
    (points "Ć1ź2" into 44024 gives refuse 3 2) ∷ (points "Ć1Źź2" into 44024 gives refuse 3 3) ∷ (points "ƁźĆ1À" into 44024 gives refuse 3 4) ∷
    (points "ƁźĆ1" into 44024 gives refuse 3 4) ∷ (points "ƁźĆ1Ź" into 44024 gives refuse 3 5) ∷ (points "ÀźĆ123" into 44024 gives refuse 3 6) ∷
    (points "Ɓź€" into 0 gives refuse 3 2) ∷ (Ɓ ∷ 0x17A ∷ replicate 300 65 ++ (0x20AC ∷ []) into 44024 gives refuse 3 302) ∷
    (Ɓ ∷ 0x17A ∷ replicate 253 65 into 0 gives refuse 19 1) ∷ (Ɓ ∷ replicate 253 65 ++ (0x17A ∷ []) into 2828 gives refuse 19 254) ∷
    (Ɓ ∷ replicate 254 65 ++ (0x17A ∷ []) into 44024 gives refuse 19 255) ∷ (Ɓ ∷ 0x17A ∷ replicate 254 65 into 44024 gives refuse 19 1) ∷
    (Ć ∷ replicate 510 48 ++ (Ɓ ∷ 0x17A ∷ []) into 0 gives refuse 19 512) ∷ (À ∷ replicate 4000 0x17A into 0 gives refuse 19 1) ∷ []

-- Document 01's encoder, before request 12, by hand: ź is 97 in sets A and B. The checks are
-- 104+97=201, 103+97=200, 104+33+2·97+3·97=622, 105+100+2·97=399 and 105+97+2·100+3·97=693, all
-- modulo 103.
unfoldable pub fnc2_before : List Example
fnc2_before =
    (points "Ɓź" into 46 gives accept 2 (cells_of "11010010000 11110101000 11110100010 1100011101011")) ∷
    (points "Àź" into 46 gives accept 2 (cells_of "11010000100 11110101000 11110101000 1100011101011")) ∷
    (points "ƁAźź" into 68 gives accept 4 (cells_of "11010010000 10100011000 11110101000 11110101000 10010001100 1100011101011")) ∷
    (points "ĆƁź" into 57 gives accept 3 (cells_of "11010011100 10111101110 11110101000 11011110110 1100011101011")) ∷
    (points "Ć97Ɓź" into 68 gives accept 4 (cells_of "11010011100 11110101000 10111101110 11110101000 11000010010 1100011101011")) ∷
    (points "Ɓź" into 0 gives refuse 5 46) ∷ (points "Ɓź" into 34 gives refuse 5 46) ∷ (points "Ɓź" into 35 gives refuse 5 46) ∷
    (points "Ɓź" into 45 gives refuse 5 46) ∷ (points "Ćź" into 44024 gives refuse 3 1) ∷ (points "Ɓź€" into 0 gives refuse 3 2) ∷
    (points "ƁźĆ1" into 44024 gives refuse 3 4) ∷ (Ɓ ∷ 0x17A ∷ 0xD800 ∷ [] into 44024 gives refuse 1 2) ∷
    (Ɓ ∷ 0x17A ∷ replicate 3999 65 into 0 gives refuse 4 4001) ∷ (Ɓ ∷ 0x17A ∷ replicate 254 65 into 2839 gives refuse 5 2840) ∷
    (Ɓ ∷ 0x17A ∷ replicate 253 65 into 2828 gives refuse 5 2829) ∷ []

-- Labels without ź that are still accepted, by hand, and that document 01's encoder answers alike:
-- the code points beside ź, 97 as the check, and 97 as a pair in set C.
unfoldable pub fnc2_beside : List Example
fnc2_beside =
    (points "ƁŻ" into 46 gives accept 2 (cells_of "11010010000 10111100010 11110101000 1100011101011")) ∷
    (points "Ć97" into 46 gives accept 2 (cells_of "11010011100 11110101000 10111011110 1100011101011")) ∷
    (points "ƁŹ" into 46 gives accept 2 (cells_of "11010010000 11110101110 11011001100 1100011101011")) ∷
    (points "ÀŻ" into 46 gives accept 2 (cells_of "11010000100 10111100010 10111100010 1100011101011")) ∷
    (points "Ɓz" into 46 gives accept 2 (cells_of "11010010000 11011110110 11110110110 1100011101011")) ∷
    (points "ÀĆ97" into 57 gives accept 3 (cells_of "11010000100 10111011110 11110101000 11110010100 1100011101011")) ∷
    (points "Ć97ƁŻ" into 68 gives accept 4 (cells_of "11010011100 11110101000 10111101110 10111100010 10011000010 1100011101011")) ∷ []

-- The code points of `sweeps`, put between two texts: those that are refused 19 at that place, by
-- hand. It is ź in sets A and B, and nothing else.
unfoldable pub fnc2_swept : List Sweep
fnc2_swept =
    (swept "À" "" 1 (points "ź")) ∷ (swept "Ɓ" "" 1 (points "ź")) ∷ (swept "Ć" "" 1 ([])) ∷ []

-- Rows with 97 in set A or B, 97 as a pair in set C and 97 as the check, by hand: read answers as
-- before request 12.
unfoldable pub fnc2_rows : List Example
fnc2_rows =
    (cells_of "11010010000 11110101000 11110100010 1100011101011" into 2 gives accept 2 (104 ∷ 97 ∷ [])) ∷
    (cells_of "11010010000 11110101000 11110100010 1100011101011" into 1 gives refuse 5 2) ∷
    (cells_of "11010010000 11110101000 11110101000 1100011101011" into 2 gives refuse 14 98) ∷
    (cells_of "11010000100 11110101000 11110101000 1100011101011" into 2 gives accept 2 (103 ∷ 97 ∷ [])) ∷
    (cells_of "11010000100 11110101000 11110100010 1100011101011" into 2 gives refuse 14 97) ∷
    (cells_of "11010011100 11110101000 10111011110 1100011101011" into 2 gives accept 2 (105 ∷ 97 ∷ [])) ∷
    (cells_of "11010011100 11110101000 11110101000 1100011101011" into 2 gives refuse 14 99) ∷
    (cells_of "11010010000 10111100010 11110101000 1100011101011" into 2 gives accept 2 (104 ∷ 96 ∷ [])) ∷
    (cells_of "11010010000 10100011000 11110101000 11110101000 10010001100 1100011101011" into 4 gives accept 4 (104 ∷ 33 ∷ 97 ∷ 97 ∷ [])) ∷
    (cells_of "11010011100 11110101000 10111101110 11110101000 11000010010 1100011101011" into 4 gives accept 4 (105 ∷ 97 ∷ 100 ∷ 97 ∷ [])) ∷
    (cells_of "11010011100 11110101000 10111101110 11110101000 11000010010 1100011101011" into 0 gives refuse 5 4) ∷
    (cells_of "11010000100 11110101000 10111011110 11110101000 10011010000 1100011101011" into 4 gives accept 4 (103 ∷ 97 ∷ 99 ∷ 97 ∷ [])) ∷
    (cells_of "11110101000 11110101000 11110100010 1100011101011" into 4000 gives refuse 13 0) ∷
    (cells_of "11010010000 11100101000 11110100010 1100011101011" into 4000 gives refuse 16 1) ∷
    (cells_of "11010010000 11110101000 11110100010 1100111101011" into 4000 gives refuse 15 37) ∷ []

-- Lists with 97 in set A, B or C, with the label that spell writes and the bytes that scan sends,
-- by hand from document 01 and requests 1 and 12 of document 02; the row is what the crate writes
-- for that label. 97 in set A or B is spelled ź and sends nothing; in set C it is the pair.
unfoldable pub fnc2_lists : List Listed
fnc2_lists =
    ((105 ∷ 97 ∷ []) spells "Ć97" scans "97" draws "D39EA2EF63AC") ∷ ((103 ∷ 97 ∷ 97 ∷ []) spells "Àźź" scans "" draws "D09EA3D44F2C758") ∷
    ((104 ∷ 33 ∷ 97 ∷ 33 ∷ []) spells "ƁAźA" scans "AA" draws "D21463D4518CE58EB") ∷ ((103 ∷ 97 ∷ 64 ∷ []) spells "Àź\0" scans "\0" draws "D09EA28665CC758") ∷
    ((104 ∷ 97 ∷ 95 ∷ []) spells "Ɓź÷" scans "\u{7f}" draws "D21EA2F449EC758") ∷ ((105 ∷ 97 ∷ 97 ∷ []) spells "Ć9797" scans "9797" draws "D39EA3D4794C758") ∷
    ((105 ∷ 97 ∷ 100 ∷ 97 ∷ []) spells "Ć97Ɓź" scans "97" draws "D39EA2F77A8C258EB") ∷
    ((105 ∷ 97 ∷ 101 ∷ 97 ∷ 65 ∷ []) spells "Ć97Àź\u{1}" scans "97\u{1}" draws "D39EA3AF7A8961CD31D6") ∷
    ((104 ∷ 97 ∷ 99 ∷ 97 ∷ []) spells "ƁźĆ97" scans "97" draws "D21EA2EF7A89858EB") ∷
    ((103 ∷ 97 ∷ 99 ∷ 97 ∷ 101 ∷ 97 ∷ []) spells "ÀźĆ97Àź" scans "97" draws "D09EA2EF7A8EBDEA28C63AC") ∷
    ((103 ∷ 97 ∷ 100 ∷ 97 ∷ 101 ∷ 97 ∷ []) spells "ÀźƁźÀź" scans "" draws "D09EA2F77A8EBDEA22363AC") ∷
    ((104 ∷ 97 ∷ 65 ∷ 101 ∷ 97 ∷ 65 ∷ []) spells "ƁźaÀź\u{1}" scans "a\u{1}" draws "D21EA25875EF512C23263AC") ∷
    ((105 ∷ 102 ∷ 97 ∷ 102 ∷ 100 ∷ 97 ∷ 102 ∷ []) spells "ĆŹ97ŹƁźŹ" scans "97" draws "D39EBBD47AEBDDEA3D7622C758") ∷
    ((104 ∷ 96 ∷ 97 ∷ 102 ∷ 100 ∷ []) spells "ƁŻźŹż" scans "" draws "D2178BD47AEBDD6131D6") ∷
    ((103 ∷ 98 ∷ 97 ∷ 65 ∷ []) spells "ÀŽź\u{1}" scans "\u{1}" draws "D09E8BD44B0C258EB") ∷
    ((104 ∷ 98 ∷ 97 ∷ 65 ∷ []) spells "ƁŽźa" scans "a" draws "D21E8BD44B0CA18EB") ∷
    ((103 ∷ 97 ∷ 98 ∷ 65 ∷ []) spells "ÀźŽ\u{1}" scans "a" draws "D09EA3D14B0CA18EB") ∷
    ((104 ∷ 97 ∷ 98 ∷ 65 ∷ 97 ∷ []) spells "ƁźŽaź" scans "\u{1}" draws "D21EA3D14B0F51BBB1D6") ∷ []

-- ---- l. two blocks exchanged

-- Request 9 of document 02: rows with two data blocks exchanged, the crate's patterns put in their
-- order by hand, the check left as drawn. Two that are alike leave the row as it was.
unfoldable pub exchanged_rows : List Exchange
exchanged_rows =
    ((105 ∷ 12 ∷ 34 ∷ []) exchanging 1 with 2 draws cells_of "11010011100 10001011000 10110011100 10010011110 1100011101011") ∷
    ((104 ∷ 33 ∷ 41 ∷ 45 ∷ []) exchanging 1 with 2 draws cells_of "11010010000 11000100010 10100011000 10111011000 10111011000 1100011101011") ∷
    ((104 ∷ 33 ∷ 41 ∷ 45 ∷ []) exchanging 2 with 3 draws cells_of "11010010000 10100011000 10111011000 11000100010 10111011000 1100011101011") ∷
    ((104 ∷ 33 ∷ 41 ∷ 45 ∷ []) exchanging 1 with 3 draws cells_of "11010010000 10111011000 11000100010 10100011000 10111011000 1100011101011") ∷
    ((104 ∷ 33 ∷ 33 ∷ []) exchanging 1 with 2 draws cells_of "11010010000 10100011000 10100011000 10111101110 1100011101011") ∷
    ((103 ∷ 0 ∷ 102 ∷ []) exchanging 1 with 2 draws cells_of "11010000100 11110101110 11011001100 11101011110 1100011101011") ∷ []

-- By hand from request 9: refusal 14 with the check of the exchanged list, whatever the length of
-- the buffer; and an acceptance where the two places are 103 or 206 apart, or refusal 5 if there is
-- no room. The sum moves by the difference of the two numbers times the distance of their places.
unfoldable pub exchangings : List Between
exchangings =
    ((105 ∷ 12 ∷ 34 ∷ []) between 1 and 2 gives refuse 14 60 short refuse 14 60) ∷
    ((104 ∷ 33 ∷ 41 ∷ 45 ∷ []) between 1 and 2 gives refuse 14 37 short refuse 14 37) ∷
    ((104 ∷ 33 ∷ 41 ∷ 45 ∷ []) between 2 and 3 gives refuse 14 41 short refuse 14 41) ∷
    ((104 ∷ 33 ∷ 41 ∷ 45 ∷ []) between 1 and 3 gives refuse 14 21 short refuse 14 21) ∷
    ((103 ∷ 0 ∷ 102 ∷ []) between 1 and 2 gives refuse 14 102 short refuse 14 102) ∷
    ((103 ∷ 102 ∷ 0 ∷ []) between 1 and 2 gives refuse 14 101 short refuse 14 101) ∷
    ((104 ∷ 1 ∷ replicate 102 1 ++ (2 ∷ [])) between 103 and 104 gives refuse 14 2 short refuse 14 2) ∷
    ((104 ∷ 1 ∷ replicate 102 1 ++ (2 ∷ [])) between 1 and 104 gives accept 105 (104 ∷ 2 ∷ replicate 102 1 ++ (1 ∷ [])) short refuse 5 105) ∷
    ((104 ∷ 1 ∷ replicate 205 1 ++ (2 ∷ [])) between 1 and 207 gives accept 208 (104 ∷ 2 ∷ replicate 205 1 ++ (1 ∷ [])) short refuse 5 208) ∷ []

-- ---- m. up to 4,000 symbols

-- By hand from request 4 of document 02, "The limit becomes 4,000 everywhere, rows 44,024 cells":
-- which lengths of a list and of a row are possible.
unfoldable pub sizes : List Size
sizes =
    (0 symbols_fit false) ∷ (1 symbols_fit true) ∷ (255 symbols_fit true) ∷ (256 symbols_fit true) ∷ (3999 symbols_fit true) ∷ (4000 symbols_fit true) ∷
    (4001 symbols_fit false) ∷ (65535 symbols_fit false) ∷ (0 cells_fit false) ∷ (24 cells_fit false) ∷ (34 cells_fit false) ∷ (35 cells_fit true) ∷ (36 cells_fit false) ∷
    (46 cells_fit true) ∷ (2828 cells_fit false) ∷ (2829 cells_fit true) ∷ (2830 cells_fit false) ∷ (2839 cells_fit false) ∷ (2840 cells_fit true) ∷
    (2841 cells_fit false) ∷ (44013 cells_fit true) ∷ (44023 cells_fit false) ∷ (44024 cells_fit true) ∷ (44025 cells_fit false) ∷ (44034 cells_fit false) ∷
    (44035 cells_fit false) ∷ (44036 cells_fit false) ∷ (44046 cells_fit false) ∷ []

-- A label of 4,000 symbols, by hand: its row fits 44,024 cells. The cells are left out, so that
-- this is quickly computed; the crate writes the row that model.py writes.
unfoldable pub longest : List Example
longest =
    (Ɓ ∷ replicate 3999 65 into 44024 gives accept 4000 []) ∷ []

-- Checks of a START and k equal numbers m, by hand: START + m·k(k+1)/2 modulo 103. The last has the
-- largest sum of all, 815,796,105.
unfoldable pub long_checks : List Checked
long_checks =
    ((104 ∷ replicate 254 33) checks 81) ∷ ((104 ∷ replicate 255 33) checks 50) ∷ ((104 ∷ replicate 3999 33) checks 3) ∷ ((103 ∷ replicate 3999 0) checks 0) ∷
    ((103 ∷ replicate 3999 1) checks 50) ∷ ((104 ∷ replicate 3999 99) checks 7) ∷ ((105 ∷ replicate 3998 102) checks 37) ∷ ((105 ∷ replicate 3999 102) checks 55) ∷ []

-- By hand from request 4, "Up to 255 symbols are still packed as version 1 … more as version 2":
-- the first bytes of the record of n symbols, and the record's length.
unfoldable pub heads : List Headed
heads =
    (1 packed_after 1 ∷ 1 ∷ [] long 7) ∷ (8 packed_after 1 ∷ 8 ∷ [] long 16) ∷ (254 packed_after 1 ∷ 254 ∷ [] long 355) ∷ (255 packed_after 1 ∷ 255 ∷ [] long 356) ∷
    (256 packed_after 2 ∷ 1 ∷ 0 ∷ [] long 358) ∷ (257 packed_after 2 ∷ 1 ∷ 1 ∷ [] long 360) ∷ (511 packed_after 2 ∷ 1 ∷ 255 ∷ [] long 709) ∷
    (512 packed_after 2 ∷ 2 ∷ 0 ∷ [] long 710) ∷ (1000 packed_after 2 ∷ 3 ∷ 232 ∷ [] long 1381) ∷ (3999 packed_after 2 ∷ 15 ∷ 159 ∷ [] long 5505) ∷
    (4000 packed_after 2 ∷ 15 ∷ 160 ∷ [] long 5506) ∷ []

-- Records of version 2, by hand from request 4: rows of 256 and 257 symbols. At 256 there is no
-- spare bit, at 257 there are five.
unfoldable pub second_packings : List Example
second_packings =
    (replicate 2840 0 into 358 gives accept 358 (2 ∷ 1 ∷ 0 ∷ replicate 355 0)) ∷ (replicate 2840 1 into 358 gives accept 358 (2 ∷ 1 ∷ 0 ∷ replicate 355 255)) ∷
    (times 355 (cells_of "11010010") into 44024 gives accept 358 (2 ∷ 1 ∷ 0 ∷ replicate 355 0xD2)) ∷ (times 355 (cells_of "11010010") into 357 gives refuse 5 358) ∷
    (times 355 (cells_of "11010010") into 356 gives refuse 5 358) ∷ (times 355 (cells_of "11010010") into 0 gives refuse 5 358) ∷
    (times 356 (cells_of "11010010") ++ (cells_of "101") into 360 gives accept 360 (2 ∷ 1 ∷ 1 ∷ replicate 356 0xD2 ++ (0xA0 ∷ []))) ∷
    (times 356 (cells_of "11010010") ++ (cells_of "101") into 359 gives refuse 5 360) ∷
    (replicate 2851 1 into 360 gives accept 360 (2 ∷ 1 ∷ 1 ∷ replicate 356 255 ++ (0xE0 ∷ []))) ∷ (replicate 2839 0 ++ (2 ∷ []) into 0 gives refuse 11 2839) ∷
    (replicate 2841 2 into 0 gives refuse 10 2841) ∷ []

-- By hand from request 4: "21 now means neither 1 nor 2; 22 also for that small count, for a count
-- above 4,000 and for a version 2 record under 3 bytes, each with 0". Among the counts are 256 and
-- 4,000 with their bytes the wrong way round.
unfoldable pub second_unpackings : List Example
second_unpackings =
    (2 ∷ [] into 0 gives refuse 20 1) ∷ (2 ∷ 0 ∷ [] into 0 gives refuse 22 0) ∷ (2 ∷ 1 ∷ [] into 0 gives refuse 22 0) ∷ (2 ∷ 15 ∷ [] into 0 gives refuse 22 0) ∷
    (2 ∷ 255 ∷ [] into 0 gives refuse 22 0) ∷ (2 ∷ 0 ∷ 0 ∷ [] into 0 gives refuse 22 0) ∷ (2 ∷ 0 ∷ 1 ∷ [] into 0 gives refuse 22 0) ∷
    (2 ∷ 0 ∷ 254 ∷ [] into 0 gives refuse 22 0) ∷ (2 ∷ 0 ∷ 255 ∷ [] into 0 gives refuse 22 0) ∷ (2 ∷ 15 ∷ 161 ∷ [] into 0 gives refuse 22 0) ∷
    (2 ∷ 16 ∷ 0 ∷ [] into 0 gives refuse 22 0) ∷ (2 ∷ 160 ∷ 15 ∷ [] into 0 gives refuse 22 0) ∷ (2 ∷ 255 ∷ 255 ∷ [] into 0 gives refuse 22 0) ∷
    (2 ∷ 0 ∷ 1 ∷ replicate 5 0 into 35 gives refuse 22 0) ∷ (2 ∷ 0 ∷ 255 ∷ replicate 354 0 into 44024 gives refuse 22 0) ∷
    (2 ∷ 0 ∷ 1 ∷ replicate 355 0 into 44024 gives refuse 22 0) ∷ (2 ∷ 0 ∷ 0 ∷ replicate 3 0 into 44024 gives refuse 22 0) ∷
    (2 ∷ 15 ∷ 161 ∷ replicate 5505 0 into 44024 gives refuse 22 0) ∷ (2 ∷ 1 ∷ 0 ∷ [] into 0 gives refuse 22 358) ∷ (2 ∷ 1 ∷ 1 ∷ [] into 0 gives refuse 22 360) ∷
    (2 ∷ 1 ∷ 255 ∷ [] into 0 gives refuse 22 709) ∷ (2 ∷ 2 ∷ 0 ∷ [] into 0 gives refuse 22 710) ∷ (2 ∷ 15 ∷ 159 ∷ [] into 0 gives refuse 22 5505) ∷
    (2 ∷ 15 ∷ 160 ∷ [] into 0 gives refuse 22 5506) ∷ (2 ∷ 1 ∷ 208 ∷ [] into 0 gives refuse 22 644) ∷ (2 ∷ 1 ∷ 0 ∷ replicate 354 0 into 44024 gives refuse 22 358) ∷
    (2 ∷ 1 ∷ 0 ∷ replicate 356 0 into 44024 gives refuse 22 358) ∷ (1 ∷ 1 ∷ 0 ∷ replicate 355 0 into 44024 gives refuse 22 7) ∷
    (2 ∷ 1 ∷ 1 ∷ replicate 356 255 into 44024 gives refuse 22 360) ∷ (2 ∷ 1 ∷ 1 ∷ replicate 358 255 into 0 gives refuse 22 360) ∷
    (2 ∷ 15 ∷ 160 ∷ replicate 5502 0 into 44024 gives refuse 22 5506) ∷ (0 ∷ 1 ∷ [] into 44024 gives refuse 21 0) ∷ (3 ∷ 1 ∷ [] into 44024 gives refuse 21 3) ∷
    (3 ∷ 9 ∷ [] into 44024 gives refuse 21 3) ∷ (3 ∷ 1 ∷ 0 ∷ [] into 44024 gives refuse 21 3) ∷ (255 ∷ 15 ∷ 161 ∷ [] into 44024 gives refuse 21 255) ∷
    (3 ∷ 1 ∷ 0 ∷ replicate 355 0 into 44024 gives refuse 21 3) ∷ (2 ∷ 1 ∷ 0 ∷ replicate 355 0 into 2840 gives accept 2840 (replicate 2840 0)) ∷
    (2 ∷ 1 ∷ 0 ∷ replicate 355 255 into 2840 gives accept 2840 (replicate 2840 1)) ∷
    (2 ∷ 1 ∷ 0 ∷ replicate 355 0xD2 into 44024 gives accept 2840 (times 355 (cells_of "11010010"))) ∷
    (2 ∷ 1 ∷ 0 ∷ replicate 355 0xD2 into 2839 gives refuse 5 2840) ∷
    (2 ∷ 1 ∷ 1 ∷ replicate 356 0xD2 ++ (0xA0 ∷ []) into 2851 gives accept 2851 (times 356 (cells_of "11010010") ++ (cells_of "101"))) ∷
    (2 ∷ 1 ∷ 1 ∷ replicate 356 0xD2 ++ (0xA0 ∷ []) into 2850 gives refuse 5 2851) ∷ (2 ∷ 1 ∷ 1 ∷ replicate 356 0 ++ (1 ∷ []) into 44024 gives refuse 23 359) ∷
    (2 ∷ 1 ∷ 1 ∷ replicate 356 0 ++ (2 ∷ []) into 44024 gives refuse 23 359) ∷ (2 ∷ 1 ∷ 1 ∷ replicate 356 0 ++ (4 ∷ []) into 44024 gives refuse 23 359) ∷
    (2 ∷ 1 ∷ 1 ∷ replicate 356 0 ++ (8 ∷ []) into 44024 gives refuse 23 359) ∷ (2 ∷ 1 ∷ 1 ∷ replicate 356 0 ++ (16 ∷ []) into 44024 gives refuse 23 359) ∷
    (2 ∷ 1 ∷ 1 ∷ replicate 356 0 ++ (31 ∷ []) into 44024 gives refuse 23 359) ∷ (2 ∷ 1 ∷ 1 ∷ replicate 357 255 into 0 gives refuse 23 359) ∷
    (2 ∷ 1 ∷ 1 ∷ replicate 356 0 ++ (32 ∷ []) into 2851 gives accept 2851 (replicate 2850 0 ++ (1 ∷ []))) ∷ []

-- By hand from request 4, "demand 3's places become all multiples of 103, up to 3,914": one block
-- of a row of 4,000 symbols drawn over, by `verdict` alone.
unfoldable pub far_redrawings : List Redrawn
far_redrawings =
    ((104 ∷ replicate 3999 0) at 412 drawn 102 gives accept 4000 (104 ∷ replicate 411 0 ++ (102 ∷ replicate 3587 0))) ∷
    ((104 ∷ replicate 3999 0) at 3914 drawn 65 gives accept 4000 (104 ∷ replicate 3913 0 ++ (65 ∷ replicate 85 0))) ∷
    ((104 ∷ replicate 3999 0) at 3913 drawn 65 gives refuse 14 39) ∷ ((104 ∷ replicate 3999 0) at 3915 drawn 65 gives refuse 14 66) ∷
    ((104 ∷ replicate 3999 0) at 3999 drawn 1 gives refuse 14 86) ∷ ((104 ∷ replicate 3999 0) at 4000 drawn 2 gives refuse 14 1) ∷
    ((104 ∷ replicate 3999 0) at 3914 drawn 103 gives refuse 13 3914) ∷ []

-- By hand, two blocks of a row of 4,000 symbols exchanged, 3,914 or 309 places apart or not, by
-- `exchanged_verdict` alone.
unfoldable pub far_exchangings : List Between
far_exchangings =
    ((104 ∷ 1 ∷ replicate 3913 0 ++ (2 ∷ replicate 84 0)) between 1 and 3915
    gives accept 4000 (104 ∷ 2 ∷ replicate 3913 0 ++ (1 ∷ replicate 84 0)) short refuse 5 4000) ∷
    ((104 ∷ 1 ∷ replicate 3913 0 ++ (2 ∷ replicate 84 0)) between 1 and 310
    gives accept 4000 (104 ∷ 0 ∷ replicate 308 0 ++ (1 ∷ replicate 3604 0 ++ (2 ∷ replicate 84 0))) short refuse 5 4000) ∷
    ((104 ∷ 1 ∷ replicate 3913 0 ++ (2 ∷ replicate 84 0)) between 1 and 3914 gives refuse 14 3 short refuse 14 3) ∷
    ((104 ∷ 1 ∷ replicate 3913 0 ++ (2 ∷ replicate 84 0)) between 3914 and 3915 gives refuse 14 2 short refuse 14 2) ∷
    ((104 ∷ 1 ∷ replicate 3913 0 ++ (2 ∷ replicate 84 0)) between 3915 and 3999 gives refuse 14 69 short refuse 14 69) ∷ []

-- a proof by computation names this on its `unfolding` line: it opens every definition above
unfoldable pub examples_computes : Unit {0}
unfolding digit16 digits16 cells_of fours row_of accepted pairs16 bytes_of elevens joined times shift_then_plain asked given brief briefly parsed_as printed_as answer_of of_crate retired tried passes_at retires_at those passing retires kept three_jobs three_answers settles settled ruled twice judged judgement flips thrice trades traded exchanges threefold settled_between foretold gave called left fits fitting check_in right_check headed begun unstarred unstarred_records long_rows order published published_rows crate_chars crate_stop crate_widths crate_bars every_number every_switch every_function every_pair foreign_digits first_points documented randomly randomly_wrong checks_on with_fnc2 sweeps read_back read_lengths read_blocks read_worn read_stops read_checks read_long lists bad_lists draw_short spell_short scan_short shift_each shift_before shifting packings unpackings settling buffers redrawings flippings fnc2_refused fnc2_before fnc2_beside fnc2_swept fnc2_rows fnc2_lists exchanged_rows exchangings sizes longest long_checks heads second_packings second_unpackings far_redrawings far_exchangings settle_computes chars_computes rules_computes damage_computes
examples_computes = tt
