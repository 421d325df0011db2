-- What document 01 takes from ISO/IEC 15417: bar patterns, check, the meaning of each number in
-- each code set, the scanner reading; and what a block of cells is looked up as.
-- Document 01, "What is built", "Patterns and check", "Tokens and character sets", "Spelling and
-- scanner reading"; document 02, requests 1 and 3. Assumes nothing.
use Rattle.std.specs.Prelude.{◌+◌, ◌-◌, ◌*◌, ◌/◌, ◌%◌, ◌&&◌, ◌∷◌, ◌++◌, if◌then◌else◌}
use Rattle.helpers.specs.Prelude.{ℕ, zero, suc, String, Bool, false, List, [], map, ltb, eqb, get_or, replicate}
use Rattle.helpers.specs.Answers.{same}
use Prim.Native.Char.{code}
use Prim.Native.String as S

-- the code points of a text, in order
unfoldable pub points : String → List ℕ
points S.[] = []
points (S.◌∷◌ c s) = code c ∷ points s

-- ---- patterns
-- The widths of three bars and spaces in turn, of the symbols 0 to 105, as the standard prints them
unfoldable pub widths : List ℕ
widths =
    212222 ∷ 222122 ∷ 222221 ∷ 121223 ∷ 121322 ∷ 131222 ∷ 122213 ∷ 122312 ∷ 132212 ∷ 221213 ∷
    221312 ∷ 231212 ∷ 112232 ∷ 122132 ∷ 122231 ∷ 113222 ∷ 123122 ∷ 123221 ∷ 223211 ∷ 221132 ∷
    221231 ∷ 213212 ∷ 223112 ∷ 312131 ∷ 311222 ∷ 321122 ∷ 321221 ∷ 312212 ∷ 322112 ∷ 322211 ∷
    212123 ∷ 212321 ∷ 232121 ∷ 111323 ∷ 131123 ∷ 131321 ∷ 112313 ∷ 132113 ∷ 132311 ∷ 211313 ∷
    231113 ∷ 231311 ∷ 112133 ∷ 112331 ∷ 132131 ∷ 113123 ∷ 113321 ∷ 133121 ∷ 313121 ∷ 211331 ∷
    231131 ∷ 213113 ∷ 213311 ∷ 213131 ∷ 311123 ∷ 311321 ∷ 331121 ∷ 312113 ∷ 312311 ∷ 332111 ∷
    314111 ∷ 221411 ∷ 431111 ∷ 111224 ∷ 111422 ∷ 121124 ∷ 121421 ∷ 141122 ∷ 141221 ∷ 112214 ∷
    112412 ∷ 122114 ∷ 122411 ∷ 142112 ∷ 142211 ∷ 241211 ∷ 221114 ∷ 413111 ∷ 241112 ∷ 134111 ∷
    111242 ∷ 121142 ∷ 121241 ∷ 114212 ∷ 124112 ∷ 124211 ∷ 411212 ∷ 421112 ∷ 421211 ∷ 212141 ∷
    214121 ∷ 412121 ∷ 111143 ∷ 111341 ∷ 131141 ∷ 114113 ∷ 114311 ∷ 411113 ∷ 411311 ∷ 113141 ∷
    114131 ∷ 311141 ∷ 411131 ∷ 211412 ∷ 211214 ∷ 211232 ∷ []

-- "1 for bar": the cells of a bar whose width is the last digit of w
unfoldable pub bar_of : ℕ → List ℕ
bar_of w = replicate (w % 10) 1

-- "0 for space": the cells of a space whose width is the last digit of w
unfoldable pub space_of : ℕ → List ℕ
space_of w = replicate (w % 10) 0

-- "three bars and three spaces": 212222 is 11011001100
unfoldable pub drawn : ℕ → List ℕ
drawn w = bar_of (w / 100000) ++ space_of (w / 10000) ++ bar_of (w / 1000) ++ space_of (w / 100) ++ bar_of (w / 10) ++ space_of w

-- the eleven cells of the number m; none above 105
unfoldable pub pattern : ℕ → List ℕ
pattern m = drawn (get_or widths m 0)

-- "The stop is 1100011101011", in the standard 2331112
unfoldable pub stop : List ℕ
stop = drawn 233111 ++ bar_of 2

-- how many cells are bar: the sum of cells 0 and 1
unfoldable pub bar_cells : List ℕ → ℕ
bar_cells [] = 0
bar_cells (c ∷ cs) = c + bar_cells cs

-- what a block of cells is: the pattern of a number; or "none of the 106 patterns", worn where the
-- number of bar cells is odd and unknown where it is even
pub data Look : Type 0 where
  is : ℕ → Look
  worn unknown : Look

-- "A block that is no pattern and has an odd number of bar cells is now answered apart from one
-- with an even number": worn if odd, unknown if even
unfoldable pub worn_or_unknown : List ℕ → Look
worn_or_unknown cs = if eqb (bar_cells cs % 2) 1 then worn else unknown

-- a block looked for among these widths, the first of them that of the number m
unfoldable pub found_in : ℕ → List ℕ → List ℕ → Look
found_in m [] cs = worn_or_unknown cs
found_in m (w ∷ ws) cs = if same (drawn w) cs then is m else found_in (suc m) ws cs

-- the same among the widths of all 106
unfoldable pub found : List ℕ → Look
found cs = found_in 0 widths cs

-- ---- check and row
-- "the sum of number times weight", the first number weighing w and each next one more
unfoldable pub weighed : ℕ → List ℕ → ℕ
weighed w [] = 0
weighed w (x ∷ xs) = w * x + weighed (suc w) xs

-- "modulo 103. The START weighs 1, and so does place 1; place i weighs i."
unfoldable pub check : List ℕ → ℕ
check [] = 0
check (start ∷ ms) = (start + weighed 1 ms) % 103

-- the patterns of some numbers, one after the other
unfoldable pub cells : List ℕ → List ℕ
cells [] = []
cells (x ∷ xs) = pattern x ++ cells xs

-- the row of a symbol list: the patterns of its numbers, the check's, the stop
unfoldable pub row : List ℕ → List ℕ
row s = cells (s ++ (check s ∷ [])) ++ stop

-- ---- code sets
-- the three code sets, and before the START none
pub data Set : Type 0 where
  before A B C : Set

-- the set after a number: the STARTs are 103, 104, 105; Code C is 99, Code B 100, Code A 101, and 99
-- in set C is a pair
unfoldable pub next : Set → ℕ → Set
next before m = if eqb m 103 then A else if eqb m 104 then B else if eqb m 105 then C else before
next A m = if eqb m 99 then C else if eqb m 100 then B else A
next B m = if eqb m 99 then C else if eqb m 101 then A else B
next C m = if eqb m 100 then B else if eqb m 101 then A else C

-- the START of a set; before the START there is none
unfoldable pub start_of : Set → ℕ
start_of before = 0
start_of A = 103
start_of B = 104
start_of C = 105

-- "two ASCII digits": those of a number below 100
unfoldable pub digits : ℕ → List ℕ
digits m = (48 + m / 10) ∷ (48 + m % 10) ∷ []

-- "Scan gives 7-bit bytes. … START, Shift and the function symbols give nothing", nor do switches
unfoldable pub sent : Set → ℕ → List ℕ
sent before m = []
sent A m = if ltb m 64 then (m + 32) ∷ [] else if ltb m 96 then (m - 64) ∷ [] else []
sent B m = if ltb m 96 then (m + 32) ∷ [] else []
sent C m = if ltb m 100 then digits m else []

-- "Shift (98 in A or B)": is the number m of a set a Shift?
unfoldable pub is_shift : Set → ℕ → Bool
is_shift before m = false
is_shift A m = eqb m 98
is_shift B m = eqb m 98
is_shift C m = false

-- "the other of those two sets", A and B; Shift is in no other set
unfoldable pub other : Set → Set
other before = before
other A = B
other B = A
other C = C

-- the set that the number m is read in, where it stands in the set s, right after a Shift or not:
-- "If the next symbol is 96 to 102 … that symbol keeps its meaning in the current set."
unfoldable pub read_in : Bool → Set → ℕ → Set
read_in shifted s m = if shifted && ltb m 96 then other s else s

-- "Switches move the set", and Shift "makes the next symbol alone be read in the other": the bytes
-- of the numbers, one after the other, the first of them standing in the set s, right after a Shift
-- or not
unfoldable pub scanned_from : Bool → Set → List ℕ → List ℕ
scanned_from shifted s [] = []
scanned_from shifted s (m ∷ ms) = sent (read_in shifted s m) m ++ scanned_from (is_shift s m) (next s m) ms

-- the bytes of a symbol list
unfoldable pub scanned : List ℕ → List ℕ
scanned ms = scanned_from false before ms

-- ---- the standard's own table: what each number means in each set
-- what a number means: an ASCII character, a pair of digits, FNC1 to FNC4, Shift, a switch, a START
pub data Meaning : Type 0 where
  ascii : ℕ → Meaning
  pair : ℕ → Meaning
  FNC : ℕ → Meaning
  SHIFT : Meaning
  CODE : Set → Meaning
  START : Set → Meaning

-- the numbers from m on, n of them
unfoldable pub count : ℕ → ℕ → List ℕ
count m zero = []
count m (suc n) = m ∷ count (suc m) n

-- a run of the table: the characters of a text
unfoldable pub printed : String → List Meaning
printed text = map ascii (points text)

-- The columns of its table of symbol characters, from number 0 on; before the START, from 103 on.
unfoldable pub column : Set → List Meaning
column before = START A ∷ START B ∷ START C ∷ []
column A =
    printed " !\"#$%&'()*+,-./0123456789:;<=>?@ABCDEFGHIJKLMNOPQRSTUVWXYZ[\\]^_" ++
    printed "\0\u{1}\u{2}\u{3}\u{4}\u{5}\u{6}\u{7}\u{8}\t\n\u{b}\u{c}\r\u{e}\u{f}" ++
    printed "\u{10}\u{11}\u{12}\u{13}\u{14}\u{15}\u{16}\u{17}\u{18}\u{19}\u{1a}\u{1b}\u{1c}\u{1d}\u{1e}\u{1f}" ++
    (FNC 3 ∷ FNC 2 ∷ SHIFT ∷ CODE C ∷ CODE B ∷ FNC 4 ∷ FNC 1 ∷ [])
column B =
    printed " !\"#$%&'()*+,-./0123456789:;<=>?@ABCDEFGHIJKLMNOPQRSTUVWXYZ[\\]^_" ++
    printed "`abcdefghijklmnopqrstuvwxyz{|}~\u{7f}" ++
    (FNC 3 ∷ FNC 2 ∷ SHIFT ∷ CODE C ∷ FNC 4 ∷ CODE A ∷ FNC 1 ∷ [])
column C = map pair (count 0 100) ++ (CODE B ∷ CODE A ∷ FNC 1 ∷ [])
