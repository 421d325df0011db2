-- How many newlines a text has: an answer has one, its last byte.
-- Assumes nothing.
use Prim.Native.Nat.{ℕ, zero, suc, ◌+◌, ◌%◌, ◌/◌, ◌<◌, ◌≤◌}
use mathlib.Core.Path.{◌≡◌, refl, sym, ap, ◌∙◌}
use mathlib.Core.Bool.{Bool, true, false}
use mathlib.Core.List.{List, [], ◌∷◌, ◌++◌, map}
use native.Mathlib.Numerals.{one-add}
use native.Mathlib.Omega.{arith}
use borrow.Author.Tests.{ne_eqb}
use lib.Dec.{ltb, eqb}
use lib.ListN.{length, get_or, take}
use lib.Seq.{take_all}
use Rattle.std.specs.Prelude.{if◌then◌else◌, cond, count_by, position, Some, None}
use Rattle.std.specs.List.{position_or_len}
use Rattle.std.proofs.lemmas.Bool.{ltb-false}
use Rattle.std.proofs.lemmas.List.Sums.{fails_before_first}
use Rattle.std.proofs.lemmas.List.Recursion.{is_count_by}
use Rattle.helpers.specs.Answers.{Answer, refuse, accept}
use Rattle.paper.specs.Jobs.{encode, row_length, most}
use Rattle.line.specs.Line.{Content, code_points, other_form, content_of, decimal_below, decimal, answer_line, content_line, line_out}
use Rattle.lines.specs.Lines.{newlines}

-- ---- counting

-- as the library counts
pub newlines_count : (text : List ℕ) → newlines text ≡ count_by (λ c. eqb c 10) text
unfolding newlines
newlines_count = is_count_by newlines (λ c. eqb c 10) refl (λ c cs. ap (λ (k : ℕ). cond (eqb c 10) k (newlines cs)) (sym (one-add (newlines cs))))

-- none stands before the first
pub newlines_before : (text : List ℕ) (n : ℕ) → ((k : ℕ) → k < n → eqb (get_or text k 0) 10 ≡ false) → newlines (take n text) ≡ 0
unfolding newlines
newlines_before text zero f = refl
newlines_before [] (suc n) f = refl
newlines_before (c ∷ cs) (suc n) f = rw (f 0 (omega arith)) (newlines_before cs n (λ k h. f (suc k) (omega arith)))

pub newlines_append : (x y : List ℕ) → newlines (x ++ y) ≡ newlines x + newlines y
unfolding newlines
newlines_append [] y = omega arith
newlines_append (c ∷ cs) y = by (eqb c 10) (newlines_append cs y)
  where
    by : (b : Bool) → newlines (cs ++ y) ≡ newlines cs + newlines y → (if b then suc (newlines (cs ++ y)) else newlines (cs ++ y)) ≡ (if b then suc (newlines cs) else newlines cs) + newlines y
    by true e = omega arith
    by false e = e

pub newlines_none : (text : List ℕ) → position (λ c. eqb c 10) text ≡ None → newlines text ≡ 0
newlines_none text = by (ltb (position_or_len (λ c. eqb c 10) text) (length text)) refl
  where
    by : (b : Bool) → ltb (position_or_len (λ c. eqb c 10) text) (length text) ≡ b → cond b (Some (position_or_len (λ c. eqb c 10) text)) None ≡ None → newlines text ≡ 0
    by true k e = absurd (cc)
    by false k e =
        let h : length text ≤ position_or_len (λ c. eqb c 10) text = ltb-false _ _ k in
        ap newlines (sym (take_all (length text) text (omega arith)))
        ∙ newlines_before text (length text) (λ k l. fails_before_first (λ c. eqb c 10) text k 0 (omega arith))

-- ---- an answer has one newline, its last byte

pub no_bytes : newlines [] ≡ 0
unfolding newlines
no_bytes = refl

-- a byte from 11 on is no newline
past : (c : ℕ) (cs : List ℕ) → 11 ≤ c → newlines cs ≡ 0 → newlines (c ∷ cs) ≡ 0
unfolding newlines
past c cs h e = rw (ne_eqb c 10 (λ k. omega arith)) e

decimal_below_lem : (k n : ℕ) → newlines (decimal_below k n) ≡ 0
unfolding decimal_below
decimal_below_lem zero n = past (48 + n % 10) [] (omega arith) no_bytes
decimal_below_lem (suc k) n = by (ltb n 10) (decimal_below_lem k (n / 10))
  where
    digit : newlines ((48 + n % 10) ∷ []) ≡ 0
    digit = past (48 + n % 10) [] (omega arith) no_bytes

    by : (b : Bool) → newlines (decimal_below k (n / 10)) ≡ 0 → newlines ((if b then [] else decimal_below k (n / 10)) ++ ((48 + n % 10) ∷ [])) ≡ 0
    by true e = digit
    by false e = newlines_append (decimal_below k (n / 10)) ((48 + n % 10) ∷ []) ∙ omega (arith, digit)

cells_none : (out : List ℕ) → newlines (map (λ c. 48 + c) out) ≡ 0
unfolding newlines
cells_none [] = refl
cells_none (c ∷ cs) = past (48 + c) (map (λ c. 48 + c) cs) (omega arith) (cells_none cs)

answer_none : (a : Answer) → newlines (answer_line a) ≡ 0
unfolding answer_line decimal
answer_none (refuse k m) = newlines_append (decimal k) (32 ∷ decimal m) ∙ omega (arith, decimal_below_lem k k, past 32 (decimal m) (omega arith) (decimal_below_lem m m))
answer_none (accept n out) =
    let cells = past 32 (map (λ c. 48 + c) out) (omega arith) (cells_none out) in
    let numbers = past 32 (decimal n) (omega arith) (decimal_below_lem n n) in
    newlines_append (decimal 0 ++ (32 ∷ decimal n)) (32 ∷ map (λ c. 48 + c) out) ∙ omega (arith, cells, newlines_append (decimal 0) (32 ∷ decimal n), decimal_below_lem 0 0, numbers)

pub content_none : (f : Content) → newlines (content_line f) ≡ 0
unfolding content_line
content_none (code_points x) = answer_none (encode (row_length most) x)
content_none other_form = past 63 [] (omega arith) no_bytes

pub line_one : (line : List ℕ) → newlines (line_out line) ≡ 1
unfolding line_out newlines
line_one line = newlines_append (content_line (content_of line)) (10 ∷ []) ∙ rw (content_none (content_of line))
