-- A line has at most 2,048 numbers, and what it gives has at most 22,560 bytes.
-- Assumes nothing.
use Prim.Native.Nat.{ℕ, zero, suc, ◌+◌, ◌*◌, ◌≤◌}
use mathlib.Core.Path.{◌≡◌, refl}
use mathlib.Core.Bool.{Bool, true, false}
use mathlib.Core.List.{List, [], ◌∷◌, ◌++◌, map}
use native.Mathlib.Omega.{arith}
use borrow.Author.Tests.{leb-true, le-leb}
use lib.Dec.{leb, ltb}
use lib.ListN.{length, length-append, length-map}
use Rattle.std.specs.Prelude.{if◌then◌else◌}
use Rattle.helpers.specs.Answers.{Answer, refuse, accept}
use Rattle.paper.specs.Jobs.{encode, row_length, most}
use Rattle.line.specs.Line.{Kind, hex, blank, neither, kind_of, goes_on, misplaced, effect, Content, code_points, other_form, with_point, comes_of, content_from, line_limit, content_of, decimal, answer_line, content_line, line_out}
use Rattle.line.proofs.Bounds.{Low, encode_low}
use Rattle.line.proofs.Decimals.{decimal_few}

-- ---- how many numbers: each takes a digit and a blank, but the last one has no blank

abbrev Few : ℕ → Content → Type 0
Few n (code_points x) = 2 * length x ≤ n
Few n other_form = Unit {0}

few_more : (n m : ℕ) → n ≤ m → (f : Content) → Few n f → Few m f
few_more n m h (code_points x) l = omega arith
few_more n m h other_form l = tt

put_few : (n v : ℕ) (f : Content) → Few n f → Few (n + 2) (with_point v f)
unfolding with_point
put_few n v (code_points x) h = omega arith
put_few n v other_form h = tt

-- with a digit read the number's first byte is spent
spent : ℕ → ℕ
spent zero = 1
spent (suc k) = 2

read_few : (k v n : ℕ) (t : Kind) (rest : ℕ → ℕ → Content) → ((j w : ℕ) → Few (n + spent j) (rest j w)) → Few (suc n + spent k) (comes_of (effect k v t) v rest)
unfolding effect comes_of spent
read_few zero v n (hex d) rest h = few_more (n + 2) (suc n + 1) (omega arith) (rest 1 (16 * v + d)) (h 1 (16 * v + d))
read_few zero v n blank rest h = tt
read_few zero v n neither rest h = tt
read_few (suc k) v n (hex d) rest h = hex_case (ltb (suc k) 6)
  where
    hex_case : (b : Bool) → Few (suc n + 2) (comes_of (if b then goes_on (suc (suc k)) (16 * v + d) else misplaced) v rest)
    hex_case true = few_more (n + 2) (suc n + 2) (omega arith) (rest (suc (suc k)) (16 * v + d)) (h (suc (suc k)) (16 * v + d))
    hex_case false = tt
read_few (suc k) v n blank rest h = rw (le-leb 1 (suc k) (omega arith)) (few_more (n + 1 + 2) (suc n + 2) (omega arith) (with_point v (rest 0 0)) (put_few (n + 1) v (rest 0 0) (h 0 0)))
read_few (suc k) v n neither rest h = tt

form_few : (k v : ℕ) (cs : List ℕ) → Few (length cs + spent k) (content_from k v cs)
unfolding content_from spent
form_few zero v [] = tt
form_few (suc k) v [] = rw (le-leb 1 (suc k) (omega arith)) (omega arith)
form_few k v (c ∷ cs) = read_few k v (length cs) (kind_of c) (λ j w. content_from j w cs) (λ j w. form_few j w cs)

line_few : (line : List ℕ) → Few 4097 (content_of line)
unfolding content_of line_limit spent
line_few [] = omega arith
line_few (c ∷ cs) = long_case (leb (length (c ∷ cs)) 4096) refl
  where
    long_case : (b : Bool) → leb (length (c ∷ cs)) 4096 ≡ b → Few 4097 (if b then content_from 0 0 (c ∷ cs) else other_form)
    long_case false e = tt
    long_case true e = few_more (length (c ∷ cs) + 1) 4097 (omega (arith, leb-true (length (c ∷ cs)) 4096 e)) (content_from 0 0 (c ∷ cs)) (form_few 0 0 (c ∷ cs))

-- ---- how many bytes

answer_line_short : (top : ℕ) (a : Answer) → Low top a → top ≤ 2048 → length (answer_line a) ≤ 22559
unfolding answer_line
answer_line_short top (refuse k m) h l =
    omega (arith, length-append (decimal k) (32 ∷ decimal m), decimal_few 3 k (omega arith), decimal_few 3 m (omega arith))
answer_line_short top (accept n r) h l =
    omega (arith, length-append (decimal 0 ++ (32 ∷ decimal n)) (32 ∷ map (λ c. 48 + c) r), length-append (decimal 0) (32 ∷ decimal n), length-map r (λ c. 48 + c), decimal_few 0 0 (omega arith), decimal_few 3 n (omega arith))

content_short : (f : Content) → Few 4097 f → length (content_line f) ≤ 22559
unfolding content_line row_length most
content_short (code_points x) h = answer_line_short (length x) (encode (row_length most) x) (encode_low (row_length most) x (omega arith) (omega arith)) (omega arith)
content_short other_form h = omega arith

pub line_short : (line : List ℕ) → length (line_out line) ≤ 22560
unfolding line_out
line_short line = omega (arith, length-append (content_line (content_of line)) (10 ∷ []), content_short (content_of line) (line_few line))

-- and at least its newline
pub line_some : (line : List ℕ) → 1 ≤ length (line_out line)
unfolding line_out
line_some line = omega (arith, length-append (content_line (content_of line)) (10 ∷ []))
