-- The numbers of the code sets: held against the standard's table, bounded, turned round; and what
-- a scanner sends for them.
-- Assumes nothing.
use mathlib.Core.Path.{◌≡◌, refl, ap, ◌∙◌, sym}
use mathlib.Core.Logic.{◌↔◌, ◌⊎◌, inl, inr}
use mathlib.Core.Bool.{Bool, true, false, ◌&&◌}
use mathlib.Core.Option.{Option, none, some}
use mathlib.Core.List.{List, [], ◌∷◌}
use Prim.Native.Nat.{ℕ, ◌+◌, ◌-◌, ◌*◌, ◌<◌, ◌≤◌}
use native.Mathlib.Omega.{arith}
use native.Mathlib.Nat.{le_trans}
use lib.Dec.{leb, ltb, eqb, T}
use lib.ListN.{length, get_or, length-append}
use borrow.Author.Tests.{leb-true, ltb-true, ne_eqb}
use Rattle.std.specs.Prelude.{if◌then◌else◌}
use Rattle.helpers.specs.Answers.{Each, accept, whole}
use Rattle.paper.specs.Iso15417.{Set, before, A, B, C, ascii, digits, sent, is_shift, read_in, next, scanned_from, scanned, column}
use Rattle.paper.specs.Crate.{÷, Span, span, spans, number_in, point_in, letters}
use Rattle.paper.proofs.Computes.{crate_computes, rules_computes}
use Rattle.paper.specs.Rules.{spot, differences, writes, sends, switches, shifts}
use Rattle.paper.specs.Jobs.{scan}
use Rattle.helpers.proofs.Answering.{and_true, each_append, accept_output}
use Rattle.helpers.proofs.Below.{below, at as each_below, and_left, and_right}
use Rattle.helpers.proofs.Same.{as_equal, as_least}
use Rattle.paper.proofs.Lists.{symbol_list}

-- ---- the standard's table

pub numbers_written : differences writes ≡ spot B 95 ∷ []
unfolding rules_computes
numbers_written = refl

pub numbers_sent : differences sends ≡ []
unfolding rules_computes
numbers_sent = refl

pub numbers_switch : differences switches ≡ []
unfolding rules_computes
numbers_switch = refl

pub numbers_shift : differences shifts ≡ []
unfolding rules_computes
numbers_shift = refl

pub numbers_differ : (letters B 95 ≡ ÷ ∷ []) × (get_or (column B) 95 (ascii 0) ≡ ascii 0x7F)
unfolding rules_computes
numbers_differ = (refl, refl)

pub numbers_all : (length (column A) ≡ 103) × (length (column B) ≡ 103) × (length (column C) ≡ 103)
unfolding rules_computes
numbers_all = (refl, refl, refl)

-- ---- a span the other way round

-- the code points of the numbers are the numbers of the code points of these spans
flipped : List Span → List Span
flipped [] = []
flipped (span a b n ∷ t) = span n (n + (b - a)) a ∷ flipped t

point_flipped : (t : List Span) (m : ℕ) → point_in t m ≡ number_in (flipped t) m
unfolding flipped point_in number_in
point_flipped [] m = refl
point_flipped (span a b n ∷ t) m = ap (λ r. if leb n m && leb m (n + (b - a)) then some (a + (m - n)) else r) (point_flipped t m)

-- ---- bounds

-- no span goes below lo or above hi
within : ℕ → ℕ → List Span → Bool
within lo hi [] = true
within lo hi (span a b n ∷ t) = (leb lo a && leb b hi) && within lo hi t

-- c is held by the first span, or has its number by the others
held_or_other : (a b v c m : ℕ) (rest : Option ℕ) (h : Bool) → (leb a c && leb c b) ≡ h → (if h then some v else rest) ≡ some m
    → ((a ≤ c) × (c ≤ b)) ⊎ (rest ≡ some m)
held_or_other a b v c m rest true e r = let both = and_true (leb a c) (leb c b) e in inl (leb-true a c both.0, leb-true c b both.1)
held_or_other a b v c m rest false e r = inr r

within_bounds : (lo hi : ℕ) (t : List Span) → T (within lo hi t) → (c m : ℕ) → number_in t c ≡ some m → (lo ≤ c) × (c ≤ hi)
unfolding within number_in
within_bounds lo hi [] w c m e = absurd (let z : ◌≡◌ {A = ℕ} 0 1 = cc in omega arith)
within_bounds lo hi (span a b n ∷ t) w c m e =
    let ends = and_left (leb lo a && leb b hi) (within lo hi t) w in
    let low = as_least lo a (and_left (leb lo a) (leb b hi) ends) in
    let high = as_least b hi (and_right (leb lo a) (leb b hi) ends) in
    elim (held_or_other a b (n + (c - a)) c m (number_in t c) (leb a c && leb c b) refl e) [
      | inl h ↦ (le_trans low h.0, le_trans h.1 high)
      | inr r ↦ within_bounds lo hi t (and_right (leb lo a && leb b hi) (within lo hi t) w) c m r
    ]

-- the least and the greatest number of a set
abbrev pub least : Set → ℕ
least before = 103
least A = 0
least B = 0
least C = 0

abbrev pub greatest : Set → ℕ
greatest before = 105
greatest A = 102
greatest B = 102
greatest C = 102

points_within : (s : Set) → T (within 0 0x181 (spans s))
unfolding within crate_computes
points_within before = tt
points_within A = tt
points_within B = tt
points_within C = tt

numbers_within : (s : Set) → T (within (least s) (greatest s) (flipped (spans s)))
unfolding within flipped crate_computes
numbers_within before = tt
numbers_within A = tt
numbers_within B = tt
numbers_within C = tt

greatest_below : (s : Set) (m : ℕ) → m ≤ greatest s → m < 106
greatest_below before m h = omega arith
greatest_below A m h = omega arith
greatest_below B m h = omega arith
greatest_below C m h = omega arith

number_point : (s : Set) (c m : ℕ) → number_in (spans s) c ≡ some m → c < 0x182
number_point s c m e = let high = (within_bounds 0 0x181 (spans s) (points_within s) c m e).1 in omega arith

pub point_between : (s : Set) (m c : ℕ) → point_in (spans s) m ≡ some c → (least s ≤ m) × (m ≤ greatest s)
point_between s m c e =
    within_bounds (least s) (greatest s) (flipped (spans s)) (numbers_within s) m c (sym (point_flipped (spans s) m) ∙ e)

-- ---- there and back

is_some : Option ℕ → ℕ → Bool
is_some none k = false
is_some (some j) k = eqb j k

is_some_law : (o : Option ℕ) (k : ℕ) → T (is_some o k) → o ≡ some k
unfolding is_some
is_some_law none k t = absurd t
is_some_law (some j) k t = ap some (as_equal j k t)

-- where f gives a number for k, does g give k for that number?
back : Option ℕ → (ℕ → Option ℕ) → ℕ → Bool
back none g k = true
back (some j) g k = is_some (g j) k

back_law : (f g : ℕ → Option ℕ) (n : ℕ) → T (below (λ k. back (f k) g k) n) → (k j : ℕ) → k < n → f k ≡ some j → g j ≡ some k
unfolding back
back_law f g n t k j l e = is_some_law (g j) k (rw e at (each_below (λ i. back (f i) g i) n t k l))

numbers_there : (s : Set) → T (below (λ c. back (number_in (spans s) c) (point_in (spans s)) c) 0x182)
unfolding back is_some crate_computes
numbers_there before = tt
numbers_there A = tt
numbers_there B = tt
numbers_there C = tt

points_there : (s : Set) → T (below (λ m. back (point_in (spans s) m) (number_in (spans s)) m) 106)
unfolding back is_some crate_computes
points_there before = tt
points_there A = tt
points_there B = tt
points_there C = tt

pub numbers_back : (s : Set) (c m : ℕ) → (number_in (spans s) c ≡ some m) ↔ (point_in (spans s) m ≡ some c)
numbers_back s c m = (
  λ e. back_law (number_in (spans s)) (point_in (spans s)) 0x182 (numbers_there s) c m (number_point s c m e) e,
  λ e. back_law (point_in (spans s)) (number_in (spans s)) 106 (points_there s) m c (greatest_below s m (point_between s m c e).1) e,
)

pub number_between : (s : Set) (c m : ℕ) → number_in (spans s) c ≡ some m → (least s ≤ m) × (m ≤ greatest s)
number_between s c m e = point_between s m c ((numbers_back s c m).0 e)

pub number_bound : (s : Set) (c m : ℕ) → number_in (spans s) c ≡ some m → (c < 0x182) × (m < 106)
number_bound s c m e = (number_point s c m e, greatest_below s m (number_between s c m e).1)

-- ---- the set after a number

below_99 : {m : ℕ} → m < 99 → (k : ℕ) → 99 ≤ k → eqb m k ≡ false
below_99 {m} h k l = ne_eqb m k (λ e. omega arith)

-- nothing below 99 switches
pub next_low : (s : Set) (m : ℕ) → m < 99 → next s m ≡ s
unfolding next
next_low before m h = rw (below_99 h 103 (omega arith), below_99 h 104 (omega arith), below_99 h 105 (omega arith))
next_low A m h = rw (below_99 h 99 (omega arith), below_99 h 100 (omega arith))
next_low B m h = rw (below_99 h 99 (omega arith), below_99 h 101 (omega arith))
next_low C m h = rw (below_99 h 100 (omega arith), below_99 h 101 (omega arith))

-- ---- what a scanner sends

-- at most two bytes of seven bits
abbrev Bytes : List ℕ → Type 0
Bytes b = Each (λ c. c < 128) b × (length b ≤ 2)

bytes_if : (t : Bool) (x y : List ℕ) → (t ≡ true → Bytes x) → Bytes y → Bytes (if t then x else y)
bytes_if true x y f b = f refl
bytes_if false x y f b = b

no_bytes : Bytes []
no_bytes = (tt, omega arith)

one_byte : (c : ℕ) → c < 128 → Bytes (c ∷ [])
one_byte c h = ((h, tt), omega arith)

two_digits : (m : ℕ) → m < 100 → Bytes (digits m)
unfolding digits
two_digits m h = ((omega arith, (omega arith, tt)), omega arith)

sent_bytes : (s : Set) (m : ℕ) → Bytes (sent s m)
unfolding sent
sent_bytes before m = no_bytes
sent_bytes A m = bytes_if (ltb m 64) _ _ (λ e. one_byte (m + 32) (omega (arith, ltb-true m 64 e)))
    (bytes_if (ltb m 96) _ _ (λ e. one_byte (m - 64) (omega (arith, ltb-true m 96 e))) no_bytes)
sent_bytes B m = bytes_if (ltb m 96) _ _ (λ e. one_byte (m + 32) (omega (arith, ltb-true m 96 e))) no_bytes
sent_bytes C m = bytes_if (ltb m 100) _ _ (λ e. two_digits m (ltb-true m 100 e)) no_bytes

pub sent_seven_bits : (s : Set) (m : ℕ) → Each (λ c. c < 128) (sent s m)
sent_seven_bits s m = (sent_bytes s m).0

pub scanned_seven_bits : (shifted : Bool) (s : Set) (ms : List ℕ) → Each (λ c. c < 128) (scanned_from shifted s ms)
unfolding scanned_from
scanned_seven_bits shifted s [] = tt
scanned_seven_bits shifted s (m ∷ ms) =
    let set = read_in shifted s m in
    each_append (λ c. c < 128) (sent set m) (scanned_from (is_shift s m) (next s m) ms) (sent_seven_bits set m) (scanned_seven_bits (is_shift s m) (next s m) ms)

scanned_short : (shifted : Bool) (s : Set) (ms : List ℕ) → length (scanned_from shifted s ms) ≤ 2 * length ms
unfolding scanned_from
scanned_short shifted s [] = omega arith
scanned_short shifted s (m ∷ ms) =
    let set = read_in shifted s m in
    omega (arith, length-append (sent set m) (scanned_from (is_shift s m) (next s m) ms), (sent_bytes set m).1, scanned_short (is_shift s m) (next s m) ms)

pub scanned_short_before : (m : ℕ) (ms : List ℕ) → length (scanned (m ∷ ms)) ≤ 2 * length ms
unfolding scanned scanned_from read_in is_shift sent
scanned_short_before m ms = scanned_short false (next before m) ms

pub scan_seven_bits : (room : ℕ) (s : List ℕ) (n : ℕ) (b : List ℕ) → scan room s ≡ accept n b → Each (λ c. c < 128) b
unfolding scan scanned whole
scan_seven_bits room s n b e = rw (accept_output (symbol_list room s (whole (scanned s)) e).1) at (scanned_seven_bits false before s)
