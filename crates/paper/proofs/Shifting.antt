-- Shift in the scanner reading: what it does at its place, and that no number of bytes and no
-- refusal depends on it.
-- Assumes nothing.
use mathlib.Core.Path.{◌≡◌, refl, ap, ◌∙◌, sym}
use mathlib.Core.Logic.{◌↔◌, inl, inr}
use mathlib.Core.Bool.{Bool, true, false, ◌||◌}
use mathlib.Core.List.{List, [], ◌∷◌, ◌++◌, append_assoc}
use Prim.Native.Nat.{ℕ, ◌<◌}
use native.Mathlib.Omega.{arith}
use lib.Dec.{eqb, leb}
use lib.ListN.{length, get_or, length-append}
use borrow.Author.Tests.{lt-ltb, le-ltb, ne_eqb}
use native.Mathlib.Decide.{dec_lt}
use Rattle.std.specs.Prelude.{if◌then◌else◌}
use Rattle.helpers.specs.Answers.{same, Test, refuses, passes, ◌then◌, refuse, accept, whole, into}
use Rattle.helpers.specs.Terms.{bare}
use Rattle.helpers.proofs.Gives.{bare_refuse}
use Rattle.helpers.proofs.Below.{at}
use Rattle.paper.specs.Iso15417.{Set, before, A, B, C, SHIFT, column, digits, start_of, sent, is_shift, other, read_in, next, scanned_from, scanned}
use Rattle.paper.specs.Rules.{message}
use Rattle.paper.specs.Jobs.{scan, of_list}
use Rattle.paper.specs.Shift.{unshifted, scan_unshifted, set_after, AOrB, has_shift, NoTextFirst}
use Rattle.paper.proofs.Computes.{rules_computes}
use Rattle.helpers.proofs.Same.{as_equal, as_same}
use Rattle.paper.proofs.Codes.{next_low}

-- ---- the reading at a list that is cut in two

-- does a Shift stand right before what follows these numbers?
abbrev shift_after : Bool → Set → List ℕ → Bool
shift_after t s [] = t
shift_after t s (m ∷ ms) = shift_after (is_shift s m) (next s m) ms

scanned_parts : (t : Bool) (s : Set) (xs ys : List ℕ) → scanned_from t s (xs ++ ys) ≡ scanned_from t s xs ++ scanned_from (shift_after t s xs) (set_after s xs) ys
unfolding scanned_from set_after
scanned_parts t s [] ys = refl
scanned_parts t s (m ∷ ms) ys =
    rw (scanned_parts (is_shift s m) (next s m) ms ys)
    (sym (append_assoc (sent (read_in t s m) m) (scanned_from (is_shift s m) (next s m) ms) (scanned_from (shift_after (is_shift s m) (next s m) ms) (set_after (next s m) ms) ys)))

-- ---- what stands at a Shift, and after it

-- a Shift gives nothing, whether another stands before it or not
shift_here : (t : Bool) (s : Set) (ms : List ℕ) → AOrB s → scanned_from t s (98 ∷ ms) ≡ scanned_from true s ms
unfolding scanned_from read_in is_shift next sent other
shift_here true s ms (inl e) = rw e refl
shift_here true s ms (inr e) = rw e refl
shift_here false s ms (inl e) = rw e refl
shift_here false s ms (inr e) = rw e refl

-- 98 in set C is the pair 98
pair_here : (t : Bool) (ms : List ℕ) → scanned_from t C (98 ∷ ms) ≡ digits 98 ++ scanned_from false C ms
unfolding scanned_from read_in is_shift next sent other
pair_here true ms = refl
pair_here false ms = refl

-- a number of 96 on is read alike with and without a Shift before it
no_text : (t : Bool) (s : Set) (ms : List ℕ) → NoTextFirst ms → scanned_from t s ms ≡ scanned_from false s ms
unfolding scanned_from read_in
no_text t s [] h = refl
no_text true s (m ∷ ms) h = rw (le-ltb m 96 h)
no_text false s (m ∷ ms) h = refl

-- the standard's two columns of text, held against what is sent: two tests, which antt computes at
-- every number below 96
sent_column : (s : Set) (m : ℕ) → AOrB s → m < 96 → sent s m ≡ message (get_or (column s) m SHIFT)
unfolding rules_computes
sent_column s m (inl e) h = rw e (as_same _ _ (at (λ k. same (sent A k) (message (get_or (column A) k SHIFT))) 96 tt m h))
sent_column s m (inr e) h = rw e (as_same _ _ (at (λ k. same (sent B k) (message (get_or (column B) k SHIFT))) 96 tt m h))

other_is : (s : Set) → AOrB s → AOrB (other s)
unfolding other
other_is s (inl e) = inr (rw e refl)
other_is s (inr e) = inl (rw e refl)

-- text is no Shift
text_no_shift : (s : Set) (m : ℕ) → m < 96 → is_shift s m ≡ false
unfolding is_shift
text_no_shift before m h = refl
text_no_shift A m h = ne_eqb m 98 (λ e. omega arith)
text_no_shift B m h = ne_eqb m 98 (λ e. omega arith)
text_no_shift C m h = refl

text_here : (s : Set) (m : ℕ) (ms : List ℕ) → AOrB s → m < 96
    → scanned_from true s (m ∷ ms) ≡ message (get_or (column (other s)) m SHIFT) ++ scanned_from false s ms
unfolding scanned_from read_in
text_here s m ms a h = rw (lt-ltb m 96 h, sent_column (other s) m (other_is s a) h, next_low s m (omega arith), text_no_shift s m h)

-- after a START the numbers are read in its set, with no Shift before them
start_here : (s : Set) (ms : List ℕ) → scanned_from false before (start_of s ∷ ms) ≡ scanned_from false s ms
unfolding scanned_from read_in is_shift next sent start_of
start_here before ms = refl
start_here A ms = refl
start_here B ms = refl
start_here C ms = refl

-- ---- the promises at any place

pub shift_reads : (xs : List ℕ) (m : ℕ) (ms : List ℕ) → AOrB (set_after before xs) → m < 96
    → scanned (xs ++ (98 ∷ m ∷ ms))
    ≡ scanned xs ++ (message (get_or (column (other (set_after before xs))) m SHIFT) ++ scanned (start_of (set_after before xs) ∷ ms))
unfolding scanned
shift_reads xs m ms a h =
    let s = set_after before xs in
    scanned_parts false before xs (98 ∷ m ∷ ms)
    ∙ ap (◌++◌ (scanned xs)) (shift_here (shift_after false before xs) s (m ∷ ms) a ∙ text_here s m ms a h ∙ rw (start_here s ms))

pub shift_none : (xs ms : List ℕ) → AOrB (set_after before xs) → NoTextFirst ms → scanned (xs ++ (98 ∷ ms)) ≡ scanned (xs ++ ms)
unfolding scanned
shift_none xs ms a h =
    let s = set_after before xs in
    let t = shift_after false before xs in
    scanned_parts false before xs (98 ∷ ms)
    ∙ ap (◌++◌ (scanned xs)) (shift_here t s ms a ∙ no_text true s ms h ∙ sym (no_text t s ms h))
    ∙ sym (scanned_parts false before xs ms)

pub shift_pair : (xs ms : List ℕ) → set_after before xs ≡ C → scanned (xs ++ (98 ∷ ms)) ≡ scanned xs ++ (digits 98 ++ scanned (start_of C ∷ ms))
unfolding scanned
shift_pair xs ms e =
    scanned_parts false before xs (98 ∷ ms)
    ∙ ap (◌++◌ (scanned xs)) (rw (e, start_here C ms) (pair_here (shift_after false before xs) ms))

-- ---- as before

both_false : (a b : Bool) → (a || b) ≡ false → (a ≡ false) × (b ≡ false)
both_false true b e = (e, cc)
both_false false b e = (refl, e)

plain_reading : (s : Set) (ms : List ℕ) → has_shift s ms ≡ false → scanned_from false s ms ≡ unshifted s ms
unfolding scanned_from read_in unshifted has_shift
plain_reading s [] e = refl
plain_reading s (m ∷ ms) e =
    let both = both_false (is_shift s m) (has_shift (next s m) ms) e in
    rw both.0 (ap (◌++◌ (sent s m)) (plain_reading (next s m) ms both.1))

pub scan_as_before : (room : ℕ) (s : List ℕ) → has_shift before s ≡ false → scan room s ≡ scan_unshifted room s
unfolding scan scan_unshifted scanned
scan_as_before room s e = ap (λ b. of_list room s (whole b)) (plain_reading before s e)

-- ---- as many bytes as before

-- the other set gives one byte where a set does
other_length : (s : Set) (m : ℕ) → m < 96 → length (sent (other s) m) ≡ length (sent s m)
unfolding rules_computes
other_length before m h = refl
other_length A m h = as_equal _ _ (at (λ k. eqb (length (sent B k)) (length (sent A k))) 96 tt m h)
other_length B m h = as_equal _ _ (at (λ k. eqb (length (sent A k)) (length (sent B k))) 96 tt m h)
other_length C m h = refl

read_length : (t : Bool) (s : Set) (m : ℕ) → length (sent (read_in t s m) m) ≡ length (sent s m)
unfolding read_in
read_length false s m = refl
read_length true s m = elim (dec_lt m 96) [ yes h ↦ rw (lt-ltb m 96 h) (other_length s m h) | no h ↦ rw (le-ltb m 96 (omega arith)) ]

scanned_length : (t : Bool) (s : Set) (ms : List ℕ) → length (scanned_from t s ms) ≡ length (unshifted s ms)
unfolding scanned_from unshifted
scanned_length t s [] = refl
scanned_length t s (m ∷ ms) =
    let now = length-append (sent (read_in t s m) m) (scanned_from (is_shift s m) (next s m) ms) in
    let was = length-append (sent s m) (unshifted (next s m) ms) in
    omega (arith, now, was, read_length t s m, scanned_length (is_shift s m) (next s m) ms)

pub scan_same_length : (s : List ℕ) → length (scanned s) ≡ length (unshifted before s)
unfolding scanned
scan_same_length s = scanned_length false before s

-- what is answered beside the output depends on its length alone
bare_short : (b : Bool) (n : ℕ) (x y : List ℕ) → bare (if b then accept n x else refuse 5 n) ≡ bare (if b then accept n y else refuse 5 n)
unfolding bare
bare_short true n x y = refl
bare_short false n x y = refl

bare_into : (room : ℕ) (t u : Test) (x y : List ℕ) → length x ≡ length y → bare (into room (t then u then whole x)) ≡ bare (into room (t then u then whole y))
unfolding ◌then◌ into whole
bare_into room (refuses k m) u x y h = refl
bare_into room passes (refuses k m) x y h = refl
bare_into room passes passes x y h = rw (← h) (bare_short (leb (length x) room) (length x) x y)

pub scan_bare : (room : ℕ) (s : List ℕ) → bare (scan room s) ≡ bare (scan_unshifted room s)
unfolding scan scan_unshifted of_list
scan_bare room s = bare_into room _ _ (scanned s) (unshifted before s) (scan_same_length s)

pub scan_same_refusal : (room : ℕ) (s : List ℕ) (k m : ℕ) → (scan room s ≡ refuse k m) ↔ (scan_unshifted room s ≡ refuse k m)
unfolding bare
scan_same_refusal room s k m =
    (λ e. bare_refuse _ k m (sym (scan_bare room s) ∙ ap bare e), λ e. bare_refuse _ k m (scan_bare room s ∙ ap bare e))
