-- A walk over the numbers of a symbol list, each giving its elements in its place: the paper's
-- spelling and scanner reading are such walks; a loop that counts the elements, and one that stores
-- them.
-- Assumes nothing.
use Prim.Native.Nat.{ℕ, suc, ◌+◌, ◌*◌, ◌<◌, ◌≤◌}
use mathlib.Core.Path.{◌≡◌, refl, sym, ap, ◌∙◌}
use mathlib.Core.Bool.{Bool, true, false}
use mathlib.Core.List.{List, [], ◌∷◌, ◌++◌}
use native.Mathlib.Nat.{add-zero, add-suc, suc-add}
use native.Mathlib.Numerals.{add-one}
use native.Mathlib.Omega.{arith}
use lib.ListN.{length, get_or, set, drop, drop_of_length-le, length-append}
use lib.Seq.{drop-cons, length-sets, sets}
use Rattle.std.proofs.lemmas.Bool.Decides.{nat_tests}
use Rattle.std.specs.Prelude.{if◌then◌else◌}
use Rattle.paper.specs.Iso15417.{Set, before, A, B, C, next, sent, is_shift, other, read_in, scanned, scanned_from}
use Rattle.paper.specs.Crate.{letters, spelled, spell_from}
use Rattle.paper.specs.Shift.{unshifted}
use Rattle.paper.proofs.Codes.{next_low}
use Rattle.speller.specs.Walked.{text_after, walked, output}

-- ---- the walks are those of the paper

pub walked_letters : (s t : Set) (ms : List ℕ) → walked (λ s t m. letters s m) s t ms ≡ spell_from s ms
unfolding walked spell_from
walked_letters s t [] = refl
walked_letters s t (m ∷ ms) = rw (walked_letters (next s m) (text_after s m) ms)

-- and without a look at Shift, the scanner reading from before request 1
pub walked_sent : (s t : Set) (ms : List ℕ) → walked (λ s t m. sent s m) s t ms ≡ unshifted s ms
unfolding walked unshifted
walked_sent s t [] = refl
walked_sent s t (m ∷ ms) = rw (walked_sent (next s m) (text_after s m) ms)

pub output_spelled : (s : List ℕ) → output (λ s t m. letters s m) s ≡ spelled s
unfolding spelled
output_spelled s = walked_letters before before s

-- the set that text is read in, right after a Shift or not
abbrev text_in : Bool → Set → Set
text_in shifted s = if shifted then other s else s

-- for a number of 96 on, A and B both give nothing
sent_none : (s : Set) (m : ℕ) → 96 ≤ m → sent (other s) m ≡ sent s m
unfolding sent other
sent_none before m h = refl
sent_none A m h = grind (arith, nat_tests)
sent_none B m h = grind (arith, nat_tests)
sent_none C m h = refl

-- so all numbers may be read in the set of text
sent_text : (shifted : Bool) (s : Set) (m : ℕ) → sent (text_in shifted s) m ≡ sent (read_in shifted s m) m
unfolding read_in
sent_text false s m = refl
sent_text true s m = grind (arith, nat_tests, sent_none s m)

-- 98 moves no set; so it leads text to the other set where it is a Shift, and else to the same
text_after_lem : (s : Set) (m : ℕ) → text_after s m ≡ text_in (is_shift s m) (next s m)
unfolding text_after is_shift other
text_after_lem before m = grind (arith, nat_tests, next_low)
text_after_lem A m = grind (arith, nat_tests, next_low)
text_after_lem B m = grind (arith, nat_tests, next_low)
text_after_lem C m = grind (arith, nat_tests, next_low)

pub walked_scanned : (t : Bool) (s : Set) (ms : List ℕ) → walked (λ s t m. sent t m) s (text_in t s) ms ≡ scanned_from t s ms
unfolding walked scanned_from
walked_scanned t s [] = refl
walked_scanned t s (m ∷ ms) = rw (sent_text t s m, text_after_lem s m, walked_scanned (is_shift s m) (next s m) ms)

pub output_scanned : (s : List ℕ) → output (λ s t m. sent t m) s ≡ scanned s
unfolding scanned
output_scanned s = walked_scanned false before s

-- ---- a walk at a number, and at the end

module _ {T : Type 0} (say : Set → Set → ℕ → List T) (ms : List ℕ) (s t : Set) (i : ℕ) where
  -- what the numbers from place i on give, from these sets on
  abbrev pub rest : List T
  rest = walked say s t (drop i ms)

  -- what the number at place i gives
  abbrev here : List T
  here = say s t (get_or ms i 0)

  -- and what those after it give
  abbrev left : List T
  left = walked say (next s (get_or ms i 0)) (text_after s (get_or ms i 0)) (drop (i + 1) ms)

  walked_here : i < length ms → rest ≡ here ++ left
  unfolding walked
  walked_here h = rw (add-one i, drop-cons ms i 0 h) refl

  walked_length : i < length ms → length rest ≡ length here + length left
  walked_length h = ap length (walked_here h) ∙ length-append here left

  walked_done : length ms ≤ i → rest ≡ []
  unfolding walked
  walked_done h = rw (drop_of_length-le ms h) refl

-- ---- counting

-- A loop that has counted what the numbers before place i give, n elements, and has come to this
-- set; as many are left, right after a Shift or not.
pub record Counting {T : Type 0} (say : Set → Set → ℕ → List T) (ms : List ℕ) (s : Set) (n i : ℕ) : Type 0 where
  pub short : n ≤ 2 * i
  pub left : n + length (rest say ms s s i) ≡ length (output say ms)

module _ {T : Type 0} (say : Set → Set → ℕ → List T) (as_many : (s : Set) (m : ℕ) → length (say s (other s) m) ≡ length (say s s m)) where
  as_many_shifted : (b : Bool) (s : Set) (ms : List ℕ) → length (walked say s (text_in b s) ms) ≡ length (walked say s s ms)
  unfolding walked
  as_many_shifted false s ms = refl
  as_many_shifted true s [] = refl
  as_many_shifted true s (m ∷ ms) = simp length-append (omega (arith, as_many s m))

  as_many_after : (s : Set) (m : ℕ) (ms : List ℕ) → length (walked say (next s m) (text_after s m) ms) ≡ length (walked say (next s m) (next s m) ms)
  as_many_after s m ms = rw (text_after_lem s m) (as_many_shifted (is_shift s m) (next s m) ms)

  pub counting_turn : {ms : List ℕ} {s s' : Set} {n i k : ℕ} → Counting say ms s n i → i < length ms → k ≡ length (say s s (get_or ms i 0)) → k ≤ 2
      → s' ≡ next s (get_or ms i 0) → Counting say ms s' (n + k) (i + 1)
  counting_turn {ms} {s} {i = i} p h e b q =
      record {
        short = omega (arith, p.short);
        left = rw q (omega (arith, p.left, walked_length say ms s s i h, as_many_after s (get_or ms i 0) (drop (i + 1) ms)));
      }

module _ {T : Type 0} {say : Set → Set → ℕ → List T} {ms : List ℕ} where
  pub counting_begin : Counting say ms before 0 0
  counting_begin = record { short = omega arith; left = omega arith }

  pub counting_end : {s : Set} {n i : ℕ} → Counting say ms s n i → length ms ≤ i → n ≡ length (output say ms)
  counting_end {s} {i = i} p h = omega (arith, p.left, ap length (walked_done say ms s s i h))

-- ---- storing

-- a run of stores is one run after another; `sets_append` of helpers is the same of numbers
sets_then : {T : Type 0} → (a b l : List T) (i : ℕ) → sets l i (a ++ b) ≡ sets (sets l i a) (i + length a) b
sets_then [] b l i = ap (λ (k : ℕ). sets l k b) (sym (add-zero i))
sets_then (x ∷ a) b l i =
    sets_then a b (set l i x) (suc i)
    ∙ ap (λ (k : ℕ). sets (sets (set l i x) (suc i) a) k b) (suc-add i (length a) ∙ sym (add-suc i (length a)))

-- A loop that has stored what the numbers before place i give from place 0 of l₀ on, up to place
-- `at`, and has come to these sets.
pub record Filling {T : Type 0} (say : Set → Set → ℕ → List T) (ms : List ℕ) (l₀ : List T) (s t : Set) (l : List T) (at i : ℕ) : Type 0 where
  pub fits : at + length (rest say ms s t i) ≤ length l
  -- the stores that are left, made now, give what the whole run gives
  pub left : sets l at (rest say ms s t i) ≡ sets l₀ 0 (output say ms)

module _ {T : Type 0} {say : Set → Set → ℕ → List T} {ms : List ℕ} {l₀ : List T} where
  pub filling_begin : length (output say ms) ≤ length l₀ → Filling say ms l₀ before before l₀ 0 0
  filling_begin h = record { fits = omega arith; left = refl }

  pub filling_fits : {l vs : List T} {s t : Set} {at i : ℕ} → Filling say ms l₀ s t l at i → i < length ms → vs ≡ say s t (get_or ms i 0)
      → at + length vs ≤ length l
  filling_fits {s = s} {t = t} {i = i} p h e = rw e (omega (arith, p.fits, walked_length say ms s t i h))

  pub filling_turn : {l l' vs : List T} {s t s' t' : Set} {at r i : ℕ} → Filling say ms l₀ s t l at i → i < length ms → vs ≡ say s t (get_or ms i 0)
      → l' ≡ sets l at vs → r ≡ at + length vs → s' ≡ next s (get_or ms i 0) → t' ≡ text_after s (get_or ms i 0) → Filling say ms l₀ s' t' l' r (i + 1)
  filling_turn {l = l} {vs = vs} {s = s} {t = t} {at = at} {i = i} p h e f k q u =
      record {
        fits = rw (q, u) (omega (arith, p.fits, walked_length say ms s t i h, ap length e, ap length f, length-sets l at vs));
        left = rw (f, k, q, u, e) (sym (sets_then (here say ms s t i) (left say ms s t i) l at) ∙ ap (sets l at) (sym (walked_here say ms s t i h)) ∙ p.left);
      }

  pub filling_end : {l : List T} {s t : Set} {at i : ℕ} → Filling say ms l₀ s t l at i → length ms ≤ i → l ≡ sets l₀ 0 (output say ms)
  filling_end {s = s} {t = t} {i = i} p h = rw (walked_done say ms s t i h) at p.left
