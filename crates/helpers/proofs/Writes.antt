-- Laws of `sets`, a run of stores, and of what is left of it to do.
-- Assumes nothing.
use Prim.Native.Nat.{ℕ, suc, ◌+◌, ◌<◌, ◌≤◌, min}
use mathlib.Core.Path.{◌≡◌, refl, sym, ap, ◌∙◌}
use mathlib.Core.List.{List, [], ◌∷◌, ◌++◌}
use native.Mathlib.Nat.{add-zero, add-suc, suc-add, zero-add}
use native.Mathlib.Numerals.{add-one}
use native.Mathlib.Omega.{arith}
use native.Mathlib.Decide.{dec_le}
use lib.ListN.{length, get_or, set, take, drop, length-set, drop_of_length-le, take-append-drop}
use lib.Seq.{sets, sets-eq, length-sets, drop-cons, take_at, set_out, length-take-le}

-- a run of stores is one run after another
pub sets_append : (a b l : List ℕ) (i : ℕ) → sets l i (a ++ b) ≡ sets (sets l i a) (i + length a) b
sets_append [] b l i = ap (λ (k : ℕ). sets l k b) (sym (add-zero i))
sets_append (x ∷ a) b l i =
    sets_append a b (set l i x) (suc i)
    ∙ ap (λ (k : ℕ). sets (sets (set l i x) (suc i) a) k b) (suc-add i (length a) ∙ sym (add-suc i (length a)))

-- stores past the end change nothing
pub sets_out : (vs l : List ℕ) (i : ℕ) → length l ≤ i → sets l i vs ≡ l
sets_out [] l i h = refl
sets_out (v ∷ vs) l i h = rw (set_out l i v h) (sets_out vs l (suc i) (omega arith))

-- A loop that stores the elements of s into a list from place at, one a turn: l₀ where it begins, l
-- after j turns.
pub record Storing (l₀ : List ℕ) (at : ℕ) (s : List ℕ) (l : List ℕ) (j : ℕ) : Type 0 where
  pub within : j ≤ length s
  pub long : length l ≡ length l₀
  -- the stores that are left, made now, give what the whole run gives
  pub left : sets l (at + j) (drop j s) ≡ sets l₀ at s

pub storing_begin : {l s : List ℕ} {at : ℕ} → Storing l at s l 0
storing_begin {l} {s} {at} = record { within = omega arith; long = refl; left = rw (add-zero at) refl }

pub storing_turn : {l₀ s l : List ℕ} {at j : ℕ} → Storing l₀ at s l j → (k v : ℕ) → k ≡ at + j → j < length s → v ≡ get_or s j 0 → Storing l₀ at s (set l k v) (j + 1)
storing_turn {l₀} {s} {l} {at} {j} p k v q h e =
    record {
      within = omega arith;
      long = length-set l k v ∙ p.long;
      left = rw (q, add-one j, add-suc at j, e) (rw (drop-cons s j 0 h) at p.left);
    }

pub storing_end : {l₀ s l : List ℕ} {at j : ℕ} → Storing l₀ at s l j → length s ≤ j → l ≡ sets l₀ at s
storing_end {l₀} {s} {l} {at} {j} p h = rw (drop_of_length-le s h) at p.left

-- the same where the list may be the shorter of the two
pub storing_short : {l₀ s l : List ℕ} {at j : ℕ} → Storing l₀ at s l j → min (length l₀) (at + length s) ≤ at + j → l ≡ sets l₀ at s
storing_short {l₀} {s} {l} {at} {j} p h = elim (dec_le (length s) j) [ yes done ↦ storing_end p done | no more ↦ sym (sets_out (drop j s) l (at + j) (omega (arith, p.long))) ∙ p.left ]

-- the same, read from the other side
pub sets_then : (a b l : List ℕ) (i k : ℕ) → k ≡ i + length a → sets (sets l i a) k b ≡ sets l i (a ++ b)
sets_then a b l i k e = ap (λ (n : ℕ). sets (sets l i a) n b) e ∙ sym (sets_append a b l i)

-- A run that stores whole into l₀ from place at₀, on its way: l is what the list is now, and rest,
-- from place at, is left to store.
pub record Writing (l₀ : List ℕ) (at₀ : ℕ) (whole l : List ℕ) (at : ℕ) (rest : List ℕ) : Type 0 where
  pub long : length l ≡ length l₀
  pub left : sets l at rest ≡ sets l₀ at₀ whole

pub writing_begin : {l whole : List ℕ} {at : ℕ} → Writing l at whole l at whole
writing_begin = record { long = refl; left = refl }

-- the first part b of the rest is stored
pub writing_block : {l₀ whole l rest rest' m : List ℕ} {at₀ at k : ℕ} (b : List ℕ) → Writing l₀ at₀ whole l at rest → rest ≡ b ++ rest' → m ≡ sets l at b → k ≡ at + length b → Writing l₀ at₀ whole m k rest'
writing_block {l₀} {whole} {l} {rest} {rest'} {m} {at₀} {at} {k} b p e q h =
    record {
      long = ap length q ∙ length-sets l at b ∙ p.long;
      left = rw (q, h) (sym (sets_append b rest' l at) ∙ (rw e at p.left));
    }

pub writing_end : {l₀ whole l rest : List ℕ} {at₀ at : ℕ} → Writing l₀ at₀ whole l at rest → rest ≡ [] → l ≡ sets l₀ at₀ whole
writing_end p e = rw e at p.left

-- a run from place 0 that fits is the list over the front
pub sets_front : (l vs : List ℕ) → length vs ≤ length l → sets l 0 vs ≡ vs ++ drop (length vs) l
sets_front l vs h = sets-eq vs l 0 (rw (zero-add (length vs)) h) ∙ ap (λ (k : ℕ). vs ++ drop k l) (zero-add (length vs))

-- what was stored into the front is what stands there
pub sets_prefix : (l vs : List ℕ) (n : ℕ) → n ≡ length vs → length vs ≤ length l → take n (sets l 0 vs) ≡ vs
sets_prefix l vs n e h = rw (sets_front l vs h) (take_at vs (drop (length vs) l) n (sym e))

-- a run of stores from place 0 on: as much as both lists have, and what the list had behind it
pub sets_short : (s l : List ℕ) (n : ℕ) → n ≡ min (length l) (length s) → sets l 0 s ≡ take n s ++ drop n l
sets_short s l n e =
    ap (sets l 0) (sym (take-append-drop n s))
    ∙ sets_append (take n s) (drop n s) l 0
    ∙ elim (dec_le (length s) n) [ yes all ↦ ap (sets (sets l 0 (take n s)) (0 + length (take n s))) (drop_of_length-le s all) | no less ↦ sets_out (drop n s) _ _ (omega (arith, length-sets l 0 (take n s), long)) ]
    ∙ sets-eq (take n s) l 0 (omega (arith, long))
    ∙ ap (λ (k : ℕ). take n s ++ drop k l) (zero-add _ ∙ long)
  where
    long : length (take n s) ≡ n
    long = length-take-le n s (omega arith)
