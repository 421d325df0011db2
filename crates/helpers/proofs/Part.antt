-- What is stored into a part of a slice, said of the whole.
-- Assumes nothing.
use Prim.Native.Nat.{ℕ, zero, suc, ◌+◌, ◌-◌, ◌<◌, ◌≤◌}
use mathlib.Core.Path.{◌≡◌, refl, sym, ap, ◌∙◌}
use mathlib.Core.List.{List, [], ◌∷◌, ◌++◌}
use native.Mathlib.Nat.{zero-add, suc-add, add-suc, add-zero, not-suc-le-zero, le_of_suc-le-suc}
use native.Mathlib.Omega.{arith}
use lib.ListN.{length, set, take, length-set, length-take}
use lib.Seq.{sets, set-append_left, take-nil}
use native.Mathlib.Decide.{dec_lt}
use Rattle.helpers.proofs.Writes.{sets_out}
use borrow.Rule.Slice.PartMut.{mid_of, put_mid, post_of, put_same, mid_len}

set_take : (l q : List ℕ) (a j v : ℕ) → a ≤ length l → set (take a l ++ q) (a + j) v ≡ take a l ++ set q j v
set_take l q zero j v h = rw (zero-add j) refl
set_take [] q (suc a) j v h = absurd (not-suc-le-zero h)
set_take (x ∷ xs) q (suc a) j v h = rw (suc-add a j) (ap (λ (r : List ℕ). x ∷ r) (set_take xs q a j v (le_of_suc-le-suc h)))

module _ (l : List ℕ) (a k : ℕ) (h : a ≤ length l) where
  put_sets : (vs ys : List ℕ) (j : ℕ) → j + length vs ≤ length ys → put_mid a k l (sets ys j vs) ≡ sets (put_mid a k l ys) (a + j) vs
  put_sets [] ys j p = refl
  put_sets (v ∷ vs) ys j p =
      put_sets vs (set ys j v) (suc j) (omega (arith, length-set ys j v))
      ∙ rw (add-suc a j)
      (ap (λ (r : List ℕ). sets r (suc (a + j)) vs) (ap (λ (r : List ℕ). take a l ++ r) (sym (set-append_left ys (post_of a k l) j v (omega arith))) ∙ sym (set_take l (ys ++ post_of a k l) a j v h)))

  -- a run of stores from the front of the part is that run from the part's start
  pub part_sets : (vs : List ℕ) → length vs ≤ length (mid_of a k l) → put_mid a k l (sets (mid_of a k l) 0 vs) ≡ sets l a vs
  part_sets vs p = put_sets vs (mid_of a k l) 0 (omega arith) ∙ rw (add-zero a, put_same a k l) refl

-- the same of the part from a to e, by its ends
pub part_stored : (l m vs : List ℕ) (a e : ℕ) → a ≤ e → e ≤ length l → length vs ≤ e - a → m ≡ sets (mid_of a (e - a) l) 0 vs → put_mid a (e - a) l m ≡ sets l a vs
part_stored l m vs a e p q r s = ap (put_mid a (e - a) l) s ∙ part_sets l a (e - a) (omega arith) vs (omega (arith, mid_len a e l q))

-- stores after the end of the list count for nothing
sets_take : (vs l : List ℕ) (i : ℕ) → sets l i vs ≡ sets l i (take (length l - i) vs)
sets_take [] l i = ap (λ (r : List ℕ). sets l i r) (sym (take-nil (length l - i)))
sets_take (v ∷ vs) l i =
    let less : length (set l i v) - suc i ≡ length l - suc i = ap (λ (k : ℕ). k - suc i) (length-set l i v) in
    let rest = sets_take vs (set l i v) (suc i) ∙ ap (λ (k : ℕ). sets (set l i v) (suc i) (take k vs)) less in
    elim (dec_lt i (length l)) [ yes h ↦ inner h rest | no h ↦ sets_out (v ∷ vs) l i (omega arith) ∙ sym (sets_out (take (length l - i) (v ∷ vs)) l i (omega arith)) ]
  where
    inner : i < length l → sets (set l i v) (suc i) vs ≡ sets (set l i v) (suc i) (take (length l - suc i) vs) → sets l i (v ∷ vs) ≡ sets l i (take (length l - i) (v ∷ vs))
    inner h r =
        let one : length l - i ≡ suc (length l - suc i) = omega arith in
        rw one r

-- the same of the part from a to the list's end, which may be too short
pub part_end : (l m vs : List ℕ) (a : ℕ) → a ≤ length l → m ≡ sets (mid_of a (length l - a) l) 0 vs → put_mid a (length l - a) l m ≡ sets l a vs
part_end l m vs a h e =
    let k = length l - a in
    let long : length (mid_of a k l) ≡ k = mid_len a (length l) l (omega arith) in
    let all : length (mid_of a k l) - 0 ≡ k = omega arith in
    part_stored l m (take k vs) a (length l) h (omega arith) (omega (arith, length-take k vs))
    (e ∙ sets_take vs (mid_of a k l) 0 ∙ ap (λ (n : ℕ). sets (mid_of a k l) 0 (take n vs)) all)
    ∙ sym (sets_take vs l a)
