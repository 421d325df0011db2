-- The cells of some bytes, and a loop that stores those of one byte after the other, as far as the
-- list reaches.
-- Assumes nothing.
use Prim.Native.Nat.{ℕ, zero, suc, ◌+◌, ◌-◌, ◌*◌, ◌<◌, ◌≤◌}
use mathlib.Core.Path.{◌≡◌, refl, sym, ap, ◌∙◌}
use mathlib.Core.List.{List, [], ◌∷◌, ◌++◌, append-nil}
use native.Mathlib.Numerals.{add-one}
use native.Mathlib.Omega.{arith}
use lib.ListN.{length, get_or, take, drop, drop_of_length-le}
use lib.Seq.{sets, length-sets, drop-nil, drop-cons, drop-append-add}
use borrow.Rule.Slice.PartMut.{mid_of, put_mid}
use Rattle.paper.specs.Jobs.{eight, unbytes}
use Rattle.paper.proofs.Bytes.{length_unbytes}
use Rattle.helpers.proofs.Part.{part_stored, part_end}
use Rattle.helpers.proofs.Writes.{sets_then, sets_out, sets_short}
use Rattle.record.proofs.Spreads.{length_eight}

-- the cells from byte k on are those of the bytes from there on
cells_from : (k : ℕ) (bs : List ℕ) → drop (8 * k) (unbytes bs) ≡ unbytes (drop k bs)
unfolding unbytes
cells_from zero bs = refl
cells_from (suc k) [] = drop-nil (8 * suc k)
cells_from (suc k) (b ∷ bs) =
    let place : 8 * suc k ≡ length (eight b) + 8 * k = omega (arith, length_eight b) in
    rw place (drop-append-add (eight b) (unbytes bs) (8 * k)) ∙ cells_from k bs

-- and the first of them are those of byte k
pub byte_cells : (k : ℕ) (bs : List ℕ) → k < length bs → drop (8 * k) (unbytes bs) ≡ eight (get_or bs k 0) ++ unbytes (drop (suc k) bs)
unfolding unbytes
byte_cells k bs h = cells_from k bs ∙ ap unbytes (drop-cons bs k 0 h)

-- A loop that has stored the cells of k bytes.
pub record Unpacking (bs : List ℕ) (l₀ l : List ℕ) (k : ℕ) : Type 0 where
  pub long : length l ≡ length l₀
  -- the cells that are left, stored now, give what the whole run gives
  pub left : sets l (8 * k) (unbytes (drop k bs)) ≡ sets l₀ 0 (unbytes bs)

module _ {bs l₀ l : List ℕ} {k : ℕ} (p : Unpacking bs l₀ l k) where
  unpacking_turn : (m : List ℕ) → k < length bs → m ≡ sets l (8 * k) (eight (get_or bs k 0)) → Unpacking bs l₀ m (k + 1)
  unfolding unbytes
  unpacking_turn m h s =
      let b = get_or bs k 0 in
      record {
        long = ap length s ∙ length-sets l (8 * k) (eight b) ∙ p.long;
        left =
            ap (λ (x : List ℕ). sets x (8 * (k + 1)) (unbytes (drop (k + 1) bs))) s
            ∙ sets_then (eight b) (unbytes (drop (k + 1) bs)) l (8 * k) (8 * (k + 1)) (omega (arith, length_eight b))
            ∙ ap (λ (j : ℕ). sets l (8 * k) (eight b ++ unbytes (drop j bs))) (add-one k)
            ∙ ap (λ (x : List ℕ). sets l (8 * k) (unbytes x)) (sym (drop-cons bs k 0 h))
            ∙ p.left;
      }

  -- the cells of one byte, stored into their part
  pub unpacking_full : (b : ℕ) (m : List ℕ) → b ≡ get_or bs k 0 → k < length bs → 8 * k + 8 ≤ length l₀ → m ≡ sets (mid_of (8 * k) (8 * k + 8 - 8 * k) l) 0 (eight b)
      → Unpacking bs l₀ (put_mid (8 * k) (8 * k + 8 - 8 * k) l m) (k + 1)
  unpacking_full b m e h long s =
      unpacking_turn _ h
      (part_stored l m (eight b) (8 * k) (8 * k + 8) (omega arith) (omega (arith, p.long)) (omega (arith, length_eight b)) s ∙ ap (λ (x : ℕ). sets l (8 * k) (eight x)) e)

  -- a list that is full has the first of the cells
  pub unpacking_end : length l₀ ≤ 8 * k → length l₀ ≤ 8 * length bs → l ≡ take (length l₀) (unbytes bs)
  unpacking_end h enough =
      sym (sets_out (unbytes (drop k bs)) l (8 * k) (omega (arith, p.long)))
      ∙ p.left
      ∙ sets_short (unbytes bs) l₀ (length l₀) (omega (arith, length_unbytes bs))
      ∙ ap (λ (x : List ℕ). take (length l₀) (unbytes bs) ++ x) (drop_of_length-le l₀ (omega arith))
      ∙ append-nil (take (length l₀) (unbytes bs))

-- the first cells of a byte, stored into the list's end, are the last
pub unpacking_last : {bs l₀ l : List ℕ} {k : ℕ} → Unpacking bs l₀ l k → (m : List ℕ) → 8 * k < length l₀ → length l₀ ≤ 8 * k + 8 → length l₀ ≤ 8 * length bs
    → m ≡ sets (mid_of (8 * k) (length l - 8 * k) l) 0 (eight (get_or bs k 0)) → put_mid (8 * k) (length l - 8 * k) l m ≡ take (length l₀) (unbytes bs)
unpacking_last {bs} {l = l} {k} p m some last enough s =
    unpacking_end (unpacking_turn p _ (omega arith) (part_end l m (eight (get_or bs k 0)) (8 * k) (omega (arith, p.long)) s)) (omega arith) enough
