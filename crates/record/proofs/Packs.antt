-- The bytes of a row, and a loop that stores them.
-- Assumes nothing.
use Prim.Native.Nat.{ℕ, zero, suc, ◌+◌, ◌-◌, ◌*◌, ◌/◌, ◌%◌, ◌<◌, ◌≤◌}
use mathlib.Core.Path.{◌≡◌, refl, sym, ap, ◌∙◌}
use mathlib.Core.List.{List, ◌++◌}
use native.Mathlib.Nat.{not-suc-le-zero, le_of_suc-le-suc}
use native.Mathlib.Omega.{arith}
use lib.ListN.{length, get_or, set, take, drop, length-drop, length-append}
use lib.Seq.{sets, drop-drop, take_all, take_at, drop_at}
use Rattle.paper.specs.Jobs.{bits, bytes}
use Rattle.paper.proofs.Bytes.{length_bytes}
use Rattle.helpers.proofs.Writes.{Storing, storing_turn, storing_end}

-- byte k is made of the eight cells from place 8 k on
bytes_at : (n : ℕ) (cs : List ℕ) (k : ℕ) → k < n → get_or (bytes n cs) k 0 ≡ bits 128 (take 8 (drop (8 * k) cs))
unfolding bytes
bytes_at zero cs k h = absurd (not-suc-le-zero h)
bytes_at (suc n) cs zero h = refl
bytes_at (suc n) cs (suc k) h =
    let place : 8 + 8 * k ≡ 8 * suc k = omega arith in
    bytes_at n (drop 8 cs) k (le_of_suc-le-suc h) ∙ ap (λ (l : List ℕ). bits 128 (take 8 l)) (drop-drop (8 * k) 8 cs ∙ ap (λ (i : ℕ). drop i cs) place)

-- A loop that has stored k bytes of the row; `rest` is the row after their cells.
pub record Packing (row l₀ l rest : List ℕ) (k : ℕ) : Type 0 where
  pub within : 8 * k ≤ length row
  pub behind : rest ≡ drop (8 * k) row
  pub stores : Storing l₀ 0 (bytes ((length row + 7) / 8) row) l k

module _ {row l₀ l rest : List ℕ} {k : ℕ} (p : Packing row l₀ l rest k) where
  many : length (bytes ((length row + 7) / 8) row) ≡ (length row + 7) / 8
  many = length_bytes ((length row + 7) / 8) row

  left : length rest ≡ length row - 8 * k
  left = ap length p.behind ∙ length-drop (8 * k) row

  -- the byte of the next eight cells, or of all that are left
  byte_stored : (v : ℕ) → 0 < length rest → v ≡ bits 128 (take 8 rest) → Storing l₀ 0 (bytes ((length row + 7) / 8) row) (set l k v) (k + 1)
  byte_stored v some e =
      let byte = bytes_at ((length row + 7) / 8) row k (omega (arith, left)) in
      storing_turn p.stores k v (omega arith) (omega (arith, many, left)) (e ∙ ap (λ (x : List ℕ). bits 128 (take 8 x)) p.behind ∙ sym byte)

  pub packing_turn : (part rest' : List ℕ) (v : ℕ) → rest ≡ part ++ rest' → length part ≡ 8 → v ≡ bits 128 part → Packing row l₀ (set l k v) rest' (k + 1)
  packing_turn part rest' v e long q =
      let size : length rest ≡ 8 + length rest' = omega (arith, ap length e, length-append part rest') in
      let next : 8 * k + 8 ≡ 8 * (k + 1) = omega arith in
      record {
        within = omega (arith, left);
        behind = sym (drop_at part rest' 8 long) ∙ ap (drop 8) (sym e ∙ p.behind) ∙ drop-drop 8 (8 * k) row ∙ ap (λ (j : ℕ). drop j row) next;
        stores = byte_stored v (omega arith) (q ∙ ap (bits 128) (sym (take_at part rest' 8 long) ∙ ap (take 8) (sym e)));
      }

  module _ (part : List ℕ) (few : length rest < 8) (e : part ≡ drop (length row - length row % 8) row) where
    all_left : part ≡ rest
    all_left =
        let place : length row - length row % 8 ≡ 8 * k = omega (arith, left, p.within) in
        e ∙ ap (λ (j : ℕ). drop j row) place ∙ sym p.behind

    pub packing_last : (v : ℕ) → 0 < length part → v ≡ bits 128 part → set l (length row / 8) v ≡ sets l₀ 0 (bytes ((length row + 7) / 8) row)
    packing_last v some q =
        let place : length row / 8 ≡ k = omega (arith, left, p.within) in
        let whole : part ≡ take 8 rest = all_left ∙ sym (take_all 8 rest (omega arith)) in
        rw place (storing_end (byte_stored v (omega (arith, ap length all_left)) (q ∙ ap (bits 128) whole)) (omega (arith, many, left)))

    pub packing_end : length part ≡ 0 → l ≡ sets l₀ 0 (bytes ((length row + 7) / 8) row)
    packing_end none = storing_end p.stores (omega (arith, many, left, ap length all_left))
