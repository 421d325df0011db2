-- Four bytes as one number, by their places: what two equal fours say of each of the four places.
-- Assumes nothing.
use Prim.Native.Nat.{ℕ, zero, suc, ◌+◌, ◌*◌, ◌<◌}
use mathlib.Core.Path.{◌≡◌}
use mathlib.Core.List.{List}
use native.Mathlib.Nat.{add-zero}
use native.Mathlib.Omega.{arith}
use lib.ListN.{get_or}
use Rattle.ean_reader.proofs.Finds.{Bytes}

-- four bytes of a list from place i on as one number, the first the lowest
unfoldable pub quad_at : List ℕ → ℕ → ℕ
quad_at l i = get_or l i 0 + 256 * (get_or l (i + 1) 0 + 256 * (get_or l (i + 2) 0 + 256 * get_or l (i + 3) 0))

-- the lowest digit of a number to the base 256, and the others
digit : (x y a b : ℕ) → x < 256 → y < 256 → x + 256 * a ≡ y + 256 * b → (x ≡ y) × (a ≡ b)
digit x y a b h l e = (omega arith, omega arith)

module _ (l m : List ℕ) (i j : ℕ) (h : Bytes l) (k : Bytes m) (e : quad_at l i ≡ quad_at m j) where
  -- two equal fours agree at each of four places
  pub quad_at_lem : (n : ℕ) → n < 4 → get_or l (i + n) 0 ≡ get_or m (j + n) 0
  unfolding quad_at
  quad_at_lem n b =
      let first = digit (get_or l i 0) (get_or m j 0) _ _ (h i) (k j) e in
      let second = digit (get_or l (i + 1) 0) (get_or m (j + 1) 0) _ _ (h (i + 1)) (k (j + 1)) first.1 in
      let third = digit (get_or l (i + 2) 0) (get_or m (j + 2) 0) _ _ (h (i + 2)) (k (j + 2)) second.1 in
      of_four n b first.0 second.0 third.0 third.1
    where
      of_four : (n : ℕ) → n < 4 → get_or l i 0 ≡ get_or m j 0 → get_or l (i + 1) 0 ≡ get_or m (j + 1) 0 → get_or l (i + 2) 0 ≡ get_or m (j + 2) 0 → get_or l (i + 3) 0 ≡ get_or m (j + 3) 0
          → get_or l (i + n) 0 ≡ get_or m (j + n) 0
      of_four zero b p q r s = rw (add-zero i, add-zero j) p
      of_four (suc zero) b p q r s = q
      of_four (suc (suc zero)) b p q r s = r
      of_four (suc (suc (suc zero))) b p q r s = s
      of_four (suc (suc (suc (suc n)))) b p q r s = absurd (omega arith)
