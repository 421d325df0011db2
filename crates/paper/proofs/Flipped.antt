-- Rows of which one cell is flipped: what read answers to them.
-- Assumes nothing.
use mathlib.Core.Path.{◌≡◌, refl, sym, ap, ◌∙◌}
use mathlib.Core.Bool.{Bool, true, false}
use mathlib.Core.List.{List, [], ◌∷◌, ◌++◌}
use Prim.Native.Nat.{ℕ, zero, suc, ◌+◌, ◌-◌, ◌*◌, ◌/◌, ◌%◌, ◌<◌, ◌≤◌}
use native.Mathlib.Omega.{arith}
use native.Mathlib.Nat.{add-zero, zero-add, add-suc, suc-add}
use native.Mathlib.Decide.{dec_le}
use lib.Dec.{ltb}
use lib.ListN.{length, get_or, take, drop, set, length-append, length-set, take-append-drop}
use lib.Seq.{get_or-take, get_or-drop, take_at, drop_at, take-set-lt, take-set-le, drop-set-add}
use borrow.Author.Tests.{lt-ltb, le-ltb, eq-eqb, ne_eqb}
use Rattle.std.specs.Prelude.{if◌then◌else◌}
use Rattle.helpers.specs.Answers.{Each, refuse, accept, Accepted, refuses, ◌then◌, into}
use Rattle.paper.specs.Iso15417.{pattern, stop, bar_cells, found, worn, check, cells, row}
use Rattle.paper.specs.Jobs.{most, SymbolList, fits_at, wrong_block, numbers, with_number, block, blocks_from, looked, last_of, wanted, read}
use Rattle.paper.specs.Damage.{flipped, flipped_verdict}
use Rattle.helpers.proofs.Answering.{each_at, each_set, into_refuse}
use Rattle.paper.proofs.Table.{length_pattern, pattern_cells, pattern_even, found_pattern, found_odd}
use Rattle.paper.proofs.Lists.{form_length}
use Rattle.paper.proofs.Cells.{Number, length_cells, length_stop, length_row, first_block, other_blocks, row_numbers}
use Rattle.paper.proofs.Reading.{Fits, fits_numbers, row_fits, sound_fits, blocks_cells, stop_clean, row_clean, judged, read_clean, accepted}

-- ---- a flipped cell in a list of cells

-- the bar cells of a list, one of its cells replaced
bars_set : (cs : List ℕ) (i v : ℕ) → i < length cs → bar_cells (set cs i v) + get_or cs i 0 ≡ bar_cells cs + v
unfolding bar_cells
bars_set [] i v l = absurd (omega arith)
bars_set (c ∷ cs) zero v l = omega arith
bars_set (c ∷ cs) (suc i) v l = omega (arith, bars_set cs i v (omega arith))

-- their number is odd if it was even
flipped_odd : (cs : List ℕ) (i : ℕ) → Each (λ c. c ≤ 1) cs → i < length cs → bar_cells cs % 2 ≡ 0 → bar_cells (flipped i cs) % 2 ≡ 1
unfolding flipped
flipped_odd cs i a l even = omega (arith, each_at (λ c. c ≤ 1) cs i 0 a l, bars_set cs i (1 - get_or cs i 0) l)

flipped_clean : (cs : List ℕ) (i : ℕ) → Each (λ c. c ≤ 1) cs → Each (λ c. c ≤ 1) (flipped i cs)
unfolding flipped
flipped_clean cs i a = each_set (λ c. c ≤ 1) cs i (1 - get_or cs i 0) a (omega arith)

-- among the first n cells, or after them
flipped_front : (n : ℕ) (cs : List ℕ) (i : ℕ) → i < n → take n (flipped i cs) ≡ flipped i (take n cs)
unfolding flipped
flipped_front n cs i h = take-set-lt n cs i (1 - get_or cs i 0) h ∙ rw (get_or-take n cs i 0 h)

flipped_after : (n : ℕ) (cs : List ℕ) (i : ℕ) → (take n (flipped (n + i) cs) ≡ take n cs) × (drop n (flipped (n + i) cs) ≡ flipped i (drop n cs))
unfolding flipped
flipped_after n cs i =
    (take-set-le n cs (n + i) (1 - get_or cs (n + i) 0) (omega arith), drop-set-add n cs i (1 - get_or cs (n + i) 0) ∙ rw (get_or-drop n cs i 0))

flipped_append : (xs ys : List ℕ) (n i : ℕ) → length xs ≡ n → flipped (n + i) (xs ++ ys) ≡ xs ++ flipped i ys
flipped_append xs ys n i l =
    let parts = flipped_after n (xs ++ ys) i in
    sym (take-append-drop n (flipped (n + i) (xs ++ ys)))
    ∙ rw (parts.0, parts.1, take_at xs ys n l, drop_at xs ys n l)

-- ---- 16, in a block

-- a pattern with one cell flipped
worn_pattern : (m i : ℕ) → Number m → i < 11 → found (flipped i (pattern m)) ≡ worn
worn_pattern m i h l = found_odd (flipped i (pattern m)) (flipped_odd (pattern m) i (pattern_cells m h) (omega (arith, length_pattern m h)) (pattern_even m h))

-- the first block of some, or one after it
module _ (b m : ℕ) (u rest : List ℕ) (h : Number m) (i : ℕ) where
  worn_first : i < 11 → (k : ℕ) → blocks_from (suc k) b (flipped i (cells (m ∷ u) ++ rest)) ≡ wrong_block 16 (b + i / 11)
  unfolding blocks_from block
  worn_first l k =
      let first : i / 11 ≡ 0 = omega arith in
      rw (flipped_front 11 (cells (m ∷ u) ++ rest) i l, first_block m u rest h, worn_pattern m i h l, first, add-zero b)

  worn_later : fits_at b m ≡ true → (k : ℕ) → blocks_from k (suc b) (flipped i (cells u ++ rest)) ≡ wrong_block 16 (suc b + i / 11)
      → blocks_from (suc k) b (flipped (11 + i) (cells (m ∷ u) ++ rest)) ≡ wrong_block 16 (b + (11 + i) / 11)
  unfolding blocks_from block with_number
  worn_later f k e =
      let parts = flipped_after 11 (cells (m ∷ u) ++ rest) i in
      let next : b + (11 + i) / 11 ≡ suc b + i / 11 = omega arith in
      rw (parts.0, parts.1, first_block m u rest h, other_blocks m u rest h, found_pattern m h, f, e, next)

worn_block : (b : ℕ) (u rest : List ℕ) → Fits b u → (i : ℕ) → i < 11 * length u → blocks_from (length u) b (flipped i (cells u ++ rest)) ≡ wrong_block 16 (b + i / 11)
worn_block b [] rest f i l = absurd (omega arith)
worn_block b (m ∷ u) rest f i l = elim (dec_le 11 i) [
  | yes h ↦
      let after : 11 + (i - 11) ≡ i = omega arith in
      rw after at (worn_later b m u rest (fits_numbers b (m ∷ u) f).0 (i - 11) f.0 (length u) (worn_block (suc b) u rest f.1 (i - 11) (omega arith)))
  | no h ↦ worn_first b m u rest (fits_numbers b (m ∷ u) f).0 i (omega arith) (length u)
]

-- ---- 15, in the stop

wanted_flipped : (at : ℕ) (ys : List ℕ) (i : ℕ) → Each (λ c. c ≤ 1) ys → i < length ys → wanted 15 at ys (flipped i ys) ≡ refuses 15 (at + i)
unfolding wanted flipped
wanted_flipped at [] i a l = absurd (omega arith)
wanted_flipped at (y ∷ ys) zero a l = rw (ne_eqb (1 - y) y (omega (arith, a.0)), add-zero at)
wanted_flipped at (y ∷ ys) (suc i) a l = rw (eq-eqb y y refl, wanted_flipped (suc at) ys i a.1 (omega arith), suc-add at i, add-suc at i)

-- ---- the promises

module _ (room : ℕ) (s : List ℕ) (a : SymbolList s) where
  abbrev u : List ℕ
  u = s ++ (check s ∷ [])

  long : length u ≡ length s + 1
  long = length-append s (check s ∷ [])

  size : length (cells u) ≡ 11 * (length s + 1)
  size = length_cells u (row_numbers s a) ∙ ap (λ (k : ℕ). 11 * k) long

  flipped_length : (i : ℕ) → length (flipped i (row s)) ≡ 11 * (length s + 1) + 13
  unfolding flipped
  flipped_length i = length-set (row s) i (1 - get_or (row s) i 0) ∙ length_row s a

  -- 10 and 11 are passed
  walks : (i : ℕ) → read room (flipped i (row s)) ≡ into room (looked (blocks_from (length s + 1) 0 (flipped i (row s))) (judged (length s) (flipped i (row s))))
  unfolding most
  walks i = read_clean room (flipped i (row s)) (length s) (flipped_length i) (form_length s a.form) a.size (flipped_clean (row s) i (row_clean s a))

  in_block : (i : ℕ) → i < 11 * (length s + 1) → read room (flipped i (row s)) ≡ refuse 16 (i / 11)
  unfolding row looked
  in_block i l = walks i ∙ rw (← long, worn_block 0 u stop (row_fits s a) i (rw long l), zero-add (i / 11)) (into_refuse room 16 (i / 11))

  in_stop : (j : ℕ) → j < 13 → read room (flipped (11 * (length s + 1) + j) (row s)) ≡ refuse 15 (11 * (length s + 1) + j)
  unfolding row looked last_of ◌then◌
  in_stop j l =
      let at : ℕ = 11 * (length s + 1) in
      let changed : flipped (at + j) (row s) ≡ cells u ++ flipped j stop = flipped_append (cells u) stop at j size in
      let walked : blocks_from (length s + 1) 0 (cells u ++ flipped j stop) ≡ numbers u =
      rw (← long) (blocks_cells 0 u (flipped j stop) (row_numbers s a) ∙ sound_fits 0 u (row_fits s a)) in
      let begins : length (cells u ++ flipped j stop) - 13 ≡ at = omega (arith, rw changed at (flipped_length (at + j))) in
      let place = wanted_flipped at stop j stop_clean (omega (arith, length_stop)) in
      walks (at + j) ∙ rw (changed, walked, begins, drop_at (cells u) (flipped j stop) at size, place) (into_refuse room 15 (at + j))

pub flipped_exactly : (room : ℕ) (s : List ℕ) → SymbolList s → (i : ℕ) → i < length (row s) → read room (flipped i (row s)) ≡ flipped_verdict s i
unfolding flipped_verdict
flipped_exactly room s a i l = elim (dec_le (11 * (length s + 1)) i) [
  | yes h ↦
      let after : 11 * (length s + 1) + (i - 11 * (length s + 1)) ≡ i = omega arith in
      rw (le-ltb i (11 * (length s + 1)) h) (rw after at (in_stop room s a (i - 11 * (length s + 1)) (omega (arith, length_row s a))))
  | no h ↦ rw (lt-ltb i (11 * (length s + 1)) (omega arith)) (in_block room s a i (omega arith))
]

refused : (t : Bool) (k m k' m' : ℕ) → Accepted (if t then refuse k m else refuse k' m') → ⊥
refused true k m k' m' x = x
refused false k m k' m' x = x

pub flipped_refused : (room room' : ℕ) (r : List ℕ) (n : ℕ) (s : List ℕ) → read room r ≡ accept n s → (i : ℕ) → i < length r → Accepted (read room' (flipped i r)) → ⊥
unfolding flipped_verdict
flipped_refused room room' r n s e i l x =
    let d = accepted room r n s e in
    refused (ltb i (11 * (length s + 1))) 16 (i / 11) 15 i (rw (d.1, flipped_exactly room' s d.0 i (rw d.1 at l)) at x)
