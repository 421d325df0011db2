-- Rows of which one block is redrawn: what read answers to them.
-- Assumes nothing.
use mathlib.Core.Path.{◌≡◌, refl, sym, ap, ◌∙◌}
use mathlib.Core.Logic.{◌≢◌, ◌↔◌, inl, inr}
use mathlib.Core.Bool.{Bool, true, false, ◌&&◌}
use mathlib.Core.List.{List, [], ◌∷◌, ◌++◌, append_assoc}
use Prim.Native.Nat.{ℕ, zero, suc, ◌+◌, ◌*◌, ◌%◌, ◌<◌, ◌≤◌}
use native.Mathlib.Omega.{arith}
use native.Mathlib.Nat.{add-zero, zero-add, add-suc, suc-add, eq-or-lt_of_le, le_refl}
use lib.Dec.{leb, ltb, eqb}
use lib.ListN.{get_or-append, length, get_or, set, length-append, length-set}
use lib.Seq.{get_or_at, take-add, drop-drop, set_at, set_out, set-append_left}
use borrow.Author.Tests.{leb-true, ltb-true, eqb-true, le-leb, lt-ltb, le-ltb, eq-eqb, ne_eqb}
use Rattle.std.specs.Prelude.{if◌then◌else◌}
use Rattle.helpers.specs.Answers.{Each, refuse, Accepted, ◌then◌, ask, into}
use Rattle.paper.specs.Iso15417.{pattern, stop, check, cells, row}
use Rattle.paper.specs.Jobs.{most, SymbolList, is_data, wrong_block, fits_at, with_number, block, looked, read}
use Rattle.paper.specs.Damage.{blocks_of, over, redrawn, blind, accepted_if, verdict}
use Rattle.helpers.proofs.Answering.{true_not_false, and_true, each_set, into_room}
use Rattle.paper.proofs.Lists.{start_bounds, form_length}
use Rattle.paper.proofs.Cells.{Number, first_block, other_blocks, row_numbers}
use Rattle.paper.proofs.Reading.{Fits, row_fits, sound, read_cells, read_list}
use Rattle.paper.proofs.Primes.{weight, check_set}

-- ---- a row redrawn is the row of the numbers, one of them another

pub over_cells : (u : List ℕ) → Each Number u → (i m : ℕ) → i < length u → (rest : List ℕ) → over i (pattern m) (cells u ++ rest) ≡ cells (set u i m) ++ rest
unfolding over cells
over_cells [] a i m l rest = absurd (omega arith)
over_cells (x ∷ u) a zero m l rest = rw (other_blocks x u rest a.0, append_assoc)
over_cells (x ∷ u) a (suc i) m l rest =
    let before : 11 * suc i ≡ 11 + 11 * i = omega arith in
    let after : 11 * (suc i + 1) ≡ 11 + 11 * (i + 1) = omega arith in
    rw (
      before,
      after,
      take-add 11 (11 * i) (cells (x ∷ u) ++ rest),
      ← drop-drop (11 * (i + 1)) 11 (cells (x ∷ u) ++ rest),
      first_block x u rest a.0,
      other_blocks x u rest a.0,
    )
    (simp append_assoc (ap (λ (l : List ℕ). pattern x ++ l) (over_cells u a.1 i m (omega arith) rest)))

-- ---- which numbers may stand there then

misfit : (b : ℕ) (u : List ℕ) (i m : ℕ) → Fits b u → i < length u → fits_at (b + i) m ≡ false → sound b (set u i m) ≡ wrong_block 13 (b + i)
unfolding sound block with_number
misfit b [] i m f l e = absurd (omega arith)
misfit b (x ∷ u) zero m f l e = rw (add-zero b, rw (add-zero b) at e)
misfit b (x ∷ u) (suc i) m f l e = rw (f.0, misfit (suc b) u i m f.1 (omega arith) (rw (suc-add b i, ← add-suc b i) e), suc-add b i, add-suc b i)

fits_set : (b : ℕ) (u : List ℕ) (i m : ℕ) → Fits b u → fits_at (b + i) m ≡ true → Fits b (set u i m)
fits_set b [] i m f e = tt
fits_set b (x ∷ u) zero m f e = (rw (add-zero b) at e, f.1)
fits_set b (x ∷ u) (suc i) m f e = (f.0, fits_set (suc b) u i m f.1 (rw (suc-add b i, ← add-suc b i) e))

fits_at_lem : (b : ℕ) (u : List ℕ) (i : ℕ) → Fits b u → i < length u → fits_at (b + i) (get_or u i 0) ≡ true
fits_at_lem b [] i f l = absurd (omega arith)
fits_at_lem b (x ∷ u) zero f l = rw (add-zero b) f.0
fits_at_lem b (x ∷ u) (suc i) f l = rw (add-suc b i, ← suc-add b i) (fits_at_lem (suc b) u i f.1 (omega arith))

-- the same from the START on
pub set_stands : (u : List ℕ) (i m : ℕ) → Fits 0 u → fits_at i m ≡ true → Fits 0 (set u i m)
set_stands u i m f e = fits_set 0 u i m f (rw (zero-add i) e)

pub stands : (u : List ℕ) (i : ℕ) → Fits 0 u → i < length u → fits_at i (get_or u i 0) ≡ true
stands u i f l = rw (zero-add i) at (fits_at_lem 0 u i f l)

pub symbol_stands : (s : List ℕ) → SymbolList s → (i : ℕ) → i < length s → fits_at i (get_or s i 0) ≡ true
symbol_stands s a i l =
    rw (get_or-append s (check s ∷ []) 0 i l) at (stands (s ++ (check s ∷ [])) i (row_fits s a) (omega (arith, length-append s (check s ∷ []))))

-- two numbers that may stand at one place are at most 102 apart
near : (i a b : ℕ) → fits_at i a ≡ true → fits_at i b ≡ true → a ≤ b + 102
unfolding fits_at is_data
near zero a b e f = omega (arith, start_bounds a e, start_bounds b f)
near (suc i) a b e f = omega (arith, leb-true a 102 e)

-- ---- whether the check shows it

blind_here : (s : List ℕ) (i : ℕ) → i < length s → blind s i ≡ eqb (weight i % 103) 0
unfolding blind
blind_here s zero l = refl
blind_here s (suc i) l = rw (lt-ltb (suc i) (length s) l, le-leb 1 (suc i) (omega arith))

blind_check : (s : List ℕ) → 1 ≤ length s → blind s (length s) ≡ false
unfolding blind
blind_check s h = rw (le-ltb (length s) (length s) (le_refl (length s)), le-leb 1 (length s) h)

-- ---- what read answers to the numbers that are left

module _ (room : ℕ) (s : List ℕ) (a : SymbolList s) where
  abbrev u : List ℕ
  u = s ++ (check s ∷ [])

  low : 1 ≤ length s
  low = form_length s a.form

  long : length u ≡ length s + 1
  long = length-append s (check s ∷ [])

  -- all may stand there, and the check is left as drawn: it is asked whether it is still right
  pub check_left : (t : List ℕ) (right : Bool) → length t ≡ length s → Fits 0 (t ++ (check s ∷ [])) → eqb (check s) (check t) ≡ right
      → read room (cells (t ++ (check s ∷ [])) ++ stop) ≡ into room (accepted_if right t)
  unfolding most
  check_left t right size f e = rw (← e) (read_list room t (check s) f (rw size low) (rw size a.size))

  symbol_left : (i m : ℕ) → i < length s → fits_at i m ≡ true → m ≢ get_or s i 0 → read room (cells (set u i m) ++ stop) ≡ into room (accepted_if (blind s i) (set s i m))
  symbol_left i m l e n =
      let redone : set u i m ≡ set s i m ++ (check s ∷ []) = set-append_left s (check s ∷ []) i m l in
      let old : fits_at i (get_or s i 0) ≡ true = symbol_stands s a i l in
      let seen = check_set s i m l n (near i (get_or s i 0) m old e) (near i m (get_or s i 0) e old) ∙ sym (blind_here s i l) in
      rw redone (check_left (set s i m) (blind s i) (length-set s i m) (rw redone at (set_stands u i m (row_fits s a) e)) seen)

  -- the check itself is redrawn
  check_redrawn : (m : ℕ) → fits_at (length s) m ≡ true → m ≢ check s
      → read room (cells (set u (length s) m) ++ stop) ≡ into room (accepted_if (blind s (length s)) (set s (length s) m))
  unfolding most
  check_redrawn m e n =
      let redone : set u (length s) m ≡ s ++ (m ∷ []) = set_at s (check s) [] m (length s) refl in
      let same : set s (length s) m ≡ s = set_out s (length s) m (le_refl (length s)) in
      let seen : blind s (length s) ≡ eqb m (check s) = blind_check s low ∙ sym (ne_eqb m (check s) n) in
      rw (redone, same, seen) (read_list room s m (rw redone at (set_stands u (length s) m (row_fits s a) e)) low a.size)

  fits_left : (i m : ℕ) → i ≤ length s → fits_at i m ≡ true → m ≢ get_or u i 0 → read room (cells (set u i m) ++ stop) ≡ into room (accepted_if (blind s i) (set s i m))
  fits_left i m l e n = elim (eq-or-lt_of_le l) [
    | inl q ↦ rw q (check_redrawn m (rw q at e) (λ z. n (rw (q, get_or_at s (check s) [] 0 (length s) refl) z)))
    | inr q ↦ symbol_left i m q e (λ z. n (rw (get_or-append s (check s ∷ []) 0 i q) z))
  ]

  -- the number may not stand there
  misfit_left : (i m : ℕ) → i ≤ length s → m < 106 → fits_at i m ≡ false → read room (cells (set u i m) ++ stop) ≡ into room (refuse 13 i)
  unfolding most looked
  misfit_left i m l h e =
      read_cells room (set u i m) (length s) (each_set Number u i m (row_numbers s a) h) (length-set u i m ∙ long) low a.size
      ∙ rw (misfit 0 u i m (row_fits s a) (omega (arith, long)) (rw (zero-add i) e), zero-add i)

pub replaced : (room : ℕ) (s : List ℕ) → SymbolList s → (i m : ℕ) → i ≤ length s → m < 106 → m ≢ get_or (blocks_of s) i 0
    → read room (redrawn i m (row s)) ≡ into room (verdict s i m)
unfolding row redrawn verdict blocks_of
replaced room s a i m l h n = rw (over_cells (s ++ (check s ∷ [])) (row_numbers s a) i m (omega (arith, long room s a)) stop) (by_fit (fits_at i m) refl)
  where
    by_fit : (t : Bool) → fits_at i m ≡ t → read room (cells (set (s ++ (check s ∷ [])) i m) ++ stop) ≡ into room (if t then accepted_if (blind s i) (set s i m) else refuse 13 i)
    by_fit true e = fits_left room s a i m l e n
    by_fit false e = misfit_left room s a i m l h e

-- ---- where a row so damaged is accepted

blind_places : (s : List ℕ) (i m : ℕ) → fits_at i m ≡ true → blind s i ≡ true → (1 ≤ i) × (i % 103 ≡ 0) × (i < length s) × (m ≤ 102)
unfolding blind fits_at is_data
blind_places s zero m e b = true_not_false (sym b)
blind_places s (suc i) m e b =
    let both = and_true (leb 1 (suc i) && ltb (suc i) (length s)) (eqb (suc i % 103) 0) b in
    let within : suc i < length s = ltb-true (suc i) (length s) (and_true (leb 1 (suc i)) (ltb (suc i) (length s)) both.0).1 in
    (omega arith, eqb-true (suc i % 103) 0 both.1, within, leb-true m 102 e)

places_blind : (s : List ℕ) (i m : ℕ) → (1 ≤ i) × (i % 103 ≡ 0) × (i < length s) × (m ≤ 102) → (fits_at i m ≡ true) × (blind s i ≡ true)
unfolding blind fits_at is_data
places_blind s zero m p = absurd (omega arith)
places_blind s (suc i) m p =
    (le-leb m 102 p.3, rw (le-leb 1 (suc i) p.0, lt-ltb (suc i) (length s) p.2) (eq-eqb (suc i % 103) 0 p.1))

both_true : (room k j : ℕ) (t : List ℕ) (f b : Bool) → Accepted (into room (if f then accepted_if b t else refuse k j)) → (f ≡ true) × (b ≡ true)
unfolding into accepted_if ask ◌then◌
both_true room k j t true true r = (refl, refl)
both_true room k j t true false r = absurd r
both_true room k j t false b r = absurd r

pub replaced_accepted : (room : ℕ) (s : List ℕ) → SymbolList s → length s ≤ room → (i m : ℕ) → i ≤ length s → m < 106 → m ≢ get_or (blocks_of s) i 0
    → Accepted (read room (redrawn i m (row s))) ↔ ((1 ≤ i) × (i % 103 ≡ 0) × (i < length s) × (m ≤ 102))
unfolding verdict accepted_if ask ◌then◌
replaced_accepted room s a fits i m l h n = rw (replaced room s a i m l h n) (
  (λ r. let both = both_true room 13 i (set s i m) (fits_at i m) (blind s i) r in blind_places s i m both.0 both.1),
  (λ p. let both = places_blind s i m p in rw (both.0, both.1, into_room room (length (set s i m)) (set s i m) (rw (length-set s i m) fits)) tt),
)
