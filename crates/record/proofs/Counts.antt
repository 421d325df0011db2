-- The count of a record and the length that it needs: one law for each way to them.
-- Assumes nothing.
use Prim.Native.Nat.{ℕ, ◌+◌, ◌*◌, ◌/◌, ◌<◌, ◌≤◌}
use mathlib.Core.Path.{◌≡◌, refl, sym, ◌∙◌}
use mathlib.Core.Bool.{Bool, true, false, ◌&&◌, ◌||◌}
use mathlib.Core.List.{List}
use native.Mathlib.Omega.{arith}
use native.Mathlib.Decide.{dec_le}
use lib.Dec.{leb, eqb}
use lib.ListN.{length, get_or}
use borrow.Author.Tests.{leb-true, le-leb, lt-leb, ne_eqb}
use Rattle.std.specs.Prelude.{Some, None}
use Rattle.paper.specs.Jobs.{most, possible, row_length, bytes_for, head, record_length, version_of, head_length, count_of, count_fits}
use Rattle.paper.proofs.Records.{count_fits_lem}
use Rattle.record.specs.Tested.{declared}

-- a version that is 1 or 2, and one that is neither
pub version_known : (v : ℕ) → 1 ≤ v → v ≤ 2 → (eqb v 1 || eqb v 2) ≡ true
version_known v low high = elim (dec_le v 1) [
  | yes h ↦ let one : v ≡ 1 = omega arith in rw one refl
  | no h ↦ let two : v ≡ 2 = omega arith in rw two refl
]

pub version_other : (v : ℕ) → (1 ≤ v → v ≤ 2 → ⊥) → (eqb v 1 || eqb v 2) ≡ false
version_other v h = rw (ne_eqb v 1 (λ e. h (omega arith) (omega arith)), ne_eqb v 2 (λ e. h (omega arith) (omega arith)))

-- ---- the length of a record

pub length_needed : (n : ℕ) → record_length n ≡ length (head n) + (11 * n + 31) / 8
unfolding record_length bytes_for row_length
length_needed n = omega arith

-- ---- the count of a record

-- two counts, or a count and none
pub some_not_none : {X : Type 0} {n : ℕ} → Some n ≡ None → X
some_not_none {n} e = absurd (let z : ◌≡◌ {A = ℕ} 0 1 = cc in omega arith)

some_same : {n m : ℕ} → Some n ≡ Some m → n ≡ m
some_same e = cc

module _ (rec : List ℕ) where
  -- a count is declared, or none is
  pub declared_some : leb (head_length rec) (length rec) ≡ true → count_fits rec ≡ true → declared rec ≡ Some (count_of rec)
  unfolding declared
  declared_some arrived fits = rw (arrived, fits)

  pub declared_none : (leb (head_length rec) (length rec) && count_fits rec) ≡ false → declared rec ≡ None
  unfolding declared
  declared_none e = rw e

  pub declared_count : (n : ℕ) → declared rec ≡ Some n → (leb (head_length rec) (length rec) ≡ true) × (count_fits rec ≡ true) × (n ≡ count_of rec)
  declared_count n e = by_case (leb (head_length rec) (length rec)) (count_fits rec) refl refl
    where
      by_case : (a b : Bool) → leb (head_length rec) (length rec) ≡ a → count_fits rec ≡ b
          → (leb (head_length rec) (length rec) ≡ true) × (count_fits rec ≡ true) × (n ≡ count_of rec)
      by_case true true p q = (p, q, some_same (sym e ∙ declared_some p q))
      by_case true false p q = some_not_none (sym e ∙ declared_none (rw (p, q)))
      by_case false b p q = some_not_none (sym e ∙ declared_none (rw p))

  pub declared_within : {n : ℕ} → declared rec ≡ Some n → n ≤ most
  unfolding most
  declared_within {n} e = let d = declared_count n e in omega (arith, (count_fits_lem rec d.1).within)

  -- version 1 has 1 to 255, in one byte, and version 2 has 256 up to the limit, in two
  pub declared_1 : get_or rec 0 0 ≡ 1 → 2 ≤ length rec → 1 ≤ get_or rec 1 0 → get_or rec 1 0 < 256 → Some (get_or rec 1 0) ≡ declared rec
  unfolding declared version_of head_length count_fits count_of possible most head
  declared_1 one two some small =
      rw (one, le-leb 2 (length rec) two, le-leb 1 (get_or rec 1 0) some, le-leb (get_or rec 1 0) 4000 (omega arith), le-leb (get_or rec 1 0) 255 (omega arith)) refl

  pub declared_2 : (n : ℕ) → get_or rec 0 0 ≡ 2 → 3 ≤ length rec → n ≡ 256 * get_or rec 1 0 + get_or rec 2 0 → 256 ≤ n → n ≤ 4000 → Some n ≡ declared rec
  unfolding declared version_of head_length count_fits count_of possible most head
  declared_2 n two long count low high =
      rw (two, le-leb 3 (length rec) long, ← count, le-leb 1 n (omega arith), le-leb n 4000 high, lt-leb n 255 (omega arith)) refl

  -- and no other count is one
  pub undeclared : (get_or rec 0 0 ≡ 1 → 2 ≤ length rec → 1 ≤ get_or rec 1 0 → ⊥)
      → (get_or rec 0 0 ≡ 2 → 3 ≤ length rec → 256 ≤ 256 * get_or rec 1 0 + get_or rec 2 0 → 256 * get_or rec 1 0 + get_or rec 2 0 ≤ 4000 → ⊥)
      → None ≡ declared rec
  unfolding version_of head_length count_of
  undeclared not_1 not_2 = by_case (leb (head_length rec) (length rec)) (count_fits rec) refl refl
    where
      no_count : leb (head_length rec) (length rec) ≡ true → count_fits rec ≡ true → ⊥
      no_count p q =
          let c = count_fits_lem rec q in
          let long = leb-true _ _ p in
          elim (dec_le (count_of rec) 255) [
            | yes h ↦ let one = c.version_1 h in not_1 one (rw one at long) (rw one at c.least)
            | no h ↦ let two = c.version_2 (omega arith) in let many : 256 ≤ count_of rec = omega arith in not_2 two (rw two at long) (rw two at many) (rw two at c.within)
          ]

      by_case : (a b : Bool) → leb (head_length rec) (length rec) ≡ a → count_fits rec ≡ b → None ≡ declared rec
      by_case true true p q = absurd (no_count p q)
      by_case true false p q = sym (declared_none (rw (p, q)))
      by_case false b p q = sym (declared_none (rw p))

-- what a count is found by
pub ruleset counts = (declared_1, declared_2, undeclared)
