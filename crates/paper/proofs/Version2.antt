-- Records of version 2: what pack writes and what unpack answers, exactly.
-- Assumes nothing.
use mathlib.Core.Path.{◌≡◌, refl, ap, ◌∙◌}
use mathlib.Core.Logic.{◌≢◌, ◌⊎◌, inl, inr}
use mathlib.Core.Bool.{Bool, true, false}
use mathlib.Core.List.{List, ◌∷◌}
use Prim.Native.Nat.{ℕ, ◌+◌, ◌-◌, ◌*◌, ◌/◌, ◌%◌, ◌<◌, ◌≤◌}
use native.Mathlib.Omega.{arith}
use native.Mathlib.Decide.{dec_le}
use lib.Dec.{eqb}
use lib.ListN.{length, get_or, take, drop}
use borrow.Author.Tests.{le-leb, lt-leb}
use Rattle.helpers.specs.Answers.{refuse, ◌then◌, ask, every, whole, into}
use Rattle.helpers.proofs.Answering.{and_false}
use Rattle.paper.specs.Jobs.{most, possible, row_length, symbol_count, possible_row, is_cell, of_row, bytes, bytes_for, head, record_of, pack, unbytes, all_zero, record_length, version_of, head_length, count_of, count_fits, stored_cells, unpack}
use Rattle.paper.proofs.Lengths.{possible_row_lem, possible_row_of}

-- ---- pack

pub pack_long : (room : ℕ) (cs : List ℕ) (n : ℕ) → 255 < n → n ≤ 4000 → length cs ≡ row_length n
    → pack room cs ≡ into room (every is_cell 11 0 cs then whole (2 ∷ (n / 256) ∷ (n % 256) ∷ bytes (bytes_for (length cs)) cs))
unfolding pack of_row record_of head ask ◌then◌
pack_long room cs n low high long =
    let row = possible_row_of n (omega arith) high in
    let fits : possible_row (length cs) ≡ true = rw long row.0 in
    rw (fits, ap symbol_count long ∙ row.1, lt-leb n 255 low) refl

pub pack_none : (room : ℕ) (cs : List ℕ) → ((n : ℕ) → 1 ≤ n → n ≤ 4000 → length cs ≢ row_length n) → pack room cs ≡ refuse 10 (length cs)
unfolding pack of_row row_length ask ◌then◌ into
pack_none room cs other = by_length (possible_row (length cs)) refl
  where
    by_length : (b : Bool) → possible_row (length cs) ≡ b → pack room cs ≡ refuse 10 (length cs)
    by_length true e = let p = possible_row_lem (length cs) e in absurd (other (symbol_count (length cs)) p.1 p.2 p.0)
    by_length false e = rw e refl

-- ---- unpack

-- a count that no record of version 2 has
pub misfit : (rec : List ℕ) → version_of rec ≡ 2 → (count_of rec ≤ 255) ⊎ (4000 < count_of rec) → count_fits rec ≡ false
unfolding count_fits possible most head
misfit rec two (inl h) = rw (two, le-leb (count_of rec) 255 h) (and_false (possible (count_of rec)))
misfit rec two (inr h) = rw (le-leb 1 (count_of rec) (omega arith), lt-leb (count_of rec) 4000 h)

module _ (room : ℕ) (rec : List ℕ) where
  pub unpack_under : length rec < 2 → unpack room rec ≡ refuse 20 (length rec)
  unfolding unpack ask ◌then◌ into
  unpack_under h = rw (lt-leb 2 (length rec) h) refl

  counted : (n : ℕ) → version_of rec ≡ 2 → n ≡ 256 * get_or rec 1 0 + get_or rec 2 0 → n ≡ count_of rec
  unfolding count_of
  counted n two count = rw two count

  pub unpack_none : (n : ℕ) → 2 ≤ length rec → version_of rec ≡ 2 → n ≡ 256 * get_or rec 1 0 + get_or rec 2 0
      → (length rec < 3) ⊎ ((n ≤ 255) ⊎ (4000 < n)) → unpack room rec ≡ refuse 22 0
  unfolding unpack head_length ask ◌then◌ into
  unpack_none n h two count (inl short) = rw (le-leb 2 (length rec) h, two, lt-leb 3 (length rec) short) refl
  unpack_none n h two count (inr none) = elim (dec_le 3 (length rec)) [
    | yes l ↦ rw (le-leb 2 (length rec) h, misfit rec two (rw (counted n two count) at none), two, le-leb 3 (length rec) l) refl
    | no l ↦ rw (le-leb 2 (length rec) h, two, lt-leb 3 (length rec) (omega arith)) refl
  ]

  pub unpack_long : (n : ℕ) → 3 ≤ length rec → version_of rec ≡ 2 → n ≡ 256 * get_or rec 1 0 + get_or rec 2 0 → 255 < n → n ≤ 4000
      → unpack room rec
      ≡ into room
      (ask (eqb (length rec) (3 + bytes_for (row_length n))) 22 (3 + bytes_for (row_length n)) then
      ask (all_zero (drop (row_length n) (unbytes (drop 3 rec)))) 23 (length rec - 1) then
      whole (take (row_length n) (unbytes (drop 3 rec))))
  unfolding unpack head_length count_of count_fits possible most head record_length stored_cells ask ◌then◌
  unpack_long n h two count low high =
      rw (le-leb 2 (length rec) (omega arith), two, le-leb 3 (length rec) h, ← count, le-leb 1 n (omega arith), le-leb n 4000 high, lt-leb n 255 low) refl
