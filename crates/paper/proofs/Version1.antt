-- The row record beside that of before request 4: rows of up to 255 symbols and records of every
-- version but 2 are answered as they were, and old readers refuse those of version 2.
-- Assumes nothing.
use mathlib.Core.Path.{◌≡◌, refl, sym, ap, ◌∙◌}
use mathlib.Core.Logic.{◌≢◌}
use mathlib.Core.Bool.{Bool, true, false, ◌&&◌}
use mathlib.Core.List.{List}
use Prim.Native.Nat.{ℕ, ◌+◌, ◌<◌, ◌≤◌}
use native.Mathlib.Omega.{arith}
use native.Mathlib.Decide.{dec_le}
use lib.Dec.{leb, eqb}
use lib.ListN.{length, get_or}
use borrow.Author.Tests.{leb-true, le-leb, lt-leb, eqb-true, eqb-false, ne_eqb}
use Rattle.std.specs.Prelude.{if◌then◌else◌}
use Rattle.helpers.specs.Answers.{Answer, refuse, ◌then◌, ask, into}
use Rattle.helpers.proofs.Answering.{and_true, and_false}
use Rattle.paper.specs.Jobs.{most, possible, row_length, symbol_count, possible_row, of_row, bytes_for, head, record_of, pack, record_length, version_of, head_length, count_of, count_fits, stored_cells, unpack}
use Rattle.paper.specs.Version1.{old_possible, old_record, old_pack, old_length, old_unpack}
use Rattle.paper.proofs.Records.{head_short}

-- ---- up to 255 symbols

few_symbols : (len : ℕ) → len ≤ 2829 → symbol_count len ≤ 255
unfolding symbol_count
few_symbols len h = omega arith

pub pack_as_before : (room : ℕ) (cs : List ℕ) → length cs ≤ 2829 → pack room cs ≡ old_pack room cs
unfolding pack of_row possible_row possible most record_of head old_pack old_possible old_record
pack_as_before room cs h =
    let n = symbol_count (length cs) in
    let few : n ≤ 255 = few_symbols (length cs) h in
    rw (le-leb n 255 few, le-leb n 4000 (omega arith)) refl

-- ---- every version but 2

and_kept : (b : Bool) → (b && true) ≡ b
and_kept true = refl
and_kept false = refl

-- the counts that fit version 1 are those that were possible
fits_1 : (n : ℕ) → (possible n && eqb 1 (get_or (head n) 0 0)) ≡ old_possible n
unfolding possible most head old_possible
fits_1 n = elim (dec_le n 255) [
  | yes h ↦ rw (le-leb n 255 h, le-leb n 4000 (omega arith)) (and_kept (leb 1 n && true))
  | no h ↦ rw (lt-leb n 255 (omega arith)) (and_false (leb 1 n && leb n 4000) ∙ sym (and_false (leb 1 n)))
]

-- the tests of count and length of a record of version 1
counted_1 : (len n : ℕ) (rest : Answer) → 2 ≤ len
    → (ask (possible n && eqb 1 (get_or (head n) 0 0)) 22 0 then ask (eqb len (record_length n)) 22 (record_length n) then rest)
    ≡ (ask (eqb len (old_length n)) 22 (old_length n) then rest)
unfolding record_length old_length old_possible ask ◌then◌
counted_1 len n rest two = rw (fits_1 n) (by_count (leb 1 n && leb n 255) refl)
  where
    by_count : (b : Bool) → (leb 1 n && leb n 255) ≡ b
        → (ask b 22 0 then ask (eqb len (length (head n) + bytes_for (row_length n))) 22 (length (head n) + bytes_for (row_length n)) then rest)
        ≡ (ask (eqb len (if b then 2 + bytes_for (row_length n) else 0)) 22 (if b then 2 + bytes_for (row_length n) else 0) then rest)
    by_count true e = rw (head_short n (leb-true n 255 (and_true (leb 1 n) (leb n 255) e).1)) refl
    by_count false e = rw (ne_eqb len 0 (λ z. omega arith)) refl

module _ (room : ℕ) (rec : List ℕ) where
  as_1 : get_or rec 0 0 ≡ 1 → 2 ≤ length rec → unpack room rec ≡ old_unpack room rec
  unfolding unpack old_unpack version_of head_length count_of count_fits stored_cells ask ◌then◌
  as_1 one two = rw (one, le-leb 2 (length rec) two) (ap (into room) (counted_1 (length rec) (get_or rec 1 0) _ two))

  as_other : get_or rec 0 0 ≢ 1 → get_or rec 0 0 ≢ 2 → 2 ≤ length rec → unpack room rec ≡ old_unpack room rec
  unfolding unpack old_unpack version_of ask ◌then◌
  as_other one other two = rw (le-leb 2 (length rec) two, ne_eqb (get_or rec 0 0) 1 one, ne_eqb (get_or rec 0 0) 2 other) refl

  as_short : length rec < 2 → unpack room rec ≡ old_unpack room rec
  unfolding unpack old_unpack ask ◌then◌
  as_short h = rw (lt-leb 2 (length rec) h) refl

  pub unpack_as_before : version_of rec ≢ 2 → unpack room rec ≡ old_unpack room rec
  unfolding version_of
  unpack_as_before other = elim (dec_le 2 (length rec)) [
    | no h ↦ as_short (omega arith)
    | yes two ↦ by_version two (eqb (get_or rec 0 0) 1) refl
  ]
    where
      by_version : 2 ≤ length rec → (b : Bool) → eqb (get_or rec 0 0) 1 ≡ b → unpack room rec ≡ old_unpack room rec
      by_version two true e = as_1 (eqb-true _ _ e) two
      by_version two false e = as_other (eqb-false _ _ e) other two

-- ---- version 2

pub old_readers : (room : ℕ) (rec : List ℕ) → 2 ≤ length rec → version_of rec ≡ 2 → old_unpack room rec ≡ refuse 21 2
unfolding old_unpack version_of ask ◌then◌ into
old_readers room rec two e = rw (le-leb 2 (length rec) two, e) refl
