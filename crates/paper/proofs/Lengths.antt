-- The lengths that a row may have, against the numbers of symbols that a list may have.
-- Assumes nothing.
use mathlib.Core.Path.{◌≡◌, refl}
use mathlib.Core.Bool.{true}
use Prim.Native.Nat.{ℕ, ◌+◌, ◌*◌, ◌≤◌}
use native.Mathlib.Omega.{arith}
use lib.Dec.{leb, eqb}
use borrow.Author.Tests.{leb-true, le-leb, eqb-true, eq-eqb}
use Rattle.paper.specs.Jobs.{most, possible, row_length, symbol_count, possible_row}
use Rattle.helpers.proofs.Answering.{and_true}

-- a number of symbols within the limit, from the test and to it
pub possible_count : (n : ℕ) → possible n ≡ true → (1 ≤ n) × (n ≤ 4000)
unfolding possible most
possible_count n e =
    let both = and_true (leb 1 n) (leb n 4000) e in
    (leb-true 1 n both.0, leb-true n 4000 both.1)

pub possible_count_of : (n : ℕ) → 1 ≤ n → n ≤ 4000 → possible n ≡ true
unfolding possible most
possible_count_of n l h = rw (le-leb 1 n l, le-leb n 4000 h)

-- the symbols of the cells of n symbols are n
pub count_of_length : (n : ℕ) → symbol_count (row_length n) ≡ n
unfolding symbol_count row_length
count_of_length n = omega arith

pub possible_row_lem : (len : ℕ) → possible_row len ≡ true → (len ≡ 11 * (symbol_count len + 1) + 13) × (1 ≤ symbol_count len) × (symbol_count len ≤ 4000)
unfolding possible_row row_length
possible_row_lem len e =
    let both = and_true (possible (symbol_count len)) (eqb len (row_length (symbol_count len))) e in
    let fits = possible_count (symbol_count len) both.0 in
    (eqb-true len (row_length (symbol_count len)) both.1, fits.0, fits.1)

pub possible_row_of : (n : ℕ) → 1 ≤ n → n ≤ 4000 → (possible_row (row_length n) ≡ true) × (symbol_count (row_length n) ≡ n)
unfolding possible_row
possible_row_of n l h =
    (rw (count_of_length n, possible_count_of n l h) (eq-eqb (row_length n) (row_length n) refl), count_of_length n)

pub row_sizes : (row_length 1 ≡ 35) × (row_length 255 ≡ 2829) × (row_length 4000 ≡ 44024)
unfolding row_length
row_sizes = (refl, refl, refl)
