-- The tests that jobs begin with, one law for each way out.
-- Assumes nothing.
use Prim.Native.Nat.{ℕ, suc, ◌+◌, ◌-◌, ◌*◌, ◌≤◌}
use mathlib.Core.Path.{◌≡◌, refl, ap, ◌∙◌}
use mathlib.Core.Bool.{Bool, true, false, not}
use mathlib.Core.List.{List, [], ◌∷◌}
use native.Mathlib.Nat.{zero-add}
use native.Mathlib.Omega.{arith}
use native.Mathlib.Decide.{dec_le}
use borrow.Author.Tests.{le-leb, lt-leb}
use lib.Dec.{leb}
use lib.ListN.{length, get_or, take, drop, length-drop}
use lib.Seq.{take_all}
use Rattle.std.specs.Prelude.{Some, None, nat_lt, position}
use Rattle.helpers.specs.Answers.{refuse, accept, Test, refuses, passes, ◌then◌, ask, every}
use Rattle.helpers.proofs.Found.{every_found, every_passed}
use Rattle.paper.specs.Jobs.{possible, is_start, is_data, well_formed, row_length, symbol_count, possible_row, is_cell}
use Rattle.paper.proofs.Lengths.{possible_count, possible_count_of, possible_row_lem, possible_row_of}
use Rattle.paper.proofs.Lists.{start_bounds, bounds_start}
use Rattle.shapes.specs.Vetted.{vetted, shaped}

-- a test that does not hold, by what would follow if it did
denied : (b : Bool) → (b ≡ true → ⊥) → b ≡ false
denied true f = absurd (f refl)
denied false f = refl

-- one of two numbers is above the other, or it is not
above : (most x : ℕ) → leb x most ≡ not (nat_lt most x)
above most x = elim (dec_le x most) [ yes h ↦ rw (le-leb x most h, lt-leb (suc most) x (omega arith)) refl | no h ↦ rw (lt-leb x most (omega arith), le-leb (suc most) x (omega arith)) refl ]

-- ---- a symbol list

pub vetted_size : (s : List ℕ) → (1 ≤ length s → length s ≤ 4000 → ⊥) → vetted s ≡ refuse 10 (length s)
unfolding vetted ◌then◌ ask
vetted_size s h = let no-count = denied (possible (length s)) (λ e. let c = possible_count (length s) e in h c.0 c.1) in rw no-count

-- 13 at the START, 13 after it, and none
module _ (s : List ℕ) (low : 1 ≤ length s) (high : length s ≤ 4000) where
  vetted_form : (t : Test) → well_formed s ≡ t → vetted s ≡ (t then accept (length s) [])
  unfolding vetted ◌then◌ ask
  vetted_form t e = rw (possible_count_of (length s) low high, e)

start_wrong : (s : List ℕ) → 1 ≤ length s → is_start (get_or s 0 0) ≡ false → well_formed s ≡ refuses 13 0
unfolding well_formed
start_wrong [] low e = absurd (omega arith)
start_wrong (m ∷ ms) low e = rw e

start_right : (s : List ℕ) → 1 ≤ length s → is_start (get_or s 0 0) ≡ true → well_formed s ≡ every is_data 13 1 (drop 1 s)
unfolding well_formed
start_right [] low e = absurd (omega arith)
start_right (m ∷ ms) low e = rw e

module _ (s : List ℕ) (low : 1 ≤ length s) (high : length s ≤ 4000) where
  pub vetted_start : (103 ≤ get_or s 0 0 → get_or s 0 0 ≤ 105 → ⊥) → vetted s ≡ refuse 13 0
  unfolding ◌then◌
  vetted_start h =
      let no_start = denied (is_start (get_or s 0 0)) (λ e. let b = start_bounds (get_or s 0 0) e in h b.0 b.1) in
      vetted_form s low high (refuses 13 0) (start_wrong s low no_start)

  module _ (least : 103 ≤ get_or s 0 0) (greatest : get_or s 0 0 ≤ 105) where
    -- what stands after the START, as the code cuts it off
    behind : take (length s - 1) (drop 1 s) ≡ drop 1 s
    behind = take_all (length s - 1) (drop 1 s) (omega (arith, length-drop 1 s))

    pub vetted_data : (k : ℕ) → position (λ x. nat_lt 102 x) (take (length s - 1) (drop 1 s)) ≡ Some k → vetted s ≡ refuse 13 (1 + k)
    unfolding ◌then◌ is_data
    vetted_data k e =
        vetted_form s low high (refuses 13 (1 + k)) (start_right s low (bounds_start (get_or s 0 0) least greatest) ∙ every_found _ (λ x. nat_lt 102 x) (above 102) 13 1 (drop 1 s) (rw behind at e))

    pub vetted_done : position (λ x. nat_lt 102 x) (take (length s - 1) (drop 1 s)) ≡ None → vetted s ≡ accept (length s) []
    unfolding ◌then◌ is_data
    vetted_done e =
        vetted_form s low high passes (start_right s low (bounds_start (get_or s 0 0) least greatest) ∙ every_passed _ (λ x. nat_lt 102 x) (above 102) 13 1 (drop 1 s) (rw behind at e))

-- ---- a row

module _ (cs : List ℕ) where
  pub shaped_size : ((n : ℕ) → 1 ≤ n → n ≤ 4000 → length cs ≡ 11 * n + 24 → ⊥) → shaped cs ≡ refuse 10 (length cs)
  unfolding shaped ◌then◌ ask
  shaped_size none =
      let no_row = denied (possible_row (length cs)) (λ e. let r = possible_row_lem (length cs) e in none (symbol_count (length cs)) r.1 r.2 (omega arith)) in
      rw no_row

  module _ (n : ℕ) (low : 1 ≤ n) (high : n ≤ 4000) (long : length cs ≡ 11 * n + 24) where
    row_possible : (possible_row (length cs) ≡ true) × (symbol_count (length cs) ≡ n)
    unfolding row_length
    row_possible =
        let same : row_length n ≡ length cs = omega arith in
        rw same at (possible_row_of n low high)

    pub shaped_cell : (at : ℕ) → position (λ x. nat_lt 1 x) cs ≡ Some at → shaped cs ≡ refuse 11 at
    unfolding shaped ◌then◌ ask is_cell
    shaped_cell at e = rw (row_possible.0, every_found (λ x. leb x 1) (λ x. nat_lt 1 x) (above 1) 11 0 cs e) (ap (refuse 11) (zero-add at))

    pub shaped_done : position (λ x. nat_lt 1 x) cs ≡ None → shaped cs ≡ accept n []
    unfolding shaped ◌then◌ ask is_cell
    shaped_done e = rw (row_possible.0, every_passed (λ x. leb x 1) (λ x. nat_lt 1 x) (above 1) 11 0 cs e, row_possible.1) refl
