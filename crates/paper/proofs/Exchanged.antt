-- Rows of which two data blocks have changed places: what read answers to them.
-- Assumes nothing.
use mathlib.Core.Path.{◌≡◌, refl, ◌∙◌}
use mathlib.Core.Logic.{◌≢◌}
use mathlib.Core.Bool.{true}
use mathlib.Core.List.{List, [], ◌∷◌, ◌++◌}
use Prim.Native.Nat.{ℕ, zero, suc, ◌+◌, ◌-◌, ◌*◌, ◌%◌, ◌<◌, ◌≤◌}
use native.Mathlib.Omega.{arith}
use lib.Dec.{eqb}
use lib.ListN.{get_or-append, length, get_or, set, length-append, length-set}
use lib.Seq.{drop-drop, set-append_left, set-get_or}
use borrow.Author.Tests.{leb-true}
use Rattle.helpers.specs.Answers.{Each, refuse, accept, ◌then◌, ask, into}
use Rattle.helpers.proofs.Answering.{each_at, each_set, into_refuse}
use Rattle.paper.specs.Iso15417.{pattern, stop, check, cells, row}
use Rattle.paper.specs.Jobs.{SymbolList, is_data, fits_at, read}
use Rattle.paper.specs.Damage.{accepted_if, block_at, exchanged, exchanged_list, exchanged_verdict}
use Rattle.paper.proofs.Cells.{Number, first_block, other_blocks, row_numbers}
use Rattle.paper.proofs.Reading.{Fits, row_fits, accepted}
use Rattle.paper.proofs.Primes.{check_exchanged}
use Rattle.paper.proofs.Damaged.{over_cells, set_stands, stands, symbol_stands, check_left}

-- ---- a row with two blocks exchanged is the row of the numbers, two of them exchanged

block_cells : (u : List ℕ) → Each Number u → (i : ℕ) → i < length u → (rest : List ℕ) → block_at i (cells u ++ rest) ≡ pattern (get_or u i 0)
unfolding block_at
block_cells [] a i l rest = absurd (omega arith)
block_cells (x ∷ u) a zero l rest = first_block x u rest a.0
block_cells (x ∷ u) a (suc i) l rest =
    let after : 11 * suc i ≡ 11 + 11 * i = omega arith in
    rw (after, ← drop-drop (11 * i) 11 (cells (x ∷ u) ++ rest), other_blocks x u rest a.0) (block_cells u a.1 i (omega arith) rest)

exchanged_cells : (u : List ℕ) → Each Number u → (i j : ℕ) → i < length u → j < length u → (rest : List ℕ)
    → exchanged i j (cells u ++ rest) ≡ cells (exchanged_list i j u) ++ rest
unfolding exchanged exchanged_list
exchanged_cells u a i j li lj rest =
    let number : Number (get_or u i 0) = each_at Number u i 0 a li in
    rw (block_cells u a i li rest, block_cells u a j lj rest, over_cells u a j (get_or u i 0) lj rest)
    (over_cells (set u j (get_or u i 0)) (each_set Number u j (get_or u i 0) a number) i (get_or u j 0) (omega (arith, length-set u j (get_or u i 0))) rest)

-- the check stays after the list
exchanged_symbols : (s : List ℕ) (c i j : ℕ) → i < length s → j < length s → exchanged_list i j (s ++ (c ∷ [])) ≡ exchanged_list i j s ++ (c ∷ [])
unfolding exchanged_list
exchanged_symbols s c i j li lj =
    rw (
      get_or-append s (c ∷ []) 0 i li,
      get_or-append s (c ∷ []) 0 j lj,
      set-append_left s (c ∷ []) j (get_or s i 0) lj,
    )
    (set-append_left (set s j (get_or s i 0)) (c ∷ []) i (get_or s j 0) (omega (arith, length-set s j (get_or s i 0))))

length_exchanged : (i j : ℕ) (s : List ℕ) → length (exchanged_list i j s) ≡ length s
unfolding exchanged_list
length_exchanged i j s = length-set (set s j (get_or s i 0)) i (get_or s j 0) ∙ length-set s j (get_or s i 0)

within : (s : List ℕ) (k : ℕ) → k < length s → k < length (s ++ (check s ∷ []))
within s k l = omega (arith, length-append s (check s ∷ []))

exchanged_row : (s : List ℕ) → SymbolList s → (i j : ℕ) → i < length s → j < length s → exchanged i j (row s) ≡ cells (exchanged_list i j s ++ (check s ∷ [])) ++ stop
unfolding row
exchanged_row s a i j li lj =
    exchanged_cells (s ++ (check s ∷ [])) (row_numbers s a) i j (within s i li) (within s j lj) stop
    ∙ rw (exchanged_symbols s (check s) i j li lj)

pub exchanged_alike : (s : List ℕ) → SymbolList s → (i j : ℕ) → i < length s → j < length s → get_or s i 0 ≡ get_or s j 0
    → exchanged i j (row s) ≡ row s
unfolding row exchanged_list
exchanged_alike s a i j li lj e =
    let same : set (set s j (get_or s i 0)) i (get_or s j 0) ≡ s = rw (e, set-get_or s j 0, ← e) (set-get_or s i 0) in
    exchanged_row s a i j li lj ∙ rw same

-- ---- what read answers

-- all data places take the same numbers
data_place : (i j m : ℕ) → 1 ≤ i → 1 ≤ j → fits_at i m ≡ fits_at j m
unfolding fits_at
data_place zero j m li lj = absurd (omega arith)
data_place (suc i) zero m li lj = absurd (omega arith)
data_place (suc i) (suc j) m li lj = refl

data_small : (i m : ℕ) → 1 ≤ i → fits_at i m ≡ true → m ≤ 102
unfolding fits_at is_data
data_small zero m l e = absurd (omega arith)
data_small (suc i) m l e = leb-true m 102 e

-- so numbers that may stand still may, two data among them exchanged
fits_exchanged : (u : List ℕ) → Fits 0 u → (i j : ℕ) → 1 ≤ i → 1 ≤ j → i < length u → j < length u → Fits 0 (exchanged_list i j u)
unfolding exchanged_list
fits_exchanged u f i j di dj li lj =
    let at_j : fits_at j (get_or u i 0) ≡ true = rw (data_place j i (get_or u i 0) dj di) (stands u i f li) in
    let at_i : fits_at i (get_or u j 0) ≡ true = rw (data_place i j (get_or u j 0) di dj) (stands u j f lj) in
    set_stands (set u j (get_or u i 0)) i (get_or u j 0) (set_stands u j (get_or u i 0) f at_j) at_i

module _ (s : List ℕ) (a : SymbolList s) where
  -- a data symbol is at most 102
  data_at : (k : ℕ) → 1 ≤ k → k < length s → get_or s k 0 ≤ 102
  data_at k d l = data_small k (get_or s k 0) d (symbol_stands s a k l)

  -- the numbers that are left may stand where they stand, the check with them
  row_left : (i j : ℕ) → 1 ≤ i → 1 ≤ j → i < length s → j < length s → Fits 0 (exchanged_list i j s ++ (check s ∷ []))
  row_left i j di dj li lj =
      rw (exchanged_symbols s (check s) i j li lj) at (fits_exchanged (s ++ (check s ∷ [])) (row_fits s a) i j di dj (within s i li) (within s j lj))

pub exchanged_exactly : (room : ℕ) (s : List ℕ) → SymbolList s → (i j : ℕ) → 1 ≤ i → i < j → j < length s → get_or s i 0 ≢ get_or s j 0
    → read room (exchanged i j (row s)) ≡ into room (exchanged_verdict s i j)
unfolding exchanged_verdict
exchanged_exactly room s a i j di order lj n =
    let li : i < length s = omega arith in
    let dj : 1 ≤ j = omega arith in
    let seen = check_exchanged s i j di order lj n (data_at s a i di li) (data_at s a j dj lj) in
    rw (exchanged_row s a i j li lj)
    (check_left room s a (exchanged_list i j s) (eqb ((j - i) % 103) 0) (length_exchanged i j s) (row_left s a i j di dj li lj) seen)

pub neighbours_refused : (room room' : ℕ) (r : List ℕ) (n : ℕ) (s : List ℕ) → read room r ≡ accept n s
    → (i : ℕ) → 1 ≤ i → i + 1 < n → get_or s i 0 ≢ get_or s (i + 1) 0 → read room' (exchanged i (i + 1) r) ≡ refuse 14 (check (exchanged_list i (i + 1) s))
unfolding exchanged_verdict accepted_if ask ◌then◌
neighbours_refused room room' r n s e i low high d =
    let t = accepted room r n s e in
    let next : i + 1 - i ≡ 1 = omega arith in
    let exact = exchanged_exactly room' s t.0 i (i + 1) low (omega arith) (omega (arith, t.2)) d in
    rw t.1 (exact ∙ rw next (into_refuse room' 14 (check (exchanged_list i (i + 1) s))))
