-- The tests that jobs begin with: 10 and 13 pass exactly the symbol lists, 11 exactly the lists of
-- cells 0 and 1.
-- Assumes nothing.
use mathlib.Core.Path.{◌≡◌, refl}
use mathlib.Core.Bool.{true}
use mathlib.Core.List.{List, [], ◌∷◌}
use Prim.Native.Nat.{ℕ, ◌≤◌}
use native.Mathlib.Omega.{arith}
use lib.ListN.{length}
use borrow.Author.Tests.{leb-true, le-leb}
use Rattle.helpers.specs.Answers.{Each, Answer, accept, passes, ◌then◌, ask, every}
use Rattle.paper.specs.Jobs.{most, possible, is_cell, is_start, is_data, StartThenData, SymbolList, well_formed, of_list}
use Rattle.paper.proofs.Lengths.{possible_count, possible_count_of}
use Rattle.helpers.proofs.Answering.{and_true, passed, each_map, then_accept, then_passes, ask_passes, ask_true, into_accept, into_room, every_good, every_passes}

-- the two tests of a number, as facts

pub start_bounds : (m : ℕ) → is_start m ≡ true → (103 ≤ m) × (m ≤ 105)
unfolding is_start
start_bounds m e = let both = and_true _ _ e in (leb-true 103 m both.0, leb-true m 105 both.1)

pub bounds_start : (m : ℕ) → 103 ≤ m → m ≤ 105 → is_start m ≡ true
unfolding is_start
bounds_start m low high = rw (le-leb 103 m low, le-leb m 105 high)

data_bound : (k : ℕ) → is_data k ≡ true → k ≤ 102
unfolding is_data
data_bound k e = leb-true k 102 e

bound_data : (k : ℕ) → k ≤ 102 → is_data k ≡ true
unfolding is_data
bound_data k h = le-leb k 102 h

-- test 13, as a statement

pub well_formed_form : (s : List ℕ) → 1 ≤ length s → well_formed s ≡ passes → StartThenData s
unfolding well_formed
well_formed_form [] h e = absurd (omega arith)
well_formed_form (m ∷ ms) h e =
    let both = passed (is_start m) 13 0 (every is_data 13 1 ms) e in
    let bounds = start_bounds m both.0 in
    (bounds.0, bounds.1, each_map _ _ data_bound ms (every_good _ 13 1 ms both.1))

pub form_well_formed : (s : List ℕ) → StartThenData s → well_formed s ≡ passes
unfolding well_formed
form_well_formed [] f = absurd f
form_well_formed (m ∷ ms) f = rw (bounds_start m f.0 f.1) (every_passes _ 13 1 ms (each_map _ _ bound_data ms f.2))

-- tests 10 and 13 before an answer, and the room after it

pub symbol_list : (room : ℕ) (s : List ℕ) (a : Answer) {n : ℕ} {out : List ℕ} → of_list room s a ≡ accept n out
    → SymbolList s × (a ≡ accept n out) × (length out ≤ room)
unfolding of_list most
symbol_list room s a e =
    let fits = into_accept room (ask (possible (length s)) 10 (length s) then well_formed s then a) e in
    let counted = then_accept _ _ fits.0 in
    let formed = then_accept (well_formed s) a counted.1 in
    let bounds = possible_count (length s) (ask_passes _ _ _ counted.0) in
    (record { form = well_formed_form s bounds.0 formed.0; size = bounds.1 }, formed.1, fits.1)

pub form_length : (s : List ℕ) → StartThenData s → 1 ≤ length s
form_length [] f = absurd f
form_length (m ∷ ms) f = omega arith

pub list_accepts : (room : ℕ) (s : List ℕ) (n : ℕ) (out : List ℕ) → SymbolList s → length out ≤ room → of_list room s (accept n out) ≡ accept n out
unfolding of_list most
list_accepts room s n out h fits =
    rw (
      ask_true (possible (length s)) 10 (length s) (possible_count_of (length s) (form_length s h.form) h.size),
      then_passes passes (well_formed s then accept n out) refl,
      then_passes (well_formed s) (accept n out) (form_well_formed s h.form),
    ) (into_room room n out fits)

-- test 11, as a statement

pub cells_tested : (cs : List ℕ) → every is_cell 11 0 cs ≡ passes → Each (λ c. c ≤ 1) cs
unfolding is_cell
cells_tested cs e = each_map (λ c. is_cell c ≡ true) (λ c. c ≤ 1) (λ c. leb-true c 1) cs (every_good is_cell 11 0 cs e)

pub cells_pass : (cs : List ℕ) → Each (λ c. c ≤ 1) cs → every is_cell 11 0 cs ≡ passes
unfolding is_cell
cells_pass cs a = every_passes is_cell 11 0 cs (each_map (λ c. c ≤ 1) (λ c. is_cell c ≡ true) (λ c. le-leb c 1) cs a)
