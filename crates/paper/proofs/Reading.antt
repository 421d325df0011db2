-- What read answers to cells drawn from numbers, and what it accepts: rows, and nothing else.
-- Assumes nothing.
use mathlib.Core.Path.{◌≡◌, refl, sym, ap, ap₂, ◌∙◌}
use mathlib.Core.Bool.{Bool, true, false}
use mathlib.Core.List.{List, [], ◌∷◌, ◌++◌, append_assoc}
use Prim.Native.Nat.{ℕ, zero, suc, ◌+◌, ◌-◌, ◌*◌, ◌≤◌}
use native.Mathlib.Omega.{arith}
use lib.Dec.{eqb}
use lib.ListN.{length, get_or, take, drop, length-append, take-append-drop, length-drop}
use lib.Seq.{length-take-le, take_all, drop-drop, take_at, drop_at, take-suc, get_or_at}
use borrow.Author.Tests.{leb-true, le-leb, eqb-true, eq-eqb}
use Rattle.std.specs.Prelude.{if◌then◌else◌}
use Rattle.helpers.specs.Answers.{Each, Answer, accept, passes, ◌then◌, ask, every, into}
use Rattle.paper.proofs.Computes.{iso15417_computes, jobs_computes}
use Rattle.paper.specs.Iso15417.{pattern, stop, Look, is, worn, unknown, found, check, cells, row}
use Rattle.paper.specs.Jobs.{most, SymbolList, StartThenData, row_length, symbol_count, possible_row, is_cell, is_data, Blocks, wrong_block, numbers, of_row, fits_at, with_number, block, blocks_from, looked, last_of, wanted, read, draw}
use Rattle.paper.specs.Damage.{accepted_if}
use Rattle.helpers.proofs.Answering.{then_accept, ask_passes, passed, into_accept, into_room, each_append, refuse_not_accept, accept_number, accept_output}
use Rattle.paper.proofs.Table.{found_pattern, found_is, pattern_cells}
use Rattle.paper.proofs.Lists.{start_bounds, bounds_start, form_length, symbol_list, list_accepts, cells_tested, cells_pass}
use Rattle.paper.proofs.Lengths.{possible_row_lem, possible_row_of}
use Rattle.paper.proofs.Cells.{Number, length_cells, length_stop, length_row, first_block, other_blocks, check_small, row_numbers}

-- ---- numbers that may stand as the blocks from b on

abbrev pub Fits : ℕ → List ℕ → Type 0
Fits b [] = Unit {0}
Fits b (m ∷ ms) = (fits_at b m ≡ true) × Fits (suc b) ms

fits_number : (b m : ℕ) → fits_at b m ≡ true → Number m
unfolding fits_at is_data
fits_number zero m e = omega (arith, start_bounds m e)
fits_number (suc b) m e = omega (arith, leb-true m 102 e)

pub fits_numbers : (b : ℕ) (u : List ℕ) → Fits b u → Each Number u
fits_numbers b [] f = tt
fits_numbers b (m ∷ ms) f = (fits_number b m f.0, fits_numbers (suc b) ms f.1)

-- after the START they are data
fits_data : (b : ℕ) (u : List ℕ) → Fits (suc b) u → Each (λ k. k ≤ 102) u
unfolding fits_at is_data
fits_data b [] f = tt
fits_data b (m ∷ ms) f = (leb-true m 102 f.0, fits_data (suc b) ms f.1)

data_fits : (b : ℕ) (u : List ℕ) → Each (λ k. k ≤ 102) u → Fits (suc b) u
unfolding fits_at is_data
data_fits b [] f = tt
data_fits b (m ∷ ms) f = (le-leb m 102 f.0, data_fits (suc b) ms f.1)

fits_form : (u : List ℕ) → 1 ≤ length u → Fits 0 u → StartThenData u
unfolding fits_at
fits_form [] l f = absurd (omega arith)
fits_form (m ∷ ms) l f = let bounds = start_bounds m f.0 in (bounds.0, bounds.1, fits_data 0 ms f.1)

fits_append : (b : ℕ) (u : List ℕ) (m : ℕ) → Fits b (u ++ (m ∷ [])) → Fits b u
fits_append b [] m f = tt
fits_append b (k ∷ u) m f = (f.0, fits_append (suc b) u m f.1)

form_fits : (s : List ℕ) → StartThenData s → (m : ℕ) → m ≤ 102 → Fits 0 (s ++ (m ∷ []))
unfolding fits_at
form_fits [] f m h = absurd f
form_fits (k ∷ ks) f m h = (bounds_start k f.0 f.1, data_fits 0 (ks ++ (m ∷ [])) (each_append (λ k. k ≤ 102) ks (m ∷ []) f.2 (h, tt)))

-- the symbols of a list and its check
pub row_fits : (s : List ℕ) → SymbolList s → Fits 0 (s ++ (check s ∷ []))
row_fits s a = form_fits s a.form (check s) (omega (arith, check_small s))

-- ---- blocks drawn from numbers

-- the walk of read over numbers in place of blocks
unfoldable pub sound : ℕ → List ℕ → Blocks
sound b [] = numbers []
sound b (m ∷ ms) = block (is m) b (sound (suc b) ms)

pub sound_fits : (b : ℕ) (u : List ℕ) → Fits b u → sound b u ≡ numbers u
unfolding sound block with_number
sound_fits b [] f = refl
sound_fits b (m ∷ ms) f = rw (f.0, sound_fits (suc b) ms f.1)

pub blocks_cells : (b : ℕ) (u rest : List ℕ) → Each Number u → blocks_from (length u) b (cells u ++ rest) ≡ sound b u
unfolding sound blocks_from
blocks_cells b [] rest a = refl
blocks_cells b (m ∷ ms) rest a = rw (first_block m ms rest a.0, found_pattern m a.0, other_blocks m ms rest a.0, blocks_cells (suc b) ms rest a.1)

pub cells_clean : (u : List ℕ) → Each Number u → Each (λ c. c ≤ 1) (cells u)
unfolding cells
cells_clean [] a = tt
cells_clean (m ∷ ms) a = each_append (λ c. c ≤ 1) (pattern m) (cells ms) (pattern_cells m a.0) (cells_clean ms a.1)

pub stop_clean : Each (λ c. c ≤ 1) stop
unfolding jobs_computes
stop_clean = cells_tested stop refl

pub row_clean : (s : List ℕ) → SymbolList s → Each (λ c. c ≤ 1) (row s)
unfolding row
row_clean s a =
    let u = s ++ (check s ∷ []) in
    each_append (λ c. c ≤ 1) (cells u) stop (cells_clean u (row_numbers s a)) stop_clean

stop_passes : (at : ℕ) → wanted 15 at stop stop ≡ passes
unfolding iso15417_computes wanted
stop_passes at = refl

-- what read asks of the numbers of the blocks, 15 and 14
abbrev pub judged : ℕ → List ℕ → List ℕ → Answer
judged n cs ms =
    wanted 15 (length cs - 13) stop (last_of 13 cs) then
    ask (eqb (get_or ms n 0) (check (take n ms))) 14 (check (take n ms)) then
    accept n (take n ms)

-- a row's first two tests pass
pub of_row_lem : (room : ℕ) (cs : List ℕ) (made : ℕ → Answer) (n : ℕ) → length cs ≡ row_length n → 1 ≤ n → n ≤ 4000 → Each (λ c. c ≤ 1) cs
    → of_row room cs made ≡ into room (made n)
unfolding of_row ◌then◌ ask
of_row_lem room cs made n long low high clean =
    let may = possible_row_of n low high in
    let sized : possible_row (length cs) ≡ true = rw long may.0 in
    let counted : symbol_count (length cs) ≡ n = rw long may.1 in
    rw (sized, counted, cells_pass cs clean)

-- read answers by the walk over the blocks
pub read_clean : (room : ℕ) (cs : List ℕ) (n : ℕ) → length cs ≡ 11 * (n + 1) + 13 → 1 ≤ n → n ≤ 4000 → Each (λ c. c ≤ 1) cs
    → read room cs ≡ into room (looked (blocks_from (n + 1) 0 cs) (judged n cs))
unfolding read row_length
read_clean room cs n long low high clean = of_row_lem room cs _ n long low high clean

-- and over the numbers that they are drawn from
pub read_cells : (room : ℕ) (u : List ℕ) (n : ℕ) → Each Number u → length u ≡ n + 1 → 1 ≤ n → n ≤ 4000
    → read room (cells u ++ stop) ≡ into room (looked (sound 0 u) (judged n (cells u ++ stop)))
read_cells room u n a l low high =
    let long : length (cells u ++ stop) ≡ 11 * (n + 1) + 13 = simp (length-append, length_cells u a, length_stop, l) in
    let clean = each_append (λ c. c ≤ 1) (cells u) stop (cells_clean u a) stop_clean in
    read_clean room (cells u ++ stop) n long low high clean ∙ rw (← l, blocks_cells 0 u stop a)

-- where all of them may stand, the check is left to ask
read_fits : (room : ℕ) (u : List ℕ) (n : ℕ) → Fits 0 u → length u ≡ n + 1 → 1 ≤ n → n ≤ 4000
    → read room (cells u ++ stop) ≡ into room (ask (eqb (get_or u n 0) (check (take n u))) 14 (check (take n u)) then accept n (take n u))
unfolding looked last_of ◌then◌
read_fits room u n f l low high =
    let a = fits_numbers 0 u f in
    let at : ℕ = length (cells u ++ stop) - 13 in
    let long : length (cells u) ≡ at = omega (arith, length-append (cells u) stop, length_stop) in
    read_cells room u n a l low high ∙ rw (sound_fits 0 u f, drop_at (cells u) stop at long, stop_passes at)

-- numbers that may stand as those of a list and a check: the list, if the check is its own
pub read_list : (room : ℕ) (s : List ℕ) (c : ℕ) → Fits 0 (s ++ (c ∷ [])) → 1 ≤ length s → length s ≤ 4000
    → read room (cells (s ++ (c ∷ [])) ++ stop) ≡ into room (accepted_if (eqb c (check s)) s)
unfolding accepted_if
read_list room s c f low high =
    read_fits room (s ++ (c ∷ [])) (length s) f (length-append s (c ∷ [])) low high
    ∙ rw (take_at s (c ∷ []) (length s) refl, get_or_at s c [] 0 (length s) refl)

pub read_row : (room : ℕ) (s : List ℕ) → SymbolList s → length s ≤ room → read room (row s) ≡ accept (length s) s
unfolding row most accepted_if ask ◌then◌
read_row room s a h =
    read_list room s (check s) (row_fits s a) (form_length s a.form) a.size
    ∙ rw (eq-eqb (check s) (check s) refl) (into_room room (length s) s h)

-- ---- what read accepts

fitted : (b m : ℕ) (t : Bool) (rest : Blocks) (ms : List ℕ) → fits_at b m ≡ t → (if t then with_number m rest else wrong_block 13 b) ≡ numbers ms
    → (ks : List ℕ) × (fits_at b m ≡ true) × (rest ≡ numbers ks) × (ms ≡ m ∷ ks)
unfolding with_number
fitted b m true (wrong_block k c) ms e q = absurd (let z : ◌≡◌ {A = ℕ} 0 1 = cc in omega arith)
fitted b m true (numbers ks) ms e q = (ks, e, refl, cc)
fitted b m false rest ms e q = absurd (let z : ◌≡◌ {A = ℕ} 0 1 = cc in omega arith)

block_numbers : (l : Look) (b : ℕ) (rest : Blocks) (ms : List ℕ) → block l b rest ≡ numbers ms
    → (m : ℕ) × (ks : List ℕ) × (l ≡ is m) × (fits_at b m ≡ true) × (rest ≡ numbers ks) × (ms ≡ m ∷ ks)
unfolding block
block_numbers (is m) b rest ms e = let r = fitted b m (fits_at b m) rest ms refl e in (m, r.0, refl, r.1, r.2, r.3)
block_numbers worn b rest ms e = absurd (let z : ◌≡◌ {A = ℕ} 0 1 = cc in omega arith)
block_numbers unknown b rest ms e = absurd (let z : ◌≡◌ {A = ℕ} 0 1 = cc in omega arith)

-- what follows from the numbers of n blocks for the cells
record Walked (n b : ℕ) (cs ms : List ℕ) : Type 0 where
  fit : Fits b ms
  count : length ms ≡ n
  drawn_so : cs ≡ cells ms ++ drop (11 * n) cs

walked : (n b : ℕ) (cs ms : List ℕ) → blocks_from n b cs ≡ numbers ms → Walked n b cs ms
unfolding blocks_from cells
walked zero b cs ms e = let none : ms ≡ [] = cc in record { fit = rw none tt; count = rw none; drawn_so = rw none }
walked (suc n) b cs ms e =
    let r = block_numbers (found (take 11 cs)) b (blocks_from n (suc b) (drop 11 cs)) ms e in
    let t = walked n (suc b) (drop 11 cs) r.1 r.4 in
    let more : 11 + 11 * n ≡ 11 * suc n = omega arith in
    let others : drop (11 * n) (drop 11 cs) ≡ drop (11 * suc n) cs = rw more at (drop-drop (11 * n) 11 cs) in
    let whole : pattern r.0 ++ (cells r.1 ++ drop (11 * n) (drop 11 cs)) ≡ cs =
    rw (← (found_is (take 11 cs) r.0 r.2).0, ← t.drawn_so) (take-append-drop 11 cs) in
    record { fit = rw r.5 (r.3, t.fit); count = rw r.5 (ap suc t.count); drawn_so = rw (r.5, append_assoc, ← others) (sym whole) }

stopped : (at : ℕ) (ys cs : List ℕ) → length cs ≡ length ys → wanted 15 at ys cs ≡ passes → cs ≡ ys
unfolding wanted
stopped at [] [] l e = refl
stopped at [] (c ∷ cs) l e = absurd (omega arith)
stopped at (y ∷ ys) [] l e = absurd (omega arith)
stopped at (y ∷ ys) (c ∷ cs) l e =
    let both = passed (eqb c y) 15 at (wanted 15 (suc at) ys cs) e in
    ap₂ (λ (x : ℕ) (xs : List ℕ). x ∷ xs) (eqb-true c y both.0) (stopped (suc at) ys cs (omega arith) both.1)

-- cells of the length for k symbols, read into blocks and accepted
read_out : (k : ℕ) (r : List ℕ) (n : ℕ) (s : List ℕ) → length r ≡ 11 * (k + 1) + 13 → 1 ≤ k → k ≤ 4000
    → (bs : Blocks) → blocks_from (k + 1) 0 r ≡ bs → looked bs (judged k r) ≡ accept n s → SymbolList s × (r ≡ row s) × (n ≡ length s)
unfolding looked last_of most row
read_out k r n s l low high (wrong_block c b) q e = refuse_not_accept e
read_out k r n s l low high (numbers ms) q e =
    let t = walked (k + 1) 0 r ms q in
    let stops = then_accept (wanted 15 (length r - 13) stop (drop (length r - 13) r)) _ e in
    let place : length r - 13 ≡ 11 * (k + 1) = omega arith in
    let checks = then_accept (ask (eqb (get_or ms k 0) (check (take k ms))) 14 (check (take k ms))) _ stops.1 in
    let front : take k ms ≡ s = accept_output checks.1 in
    let last : get_or ms k 0 ≡ check (take k ms) = eqb-true _ _ (ask_passes _ _ _ checks.0) in
    let size : length ms ≡ k + 1 = t.count in
    let long : length s ≡ k = rw front at (length-take-le k ms (omega arith)) in
    let all : s ++ (check s ∷ []) ≡ ms = rw (← front, ← last, ← take-suc ms k 0 (omega arith)) (take_all (suc k) ms (omega arith)) in
    let tail : drop (11 * (k + 1)) r ≡ stop = rw place at (stopped (length r - 13) stop (drop (length r - 13) r) (simp (length-drop, length_stop) (omega arith)) stops.0) in
    let form : Fits 0 s = fits_append 0 s (check s) (rw all t.fit) in
    (record { form = fits_form s (omega arith) form; size = omega arith }, rw (all, ← tail) t.drawn_so, sym (accept_number checks.1) ∙ sym long)

pub accepted : (room : ℕ) (r : List ℕ) (n : ℕ) (s : List ℕ) → read room r ≡ accept n s → SymbolList s × (r ≡ row s) × (n ≡ length s)
unfolding read of_row
accepted room r n s e =
    let k : ℕ = symbol_count (length r) in
    let fits = into_accept room (ask (possible_row (length r)) 10 (length r) then every is_cell 11 0 r then looked (blocks_from (k + 1) 0 r) (judged k r)) e in
    let sized = then_accept (ask (possible_row (length r)) 10 (length r)) _ fits.0 in
    let clean = then_accept (every is_cell 11 0 r) _ sized.1 in
    let may = possible_row_lem (length r) (ask_passes _ _ _ sized.0) in
    read_out k r n s may.0 may.1 may.2 (blocks_from (k + 1) 0 r) refl clean.1

-- ---- the promises of draw and read

drawn_list : (room : ℕ) (s : List ℕ) (n : ℕ) (r : List ℕ) → draw room s ≡ accept n r → SymbolList s × (r ≡ row s) × (n ≡ length s)
unfolding draw
drawn_list room s n r e =
    let d = symbol_list room s (accept (length s) (row s)) e in
    (d.0, sym (accept_output d.1), sym (accept_number d.1))

row_size : (r : List ℕ) (n : ℕ) (s : List ℕ) → SymbolList s × (r ≡ row s) × (n ≡ length s) → (length r ≡ 11 * (n + 1) + 13) × (n ≡ length s) × (n ≤ 4000)
unfolding most
row_size r n s d = (rw (d.1, d.2) (length_row s d.0), d.2, rw d.2 d.0.size)

pub draw_size : (room : ℕ) (s : List ℕ) (n : ℕ) (r : List ℕ) → draw room s ≡ accept n r → (length r ≡ 11 * (n + 1) + 13) × (n ≡ length s) × (n ≤ 4000)
draw_size room s n r e = row_size r n s (drawn_list room s n r e)

pub read_size : (room : ℕ) (r : List ℕ) (n : ℕ) (s : List ℕ) → read room r ≡ accept n s → (length r ≡ 11 * (n + 1) + 13) × (n ≡ length s) × (n ≤ 4000)
read_size room r n s e = row_size r n s (accepted room r n s e)

pub read_of_draw : (room : ℕ) (s : List ℕ) (n : ℕ) (r : List ℕ) → draw room s ≡ accept n r → (place : ℕ) → n ≤ place → read place r ≡ accept n s
read_of_draw room s n r e place h = let d = drawn_list room s n r e in rw (d.1, d.2) (read_row place s d.0 (omega arith))

pub draw_of_read : (room : ℕ) (r : List ℕ) (n : ℕ) (s : List ℕ) → read room r ≡ accept n s → (place : ℕ) → length r ≤ place → draw place s ≡ accept n r
unfolding draw
draw_of_read room r n s e place h =
    let d = accepted room r n s e in
    rw (d.1, d.2) (list_accepts place s (length s) (row s) d.0 (rw d.1 at h))
