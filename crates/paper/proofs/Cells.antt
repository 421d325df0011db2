-- The cells of rows: their number, and that rows with the same cells have the same numbers.
-- Assumes nothing.
use mathlib.Core.Path.{◌≡◌, refl, sym, ap, ap₂, ◌∙◌}
use mathlib.Core.List.{List, [], ◌∷◌, ◌++◌, append_assoc}
use Prim.Native.Nat.{ℕ, ◌+◌, ◌*◌, ◌<◌, ◌≤◌}
use native.Mathlib.Omega.{arith}
use native.Mathlib.Nat.{mod-lt}
use lib.Dec.{lit<}
use lib.ListN.{length, take, drop, length-append}
use lib.Seq.{take_at, drop_at}
use Rattle.helpers.specs.Answers.{Each}
use Rattle.paper.proofs.Computes.{iso15417_computes}
use Rattle.paper.specs.Iso15417.{pattern, stop, weighed, check, cells, row}
use Rattle.paper.specs.Jobs.{SymbolList, StartThenData}
use Rattle.helpers.proofs.Answering.{each_append, each_map}
use Rattle.paper.proofs.Table.{length_pattern, found_pattern}

abbrev pub Number : ℕ → Type 0
Number m = m < 106

pub cells_append : (u v : List ℕ) → cells (u ++ v) ≡ cells u ++ cells v
unfolding cells
cells_append [] v = refl
cells_append (x ∷ u) v = rw (cells_append u v, append_assoc)

pub length_cells : (u : List ℕ) → Each Number u → length (cells u) ≡ 11 * length u
unfolding cells
length_cells [] a = refl
length_cells (x ∷ u) a = omega (arith, length-append (pattern x) (cells u), length_pattern x a.0, length_cells u a.1)

pub length_stop : length stop ≡ 13
unfolding iso15417_computes
length_stop = refl

-- ---- the numbers of a row

pub check_small : (s : List ℕ) → check s < 103
unfolding check
check_small [] = lit< tt
check_small (x ∷ xs) = mod-lt (x + weighed 1 xs) (lit< tt)

form_numbers : (s : List ℕ) → StartThenData s → Each Number s
form_numbers [] a = tt
form_numbers (m ∷ ms) a = (omega arith, each_map (λ k. k ≤ 102) Number (λ k h. omega arith) ms a.2)

pub row_numbers : (s : List ℕ) → SymbolList s → Each Number (s ++ (check s ∷ []))
row_numbers s a = each_append Number s (check s ∷ []) (form_numbers s a.form) (omega (arith, check_small s), tt)

pub length_row : (s : List ℕ) → SymbolList s → length (row s) ≡ 11 * (length s + 1) + 13
unfolding row
length_row s a =
    omega (arith, length-append (cells (s ++ (check s ∷ []))) stop, length_stop, length_cells (s ++ (check s ∷ [])) (row_numbers s a), length-append s (check s ∷ []))

-- ---- block by block

pub first_block : (x : ℕ) (u rest : List ℕ) → Number x → take 11 (cells (x ∷ u) ++ rest) ≡ pattern x
unfolding cells
first_block x u rest h = rw append_assoc (take_at (pattern x) (cells u ++ rest) 11 (length_pattern x h))

pub other_blocks : (x : ℕ) (u rest : List ℕ) → Number x → drop 11 (cells (x ∷ u) ++ rest) ≡ cells u ++ rest
unfolding cells
other_blocks x u rest h = rw append_assoc (drop_at (pattern x) (cells u ++ rest) 11 (length_pattern x h))

same_number : (x y : ℕ) → Number x → Number y → pattern x ≡ pattern y → x ≡ y
same_number x y a b e = cc (found_pattern x a, found_pattern y b)

same_cells : (u v : List ℕ) → Each Number u → Each Number v → length u ≡ length v → (p q : List ℕ) → cells u ++ p ≡ cells v ++ q → u ≡ v
same_cells [] [] a b l p q e = refl
same_cells [] (y ∷ v) a b l p q e = absurd (omega arith)
same_cells (x ∷ u) [] a b l p q e = absurd (omega arith)
same_cells (x ∷ u) (y ∷ v) a b l p q e =
    ap₂ (λ (k : ℕ) (w : List ℕ). k ∷ w)
    (same_number x y a.0 b.0 (sym (first_block x u p a.0) ∙ ap (take 11) e ∙ first_block y v q b.0))
    (same_cells u v a.1 b.1 (omega arith) p q (sym (other_blocks x u p a.0) ∙ ap (drop 11) e ∙ other_blocks y v q b.0))

pub row_injective : (s t : List ℕ) → SymbolList s → SymbolList t → row s ≡ row t → s ≡ t
unfolding row
row_injective s t a b e =
    let long : length s ≡ length t = omega (arith, length_row s a, length_row t b, ap length e) in
    let whole : s ++ (check s ∷ []) ≡ t ++ (check t ∷ []) =
    same_cells (s ++ (check s ∷ [])) (t ++ (check t ∷ [])) (row_numbers s a) (row_numbers t b) (simp length-append (omega arith)) stop stop e in
    sym (take_at s (check s ∷ []) (length t) long) ∙ ap (take (length t)) whole ∙ take_at t (check t ∷ []) (length t) refl
