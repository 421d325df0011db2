-- The constants are the paper's, and a row is stored part by part.
-- Assumes nothing.
use Prim.Native.Nat.{ℕ, ◌+◌, ◌*◌, ◌<◌}
use mathlib.Core.Path.{◌≡◌, refl, sym}
use mathlib.Core.List.{List, [], ◌∷◌, ◌++◌, append-nil, append_assoc}
use native.Mathlib.Omega.{arith}
use lib.ListN.{length}
use lib.Seq.{sets}
use Rattle.helpers.specs.Answers.{Each}
use Rattle.paper.proofs.Computes.{iso15417_computes}
use Rattle.paper.specs.Iso15417.{pattern, stop, check, cells, row}
use Rattle.paper.specs.Jobs.{SymbolList}
use Rattle.paper.proofs.Table.{length_pattern}
use Rattle.paper.proofs.Cells.{Number, cells_append, length_cells, check_small, row_numbers}
use Rattle.helpers.specs.Terms.{Stored}
use Rattle.helpers.proofs.Gives.{stored_at, stored_then}

-- ---- the constants

-- `STOP` and `TERM`
abbrev pub stop_cells : List ℕ
stop_cells = 1 ∷ 1 ∷ 0 ∷ 0 ∷ 0 ∷ 1 ∷ 1 ∷ 1 ∷ 0 ∷ 1 ∷ 0 ∷ []

abbrev pub term_cells : List ℕ
term_cells = 1 ∷ 1 ∷ []

pub stop_parts : stop_cells ++ term_cells ≡ stop
unfolding iso15417_computes
stop_parts = refl

-- ---- a row

each_left : (P : ℕ → Type 0) (xs ys : List ℕ) → Each P (xs ++ ys) → Each P xs
each_left P [] ys a = tt
each_left P (x ∷ xs) ys a = (a.0, each_left P xs ys a.1)

-- a row in its four parts
pub row_parts : (s : List ℕ) → row s ≡ ((cells s ++ pattern (check s)) ++ stop_cells) ++ term_cells
unfolding row cells
row_parts s = rw (cells_append s (check s ∷ []), append-nil, ← stop_parts) (sym (append_assoc (cells s ++ pattern (check s)) stop_cells term_cells))

module _ (s : List ℕ) (proper : SymbolList s) where
  pub payload_numbers : Each Number s
  payload_numbers = each_left Number s (check s ∷ []) (row_numbers s proper)

  -- the payload, the check's word, `STOP` and `TERM`, stored one after the other
  pub row_stored : (l l₁ l₂ l₃ l₄ : List ℕ)
      → l₁ ≡ sets l 0 (cells s)
      → l₂ ≡ sets l₁ (11 * length s) (pattern (check s))
      → l₃ ≡ sets l₂ (11 * length s + 11) stop_cells
      → l₄ ≡ sets l₃ (11 * length s + 22) term_cells
      → l₄ ≡ sets l 0 (row s)
  row_stored l l₁ l₂ l₃ l₄ a b c d =
      let small : check s < 106 = omega (arith, check_small s) in
      let long = length_cells s payload_numbers in
      let eleven = length_pattern (check s) small in
      let end : ℕ = 11 * length s in
      let payload : Stored (cells s) l 0 l₁ end = stored_at (cells s) l l₁ 0 end a (omega arith) in
      let checked = stored_then payload (stored_at (pattern (check s)) l₁ l₂ end (end + 11) b (omega arith)) in
      let stopped = stored_then checked (stored_at stop_cells l₂ l₃ (end + 11) (end + 22) c (omega arith)) in
      rw (row_parts s) (stored_then stopped (stored_at term_cells l₃ l₄ (end + 22) (end + 24) d (omega arith))).stored
