-- The search over patterns and cells: the cells of a word, laws of the loop over the cells of one
-- pattern and of the loop over the patterns.
-- Assumes nothing.
use Prim.Native.Nat.{ℕ, zero, suc, ◌+◌, ◌-◌, ◌^◌, ◌/◌, ◌%◌, ◌<◌, ◌≤◌}
use mathlib.Core.Path.{◌≡◌, refl, sym, ap, ◌∙◌}
use mathlib.Core.Bool.{Bool, true, false, ◌&&◌}
use mathlib.Core.List.{List, ◌∷◌}
use native.Mathlib.Nat.{not-suc-le-zero, le_of_suc-le-suc, sub-zero}
use native.Mathlib.Numerals.{add-one}
use native.Mathlib.Omega.{arith}
use lib.Dec.{eqb}
use lib.ListN.{length, get_or, drop, drop_of_length-le}
use lib.Seq.{drop-cons}
use borrow.Author.Tests.{eq-eqb, ne_eqb}
use Rattle.helpers.specs.Answers.{same}
use Rattle.paper.specs.Iso15417.{widths, pattern, is, worn_or_unknown, found_in, found}
use Rattle.paper.proofs.Table.{found_none, no_bar}
use Rattle.code128.specs.Words.{words, cells_of}
use Rattle.code128.proofs.Words.{word_rule}

-- ---- the loop over the cells of one pattern

-- a cell of a word is one of its bits
cell_of : (k w j : ℕ) → j ≤ k → get_or (cells_of (suc k) w) j 0 ≡ w / 2 ^ (k - j) % 2
unfolding cells_of
cell_of k w zero h = rw (sub-zero k) refl
cell_of zero w (suc j) h = absurd (not-suc-le-zero h)
cell_of (suc k) w (suc j) h = let one : suc k - suc j ≡ k - j = omega arith in rw one (cell_of k w j (le_of_suc-le-suc h))

length_cells : (k w : ℕ) → length (cells_of k w) ≡ k
unfolding cells_of
length_cells zero w = refl
length_cells (suc k) w = ap suc (length_cells k w)

-- the cells of a word from cell j on
cells_on : (w j : ℕ) → j < 11 → drop j (cells_of 11 w) ≡ (w / 2 ^ (10 - j) % 2) ∷ drop (j + 1) (cells_of 11 w)
cells_on w j l = drop-cons (cells_of 11 w) j 0 (omega (arith, length_cells 11 w)) ∙ rw (add-one j, cell_of 10 w j (omega arith)) refl

-- A loop that compares the cells of a pattern's word p with those of a block's word b, and has come
-- to cell j.
pub record Matching (p b j : ℕ) : Type 0 where
  pub rest : same (cells_of 11 p) (cells_of 11 b) ≡ same (drop j (cells_of 11 p)) (drop j (cells_of 11 b))

module _ {p b j : ℕ} (m : Matching p b j) (l : j < 11) where
  -- the cells at j, and those after them
  on : same (cells_of 11 p) (cells_of 11 b) ≡ eqb (p / 2 ^ (10 - j) % 2) (b / 2 ^ (10 - j) % 2) && same (drop (j + 1) (cells_of 11 p)) (drop (j + 1) (cells_of 11 b))
  unfolding same
  on = m.rest ∙ rw (cells_on p j (omega arith), cells_on b j (omega arith)) refl

  pub match_turn : b / 2 ^ (10 - j) % 2 ≡ p / 2 ^ (10 - j) % 2 → Matching p b (j + 1)
  match_turn e = record { rest = on ∙ rw (eq-eqb _ _ (sym e)) refl }

  pub match_not : (b / 2 ^ (10 - j) % 2 ≡ p / 2 ^ (10 - j) % 2 → ⊥) → same (cells_of 11 p) (cells_of 11 b) ≡ false
  match_not e = on ∙ rw (ne_eqb _ _ (λ q. e (sym q))) refl

pub match_end : {p b j : ℕ} → Matching p b j → 11 ≤ j → same (cells_of 11 p) (cells_of 11 b) ≡ true
unfolding same
match_end {p} {b} {j} m l =
    m.rest ∙ rw (drop_of_length-le (cells_of 11 p) {i = j} (omega (arith, length_cells 11 p)), drop_of_length-le (cells_of 11 b) {i = j} (omega (arith, length_cells 11 b))) refl

-- ---- the loop over the patterns

all_widths : length widths ≡ 106
unfolding widths
all_widths = refl

-- A loop that has held a block against the first s patterns, and it was none of them.
pub record Hunting (block : List ℕ) (s : ℕ) : Type 0 where
  pub rest : found block ≡ found_in s (drop s widths) block

pub hunt_begin : (block : List ℕ) → Hunting block 0
unfolding found
hunt_begin block = record { rest = refl }

-- a block that begins with a space is none of the patterns
pub hunt_none : (block : List ℕ) → get_or block 0 0 ≡ 0 → found block ≡ worn_or_unknown block
hunt_none block e = found_none block (no_bar block e)

module _ {block : List ℕ} {s : ℕ} (p : Hunting block s) where
  pub hunt_end : 106 ≤ s → found block ≡ worn_or_unknown block
  unfolding found_in
  hunt_end h = p.rest ∙ rw (drop_of_length-le widths {i = s} (omega (arith, all_widths))) refl

  -- the word of the block, and the word at hand
  module _ (b : ℕ) {t : List ℕ} (v : cells_of 11 b ≡ block) (c : t ≡ words) (h : s < 106) where
    -- the first cells are both bars, and the loop over the cells begins at the next
    pub hunt_match : get_or block 0 0 ≡ 1 → Matching (get_or t s 0) b 1
    hunt_match bar =
        let first : Matching (get_or t s 0) b 0 = record { rest = refl } in
        let top : (w : ℕ) → get_or (cells_of 11 w) 0 0 ≡ w / 2 ^ (10 - 0) % 2 = λ w. cell_of 10 w 0 (omega arith) in
        let bars : get_or (cells_of 11 (get_or t s 0)) 0 0 ≡ 1 = rw c (word_rule s h).of_rule.begins in
        match_turn first (omega arith) (sym (top b) ∙ rw v bar ∙ sym bars ∙ top (get_or t s 0))

    this : {x : Bool} → same (cells_of 11 (get_or t s 0)) (cells_of 11 b) ≡ x → same (pattern s) block ≡ x
    this e = rw (c, (word_rule s h).of_standard, v) at e

    pub hunt_turn : same (cells_of 11 (get_or t s 0)) (cells_of 11 b) ≡ false → Hunting block (s + 1)
    unfolding found_in pattern
    hunt_turn e = record { rest = p.rest ∙ rw (add-one s, drop-cons widths s 0 (omega (arith, all_widths)), this e) refl }

    pub hunt_hit : same (cells_of 11 (get_or t s 0)) (cells_of 11 b) ≡ true → found block ≡ is s
    unfolding found_in pattern
    hunt_hit e = p.rest ∙ rw (drop-cons widths s 0 (omega (arith, all_widths)), this e) refl
