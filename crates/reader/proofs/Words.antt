-- The cells of a block as the bits of one word: its cells and ones, and laws of the loop that makes
-- it.
-- Assumes nothing.
use Prim.Native.Nat.{ℕ, zero, suc, ◌+◌, ◌*◌, ◌^◌, ◌/◌, ◌%◌, ◌<◌, ◌≤◌}
use mathlib.Core.Path.{◌≡◌, refl, sym, ap, ◌∙◌}
use mathlib.Core.List.{List, [], ◌∷◌}
use native.Mathlib.Nat.{zero-add, not-suc-le-zero, le_of_suc-le-suc, pow-suc, div-one}
use native.Mathlib.Numerals.{add-one}
use native.Mathlib.Omega.{arith}
use lib.Count.{ones, ones_cat}
use lib.ListN.{length, get_or, drop, drop_of_length-le}
use lib.Pow.{pow_mono, shr-shr}
use lib.Seq.{drop-cons}
use Rattle.helpers.specs.Answers.{Each}
use Rattle.helpers.proofs.Answering.{each_at}
use Rattle.paper.specs.Iso15417.{bar_cells, worn, unknown, worn_or_unknown}
use Rattle.paper.proofs.Table.{odd_worn, even_unknown}
use Rattle.code128.specs.Words.{cells_of}
use Rattle.reader.specs.Parts.{word_of}

-- ---- the cells of a word

-- what stands above the cells after it
word_high : (w : ℕ) (cs : List ℕ) → Each (λ c. c ≤ 1) cs → word_of w cs / 2 ^ length cs ≡ w
unfolding word_of
word_high w [] a = div-one w
word_high w (c ∷ cs) a =
    let one = word_high (w * 2 + c) cs a.1 in
    rw (← add-one (length cs), ← shr-shr (word_of (w * 2 + c) cs) (length cs) 1, one) (omega (arith, a.0))

cells_after : (w : ℕ) (cs : List ℕ) → Each (λ c. c ≤ 1) cs → cells_of (length cs) (word_of w cs) ≡ cs
unfolding word_of cells_of
cells_after w [] a = refl
cells_after w (c ∷ cs) a =
    let first : (w * 2 + c) % 2 ≡ c = omega (arith, a.0) in
    rw (word_high (w * 2 + c) cs a.1, first, cells_after (w * 2 + c) cs a.1) refl

-- ---- the ones of a word

ones_bit : (c : ℕ) → c ≤ 1 → ones c ≡ c
unfolding ones
ones_bit zero h = refl
ones_bit (suc zero) h = refl
ones_bit (suc (suc c)) h = absurd (not-suc-le-zero (le_of_suc-le-suc h))

ones_push : (w c : ℕ) → c ≤ 1 → ones (w * 2 + c) ≡ ones w + c
ones_push w c h = ones_cat 1 w c (omega arith) ∙ ap (λ (k : ℕ). ones w + k) (ones_bit c h)

-- cells after a word add their bar cells to its ones
ones_word : (w : ℕ) (cs : List ℕ) → Each (λ c. c ≤ 1) cs → ones (word_of w cs) ≡ ones w + bar_cells cs
unfolding word_of bar_cells
ones_word w [] a = omega arith
ones_word w (c ∷ cs) a = omega (arith, ones_word (w * 2 + c) cs a.1, ones_push w c a.0)

-- the word of a block: its cells, and the count of ones, which decides what a block is that is no
-- pattern
module _ (cs : List ℕ) (clean : Each (λ c. c ≤ 1) cs) where
  pub word_cells : length cs ≡ 11 → cells_of 11 (word_of 0 cs) ≡ cs
  word_cells h = rw h at (cells_after 0 cs clean)

  word_bars : ones (word_of 0 cs) ≡ bar_cells cs
  unfolding ones
  word_bars = ones_word 0 cs clean ∙ zero-add (bar_cells cs)

  pub word_odd : ones (word_of 0 cs) % 2 ≡ 1 → worn_or_unknown cs ≡ worn
  word_odd h = odd_worn cs (omega (arith, word_bars))

  pub word_even : (ones (word_of 0 cs) % 2 ≡ 1 → ⊥) → worn_or_unknown cs ≡ unknown
  word_even h = even_unknown cs (omega (arith, word_bars))

-- ---- the loop

-- A loop that makes the word of some cells, and has made w of the first j.
pub record Wording (cs : List ℕ) (w j : ℕ) : Type 0 where
  pub small : w < 2 ^ j
  -- w and the cells that are left make the whole
  pub left : word_of 0 cs ≡ word_of w (drop j cs)

module _ {cs : List ℕ} {w j : ℕ} (p : Wording cs w j) where
  pub wording_end : length cs ≤ j → w ≡ word_of 0 cs
  unfolding word_of
  wording_end l = sym (p.left ∙ rw (drop_of_length-le cs {i = j} l) refl)

  pub wording_fits : j < 11 → w < 1024
  wording_fits l = let top : 2 ^ j ≤ 2 ^ 10 = pow_mono {i = j} {j = 10} (omega arith) in omega (arith, p.small)

  module _ (clean : Each (λ c. c ≤ 1) cs) (l : j < length cs) where
    pub wording_cell : get_or cs j 0 ≤ 1
    wording_cell = each_at (λ c. c ≤ 1) cs j 0 clean l

    pub wording_turn : Wording cs (w * 2 + get_or cs j 0) (j + 1)
    unfolding word_of
    wording_turn = record { small = rw (add-one j, pow-suc 2 j) (omega (arith, p.small, wording_cell)); left = p.left ∙ rw (add-one j, drop-cons cs j 0 l) refl }
