-- What rows are written from and read by: the 106 patterns as words of eleven bits, and the rule of
-- that table.
-- Document 02, request 5. Of the libraries' words, `◌^◌` and `ones`, the number of ones of a number
-- in binary, come in here. Assumes nothing.
use Rattle.std.specs.Prelude.{◌/◌, ◌%◌, ◌<◌, ◌≡◌, ◌∷◌, ◌^◌}
use Rattle.helpers.specs.Prelude.{ℕ, zero, suc, List, [], length, get_or}
use Rattle.std.specs.Int.Count.{ones}
use Rattle.paper.specs.Iso15417.{pattern}
use Rattle.paper.specs.Chars.{entry}
use Rattle.paper.specs.Rules.{PatternRule}
use Rattle.paper.specs.Jobs.{bits}

-- the words of k numbers, m the first; a word's top bit is its first cell
unfoldable pub words_from : ℕ → ℕ → List ℕ
words_from zero m = []
words_from (suc k) m = bits 1024 (pattern m) ∷ words_from k (suc m)

-- the words of all 106
unfoldable pub words : List ℕ
words = words_from 106 0

-- the cells of a word of k bits, the top bit first
unfoldable pub cells_of : ℕ → ℕ → List ℕ
cells_of zero w = []
cells_of (suc k) w = (w / 2 ^ k % 2) ∷ cells_of k w

-- "Hold each pattern as one 16-bit word": the word w of the number m has eleven bits; they are the
-- cells of the standard's pattern and of the crate's entry, under the rule of patterns (a bar
-- first, a space last, three bars and three spaces of 1 to 4 cells, not the stop's beginning); and
-- the number of its ones is even.
pub record WordRule (m w : ℕ) : Type 0 where
  pub eleven_bits : w < 2048
  pub of_standard : cells_of 11 w ≡ pattern m
  pub of_crate : cells_of 11 w ≡ entry m
  pub of_rule : PatternRule (cells_of 11 w)
  pub even_ones : ones w % 2 ≡ 0

-- the rule of the table: 106 words, each that of its number, and no two alike
pub record WordsRule : Type 0 where
  pub all_words : length words ≡ 106
  pub each_word : (m : ℕ) → m < 106 → WordRule m (get_or words m 0)
  pub words_apart : (m k : ℕ) → m < 106 → k < 106 → get_or words m 0 ≡ get_or words k 0 → m ≡ k
