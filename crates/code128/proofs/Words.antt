-- The table of words: its rule by one computed test.
-- Assumes nothing.
use Prim.Native.Nat.{ℕ, ◌%◌, ◌<◌, suc-le-suc}
use mathlib.Core.Path.{◌≡◌, refl, sym, ap, ◌∙◌}
use mathlib.Core.Bool.{Bool, ◌&&◌}
use lib.Count.{ones}
use lib.Dec.{T, leb, eqb}
use lib.ListN.{length, get_or}
use Rattle.helpers.specs.Answers.{same}
use Rattle.paper.specs.Iso15417.{pattern}
use Rattle.paper.specs.Jobs.{bits}
use Rattle.helpers.proofs.Below.{below, at, and_left, and_right}
use Rattle.paper.proofs.Computes.{iso15417_computes}
use Rattle.paper.proofs.Table.{table_pattern, table_rule, table_apart}
use Rattle.helpers.proofs.Same.{as_equal, as_least, as_same}
use Rattle.code128.specs.Words.{words_from, words, cells_of, WordRule, WordsRule}
use Rattle.code128.specs.Quads.{low_bytes, quads_from, quads, spread_of}

pub length_words : length words ≡ 106
unfolding words words_from
length_words = refl

-- the tests of one word: eleven bits, its cells, the cells that a row gets from it, its ones
right : ℕ → ℕ → Bool
right m w = leb w 2047 && same (cells_of 11 w) (pattern m) && same (spread_of w) (pattern m) && eqb (ones w % 2) 0

all_right : T (below (λ m. right m (get_or words m 0)) 106)
unfolding right iso15417_computes bits words words_from cells_of quads quads_from low_bytes spread_of ones
all_right = tt

module _ (m : ℕ) (h : m < 106) where
  passed : T (right m (get_or words m 0))
  passed = at (λ k. right k (get_or words k 0)) 106 all_right m h

  pub word_rule : WordRule m (get_or words m 0)
  unfolding right
  word_rule =
      let w = get_or words m 0 in
      let t = passed in
      let cells : cells_of 11 w ≡ pattern m = as_same (cells_of 11 w) (pattern m) (search (and_left, and_right) depth 5) in
      let listed = cells ∙ sym (table_pattern m h) in
      record {
        eleven_bits = suc-le-suc (as_least w 2047 (search (and_left, and_right) depth 5));
        of_standard = cells;
        of_crate = listed;
        of_rule = rw listed (table_rule m h);
        even_ones = as_equal (ones w % 2) 0 (search (and_left, and_right) depth 5);
      }

  -- a row gets its number's pattern
  pub word_pattern : spread_of (get_or words m 0) ≡ pattern m
  unfolding right
  word_pattern = let t = passed in as_same (spread_of (get_or words m 0)) (pattern m) (search (and_left, and_right) depth 5)

-- the rule of the table that `words()` hands out
pub words_ruled : WordsRule
words_ruled =
    record {
      all_words = length_words;
      each_word = word_rule;
      words_apart = λ m k h l e. table_apart m k h l (sym (word_rule m h).of_crate ∙ ap (cells_of 11) e ∙ (word_rule k l).of_crate);
    }
