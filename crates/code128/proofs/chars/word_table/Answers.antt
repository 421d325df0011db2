-- `code128::chars::word_table` meets its contract: `WORDS` has the standard's patterns.
-- Assumes nothing.
use mathlib.Core.Path.{refl}
use Rattle.paper.proofs.Computes.{iso15417_computes}
use Rattle.paper.specs.Jobs.{bits}
use Rattle.code128.specs.Words.{words_from, words}
use Rattle.code128.proofs.chars.word_table.Goals as goal

pub returns : goal.returns
unfolding iso15417_computes bits words_from words
returns c = refl
