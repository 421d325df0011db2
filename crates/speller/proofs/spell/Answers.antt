-- `speller::spell` meets its contract: what is written is the paper's spelling.
-- Assumes nothing.
use mathlib.Core.Path.{refl, ◌∙◌}
use Rattle.paper.specs.Jobs.{spell}
use Rattle.speller.proofs.Walks.{output_spelled}
use Rattle.speller.proofs.Fits.{spell_fitted, job_gave}
use Rattle.speller.proofs.spell.Goals as goal

pub returns : goal.returns
unfolding spell
returns c =
    let w = c.write_out.ensures in
    let written = rw (output_spelled c.args.symbols.now) at w.written in
    job_gave _ _ _ _ (w.answered ∙ spell_fitted _ _) written w.refused refl
