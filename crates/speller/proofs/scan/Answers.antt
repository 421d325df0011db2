-- `speller::scan` meets its contract: what is written is the paper's scanner reading.
-- Assumes nothing.
use mathlib.Core.Path.{refl, ◌∙◌}
use Rattle.paper.specs.Jobs.{scan}
use Rattle.speller.proofs.Walks.{output_scanned}
use Rattle.speller.proofs.Fits.{scan_fitted_shifted, job_gave}
use Rattle.speller.proofs.scan.Goals as goal

pub returns : goal.returns
unfolding scan
returns c =
    let w = c.write_out.ensures in
    let written = rw (output_scanned c.args.symbols.now) at w.written in
    job_gave _ _ _ _ (w.answered ∙ scan_fitted_shifted _ _) written w.refused refl
