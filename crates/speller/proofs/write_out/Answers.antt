-- `speller::write_out` meets its contract: what `fit` accepts fits.
-- Assumes nothing.
use Rattle.helpers.proofs.Gives.{said_done}
use Rattle.speller.proofs.Fits.{fitted_room}
use Rattle.speller.proofs.write_out.Goals as goal

pub write-requires : goal.write-requires
write-requires g c = fitted_room _ _ _ _ (said_done c.in_ok-n.was c.fit.ensures)
