-- `code128::draw` meets its contract: the tests of a list, and after them the row.
-- Assumes nothing.
use Rattle.paper.specs.Jobs.{draw}
use Rattle.helpers.proofs.Gives.{refused_through, said_refused, said_done}
use Rattle.shapes.proofs.Shaping.{list_refused, list_passed, list_proper}
use Rattle.code128.proofs.draw.Goals as goal

pub returns-in_err-vet : goal.returns-in_err-vet
unfolding draw
returns-in_err-vet c =
    refused_through _ c.from_residual.result c.from_residual.ensures.1
    (list_refused _ _ _ _ _ (said_refused c.in_err-vet.was c.vet.ensures))

pub write_row-requires : goal.write_row-requires
write_row-requires c = (list_proper _ _ (said_done c.in_ok-vet.was c.vet.ensures)).0

pub returns : goal.returns
unfolding draw
returns c = rw (list_passed _ _ _ _ (said_done c.in_ok-vet.was c.vet.ensures)) c.write_row.ensures
