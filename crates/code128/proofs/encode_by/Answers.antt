-- `code128::encode_by` meets its contract: a refusal handed on, or the row of the list's front.
-- Assumes nothing.
use native.Mathlib.Omega.{arith}
use Rattle.paper.specs.Jobs.{most}
use Rattle.helpers.proofs.Gives.{refused_through}
use Rattle.code128.proofs.Encodes.{drawn_within, drawn_proper, drawn_row, drawn_refused}
use Rattle.code128.proofs.encode_by.Goals as goal

pub returns-in_err-n : goal.returns-in_err-n
returns-in_err-n g c =
    refused_through _ c.from_residual.result c.from_residual.ensures.1 (drawn_refused c.in_err-n.ensures _)

pub shared_whole_as_front-write_row : goal.shared_whole_as_front-write_row
unfolding most
shared_whole_as_front-write_row g c =
    (omega (arith, drawn_within c.in_ok-n.ensures, c.list_symbols.auto), omega arith)

pub write_row-requires : goal.write_row-requires
write_row-requires g c = drawn_proper c.in_ok-n.ensures

pub returns : goal.returns
returns g c = rw (drawn_row c.in_ok-n.ensures _) c.write_row.ensures
