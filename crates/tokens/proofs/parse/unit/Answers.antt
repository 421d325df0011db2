-- `tokens::parse::unit` meets its contract: a number and the set after it, FNC2, or none.
-- Assumes nothing.
use Rattle.tokens.specs.Tokens.{state_of, Does}
use Rattle.tokens.proofs.Lookups.{unit_listed, retired_listed, nothing_listed}
use Rattle.tokens.proofs.parse.unit.Goals as goal

pub returns-in-Unit : goal.returns-in-Unit
unfolding Does state_of
returns-in-Unit c = rw c.next.ensures (unit_listed _ _ _ c.in-Unit.ensures)

pub returns-in-Retired : goal.returns-in-Retired
unfolding Does
returns-in-Retired c = retired_listed _ _ c.in-Retired.ensures

pub returns-in-Nothing : goal.returns-in-Nothing
unfolding Does
returns-in-Nothing c = nothing_listed _ _ c.in-Nothing.ensures
