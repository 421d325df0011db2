-- `code128::list_symbols` meets its contract: where parsing stops, what is asked before; else the
-- first ź, the limit, and after it the symbols.
-- Assumes nothing.
use native.Mathlib.Omega.{arith}
use Rattle.code128.proofs.Encodes.{listed_stops, listed_retired, listed_long, listed_fits}
use Rattle.code128.proofs.list_symbols.Goals as goal

pub returns-in-Ok : goal.returns-in-Ok
returns-in-Ok c = listed_long _ _ _ _ (c.in-Ok.ensures).tokens (omega arith)

pub returns-in-Err-Stops : goal.returns-in-Err-Stops
returns-in-Err-Stops c =
    let told = c.in-Err-Stops.ensures in
    listed_stops _ _ _ _ (rw c.in-Err-Stops.field-0-is at told.tokens) _ c.stopped.ensures

pub returns-in-Err-Retired : goal.returns-in-Err-Retired
returns-in-Err-Retired c =
    let told = c.in-Err-Retired.ensures in
    listed_retired _ _ _ _ (rw c.in-Err-Retired.field-0-is at told.tokens)

pub returns-in-Ok-2 : goal.returns-in-Ok-2
returns-in-Ok-2 c =
    listed_fits _ _ _ _ (c.in-Ok.ensures).tokens (omega arith) c.requires (omega (arith, c.parse.auto))
