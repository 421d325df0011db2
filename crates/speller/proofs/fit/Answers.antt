-- `speller::fit` meets its contract: each way out is one law of the answers.
-- Assumes nothing.
use mathlib.Core.Path.{sym}
use native.Mathlib.Omega.{arith}
use Rattle.std.proofs.lemmas.Result.{err_from_is_err_and}
use Rattle.helpers.specs.Numbers.{refusal_number}
use Rattle.helpers.specs.Terms.{answers}
use Rattle.helpers.proofs.Gives.{said_refused, said_done}
use Rattle.speller.proofs.Fits.{fitted_refused, fitted_short, fitted_done}
use Rattle.speller.proofs.fit.Goals as goal

pub returns-in_err-vet : goal.returns-in_err-vet
unfolding answers
returns-in_err-vet g c =
    let p = err_from_is_err_and c.from_residual.result c.from_residual.ensures.1 in
    rw (p.1, p.2) (sym (fitted_refused _ _ _ _ _ (said_refused c.in_err-vet.was c.vet.ensures)))

pub returns-then-n-room : goal.returns-then-n-room
unfolding answers
returns-then-n-room g c =
    let passed = said_done c.in_ok-vet.was c.vet.ensures in
    sym (fitted_done _ _ _ _ _ passed (omega arith) (omega arith))

pub returns-else-n-room : goal.returns-else-n-room
unfolding answers refusal_number
returns-else-n-room g c =
    let short = said_done c.in_ok-vet.was c.vet.ensures in
    sym (fitted_short _ _ _ _ _ short (omega arith) (omega arith))
