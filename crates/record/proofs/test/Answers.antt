-- `record::test` meets its contract: each way out is one law of the tests.
-- Assumes nothing.
use native.Mathlib.Omega.{arith}
use Rattle.helpers.specs.Numbers.{refusal_number}
use Rattle.helpers.specs.Terms.{answers}
use Rattle.paper.specs.Jobs.{version_of}
use Rattle.record.proofs.Tests.{tested_short, tested_version}
use Rattle.record.proofs.test.Goals as goal

pub returns-in_default : goal.returns-in_default
unfolding answers refusal_number
returns-in_default c = tested_short c.args.record.now (omega arith)

pub test_count-requires : goal.test_count-requires
unfolding version_of
test_count-requires c = (omega arith, omega arith, omega arith)

pub returns-in_default-version : goal.returns-in_default-version
unfolding answers refusal_number version_of
returns-in_default-version c = tested_version _ _ c.from.ensures (omega arith) (λ low high. omega arith)
