-- `reader::checks` meets its contract: the check, held against the number.
-- Assumes nothing.
use Rattle.helpers.specs.Numbers.{refusal_number}
use Rattle.reader.specs.Parts.{tested}
use Rattle.reader.proofs.Judges.{check_wrong, check_right}
use Rattle.reader.proofs.checks.Goals as goal

pub returns-then-drawn-right : goal.returns-then-drawn-right
unfolding tested
returns-then-drawn-right c = check_right c.args.symbols.now _ _ c.requires c.checksum_value-right.ensures c.if-drawn-right.true

pub returns-else-drawn-right : goal.returns-else-drawn-right
unfolding tested refusal_number
returns-else-drawn-right c = rw c.from.ensures (check_wrong c.args.symbols.now _ _ c.requires c.checksum_value-right.ensures c.if-drawn-right.false)
