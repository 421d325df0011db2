-- `reader::read_by` meets its contract: a refusal handed on, too little room, or the symbols
-- stored. Assumes nothing.
use mathlib.Core.Path.{refl}
use native.Mathlib.Omega.{arith}
use Rattle.helpers.specs.declared.Refusal.TheVariants.{Room}
use Rattle.helpers.specs.Numbers.{refusal_number}
use Rattle.helpers.proofs.Gives.{refused, refused_through}
use Rattle.helpers.proofs.Writes.{storing_turn, storing_end}
use Rattle.reader.proofs.Judges.{read_refused, read_short, read_stored}
use Rattle.reader.proofs.read_by.Goals as goal

pub returns-in_err-symbols : goal.returns-in_err-symbols
returns-in_err-symbols c =
    refused_through _ c.from_residual.result c.from_residual.ensures.1 (read_refused c.judge.ensures _ c.in_err-symbols.was)

pub returns-then-out-n : goal.returns-then-out-n
unfolding refusal_number
returns-then-out-n c = refused (Room _) (read_short c.judge.ensures c.in_ok-symbols.was _ c.if-out-n.true)

pub loop-i-preserved : goal.loop-i-preserved
loop-i-preserved c = storing_turn c.loop-i.invariant c.loop-i.i _ (omega arith) c.loop-i-test.true refl

pub returns : goal.returns
returns c =
    read_stored c.judge.ensures c.in_ok-symbols.was _ _ c.if-out-n.false (storing_end c.loop-i.invariant (omega arith))
