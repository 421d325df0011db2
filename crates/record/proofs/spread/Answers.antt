-- `record::spread` meets its contract: the top bit a turn.
-- Assumes nothing.
use native.Mathlib.Omega.{arith}
use Rattle.record.proofs.Spreads.{spreading_turn, spreading_end}
use Rattle.record.proofs.spread.Goals as goal

pub loop-cell-preserved : goal.loop-cell-preserved
loop-cell-preserved c = spreading_turn c.loop-cell.invariant _ _ (omega arith) (omega arith) (omega arith)

pub returns : goal.returns
returns c = spreading_end c.loop-cell.invariant (omega arith)
