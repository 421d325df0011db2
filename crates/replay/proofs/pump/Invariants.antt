-- `replay::pump` is safe and ends: the place in the chunk gets on at each turn.
-- Assumes nothing.
use Rattle.std.proofs.Common.{◌-◌, length}
use Rattle.replay.proofs.pump.Given as goal

abbrev pub decreases-loop-at : goal.decreases-loop-at
decreases-loop-at g l = length l.chunk - l.at
