-- `label::Run::pump` is safe and ends: the place in the chunk gets on at each turn.
use Rattle.std.proofs.Common.{length, ◌-◌}
use Rattle.label.proofs.Run.pump.Given as goal

abbrev pub decreases-loop-at : goal.decreases-loop-at
decreases-loop-at g l = length l.chunk - l.at
