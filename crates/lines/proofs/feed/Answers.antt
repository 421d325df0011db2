-- `lines::feed` meets its contract: one line a turn.
-- Assumes nothing.
use native.Mathlib.Omega.{arith}
use Rattle.lines.proofs.Feeds.{feeding_begin, feeding_turn, feeding_last, answered}
use Rattle.lines.proofs.feed.Goals as goal

pub loop-at-init : goal.loop-at-init
loop-at-init c = feeding_begin c.min-line.ensures

pub returns-in_default : goal.returns-in_default
returns-in_default c = let f = c.in_default.ensures in feeding_last c.loop-at.invariant f.fed (omega arith) (omega arith)

pub loop-at-preserved : goal.loop-at-preserved
loop-at-preserved c = let f = c.in-Some.ensures in
    feeding_turn c.loop-at.invariant (omega arith) f.fed f.at_value.0 f.at_value.1 (answered _ (omega arith) (rw c.as_slice.ensures at c.answer_line-used.ensures))
