use Prim.Native.Nat.{◌-◌}
use lib.ListN.{length}
use Rattle.lines.proofs.Feeds.{Feeding}
use Rattle.lines.proofs.feed.Given as goal

abbrev pub invariant-loop-at : goal.invariant-loop-at
invariant-loop-at l = Feeding l.chunk l.from l.fn.line.bytes l.fn.line.len l.initial.out l.stored l.at l.line.bytes l.line.len l.out l.used l.new

abbrev pub decreases-loop-at : goal.decreases-loop-at
decreases-loop-at l = length l.chunk - l.at
