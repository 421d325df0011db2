-- `speller::write` meets its contract: a loop that stores what each number gives.
-- Assumes nothing.
use Rattle.tokens.specs.Sets.{set_of}
use Rattle.speller.proofs.Walks.{filling_begin, filling_fits, filling_turn, filling_end}
use Rattle.speller.proofs.write.Goals as goal

pub loop-m-init : goal.loop-m-init
unfolding set_of
loop-m-init g c = let at = c.in_set-place.ensures in rw (at.0, at.1) (filling_begin c.requires)

pub put-at-requires : goal.put-at-requires
put-at-requires g c = filling_fits c.loop-m.invariant c.loop-m-test.true c.say.ensures

pub loop-m-preserved : goal.loop-m-preserved
loop-m-preserved g c =
    filling_turn c.loop-m.invariant c.loop-m-test.true c.say.ensures c.put-at.ensures.stored c.put-at.ensures.next c.after-place.ensures.set
    c.after-place.ensures.text

pub returns : goal.returns
returns g c = filling_end c.loop-m.invariant c.loop-m-test.false
