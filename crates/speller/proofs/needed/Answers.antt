-- `speller::needed` meets its contract: a loop that counts what each number gives.
-- Assumes nothing.
use mathlib.Core.Path.{ap, ◌∙◌}
use native.Mathlib.Omega.{arith}
use lib.ListN.{length}
use Rattle.tokens.specs.Sets.{set_of}
use Rattle.speller.proofs.Says.{said_short}
use Rattle.speller.proofs.Walks.{counting_begin, counting_turn, counting_end}
use Rattle.speller.proofs.needed.Goals as goal

pub loop-m-init : goal.loop-m-init
unfolding set_of
loop-m-init g c = counting_begin

pub overflow_add-n : goal.overflow_add-n
overflow_add-n g c = omega (arith, said_short c.say.result)

pub loop-m-preserved : goal.loop-m-preserved
loop-m-preserved g c =
    let here = c.in_set.ensures in
    let said = rw (here.0, here.1) at c.say.ensures in
    counting_turn _ g.met.T.Element.as_many c.loop-m.invariant c.loop-m-test.true (c.count-n.ensures ∙ ap length said) (omega (arith, said_short c.say.result))
    c.set_after-set.ensures

pub returns : goal.returns
returns g c = counting_end c.loop-m.invariant c.loop-m-test.false
