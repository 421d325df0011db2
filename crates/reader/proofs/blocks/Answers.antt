-- `reader::blocks` meets its contract: one block a turn, looked up once.
-- Assumes nothing.
use Prim.Native.Nat.{◌+◌, ◌-◌, ◌*◌}
use mathlib.Core.Path.{◌≡◌, sym, ◌∙◌}
use lib.ListN.{take, drop}
use native.Mathlib.Omega.{arith}
use Rattle.std.proofs.lemmas.Result.{err_from_is_err_and}
use Rattle.helpers.specs.Numbers.{refusal_number}
use Rattle.paper.specs.Iso15417.{found}
use Rattle.reader.specs.Parts.{found_as, walk_of}
use Rattle.reader.proofs.Walks.{block_at, said_number, walk_begin, walk_not, walk_misfit, walk_turn, walk_end}
use Rattle.reader.proofs.blocks.Goals as goal
use Rattle.reader.proofs.blocks.Goals.{After-find}

-- what `find` answered of block b, whose cells the code cuts off
looked_up : (c : After-find) → c.find.result ≡ found_as c.loop-b.b (found (block_at c.args.row.now c.loop-b.b))
looked_up c =
    let eleven : 11 * c.loop-b.b + 11 - 11 * c.loop-b.b ≡ 11 = omega arith in
    let e : c.find.result ≡ found_as c.loop-b.b (found (take (11 * c.loop-b.b + 11 - 11 * c.loop-b.b) (drop (11 * c.loop-b.b) c.args.row.now))) = c.find.ensures in
    rw eleven at e

pub loop-b-init : goal.loop-b-init
loop-b-init c = walk_begin

-- the ways out of a turn: a block that is none of the patterns is refused as it was looked up, and
-- by 13 a number that may not stand at its block; a number that may stand there is stored, and the
-- walk goes on
pub returns-in_err-m : goal.returns-in_err-m
unfolding walk_of
returns-in_err-m c =
    let p = err_from_is_err_and c.from_residual.result c.from_residual.ensures.1 in
    rw (p.1, p.2) (walk_not c.loop-b.invariant c.loop-b-test.true (sym c.in_err-m.was ∙ looked_up (goal.at.returns-in_err-m c).After-find))

pub returns-then-not-fits : goal.returns-then-not-fits
unfolding walk_of refusal_number
returns-then-not-fits c =
    walk_misfit c.loop-b.invariant c.loop-b-test.true _ (said_number _ _ (sym c.in_ok-m.was ∙ looked_up (goal.at.returns-then-not-fits c).After-find)) (sym c.fits.ensures ∙ c.if-not-fits.true)

pub loop-b-preserved : goal.loop-b-preserved
loop-b-preserved c =
    walk_turn c.loop-b.invariant c.loop-b-test.true _ (said_number _ _ (sym c.in_ok-m.was ∙ looked_up (goal.at.loop-b-preserved c).After-find)) (sym c.fits.ensures ∙ c.if-not-fits.false)

pub returns : goal.returns
unfolding walk_of
returns c = walk_end c.loop-b.invariant c.loop-b-test.false
