-- `reader::word` meets its contract: a loop that takes one cell a turn into the word.
-- Assumes nothing.
use native.Mathlib.Omega.{arith}
use Rattle.reader.proofs.Words.{wording_cell, wording_fits, wording_turn, wording_end}
use Rattle.reader.proofs.word.Goals as goal

pub overflow_add-w : goal.overflow_add-w
overflow_add-w c =
    let p = c.loop-cell.invariant in
    omega (arith, wording_fits p (omega arith), wording_cell p c.requires.1 c.loop-cell-test.true)

pub loop-cell-preserved : goal.loop-cell-preserved
loop-cell-preserved c = rw c.from.ensures (wording_turn c.loop-cell.invariant c.requires.1 c.loop-cell-test.true)

pub returns : goal.returns
returns c = wording_end c.loop-cell.invariant c.loop-cell-test.false
