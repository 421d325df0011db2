-- `code128::join_iters` meets its contract: one pattern a turn.
-- Assumes nothing.
use native.Mathlib.Omega.{arith}
use Rattle.helpers.proofs.Answering.{each_at}
use Rattle.paper.proofs.Cells.{Number}
use Rattle.paper.proofs.Table.{length_pattern}
use Rattle.code128.proofs.Joins.{part_whole, part_eleven, joining_turn, joining_end}
use Rattle.code128.proofs.join_iters.Goals as goal

pub spread-requires : goal.spread-requires
spread-requires c =
    (part_eleven c.loop-i.out _ (omega arith), each_at Number c.args.symbols.now c.loop-i.i 0 c.requires.0 (omega arith))

pub loop-i-preserved : goal.loop-i-preserved
loop-i-preserved c =
    let s = c.args.symbols.now in
    let i = c.loop-i.i in
    let small = each_at Number s i 0 c.requires.0 (omega arith) in
    joining_turn c.loop-i.invariant _ (omega arith) small (part_whole c.loop-i.out _ _ _ _ c.spread.ensures (omega (arith, length_pattern _ small)) (omega arith))

pub returns : goal.returns
returns c = joining_end c.loop-i.invariant (omega arith)
