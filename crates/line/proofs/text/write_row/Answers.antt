-- `line::text::write_row` meets its contract: 0, the number of symbols, the cells.
-- Assumes nothing.
use Prim.Native.Nat.{◌+◌, ◌≤◌}
use mathlib.Core.Path.{refl, sym}
use native.Mathlib.Omega.{arith}
use lib.ListN.{length-set}
use lib.Seq.{length-take-le}
use Rattle.helpers.proofs.Gives.{stored_one, stored_then, stored_front}
use Rattle.line.proofs.AnswerLines.{numbers_short, numbers_end, line_drawn}
use Rattle.line.proofs.text.write_row.Goals as goal

pub put_numbers-at-requires : goal.put_numbers-at-requires
put_numbers-at-requires c = omega (arith, numbers_short 0 c.args.n (omega arith) c.requires.0)

pub bounds-head-at : goal.bounds-head-at
bounds-head-at c = omega (arith, numbers_end c.put_numbers-at.ensures (omega arith) c.requires.0)

pub overflow_add-head : goal.overflow_add-head
overflow_add-head c = omega (arith, numbers_end c.put_numbers-at.ensures (omega arith) c.requires.0)

pub slice_bounds-head-end : goal.slice_bounds-head-end
slice_bounds-head-end c = simp length-set (omega (arith, numbers_end c.put_numbers-at.ensures (omega arith) c.requires.0))

pub slice_bounds-write_line-end : goal.slice_bounds-write_line-end
slice_bounds-write_line-end c = sym (length-take-le _ _ (simp length-set (omega (arith, numbers_end c.put_numbers-at.ensures (omega arith) c.requires.0))))

pub returns : goal.returns
returns c =
    let short : c.put_numbers-at.result ≤ 9 = numbers_end c.put_numbers-at.ensures (omega arith) c.requires.0 in
    let front = stored_front (stored_then c.put_numbers-at.ensures stored_one) (omega arith) (c.put_numbers-at.result + 1) refl in
    rw (line_drawn c.args.n c.args.cells.now front) at c.write_line.ensures
