-- `line::text::write_refusal` meets its contract: the numbers, and no cells.
-- Assumes nothing.
use Prim.Native.Nat.{◌≤◌}
use mathlib.Core.Path.{refl, sym}
use native.Mathlib.Omega.{arith}
use lib.Seq.{length-take-le}
use Rattle.helpers.proofs.Gives.{stored_front}
use Rattle.line.proofs.AnswerLines.{numbers_short, numbers_end, line_refused}
use Rattle.line.proofs.text.write_refusal.Goals as goal

pub put_numbers-end-requires : goal.put_numbers-end-requires
put_numbers-end-requires c = omega (arith, numbers_short c.number.result c.second.result (rw c.number.ensures c.requires.0) (rw c.second.ensures c.requires.1))

pub slice_bounds-head-end : goal.slice_bounds-head-end
slice_bounds-head-end c = omega (arith, numbers_end c.put_numbers-end.ensures (rw c.number.ensures c.requires.0) (rw c.second.ensures c.requires.1))

pub slice_bounds-write_line-end : goal.slice_bounds-write_line-end
slice_bounds-write_line-end c = sym (length-take-le _ _ (omega (arith, numbers_end c.put_numbers-end.ensures (rw c.number.ensures c.requires.0) (rw c.second.ensures c.requires.1))))

pub returns : goal.returns
returns c =
    let short : c.put_numbers-end.result ≤ 9 = numbers_end c.put_numbers-end.ensures (rw c.number.ensures c.requires.0) (rw c.second.ensures c.requires.1) in
    rw (line_refused c.number.result c.second.result (stored_front c.put_numbers-end.ensures (omega arith) c.put_numbers-end.result refl), c.number.ensures, c.second.ensures) at c.write_line.ensures
