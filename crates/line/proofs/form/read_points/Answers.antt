-- `line::form::read_points` meets its contract: one byte a turn.
-- Assumes nothing.
use mathlib.Core.Path.{sym, ap, ◌∙◌}
use native.Mathlib.Omega.{arith}
use Rattle.line.specs.Form.{as_effect}
use Rattle.line.proofs.Forms.{forming_begin, forming_on, forming_ends, forming_wrong, forming_none, forming_end}
use Rattle.line.proofs.form.read_points.Goals as goal
use Rattle.line.proofs.form.read_points.Goals.{in-GoesOn, in-PointEnds}

pub loop-b-init : goal.loop-b-init
loop-b-init c = rw (c.default-number.ensures.0, c.default-number.ensures.1) (forming_begin (omega arith) (omega arith) (omega arith))

pub returns-in_err-more : goal.returns-in_err-more
returns-in_err-more c = rw c.from_residual.ensures (forming_wrong c.loop-b.invariant (omega arith) (sym c.read_byte.ensures ∙ ap as_effect c.in_err-more.was))

pub loop-b-preserved : goal.loop-b-preserved
loop-b-preserved c =
    let inv = c.loop-b.invariant in
    let read = sym c.read_byte.ensures ∙ ap as_effect c.in_ok-more.was in
    elim c.match-branch-2.branch [
      | in-GoesOn w ↦ rw (w.text-is, w.number-is, w.n-is) (forming_on inv (omega arith) (rw w.in-GoesOn.is at read))
      | in-PointEnds w ↦ rw (w.text-is, w.number-is, w.n-is, w.default-number-in-PointEnds.ensures.0, w.default-number-in-PointEnds.ensures.1) (forming_ends inv (omega arith) (rw w.in-PointEnds.is at read))
    ]

pub returns-else-number-gt0 : goal.returns-else-number-gt0
returns-else-number-gt0 c = forming_none c.loop-b.invariant (omega arith) (omega arith)

pub returns-then-number-gt0 : goal.returns-then-number-gt0
returns-then-number-gt0 c = forming_end c.loop-b.invariant (omega arith) (omega arith)
