-- `tokens::parse::parse` meets its contract: one step a turn.
-- Assumes nothing.
use mathlib.Core.Path.{sym}
use native.Mathlib.Omega.{arith}
use Rattle.tokens.specs.Sets.{set_of}
use Rattle.tokens.specs.Tokens.{state_of, Does}
use Rattle.tokens.proofs.Stored.{gives_both}
use Rattle.tokens.proofs.Parsing.{parsing_begin, parsing_hold, parsing_write, parsing_retired, parsing_halt, parsing_end, parsing_noted, parsing_short}
use Rattle.tokens.proofs.parse.parse.Goals as goal
use Rattle.tokens.proofs.parse.parse.Goals.{in-Hold, in-Write, in-Retired}

pub loop-i-init : goal.loop-i-init
unfolding state_of set_of
loop-i-init c = parsing_begin

pub loop-i-preserved : goal.loop-i-preserved
unfolding Does state_of
loop-i-preserved c =
    let inv = c.loop-i.invariant in
    elim c.match-step.branch [
      | in-Hold w ↦ rw (w.list-is, w.state-is, w.n-is, w.retired-is) (parsing_hold inv (omega arith) (rw w.in-Hold.is at c.step.ensures))
      | in-Write w ↦
          rw (w.list-is, w.state-is, w.n-is, w.retired-is, w.push.ensures) (parsing_write inv (omega arith) (rw w.in-Write.is at c.step.ensures))
      | in-Retired w ↦
          rw (w.list-is, w.state-is, w.n-is, w.retired-is, w.or-retired.ensures) (parsing_retired inv (omega arith) (rw w.in-Retired.is at c.step.ensures))
    ]

pub returns-in-Halt : goal.returns-in-Halt
unfolding Does
returns-in-Halt c = gives_both _ _ _ _ (parsing_halt c.loop-i.invariant (omega arith) c.in-Halt.ensures)

pub returns-then-not-is_finished : goal.returns-then-not-is_finished
returns-then-not-is_finished c = gives_both _ _ _ _ (parsing_short c.loop-i.invariant (omega arith) (sym c.if-not-is_finished.ensures))

pub returns-in-Some : goal.returns-in-Some
returns-in-Some c = gives_both _ _ _ _ (parsing_noted c.loop-i.invariant (omega arith) (sym c.if-not-is_finished.ensures) c.in-Some.is)

pub returns-in-None : goal.returns-in-None
returns-in-None c = gives_both _ _ _ _ (parsing_end c.loop-i.invariant (omega arith) (sym c.if-not-is_finished.ensures) c.in-None.is)
