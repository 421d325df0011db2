-- `lines::Line::gather` meets its contract: what stands before a newline is of the line.
-- Assumes nothing.
use mathlib.Core.Path.{sym}
use Rattle.lines.proofs.Splits.{newline_at, fed_to, fed_all}
use Rattle.lines.proofs.Line.gather.Goals as goal

pub returns-in-Some-clause-fed : goal.returns-in-Some-clause-fed
returns-in-Some-clause-fed c = fed_to _ _ c.requires.1 (sym c.in-Some.ensures) c.push.ensures.upper_bound c.push.ensures.by_index

pub returns-in-Some-clause-at_value : goal.returns-in-Some-clause-at_value
returns-in-Some-clause-at_value c = newline_at _ _ c.requires.1 (sym c.in-Some.ensures)

pub returns-in-None-clause-fed : goal.returns-in-None-clause-fed
returns-in-None-clause-fed c = fed_all _ _ c.requires.1 (sym c.in-None.ensures) c.push-in-None.ensures.upper_bound c.push-in-None.ensures.by_index
