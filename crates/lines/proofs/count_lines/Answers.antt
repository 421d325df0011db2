-- `lines::count_lines` meets its contract.
-- Assumes nothing.
use mathlib.Core.Path.{◌≡◌, sym, ◌∙◌}
use lib.Dec.{eqb}
use Rattle.std.proofs.Common.{rules, count_by}
use Rattle.lines.proofs.Newlines.{newlines_count}
use Rattle.lines.proofs.count_lines.Goals as goal

pub returns : goal.returns
returns c = let e : c.count.result ≡ count_by (λ b. eqb b 10) c.args.text.now = search rules in e ∙ sym (newlines_count c.args.text.now)
