-- `reader::stops` meets its contract: the first wrong cell, or none.
-- Assumes nothing.
use mathlib.Core.Path.{◌≡◌, sym, ◌∙◌}
use native.Mathlib.Omega.{arith}
use Rattle.std.proofs.Common.{rules, tests, position}
use Rattle.std.specs.List.{zip}
use Rattle.std.proofs.lemmas.Iterator.{YieldsList-from_slice, YieldsList-from_zip}
use Rattle.std.proofs.lemmas.Iterator.Consumers.{YieldsList-from_chain}
use Rattle.std.proofs.lemmas.Iterator.Search.{position_from_yields_List}
use Rattle.helpers.specs.Numbers.{refusal_number}
use Rattle.paper.specs.Iso15417.{stop}
use Rattle.code128.proofs.Rows.{stop_cells, term_cells, stop_parts}
use Rattle.reader.specs.Parts.{tested}
use Rattle.reader.proofs.Ends.{apart, end_of, stop_within, stop_wrong, stop_right}
use Rattle.reader.proofs.stops.Goals as goal
use Rattle.reader.proofs.stops.Goals.{After-position}

-- what the chain searches for
searched : (c : After-position) → c.position.result ≡ position apart (zip (end_of c.args.row.now) stop)
searched c =
    rw (← stop_parts)
    (position_from_yields_List {s = c.zip.result} apart c.position.new.self _ _ c.position.ensures.ran
    (YieldsList-from_zip (YieldsList-from_slice (end_of c.args.row.now) (cc)) (YieldsList-from_chain (YieldsList-from_slice stop_cells (cc)) (YieldsList-from_slice term_cells (cc)) (cc) (cc)))
    (λ x b q k. search (rules, tests)))

pub overflow_add-result : goal.overflow_add-result
overflow_add-result c =
    omega (arith, stop_within c.args.row.now c.requires (sym (searched (goal.at.overflow_add-result c).After-position) ∙ c.in-Some.is))

pub returns-in-Some : goal.returns-in-Some
unfolding tested refusal_number
returns-in-Some c = stop_wrong c.args.row.now c.requires (sym (searched (goal.at.returns-in-Some c).After-position) ∙ c.in-Some.is)

pub returns-in-None : goal.returns-in-None
unfolding tested
returns-in-None c = stop_right c.args.row.now c.requires (sym (searched (goal.at.returns-in-None c).After-position) ∙ c.in-None.is)
