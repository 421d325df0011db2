-- `ean_reader::ean13::has_guards` meets its contract: three guards, in a row that has the length.
-- Assumes nothing.
use mathlib.Core.Path.{◌≡◌, sym, ◌∙◌}
use mathlib.Core.Bool.{◌&&◌}
use lib.ListN.{take, drop}
use borrow.Author.Tests.{eq-eqb}
use Rattle.helpers.specs.Answers.{same}
use Rattle.ean.specs.Ean13.{guard, centre}
use Rattle.ean.specs.Terms.{framed}
use Rattle.ean_reader.proofs.Finds.{cells_other}
use Rattle.ean_reader.proofs.ean13.has_guards.Goals as goal
use Rattle.ean_reader.proofs.ean13.has_guards.Goals.{then-eq, else-eq}

pub returns-then-eq-2 : goal.returns-then-eq-2
unfolding framed guard centre
returns-then-eq-2 c =
    let row = c.args.row.now in
    let first : c.eq.result ≡ same guard (take 3 (drop 0 row)) = c.eq.ensures ∙ cells_other guard _ in
    let both : c.if-eq.value ≡ (same guard (take 3 (drop 0 row)) && same centre (take 5 (drop 45 row))) =
    elim c.if-eq.branch [ then-eq w ↦ rw (sym first ∙ w.if-eq.true) (w.value-is ∙ w.eq-then-eq.ensures ∙ cells_other centre _) | else-eq w ↦ rw (sym first ∙ w.if-eq.false) (w.value-is ∙ w.if-eq.false) ] in
    rw (eq-eqb _ _ c.told-row, sym both ∙ c.if-eq-2.true) (c.eq-then-eq-2.ensures ∙ cells_other guard _)

pub returns-else-eq-2 : goal.returns-else-eq-2
unfolding framed guard centre
returns-else-eq-2 c =
    let row = c.args.row.now in
    let first : c.eq.result ≡ same guard (take 3 (drop 0 row)) = c.eq.ensures ∙ cells_other guard _ in
    let both : c.if-eq.value ≡ (same guard (take 3 (drop 0 row)) && same centre (take 5 (drop 45 row))) =
    elim c.if-eq.branch [ then-eq w ↦ rw (sym first ∙ w.if-eq.true) (w.value-is ∙ w.eq-then-eq.ensures ∙ cells_other centre _) | else-eq w ↦ rw (sym first ∙ w.if-eq.false) (w.value-is ∙ w.if-eq.false) ] in
    rw (eq-eqb _ _ c.told-row, sym both ∙ c.if-eq-2.false) c.if-eq-2.false
