-- `record::test_count` meets its contract: each way out is one law of the tests.
-- Assumes nothing.
use Prim.Native.Nat.{ℕ}
use mathlib.Core.Path.{◌≡◌, sym, ◌∙◌}
use native.Mathlib.Omega.{arith}
use Rattle.std.specs.Prelude.{Result, Err}
use Rattle.std.proofs.lemmas.Result.{err_from_is_err_and}
use Rattle.helpers.specs.Numbers.{refusal_number}
use Rattle.helpers.specs.declared.Refusal.{Refusal}
use Rattle.helpers.specs.declared.Refusal.TheVariants.{Count}
use Rattle.helpers.specs.Terms.{answers}
use Rattle.record.proofs.Tests.{sized_declared, tested_none, tested_count, tested_spare, tested_done}
use Rattle.record.proofs.test_count.Goals as goal

pub returns-in_err-n : goal.returns-in_err-n
unfolding answers refusal_number
returns-in_err-n c =
    let p = err_from_is_err_and c.from_residual.result c.from_residual.ensures.1 in
    let none = tested_none _ (sym c.count.ensures ∙ c.in_err-n.ensures.ok_part) c.requires.0 c.requires.1 c.requires.2 in
    let so : ◌≡◌ {A = Result ℕ Refusal} (Err c.in_err-n.field-0.0) (Err (Count 0)) = rw c.in_err-n.ensures.ok_part at c.in_err-n.ensures.value in
    let same : c.in_err-n.field-0.0 ≡ Count 0 = cc in
    rw (p.1, p.2, same) none

pub returns-then-record-needed : goal.returns-then-record-needed
unfolding answers refusal_number
returns-then-record-needed c =
    tested_count _ _ _ (sym c.count.ensures ∙ c.in_ok-n.ensures.ok_part) c.record_length-needed.ensures c.requires.0 c.requires.1 c.requires.2 (omega arith)

pub returns-then-not-spare_clear : goal.returns-then-not-spare_clear
unfolding answers refusal_number
returns-then-not-spare_clear c =
    let known = sized_declared _ _ (sym c.count.ensures ∙ c.in_ok-n.ensures.ok_part) c.requires.0 c.requires.1 c.requires.2 (omega arith) in
    tested_spare known (omega arith) (omega arith) (sym c.spare_clear.ensures ∙ c.if-not-spare_clear.true)

pub returns : goal.returns
unfolding answers
returns c =
    let known = sized_declared _ _ (sym c.count.ensures ∙ c.in_ok-n.ensures.ok_part) c.requires.0 c.requires.1 c.requires.2 (omega arith) in
    tested_done known (omega arith) (omega arith) (sym c.spare_clear.ensures ∙ c.if-not-spare_clear.false)
