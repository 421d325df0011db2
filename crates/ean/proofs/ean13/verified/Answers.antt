-- `ean13::verified` meets its contract: a text of twelve has nothing to verify.
-- Assumes nothing.
use mathlib.Core.Path.{◌≡◌, sym}
use mathlib.Core.Bool.{true}
use native.Mathlib.Omega.{arith}
use Rattle.std.proofs.lemmas.Bool.Decides.{nat_tests}
use borrow.Author.Tests.{ltb-true}
use Rattle.helpers.proofs.Answering.{each_at}
use Rattle.ean.specs.Ean13.{is_digit}
use Rattle.ean.proofs.Values.{digit_bounds, verified_short, verified_long}
use Rattle.ean.proofs.ean13.verified.Goals as goal

pub overflow_sub-result : goal.overflow_sub-result
overflow_sub-result c =
    let s = c.in-Some.ensures.lookup in
    omega (arith, s.1, (digit_bounds _ (each_at (λ x. is_digit x ≡ true) c.args.text.now 12 c.in-Some.c.now c.requires (omega arith))).0)

pub returns-in-Some : goal.returns-in-Some
returns-in-Some c =
    let s = c.in-Some.ensures.lookup in
    verified_long c.args.text.now c.args.check s.1 (ltb-true _ _ (sym s.0))

pub returns-in-None : goal.returns-in-None
returns-in-None c = verified_short c.args.text.now c.args.check (let f = c.in-None.ensures.lookup in grind (arith, nat_tests))
