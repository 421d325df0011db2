-- `line::text::decimal` meets its contract: the digits of all but the last, and the last. The
-- number falls.
-- Assumes nothing.
use Prim.Native.Nat.{ℕ}
use mathlib.Core.Path.{ap}
use native.Mathlib.Omega.{arith}
use lib.ListN.{length}
use Rattle.helpers.specs.Terms.{Stored}
use Rattle.helpers.proofs.Gives.{stored_one, stored_then}
use Rattle.line.proofs.Decimals.{front, front_none, front_some, decimal_front, front_long}
use Rattle.line.proofs.Texts.{stored_none}
use Rattle.line.proofs.text.+decimal.Goals as goal
use Rattle.line.proofs.text.+decimal.Goals.{Joined-n-lt10, then-n-lt10, else-n-lt10}

pub decimal-end-requires : goal.decimal-end-requires
decimal-end-requires t c = (omega arith, omega (arith, front_long c.args.n, ap length (front_some c.args.n (omega arith))))

before : (t : ℕ) (c : Joined-n-lt10 t) → Stored (front c.args.n) c.args.out.now c.args.at c.if-n-lt10.out c.if-n-lt10.end
before t c =
    elim c.if-n-lt10.branch [
      | then-n-lt10 w ↦ rw (w.out-is, w.end-is, front_none c.args.n (omega arith)) stored_none
      | else-n-lt10 w ↦ rw (w.out-is, w.end-is, front_some c.args.n (omega arith)) w.decimal-end.ensures
    ]

pub bounds-out-end : goal.bounds-out-end
bounds-out-end t c = let p = before t (goal.at.bounds-out-end t c).Joined-n-lt10 in omega (arith, p.next, front_long c.args.n)

pub overflow_add-result : goal.overflow_add-result
overflow_add-result t c = let p = before t (goal.at.overflow_add-result t c).Joined-n-lt10 in omega (arith, p.next, front_long c.args.n)

pub returns : goal.returns
returns t c = rw (decimal_front c.args.n) (stored_then (before t (goal.at.returns t c).Joined-n-lt10) stored_one)
