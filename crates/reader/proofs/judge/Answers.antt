-- `reader::judge` meets its contract: one part after the other, each refusal handed on.
-- Assumes nothing.
use Prim.Native.Nat.{◌+◌}
use mathlib.Core.Path.{◌≡◌, refl, sym}
use native.Mathlib.Omega.{arith}
use lib.ListN.{length, take}
use lib.Seq.{length-take-le}
use Rattle.std.proofs.lemmas.Result.{err_from_is_err_and}
use Rattle.paper.specs.Jobs.{most, row_length}
use Rattle.helpers.proofs.Gives.{said_done}
use Rattle.shapes.proofs.Shaping.{Shaped, row_proper}
use Rattle.reader.proofs.Judges.{judge_shape, judge_blocks, judge_stop, judge_check, judge_done}
use Rattle.reader.proofs.judge.Goals as goal
use Rattle.reader.proofs.judge.Goals.{In_ok-n, In_ok-blocks}

-- what follows from an accepted shape: the row is as long as its n symbols ask, and its cells have
-- two colours only
proper : (c : In_ok-n) → Shaped c.args.row.now c.in_ok-n.n
proper c = row_proper c.args.row.now c.in_ok-n.n (said_done c.in_ok-n.was c.shape.ensures)

pub returns-in_err-n : goal.returns-in_err-n
returns-in_err-n c =
    let p = err_from_is_err_and c.from_residual.result c.from_residual.ensures.1 in
    rw (p.1, p.2) (judge_shape _ c.in_err-n.was c.shape.ensures)

pub overflow_add-list : goal.overflow_add-list
overflow_add-list c = omega (arith, proper (goal.at.overflow_add-list c).In_ok-n)

-- the list has room for the blocks
room : (c : In_ok-n) → length (take (c.in_ok-n.n + 1) c.args.list.now) ≡ c.in_ok-n.n + 1
unfolding row_length most
room c = length-take-le (c.in_ok-n.n + 1) c.args.list.now (omega (arith, proper c))

pub slice_bounds-numbers-end : goal.slice_bounds-numbers-end
slice_bounds-numbers-end c = sym (room (goal.at.slice_bounds-numbers-end c).In_ok-n)

pub blocks-requires : goal.blocks-requires
blocks-requires c =
    let p = proper (goal.at.blocks-requires c).In_ok-n in
    (omega (arith, room (goal.at.blocks-requires c).In_ok-n), p.two_colours)

pub returns-in_err-blocks : goal.returns-in_err-blocks
returns-in_err-blocks c =
    let p = err_from_is_err_and c.from_residual-in_err-blocks.result c.from_residual-in_err-blocks.ensures.1 in
    let k = room (goal.at.returns-in_err-blocks c).In_ok-n in
    rw (p.1, p.2) (judge_blocks _ (said_done c.in_ok-n.was c.shape.ensures) k _ c.in_err-blocks.ensures)

pub stops-requires : goal.stops-requires
stops-requires c = omega (arith, proper (goal.at.stops-requires c).In_ok-n)

pub returns-in_err-stops : goal.returns-in_err-stops
returns-in_err-stops c =
    let p = err_from_is_err_and c.from_residual-in_err-stops.result c.from_residual-in_err-stops.ensures.1 in
    let k = room (goal.at.returns-in_err-stops c).In_ok-n in
    rw (p.1, p.2) (judge_stop _ (said_done c.in_ok-n.was c.shape.ensures) k _ c.in_ok-blocks.ensures c.in_err-stops.ensures)

pub bounds-numbers-n : goal.bounds-numbers-n
bounds-numbers-n c = omega (arith, room (goal.at.bounds-numbers-n c).In_ok-n)

-- the symbols are all numbers but the last
front : (c : In_ok-blocks) → length (take (c.in_ok-n.n + 1) c.args.list.now) ≡ c.in_ok-n.n + 1 → c.in_ok-n.n ≡ length (take c.in_ok-n.n c.blocks-2.new.list)
front c k = sym (length-take-le c.in_ok-n.n c.blocks-2.new.list (omega (arith, k, c.blocks-2.auto)))

pub slice_bounds-symbols-end : goal.slice_bounds-symbols-end
slice_bounds-symbols-end c =
    front (goal.at.slice_bounds-symbols-end c).In_ok-blocks (room (goal.at.slice_bounds-symbols-end c).In_ok-n)

pub checks-requires : goal.checks-requires
unfolding most
checks-requires c =
    let k = room (goal.at.checks-requires c).In_ok-n in
    omega (arith, front (goal.at.checks-requires c).In_ok-blocks k, proper (goal.at.checks-requires c).In_ok-n)

-- the ways out after the check: a refusal is what its test says of the symbols, and where it has
-- passed, so have all tests
pub returns-in_err-checks : goal.returns-in_err-checks
returns-in_err-checks c =
    let p = err_from_is_err_and c.from_residual-in_err-checks.result c.from_residual-in_err-checks.ensures.1 in
    let k = room (goal.at.returns-in_err-checks c).In_ok-n in
    rw (p.1, p.2) (judge_check _ (said_done c.in_ok-n.was c.shape.ensures) k _ c.in_ok-blocks.ensures c.in_ok-stops.ensures c.in_err-checks.ensures)

pub returns : goal.returns
returns c =
    let k = room (goal.at.returns c).In_ok-n in
    judge_done _ (said_done c.in_ok-n.was c.shape.ensures) k _ c.in_ok-blocks.ensures c.in_ok-stops.ensures _ c.in_ok-checks.ensures refl (front (goal.at.returns c).In_ok-blocks k)
