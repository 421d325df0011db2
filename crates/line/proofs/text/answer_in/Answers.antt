-- `line::text::answer_in` meets its contract: the numbers that encode gave, and the row where it
-- drew one.
-- Assumes nothing.
use Prim.Native.Nat.{ℕ, ◌≤◌}
use mathlib.Core.Path.{◌≡◌}
use mathlib.Core.List.{List}
use native.Mathlib.Omega.{arith}
use lib.ListN.{length, replicate, length-replicate}
use Rattle.helpers.specs.Answers.{Gave}
use Rattle.std.specs.Prelude.{Result, Ok, Err}
use Rattle.helpers.specs.declared.Refusal.{Refusal}
use Rattle.helpers.specs.Numbers.{refusal_number, refusal_second, number_of, second_of}
use Rattle.paper.specs.Jobs.{encode, row_length, most}
use Rattle.line.proofs.Bounds.{Low, encode_low, encode_rooms}
use Rattle.line.proofs.AnswerLines.{gave_low, refused_number, gave_refusal, Drawn, drawn}
use Rattle.line.proofs.text.answer_in.Given as given
use Rattle.line.proofs.text.answer_in.Goals as goal
use Rattle.line.proofs.text.answer_in.Goals.{In-Ok, In-Err}

-- a row of N cells is as long
room : (k n : ℕ) → k ≤ n → k ≤ length {A = ℕ} (replicate n 0)
room k n h = rw (length-replicate {A = ℕ} n 0) h

-- what encode answers, lent room for any row
low : (x : List ℕ) → length x ≤ 2048 → Low (length x) (encode (row_length most) x)
unfolding row_length most
low x short = encode_low (row_length most) x (omega arith) (omega arith)

gave :
    (x row out : List ℕ) (k m : ℕ) →
    length x ≤ 2048 →
    row_length (length x) ≤ length row →
    Gave (encode (length row) x) k m row out →
    Gave (encode (row_length most) x) k m row out
unfolding row_length most
gave x row out k m short enough g = rw (encode_rooms (row_length most) (length row) x (omega arith) (omega arith) (omega arith)) g

-- where it refused
err :
    (x buf out : List ℕ) (v : Result ℕ Refusal) (r : Refusal) →
    length x ≤ 2048 →
    row_length (length x) ≤ length buf →
    v ≡ Err r →
    Gave (encode (length buf) x) (number_of v) (second_of v) buf out →
    Gave (encode (row_length most) x) (refusal_number r) (refusal_second r) buf out
unfolding number_of second_of
err x buf out v r short enough e g = rw e at (gave x buf out _ _ short enough g)

refused : (g : given.Over) (c : In-Err g)
    → Gave (encode (row_length most) c.args.text.now) (refusal_number c.in-Err.refusal) (refusal_second c.in-Err.refusal) (replicate g.row.N 0) c.encode.new.out
refused g c = err _ _ _ _ _ c.requires.0 (room _ g.row.N c.requires.1) c.in-Err.is c.encode.ensures

pub write_refusal-requires : goal.write_refusal-requires
write_refusal-requires g c = let x = c.args.text.now in
    gave_low _ (encode (row_length most) x) (low x c.requires.0) (omega arith) (refused g (goal.at.write_refusal-requires g c).In-Err)

pub returns-in-Err : goal.returns-in-Err
returns-in-Err g c =
    rw (gave_refusal _ (refused_number c.in-Err.refusal) (refused g (goal.at.returns-in-Err g c).In-Err)) c.write_refusal.ensures

-- where encode drew a row
row :
    (x buf out : List ℕ) (v : Result ℕ Refusal) (n : ℕ) →
    length x ≤ 2048 →
    row_length (length x) ≤ length buf →
    v ≡ Ok n →
    Gave (encode (length buf) x) (number_of v) (second_of v) buf out →
    Drawn (length x) (encode (row_length most) x) n out
unfolding number_of second_of
row x buf out v n short enough e g = drawn _ _ (low x short) (rw e at (gave x buf out _ _ short enough g))

drew :
    (g : given.Over) (c : In-Ok g) → Drawn (length c.args.text.now) (encode (row_length most) c.args.text.now) c.in-Ok.n c.encode.new.out
drew g c = row _ _ _ _ _ c.requires.0 (room _ g.row.N c.requires.1) c.in-Ok.is c.encode.ensures

pub overflow_mul-n : goal.overflow_mul-n
overflow_mul-n g c = omega (arith, (drew g (goal.at.overflow_mul-n g c).In-Ok).limited)

pub overflow_add-n : goal.overflow_add-n
overflow_add-n g c = omega (arith, (drew g (goal.at.overflow_add-n g c).In-Ok).limited)

pub shared_whole_as_front-write_row : goal.shared_whole_as_front-write_row
unfolding row_length
shared_whole_as_front-write_row g c = omega (arith, (drew g (goal.at.shared_whole_as_front-write_row g c).In-Ok).limited)

pub write_row-requires : goal.write_row-requires
write_row-requires g c = let r = drew g (goal.at.write_row-requires g c).In-Ok in (omega (arith, r.limited), r.clean)

pub returns-in-Ok : goal.returns-in-Ok
returns-in-Ok g c = rw (drew g (goal.at.returns-in-Ok g c).In-Ok).accepts c.write_row.ensures
