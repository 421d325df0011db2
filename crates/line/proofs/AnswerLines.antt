-- The line of an answer: its head in a small buffer, and the answer itself, from the two numbers
-- and the row that the call of encode gave.
-- Assumes nothing.
use Prim.Native.Nat.{ℕ, ◌+◌, ◌*◌, ◌<◌, ◌≤◌}
use mathlib.Core.Path.{◌≡◌, refl}
use mathlib.Core.List.{List, [], ◌∷◌, ◌++◌, map, append-nil}
use native.Mathlib.Omega.{arith}
use native.Mathlib.Decide.{dec_lt}
use lib.ListN.{length, take, drop, length-append}
use lib.Seq.{take_at, append_snoc}
use Rattle.helpers.specs.Answers.{Each, Answer, refuse, accept, number, second, after, Gave}
use Rattle.helpers.specs.declared.Refusal.{Refusal}
use Rattle.std.specs.Prelude.{Ok, Err}
use Rattle.helpers.specs.Numbers.{refusal_number, number_of, second_of}
use Rattle.helpers.specs.Terms.{Stored}
use Rattle.helpers.proofs.Answers.{answer_determined}
use Rattle.paper.specs.Jobs.{encode, row_length, most}
use Rattle.line.specs.Line.{code_points, other_form, content_of, decimal, answer_line, content_line, line_out}
use Rattle.line.proofs.Bounds.{Low}
use Rattle.line.proofs.Decimals.{decimal_few}

-- ---- the head of a line

-- "answer number, space, second number"
abbrev pub two_numbers : ℕ → ℕ → List ℕ
two_numbers num sec = decimal num ++ (32 ∷ decimal sec)

-- numbers of at most four digits fit nine bytes
pub numbers_short : (num sec : ℕ) → num < 10000 → sec < 10000 → length (two_numbers num sec) ≤ 9
numbers_short num sec h l = omega (arith, length-append (decimal num) (32 ∷ decimal sec), decimal_few 3 num h, decimal_few 3 sec l)

-- and end by place 9
pub numbers_end : {num sec : ℕ} {out out' : List ℕ} {r : ℕ} → Stored (two_numbers num sec) out 0 out' r → num < 10000 → sec < 10000 → r ≤ 9
numbers_end {num} {sec} p h l = omega (arith, p.next, numbers_short num sec h l)

-- a line from its head: a refusal has no cells
pub line_refused : (num sec : ℕ) {head : List ℕ} → head ≡ two_numbers num sec → head ++ [] ++ (10 ∷ []) ≡ answer_line (refuse num sec) ++ (10 ∷ [])
unfolding answer_line
line_refused num sec e = rw (e, append-nil)

-- and an acceptance has a blank after the numbers, and the row's cells
pub line_drawn : (n : ℕ) (cells : List ℕ) {head : List ℕ} → head ≡ two_numbers 0 n ++ (32 ∷ []) → head ++ map (λ c. 48 + c) cells ++ (10 ∷ []) ≡ answer_line (accept n cells) ++ (10 ∷ [])
unfolding answer_line
line_drawn n cells e = rw (e, append_snoc)

-- ---- what the call of encode gave

pub gave_low : (top : ℕ) (a : Answer) → Low top a → top < 10000 → {num sec : ℕ} {buf row : List ℕ} → Gave a num sec buf row → (num < 10000) × (sec < 10000)
unfolding number second
gave_low top (refuse k m) low h g = (omega (arith, g.gave_number), omega (arith, g.gave_second))
gave_low top (accept n r) low h g = (omega (arith, g.gave_number), omega (arith, g.gave_second))

-- no refusal has the number 0
pub refused_number : (r : Refusal) → 1 ≤ refusal_number r
unfolding number_of second_of
refused_number r = elim (dec_lt 0 (refusal_number r)) [ yes h ↦ h | no h ↦ absurd (never (answer_determined (Err r) (Ok (second_of (Err r))) (omega arith) refl)) ]
  where
    never : {n : ℕ} → Err r ≡ Ok n → ⊥
    never e = let z : ◌≡◌ {A = ℕ} 0 1 = cc in omega arith

pub gave_refusal : (a : Answer) {num sec : ℕ} {buf row : List ℕ} → 1 ≤ num → Gave a num sec buf row → a ≡ refuse num sec
unfolding number second
gave_refusal (refuse k m) h g = rw (g.gave_number, g.gave_second)
gave_refusal (accept n r) h g = absurd (omega (arith, g.gave_number))

-- an acceptance with the number n, at most `top`: the row stands at the front of its buffer
pub record Drawn (top : ℕ) (a : Answer) (n : ℕ) (row : List ℕ) : Type 0 where
  pub limited : n ≤ top
  pub clean : Each (λ c. c ≤ 1) (take (11 * n + 24) row)
  pub accepts : a ≡ accept n (take (11 * n + 24) row)

pub drawn : (top : ℕ) (a : Answer) → Low top a → {n : ℕ} {buf row : List ℕ} → Gave a 0 n buf row → Drawn top a n row
unfolding number second after
drawn top (refuse k m) low g = absurd (omega (arith, g.gave_number))
drawn top (accept m r) low {n} {buf} {row} g =
    let count : n ≡ m = g.gave_second in
    let cells : take (11 * n + 24) row ≡ r = rw g.gave_buffer (take_at r (drop (length r) buf) (11 * n + 24) (omega arith)) in
    record { limited = omega arith; clean = rw cells low.2; accepts = rw (cells, count) }

-- ---- the whole line

pub line_other : (line : List ℕ) → content_of line ≡ other_form → line_out line ≡ 63 ∷ 10 ∷ []
unfolding line_out content_line
line_other line e = rw e

pub line_points : (line x : List ℕ) → content_of line ≡ code_points x → line_out line ≡ answer_line (encode (row_length most) x) ++ (10 ∷ [])
unfolding line_out content_line
line_points line x e = rw e
