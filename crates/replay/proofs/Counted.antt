-- A row that read accepts has at most 4,000 symbols.
-- Assumes nothing.
use Rattle.std.proofs.Common.{◌≡◌, ℕ, ◌≤◌, List, length, refl, arith}
use Rattle.helpers.specs.Answers as Paper
use Rattle.helpers.specs.Answers.{refuse, accept, Accepted, second, Gave}
use Rattle.std.specs.Prelude.{Result, Ok}
use Rattle.helpers.specs.declared.Refusal.{Refusal}
use Rattle.helpers.specs.Numbers.{number_of, second_of}
use Rattle.paper.specs.Jobs.{read}
use Rattle.paper.proofs.Reading.{read_size}
use Rattle.paper.proofs.Results.{read_owes}

limited : (a : Paper.Answer) (n : ℕ) → Accepted a → n ≡ second a → ((m : ℕ) (s : List ℕ) → a ≡ accept m s → m ≤ 4000) → n ≤ 4000
unfolding second
limited (refuse k m) n r e f = absurd r
limited (accept m s) n r e f = omega (arith, f m s refl)

pub counted : {v : Result ℕ Refusal} {n : ℕ} {out : List ℕ} (row buf : List ℕ) → v ≡ Ok n → Gave (read (length buf) row) (number_of v) (second_of v) buf out → n ≤ 4000
unfolding number_of second_of
counted {n} {out} row buf e g =
    let gave : Gave (read (length buf) row) 0 n buf out = rw e at g in
    limited (read (length buf) row) n (read_owes.zero_accepts row n buf out gave) gave.gave_second (λ m s h. (read_size (length buf) row m s h).2)
