-- The law of the code's trait `Element`, of bytes. It stands in specs because an impl of the trait
-- names it in the source, and a `ghost use` there takes nothing from the crate's own proofs.
-- Assumes nothing.
use Rattle.std.specs.Prelude.{ℕ, ◌≡◌, length, refl}
use Rattle.std.proofs.Common.{arith}
use Rattle.std.proofs.lemmas.Bool.Decides.{nat_tests}
use Rattle.paper.specs.Iso15417.{Set, before, A, B, C, sent, other}

-- Shift changes which byte is sent and never how many
pub sent_length : (s : Set) (m : ℕ) → length (sent (other s) m) ≡ length (sent s m)
unfolding sent other
sent_length before m = refl
sent_length A m = grind (arith, nat_tests)
sent_length B m = grind (arith, nat_tests)
sent_length C m = refl
