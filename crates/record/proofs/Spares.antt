-- The spare bits of a record are the lowest bits of its last byte: all 0 where a remainder is 0.
-- Assumes nothing.
use Prim.Native.Nat.{ℕ, suc, ◌+◌, ◌-◌, ◌*◌, ◌%◌, ◌^◌, ◌<◌}
use mathlib.Core.Path.{◌≡◌, refl}
use mathlib.Core.Bool.{Bool, true, false, not}
use mathlib.Core.List.{List, [], append-nil}
use native.Mathlib.Omega.{arith}
use lib.Dec.{T, eqb}
use lib.ListN.{length, get_or, drop, drop_of_length-le}
use lib.Seq.{drop-drop}
use Rattle.paper.specs.Jobs.{eight, unbytes, all_zero}
use Rattle.helpers.proofs.Below.{below, at}
use Rattle.record.proofs.Unpacks.{byte_cells}

-- two truth values compared
abbrev alike : Bool → Bool → Bool
alike true b = b
alike false b = not b

alike_same : (a b : Bool) → T (alike a b) → a ≡ b
alike_same true true t = refl
alike_same true false t = absurd t
alike_same false true t = absurd t
alike_same false false t = refl

-- tried at every byte and every number of bits
pub spare_bits : (b k : ℕ) → b < 256 → k < 8 → eqb (b % (1 * 2 ^ k % 256)) 0 ≡ all_zero (drop (8 - k) (eight b))
unfolding eight all_zero
spare_bits b k h l =
    let clear : ℕ → ℕ → Bool = λ x j. eqb (x % (1 * 2 ^ j % 256)) 0 in
    let zeros : ℕ → ℕ → Bool = λ x j. all_zero (drop (8 - j) (eight x)) in
    alike_same (clear b k) (zeros b k) (at (λ j. alike (clear b j) (zeros b j)) 8 (at (λ x. below (λ j. alike (clear x j) (zeros x j)) 8) 256 tt b h) k l)

-- the cells of m + 1 bytes from within the last one on are cells of that byte
pub spare_last : (bs : List ℕ) (m used : ℕ) → length bs ≡ suc m → drop (8 * m + used) (unbytes bs) ≡ drop used (eight (get_or bs m 0))
unfolding unbytes
spare_last bs m used e =
    let none : drop (suc m) bs ≡ [] = drop_of_length-le bs {i = suc m} (omega arith) in
    rw (← drop-drop used (8 * m) (unbytes bs), byte_cells m bs (omega arith), none, append-nil (eight (get_or bs m 0)))
