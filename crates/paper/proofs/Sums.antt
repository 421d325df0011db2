-- The check: its sum is small, it is below 103, and the crate's own sum gives the same.
-- Assumes nothing.
use mathlib.Core.Path.{◌≡◌, refl, ap, ◌∙◌}
use mathlib.Core.List.{List, [], ◌∷◌}
use Prim.Native.Nat.{ℕ, suc, ◌+◌, ◌*◌, ◌%◌, max, ◌<◌, ◌≤◌}
use native.Mathlib.Nat.{mul-le-mul, mul_comm, max-eq_right}
use native.Mathlib.Omega.{arith}
use lib.ListN.{length}
use Rattle.helpers.specs.Answers.{Each}
use Rattle.paper.specs.Iso15417.{weighed, check}
use Rattle.paper.specs.Crate.{folded, checksum}
use Rattle.paper.specs.Jobs.{most, SymbolList}
use Rattle.paper.proofs.Cells.{check_small}

-- numbers of up to 102 with weights below 4,000
weighed_most : (w : ℕ) (xs : List ℕ) → w + length xs ≤ 4000 → Each (λ x. x ≤ 102) xs → weighed w xs ≤ 407898 * length xs
unfolding weighed
weighed_most w [] h a = omega arith
weighed_most w (x ∷ xs) h a =
    let below : w ≤ 3999 = omega arith in
    let first : w * x ≤ 3999 * 102 = mul-le-mul below a.0 in
    omega (arith, first, weighed_most (suc w) xs (omega arith) a.1)

pub sum_fits : (start : ℕ) (ms : List ℕ) → SymbolList (start ∷ ms) → start + weighed 1 ms < 2147483648
unfolding most
sum_fits start ms s = omega (arith, s.form.1, s.size, weighed_most 1 ms (omega (arith, s.size)) s.form.2)

pub check_most : (s : List ℕ) → check s ≤ 102
check_most s = omega (arith, check_small s)

-- the crate's fold from place 1 on
folded_weighed : (t i : ℕ) (us : List ℕ) → 1 ≤ i → folded t i us ≡ t + weighed i us
unfolding folded weighed
folded_weighed t i [] h = omega arith
folded_weighed t i (u ∷ us) h =
    let rest = folded_weighed (t + u * max 1 i) (suc i) us (omega arith) in
    let weight : max 1 i ≡ i = max-eq_right h in
    let turned : u * max 1 i ≡ i * u = ap (λ (w : ℕ). u * w) weight ∙ mul_comm u i in
    omega (arith, rest, turned)

pub check_crate : (s : List ℕ) → checksum s ≡ check s
unfolding check checksum folded
check_crate [] = refl
check_crate (start ∷ ms) = ap (λ (t : ℕ). t % 103) (folded_weighed (0 + start * max 1 0) 1 ms (omega arith) ∙ omega (arith))
