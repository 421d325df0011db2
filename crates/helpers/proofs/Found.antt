-- What the library's `position` says of a test over every element: refused at the first that is
-- bad, or passed.
-- Assumes nothing.
use Prim.Native.Nat.{ℕ, suc, ◌+◌}
use mathlib.Core.Path.{◌≡◌, refl, ap}
use mathlib.Core.Bool.{Bool, true, false, not}
use mathlib.Core.List.{List, [], ◌∷◌}
use native.Mathlib.Omega.{arith}
use native.Mathlib.Nat.{add-zero}
use Rattle.std.specs.Prelude.{if◌then◌else◌, Option, Some, None, position, cond}
use Rattle.std.specs.List.{position_from}
use Rattle.std.proofs.lemmas.Iterator.Adapters.{position_from-zero}
use Rattle.helpers.specs.Answers.{Test, refuses, passes, every}

module _ (good bad : ℕ → Bool) (apart : (x : ℕ) → good x ≡ not (bad x)) (k at : ℕ) where
  -- what the search from place i on says of the test from there
  abbrev Says : Option ℕ → Test → Type 0
  Says (Some j) t = t ≡ refuses k (at + j)
  Says None t = t ≡ passes

  from : (i : ℕ) (xs : List ℕ) → Says (position_from bad i xs) (every good k (at + i) xs)
  unfolding every
  from i [] = refl
  from i (x ∷ xs) = rw (apart x) (by_case (bad x) (from (i + 1) xs))
    where
      next : at + (i + 1) ≡ suc (at + i)
      next = omega arith

      by_case : (b : Bool) → Says (position_from bad (i + 1) xs) (every good k (at + (i + 1)) xs)
          → Says (cond b (Some i) (position_from bad (i + 1) xs)) (if not b then every good k (suc (at + i)) xs else refuses k (at + i))
      by_case true s = refl
      by_case false s = rw (← next) s

  whole : (xs : List ℕ) → Says (position bad xs) (every good k at xs)
  whole xs = let here : every good k (at + 0) xs ≡ every good k at xs = ap (λ (a : ℕ). every good k a xs) (add-zero at) in rw (position_from-zero bad xs, ← here) (from 0 xs)

  pub every_found : (xs : List ℕ) {j : ℕ} → position bad xs ≡ Some j → every good k at xs ≡ refuses k (at + j)
  every_found xs e = let s = whole xs in rw e at s

  pub every_passed : (xs : List ℕ) → position bad xs ≡ None → every good k at xs ≡ passes
  every_passed xs e = let s = whole xs in rw e at s
