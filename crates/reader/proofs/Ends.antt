-- The stop by places: what the library's `position` says of cells zipped with those wanted.
-- Assumes nothing.
use Prim.Native.Nat.{ℕ, suc, ◌+◌, ◌-◌, ◌<◌, ◌≤◌}
use mathlib.Core.Path.{◌≡◌, refl, sym, ap}
use mathlib.Core.Bool.{Bool, true, false, not}
use mathlib.Core.List.{List, [], ◌∷◌}
use native.Mathlib.Nat.{add-zero, le_of_suc-le-suc, not-suc-le-zero}
use native.Mathlib.Omega.{arith}
use lib.Dec.{eqb}
use lib.ListN.{length, take, drop, length-drop}
use lib.Seq.{take_all}
use Rattle.std.specs.Prelude.{if◌then◌else◌, Option, Some, None, position, cond}
use Rattle.std.specs.List.{position_from, zip}
use Rattle.std.proofs.lemmas.Iterator.Adapters.{position_from-zero}
use Rattle.std.proofs.lemmas.List.Quantifiers.{position-Some}
use Rattle.helpers.specs.Answers.{Test, refuses, passes}
use Rattle.paper.specs.Iso15417.{stop}
use Rattle.paper.specs.Jobs.{wanted, last_of}
use Rattle.code128.proofs.Rows.{stop_parts}
use Rattle.reader.specs.Parts.{stop_asked}

-- two cells that differ
abbrev pub apart : ℕ × ℕ → Bool
apart p = not (eqb p.0 p.1)

module _ (at : ℕ) where
  -- what a search says of the test
  abbrev Says : Option ℕ → Test → Type 0
  Says (Some j) t = t ≡ refuses 15 (at + j)
  Says None t = t ≡ passes

  from : (i : ℕ) (ys cs : List ℕ) → length ys ≤ length cs → Says (position_from apart i (zip cs ys)) (wanted 15 (at + i) ys cs)
  unfolding wanted
  from i [] [] h = refl
  from i [] (c ∷ cs) h = refl
  from i (y ∷ ys) [] h = absurd (not-suc-le-zero h)
  from i (y ∷ ys) (c ∷ cs) h = by_case (eqb c y) (from (i + 1) ys cs (le_of_suc-le-suc h))
    where
      next : at + (i + 1) ≡ suc (at + i)
      next = omega arith

      by_case : (b : Bool) → Says (position_from apart (i + 1) (zip cs ys)) (wanted 15 (at + (i + 1)) ys cs)
          → Says (cond (not b) (Some i) (position_from apart (i + 1) (zip cs ys))) (if b then wanted 15 (suc (at + i)) ys cs else refuses 15 (at + i))
      by_case true s = rw (← next) s
      by_case false s = refl

  whole : (ys cs : List ℕ) → length ys ≤ length cs → Says (position apart (zip cs ys)) (wanted 15 at ys cs)
  whole ys cs h = let here : wanted 15 (at + 0) ys cs ≡ wanted 15 at ys cs = ap (λ (a : ℕ). wanted 15 a ys cs) (add-zero at) in rw (position_from-zero apart (zip cs ys), ← here) (from 0 ys cs h)

length-zip : (xs ys : List ℕ) → length (zip xs ys) ≤ length ys
length-zip [] ys = omega arith
length-zip (x ∷ xs) [] = omega arith
length-zip (x ∷ xs) (y ∷ ys) = let shorter = length-zip xs ys in omega arith

length_stop : length stop ≡ 13
length_stop = rw (← stop_parts) refl

-- the last 13 cells, as the code cuts them off
abbrev pub end_of : List ℕ → List ℕ
end_of cs = take (length cs - (length cs - 13)) (drop (length cs - 13) cs)

module _ (cs : List ℕ) (long : 13 ≤ length cs) where
  last : end_of cs ≡ last_of 13 cs
  unfolding last_of
  last = take_all (length cs - (length cs - 13)) (drop (length cs - 13) cs) (omega (arith, length-drop (length cs - 13) cs))

  said : Says (length cs - 13) (position apart (zip (end_of cs) stop)) (stop_asked cs)
  unfolding stop_asked last_of
  said = rw last (whole (length cs - 13) stop (last_of 13 cs) (omega (arith, length_stop, length-drop (length cs - 13) cs)))

  pub stop_wrong : {j : ℕ} → position apart (zip (end_of cs) stop) ≡ Some j → refuses 15 (length cs - 13 + j) ≡ stop_asked cs
  stop_wrong e = let s = said in sym (rw e at s)

  pub stop_right : position apart (zip (end_of cs) stop) ≡ None → passes ≡ stop_asked cs
  stop_right e = let s = said in sym (rw e at s)

  pub stop_within : {j : ℕ} → position apart (zip (end_of cs) stop) ≡ Some j → length cs - 13 + j < length cs
  stop_within {j} e =
      let within = (position-Some apart (zip (end_of cs) stop) j (0, 0) e).0 in
      omega (arith, length-zip (end_of cs) stop, length_stop)
