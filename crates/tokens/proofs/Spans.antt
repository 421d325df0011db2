-- Laws of the numbers of code points: the first span that holds one, and the spans before it.
-- Assumes nothing.
use Prim.Native.Nat.{ℕ, zero, suc, ◌+◌, ◌-◌, ◌<◌, ◌≤◌}
use mathlib.Core.Path.{◌≡◌, refl, ◌∙◌}
use mathlib.Core.Option.{none, some}
use mathlib.Core.List.{List, [], ◌∷◌}
use native.Mathlib.Omega.{arith}
use native.Mathlib.Decide.{dec_le, ℕ_discrete}
use lib.Dec.{eqb}
use lib.ListN.{drop}
use borrow.Author.Tests.{le-leb, lt-leb, ne_eqb}
use Rattle.std.specs.Prelude.{if◌then◌else◌}
use Rattle.paper.specs.Iso15417.{before, start_of}
use Rattle.paper.specs.Crate.{À, Ɓ, Ć, Span, span, spans, number_in}
use Rattle.tokens.specs.Sets.{named}

-- the first span holds the code point
pub number_in_lem : (a b n : ℕ) (t : List Span) (c v : ℕ) → a ≤ c → c ≤ b → v ≡ n + (c - a) → number_in (span a b n ∷ t) c ≡ some v
unfolding number_in
number_in_lem a b n t c v low high e = rw (le-leb a c low, le-leb c b high, e)

number_out : (a b n : ℕ) (t : List Span) (c : ℕ) → (a ≤ c → c ≤ b → ⊥) → number_in (span a b n ∷ t) c ≡ number_in t c
unfolding number_in
number_out a b n t c h = elim (dec_le a c) [ yes low ↦ rw (le-leb a c low, lt-leb c b (over low)) | no low ↦ rw (lt-leb a c (omega arith)) ]
  where
    over : a ≤ c → b < c
    over low = omega (arith, h low)

-- none of the first k spans holds it
abbrev pub Past : ℕ → List Span → ℕ → Type 0
Past zero t c = Unit {0}
Past (suc k) [] c = Unit {0}
Past (suc k) (span a b n ∷ t) c = (a ≤ c → c ≤ b → ⊥) × Past k t c

pub number_past : (k : ℕ) (t : List Span) (c : ℕ) → Past k t c → number_in t c ≡ number_in (drop k t) c
number_past zero t c h = refl
number_past (suc k) [] c h = refl
number_past (suc k) (span a b n ∷ t) c h = number_out a b n t c h.0 ∙ number_past k t c h.1

-- before the START: the START of the set that the code point names
pub number_start : (c : ℕ) → number_in (spans before) c ≡ (if eqb (start_of (named c)) 0 then none else some (start_of (named c)))
unfolding number_in spans named start_of
number_start c =
    elim (ℕ_discrete c À) [
      | yes a ↦ rw a
      | no a ↦
          elim (ℕ_discrete c Ɓ) [
            | yes b ↦ rw b
            | no b ↦
                elim (ℕ_discrete c Ć) [
                  | yes d ↦ rw d
                  | no d ↦
                      rw (ne_eqb c À a, ne_eqb c Ɓ b, ne_eqb c Ć d) (number_past 3 (spans before) c (omega arith))
                ]
          ]
    ]
