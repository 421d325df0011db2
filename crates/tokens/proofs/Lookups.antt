-- What follows from what `lookup` answers: FNC2 is set apart, and ź alone is FNC2.
-- Assumes nothing.
use Prim.Native.Nat.{ℕ}
use mathlib.Core.Path.{◌≡◌, refl, sym, ap, ◌∙◌}
use mathlib.Core.Bool.{Bool, true, false}
use mathlib.Core.Option.{Option, none, some}
use native.Mathlib.Omega.{arith}
use lib.Dec.{eqb}
use borrow.Author.Tests.{eqb-true, eqb-false, ne_eqb}
use Rattle.std.specs.Prelude.{if◌then◌else◌, unwrap_or}
use Rattle.paper.specs.Iso15417.{Set, before, A, B, C, next, start_of}
use Rattle.paper.specs.Crate.{ź, in_both, spans, number_in, point_in, listed, halt, write, free}
use Rattle.paper.specs.Jobs.{not_fnc2}
use Rattle.paper.proofs.Codes.{numbers_back, next_low}
use Rattle.tokens.specs.Sets.{start_in, lookup_of}
use Rattle.tokens.specs.declared.Lookup.TheVariants.{Unit, Retired, Nothing}

-- no START is 0
pub start_or_zero : (s : Set) → unwrap_or (start_in s) 0 ≡ start_of s
unfolding start_in start_of
start_or_zero before = refl
start_or_zero A = refl
start_or_zero B = refl
start_or_zero C = refl

looked_case : (b : Bool) (k m : ℕ) → (if b then Retired else Unit k) ≡ Unit m → (b ≡ false) × (k ≡ m)
looked_case true k m e = absurd (let z : ◌≡◌ {A = ℕ} 0 1 = cc in omega arith)
looked_case false k m e = (refl, cc)

looked_97 : (b : Bool) (k : ℕ) → (if b then Retired else Unit k) ≡ Retired → b ≡ true
looked_97 true k e = refl
looked_97 false k e = absurd (let z : ◌≡◌ {A = ℕ} 0 1 = cc in omega arith)

looked_not : (b : Bool) (k : ℕ) → (if b then Retired else Unit k) ≡ Nothing → ⊥
looked_not true k e = let z : ◌≡◌ {A = ℕ} 0 1 = cc in omega arith
looked_not false k e = let z : ◌≡◌ {A = ℕ} 0 1 = cc in omega arith

pub looked_nothing : (o : Option ℕ) → Nothing ≡ lookup_of o → o ≡ none
unfolding lookup_of
looked_nothing none e = refl
looked_nothing (some k) e = absurd (looked_not (eqb k 97) k (sym e))

looked_unit : (o : Option ℕ) (m : ℕ) → Unit m ≡ lookup_of o → (o ≡ some m) × (m ≡ 97 → ⊥)
unfolding lookup_of
looked_unit none m e = absurd (let z : ◌≡◌ {A = ℕ} 0 1 = cc in omega arith)
looked_unit (some k) m e =
    let both = looked_case (eqb k 97) k m (sym e) in
    (ap some both.1, λ q. eqb-false k 97 both.0 (both.1 ∙ q))

looked_retired : (o : Option ℕ) → Retired ≡ lookup_of o → o ≡ some 97
unfolding lookup_of
looked_retired none e = absurd (let z : ◌≡◌ {A = ℕ} 0 1 = cc in omega arith)
looked_retired (some k) e = ap some (eqb-true k 97 (looked_97 (eqb k 97) k (sym e)))

-- ź has no number or 97
number_ź : (s : Set) (m : ℕ) → number_in (spans s) ź ≡ some m → m ≡ 97
unfolding number_in spans in_both
number_ź before m e = absurd (let z : ◌≡◌ {A = ℕ} 0 1 = cc in omega arith)
number_ź A m e = cc
number_ź B m e = cc
number_ź C m e = absurd (let z : ◌≡◌ {A = ℕ} 0 1 = cc in omega arith)

-- and nothing else has 97
point_97 : (s : Set) (c : ℕ) → point_in (spans s) 97 ≡ some c → c ≡ ź
unfolding point_in spans in_both
point_97 before c e = absurd (let z : ◌≡◌ {A = ℕ} 0 1 = cc in omega arith)
point_97 A c e = cc
point_97 B c e = cc
point_97 C c e = absurd (let z : ◌≡◌ {A = ℕ} 0 1 = cc in omega arith)

pub not_fnc2_other : (c : ℕ) → (c ≡ ź → ⊥) → not_fnc2 c ≡ true
unfolding not_fnc2
not_fnc2_other c h = rw (ne_eqb c ź h) refl

module _ (s : Set) (c : ℕ) where
  pub unit_listed : (m : ℕ) → Unit m ≡ lookup_of (number_in (spans s) c) → (listed s (number_in (spans s) c) ≡ write m (free (next s m))) × (not_fnc2 c ≡ true)
  unfolding listed
  unit_listed m e =
      let (number, other) = looked_unit (number_in (spans s) c) m e in
      (rw number refl, not_fnc2_other c (λ q. other (number_ź s m (rw q at number))))

  pub retired_listed : Retired ≡ lookup_of (number_in (spans s) c) → (listed s (number_in (spans s) c) ≡ write 97 (free s)) × (not_fnc2 c ≡ false)
  unfolding listed not_fnc2
  retired_listed e =
      let number = looked_retired (number_in (spans s) c) e in
      (rw (number, next_low s 97 (omega arith)) refl, rw (point_97 s c ((numbers_back s c 97).0 number)) refl)

  pub nothing_listed : Nothing ≡ lookup_of (number_in (spans s) c) → listed s (number_in (spans s) c) ≡ halt
  unfolding listed
  nothing_listed e = rw (looked_nothing (number_in (spans s) c) e) refl
