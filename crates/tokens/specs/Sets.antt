-- The crate's `CharacterSet` is the paper's code set.
-- Assumes nothing.
use Rattle.std.specs.Prelude as Std
use Rattle.std.specs.Prelude.{ℕ, eqb, if◌then◌else◌}
use Rattle.std.proofs.Math.Option.{Option, none, some}
use Rattle.paper.specs.Iso15417 as Iso
use Rattle.paper.specs.Iso15417.{Set, start_of}
use Rattle.paper.specs.Crate.{À, Ɓ, Ć}
use Rattle.tokens.specs.declared.CharacterSet.{CharacterSet}
use Rattle.tokens.specs.declared.CharacterSet.TheVariants.{A, B, C, None}
use Rattle.tokens.specs.declared.Lookup.{Lookup}
use Rattle.tokens.specs.declared.Lookup.TheVariants.{Unit, Retired, Nothing}

-- the set of a case
unfoldable pub set_of : CharacterSet → Set
set_of A = Iso.A
set_of B = Iso.B
set_of C = Iso.C
set_of None = Iso.before

-- "À U+00C0, set A, 103; Ɓ U+0181, set B, 104; Ć U+0106, set C, 105": the set that a code point
-- names
unfoldable pub named : ℕ → Set
named c = if eqb c À then Iso.A else if eqb c Ɓ then Iso.B else if eqb c Ć then Iso.C else Iso.before

-- the START of a set, if it has one: before the START there is none
unfoldable pub start_in : Set → Std.Option ℕ
start_in s = if eqb (start_of s) 0 then Std.None else Std.Some (start_of s)

-- what `lookup` answers for a number: 97 is FNC2, set apart
unfoldable pub lookup_of : Option ℕ → Lookup
lookup_of none = Nothing
lookup_of (some m) = if eqb m 97 then Retired else Unit m
