-- What one number gives: never more than two elements; its letters are its own letter, or else what
-- is sent for it.
-- Assumes nothing.
use Prim.Native.Nat.{ℕ, ◌<◌, ◌≤◌}
use mathlib.Core.Path.{◌≡◌}
use mathlib.Core.Bool.{Bool}
use mathlib.Core.List.{List, [], ◌∷◌}
use native.Mathlib.Omega.{arith}
use lib.ListN.{length}
use Rattle.helpers.proofs.Below.{at}
use Rattle.helpers.specs.Answers.{same}
use Rattle.paper.specs.Iso15417.{Set, before, A, B, C, sent}
use Rattle.paper.specs.Crate.{letters}
use Rattle.paper.proofs.Computes.{crate_computes}
use Rattle.helpers.proofs.Same.{as_same}
use Rattle.speller.specs.declared.Said.{Said}
use Rattle.speller.specs.declared.Said.TheVariants.{Nothing, One, Two}
use Rattle.speller.specs.Walked.{said_of, runs_of, own_of}

pub said_short : {T : Type 0} → (x : Said T) → length (said_of x) ≤ 2
unfolding said_of
said_short Nothing = omega arith
said_short (One a) = omega arith
said_short (Two a b) = omega arith

-- ---- the letters of a number: its own letter, or else what is sent

-- the first list, or the second where the first is empty
abbrev pub or_else : List ℕ → List ℕ → List ℕ
or_else [] ys = ys
or_else (x ∷ xs) ys = x ∷ xs

-- a number has such letters: one test, which antt computes at every number of a byte
abbrev is_own_or_sent : Set → ℕ → Bool
is_own_or_sent s m = same (letters s m) (or_else (own_of s m) (sent s m))

pub own_or_sent : (s : Set) (m : ℕ) → m < 256 → letters s m ≡ or_else (own_of s m) (sent s m)
unfolding crate_computes own_of runs_of
own_or_sent before m h = as_same _ _ (at (is_own_or_sent before) 256 tt m h)
own_or_sent A m h = as_same _ _ (at (is_own_or_sent A) 256 tt m h)
own_or_sent B m h = as_same _ _ (at (is_own_or_sent B) 256 tt m h)
own_or_sent C m h = as_same _ _ (at (is_own_or_sent C) 256 tt m h)
