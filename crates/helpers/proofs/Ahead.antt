-- Numbers put ahead of what comes of the rest, one after the other: a parser's symbols, a row's
-- blocks, a line's code points.
-- Assumes nothing.
use Prim.Native.Nat.{ℕ}
use mathlib.Core.Path.{◌≡◌, refl, ap, ◌∙◌}
use mathlib.Core.List.{List, [], ◌∷◌, ◌++◌}

-- `put m r` is r with the number m ahead of it
module _ {X : Type 0} (put : ℕ → X → X) where
  unfoldable pub ahead : List ℕ → X → X
  ahead [] r = r
  ahead (m ∷ ms) r = put m (ahead ms r)

  pub ahead_one : (ms : List ℕ) (m : ℕ) (r : X) → ahead (ms ++ (m ∷ [])) r ≡ ahead ms (put m r)
  unfolding ahead
  ahead_one [] m r = refl
  ahead_one (k ∷ ms) m r = ap (put k) (ahead_one ms m r)

  -- what nothing can be put ahead of stays as it is
  pub ahead_stays : (r : X) → ((m : ℕ) → put m r ≡ r) → (ms : List ℕ) → ahead ms r ≡ r
  unfolding ahead
  ahead_stays r e [] = refl
  ahead_stays r e (m ∷ ms) = ap (put m) (ahead_stays r e ms) ∙ e m

  -- ahead of none they are what is made of them
  pub ahead_all : (make : List ℕ → X) → ((m : ℕ) (ms : List ℕ) → put m (make ms) ≡ make (m ∷ ms)) → (ms : List ℕ) → ahead ms (make []) ≡ make ms
  unfolding ahead
  ahead_all make e [] = refl
  ahead_all make e (m ∷ ms) = ap (put m) (ahead_all make e ms) ∙ e m ms
