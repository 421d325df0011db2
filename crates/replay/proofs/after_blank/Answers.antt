-- `replay::after_blank` meets its contract: the last part of a line that is split is its end.
-- Assumes nothing.
use mathlib.Core.Path.{refl, sym, ◌∙◌}
use Rattle.std.proofs.lemmas.List.{append_assoc}
use Rattle.std.proofs.Common.{ℕ, List, ◌≡◌, ◌++◌, Bool, true, false, [], ◌∷◌, Bor}
use Rattle.std.specs.Prelude.{Option, Some, None, MatchOption, MatchBool, unwrap_or}
use Rattle.replay.proofs.after_blank.Goals as goal

-- the last part of a list: all of it, or what follows the last element that parts it
last_part : (l : List ℕ) (all : Bool) (rest x : List ℕ) → MatchBool all (l ≡ x) ((y : ℕ) × (l ≡ rest ++ (y ∷ x))) → (front : List ℕ) × (l ≡ front ++ x)
last_part l true rest x e = ([], e)
last_part l false rest x (y, e) = (rest ++ (y ∷ []), e ∙ sym (append_assoc rest (y ∷ []) x))

or_all : (N : Type 0) (S : Bor (List ℕ) → Type 0) (line : Bor (List ℕ)) (o : Option (Bor (List ℕ))) → MatchOption o N S
    → ((x : Bor (List ℕ)) → S x → (front : List ℕ) × (line.now ≡ front ++ x.now)) → (front : List ℕ) × (line.now ≡ front ++ (unwrap_or o line).now)
or_all N S line None m f = ([], refl)
or_all N S line (Some x) m f = f x m

pub returns : goal.returns
returns c =
    rw c.unwrap_or.ensures (or_all _ _ c.args.line c.next.result c.next.ensures.steps (λ x s. rw c.rsplit.ensures.rest at (last_part _ _ _ _ s.1)))
