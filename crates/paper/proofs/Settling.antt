-- The laws of settling, for all inputs, refused ones too.
-- Assumes nothing.
use mathlib.Core.Path.{◌≡◌, refl, sym, ap, ◌∙◌}
use mathlib.Core.Bool.{Bool, true, false, ◌||◌}
use mathlib.Core.List.{List, [], ◌∷◌, ◌++◌, append-nil, append_assoc}
use Prim.Native.Nat.{ℕ, ◌+◌}
use native.Mathlib.Omega.{arith}
use lib.Dec.{eqb}
use borrow.Author.Tests.{eqb-true}
use Rattle.std.specs.Prelude.{if◌then◌else◌}
use Rattle.paper.specs.Crate.{À, Ɓ, Ć, Ź, digit}
use Rattle.paper.specs.Settle.{Position, outside, between, halfway, switched, moved, added, left_over, settle_from, settle, splits, inside_from, inside, occurrences, withoutŹ}
use Rattle.helpers.proofs.Answering.{true_not_false}

-- ---- one turn

-- what holds of the hand before and of both hands outside a pair holds of the hand that a code
-- point names
pub switched_case : (P : Position → Type 0) (h : Position) (c : ℕ) → P outside → P between → P h → P (switched h c)
unfolding switched
switched_case P h c p q r = go (eqb c Ć) (eqb c À) (eqb c Ɓ)
  where
    go : (a b d : Bool) → P (if a then between else if b then outside else if d then outside else h)
    go true b d = q
    go false true d = p
    go false false true = p
    go false false false = r

left_over_switched : (h : Position) (c : ℕ) → left_over h ≡ [] → left_over (switched h c) ≡ []
unfolding left_over
left_over_switched h c e = switched_case (λ (g : Position). left_over g ≡ []) h c refl refl e

-- either nothing changes its place, or a Ź goes ahead of a digit
data Turn (h : Position) (c : ℕ) : Type 0 where
  stays : added h c ++ left_over (moved h c) ≡ left_over h ++ (c ∷ []) → Turn h c
  swaps : (d : ℕ) → h ≡ halfway d → c ≡ Ź → Turn h c

turn : (h : Position) (c : ℕ) → Turn h c
unfolding added left_over moved
turn outside c = stays (rw (left_over_switched outside c refl))
turn between c = go (digit c) refl
  where
    go : (b : Bool) → digit c ≡ b → Turn between c
    go true e = stays (rw e)
    go false e = stays (rw (e, left_over_switched between c refl))
turn (halfway d) c = go (eqb c Ź) refl
  where
    go : (b : Bool) → eqb c Ź ≡ b → Turn (halfway d) c
    go true e = swaps d refl (eqb-true c Ź e)
    go false e = stays (rw (e, left_over_switched between c refl))

-- ---- what does not change

-- settling keeps all that is counted or gathered piece by piece and is the same for a digit and a Ź
-- as for the Ź and the digit
module _ {M : Type 0} (f : List ℕ → M) (join : M → M → M) (joins : (a b : List ℕ) → f (a ++ b) ≡ join (f a) (f b))
    (swap : (d : ℕ) → f (Ź ∷ d ∷ []) ≡ f (d ∷ Ź ∷ [])) where
  turn_keeps : (h : Position) (c : ℕ) → Turn h c → f (added h c ++ left_over (moved h c)) ≡ f (left_over h ++ (c ∷ []))
  unfolding added left_over moved
  turn_keeps h c (stays e) = ap f e
  turn_keeps h c (swaps d e z) = rw (e, z) (swap d)

  keeps : (h : Position) (x : List ℕ) → f (settle_from h x) ≡ f (left_over h ++ x)
  unfolding settle_from
  keeps h [] = ap f (sym (append-nil (left_over h)))
  keeps h (c ∷ cs) =
      joins (added h c) (settle_from (moved h c) cs)
      ∙ ap (join (f (added h c))) (keeps (moved h c) cs)
      ∙ sym (joins (added h c) (left_over (moved h c) ++ cs))
      ∙ ap f (sym (append_assoc (added h c) (left_over (moved h c)) cs))
      ∙ joins (added h c ++ left_over (moved h c)) cs
      ∙ ap (λ (m : M). join m (f cs)) (turn_keeps h c (turn h c))
      ∙ sym (joins (left_over h ++ (c ∷ [])) cs)
      ∙ ap f (append_assoc (left_over h) (c ∷ []) cs)

pub occurrences_append : (c : ℕ) (a b : List ℕ) → occurrences c (a ++ b) ≡ occurrences c a + occurrences c b
unfolding occurrences
occurrences_append c [] b = omega arith
occurrences_append c (x ∷ a) b = omega (arith, occurrences_append c a b)

pub settle_keeps : (c : ℕ) (x : List ℕ) → occurrences c (settle x) ≡ occurrences c x
unfolding settle left_over occurrences
settle_keeps c x = keeps (occurrences c) ◌+◌ (occurrences_append c) (λ d. omega arith) outside x

without_append : (a b : List ℕ) → withoutŹ (a ++ b) ≡ withoutŹ a ++ withoutŹ b
unfolding withoutŹ
without_append [] b = refl
without_append (x ∷ a) b = rw (without_append a b, append_assoc)

pub settle_order : (x : List ℕ) → withoutŹ (settle x) ≡ withoutŹ x
unfolding settle left_over withoutŹ
settle_order x = keeps withoutŹ ◌++◌ without_append (λ d. refl) outside x

-- ---- where no Ź stands inside a pair

or_false : (a b : Bool) → (a || b) ≡ false → (a ≡ false) × (b ≡ false)
or_false true b e = true_not_false e
or_false false b e = (refl, e)

turn_still : (h : Position) (c : ℕ) → Turn h c → splits h c ≡ false → added h c ++ left_over (moved h c) ≡ left_over h ++ (c ∷ [])
unfolding splits
turn_still h c (stays e) q = e
turn_still h c (swaps d e z) q = true_not_false (rw (e, z) at q)

still : (h : Position) (x : List ℕ) → inside_from h x ≡ false → settle_from h x ≡ left_over h ++ x
unfolding inside_from settle_from
still h [] e = sym (append-nil (left_over h))
still h (c ∷ cs) e =
    let both = or_false _ _ e in
    ap (◌++◌ (added h c)) (still (moved h c) cs both.1)
    ∙ sym (append_assoc (added h c) (left_over (moved h c)) cs)
    ∙ ap (λ (l : List ℕ). l ++ cs) (turn_still h c (turn h c) both.0)
    ∙ append_assoc (left_over h) (c ∷ []) cs

pub settle_still : (x : List ℕ) → inside x ≡ false → settle x ≡ x
unfolding settle inside left_over
settle_still x e = still outside x e

-- ---- what settling writes, gone through again

-- where one stands before the digit that left_over
base : Position → Position
base outside = outside
base between = between
base (halfway d) = between

-- only digits wait
abbrev Held : Position → Type 0
Held outside = Unit {0}
Held between = Unit {0}
Held (halfway d) = digit d ≡ true

-- these code points lead from one hand to the other and no Ź of them stands inside a pair
abbrev Through : Position → List ℕ → Position → Type 0
Through g [] h = g ≡ h
Through g (c ∷ cs) h = (splits g c ≡ false) × Through (moved g c) cs h

through_quiet : (g h : Position) (a b : List ℕ) → Through g a h → inside_from h b ≡ false → inside_from g (a ++ b) ≡ false
unfolding inside_from
through_quiet g h [] b t e = rw t e
through_quiet g h (c ∷ a) b t e = rw t.0 (through_quiet (moved g c) h a b t.1 e)

base_named : (h : Position) (c : ℕ) → base h ≡ h → base (switched h c) ≡ switched h c
unfolding base
base_named h c e = switched_case (λ (g : Position). base g ≡ g) h c refl refl e

held_named : (h : Position) (c : ℕ) → Held h → Held (switched h c)
held_named h c k = switched_case Held h c tt tt k

again : (h : Position) (c : ℕ) → Held h → Through (base h) (added h c) (base (moved h c)) × Held (moved h c)
unfolding base added moved splits switched digit
again outside c k = ((refl, sym (base_named outside c refl)), held_named outside c tt)
again between c k = go (digit c) refl
  where
    go : (b : Bool) → digit c ≡ b → Through between (added between c) (base (moved between c)) × Held (moved between c)
    go true e = rw e (refl, e)
    go false e = rw e ((refl, rw (e, base_named between c refl)), held_named between c tt)
again (halfway d) c k = go (eqb c Ź) refl
  where
    go : (b : Bool) → eqb c Ź ≡ b → Through between (added (halfway d) c) (base (moved (halfway d) c)) × Held (moved (halfway d) c)
    go true e = rw e ((refl, rw (eqb-true c Ź e)), k)
    go false e = rw e ((refl, rw k (e, rw e (sym (base_named between c refl)))), held_named between c tt)

waits_quiet : (h : Position) → inside_from (base h) (left_over h) ≡ false
unfolding base left_over inside_from splits
waits_quiet outside = refl
waits_quiet between = refl
waits_quiet (halfway d) = refl

quiet : (h : Position) (x : List ℕ) → Held h → inside_from (base h) (settle_from h x) ≡ false
unfolding settle_from
quiet h [] k = waits_quiet h
quiet h (c ∷ cs) k =
    let both = again h c k in
    through_quiet (base h) (base (moved h c)) (added h c) (settle_from (moved h c) cs) both.0 (quiet (moved h c) cs both.1)

pub settle_quiet : (x : List ℕ) → inside (settle x) ≡ false
unfolding settle inside base
settle_quiet x = quiet outside x tt

pub settle_once : (x : List ℕ) → settle (settle x) ≡ settle x
settle_once x = settle_still (settle x) (settle_quiet x)
