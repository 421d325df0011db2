-- What every job owes its caller, from what is shown of one job: the numbers that it refuses by,
-- that its output fits, and its largest output.
-- Assumes nothing.
use mathlib.Core.Path.{◌≡◌, refl, sym, ap, ◌∙◌, subst}
use mathlib.Core.Logic.{◌≢◌, inl, inr}
use mathlib.Core.Bool.{Bool, true, false}
use mathlib.Core.List.{List, [], ◌∷◌}
use Prim.Native.Nat.{ℕ, suc, ◌≤◌}
use native.Mathlib.Omega.{arith}
use lib.Dec.{leb}
use lib.ListN.{length, length-append, length-drop}
use Rattle.std.specs.Prelude.{if◌then◌else◌}
use Rattle.helpers.specs.Answers.{Each, Answer, refuse, accept, Accepted, Test, refuses, passes, ◌then◌, ask, every, into, number, after, Gave}
use Rattle.helpers.specs.Owes.{OneOf, Owes}

-- ---- of one answer

pub one_result : (a : Answer) (k m : ℕ) (buf out : List ℕ) (k' m' : ℕ) (out' : List ℕ)
    → Gave a k m buf out → Gave a k' m' buf out' → (k ≡ k') × (m ≡ m') × (out ≡ out')
one_result a k m buf out k' m' out' g h =
    (g.gave_number ∙ sym h.gave_number, g.gave_second ∙ sym h.gave_second, g.gave_buffer ∙ sym h.gave_buffer)

pub refusal_keeps : (a : Answer) (k m : ℕ) (buf out : List ℕ) → Gave a k m buf out → k ≢ 0 → out ≡ buf
unfolding number after
refusal_keeps (refuse j l) k m buf out g h = g.gave_buffer
refusal_keeps (accept n o) k m buf out g h = absurd (h g.gave_number)

stays_case : (a : Answer) (k m : ℕ) (buf out : List ℕ) → ((n : ℕ) (o : List ℕ) → a ≡ accept n o → length o ≤ length buf) → Gave a k m buf out → length out ≡ length buf
unfolding after
stays_case (refuse j l) k m buf out f g = ap length g.gave_buffer
stays_case (accept n o) k m buf out f g =
    let fits : length o ≤ length buf = f n o refl in
    ap length g.gave_buffer ∙ simp (length-append, length-drop) (omega arith)

-- ---- refusals of a list

-- a test, an answer: if it refuses, then by one of these numbers
abbrev pub TestBy : List ℕ → Test → Type 0
TestBy ks (refuses k m) = OneOf k ks
TestBy ks passes = Unit {0}

abbrev pub By : List ℕ → Answer → Type 0
By ks (refuse k m) = OneOf k ks
By ks (accept n out) = Unit {0}

module _ (ks : List ℕ) where
  pub by_if : (b : Bool) (s t : Test) → TestBy ks s → TestBy ks t → TestBy ks (if b then s else t)
  by_if true s t p q = p
  by_if false s t p q = q

  pub by_then : (t : Test) (a : Answer) → TestBy ks t → By ks a → By ks (t then a)
  unfolding ◌then◌
  by_then (refuses k m) a p q = p
  by_then passes a p q = q

  pub by_ask : (b : Bool) (k m : ℕ) → OneOf k ks → TestBy ks (ask b k m)
  unfolding ask
  by_ask true k m p = tt
  by_ask false k m p = p

  pub by_every : (f : ℕ → Bool) (k at : ℕ) (xs : List ℕ) → OneOf k ks → TestBy ks (every f k at xs)
  unfolding every
  by_every f k at [] p = tt
  by_every f k at (x ∷ xs) p = by_if (f x) (every f k (suc at) xs) (refuses k at) (by_every f k (suc at) xs p) p

  by_fits : (b : Bool) (n : ℕ) (out : List ℕ) → OneOf 5 ks → By ks (if b then accept n out else refuse 5 (length out))
  by_fits true n out p = tt
  by_fits false n out p = p

  pub by_into : (room : ℕ) (a : Answer) → OneOf 5 ks → By ks a → By ks (into room a)
  unfolding into
  by_into room (refuse k m) p q = q
  by_into room (accept n out) p q = by_fits (leb (length out) room) n out p

-- ---- 0 is an acceptance

none_zero : (ks : List ℕ) → Each (λ k. 1 ≤ k) ks → OneOf 0 ks → ⊥
none_zero [] p q = q
none_zero (k ∷ ks) p (inl e) = let h = p.0 in omega arith
none_zero (k ∷ ks) p (inr q) = none_zero ks p.1 q

zero_case : (ks : List ℕ) (a : Answer) (m : ℕ) (buf out : List ℕ) → Each (λ k. 1 ≤ k) ks → By ks a → Gave a 0 m buf out → Accepted a
unfolding number
zero_case ks (refuse k l) m buf out p q g = none_zero ks p (rw g.gave_number q)
zero_case ks (accept n o) m buf out p q g = tt

-- ---- of a job

pub owes : (job : ℕ → List ℕ → Answer) (ks : List ℕ) (largest : ℕ) → Each (λ k. 1 ≤ k) ks
    → ((room : ℕ) (x : List ℕ) → By ks (job room x))
    → ((room : ℕ) (x : List ℕ) (n : ℕ) (out : List ℕ) → job room x ≡ accept n out → length out ≤ room)
    → ((room : ℕ) (x : List ℕ) (n : ℕ) (out : List ℕ) → job room x ≡ accept n out → length out ≤ largest)
    → Owes job ks largest
owes job ks largest positive by fits most =
    record {
      refused_by = λ room x k m e. subst (λ (a : Answer). By ks a) e (by room x);
      zero_accepts = λ x m buf out g. zero_case ks (job (length buf) x) m buf out positive (by (length buf) x) g;
      refusal_keeps = refusal_keeps;
      output_fits = fits;
      buffer_stays = λ x k m buf out g. stays_case (job (length buf) x) k m buf out (fits (length buf) x) g;
      memory_limit = most;
      one_result = one_result;
    }
