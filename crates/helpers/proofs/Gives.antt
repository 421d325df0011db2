-- A job's promise, made: by an answer that wrote nothing, handed on, or by an acceptance whose
-- output was stored from place 0 on.
-- Assumes nothing.
use Prim.Native.Nat.{ℕ, ◌+◌, ◌-◌, ◌≤◌}
use mathlib.Core.Path.{◌≡◌, refl, sym, ap, ◌∙◌}
use mathlib.Core.List.{List, [], ◌∷◌, ◌++◌}
use native.Mathlib.Omega.{arith}
use lib.ListN.{length, set, take, length-append}
use borrow.Rule.Slice.PartMut.{mid_of, put_mid}
use lib.Seq.{sets, length-sets}
use Rattle.helpers.specs.Answers as Paper
use Rattle.helpers.specs.Answers.{refuse, accept, number, second, after, Gave}
use Rattle.helpers.specs.declared.Refusal.{Refusal}
use Rattle.std.specs.Prelude.{Result, Ok, Err, IsErrAnd}
use Rattle.std.proofs.lemmas.Result.{err_from_is_err_and}
use Rattle.helpers.specs.Numbers.{refusal_number, refusal_second, number_of, second_of}
use Rattle.helpers.specs.Terms.{answers, bare, Stored}
use Rattle.helpers.proofs.Answering.{refuse_not_accept, accept_number}
use Rattle.helpers.proofs.Writes.{sets_then, sets_front, sets_prefix}
use Rattle.helpers.proofs.Part.{part_stored}

-- ---- a job's promise

-- the job's answer is this refusal, and nothing was written
pub refused : {a : Paper.Answer} {buf : List ℕ} (r : Refusal) → a ≡ refuse (refusal_number r) (refusal_second r) → Gave a (number_of (Err r)) (second_of (Err r)) buf buf
unfolding number second after number_of second_of
refused {a} {buf} r e = record { gave_number = rw e; gave_second = rw e; gave_buffer = rw e }

-- the job's answer is the output, stored from place 0 on
pub stored : {a : Paper.Answer} {buf m : List ℕ} (n : ℕ) (out : List ℕ) → a ≡ accept n out → length out ≤ length buf → m ≡ sets buf 0 out
    → Gave a (number_of (Ok n)) (second_of (Ok n)) buf m
unfolding number second after number_of second_of
stored {a} {buf} {m} n out e h f = record { gave_number = rw e; gave_second = rw e; gave_buffer = f ∙ sets_front buf out h ∙ rw e }

-- the job's answer is what a callee answered, which wrote nothing
pub handed_on : {a : Paper.Answer} {buf : List ℕ} (v : Result ℕ Refusal) → answers v ≡ a → Gave a (number_of v) (second_of v) buf buf
unfolding answers number second after number_of second_of
handed_on (Ok n) e = rw (← e) (record { gave_number = refl; gave_second = refl; gave_buffer = refl })
handed_on (Err r) e = refused r (sym e)

-- what a callee answered, by cases
pub said_refused : {v : Result ℕ Refusal} {r : Refusal} {x : Paper.Answer} → v ≡ Err r → answers v ≡ x → x ≡ refuse (refusal_number r) (refusal_second r)
unfolding answers
said_refused {r} e h = sym h ∙ rw e

pub said_done : {v : Result ℕ Refusal} {n : ℕ} {x : Paper.Answer} → v ≡ Ok n → answers v ≡ x → x ≡ accept n []
unfolding answers
said_done e h = sym h ∙ rw e

-- what `?` hands on is a callee's refusal, which is the job's
pub refused_through : {a : Paper.Answer} {buf : List ℕ} (r : Refusal) (v : Result ℕ Refusal) → IsErrAnd v (λ x. x ≡ r) → a ≡ refuse (refusal_number r) (refusal_second r)
    → Gave a (number_of v) (second_of v) buf buf
refused_through r v i e = let p = err_from_is_err_and v i in rw (p.1, p.2) (refused _ e)

-- ---- an answer without its output, and the answer

pub bare_refuse : (a : Paper.Answer) (k m : ℕ) → bare a ≡ refuse k m → a ≡ refuse k m
unfolding bare
bare_refuse (refuse j l) k m e = e
bare_refuse (accept n out) k m e = refuse_not_accept (sym e)

pub bare_accept : (a : Paper.Answer) (n : ℕ) → bare a ≡ accept n [] → (out : List ℕ) × (a ≡ accept n out)
unfolding bare
bare_accept (refuse j l) n e = refuse_not_accept e
bare_accept (accept j out) n e = (out, ap (λ (k : ℕ). accept k out) (accept_number e))

-- ---- elements stored one after the other

pub stored_one : {out : List ℕ} {at v : ℕ} → Stored (v ∷ []) out at (set out at v) (at + 1)
stored_one = record { stored = refl; next = refl }

pub stored_at : (vs out out' : List ℕ) (at r : ℕ) → out' ≡ sets out at vs → r ≡ at + length vs → Stored vs out at out' r
stored_at vs out out' at r e h = record { stored = e; next = h }

pub stored_then : {a b out out' out'' : List ℕ} {at k r : ℕ} → Stored a out at out' k → Stored b out' k out'' r → Stored (a ++ b) out at out'' r
stored_then {a} {b} {out} {out'} {out''} {at} {k} {r} p q =
    record {
      stored = q.stored ∙ ap (λ (l : List ℕ). sets l k b) p.stored ∙ sets_then a b out at k p.next;
      next = omega (arith, p.next, q.next, length-append a b);
    }

-- what was stored at the front stands there
pub stored_front : {vs buf out : List ℕ} {r : ℕ} → Stored vs buf 0 out r → r ≤ length buf → (n : ℕ) → n ≡ r → take n out ≡ vs
stored_front {vs} {buf} {out} {r} p h n e =
    let long : n ≡ length vs = omega (arith, p.next) in
    ap (take n) p.stored ∙ sets_prefix buf vs n long (omega (arith, p.next))

-- ---- parts of a list, stored one after the other

pub nothing_stored : {l : List ℕ} → Stored [] l 0 l 0
nothing_stored = record { stored = refl; next = refl }

module _ {vs l l' : List ℕ} {a : ℕ} (p : Stored vs l 0 l' a) where
  pub stored_length : length l' ≡ length l
  stored_length = ap length p.stored ∙ length-sets l 0 vs

  -- the next part, to place e
  pub part_then : {m : List ℕ} (b : List ℕ) (e : ℕ) → e ≡ a + length b → e ≤ length l → m ≡ sets (mid_of a (e - a) l') 0 b → Stored (vs ++ b) l 0 (put_mid a (e - a) l' m) e
  part_then {m} b e h k f = stored_then p (stored_at b l' _ a e (part_stored l' m b a e (omega arith) (omega (arith, stored_length)) (omega arith) f) h)
