-- Read's tests one after the other: what each part of the reader says of the whole answer.
-- Assumes nothing.
use Prim.Native.Nat.{ℕ, ◌+◌, ◌<◌, ◌≤◌}
use mathlib.Core.Path.{◌≡◌, refl, ◌∙◌}
use mathlib.Core.List.{List, []}
use lib.ListN.{length, get_or, take}
use lib.Seq.{sets, take_all}
use borrow.Author.Tests.{lt-leb, eq-eqb, ne_eqb}
use Rattle.std.specs.Prelude.{Result, Ok, Err}
use Rattle.std.specs.Borrow.{Bor}
use Rattle.helpers.specs.Answers.{refuse, accept, refuses, passes, ◌then◌, ask, into, Gave}
use Rattle.paper.specs.Iso15417.{check}
use Rattle.paper.specs.Jobs.{most, blocks_from, looked, read}
use Rattle.helpers.proofs.Answering.{into_refuse, into_room}
use Rattle.paper.proofs.Reading.{judged}
use Rattle.helpers.specs.declared.Refusal.{Refusal}
use Rattle.helpers.specs.Numbers.{refusal_number, refusal_second, number_of, second_of}
use Rattle.helpers.specs.Terms.{answers}
use Rattle.shapes.specs.Vetted.{shaped}
use Rattle.helpers.proofs.Gives.{stored, said_refused}
use Rattle.shapes.proofs.Shaping.{row_refused, row_passed}
use Rattle.reader.specs.Parts.{walk_of, tested, stop_asked, check_asked, with_symbols, Judged}

-- ---- the check

module _ (s : List ℕ) (m r : ℕ) (h : length s ≤ most) (e : r ≡ check (take most s)) where
  whole : r ≡ check s
  whole = e ∙ rw (take_all most s h) refl

  pub check_wrong : (m ≡ r → ⊥) → refuses 14 r ≡ check_asked s m
  unfolding check_asked ask
  check_wrong d = rw (← whole, ne_eqb m r d) refl

  pub check_right : m ≡ r → passes ≡ check_asked s m
  unfolding check_asked ask
  check_right d = rw (← whole, eq-eqb m r d) refl

-- ---- one part after the other

-- a refusal of a part is read's
judge_refused : {cs : List ℕ} (r : Refusal) → ((room : ℕ) → read room cs ≡ refuse (refusal_number r) (refusal_second r)) → Judged cs (Err r)
unfolding with_symbols into
judge_refused r h = record { judged = h }

module _ (cs : List ℕ) where
  pub judge_shape : {v : Result ℕ Refusal} {r : Refusal} → v ≡ Err r → answers v ≡ shaped cs → Judged cs (Err r)
  unfolding read
  judge_shape {r} e h = judge_refused r (λ room. row_refused cs room _ _ _ (said_refused e h))

  -- a list l that has room for as many numbers as the shape says
  module _ {n m : ℕ} (e : shaped cs ≡ accept n []) (all : m ≡ n + 1) (l : List ℕ) where
    on : (room : ℕ) → read room cs ≡ into room (looked (blocks_from m 0 cs) (judged n cs))
    unfolding read
    on room = rw all (row_passed cs room _ n e)

    pub judge_blocks : {r : Refusal} → walk_of (Err r) l ≡ blocks_from m 0 cs → Judged cs (Err r)
    unfolding walk_of looked
    judge_blocks {r} q = judge_refused r (λ room. on room ∙ rw (← q) (into_refuse room _ _))

    module _ (q : walk_of (Ok tt) l ≡ blocks_from m 0 cs) where
      on_end : (room : ℕ) → read room cs ≡ into room (stop_asked cs then (check_asked (take n l) (get_or l n 0) then accept n (take n l)))
      unfolding walk_of looked stop_asked check_asked
      on_end room = on room ∙ rw (← q) refl

      pub judge_stop : {r : Refusal} → tested (Err r) ≡ stop_asked cs → Judged cs (Err r)
      unfolding tested ◌then◌
      judge_stop {r} s = judge_refused r (λ room. on_end room ∙ rw (← s) (into_refuse room _ _))

      module _ (s : tested (Ok tt) ≡ stop_asked cs) where
        pub judge_check : {r : Refusal} → tested (Err r) ≡ check_asked (take n l) (get_or l n 0) → Judged cs (Err r)
        unfolding tested ◌then◌
        judge_check {r} t = judge_refused r (λ room. on_end room ∙ rw (← s, ← t) (into_refuse room _ _))

        pub judge_done : (b : Bor (List ℕ)) → tested (Ok tt) ≡ check_asked (take n l) (get_or l n 0) → b.now ≡ take n l → n ≡ length (take n l) → Judged cs (Ok b)
        unfolding tested ◌then◌ with_symbols
        judge_done b t h k = record { judged = λ room. on_end room ∙ rw (← s, ← t, h, ← k) refl }

-- ---- read, once all but the room is judged

module _ {cs : List ℕ} {v : Result (Bor (List ℕ)) Refusal} (j : Judged cs v) where
  pub read_refused : {r : Refusal} (room : ℕ) → v ≡ Err r → read room cs ≡ refuse (refusal_number r) (refusal_second r)
  unfolding with_symbols
  read_refused room e = j.judged room ∙ rw e (into_refuse room _ _)

  module _ {b : Bor (List ℕ)} (e : v ≡ Ok b) where
    done : (room : ℕ) → read room cs ≡ into room (accept (length b.now) b.now)
    unfolding with_symbols
    done room = j.judged room ∙ rw e refl

    pub read_short : (room : ℕ) → room < length b.now → read room cs ≡ refuse 5 (length b.now)
    unfolding into
    read_short room h = done room ∙ rw (lt-leb (length b.now) room h) refl

    -- the symbols are stored
    pub read_stored : (buf out : List ℕ) → length b.now ≤ length buf → out ≡ sets buf 0 b.now → Gave (read (length buf) cs) (number_of (Ok (length b.now))) (second_of (Ok (length b.now))) buf out
    read_stored buf out h f = stored (length b.now) b.now (done (length buf) ∙ into_room (length buf) (length b.now) b.now h) h f
