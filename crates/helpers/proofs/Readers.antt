-- The law of a reader over its writer, from what is shown of one symbology.
-- Assumes nothing.
use Prim.Native.Nat.{ℕ}
use mathlib.Core.Path.{◌≡◌, refl, sym, ap, ◌∙◌}
use mathlib.Core.Logic.{◌≢◌}
use mathlib.Core.Bool.{Bool, true, false}
use mathlib.Core.List.{List}
use native.Mathlib.Omega.{arith}
use lib.Dec.{leb}
use lib.ListN.{length}
use Rattle.std.specs.Prelude.{if◌then◌else◌}
use Rattle.helpers.specs.Answers.{Answer, refuse, accept, ◌then◌, ask, whole, into}
use Rattle.helpers.specs.Readers.{gives, read_back, ReadsBack}
use Rattle.helpers.proofs.Answering.{true_not_false, refuse_not_accept, then_accept, ask_passes, into_accept, into_room, whole_accept}
use Rattle.helpers.proofs.Same.{same_true, same_refl}

-- an answer that gives an output is an acceptance of it
pub gives_accept : (a : Answer) (out : List ℕ) → gives a out ≡ true → (m : ℕ) × (a ≡ accept m out)
unfolding gives
gives_accept (refuse k m) out e = true_not_false (sym e)
gives_accept (accept n o) out e = (n, ap (accept n) (same_true o out e))

pub accept_gives : (a : Answer) (m : ℕ) (out : List ℕ) → a ≡ accept m out → gives a out ≡ true
unfolding gives
accept_gives a m out e = rw e (same_refl out)

-- an accepted output, asked for room, is not refused by 33
room_case : {X : Type 0} (b : Bool) (n l m : ℕ) (out : List ℕ) → (if b then accept n out else refuse 5 l) ≡ refuse 33 m → X
room_case true n l m out e = refuse_not_accept (sym e)
room_case false n l m out e = absurd (let z : ◌≡◌ {A = ℕ} 5 33 = cc in omega arith)

not_33 : {X : Type 0} (room m : ℕ) (out : List ℕ) → into room (whole out) ≡ refuse 33 m → X
unfolding into whole
not_33 room m out e = room_case (leb (length out) room) (length out) (length out) m out e

-- a reader's answer, by its one test
asked : Bool → ℕ → List ℕ → Answer
asked b room t = into room (ask b 33 0 then whole t)

asked_true : (room : ℕ) (t : List ℕ) → asked true room t ≡ into room (whole t)
unfolding asked ask ◌then◌
asked_true room t = refl

asked_false : (room : ℕ) (t : List ℕ) → asked false room t ≡ refuse 33 0
unfolding asked ask ◌then◌ into
asked_false room t = refl

-- ---- of one symbology

module _ (plain : List ℕ → Answer) (text_of full : List ℕ → List ℕ)
    (one_text : (x : List ℕ) (n : ℕ) (row : List ℕ) → plain x ≡ accept n row → text_of row ≡ full x)
    (full_written : (x : List ℕ) (n : ℕ) (row : List ℕ) → plain x ≡ accept n row → plain (full x) ≡ accept n row) where
  abbrev write : ℕ → List ℕ → Answer
  write room x = into room (plain x)

  abbrev given : List ℕ → Bool
  given row = gives (write (length row) (text_of row)) row

  by_test : (room : ℕ) (row : List ℕ) → read_back write text_of room row ≡ asked (given row) room (text_of row)
  unfolding read_back asked
  by_test room row = refl

  written_given : (room : ℕ) (x : List ℕ) (n : ℕ) (row : List ℕ) → write room x ≡ accept n row → (given row ≡ true) × (text_of row ≡ full x)
  written_given room x n row e =
      let p = (into_accept room (plain x) e).0 in
      let text = one_text x n row p in
      let again = ap (into (length row)) (ap plain text ∙ full_written x n row p) ∙ into_room (length row) n row (omega arith) in
      (accept_gives (write (length row) (text_of row)) n row again, text)

  written_read : (room room' : ℕ) (x : List ℕ) (n : ℕ) (row : List ℕ) → write room' x ≡ accept n row → read_back write text_of room row ≡ into room (whole (full x))
  written_read room room' x n row e =
      let both = written_given room' x n row e in
      by_test room row ∙ ap (λ (b : Bool). asked b room (text_of row)) both.0 ∙ asked_true room (text_of row) ∙ ap (λ (t : List ℕ). into room (whole t)) both.1

  read_written : (room : ℕ) (row : List ℕ) (n : ℕ) (t : List ℕ) → read_back write text_of room row ≡ accept n t
      → (n ≡ length t) × ((m : ℕ) × (write (length row) t ≡ accept m row))
  unfolding read_back
  read_written room row n t e =
      let tested = then_accept _ _ (into_accept room _ e).0 in
      let text = whole_accept (text_of row) tested.1 in
      let w = gives_accept (write (length row) (text_of row)) row (ask_passes _ _ _ tested.0) in
      (text.1, (w.0, ap (λ (x : List ℕ). write (length row) x) (sym text.0) ∙ w.1))

  refused_case : (b : Bool) (room m : ℕ) (row : List ℕ) → given row ≡ b → asked b room (text_of row) ≡ refuse 33 m
      → (m ≡ 0) × ((room' : ℕ) (x : List ℕ) (n : ℕ) → write room' x ≢ accept n row)
  refused_case true room m row g e = not_33 room m (text_of row) (sym (asked_true room (text_of row)) ∙ e)
  refused_case false room m row g e =
      (let z : refuse 33 0 ≡ refuse 33 m = sym (asked_false room (text_of row)) ∙ e in cc, λ room' x n w. true_not_false (sym (written_given room' x n row w).0 ∙ g))

  never_case : (b : Bool) (room : ℕ) (row : List ℕ) → given row ≡ b → ((room' : ℕ) (x : List ℕ) (n : ℕ) → write room' x ≢ accept n row)
      → asked b room (text_of row) ≡ refuse 33 0
  never_case true room row g f =
      let w = gives_accept (write (length row) (text_of row)) row g in
      absurd (f (length row) (text_of row) w.0 w.1)
  never_case false room row g f = asked_false room (text_of row)

  pub reads_back : ReadsBack write (read_back write text_of) full
  reads_back =
      record {
        never_written =
            λ room m row. (
              λ e. refused_case (given row) room m row refl (sym (by_test room row) ∙ e),
              λ p. by_test room row ∙ never_case (given row) room row refl p.1 ∙ ap (refuse 33) (sym p.0),
            );
        written_read = written_read;
        read_written = read_written;
      }
