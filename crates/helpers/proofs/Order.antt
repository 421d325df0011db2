-- Tests in order, and the room asked last.
-- Assumes nothing.
use mathlib.Core.Path.{◌≡◌, refl, ap, ◌∙◌}
use mathlib.Core.Bool.{Bool, true, false}
use mathlib.Core.List.{List, [], ◌∷◌}
use Prim.Native.Nat.{ℕ}
use lib.Dec.{leb}
use lib.ListN.{length}
use Rattle.std.specs.Prelude.{if◌then◌else◌}
use Rattle.helpers.specs.Answers.{Answer, refuse, accept, Test, refuses, passes, ◌then◌, ask, into}
use Rattle.helpers.specs.Order.{in_order, room_for}

into_then : (room : ℕ) (t : Test) (a : Answer) → into room (t then a) ≡ (t then into room a)
unfolding into ◌then◌
into_then room (refuses k m) a = refl
into_then room passes a = refl

-- the room is asked after all tests
pub into_order : (room : ℕ) (ts : List Test) (a : Answer) → into room (in_order ts a) ≡ in_order ts (into room a)
unfolding in_order
into_order room [] a = refl
into_order room (t ∷ ts) a = into_then room t (in_order ts a) ∙ ap (λ (b : Answer). t then b) (into_order room ts a)

asked_5 : (b : Bool) (n l : ℕ) (out : List ℕ) → (if b then accept n out else refuse 5 l) ≡ (ask b 5 l then accept n out)
unfolding ask ◌then◌
asked_5 true n l out = refl
asked_5 false n l out = refl

-- of what is accepted, by 5
pub into_room_for : (room n : ℕ) (out : List ℕ) → into room (accept n out) ≡ (room_for room out then accept n out)
unfolding into room_for
into_room_for room n out = asked_5 (leb (length out) room) n (length out) out

-- so tests that end with an acceptance have 5 as the last of them
pub into_order_accept : (room : ℕ) (ts : List Test) (n : ℕ) (out : List ℕ) → into room (in_order ts (accept n out)) ≡ in_order ts (room_for room out then accept n out)
into_order_accept room ts n out = into_order room ts (accept n out) ∙ ap (in_order ts) (into_room_for room n out)
