-- What pack and unpack answer after the tests that write nothing.
-- Assumes nothing.
use Prim.Native.Nat.{ℕ, ◌+◌, ◌-◌, ◌*◌, ◌/◌, ◌<◌, ◌≤◌}
use mathlib.Core.Path.{◌≡◌, refl, sym, ap, ◌∙◌}
use mathlib.Core.List.{List, [], ◌++◌}
use native.Mathlib.Omega.{arith}
use lib.ListN.{length, take, drop, length-drop, length-append}
use lib.Seq.{sets, length-sets, length-take-le, take_all}
use borrow.Rule.Slice.PartMut.{mid_of, put_mid}
use borrow.Author.Tests.{leb-true, eqb-true}
use Rattle.helpers.specs.Answers.{Answer, refuse, accept, Test, refuses, passes, ◌then◌, whole, into}
use Rattle.helpers.proofs.Answering.{refuse_not_accept, accept_number, then_accept, ask_passes, into_refuse, into_room, into_short}
use Rattle.helpers.proofs.Part.{part_stored}
use Rattle.helpers.proofs.Writes.{sets_then, sets_front}
use Rattle.paper.specs.Jobs.{row_length, bytes, bytes_for, head, record_of, record_length, pack, unbytes, head_length, count_of, stored_cells, unpack}
use Rattle.paper.proofs.Bytes.{length_bytes, length_unbytes}
use Rattle.shapes.specs.Vetted.{shaped}
use Rattle.shapes.proofs.Shaping.{row_passed}
use Rattle.record.specs.Tested.{tested}
use Rattle.record.proofs.Counts.{length_needed}
use Rattle.record.proofs.Tests.{Sized, sized}

-- ---- pack, after `shape`

module _ (cs : List ℕ) (n : ℕ) where
  abbrev size : ℕ
  size = (length cs + 7) / 8

  abbrev pub packed : List ℕ
  packed = head n ++ bytes size cs

  module _ (sized : length cs ≡ 11 * n + 24) where
    pub length_packed : record_length n ≡ length packed
    length_packed = length_needed n ∙ omega (arith, length-append (head n) (bytes size cs), length_bytes size cs)

    -- the head stored, and then the bytes into what is behind it
    pub packed_stored : (start end : ℕ) (l m p : List ℕ) → start ≡ length (head n) → end ≡ record_length n → end ≤ length l → m ≡ sets l 0 (head n)
        → p ≡ sets (mid_of start (end - start) m) 0 (bytes size cs) → put_mid start (end - start) m p ≡ sets l 0 packed
    packed_stored start end l m p e f fits q r =
        let long : length m ≡ length l = ap length q ∙ length-sets l 0 (head n) in
        let needed = length_needed n in
        part_stored m p (bytes size cs) start end (omega arith) (omega arith) (omega (arith, length_bytes size cs)) r
        ∙ ap (λ (x : List ℕ). sets x start (bytes size cs)) q
        ∙ sets_then (head n) (bytes size cs) l 0 start (omega arith)

    module _ (room : ℕ) (e : shaped cs ≡ accept n []) where
      pack_on : pack room cs ≡ into room (accept (length packed) packed)
      unfolding pack whole record_of bytes_for
      pack_on = row_passed cs room _ n e

      pub pack_room : {needed : ℕ} → needed ≡ record_length n → room < needed → pack room cs ≡ refuse 5 needed
      pack_room {needed} f l = pack_on ∙ into_short room _ packed needed (omega (arith, length_packed)) (f ∙ length_packed)

      pub pack_done : {needed : ℕ} → needed ≡ record_length n → needed ≤ room → pack room cs ≡ accept needed packed
      pack_done f l = pack_on ∙ into_room room _ packed (omega (arith, length_packed)) ∙ ap (λ (k : ℕ). accept k packed) (sym (f ∙ length_packed))

-- ---- unpack, after `test`

-- the same tests before two answers: where they make x of the first, they make y of the second
module _ (x y : Answer) (refusal : (k m : ℕ) → refuse k m ≡ x → refuse k m ≡ y) where
  one_test : (t : Test) (a b : Answer) → (a ≡ x → b ≡ y) → (t then a) ≡ x → (t then b) ≡ y
  unfolding ◌then◌
  one_test (refuses k m) a b f e = refusal k m e
  one_test passes a b f e = f e

  three_tests : (t u v : Test) (a b : Answer) → (a ≡ x → b ≡ y) → (t then u then v then a) ≡ x → (t then u then v then b) ≡ y
  three_tests t u v a b f = one_test t _ _ (one_test u _ _ (one_test v a b f))

  six_tests : (t u v t' u' v' : Test) (a b : Answer) → (a ≡ x → b ≡ y)
      → (t then u then v then t' then u' then v' then a) ≡ x → (t then u then v then t' then u' then v' then b) ≡ y
  six_tests t u v t' u' v' a b f = three_tests t u v _ _ (three_tests t' u' v' a b f)

-- the part of a list from place `start` on is what is left without the elements before it
rest_of : (l : List ℕ) (start : ℕ) → take (length l - start) (drop start l) ≡ drop start l
rest_of l start = take_all (length l - start) (drop start l) (omega (arith, length-drop start l))

-- the last b bytes of a record, as the part from their place on
abbrev pub body_of : List ℕ → ℕ → List ℕ
body_of rec b = take (length rec - (length rec - b)) (drop (length rec - b) rec)

-- A record that passes the tests, with the number of its cells and of the bytes that they take.
pub record Passed (rec : List ℕ) (n b : ℕ) : Type 0 where
  pub headed : b ≤ length rec
  pub enough : n ≤ 8 * length (body_of rec b)
  pub long : length (take n (unbytes (body_of rec b))) ≡ n
  pub answer : (room : ℕ) → unpack room rec ≡ into room (accept n (take n (unbytes (body_of rec b))))

module _ (rec : List ℕ) where
  pub unpack_refused : (room k m : ℕ) → tested rec ≡ refuse k m → unpack room rec ≡ refuse k m
  unfolding tested unpack
  unpack_refused room k m e =
      ap (into room) (six_tests (refuse k m) (refuse k m) (λ j l r. r) _ _ _ _ _ _ _ _ (λ r. refuse_not_accept (sym r)) e) ∙ into_refuse room k m

  unpack_on : (room n : ℕ) → tested rec ≡ accept n [] → unpack room rec ≡ into room (whole (take (row_length (count_of rec)) (stored_cells rec)))
  unfolding tested unpack
  unpack_on room n e = ap (into room) (six_tests (accept n []) _ (λ j l r. refuse_not_accept r) _ _ _ _ _ _ _ _ (λ r. refl) e)

  -- the tests of a record that passes them, and its number of cells
  tested_sized : (n : ℕ) → tested rec ≡ accept n [] → Sized rec (count_of rec) × (row_length (count_of rec) ≡ n)
  unfolding tested
  tested_sized n e =
      let short = then_accept _ _ e in
      let version = then_accept _ _ short.1 in
      let arrived = then_accept _ _ version.1 in
      let fits = then_accept _ _ arrived.1 in
      let count = then_accept _ _ fits.1 in
      let p = sized rec (leb-true _ _ (ask_passes _ _ _ short.0)) (ask_passes _ _ _ version.0) (ask_passes _ _ _ arrived.0) (ask_passes _ _ _ fits.0) (count_of rec) refl (eqb-true _ _ (ask_passes _ _ _ count.0)) in
      (p, accept_number (then_accept _ _ count.1).1)

  pub tested_passed : (n b : ℕ) → tested rec ≡ accept n [] → b ≡ (n + 7) / 8 → Passed rec n b
  unfolding row_length stored_cells whole
  tested_passed n b e q =
      let both = tested_sized n e in
      let p = both.0 in
      let cells : 11 * (count_of rec + 1) + 13 ≡ n = both.1 in
      let start : length rec - b ≡ head_length rec = omega (arith, p.long) in
      let body : body_of rec b ≡ drop (head_length rec) rec = rw start (rest_of rec (head_length rec)) in
      let enough : n ≤ 8 * length (drop (head_length rec) rec) = omega (arith, p.long, length-drop (head_length rec) rec) in
      let long : length (take n (unbytes (drop (head_length rec) rec))) ≡ n = length-take-le n _ (omega (arith, length_unbytes (drop (head_length rec) rec))) in
      record {
        headed = omega (arith, p.long);
        enough = rw body enough;
        long = rw body long;
        answer = λ room. unpack_on room n e ∙ rw (cells, body, long);
      }

-- the front of a list filled with the first n of some cells
pub filled : (l cs m : List ℕ) (n : ℕ) → length (take n cs) ≡ n → n ≤ length l → m ≡ take (length (take n l)) cs → m ++ drop n l ≡ sets l 0 (take n cs)
filled l cs m n long h e =
    let front : length (take n l) ≡ n = length-take-le n l h in
    rw (e, front) (ap (λ (k : ℕ). take n cs ++ drop k l) (sym long) ∙ sym (sets_front l (take n cs) (omega arith)))
