-- Parts of a list, written whole: the cells of a word, and a loop that stores the patterns of some
-- numbers.
-- Assumes nothing.
use Prim.Native.Nat.{ℕ, ◌+◌, ◌-◌, ◌*◌, ◌<◌, ◌≤◌}
use mathlib.Core.Path.{◌≡◌, refl, sym, ap, ◌∙◌}
use mathlib.Core.List.{List, [], ◌++◌, append-nil}
use native.Mathlib.Numerals.{add-one}
use native.Mathlib.Omega.{arith}
use lib.ListN.{length, get_or, drop, drop_of_length-le, length-append}
use lib.Seq.{sets, drop-cons, length-sets}
use borrow.Rule.Slice.PartMut.{put_mid, mid_of, mid_len}
use Rattle.std.specs.Int.{w32, to_le_bytes}
use Rattle.helpers.specs.Answers.{same}
use Rattle.helpers.proofs.Below.{below, at}
use Rattle.helpers.proofs.Same.{as_same}
use lib.Dec.{T}
use Rattle.paper.specs.Iso15417.{pattern, cells}
use Rattle.paper.proofs.Table.{length_pattern}
use Rattle.helpers.proofs.Writes.{Writing, writing_begin, writing_block, writing_end, sets_front}
use Rattle.helpers.proofs.Part.{part_stored}
use Rattle.helpers.proofs.Gives.{stored_at, stored_then}
use Rattle.code128.specs.Quads.{low_bytes, quads_from, quads}

-- a list, written whole
sets_all : (l vs : List ℕ) → length l ≡ length vs → sets l 0 vs ≡ vs
sets_all l vs h =
    let none : drop (length vs) l ≡ [] = drop_of_length-le l (omega arith) in
    sets_front l vs (omega arith) ∙ rw none (append-nil vs)

-- a part from a to e, written whole
pub part_whole : (l m vs : List ℕ) (a e : ℕ) → m ≡ vs → e ≡ a + length vs → e ≤ length l → put_mid a (e - a) l m ≡ sets l a vs
part_whole l m vs a e f h q =
    part_stored l m vs a e (omega arith) q (omega arith) (f ∙ sym (sets_all (mid_of a (e - a) l) vs (omega (arith, mid_len a e l q))))

-- the part of eleven places from a on
pub part_eleven : (l : List ℕ) (a : ℕ) → a + 11 ≤ length l → length (mid_of a (a + 11 - a) l) ≡ 11
part_eleven l a h = mid_len a (a + 11) l h ∙ omega arith

-- eleven places, written by four, four and three
pub three_parts : (l x y z : List ℕ) → length l ≡ 11 → length x ≡ 4 → length y ≡ 4 → length z ≡ 3 → put_mid 8 3 (put_mid 4 4 (x ++ drop 4 l) y) z ≡ (x ++ y) ++ z
three_parts l x y z h p q r =
    let l₁ = x ++ drop 4 l in
    let l₂ = put_mid 4 4 l₁ y in
    let first : l₁ ≡ sets l 0 x = sym (sets_front l x (omega arith) ∙ ap (λ (n : ℕ). x ++ drop n l) p) in
    let next : l₂ ≡ sets l₁ 4 y = part_whole l₁ y y 4 8 refl (omega arith) (omega (arith, ap length first, length-sets l 0 x)) in
    let long : length l₂ ≡ 11 = ap length next ∙ length-sets l₁ 4 y ∙ ap length first ∙ length-sets l 0 x ∙ h in
    let last : put_mid 8 3 l₂ z ≡ sets l₂ 8 z = part_whole l₂ z z 8 11 refl (omega arith) (omega (arith, long)) in
    let both = stored_then (stored_at x l l₁ 0 4 first (omega arith)) (stored_at y l₁ l₂ 4 8 next (omega arith)) in
    (stored_then both (stored_at z l₂ (put_mid 8 3 l₂ z) 8 11 last (omega arith))).stored
    ∙ sets_all l ((x ++ y) ++ z) (omega (arith, length-append x y, length-append (x ++ y) z))

-- the bytes of an entry of the table of fours, which are its cells
all_bytes : T (below (λ i. same (to_le_bytes w32 (get_or quads i 0)) (low_bytes 4 (get_or quads i 0))) 16)
unfolding same low_bytes quads_from quads
all_bytes = tt

pub quad_bytes : (i : ℕ) → i < 16 → to_le_bytes w32 (get_or quads i 0) ≡ low_bytes 4 (get_or quads i 0)
quad_bytes i h =
    let x = get_or quads i 0 in
    as_same (to_le_bytes w32 x) (low_bytes 4 x) (at (λ k. same (to_le_bytes w32 (get_or quads k 0)) (low_bytes 4 (get_or quads k 0))) 16 all_bytes i h)

-- ---- the patterns of some numbers

pub record Joining (symbols l₀ l : List ℕ) (i : ℕ) : Type 0 where
  pub within : i ≤ length symbols
  pub writes : Writing l₀ 0 (cells symbols) l (11 * i) (cells (drop i symbols))

pub joining_begin : {symbols l : List ℕ} → Joining symbols l l 0
joining_begin = record { within = omega arith; writes = writing_begin }

module _ {symbols l₀ l : List ℕ} {i : ℕ} (p : Joining symbols l₀ l i) where
  pub joining_turn : (m : List ℕ) → i < length symbols → get_or symbols i 0 < 106 → m ≡ sets l (11 * i) (pattern (get_or symbols i 0)) → Joining symbols l₀ m (i + 1)
  unfolding cells
  joining_turn m h small f =
      let s = get_or symbols i 0 in
      let eleven = length_pattern s small in
      record { within = omega arith; writes = writing_block (pattern s) p.writes (rw (drop-cons symbols i 0 h, add-one i) refl) f (omega (arith, eleven)) }

  pub joining_end : length symbols ≤ i → l ≡ sets l₀ 0 (cells symbols)
  unfolding cells
  joining_end h = writing_end p.writes (rw (drop_of_length-le symbols h) refl)
