-- The form of a line, one byte at a time, and a loop over a line that stores its numbers.
-- Assumes nothing.
use Prim.Native.Nat.{ℕ, suc, ◌+◌, ◌-◌, ◌*◌, ◌^◌, ◌<◌, ◌≤◌, min}
use mathlib.Core.Path.{◌≡◌, refl, sym, ◌∙◌}
use mathlib.Core.Bool.{Bool, true, false, ◌&&◌}
use mathlib.Core.List.{List, [], ◌∷◌, ◌++◌}
use native.Mathlib.Nat.{pow-le-pow_right}
use native.Mathlib.Numerals.{add-one}
use native.Mathlib.Omega.{arith}
use borrow.Author.Tests.{leb-true, le-leb, lt-leb}
use lib.Dec.{leb, ltb, eqb}
use lib.ListN.{length, get_or, set, take, drop, drop_of_length-le, length-set, length-take}
use lib.Seq.{drop-cons, take-suc-set}
use Rattle.std.specs.Prelude.{if◌then◌else◌}
use Rattle.helpers.proofs.Ahead.{ahead, ahead_one, ahead_stays, ahead_all}
use Rattle.helpers.proofs.Answering.{and_true}
use Rattle.line.specs.Line.{Kind, hex, blank, neither, kind_of, Effect, goes_on, point_ends, misplaced, effect, code_points, other_form, with_point, comes_of, content_from, line_limit, content_of}

-- ---- one byte

-- a digit's value
abbrev KindLow : Kind → Type 0
KindLow (hex d) = d < 16
KindLow blank = Unit {0}
KindLow neither = Unit {0}

kind_low : (c : ℕ) → KindLow (kind_of c)
unfolding kind_of
kind_low c = cases (leb 48 c && leb c 57) refl (leb 65 c && leb c 70) refl (eqb c 32)
  where
    cases : (a : Bool) → (leb 48 c && leb c 57) ≡ a → (b : Bool) → (leb 65 c && leb c 70) ≡ b → (d : Bool)
        → KindLow (if a then hex (c - 48) else if b then hex (c - 65 + 10) else if d then blank else neither)
    cases true p b q d = omega (arith, leb-true c 57 (and_true (leb 48 c) (leb c 57) p).1)
    cases false p true q d = omega (arith, leb-true c 70 (and_true (leb 65 c) (leb c 70) q).1)
    cases false p false q true = tt
    cases false p false q false = tt

-- k digits make a number below 16 ^ k; a blank ends a number that has digits
abbrev EffectLow : ℕ → Effect → Type 0
EffectLow k (goes_on j w) = w < 16 ^ j
EffectLow k point_ends = 1 ≤ k
EffectLow k misplaced = Unit {0}

effect_low : (k v : ℕ) (t : Kind) → v < 16 ^ k → KindLow t → EffectLow k (effect k v t)
unfolding effect
effect_low k v (hex d) h l = hex_case (ltb k 6)
  where
    hex_case : (b : Bool) → EffectLow k (if b then goes_on (suc k) (16 * v + d) else misplaced)
    hex_case true = omega arith
    hex_case false = tt
effect_low k v blank h l = blank_case (leb 1 k) refl
  where
    blank_case : (b : Bool) → leb 1 k ≡ b → EffectLow k (if b then point_ends else misplaced)
    blank_case true e = leb-true 1 k e
    blank_case false e = tt
effect_low k v neither h l = tt

-- what at most six digits make is far below 2 ^ 32
pub room : (k v : ℕ) → v < 16 ^ k → k ≤ 6 → v < 16777216
room k v h l = omega (arith, pow-le-pow_right {n = 16} (omega arith) {i = k} {j = 6} l)

-- ---- the form of a line, with the numbers `done` already found

points_other : (done : List ℕ) → ahead with_point done other_form ≡ other_form
unfolding with_point
points_other done = ahead_stays with_point other_form (λ v. refl) done

points_all : (done : List ℕ) → ahead with_point done (code_points []) ≡ code_points done
unfolding with_point
points_all done = ahead_all with_point code_points (λ v x. refl) done

form_turn : (k v : ℕ) (x : List ℕ) (i : ℕ) → i < length x
    → content_from k v (drop i x) ≡ comes_of (effect k v (kind_of (get_or x i 0))) v (λ j w. content_from j w (drop (suc i) x))
unfolding content_from
form_turn k v x i h = rw (drop-cons x i 0 h)

form_whole : (line : List ℕ) → 1 ≤ length line → length line ≤ 4096 → content_of line ≡ content_from 0 0 line
unfolding content_of line_limit
form_whole [] l h = absurd (omega arith)
form_whole (c ∷ cs) l h = rw (le-leb (length (c ∷ cs)) 4096 h)

pub form_empty : (line : List ℕ) → length line < 1 → content_of line ≡ code_points []
unfolding content_of
form_empty [] h = refl
form_empty (c ∷ cs) h = absurd (omega arith)

-- A loop that has come to place i of a line, with k digits of value v read of a number and n
-- numbers stored before it.
pub record Forming (line text₀ text : List ℕ) (k v n i : ℕ) : Type 0 where
  pub some : 1 ≤ length line
  pub within : i ≤ length line
  pub short : length line ≤ 4096
  pub long : length text ≡ length text₀
  pub enough : 2048 ≤ length text
  pub few : 2 * n + min k 1 ≤ i
  pub low : v < 16 ^ k
  pub rest : content_of line ≡ ahead with_point (take n text) (content_from k v (drop i line))

pub forming_begin : {line text : List ℕ} → 1 ≤ length line → length line ≤ 4096 → 2048 ≤ length text → Forming line text text 0 0 0 0
unfolding ahead
forming_begin {line} {text} l h e =
    record { some = l; within = omega arith; short = h; long = refl; enough = e; few = omega arith; low = omega arith; rest = form_whole line l h }

module _ {line text₀ text : List ℕ} {k v n i : ℕ} (p : Forming line text₀ text k v n i) where
  effect_here : EffectLow k (effect k v (kind_of (get_or line i 0)))
  effect_here = effect_low k v (kind_of (get_or line i 0)) p.low (kind_low (get_or line i 0))

  pub forming_on : i < length line → {j w : ℕ} → effect k v (kind_of (get_or line i 0)) ≡ goes_on j w → Forming line text₀ text j w n (i + 1)
  unfolding comes_of
  forming_on h {j} {w} e =
      record {
        some = p.some;
        within = omega arith;
        short = p.short;
        long = p.long;
        enough = p.enough;
        few = omega (arith, p.few);
        low = rw e at effect_here;
        rest = p.rest ∙ rw (form_turn k v line i h, e, add-one i) refl;
      }

  pub forming_ends : i < length line → effect k v (kind_of (get_or line i 0)) ≡ point_ends → Forming line text₀ (set text n v) 0 0 (n + 1) (i + 1)
  unfolding comes_of
  forming_ends h e =
      let some-digit : 1 ≤ k = rw e at effect_here in
      let place : n < length text = omega (arith, p.few, p.short, p.enough) in
      record {
        some = p.some;
        within = omega arith;
        short = p.short;
        long = length-set text n v ∙ p.long;
        enough = omega (arith, length-set text n v, p.enough);
        few = omega (arith, p.few);
        low = omega arith;
        rest = p.rest ∙ rw (form_turn k v line i h, e, add-one i, add-one n, take-suc-set text n v place, ahead_one) refl;
      }

  pub forming_wrong : i < length line → effect k v (kind_of (get_or line i 0)) ≡ misplaced → content_of line ≡ other_form
  unfolding comes_of
  forming_wrong h e = p.rest ∙ rw (form_turn k v line i h, e) (points_other (take n text))

  pub forming_none : length line ≤ i → k < 1 → content_of line ≡ other_form
  unfolding content_from
  forming_none h l = p.rest ∙ rw (drop_of_length-le line h, lt-leb 1 k l) (points_other (take n text))

  pub forming_end : length line ≤ i → 1 ≤ k → (content_of line ≡ code_points (take (n + 1) (set text n v))) × (length (take (n + 1) (set text n v)) ≤ 2048)
  unfolding content_from with_point
  forming_end h l =
      let place : n < length text = omega (arith, p.few, p.within, p.short, p.enough) in (
        p.rest ∙ rw (drop_of_length-le line h, le-leb 1 k l, add-one n, take-suc-set text n v place) (sym (ahead_one with_point (take n text) v (code_points [])) ∙ points_all (take n text ++ (v ∷ []))),
        simp (length-take, length-set) (omega (arith, p.few, p.within, p.short)),
      )
