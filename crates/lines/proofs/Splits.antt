-- Steps over a chunk: a part of a line, a newline, and one step after another.
-- Assumes nothing.
use Prim.Native.Nat.{ℕ, zero, suc, ◌+◌, ◌-◌, ◌<◌, ◌≤◌, min}
use mathlib.Core.Path.{◌≡◌, refl, sym, ap, ◌∙◌}
use mathlib.Core.Bool.{Bool, true, false}
use mathlib.Core.List.{List, [], ◌∷◌, ◌++◌, append-nil, append_assoc}
use native.Mathlib.Nat.{zero-sub, sub-zero, suc-sub-suc}
use native.Mathlib.Numerals.{add-one}
use native.Mathlib.Omega.{arith}
use native.Mathlib.Decide.{dec_le}
use borrow.Author.Tests.{eq-eqb}
use lib.Dec.{eqb}
use lib.ListN.{length, get_or, take, drop, length-take, length-drop, drop_of_length-le}
use lib.Seq.{drop-cons, take_all}
use Rattle.std.specs.Prelude.{if◌then◌else◌, position, Some, None}
use Rattle.std.proofs.lemmas.Bool.{eqb-true}
use Rattle.std.proofs.lemmas.List.{take_min, take-append-drop, drop-drop, get_or-drop}
use Rattle.std.proofs.lemmas.List.Quantifiers.{position-Some}
use Rattle.line.specs.Line.{line_out}
use Rattle.line.proofs.Cut.{line_cut}
use Rattle.lines.specs.Lines.{output_from, newlines}
use Rattle.lines.specs.Given.{Holds, Fed}
use Rattle.lines.proofs.Newlines.{newlines_before, newlines_none}

-- ---- the line's buffer

-- how much of it is filled, where that is no more than it has
pub holds_count : {cur line : List ℕ} {len : ℕ} → Holds cur line len → len ≤ 4097 → len ≡ length (take 4097 cur)
holds_count {line} {len} p h = omega (arith, p.holds_size, length-take len line, ap length p.holds_bytes)

-- a count past the buffer's end is as good as its end
pub holds_cut : {cur line : List ℕ} {len n : ℕ} → n ≡ min len 4097 → Holds cur line len → Holds cur line n
holds_cut {cur} {line} {len} {n} e p =
    elim (dec_le len 4097) [
      | yes h ↦ rw (the_same h) p
      | no h ↦ record {
        holds_size = p.holds_size;
        holds_bytes = take_all n line (omega (arith, p.holds_size)) ∙ sym (take_all len line (omega (arith, p.holds_size))) ∙ p.holds_bytes;
      }
    ]
  where
    the_same : len ≤ 4097 → n ≡ len
    the_same h = omega arith

pub holds_none : {line : List ℕ} → length line ≡ 4097 → Holds [] line 0
holds_none e = record { holds_size = e; holds_bytes = refl }

take_apart : (n : ℕ) (xs ys : List ℕ) → take n (xs ++ ys) ≡ take n xs ++ take (n - length xs) ys
take_apart zero xs ys = rw (zero-sub (length xs)) refl
take_apart (suc n) [] ys = rw (sub-zero (suc n)) refl
take_apart (suc n) (x ∷ xs) ys = rw (suc-sub-suc n (length xs)) (ap (λ (l : List ℕ). x ∷ l) (take_apart n xs ys))

-- more bytes, as many as there is room for
pub holds_part : {cur line line' : List ℕ} {len n : ℕ} (part : List ℕ) → Holds cur line len → len ≤ 4097 → n ≡ min (length part) (4097 - len) → length line' ≡ length line
    → take (len + n) line' ≡ take len line ++ take n part → Holds (cur ++ part) line' (len + n)
holds_part {cur} {len = len} {n = n} part p h e s q =
    let m : n ≡ min (4097 - length cur) (length part) = omega (arith, holds_count p h, length-take 4097 cur) in
    record { holds_size = s ∙ p.holds_size; holds_bytes = q ∙ rw (p.holds_bytes, m, take_min (4097 - length cur) part) (sym (take_apart 4097 cur part)) }

-- what the buffer holds says what the line gives
pub holds_line : {cur line : List ℕ} {len : ℕ} → Holds cur line len → line_out (take len line) ≡ line_out cur
holds_line {cur} p = ap line_out p.holds_bytes ∙ sym (line_cut cur)

-- ---- a part of a line, and one step after another

-- bytes of a line, with no newline among them
pub line_from : (last : List ℕ → List ℕ) (cur part rest : List ℕ) → newlines part ≡ 0 → output_from last cur (part ++ rest) ≡ output_from last (cur ++ part) rest
unfolding output_from newlines
line_from last cur [] rest h = rw append-nil
line_from last cur (c ∷ cs) rest h = by (eqb c 10) refl h (line_from last (cur ++ (c ∷ [])) cs rest)
  where
    by : (b : Bool) → eqb c 10 ≡ b → (if b then suc (newlines cs) else newlines cs) ≡ 0 → (newlines cs ≡ 0 → output_from last (cur ++ (c ∷ [])) (cs ++ rest) ≡ output_from last ((cur ++ (c ∷ [])) ++ cs) rest)
        → output_from last cur (c ∷ (cs ++ rest)) ≡ output_from last (cur ++ (c ∷ cs)) rest
    by true e k next = absurd (omega arith)
    by false e k next = rw (e, output_from) (next k ∙ ap (λ (l : List ℕ). output_from last l rest) (append_assoc cur (c ∷ []) cs))

pub output_newline : (last : List ℕ → List ℕ) (cur : List ℕ) (c : ℕ) (rest : List ℕ) → c ≡ 10 → output_from last cur (c ∷ rest) ≡ line_out cur ++ output_from last [] rest
unfolding output_from
output_newline last cur c rest h = rw (eq-eqb c 10 h, output_from)

pub fed_then : {chunk line line' line'' t u : List ℕ} {at at' at'' len len' len'' : ℕ} → Fed chunk at line len t at' line' len' → Fed chunk at' line' len' u at'' line'' len''
    → Fed chunk at line len (t ++ u) at'' line'' len''
fed_then {t} {u} p q =
    record {
      fed_onward = omega (arith, p.fed_onward, q.fed_onward);
      fed_within = λ l. let e = q.fed_within l in e ∙ p.fed_within (omega (arith, e));
      fed_filled = q.fed_filled;
      fed_output = λ cur h. let a = p.fed_output cur h in let b = q.fed_output a.0 a.1 in (b.0, b.1, λ last rest. a.2 last rest ∙ rw (b.2 last rest) (sym (append_assoc t u _)));
    }

-- a part of a line, to place at'
pub fed_part : {chunk part line line' : List ℕ} {at at' len len' : ℕ} → at ≤ at' → at' ≤ length chunk → drop at chunk ≡ part ++ drop at' chunk → newlines part ≡ 0 → len' ≤ 4097
    → ((cur : List ℕ) → Holds cur line len → Holds (cur ++ part) line' len') → Fed chunk at line len [] at' line' len'
fed_part {chunk} {part} {at' = at'} h k e z w f =
    record {
      fed_onward = h;
      fed_within = λ l. absurd (omega arith);
      fed_filled = w;
      fed_output = λ cur p. (cur ++ part, f cur p, λ last rest. rw (e, append_assoc part (drop at' chunk) rest) (line_from last cur part _ z));
    }

-- all of a chunk from place `at` on
rest_all : (chunk : List ℕ) (at : ℕ) → take (length chunk - at) (drop at chunk) ≡ drop at chunk
rest_all chunk at = take_all (length chunk - at) (drop at chunk) (omega (arith, length-drop at chunk))

-- to the first newline of the rest of a chunk, or to its end; the rest is as the code has it
module _ (chunk : List ℕ) (at : ℕ) (h : at < length chunk) where
  pub newline_at : {n : ℕ} → position (λ c. eqb c 10) (take (length chunk - at) (drop at chunk)) ≡ Some n → (at + n < length chunk) × (get_or chunk (at + n) 0 ≡ 10)
  newline_at {n} e =
      let p = position-Some (λ c. eqb c 10) (drop at chunk) n 0 (rw (rest_all chunk at) at e) in
      (omega (arith, p.0, length-drop at chunk), sym (get_or-drop at chunk n 0) ∙ eqb-true _ _ p.1)

  pub fed_to : {line line' : List ℕ} {len len' n : ℕ} → position (λ c. eqb c 10) (take (length chunk - at) (drop at chunk)) ≡ Some n → len' ≤ 4097
      → ((cur : List ℕ) → Holds cur line len → Holds (cur ++ take n (take (length chunk - at) (drop at chunk))) line' len') → Fed chunk at line len [] (at + n) line' len'
  fed_to {n = n} e w f =
      let p = position-Some (λ c. eqb c 10) (drop at chunk) n 0 (rw (rest_all chunk at) at e) in
      let split : drop at chunk ≡ take n (drop at chunk) ++ drop (at + n) chunk = sym (rw (← drop-drop n at chunk) (take-append-drop n (drop at chunk))) in
      fed_part (omega arith) (omega (arith, p.0, length-drop at chunk)) split (newlines_before (drop at chunk) n p.2) w (λ cur l. rw (rest_all chunk at) at (f cur l))

  pub fed_all : {line line' : List ℕ} {len len' : ℕ} → position (λ c. eqb c 10) (take (length chunk - at) (drop at chunk)) ≡ None → len' ≤ 4097
      → ((cur : List ℕ) → Holds cur line len → Holds (cur ++ take (length chunk - at) (drop at chunk)) line' len') → Fed chunk at line len [] (length chunk) line' len'
  fed_all e w f =
      let none : drop (length chunk) chunk ≡ [] = drop_of_length-le chunk (omega arith) in
      fed_part (omega arith) (omega arith) (rw none (sym (append-nil (drop at chunk)))) (newlines_none (drop at chunk) (rw (rest_all chunk at) at e)) w (λ cur l. rw (rest_all chunk at) at (f cur l))

pub fed_newline : {chunk line : List ℕ} {at len : ℕ} → at < length chunk → get_or chunk at 0 ≡ 10 → Fed chunk at line len (line_out (take len line)) (at + 1) line 0
fed_newline {chunk} {line} {at} {len} h e =
    record {
      fed_onward = omega arith;
      fed_within = λ l. absurd (omega arith);
      fed_filled = omega arith;
      fed_output = λ cur p. ([], holds_none p.holds_size, λ last rest. rw (add-one at, drop-cons chunk at 0 h, holds_line p) (output_newline last cur (get_or chunk at 0) _ e));
    }
