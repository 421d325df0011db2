-- The laws of the label program's output: lines are independent, and each gives one line.
-- Assumes nothing.
use Prim.Native.Nat.{ℕ, zero, suc, ◌≤◌}
use mathlib.Core.Path.{◌≡◌, refl, sym, ap, ◌∙◌}
use mathlib.Core.Bool.{Bool, true, false}
use mathlib.Core.List.{List, [], ◌∷◌, ◌++◌, map, append-nil, append_assoc}
use native.Mathlib.Omega.{arith}
use lib.Dec.{eqb}
use Rattle.std.specs.Prelude.{if◌then◌else◌}
use Rattle.line.specs.Line.{content_of, content_line, line_out}
use Rattle.lines.specs.Lines.{at_end, output_from, output, output_cut, newlines, first_lines, after_lines}
use Rattle.lines.specs.Run.{joined, last_of}
use Rattle.lines.specs.Laws.{with_newline, Laws}
use Rattle.lines.proofs.Newlines.{newlines_append, content_none, line_one}
use Rattle.lines.proofs.Splits.{line_from}
use Rattle.lines.proofs.Runs.{at_end_lem, at_fault, run_whole, run_part}

-- ---- the first of some lines

first_end : (n : ℕ) → first_lines n [] ≡ []
unfolding first_lines
first_end zero = refl
first_end (suc n) = refl

-- the first of some lines
first_line : (n : ℕ) (t z : List ℕ) → newlines t ≡ 0 → first_lines (suc n) ((t ++ (10 ∷ [])) ++ z) ≡ (t ++ (10 ∷ [])) ++ first_lines n z
unfolding first_lines newlines
first_line n [] z h = refl
first_line n (c ∷ cs) z h = by (eqb c 10) refl h (first_line n cs z)
  where
    by : (b : Bool) → eqb c 10 ≡ b → (if b then suc (newlines cs) else newlines cs) ≡ 0 → (newlines cs ≡ 0 → first_lines (suc n) ((cs ++ (10 ∷ [])) ++ z) ≡ (cs ++ (10 ∷ [])) ++ first_lines n z)
        → first_lines (suc n) (((c ∷ cs) ++ (10 ∷ [])) ++ z) ≡ ((c ∷ cs) ++ (10 ∷ [])) ++ first_lines n z
    by true e k next = absurd (omega arith)
    by false e k next = rw e (ap (λ (l : List ℕ). c ∷ l) (next k))

first_some : (n : ℕ) (x : List ℕ) → n ≤ newlines x → newlines (first_lines n x) ≡ n
unfolding first_lines newlines
first_some zero x h = refl
first_some (suc n) [] h = absurd (omega arith)
first_some (suc n) (c ∷ cs) h = by (eqb c 10) refl h (first_some n cs) (first_some (suc n) cs)
  where
    by : (b : Bool) → eqb c 10 ≡ b → suc n ≤ (if b then suc (newlines cs) else newlines cs) → (n ≤ newlines cs → newlines (first_lines n cs) ≡ n)
        → (suc n ≤ newlines cs → newlines (first_lines (suc n) cs) ≡ suc n) → newlines (first_lines (suc n) (c ∷ cs)) ≡ suc n
    by true e k one more = rw e (ap suc (one (omega arith)))
    by false e k one more = rw e (more k)

first_rest : (n : ℕ) (x : List ℕ) → first_lines n x ++ after_lines n x ≡ x
unfolding first_lines after_lines
first_rest zero x = refl
first_rest (suc n) [] = refl
first_rest (suc n) (c ∷ cs) = by (eqb c 10) (first_rest n cs) (first_rest (suc n) cs)
  where
    by : (b : Bool) → first_lines n cs ++ after_lines n cs ≡ cs → first_lines (suc n) cs ++ after_lines (suc n) cs ≡ cs
        → (c ∷ (if b then first_lines n cs else first_lines (suc n) cs)) ++ (if b then after_lines n cs else after_lines (suc n) cs) ≡ c ∷ cs
    by true e k = ap (λ (l : List ℕ). c ∷ l) e
    by false e k = ap (λ (l : List ℕ). c ∷ l) k

line_first : (n : ℕ) (line z : List ℕ) → first_lines (suc n) (line_out line ++ z) ≡ line_out line ++ first_lines n z
unfolding line_out
line_first n line z = first_line n (content_line (content_of line)) z (content_none (content_of line))

line_alone : (n : ℕ) (line : List ℕ) → line_out line ≡ first_lines (suc n) (line_out line) ++ []
line_alone n line = sym (append-nil _ ∙ ap (λ (l : List ℕ). first_lines (suc n) l) (sym (append-nil (line_out line))) ∙ line_first n line [] ∙ rw (first_end n) (append-nil (line_out line)))

-- ---- lines are independent

-- the output of an input that is cut after a newline; what follows the newline may end as it will
apart : (last stop : List ℕ → List ℕ) → stop [] ≡ [] → (cur x y : List ℕ)
    → output_from last cur (x ++ (10 ∷ y)) ≡ output_from stop cur (x ++ (10 ∷ [])) ++ output_from last [] y
unfolding output_from
apart last stop e cur [] y = rw (e, append-nil)
apart last stop e cur (c ∷ cs) y = by (eqb c 10) (λ line. apart last stop e line cs y)
  where
    by : (b : Bool) → ((line : List ℕ) → output_from last line (cs ++ (10 ∷ y)) ≡ output_from stop line (cs ++ (10 ∷ [])) ++ output_from last [] y) → (elim b [ true ↦ line_out cur ++ output_from last [] (cs ++ (10 ∷ y)) | false ↦ output_from last (cur ++ (c ∷ [])) (cs ++ (10 ∷ y)) ])
        ≡ (elim b [ true ↦ line_out cur ++ output_from stop [] (cs ++ (10 ∷ [])) | false ↦ output_from stop (cur ++ (c ∷ [])) (cs ++ (10 ∷ [])) ]) ++ output_from last [] y
    by true next = rw (next []) (sym (append_assoc (line_out cur) _ _))
    by false next = next (cur ++ (c ∷ []))

newline_then : (x y : List ℕ) → with_newline x ++ y ≡ x ++ (10 ∷ y)
unfolding with_newline
newline_then x y = append_assoc x (10 ∷ []) y

cut_after : (last : List ℕ → List ℕ) (x y : List ℕ) → output_from last [] (with_newline x ++ y) ≡ output (with_newline x) ++ output_from last [] y
unfolding output at_end with_newline
cut_after last x y = rw (newline_then x y) (apart last at_end refl [] x y)

cut_output : (x y : List ℕ) → output (with_newline x ++ y) ≡ output (with_newline x) ++ output y
unfolding output
cut_output x y = cut_after at_end x y

parts_apart : (those : List (List ℕ)) (last : List ℕ) → output (joined (map with_newline those) ++ last) ≡ joined (map (λ part. output (with_newline part)) those) ++ output last
unfolding joined
parts_apart [] last = refl
parts_apart (x ∷ xs) last =
    ap output (append_assoc (with_newline x) (joined (map with_newline xs)) last)
    ∙ cut_output x (joined (map with_newline xs) ++ last)
    ∙ rw (parts_apart xs last) (sym (append_assoc (output (with_newline x)) _ _))

-- ---- each line gives one

some_end : (cur : List ℕ) (c : ℕ) → at_end (cur ++ (c ∷ [])) ≡ line_out (cur ++ (c ∷ []))
unfolding at_end
some_end [] c = refl
some_end (x ∷ xs) c = refl

one_from : (cur input : List ℕ) (byte : ℕ) → newlines (output_from at_end cur (input ++ (byte ∷ []))) ≡ suc (newlines input)
unfolding output_from newlines at_end
one_from cur [] byte = by (eqb byte 10)
  where
    by : (b : Bool) → newlines (elim b [ true ↦ line_out cur ++ at_end [] | false ↦ at_end (cur ++ (byte ∷ [])) ]) ≡ 1
    by true = ap newlines (append-nil (line_out cur)) ∙ line_one cur
    by false = ap newlines (some_end cur byte) ∙ line_one (cur ++ (byte ∷ []))
one_from cur (c ∷ cs) byte = by (eqb c 10) (λ line. one_from line cs byte)
  where
    by : (b : Bool) → ((line : List ℕ) → newlines (output_from at_end line (cs ++ (byte ∷ []))) ≡ suc (newlines cs)) → newlines (elim b [ true ↦ line_out cur ++ output_from at_end [] (cs ++ (byte ∷ [])) | false ↦ output_from at_end (cur ++ (c ∷ [])) (cs ++ (byte ∷ [])) ])
        ≡ suc (if b then suc (newlines cs) else newlines cs)
    by true next = newlines_append (line_out cur) _ ∙ omega (arith, line_one cur, next [])
    by false next = next (cur ++ (c ∷ []))

-- ---- a line's own bytes

own : (line : List ℕ) → newlines line ≡ 0 → output (with_newline line) ≡ line_out line
unfolding output output_from at_end with_newline
own line h = line_from at_end [] line (10 ∷ []) h ∙ append-nil (line_out line)

own_last : (byte : ℕ) (line : List ℕ) → newlines (byte ∷ line) ≡ 0 → output (byte ∷ line) ≡ line_out (byte ∷ line)
unfolding output output_from at_end
own_last byte line h = ap output (sym (append-nil (byte ∷ line))) ∙ line_from at_end [] (byte ∷ line) [] h

-- ---- where to go on

go_on_from : (n : ℕ) → ((input : List ℕ) → output input ≡ first_lines n (output input) ++ output (after_lines n input)) → (cur input : List ℕ)
    → output_from at_end cur input ≡ first_lines (suc n) (output_from at_end cur input) ++ output (after_lines (suc n) input)
unfolding output_from output after_lines at_end first_lines
go_on_from n before [] [] = refl
go_on_from n before (x ∷ xs) [] = line_alone n (x ∷ xs)
go_on_from n before cur (c ∷ cs) = by (eqb c 10) (go_on_from n before (cur ++ (c ∷ [])) cs)
  where
    by : (b : Bool) → output_from at_end (cur ++ (c ∷ [])) cs ≡ first_lines (suc n) (output_from at_end (cur ++ (c ∷ [])) cs) ++ output (after_lines (suc n) cs) → (elim b [ true ↦ line_out cur ++ output_from at_end [] cs | false ↦ output_from at_end (cur ++ (c ∷ [])) cs ])
        ≡ first_lines (suc n) (elim b [ true ↦ line_out cur ++ output_from at_end [] cs | false ↦ output_from at_end (cur ++ (c ∷ [])) cs ]) ++ output (if b then after_lines n cs else after_lines (suc n) cs)
    by true next = rw (line_first n cur (output cs)) (ap (λ (l : List ℕ). line_out cur ++ l) (before cs) ∙ sym (append_assoc (line_out cur) _ _))
    by false next = next

go_on_all : (n : ℕ) (input : List ℕ) → output input ≡ first_lines n (output input) ++ output (after_lines n input)
unfolding output first_lines after_lines
go_on_all zero input = refl
go_on_all (suc n) input = go_on_from n (go_on_all n) [] input

first_front : (x y : List ℕ) → first_lines (newlines x) (x ++ y) ≡ first_lines (newlines x) x
unfolding first_lines newlines
first_front [] y = refl
first_front (c ∷ cs) y = by (eqb c 10) refl (newlines cs) (first_front cs y)
  where
    by : (b : Bool) → eqb c 10 ≡ b → (n : ℕ) → first_lines n (cs ++ y) ≡ first_lines n cs → first_lines (if b then suc n else n) (c ∷ (cs ++ y)) ≡ first_lines (if b then suc n else n) (c ∷ cs)
    by true e n next = rw e (ap (λ (l : List ℕ). c ∷ l) next)
    by false e zero next = refl
    by false e (suc n) next = rw e (ap (λ (l : List ℕ). c ∷ l) next)

go_on_written : (input written lost : List ℕ) → output input ≡ written ++ lost → output input ≡ first_lines (newlines written) written ++ output (after_lines (newlines written) input)
go_on_written input written lost e =
    go_on_all (newlines written) input
    ∙ ap (λ (l : List ℕ). first_lines (newlines written) l ++ output (after_lines (newlines written) input)) e
    ∙ ap (λ (l : List ℕ). l ++ output (after_lines (newlines written) input)) (first_front written lost)

-- ---- a line that was cut

cut_none : (cut : List ℕ) → newlines cut ≡ 0 → output_from (λ line. []) [] cut ≡ []
unfolding output_from
cut_none cut h = ap (output_from (λ line. []) []) (sym (append-nil cut)) ∙ line_from (λ line. []) [] cut [] h

cut_whole : (input cut : List ℕ) → newlines cut ≡ 0 → output_cut (with_newline input ++ cut) ≡ output (with_newline input)
unfolding output_cut
cut_whole input cut h = cut_after (λ line. []) input cut ∙ rw (cut_none cut h) (append-nil _)

-- ---- all of them

pub laws : Laws
unfolding output output_cut last_of at_end output_from
laws =
    record {
      parts = parts_apart;
      one_each = λ input byte. one_from [] input byte;
      none = refl;
      line_own = own;
      last_own = own_last;
      first_lines_lem = first_some;
      first_after = first_rest;
      go_on = go_on_all;
      go_on_after = go_on_written;
      cut_line = cut_whole;
      cut_first = λ cut h. cut_none cut h;
      run_ends = λ s l r. run_whole at_end_lem s l r;
      run_fails = λ s l r. run_whole at_fault s l r;
      run_stops = λ s l r. run_part s l r;
    }
