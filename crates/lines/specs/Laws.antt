-- What holds of the label program's output for every input: what operations rely on.
-- Document 01, "The label program". Assumes nothing.
use Rattle.std.specs.Prelude.{◌≤◌, ◌≡◌, ◌∷◌, ◌++◌}
use Rattle.helpers.specs.Prelude.{ℕ, suc, List, [], map, length}
use Rattle.line.specs.Line.{line_out}
use Rattle.lines.specs.Lines.{output, output_cut, newlines, first_lines, after_lines}
use Rattle.lines.specs.Run.{joined, ends, fails, stops, Run}

-- a part of an input that ends with a newline
unfoldable pub with_newline : List ℕ → List ℕ
with_newline part = part ++ (10 ∷ [])

pub record Laws : Type 0 where
  -- Lines are independent: cut the input after newlines, however often, and the outputs of its
  -- parts, one after the other, are its output.
  pub parts : (those : List (List ℕ)) (last : List ℕ) → output (joined (map with_newline those) ++ last) ≡ joined (map (λ part. output (with_newline part)) those) ++ output last
  -- Each line gives one line out, a last one without newline too; and an empty input gives nothing.
  pub one_each : (input : List ℕ) (byte : ℕ) → newlines (output (input ++ (byte ∷ []))) ≡ suc (newlines input)
  pub none : output [] ≡ []
  -- That line is what document 01 says of the line's bytes, with its newline and without.
  pub line_own : (line : List ℕ) → newlines line ≡ 0 → output (with_newline line) ≡ line_out line
  pub last_own : (byte : ℕ) (line : List ℕ) → newlines (byte ∷ line) ≡ 0 → output (byte ∷ line) ≡ line_out (byte ∷ line)
  -- The first n lines are n lines, and what follows them is the rest.
  pub first_lines_lem : (n : ℕ) (x : List ℕ) → n ≤ newlines x → newlines (first_lines n x) ≡ n
  pub first_after : (n : ℕ) (x : List ℕ) → first_lines n x ++ after_lines n x ≡ x
  -- Where to go on: after the first n lines of the output comes the output of what follows the
  -- first n lines of the input.
  pub go_on : (n : ℕ) (input : List ℕ) → output input ≡ first_lines n (output input) ++ output (after_lines n input)
  -- So after a failure, whatever part of the output was written: keep its whole lines, and go on
  -- after the same number of lines of the input.
  pub go_on_after : (input written lost : List ℕ) → output input ≡ written ++ lost → output input ≡ first_lines (newlines written) written ++ output (after_lines (newlines written) input)
  -- Where a read fails, what is written is what the whole lines before give, and nothing is written
  -- for the line that was cut.
  pub cut_line : (input cut : List ℕ) → newlines cut ≡ 0 → output_cut (with_newline input ++ cut) ≡ output (with_newline input)
  pub cut_first : (cut : List ℕ) → newlines cut ≡ 0 → output_cut cut ≡ []
  -- However the input comes in chunks, and whenever the output is written out, a run writes the
  -- input's output or, where a read fails, that of its whole lines.
  pub run_ends : {line out all : List ℕ} {chunks : List (List ℕ)} → length line ≡ 4097 → 22560 ≤ length out → Run ends [] 0 line 0 out 0 chunks all → all ≡ output (joined chunks)
  pub run_fails : {line out all : List ℕ} {chunks : List (List ℕ)} → length line ≡ 4097 → 22560 ≤ length out → Run fails [] 0 line 0 out 0 chunks all → all ≡ output_cut (joined chunks)
  -- Where a write fails, what was written is the front of the input's output.
  pub run_stops : {line out all : List ℕ} {chunks : List (List ℕ)} → length line ≡ 4097 → 22560 ≤ length out → Run stops [] 0 line 0 out 0 chunks all → (lost : List ℕ) × (output (joined chunks) ≡ all ++ lost)
