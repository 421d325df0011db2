-- A loop over the lines of a chunk, and the input's end.
-- Assumes nothing.
use Prim.Native.Nat.{ℕ, ◌+◌, ◌-◌, ◌*◌, ◌<◌, ◌≤◌, min}
use mathlib.Core.Path.{◌≡◌, refl, sym, ap, ◌∙◌}
use mathlib.Core.Logic.{◌≢◌, ◌⊎◌, inl, inr}
use mathlib.Core.List.{List, [], ◌∷◌, ◌++◌, append-nil}
use native.Mathlib.Omega.{arith}
use lib.ListN.{length, get_or, take, length-take, length-append}
use lib.Seq.{length-sets}
use borrow.Rule.Slice.PartMut.{mid_of, put_mid, mid_len}
use Rattle.helpers.specs.Terms.{Stored}
use Rattle.helpers.proofs.Part.{part_end}
use Rattle.helpers.proofs.Gives.{stored_then}
use Rattle.line.specs.Line.{line_out, Wrote}
use Rattle.line.proofs.Short.{line_short, line_some}
use Rattle.line.proofs.Texts.{wrote_fits, wrote_short, wrote_whole}
use Rattle.lines.specs.Given.{Holds, Fed, Feeds, Finishes}
use Rattle.lines.specs.declared.Finished.TheVariants.{NoLine, NoRoom, Line}
use Rattle.lines.specs.Lines.{newlines}
use Rattle.lines.proofs.Newlines.{no_bytes, newlines_append, line_one}
use Rattle.lines.proofs.Splits.{holds_cut, holds_line, fed_then, fed_newline}

-- ---- an answer in the part of the output from place u on

pub answered : (line : List ℕ) {out part : List ℕ} {u r : ℕ} → u + 22560 ≤ length out → Wrote (line_out line) r (mid_of u (length out - u) out) part
    → Stored (line_out line) out u (put_mid u (length out - u) out part) (u + r)
answered line {out} {part} {u} {r} h w =
    let p = wrote_fits w (omega (arith, line_short line, mid_len u (length out) out (omega arith))) in
    record { stored = part_end out part (line_out line) u (omega arith) p.1; next = ap (λ (k : ℕ). u + k) p.0 }

-- ---- the loop

-- A loop that has come from place `at` of a chunk to place i, at the start of a line or where it
-- began: what was stored has at most one answer's bytes for each byte passed.
pub record Feeding (chunk : List ℕ) (at : ℕ) (line : List ℕ) (len : ℕ) (out : List ℕ) (used i : ℕ) (line' : List ℕ) (n : ℕ) (out' : List ℕ) (u lines : ℕ)
    : Type 0 where
  pub text : List ℕ
  pub fed : Fed chunk at line len text i line' n
  pub stores : Stored text out used out' u
  pub counts : lines ≡ newlines text
  pub few : lines ≤ i - at
  pub fits : length text ≤ length out - used
  pub most : length text ≤ 22560 * (i - at)
  pub long : length out' ≡ length out
  pub whole : ((i ≡ at) × (line' ≡ line) × (n ≡ min len 4097)) ⊎ ((at < i) × (get_or chunk (i - 1) 0 ≡ 10) × (n ≡ 0))
  pub sure : (text ≡ []) ⊎ (before : List ℕ) × (line : List ℕ) × (text ≡ before ++ line_out line) × (used + length before + 22560 ≤ length out)

-- a buffer that holds a line is filled no further than it reaches
cut_none : {chunk line : List ℕ} {at len n : ℕ} → n ≡ min len 4097 → Fed chunk at line len [] at line n
cut_none {chunk} {line} {at} {len} {n} e = record { fed_onward = omega arith; fed_within = λ l. refl; fed_filled = omega arith; fed_output = λ cur p. (cur, holds_cut e p, λ last rest. refl) }

pub feeding_begin : {chunk line out : List ℕ} {at len used n : ℕ} → n ≡ min len 4097 → Feeding chunk at line len out used at line n out used 0
feeding_begin e =
    record {
      text = [];
      fed = cut_none e;
      stores = record { stored = refl; next = omega arith };
      counts = sym no_bytes;
      few = omega arith;
      fits = omega arith;
      most = omega arith;
      long = refl;
      whole = inl (refl, refl, e);
      sure = inl refl;
    }

before : (k : ℕ) → k + 1 - 1 ≡ k
before k = omega arith

module _ {chunk line out line' out' : List ℕ} {at len used i n u lines : ℕ} (p : Feeding chunk at line len out used i line' n out' u lines) where
  -- to a newline, and what the line gives
  pub feeding_turn : {line'' out'' : List ℕ} {k m v : ℕ} → u + 22560 ≤ length out' → Fed chunk i line' n [] k line'' m → k < length chunk → get_or chunk k 0 ≡ 10
      → Stored (line_out (take m line'')) out' u out'' v → Feeding chunk at line len out used (k + 1) line'' 0 out'' v (lines + 1)
  feeding_turn {line''} {out''} {k} {m} {v} room g h e s =
      let answer = line_out (take m line'') in
      record {
        text = p.text ++ answer;
        fed = fed_then p.fed (fed_then g (fed_newline h e));
        stores = stored_then p.stores s;
        counts = omega (arith, p.counts, newlines_append p.text answer, line_one (take m line''));
        few = omega (arith, p.few, p.fed.fed_onward, g.fed_onward);
        fits = omega (arith, p.stores.next, p.long, length-append p.text answer, line_short (take m line''));
        most = omega (arith, p.most, p.fed.fed_onward, g.fed_onward, length-append p.text answer, line_short (take m line''));
        long = ap length s.stored ∙ length-sets out' u answer ∙ p.long;
        whole = inr (omega (arith, p.fed.fed_onward, g.fed_onward), ap (λ (j : ℕ). get_or chunk j 0) (before k) ∙ e, refl);
        sure = inr (p.text, take m line'', refl, omega (arith, p.stores.next, p.long));
      }

  -- to the chunk's end
  pub feeding_last : {line'' : List ℕ} {k m : ℕ} → Fed chunk i line' n [] k line'' m → length chunk ≤ k → u + 22560 ≤ length out' → Feeds chunk at line len out used k line'' m out' u lines
  feeding_last g h room =
      record {
        feeds_text = p.text;
        feeds_fed = rw append-nil at (fed_then p.fed g);
        feeds_stored = p.stores;
        feeds_lines = p.counts;
        feeds_room = p.fits;
        feeds_on = λ l r. omega arith;
        feeds_stop = λ l. absurd (omega arith);
        feeds_where = inr (inr (h, omega (arith, p.long)));
        feeds_sure = p.sure;
      }

-- ---- the input's end

-- what is held of a line, as the code has it: nothing where the line has no byte
module _ {cur line held : List ℕ} {len : ℕ} (e : held ≡ take len line) (p : Holds cur line len) where
  none_held : length held < 1 → cur ≡ []
  none_held h = nothing cur (omega (arith, ap length e, ap length p.holds_bytes, length-take 4097 cur))
    where
      nothing : (xs : List ℕ) → length xs ≡ 0 → xs ≡ []
      nothing [] k = refl
      nothing (x ∷ xs) k = absurd (omega arith)

  some_held : 1 ≤ length held → cur ≢ []
  some_held h z = omega (arith, ap length e, ap length p.holds_bytes, ap (λ (x : List ℕ). length (take 4097 x)) z)

  pub finish_none : (buf : List ℕ) → length held < 1 → Finishes NoLine cur buf buf
  unfolding Finishes
  finish_none buf h = (none_held h, refl)

  module _ {buf out : List ℕ} {r : ℕ} (h : 1 ≤ length held) (w : Wrote (line_out held) r buf out) where
    wrote_line : Wrote (line_out cur) r buf out
    wrote_line = rw (ap line_out e ∙ holds_line p) at w

    pub finish_room : r < 1 → Finishes NoRoom cur buf out
    unfolding Finishes
    finish_room l = let s = wrote_short wrote_line (line_some cur) l in (some_held h, s.0, s.1)

    pub finish_line : 1 ≤ r → Finishes (Line r) cur buf out
    unfolding Finishes
    finish_line l = let s = wrote_whole wrote_line l in (some_held h, s.0, s.1)
