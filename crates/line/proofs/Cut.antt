-- A line of more than 4,096 bytes is `?` whatever follows: its first 4,097 bytes say what it gives.
-- Assumes nothing.
use Prim.Native.Nat.{ℕ, ◌<◌}
use mathlib.Core.Path.{◌≡◌, sym, ap, ◌∙◌}
use mathlib.Core.List.{List, [], ◌∷◌}
use native.Mathlib.Omega.{arith}
use native.Mathlib.Decide.{dec_le}
use borrow.Author.Tests.{lt-leb}
use lib.ListN.{length, take, length-take}
use lib.Seq.{take_all}
use Rattle.line.specs.Line.{other_form, line_limit, content_of, line_out}

pub long_other : (line : List ℕ) → 4096 < length line → content_of line ≡ other_form
unfolding content_of line_limit
long_other [] h = absurd (omega arith)
long_other (c ∷ cs) h = rw (lt-leb (length (c ∷ cs)) 4096 h)

pub form_cut : (line : List ℕ) → content_of line ≡ content_of (take 4097 line)
form_cut line = elim (dec_le (length line) 4097) [ yes h ↦ ap content_of (sym (take_all 4097 line h)) | no h ↦ long_other line (omega arith) ∙ sym (long_other (take 4097 line) (omega (arith, length-take 4097 line))) ]

pub line_cut : (line : List ℕ) → line_out line ≡ line_out (take 4097 line)
unfolding line_out
line_cut line = rw (form_cut line)
