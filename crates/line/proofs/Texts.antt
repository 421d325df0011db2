-- A text in a buffer: nothing stored, and a text written to the front where it fits.
-- Assumes nothing.
use Prim.Native.Nat.{ℕ, ◌<◌, ◌≤◌}
use mathlib.Core.Path.{◌≡◌, refl, sym, ◌∙◌}
use mathlib.Core.Bool.{Bool, true, false}
use mathlib.Core.List.{List, [], ◌++◌}
use native.Mathlib.Nat.{zero-add}
use native.Mathlib.Omega.{arith}
use borrow.Author.Tests.{leb-true, leb-false, le-leb, lt-leb}
use lib.Dec.{leb}
use lib.ListN.{length, drop}
use lib.Seq.{sets}
use Rattle.std.specs.Prelude.{if◌then◌else◌}
use Rattle.helpers.proofs.Writes.{sets_front}
use Rattle.line.specs.Line.{fitting, Wrote}
use Rattle.helpers.specs.Terms.{Stored}

-- nothing stored
pub stored_none : {out : List ℕ} {at : ℕ} → Stored [] out at out at
stored_none = record { stored = refl; next = omega arith }

-- ---- where it fits

pub wrote : {text buf out : List ℕ} {r : ℕ} → length text ≤ length buf → Stored text buf 0 out r → Wrote text r buf out
unfolding fitting
wrote {text} {buf} h s =
    let long = s.next ∙ zero-add (length text) in
    record {
      wrote_length = rw (le-leb (length text) (length buf) h) long;
      wrote_buffer = rw (le-leb (length text) (length buf) h, long) (s.stored ∙ sets_front buf text h);
    }

pub wrote_none : {text buf : List ℕ} → length buf < length text → Wrote text 0 buf buf
unfolding fitting
wrote_none {text} {buf} h = record { wrote_length = rw (lt-leb (length text) (length buf) h); wrote_buffer = rw (lt-leb (length text) (length buf) h) }

-- where there is room it was written
pub wrote_fits : {text buf out : List ℕ} {r : ℕ} → Wrote text r buf out → length text ≤ length buf → (r ≡ length text) × (out ≡ sets buf 0 text)
unfolding fitting
wrote_fits {text} {buf} {out} {r} p h =
    let long : r ≡ length text = rw (le-leb (length text) (length buf) h) at p.wrote_length in
    (long, rw (le-leb (length text) (length buf) h, long) at p.wrote_buffer ∙ sym (sets_front buf text h))

-- whatever fits, no more than the buffer has
pub wrote_within : {text buf out : List ℕ} {r : ℕ} → Wrote text r buf out → r ≤ length buf
unfolding fitting
wrote_within {text} {buf} p = within (leb (length text) (length buf)) refl p.wrote_length
  where
    within : {r : ℕ} (b : Bool) → leb (length text) (length buf) ≡ b → r ≡ length (if b then text else []) → r ≤ length buf
    within true e h = omega (arith, leb-true (length text) (length buf) e)
    within false e h = omega arith

-- a text that has bytes was written where some were, and did not fit where none were
pub wrote_short : {text buf out : List ℕ} {r : ℕ} → Wrote text r buf out → 1 ≤ length text → r < 1 → (length buf < length text) × (out ≡ buf)
unfolding fitting
wrote_short {text} {buf} {out} {r} p some none = short (leb (length text) (length buf)) refl p.wrote_length p.wrote_buffer
  where
    short : (b : Bool) → leb (length text) (length buf) ≡ b → r ≡ length (if b then text else []) → out ≡ (if b then text else []) ++ drop r buf
        → (length buf < length text) × (out ≡ buf)
    short true e h w = absurd (omega arith)
    short false e h w = (omega (arith, leb-false (length text) (length buf) e), rw h at w)

pub wrote_whole : {text buf out : List ℕ} {r : ℕ} → Wrote text r buf out → 1 ≤ r → (r ≡ length text) × (out ≡ text ++ drop r buf)
unfolding fitting
wrote_whole {text} {buf} {out} {r} p some = whole (leb (length text) (length buf)) p.wrote_length p.wrote_buffer
  where
    whole : (b : Bool) → r ≡ length (if b then text else []) → out ≡ (if b then text else []) ++ drop r buf → (r ≡ length text) × (out ≡ text ++ drop r buf)
    whole true h w = (h, w)
    whole false h w = absurd (omega arith)
