-- What encode answers where parsing stops: UTF-8 bytes, and one law for each way out.
-- Assumes nothing.
use Prim.Native.Nat.{ℕ, ◌+◌, ◌<◌}
use mathlib.Core.Path.{◌≡◌, refl}
use mathlib.Core.Bool.{Bool, true, false, not}
use mathlib.Core.List.{List, [], ◌∷◌}
use native.Mathlib.Decide.{dec_le}
use native.Mathlib.Omega.{arith}
use native.Mathlib.Nat.{zero-add}
use lib.Dec.{leb}
use lib.ListN.{length, get_or}
use borrow.Author.Tests.{le-leb, lt-leb}
use Rattle.std.specs.Prelude.{Some, None, position}
use Rattle.helpers.specs.Answers.{refuse, ◌then◌, ask}
use Rattle.helpers.proofs.Found.{every_found, every_passed}
use Rattle.paper.specs.Crate.{utf8_of, utf8_bytes, is_scalar}
use Rattle.paper.proofs.Utf8.{one_byte, low_byte, high_bytes}
use Rattle.tokens.specs.Stopped.{stopped_at}

-- ---- UTF-8 bytes: two as soon as there are two code points, or one of at least 80 (hex)

pub two_bytes_none : (x : List ℕ) → length x ≡ 0 → leb 2 (utf8_bytes x) ≡ false
unfolding utf8_bytes
two_bytes_none [] h = refl
two_bytes_none (c ∷ x) h = absurd (omega arith)

pub two_bytes_one : (x : List ℕ) → length x ≡ 1 → leb 2 (utf8_bytes x) ≡ leb 0x80 (get_or x 0 0)
unfolding utf8_bytes
two_bytes_one [] e = absurd (omega arith)
two_bytes_one (c ∷ []) e =
    elim (dec_le 0x80 c) [
      | yes h ↦ rw (le-leb 2 (utf8_of c + 0) (omega (arith, high_bytes c h)), le-leb 0x80 c h)
      | no h ↦ rw (lt-leb 2 (utf8_of c + 0) (omega (arith, low_byte c (omega arith))), lt-leb 0x80 c (omega arith))
    ]
two_bytes_one (c ∷ d ∷ x) e = absurd (omega arith)

pub two_bytes_many : (x : List ℕ) → 1 < length x → leb 2 (utf8_bytes x) ≡ true
unfolding utf8_bytes
two_bytes_many [] h = absurd (omega arith)
two_bytes_many (c ∷ []) h = absurd (omega arith)
two_bytes_many (c ∷ d ∷ x) h = le-leb 2 (utf8_of c + (utf8_of d + utf8_bytes x)) (omega (arith, one_byte c, one_byte d))

-- ---- where parsing stops

-- is it no scalar value?
abbrev pub no_scalar : ℕ → Bool
no_scalar c = not (is_scalar c)

apart : (c : ℕ) → is_scalar c ≡ not (no_scalar c)
apart c = elim (is_scalar c) as (λ b. b ≡ not (not b)) [ true ↦ refl | false ↦ refl ]

module _ (x : List ℕ) (at : ℕ) where
  pub stopped_scalar : {j : ℕ} → position no_scalar x ≡ Some j → stopped_at x at ≡ refuse 1 j
  unfolding stopped_at ◌then◌
  stopped_scalar {j} e = rw (every_found is_scalar no_scalar apart 1 0 x e, zero-add j)

  pub stopped_bytes : position no_scalar x ≡ None → leb 2 (utf8_bytes x) ≡ false → stopped_at x at ≡ refuse 2 0
  unfolding stopped_at ◌then◌ ask
  stopped_bytes e f = rw (every_passed is_scalar no_scalar apart 1 0 x e, f)

  pub stopped_there : position no_scalar x ≡ None → leb 2 (utf8_bytes x) ≡ true → stopped_at x at ≡ refuse 3 at
  unfolding stopped_at ◌then◌ ask
  stopped_there e f = rw (every_passed is_scalar no_scalar apart 1 0 x e, f)
