-- UTF-8 bytes: a code point has one or more, and from 80 (hex) on two or more.
-- Assumes nothing.
use Prim.Native.Nat.{ℕ, ◌<◌, ◌≤◌}
use mathlib.Core.Path.{◌≡◌}
use mathlib.Core.Bool.{Bool, true, false}
use native.Mathlib.Omega.{arith}
use lib.Dec.{ltb}
use borrow.Author.Tests.{lt-ltb, le-ltb}
use Rattle.std.specs.Prelude.{if◌then◌else◌}
use Rattle.paper.specs.Crate.{utf8_of}

bytes_case : (b c d : Bool) → (1 ≤ (if b then 1 else if c then 2 else if d then 3 else 4)) × (b ≡ false → 2 ≤ (if b then 1 else if c then 2 else if d then 3 else 4))
bytes_case true c d = (omega arith, λ e. absurd (let z : ◌≡◌ {A = ℕ} 0 1 = cc in omega arith))
bytes_case false true d = (omega arith, λ e. omega arith)
bytes_case false false true = (omega arith, λ e. omega arith)
bytes_case false false false = (omega arith, λ e. omega arith)

pub one_byte : (c : ℕ) → 1 ≤ utf8_of c
unfolding utf8_of
one_byte c = (bytes_case (ltb c 0x80) (ltb c 0x800) (ltb c 0x10000)).0

pub low_byte : (c : ℕ) → c < 0x80 → utf8_of c ≡ 1
unfolding utf8_of
low_byte c h = rw (lt-ltb c 0x80 h)

pub high_bytes : (c : ℕ) → 0x80 ≤ c → 2 ≤ utf8_of c
unfolding utf8_of
high_bytes c h = (bytes_case (ltb c 0x80) (ltb c 0x800) (ltb c 0x10000)).1 (le-ltb c 0x80 h)
