-- The walk over the blocks: what may stand at a block, and laws of the loop that looks each up and
-- stores its number.
-- Assumes nothing.
use Rattle.std.specs.Prelude.{Result, Ok, Err}
use Prim.Native.Nat.{ℕ, suc, ◌+◌, ◌-◌, ◌*◌, ◌<◌, ◌≤◌}
use mathlib.Core.Path.{◌≡◌, refl, sym, ◌∙◌}
use mathlib.Core.Bool.{true, false}
use mathlib.Core.List.{List, []}
use native.Mathlib.Nat.{sub-zero}
use native.Mathlib.Numerals.{add-one}
use native.Mathlib.Omega.{arith}
use lib.ListN.{length, take, drop, set, length-set}
use lib.Seq.{drop-drop, take-suc-set, take_all}
use Rattle.helpers.proofs.Ahead.{ahead, ahead_one, ahead_stays, ahead_all}
use Rattle.paper.specs.Iso15417.{Look, is, worn, unknown, found}
use Rattle.paper.specs.Jobs.{wrong_block, numbers, fits_at, with_number, block, blocks_from}
use Rattle.helpers.specs.declared.Refusal.{Refusal}
use Rattle.helpers.specs.declared.Refusal.TheVariants.{Pattern, Worn}
use Rattle.helpers.specs.Numbers.{refusal_number, refusal_second}
use Rattle.reader.specs.Parts.{found_as}

-- ---- what `find` answered of the block at hand

-- a refusal by 16 is that of a worn block
pub found_worn : (b : ℕ) (x : Look) {k : ℕ} {r : Result ℕ Refusal} → r ≡ Err (Worn k) → r ≡ found_as b x → worn ≡ x
unfolding found_as
found_worn b (is m) f e = absurd (let z : ◌≡◌ {A = ℕ} 0 1 = cc in omega arith)
found_worn b worn f e = refl
found_worn b unknown f e = absurd (let z : ◌≡◌ {A = ℕ} 0 1 = cc in omega arith)

-- a number is that of the pattern
pub said_number : (b : ℕ) (x : Look) {m : ℕ} → Ok m ≡ found_as b x → x ≡ is m
unfolding found_as
said_number b (is n) {m} e = let same : m ≡ n = cc in rw same refl
said_number b worn e = absurd (let z : ◌≡◌ {A = ℕ} 0 1 = cc in omega arith)
said_number b unknown e = absurd (let z : ◌≡◌ {A = ℕ} 0 1 = cc in omega arith)

-- ---- the numbers of the blocks passed, before what the others give

after_wrong : (ms : List ℕ) (k b : ℕ) → ahead with_number ms (wrong_block k b) ≡ wrong_block k b
unfolding with_number
after_wrong ms k b = ahead_stays with_number (wrong_block k b) (λ m. refl) ms

after_none : (ms : List ℕ) → ahead with_number ms (numbers []) ≡ numbers ms
unfolding with_number
after_none ms = ahead_all with_number numbers (λ m ms. refl) ms

-- A loop over the blocks of cs that has come to block b: the list was l₀, and now, as l, has the
-- numbers of those before b at its front.
pub record Walking (cs l₀ l : List ℕ) (b : ℕ) : Type 0 where
  pub long : length l ≡ length l₀
  pub rest : blocks_from (length l₀) 0 cs ≡ ahead with_number (take b l) (blocks_from (length l₀ - b) b (drop (11 * b) cs))

pub walk_begin : {cs l : List ℕ} → Walking cs l l 0
unfolding ahead
walk_begin {l} = record { long = refl; rest = rw (sub-zero (length l)) refl }

-- the cells of block b
abbrev pub block_at : List ℕ → ℕ → List ℕ
block_at cs b = take 11 (drop (11 * b) cs)

module _ {cs l₀ l : List ℕ} {b : ℕ} (p : Walking cs l₀ l b) (h : b < length l₀) where
  -- the block at hand, and those after it
  here : blocks_from (length l₀) 0 cs ≡ ahead with_number (take b l) (block (found (block_at cs b)) b (blocks_from (length l₀ - suc b) (suc b) (drop (11 * suc b) cs)))
  unfolding blocks_from
  here =
      let more : length l₀ - b ≡ suc (length l₀ - suc b) = omega arith in
      let next : 11 * b + 11 ≡ 11 * suc b = omega arith in
      p.rest ∙ rw (more, drop-drop 11 (11 * b) cs, next) refl

  pub walk_worn : worn ≡ found (block_at cs b) → wrong_block 16 b ≡ blocks_from (length l₀) 0 cs
  unfolding block
  walk_worn e = sym (here ∙ rw (← e) (after_wrong (take b l) 16 b))

  pub walk_unknown : unknown ≡ found (block_at cs b) → wrong_block 12 b ≡ blocks_from (length l₀) 0 cs
  unfolding block
  walk_unknown e = sym (here ∙ rw (← e) (after_wrong (take b l) 12 b))

  -- a refusal is the block's
  refused_as : (x : Look) {r : Refusal} → x ≡ found (block_at cs b) → Err r ≡ found_as b x → wrong_block (refusal_number r) (refusal_second r) ≡ blocks_from (length l₀) 0 cs
  unfolding found_as refusal_number
  refused_as (is m) f e = absurd (let z : ◌≡◌ {A = ℕ} 0 1 = cc in omega arith)
  refused_as worn {r} f e = let same : Worn b ≡ r = cc in rw (← same) (walk_worn f)
  refused_as unknown {r} f e = let same : Pattern b ≡ r = cc in rw (← same) (walk_unknown f)

  pub walk_not : {r : Refusal} → Err r ≡ found_as b (found (block_at cs b)) → wrong_block (refusal_number r) (refusal_second r) ≡ blocks_from (length l₀) 0 cs
  walk_not e = refused_as (found (block_at cs b)) refl e

  module _ (m : ℕ) (e : found (block_at cs b) ≡ is m) where
    pub walk_misfit : fits_at b m ≡ false → wrong_block 13 b ≡ blocks_from (length l₀) 0 cs
    unfolding block
    walk_misfit f = sym (here ∙ rw (e, f) (after_wrong (take b l) 13 b))

    pub walk_turn : fits_at b m ≡ true → Walking cs l₀ (set l b m) (b + 1)
    unfolding block
    walk_turn f = record { long = length-set l b m ∙ p.long; rest = rw (add-one b, take-suc-set l b m (omega (arith, p.long)), ahead_one) (here ∙ rw (e, f) refl) }

pub walk_end : {cs l₀ l : List ℕ} {b : ℕ} → Walking cs l₀ l b → length l₀ ≤ b → numbers l ≡ blocks_from (length l₀) 0 cs
unfolding blocks_from
walk_end {cs} {l₀} {l} {b} p h =
    let none : length l₀ - b ≡ 0 = omega arith in
    sym (p.rest ∙ rw (none, take_all b l (omega (arith, p.long))) (after_none l))
