-- `code128::spread` meets its contract: three parts, each from one entry of the table.
-- Assumes nothing.
use Prim.Native.Nat.{ℕ, ◌/◌, ◌%◌, ◌*◌}
use mathlib.Core.Path.{◌≡◌, refl, sym, ap, ◌∙◌}
use mathlib.Core.List.{List}
use native.Mathlib.Omega.{arith}
use lib.ListN.{length, get_or, take, length-take}
use Rattle.paper.specs.Jobs.{bits}
use Rattle.paper.proofs.Computes.{iso15417_computes}
use Rattle.code128.specs.Words.{words_from, words}
use Rattle.code128.specs.Quads.{low_bytes, quads_from, quads, spread_of}
use Rattle.code128.proofs.Words.{word_pattern}
use Rattle.code128.proofs.Joins.{quad_bytes, three_parts}
use Rattle.code128.proofs.spread.Goals as goal

pub slice_bounds-copy_from_slice-end-2 : goal.slice_bounds-copy_from_slice-end-2
slice_bounds-copy_from_slice-end-2 c = omega (arith, length-take 4 c.args.part.now)

pub copy_from_slice-requires : goal.copy_from_slice-requires
copy_from_slice-requires c =
    let front : length (take 4 c.args.part.now) ≡ 4 = omega (arith, length-take 4 c.args.part.now) in
    let four : length c.to_le_bytes.result ≡ 4 = ap length c.to_le_bytes.ensures in
    front ∙ sym four

pub returns : goal.returns
unfolding iso15417_computes bits words_from words quads_from quads low_bytes spread_of
returns c =
    let m = c.args.m in
    let w = c.from-word.result in
    let word : w ≡ get_or words m 0 = c.from-word.ensures ∙ ap (λ (t : List ℕ). get_or t c.from.result 0) c.word_table.ensures ∙ ap (λ (n : ℕ). get_or words n 0) c.from.ensures in
    let a = get_or quads (w / 128 % 16) 0 in
    let b = get_or quads (w / 8 % 16) 0 in
    let d = get_or quads (w % 8 * 2) 0 in
    let first : c.copy_from_slice.new.self ≡ low_bytes 4 a = c.copy_from_slice.ensures.after ∙ c.to_le_bytes.ensures ∙ quad_bytes _ (omega arith) in
    let next : c.copy_from_slice-2.new.self ≡ low_bytes 4 b = c.copy_from_slice-2.ensures.after ∙ c.to_le_bytes-2.ensures ∙ quad_bytes _ (omega arith) in
    let last : c.copy_from_slice-3.new.self ≡ low_bytes 3 d = c.copy_from_slice-3.ensures.after ∙ ap (take 3) (c.to_le_bytes-3.ensures ∙ quad_bytes _ (omega arith)) in
    rw (first, next, last)
    (three_parts c.args.part.now (low_bytes 4 a) (low_bytes 4 b) (low_bytes 3 d) c.requires.0 refl refl refl
    ∙ rw word (word_pattern m (omega arith)))
