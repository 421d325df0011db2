-- `reader::find` meets its contract: a loop over the patterns, in it one over the cells, and the
-- ones of the block's word if it is no pattern.
-- Assumes nothing.
use Prim.Native.Nat.{ℕ, ◌≤◌}
use mathlib.Core.List.{List}
use Rattle.helpers.specs.Answers.{Each}
use mathlib.Core.Path.{◌≡◌, refl}
use native.Mathlib.Omega.{arith}
use lib.ListN.{length, get_or}
use Rattle.helpers.proofs.Answering.{each_at}
use Rattle.paper.specs.Iso15417.{worn_or_unknown, found}
use Rattle.paper.specs.Jobs.{bits}
use Rattle.paper.proofs.Computes.{iso15417_computes}
use Rattle.code128.specs.Words.{words_from, words, cells_of}
use Rattle.reader.specs.Parts.{word_of, found_as}
use Rattle.reader.proofs.Finds.{match_turn, match_not, match_end, hunt_begin, hunt_none, hunt_end, hunt_match, hunt_turn, hunt_hit}
use Rattle.reader.proofs.Words.{word_cells, word_odd, word_even}
use Rattle.reader.proofs.find.Goals as goal
use Rattle.reader.proofs.find.Goals.{then-search+else-patterns-test, else-search}

-- the cells of the block's word are the block's
block_cells : (cs : List ℕ) (w : ℕ) → (length cs ≡ 11) → Each (λ c. c ≤ 1) cs → w ≡ word_of 0 cs → cells_of 11 w ≡ cs
block_cells cs w h clean e = rw e (word_cells cs clean h)

-- a first cell that is no bar is a space
space_cell : (cs : List ℕ) → (length cs ≡ 11) × Each (λ c. c ≤ 1) cs → (get_or cs 0 0 ≡ 1 → ⊥) → get_or cs 0 0 ≡ 0
space_cell cs (h, clean) n = let low = each_at (λ c. c ≤ 1) cs 0 0 clean (omega arith) in omega arith

pub patterns-init : goal.patterns-init
patterns-init c = hunt_begin _

pub loop-j-init : goal.loop-j-init
unfolding iso15417_computes bits words_from words
loop-j-init c =
    let v = block_cells c.args.cells.now _ c.requires.0 c.requires.1 c.word-block.ensures in
    hunt_match c.patterns.invariant _ v c.word_table-pattern-items.ensures (omega arith) c.if-search.true

pub loop-j-preserved : goal.loop-j-preserved
loop-j-preserved c = match_turn c.loop-j.invariant (omega arith) c.if-block-j.false

pub patterns-preserved : goal.patterns-preserved
unfolding iso15417_computes bits words_from words
patterns-preserved c =
    let v = block_cells c.args.cells.now _ c.requires.0 c.requires.1 c.word-block.ensures in
    hunt_turn c.patterns.invariant _ v c.word_table-pattern-items.ensures (omega arith) (match_not c.loop-j.invariant (omega arith) c.if-block-j.true)

pub returns-after-loop-j : goal.returns-after-loop-j
unfolding found_as iso15417_computes bits words_from words
returns-after-loop-j c =
    let v = block_cells c.args.cells.now _ c.requires.0 c.requires.1 c.word-block.ensures in
    rw (hunt_hit c.patterns.invariant _ v c.word_table-pattern-items.ensures (omega arith) (match_end c.loop-j.invariant (omega arith))) refl

-- where the search has ended, or was not begun, the block is none of the patterns
pub returns-then-block-eq1 : goal.returns-then-block-eq1
unfolding found_as
returns-then-block-eq1 c =
    let none : found c.args.cells.now ≡ worn_or_unknown c.args.cells.now = elim c.if-search.branch [
      | then-search+else-patterns-test w ↦ hunt_end w.patterns.invariant (omega arith)
      | else-search w ↦ hunt_none c.args.cells.now (space_cell c.args.cells.now c.requires w.if-search.false)
    ] in
    rw (none, word_odd c.args.cells.now c.requires.1 (rw c.word-block.ensures at c.if-block-eq1.true)) refl

pub returns-else-block-eq1 : goal.returns-else-block-eq1
unfolding found_as
returns-else-block-eq1 c =
    let none : found c.args.cells.now ≡ worn_or_unknown c.args.cells.now = elim c.if-search.branch [
      | then-search+else-patterns-test w ↦ hunt_end w.patterns.invariant (omega arith)
      | else-search w ↦ hunt_none c.args.cells.now (space_cell c.args.cells.now c.requires w.if-search.false)
    ] in
    rw (none, word_even c.args.cells.now c.requires.1 (rw c.word-block.ensures at c.if-block-eq1.false)) refl
