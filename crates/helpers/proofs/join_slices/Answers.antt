-- `helpers::join_slices` meets its contract: what is copied is what both reach.
-- Assumes nothing.
use mathlib.Core.Path.{sym, ap, ◌∙◌}
use mathlib.Core.List.{List, ◌++◌}
use Prim.Native.Nat.{ℕ}
use lib.ListN.{drop}
use Rattle.helpers.proofs.Writes.{sets_short}
use Rattle.helpers.proofs.join_slices.Goals as goal

pub returns : goal.returns
returns c =
    ap (λ (m : List ℕ). m ++ drop c.min-n.result c.args.part.now) c.copy_from_slice.ensures.after
    ∙ sym (sets_short c.args.slice.now c.args.part.now c.min-n.result c.min-n.ensures)
