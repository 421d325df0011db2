-- The words of the kit's libraries that the definitions are written with, each under its own name.
-- `◌-◌` stops at 0 and `◌/◌` rounds down; `leb`, `ltb`, `eqb` are the tests of ≤, < and =;
-- `get_or l i d` is the element of l at place i, and d where there is none; `set l i m` is l with m
-- at place i. Assumes nothing.
pub use Rattle.std.specs.Prelude.{ℕ, zero, suc, ◌+◌, ◌-◌, ◌*◌, ◌/◌, ◌%◌, max, ◌<◌, ◌≤◌, ◌≡◌, ◌↔◌, ◌≢◌, ◌⊎◌, Bool, true, false, not, ◌&&◌, ◌||◌, List, [], ◌∷◌, ◌++◌, map, leb, ltb, eqb, length, get_or, take, drop, set, replicate}
pub use Prim.Native.String.{String}
pub use Rattle.std.proofs.Math.Option.{Option, none, some}
