-- The parser's numbers: a place within the text, or no more symbols than it has code points.
-- Assumes nothing.
use Prim.Native.Nat.{ℕ, suc, ◌+◌, ◌≤◌}
use mathlib.Core.Path.{◌≡◌}
use mathlib.Core.Bool.{Bool, true, false}
use mathlib.Core.List.{List, [], ◌∷◌}
use native.Mathlib.Omega.{arith}
use lib.ListN.{length}
use Rattle.std.specs.Prelude.{if◌then◌else◌}
use Rattle.paper.specs.Iso15417.{before}
use Rattle.paper.specs.Crate.{State, free, held, Step, halt, hold, write, step, Parsed, stops, symbols, with_symbol, follow, finished, parse_from, parse}

abbrev Within : ℕ → ℕ → Parsed → Type 0
Within at n (stops p) = p ≤ at + n
Within at n (symbols s) = length s ≤ n

ending_within : (b : Bool) (at : ℕ) → Within at 0 (if b then symbols [] else stops at)
ending_within true at = omega arith
ending_within false at = omega arith

symbol_within : (at n m : ℕ) (p : Parsed) → Within (suc at) n p → Within at (suc n) (with_symbol m p)
unfolding with_symbol
symbol_within at n m (stops p) h = omega arith
symbol_within at n m (symbols s) h = omega arith

on_within : (at n : ℕ) (p : Parsed) → Within (suc at) n p → Within at (suc n) p
on_within at n (stops p) h = omega arith
on_within at n (symbols s) h = omega arith

follow_within : (t : Step) (at n : ℕ) (rest : State → Parsed) → ((q : State) → Within (suc at) n (rest q)) → Within at (suc n) (follow t at rest)
unfolding follow
follow_within halt at n rest h = omega arith
follow_within (hold d) at n rest h = on_within at n (rest (held d)) (h (held d))
follow_within (write m q) at n rest h = symbol_within at n m (rest q) (h q)

within : (q : State) (at : ℕ) (x : List ℕ) → Within at (length x) (parse_from q at x)
unfolding parse_from
within q at [] = ending_within (finished q) at
within q at (c ∷ cs) = follow_within (step q c) at (length cs) _ (λ r. within r (suc at) cs)

-- the place where parsing stops, and the number of symbols
pub stops_within : (x : List ℕ) (at : ℕ) → parse x ≡ stops at → at ≤ length x
unfolding parse
stops_within x at e = omega (arith, rw e at (within (free before) 0 x))

pub symbols_within : (x s : List ℕ) → parse x ≡ symbols s → length s ≤ length x
unfolding parse
symbols_within x s e = rw e at (within (free before) 0 x)
