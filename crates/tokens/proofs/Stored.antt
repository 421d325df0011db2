-- The symbols that the parser stores: from a place on; those of the whole text where it parses and
-- has no ź; and that the contract allows one answer and one list alone.
-- Assumes nothing.
use Prim.Native.Nat.{ℕ, suc, ◌<◌, ◌≤◌}
use mathlib.Core.Path.{◌≡◌, refl, sym, ap, ◌∙◌}
use mathlib.Core.Bool.{Bool, true, false}
use mathlib.Core.List.{List, [], ◌∷◌}
use native.Mathlib.Omega.{arith}
use lib.ListN.{length, get_or, drop, drop_of_length-le}
use lib.Seq.{sets, drop-cons}
use Rattle.std.specs.Prelude.{if◌then◌else◌, Result, Ok, Err}
use Rattle.helpers.specs.Answers.{Test, refuses, passes, every}
use Rattle.paper.specs.Iso15417.{before}
use Rattle.paper.specs.Crate as Crate
use Rattle.paper.specs.Crate.{State, free, held, Step, halt, hold, write, step, stops, symbols, with_symbol, follow, finished, parse_from, parse}
use Rattle.paper.specs.Jobs.{not_fnc2}
use Rattle.tokens.specs.Tokens.{stored_by, stored_from, stored, Tells, Tokens}
use Rattle.tokens.specs.declared.parse.Unparsed.{Unparsed}
use Rattle.tokens.specs.declared.parse.Unparsed.TheVariants.{Stops, Retired}

-- ---- from place i on

pub stored_turn : (q : State) (x : List ℕ) (i : ℕ) → i < length x
    → stored_from q (drop i x) ≡ stored_by (step q (get_or x i 0)) (get_or x i 0) (λ r. stored_from r (drop (suc i) x))
unfolding stored_from
stored_turn q x i l = rw (drop-cons x i 0 l)

pub stored_over : (q : State) (x : List ℕ) (i : ℕ) → length x ≤ i → stored_from q (drop i x) ≡ []
unfolding stored_from
stored_over q x i l = rw (drop_of_length-le x l)

-- ---- a text that has no ź: where it parses, its symbols are what is stored

abbrev Whole : List ℕ → Crate.Parsed → Type 0
Whole vs (stops at) = Unit {0}
Whole vs (symbols s) = vs ≡ s

ending_whole : (b : Bool) (at : ℕ) → Whole [] (if b then symbols [] else stops at)
ending_whole true at = refl
ending_whole false at = tt

symbol_whole : (m : ℕ) (vs : List ℕ) (p : Crate.Parsed) → Whole vs p → Whole (m ∷ vs) (with_symbol m p)
unfolding with_symbol
symbol_whole m vs (stops at) h = tt
symbol_whole m vs (symbols s) h = ap (λ (l : List ℕ). m ∷ l) h

turn_whole : (t : Step) (c at : ℕ) (vs : State → List ℕ) (p : State → Crate.Parsed) → not_fnc2 c ≡ true → ((r : State) → Whole (vs r) (p r))
    → Whole (stored_by t c vs) (follow t at p)
unfolding stored_by follow
turn_whole halt c at vs p u h = tt
turn_whole (hold d) c at vs p u h = h (held d)
turn_whole (write m r) c at vs p u h = rw u (symbol_whole m (vs r) (p r) (h r))

-- the test of the first code point, and that of the rest
both_pass : (b : Bool) (t : Test) (at : ℕ) → (if b then t else refuses 19 at) ≡ passes → (b ≡ true) × (t ≡ passes)
both_pass true t at h = (refl, h)
both_pass false t at h = absurd (let z : ◌≡◌ {A = ℕ} 0 1 = cc in omega arith)

whole : (q : State) (at : ℕ) (x : List ℕ) → every not_fnc2 19 at x ≡ passes → Whole (stored_from q x) (parse_from q at x)
unfolding stored_from parse_from every
whole q at [] h = ending_whole (finished q) at
whole q at (c ∷ cs) h =
    let (u, v) = both_pass (not_fnc2 c) (every not_fnc2 19 (suc at) cs) at h in
    turn_whole (step q c) c at _ _ u (λ r. whole r (suc at) cs v)

pub stored_all : (x s : List ℕ) → parse x ≡ symbols s → every not_fnc2 19 0 x ≡ passes → stored x ≡ s
unfolding stored parse
stored_all x s p h = rw p at (whole (free before) 0 x h)

-- ---- any two results that the contract allows are equal

abbrev told : Crate.Parsed → Test → Result ℕ Unparsed
told (stops at) t = Err (Stops at)
told (symbols s) (refuses k at) = Err (Retired at)
told (symbols s) passes = Ok (length s)

tells_told : (r : Result ℕ Unparsed) (x : List ℕ) → Tells r x → r ≡ told (parse x) (every not_fnc2 19 0 x)
unfolding Tells
tells_told (Err (Stops at)) x p = rw p refl
tells_told (Err (Retired at)) x (s, p, e) = rw (p, e) refl
tells_told (Ok n) x (s, p, e, k) = rw (p, e, k) refl

-- both of what `parse` promises
abbrev pub Gives : Result ℕ Unparsed → List ℕ → List ℕ → List ℕ → Type 0
Gives r x l m = Tells r x × (m ≡ sets l 0 (stored x))

pub gives_tokens : (r : Result ℕ Unparsed) (x l m : List ℕ) → Gives r x l m → Tokens r x l m
unfolding Tells Tokens
gives_tokens (Err (Stops at)) x l m (t, e) = t
gives_tokens (Err (Retired at)) x l m (t, e) = t
gives_tokens (Ok n) x l m ((s, p, u, k), e) = (s, p, u, k, e ∙ ap (sets l 0) (stored_all x s p u))

-- as `parse` promises it, by clauses
pub gives_both : (r : Result ℕ Unparsed) (x l m : List ℕ) → Gives r x l m → record { tokens : Tokens r x l m; stored : m ≡ sets l 0 (stored x) }
gives_both r x l m both = record { tokens = gives_tokens r x l m both; stored = both.1 }

pub tokens_one : (r r' : Result ℕ Unparsed) (x l m m' : List ℕ) → Gives r x l m → Gives r' x l m' → (r ≡ r') × (m ≡ m')
tokens_one r r' x l m m' (t, e) (t', e') = (tells_told r x t ∙ sym (tells_told r' x t'), e ∙ sym e')
