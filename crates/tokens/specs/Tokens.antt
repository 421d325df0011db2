-- The parser's types are the paper's.
-- Document 01, "Tokens and character sets". Assumes nothing.
use Rattle.std.specs.Prelude.{ℕ, ◌≡◌, true, false, List, [], ◌∷◌, length, if◌then◌else◌, Result, Ok, Err}
use Rattle.std.proofs.lemmas.List.Edits.{sets}
use Rattle.helpers.specs.Answers.{refuses, passes, every}
use Rattle.paper.specs.Iso15417.{before}
use Rattle.paper.specs.Crate as Crate
use Rattle.paper.specs.Crate.{free, held, halt, hold, write, step, stops, symbols, parse}
use Rattle.paper.specs.Jobs.{not_fnc2}
use Rattle.tokens.specs.Sets.{set_of}
use Rattle.tokens.specs.declared.parse.State.{State}
use Rattle.tokens.specs.declared.parse.State.TheVariants.{Free, Held}
use Rattle.tokens.specs.declared.parse.Token.{Token}
use Rattle.tokens.specs.declared.parse.Token.TheVariants.{Halt, Hold, Write, Retired}
use Rattle.tokens.specs.declared.parse.Unparsed.{Unparsed}
use Rattle.tokens.specs.declared.parse.Unparsed.TheVariants as No

-- the parser between two code points
unfoldable pub state_of : State → Crate.State
state_of (Free s) = free (set_of s)
state_of (Held d) = held d

-- what one code point does: this step is taken at c in the state q, and ź is set apart
unfoldable pub Does : Crate.Step → Crate.State → ℕ → Token → Type 0
Does step q c Halt = step ≡ halt
Does step q c (Hold d) = (step ≡ hold d) × (not_fnc2 c ≡ true)
Does step q c (Write m r) = (step ≡ write m (state_of r)) × (not_fnc2 c ≡ true)
Does step q c Retired = (step ≡ write 97 q) × (not_fnc2 c ≡ false)

-- what is stored of the code point c, which does this, and of the rest: ź stores nothing
unfoldable pub stored_by : Crate.Step → ℕ → (Crate.State → List ℕ) → List ℕ
stored_by halt c rest = []
stored_by (hold d) c rest = rest (held d)
stored_by (write m q) c rest = if not_fnc2 c then m ∷ rest q else rest q

-- the symbols stored from this state on: up to where parsing stops, and without those of ź
unfoldable pub stored_from : Crate.State → List ℕ → List ℕ
stored_from q [] = []
stored_from q (c ∷ cs) = stored_by (step q c) c (λ r. stored_from r cs)

-- the symbols stored of a text
unfoldable pub stored : List ℕ → List ℕ
stored x = stored_from (free before) x

-- what `parse` answers for the text x: the place where parsing stops; else that of the first ź;
-- else the number of symbols
unfoldable pub Tells : Result ℕ Unparsed → List ℕ → Type 0
Tells (Err (No.Stops at)) x = parse x ≡ stops at
Tells (Err (No.Retired at)) x = (s : List ℕ) × (parse x ≡ symbols s) × (every not_fnc2 19 0 x ≡ refuses 19 at)
Tells (Ok n) x = (s : List ℕ) × (parse x ≡ symbols s) × (every not_fnc2 19 0 x ≡ passes) × (n ≡ length s)

-- What `parse` gives for the text x: the place where parsing stops; else that of the first ź; else
-- the number of symbols, which are stored into the list that held `l`, as far as it reaches.
unfoldable pub Tokens : Result ℕ Unparsed → List ℕ → List ℕ → List ℕ → Type 0
Tokens (Err (No.Stops at)) x l m = parse x ≡ stops at
Tokens (Err (No.Retired at)) x l m = (s : List ℕ) × (parse x ≡ symbols s) × (every not_fnc2 19 0 x ≡ refuses 19 at)
Tokens (Ok n) x l m = (s : List ℕ) × (parse x ≡ symbols s) × (every not_fnc2 19 0 x ≡ passes) × (n ≡ length s) × (m ≡ sets l 0 s)
