-- Parsing and spelling undo each other, up to the Ź that stand inside pairs.
-- Assumes nothing.
use mathlib.Core.Path.{◌≡◌, refl, sym, ap, ap₂, ◌∙◌}
use mathlib.Core.Bool.{Bool, true, false, ◌&&◌}
use mathlib.Core.Option.{Option, none, some}
use mathlib.Core.List.{List, [], ◌∷◌, ◌++◌}
use Prim.Native.Nat.{ℕ, suc, ◌+◌, ◌-◌, ◌*◌, ◌/◌, ◌%◌, ◌<◌, ◌≤◌}
use native.Mathlib.Omega.{arith}
use lib.Dec.{ltb}
use lib.ListN.{length, length-append}
use borrow.Author.Tests.{le-leb, lt-ltb, ne_eqb}
use Rattle.std.specs.Prelude.{if◌then◌else◌}
use Rattle.helpers.specs.Answers.{Each}
use Rattle.paper.specs.Iso15417.{Set, before, A, B, C, next, digits}
use Rattle.paper.specs.Crate.{À, Ɓ, Ć, Ź, spans, point_in, State, free, held, Step, write, digit, pairs, listed, step, Parsed, stops, symbols, with_symbol, follow, finished, parse_from, parse, as_list, letters, spell_from, spelled}
use Rattle.paper.proofs.Computes.{crate_computes}
use Rattle.paper.specs.Settle.{Position, switched, moved, added, left_over, settle_from, settle, inside}
use Rattle.paper.specs.Jobs.{StartThenData}
use Rattle.paper.proofs.Settling.{settle_quiet}
use Rattle.paper.proofs.Moves.{digit_bounds, position_if, position_of, set_of, Sound, later, Fits, Form, form_cons, form_next, Listed, listed_letters, Move, stuck, holds, lists, closes, passes_by, move, Letter, double, single, letter}

-- ---- parsing, then spelling

pub stops_not_symbols : {X : Type 0} {at : ℕ} {s : List ℕ} → stops at ≡ symbols s → X
stops_not_symbols {at} {s} e = absurd (let z : ◌≡◌ {A = ℕ} 0 1 = cc in omega arith)

put_symbols : (m : ℕ) (p : Parsed) (s : List ℕ) → with_symbol m p ≡ symbols s → (t : List ℕ) × (p ≡ symbols t) × (s ≡ m ∷ t)
unfolding with_symbol
put_symbols m (stops at) s e = stops_not_symbols e
put_symbols m (symbols t) s e = (t, refl, cc)

-- what follows where the code points x, parsed from the state q, give the symbols s
pub record Settled (q : State) (x s : List ℕ) : Type 0 where
  pub spells : settle_from (position_of q) x ≡ spell_from (set_of q) s
  pub forms : Form (later (set_of q)) s
  pub low : Each (λ c. c < 0x182) x

pub next_pair : (m : ℕ) → m < 100 → next C m ≡ C
unfolding next
next_pair m h = rw (ne_eqb m 100 (omega arith), ne_eqb m 101 (omega arith))

-- a code point that makes a number be written: it is laid down where the number's letters stand,
-- and it leads where the number leads
record Wrote (q : State) (c m : ℕ) (r : State) : Type 0 where
  laid : added (position_of q) c ≡ letters (set_of q) m
  moved : moved (position_of q) c ≡ position_of r
  switched : set_of r ≡ next (set_of q) m
  fits : Fits (later (set_of q)) m
  low : c < 0x182

alone : (b : Bool) (c : ℕ) → (b && digit c) ≡ false → (added (position_if b) c ≡ c ∷ []) × (moved (position_if b) c ≡ switched (position_if b) c)
unfolding added moved
alone true c e = (rw e, rw e)
alone false c e = (refl, refl)

wrote_listed : (s : Set) (c m : ℕ) → Listed s c m → Wrote (free s) c m (free (next s m))
wrote_listed s c m l = let both = alone (pairs s) c l.no_digit in record {
  laid = both.0 ∙ sym (listed_letters s c m l);
  moved = both.1 ∙ l.names;
  switched = refl;
  fits = l.fits;
  low = l.low;
}

wrote_pair : (d c : ℕ) → d < 10 → digit c ≡ true → Wrote (held d) c (10 * d + (c - 48)) (free C)
unfolding added moved switched letters pairs digits
wrote_pair d c h k =
    let bounds = digit_bounds c k in
    let tens : (10 * d + (c - 48)) / 10 ≡ d = omega arith in
    let ones : 48 + (10 * d + (c - 48)) % 10 ≡ c = omega arith in
    record {
      laid = rw (ne_eqb c Ź (omega arith), lt-ltb (10 * d + (c - 48)) 100 (omega arith), tens, ones);
      moved = rw (ne_eqb c Ź (omega arith), ne_eqb c Ć (omega arith), ne_eqb c À (omega arith), ne_eqb c Ɓ (omega arith));
      switched = sym (next_pair (10 * d + (c - 48)) (omega arith));
      fits = omega arith;
      low = omega arith;
    }

wrote_Ź : (d : ℕ) → Wrote (held d) Ź 102 (held d)
unfolding added moved crate_computes
wrote_Ź d = record { laid = refl; moved = refl; switched = refl; fits = omega arith; low = omega arith }

settled_write : (q r : State) (c m at : ℕ) (cs s : List ℕ) → Wrote q c m r → ((t : List ℕ) → parse_from r (suc at) cs ≡ symbols t → Settled r cs t)
    → with_symbol m (parse_from r (suc at) cs) ≡ symbols s → Settled q (c ∷ cs) s
unfolding settle_from spell_from
settled_write q r c m at cs s w ih e =
    let (t, p, z) = put_symbols m (parse_from r (suc at) cs) s e in
    let rest = ih t p in
    rw z (record {
      spells = ap₂ ◌++◌ w.laid (ap (λ (h : Position). settle_from h cs) w.moved ∙ rest.spells ∙ ap (λ (a : Set). spell_from a t) w.switched);
      forms = form_cons (set_of q) m t w.fits (rw w.switched at rest.forms);
      low = (w.low, rest.low);
    })

settled_turn : {q : State} {c : ℕ} {st : Step} → Move q c st → (at : ℕ) (cs s : List ℕ)
    → ((r : State) → Sound r → (t : List ℕ) → parse_from r (suc at) cs ≡ symbols t → Settled r cs t)
    → follow st at (λ r. parse_from r (suc at) cs) ≡ symbols s → Settled q (c ∷ cs) s
unfolding follow settle_from added moved pairs
settled_turn stuck at cs s ih e = stops_not_symbols e
settled_turn (holds {c} k) at cs s ih e =
    let bounds = digit_bounds c k in
    let back : 48 + (c - 48) ≡ c = omega arith in
    let rest = ih (held (c - 48)) (omega arith) s e in
    record { spells = rw k (rw back at rest.spells); forms = rest.forms; low = (omega arith, rest.low) }
settled_turn (lists {s = a} {c} {m} l) at cs s ih e = settled_write (free a) (free (next a m)) c m at cs s (wrote_listed a c m l) (ih (free (next a m)) tt) e
settled_turn (closes {d} {c} h k) at cs s ih e =
    settled_write (held d) (free C) c (10 * d + (c - 48)) at cs s (wrote_pair d c h k) (ih (free C) tt) e
settled_turn (passes_by {d} h) at cs s ih e = settled_write (held d) (held d) Ź 102 at cs s (wrote_Ź d) (ih (held d) h) e

ended : (q : State) (at : ℕ) (s : List ℕ) → (if finished q then symbols [] else stops at) ≡ symbols s → (Settled q [] []) × (s ≡ [])
unfolding finished settle_from left_over spell_from pairs
ended (free before) at s e = stops_not_symbols e
ended (free A) at s e = (record { spells = refl; forms = tt; low = tt }, cc)
ended (free B) at s e = (record { spells = refl; forms = tt; low = tt }, cc)
ended (free C) at s e = (record { spells = refl; forms = tt; low = tt }, cc)
ended (held d) at s e = stops_not_symbols e

settled : (q : State) → Sound q → (at : ℕ) (x s : List ℕ) → parse_from q at x ≡ symbols s → Settled q x s
unfolding parse_from
settled q k at [] s e = let both = ended q at s e in rw both.1 both.0
settled q k at (c ∷ cs) s e = settled_turn (move q k c) at cs s (λ r l t p. settled r l (suc at) cs t p) e

-- an input that parses settles to the spelling of its symbols, these are a START and then data, and
-- its code points are all low
pub parse_settles : (x s : List ℕ) → parse x ≡ symbols s → settle x ≡ spelled s
unfolding parse settle spelled pairs
parse_settles x s e = (settled (free before) tt 0 x s e).spells

pub parse_form : (x s : List ℕ) → parse x ≡ symbols s → StartThenData s
unfolding parse
parse_form x s e = (settled (free before) tt 0 x s e).forms

pub parse_low : (x s : List ℕ) → parse x ≡ symbols s → Each (λ c. c < 0x182) x
unfolding parse
parse_low x s e = (settled (free before) tt 0 x s e).low

-- ---- spelling, then parsing

step_listed : (s : Set) (c m : ℕ) → Listed s c m → step (free s) c ≡ write m (free (next s m))
unfolding step listed
step_listed s c m l = rw (l.no_digit, l.number)

digit_of : (k : ℕ) → k < 10 → digit (48 + k) ≡ true
unfolding digit
digit_of k h = rw (le-leb 48 (48 + k) (omega arith), le-leb (48 + k) 57 (omega arith))

pair_parses : (m : ℕ) → m < 100 → (at : ℕ) (ms rest : List ℕ) → parse_from (free C) (suc (suc at)) rest ≡ symbols ms
    → parse_from (free C) at (digits m ++ rest) ≡ symbols (m ∷ ms)
unfolding parse_from follow with_symbol step pairs digits
pair_parses m h at ms rest ih =
    let value : 10 * (48 + m / 10 - 48) + (48 + m % 10 - 48) ≡ m = omega arith in
    rw (digit_of (m / 10) (omega arith), digit_of (m % 10) (omega arith), value, ih)

spelled_turn : {s : Set} {m : ℕ} {l : List ℕ} → Letter s m l → (at : ℕ) (ms rest : List ℕ)
    → ((a : ℕ) → parse_from (free (next s m)) a rest ≡ symbols ms) → parse_from (free s) at (l ++ rest) ≡ symbols (m ∷ ms)
unfolding parse_from follow with_symbol
spelled_turn {s} {m} (double e h) at ms rest ih = rw e (pair_parses m h at ms rest (rw (e, next_pair m h) at (ih (suc (suc at)))))
spelled_turn {s} {m} (single c l) at ms rest ih = rw (step_listed s c m l, ih (suc at))

nothing_parses : (s : Set) (at : ℕ) → Form (later s) [] → (if finished (free s) then symbols [] else stops at) ≡ symbols []
unfolding finished
nothing_parses before at f = absurd f
nothing_parses A at f = refl
nothing_parses B at f = refl
nothing_parses C at f = refl

spelled_parses : (s : Set) (at : ℕ) (ms : List ℕ) → Form (later s) ms → parse_from (free s) at (spell_from s ms) ≡ symbols ms
unfolding parse_from spell_from
spelled_parses s at [] f = nothing_parses s at f
spelled_parses s at (m ∷ ms) f =
    let both = form_next s m ms f in
    spelled_turn (letter s m both.0) at ms (spell_from (next s m) ms) (λ a. spelled_parses (next s m) a ms both.1)

pub parse_spelled : (s : List ℕ) → StartThenData s → parse (spelled s) ≡ symbols s
unfolding parse spelled
parse_spelled s f = spelled_parses before 0 s f

pub spelled_injective : (s t : List ℕ) → StartThenData s → StartThenData t → spelled s ≡ spelled t → s ≡ t
spelled_injective s t f g e = cc (parse_spelled s f, parse_spelled t g)

pub spelled_quiet : (s : List ℕ) → StartThenData s → inside (spelled s) ≡ false
spelled_quiet s f = rw (parse_settles (spelled s) s (parse_spelled s f)) at (settle_quiet (spelled s))

-- ---- how many code points

short_list : (o : Option ℕ) → length (as_list o) ≤ 1
unfolding as_list
short_list none = omega arith
short_list (some c) = omega arith

short_letters : (s : Set) (m : ℕ) → length (letters s m) ≤ 2
unfolding letters digits
short_letters s m = go (pairs s && ltb m 100)
  where
    go : (b : Bool) → length (if b then digits m else as_list (point_in (spans s) m)) ≤ 2
    go true = omega arith
    go false = omega (arith, short_list (point_in (spans s) m))

short_from : (s : Set) (ms : List ℕ) → length (spell_from s ms) ≤ 2 * length ms
unfolding spell_from
short_from s [] = omega arith
short_from s (m ∷ ms) = omega (arith, length-append (letters s m) (spell_from (next s m) ms), short_letters s m, short_from (next s m) ms)

pub spelled_short : (m : ℕ) (ms : List ℕ) → length (spelled (m ∷ ms)) ≤ 1 + 2 * length ms
unfolding spelled spell_from letters pairs
spelled_short m ms =
    omega (arith, length-append (as_list (point_in (spans before) m)) (spell_from (next before m) ms), short_list (point_in (spans before) m), short_from (next before m) ms)
