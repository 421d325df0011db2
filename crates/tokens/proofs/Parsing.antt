-- The parser, one code point at a time, and a loop over a text that stores what it writes.
-- Assumes nothing.
use Prim.Native.Nat.{ℕ, suc, ◌+◌, ◌<◌, ◌≤◌}
use mathlib.Core.Path.{◌≡◌, refl, ap, ◌∙◌}
use mathlib.Core.Bool.{true, false}
use mathlib.Core.List.{List, [], ◌∷◌, ◌++◌}
use native.Mathlib.Numerals.{add-one}
use native.Mathlib.Omega.{arith}
use lib.ListN.{length, get_or, set, drop, drop_of_length-le, length-set}
use lib.Seq.{sets, drop-cons}
use Rattle.std.specs.Prelude.{if◌then◌else◌, Option, Some, None, Ok, Err}
use Rattle.std.specs.Option.{option_or}
use Rattle.helpers.specs.Answers.{refuses, passes, every}
use Rattle.paper.specs.Iso15417.{before}
use Rattle.paper.specs.Crate.{State, free, held, Step, halt, hold, write, step, stops, symbols, with_symbol, follow, finished, parse_from, parse}
use Rattle.paper.specs.Jobs.{not_fnc2}
use Rattle.paper.proofs.Moves.{digit_bounds, Sound, Move, stuck, holds, lists, closes, passes_by, move}
use Rattle.helpers.proofs.Ahead.{ahead, ahead_one, ahead_stays, ahead_all}
use Rattle.tokens.specs.Tokens.{stored_by, stored_from, stored, Tells}
use Rattle.tokens.specs.declared.parse.Unparsed.TheVariants.{Stops, Retired}
use Rattle.tokens.proofs.Stored.{Gives, stored_turn, stored_over, stored_all}

-- ---- one code point

-- a sound state is left sound: what is held is a digit's value
abbrev pub SoundStep : Step → Type 0
SoundStep halt = Unit {0}
SoundStep (hold d) = Sound (held d)
SoundStep (write m q) = Sound q

move_sound : {q : State} {c : ℕ} {t : Step} → Move q c t → SoundStep t
move_sound stuck = tt
move_sound (holds {c} h) = omega (arith, digit_bounds c h)
move_sound (lists l) = tt
move_sound (closes k h) = tt
move_sound (passes_by k) = k

pub sound_step : (q : State) → Sound q → (c : ℕ) → SoundStep (step q c)
sound_step q k c = move_sound (move q k c)

-- ---- parsing, with the symbols `done` already found

puts_stops : (done : List ℕ) (p : ℕ) → ahead with_symbol done (stops p) ≡ stops p
unfolding with_symbol
puts_stops done p = ahead_stays with_symbol (stops p) (λ m. refl) done

puts_end : (done : List ℕ) → ahead with_symbol done (symbols []) ≡ symbols done
unfolding with_symbol
puts_end done = ahead_all with_symbol symbols (λ m ms. refl) done

parse_turn : (q : State) (x : List ℕ) (i : ℕ) → i < length x
    → parse_from q i (drop i x) ≡ follow (step q (get_or x i 0)) i (λ r. parse_from r (suc i) (drop (suc i) x))
unfolding parse_from
parse_turn q x i l = rw (drop-cons x i 0 l)

-- ---- a loop that stores what it parses and notes the first ź

-- the first ź is noted, if there is one before place i
abbrev pub Noted : List ℕ → ℕ → Option ℕ → Type 0
Noted x i None = every not_fnc2 19 0 x ≡ every not_fnc2 19 i (drop i x)
Noted x i (Some at) = every not_fnc2 19 0 x ≡ refuses 19 at

-- another code point goes by
noted_by : (x : List ℕ) (i : ℕ) (first : Option ℕ) → i < length x → not_fnc2 (get_or x i 0) ≡ true → Noted x i first → Noted x (i + 1) first
unfolding every
noted_by x i None h u p = p ∙ rw (drop-cons x i 0 h, u, add-one i) refl
noted_by x i (Some at) h u p = p

-- a ź is noted where none is, and a later one changes nothing
noted_there : (x : List ℕ) (i : ℕ) (first : Option ℕ) → i < length x → not_fnc2 (get_or x i 0) ≡ false → Noted x i first → Noted x (i + 1) (option_or first (Some i))
unfolding every
noted_there x i None h u p = p ∙ rw (drop-cons x i 0 h, u) refl
noted_there x i (Some at) h u p = p

noted_none : (x : List ℕ) (i : ℕ) → length x ≤ i → Noted x i None → every not_fnc2 19 0 x ≡ passes
unfolding every
noted_none x i h p = p ∙ rw (drop_of_length-le x h)

-- It has come to place i of the text x in the state q, has stored n symbols into the list that held
-- l₀, and has noted the first ź.
pub record Parsing (x l₀ l : List ℕ) (q : State) (n : ℕ) (first : Option ℕ) (i : ℕ) : Type 0 where
  pub within : i ≤ length x
  pub few : n ≤ i
  pub sound : Sound q
  pub done : List ℕ
  pub rest : parse x ≡ ahead with_symbol done (parse_from q i (drop i x))
  pub long : length l ≡ length l₀
  -- the stores that are left, made now, give what the whole run gives
  pub left : sets l n (stored_from q (drop i x)) ≡ sets l₀ 0 (stored x)
  pub count : n + length (stored_from q (drop i x)) ≡ length (stored x)
  pub noted : Noted x i first

pub parsing_begin : {x l : List ℕ} → Parsing x l l (free before) 0 None 0
unfolding parse ahead stored
parsing_begin =
    record {
      within = omega arith;
      few = omega arith;
      sound = tt;
      done = [];
      rest = refl;
      long = refl;
      left = refl;
      count = omega arith;
      noted = refl;
    }

module _ {x l₀ l : List ℕ} {q : State} {n : ℕ} {first : Option ℕ} {i : ℕ} (p : Parsing x l₀ l q n first i) where
  pub parsing_hold : i < length x → {d : ℕ} → (step q (get_or x i 0) ≡ hold d) × (not_fnc2 (get_or x i 0) ≡ true) → Parsing x l₀ l (held d) n first (i + 1)
  unfolding follow stored_by
  parsing_hold h {d} (e, u) =
      let same : stored_from q (drop i x) ≡ stored_from (held d) (drop (i + 1) x) = rw (stored_turn q x i h, e, add-one i) refl in
      record {
        within = omega arith;
        few = omega (arith, p.few);
        sound = rw e at (sound_step q p.sound (get_or x i 0));
        done = p.done;
        rest = p.rest ∙ rw (parse_turn q x i h, e, add-one i) refl;
        long = p.long;
        left = rw same at p.left;
        count = rw same at p.count;
        noted = noted_by x i first h u p.noted;
      }

  -- a symbol more, of any code point
  one_more : i < length x → {m : ℕ} {r : State} → step q (get_or x i 0) ≡ write m r → parse x ≡ ahead with_symbol (p.done ++ (m ∷ [])) (parse_from r (i + 1) (drop (i + 1) x))
  unfolding follow
  one_more h e = p.rest ∙ rw (parse_turn q x i h, e, add-one i, ahead_one) refl

  pub parsing_write : i < length x → {m : ℕ} {r : State} → (step q (get_or x i 0) ≡ write m r) × (not_fnc2 (get_or x i 0) ≡ true)
      → Parsing x l₀ (set l n m) r (n + 1) first (i + 1)
  unfolding stored_by
  parsing_write h {m} {r} (e, u) =
      let more : stored_from q (drop i x) ≡ m ∷ stored_from r (drop (i + 1) x) = rw (stored_turn q x i h, e, u, add-one i) refl in
      record {
        within = omega arith;
        few = omega (arith, p.few);
        sound = rw e at (sound_step q p.sound (get_or x i 0));
        done = p.done ++ (m ∷ []);
        rest = one_more h e;
        long = length-set l n m ∙ p.long;
        left = rw (add-one n) (rw more at p.left);
        count = omega (arith, rw more at p.count);
        noted = noted_by x i first h u p.noted;
      }

  pub parsing_retired : i < length x → (step q (get_or x i 0) ≡ write 97 q) × (not_fnc2 (get_or x i 0) ≡ false) → Parsing x l₀ l q n (option_or first (Some i)) (i + 1)
  unfolding stored_by
  parsing_retired h (e, u) =
      let same : stored_from q (drop i x) ≡ stored_from q (drop (i + 1) x) = rw (stored_turn q x i h, e, u, add-one i) refl in
      record {
        within = omega arith;
        few = omega (arith, p.few);
        sound = p.sound;
        done = p.done ++ (97 ∷ []);
        rest = one_more h e;
        long = p.long;
        left = rw same at p.left;
        count = rw same at p.count;
        noted = noted_there x i first h u p.noted;
      }

  -- nothing is left to store
  all_stored : stored_from q (drop i x) ≡ [] → (l ≡ sets l₀ 0 (stored x)) × (n ≡ length (stored x))
  all_stored none = (rw none at p.left, omega (arith, rw none at p.count))

  pub parsing_halt : i < length x → step q (get_or x i 0) ≡ halt → Gives (Err (Stops i)) x l₀ l
  unfolding follow stored_by Tells
  parsing_halt h e = (p.rest ∙ rw (parse_turn q x i h, e) (puts_stops p.done i), (all_stored (rw (stored_turn q x i h, e) refl)).0)

  over : length x ≤ i → parse_from q i (drop i x) ≡ (if finished q then symbols [] else stops i)
  unfolding parse_from
  over h = rw (drop_of_length-le x h)

  ended : length x ≤ i → finished q ≡ true → parse x ≡ symbols p.done
  ended h e = p.rest ∙ rw (over h, e) (puts_end p.done)

  pub parsing_end : length x ≤ i → finished q ≡ true → first ≡ None → Gives (Ok n) x l₀ l
  unfolding Tells
  parsing_end h e k =
      let clear : every not_fnc2 19 0 x ≡ passes = noted_none x i h (rw k at p.noted) in
      let (put, count) = all_stored (stored_over q x i h) in
      ((p.done, ended h e, clear, count ∙ ap length (stored_all x p.done (ended h e) clear)), put)

  pub parsing_noted : length x ≤ i → finished q ≡ true → {at : ℕ} → first ≡ Some at → Gives (Err (Retired at)) x l₀ l
  unfolding Tells
  parsing_noted h e k = ((p.done, ended h e, rw k at p.noted), (all_stored (stored_over q x i h)).0)

  pub parsing_short : length x ≤ i → finished q ≡ false → Gives (Err (Stops (length x))) x l₀ l
  unfolding Tells
  parsing_short h e =
      let end : i ≡ length x = omega (arith, p.within) in
      (p.rest ∙ rw (over h, e) (puts_stops p.done i) ∙ ap stops end, (all_stored (stored_over q x i h)).0)
