-- What encode accepts, with ź and without; which inputs give the same row; what spell writes.
-- Assumes nothing.
use mathlib.Core.Path.{◌≡◌, refl, sym, ap, ◌∙◌}
use mathlib.Core.Logic.{◌↔◌}
use mathlib.Core.Bool.{Bool, true, false}
use mathlib.Core.Option.{Option, none, some}
use mathlib.Core.List.{List, [], ◌∷◌}
use Prim.Native.Nat.{ℕ, ◌+◌, ◌*◌, ◌<◌, ◌≤◌}
use native.Mathlib.Omega.{arith}
use lib.Dec.{leb, ltb}
use lib.ListN.{length}
use borrow.Author.Tests.{leb-true, le-leb, lt-ltb, le-ltb}
use Rattle.std.specs.Prelude.{if◌then◌else◌}
use Rattle.helpers.specs.Answers.{Answer, accept, Test, passes, ◌then◌, ask, every, into, whole}
use Rattle.paper.specs.Iso15417.{before, row}
use Rattle.paper.specs.Crate.{spans, number_in, pairs, listed, step, State, Parsed, stops, symbols, follow, finished, parse_from, parse, utf8_of, utf8_bytes, is_scalar, spelled}
use Rattle.paper.specs.Settle.{settle, inside}
use Rattle.paper.specs.Jobs.{most, SymbolList, parsed, encoder, encode_with_fnc2, not_fnc2, encode, spell}
use Rattle.helpers.proofs.Answering.{each_map, refuse_not_accept, accept_number, accept_output, then_accept, then_passes, ask_passes, ask_true, into_accept, into_room, every_passes}
use Rattle.paper.proofs.Lists.{symbol_list, list_accepts}
use Rattle.paper.proofs.Cells.{row_injective, length_row}
use Rattle.paper.proofs.Settling.{settle_still}
use Rattle.paper.proofs.Moves.{number_listed}
use Rattle.paper.proofs.Spelling.{stops_not_symbols, parse_settles, parse_form, parse_low, parse_spelled, spelled_injective, spelled_quiet, spelled_short}

-- ---- an input that parses passes the tests before parsing

low_scalar : (c : ℕ) → c < 0x182 → is_scalar c ≡ true
unfolding is_scalar
low_scalar c h = rw (lt-ltb c 0xD800 (omega arith))

two_bytes : (c : ℕ) → 0x80 ≤ c → 2 ≤ utf8_of c
unfolding utf8_of
two_bytes c h = rw (le-ltb c 0x80 h) (go (ltb c 0x800) (ltb c 0x10000))
  where
    go : (a b : Bool) → 2 ≤ (if a then 2 else if b then 3 else 4)
    go true b = omega arith
    go false true = omega arith
    go false false = omega arith

-- before the START only code points of two bytes have a number
first_wide : (c : ℕ) (o : Option ℕ) → number_in (spans before) c ≡ o → (at : ℕ) (rest : State → Parsed) (s : List ℕ)
    → follow (listed before o) at rest ≡ symbols s → 2 ≤ utf8_of c
unfolding listed follow
first_wide c none n at rest s e = stops_not_symbols e
first_wide c (some m) n at rest s e = two_bytes c ((number_listed before c m n).wide refl)

parse_wide : (x s : List ℕ) → parse x ≡ symbols s → 2 ≤ utf8_bytes x
unfolding parse parse_from finished step pairs utf8_bytes
parse_wide [] s e = stops_not_symbols e
parse_wide (c ∷ cs) s e = omega (arith, first_wide c (number_in (spans before) c) refl 0 _ s e)

-- ---- the tests of an input, taken apart

-- an input that parses: what is left to ask is asked of its symbols
pub encoder_parsed : (retired : Test) (room : ℕ) (x s : List ℕ) → parse x ≡ symbols s
    → encoder retired room x ≡ into room (retired then ask (leb (length s) most) 4 (length s) then accept (length s) (row s))
unfolding encoder parsed
encoder_parsed retired room x s p =
    rw (
      then_passes (every is_scalar 1 0 x) _ (every_passes is_scalar 1 0 x (each_map _ _ low_scalar x (parse_low x s p))),
      then_passes (ask (leb 2 (utf8_bytes x)) 2 0) _ (ask_true _ 2 0 (le-leb 2 (utf8_bytes x) (parse_wide x s p))),
      p,
    )

parsed_accept : (p : Parsed) (made : List ℕ → Answer) {n : ℕ} {r : List ℕ} → parsed p made ≡ accept n r → (s : List ℕ) × (p ≡ symbols s) × (made s ≡ accept n r)
unfolding parsed
parsed_accept (stops at) made e = refuse_not_accept e
parsed_accept (symbols s) made e = (s, refl, e)

-- an input that is accepted has passed every test
encoder_accept : (retired : Test) (room : ℕ) (x : List ℕ) {n : ℕ} {r : List ℕ} → encoder retired room x ≡ accept n r
    → (retired ≡ passes) × ((s : List ℕ) × (parse x ≡ symbols s) × (n ≡ length s) × (n ≤ most) × (r ≡ row s) × (length r ≤ room))
unfolding encoder
encoder_accept retired room x e =
    let fits = into_accept room _ e in
    let scalars = then_accept (every is_scalar 1 0 x) _ fits.0 in
    let bytes = then_accept (ask (leb 2 (utf8_bytes x)) 2 0) _ scalars.1 in
    let (s, p, f) = parsed_accept (parse x) _ bytes.1 in
    let clear = then_accept retired _ f in
    let limit = then_accept (ask (leb (length s) most) 4 (length s)) (accept (length s) (row s)) clear.1 in
    let count = accept_number limit.1 in
    (clear.0, (s, p, sym count, rw count at (leb-true (length s) most (ask_passes _ _ _ limit.0)), sym (accept_output limit.1), fits.1))

-- ---- document 01's encoder, exactly

encode_accepts : (room : ℕ) (x s : List ℕ) → parse x ≡ symbols s → length s ≤ most → length (row s) ≤ room → encode_with_fnc2 room x ≡ accept (length s) (row s)
unfolding encode_with_fnc2 ◌then◌
encode_accepts room x s p size fits =
    encoder_parsed passes room x s p
    ∙ rw (then_passes (ask (leb (length s) most) 4 (length s)) (accept (length s) (row s)) (ask_true _ 4 (length s) (le-leb (length s) most size))) (into_room room (length s) (row s) fits)

pub encode_with_fnc2_exactly : (room : ℕ) (x : List ℕ) (n : ℕ) (r : List ℕ)
    → (encode_with_fnc2 room x ≡ accept n r) ↔ ((s : List ℕ) × (parse x ≡ symbols s) × (n ≡ length s) × (n ≤ most) × (r ≡ row s) × (length r ≤ room))
unfolding encode_with_fnc2
encode_with_fnc2_exactly room x n r = (λ e. (encoder_accept passes room x e).1, back)
  where
    back : (s : List ℕ) × (parse x ≡ symbols s) × (n ≡ length s) × (n ≤ most) × (r ≡ row s) × (length r ≤ room) → encode_with_fnc2 room x ≡ accept n r
    back (s, p, count, size, made, fits) = rw (count, made) (encode_accepts room x s p (rw count at size) (rw made at fits))

-- ---- encode, which asks one test more

-- where no code point is ź
pub encode_clear : (room : ℕ) (x : List ℕ) → every not_fnc2 19 0 x ≡ passes → encode room x ≡ encode_with_fnc2 room x
unfolding encode encode_with_fnc2
encode_clear room x e = ap (λ (t : Test). encoder t room x) e

-- what it accepts has none, and document 01's encoder accepts it too
pub encode_accepted : (room : ℕ) (x : List ℕ) {n : ℕ} {r : List ℕ} → encode room x ≡ accept n r → (every not_fnc2 19 0 x ≡ passes) × (encode_with_fnc2 room x ≡ accept n r)
unfolding encode
encode_accepted room x e =
    let clear = (encoder_accept (every not_fnc2 19 0 x) room x e).0 in
    (clear, sym (encode_clear room x clear) ∙ e)

-- ---- what an accepted input gives

-- an accepted input, its symbols and its row
pub record Encoded (x : List ℕ) (n : ℕ) (r : List ℕ) : Type 0 where
  pub list : List ℕ
  pub parses : parse x ≡ symbols list
  pub proper : SymbolList list
  pub counts : n ≡ length list
  pub draws : r ≡ row list

pub encoded : (room : ℕ) (x : List ℕ) (n : ℕ) (r : List ℕ) → encode_with_fnc2 room x ≡ accept n r → Encoded x n r
encoded room x n r e =
    let (s, p, count, size, made, fits) = (encode_with_fnc2_exactly room x n r).0 e in
    record { list = s; parses = p; proper = record { form = parse_form x s p; size = rw count at size }; counts = count; draws = made }

pub encode_size : (room : ℕ) (x : List ℕ) (n : ℕ) (r : List ℕ) → encode room x ≡ accept n r → (length r ≡ 11 * (n + 1) + 13) × (n ≤ 4000)
unfolding most
encode_size room x n r e =
    let a = encoded room x n r (encode_accepted room x e).1 in
    (omega (arith, length_row a.list a.proper, ap length a.draws), omega arith)

-- ---- the inputs that give one row

-- they settle to the spelling of its symbols
settles : {x : List ℕ} {n : ℕ} {r : List ℕ} (a : Encoded x n r) → settle x ≡ spelled a.list
settles {x} a = parse_settles x a.list a.parses

pub same_row : (room room' : ℕ) (x y : List ℕ) (n m : ℕ) (r q : List ℕ) → encode_with_fnc2 room x ≡ accept n r → encode_with_fnc2 room' y ≡ accept m q
    → (r ≡ q) ↔ (settle x ≡ settle y)
same_row room room' x y n m r q e f = go (encoded room x n r e) (encoded room' y m q f)
  where
    go : Encoded x n r → Encoded y m q → (r ≡ q) ↔ (settle x ≡ settle y)
    go a b = (
      λ p. cc (settles a, settles b, row_injective a.list b.list a.proper b.proper (cc)),
      λ p. cc (spelled_injective a.list b.list a.proper.form b.proper.form (cc (settles a, settles b))),
    )

-- ---- spell

-- what spell accepts and writes
spells : (room : ℕ) (s : List ℕ) (n : ℕ) (x : List ℕ) → spell room s ≡ accept n x → SymbolList s × (x ≡ spelled s) × (n ≡ length x) × (length x ≤ room)
unfolding spell whole
spells room s n x e =
    let (proper, made, fits) = symbol_list room s (accept (length (spelled s)) (spelled s)) e in
    (proper, cc, cc, fits)

pub spelled_most : (s : List ℕ) → SymbolList s → length (spelled s) ≤ 7999
unfolding most
spelled_most [] a = absurd a.form
spelled_most (m ∷ ms) a = omega (arith, spelled_short m ms)

pub spell_encodes : (room : ℕ) (s : List ℕ) (n : ℕ) (x : List ℕ) → spell room s ≡ accept n x
    → (encode_with_fnc2 (length (row s)) x ≡ accept (length s) (row s)) × (inside x ≡ false) × (n ≡ length x) × (n ≤ 7999)
spell_encodes room s n x e =
    let (proper, made, count, fits) = spells room s n x e in
    let short = spelled_most s proper in (
      rw made (encode_accepts (length (row s)) (spelled s) s (parse_spelled s proper.form) proper.size (omega arith)),
      rw made (spelled_quiet s proper.form),
      count,
      rw (count, made) short,
    )

pub spell_only : (room place : ℕ) (s : List ℕ) (n : ℕ) (x y : List ℕ) (k : ℕ) → spell room s ≡ accept n x
    → encode_with_fnc2 place y ≡ accept k (row s) → inside y ≡ false → y ≡ x
spell_only room place s n x y k e f q =
    let (proper, made, count, fits) = spells room s n x e in
    let a = encoded place y k (row s) f in
    cc (settle_still y q, settles a, row_injective s a.list proper a.proper a.draws)

pub spell_exactly : (room : ℕ) (s : List ℕ) (n : ℕ) (x : List ℕ)
    → (spell room s ≡ accept n x) ↔ (SymbolList s × (parse x ≡ symbols s) × (inside x ≡ false) × (n ≡ length x) × (n ≤ room))
unfolding spell whole
spell_exactly room s n x = (there, back)
  where
    there : spell room s ≡ accept n x → SymbolList s × (parse x ≡ symbols s) × (inside x ≡ false) × (n ≡ length x) × (n ≤ room)
    there e =
        let (proper, made, count, fits) = spells room s n x e in
        (proper, rw made (parse_spelled s proper.form), rw made (spelled_quiet s proper.form), count, omega arith)

    back : SymbolList s × (parse x ≡ symbols s) × (inside x ≡ false) × (n ≡ length x) × (n ≤ room) → spell room s ≡ accept n x
    back (proper, p, q, count, fits) =
        let same : spelled s ≡ x = sym (parse_settles x s p) ∙ settle_still x q in
        rw (same, ← count) (list_accepts room s n x proper (omega arith))
