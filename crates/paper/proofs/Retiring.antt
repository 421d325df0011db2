-- Request 12: encode beside document 01's encoder, which accepts ź.
-- Assumes nothing.
use mathlib.Core.Path.{◌≡◌, refl, sym, ap, ◌∙◌}
use mathlib.Core.Logic.{◌↔◌, ◌≢◌, inl, inr}
use mathlib.Core.Bool.{Bool, true, false}
use mathlib.Core.List.{List, [], ◌∷◌}
use Prim.Native.Nat.{ℕ, zero, suc, ◌+◌, ◌<◌, ◌≤◌}
use native.Mathlib.Omega.{arith}
use lib.Dec.{eqb, T}
use lib.ListN.{length, get_or, take}
use borrow.Author.Tests.{eqb-true, eqb-false, ne_eqb}
use Rattle.std.specs.Prelude.{if◌then◌else◌}
use Rattle.helpers.specs.Answers.{refuse, accept, Test, refuses, passes, ◌then◌, every, into}
use Rattle.helpers.specs.Owes.{OneOf}
use Rattle.helpers.proofs.Answering.{truth}
use Rattle.helpers.proofs.Below.{below, at as each_below}
use Rattle.helpers.proofs.Owed.{TestBy, by_every}
use Rattle.paper.specs.Iso15417.{Set, before, A, B, C, next, row}
use Rattle.paper.specs.Crate.{ź, Parsed, stops, symbols, parse, letters, spell_from, spelled}
use Rattle.paper.specs.Settle.{settle, occurrences}
use Rattle.paper.specs.Jobs.{SymbolList, parsed, encoder, encode_with_fnc2, not_fnc2, encode}
use Rattle.paper.specs.Shift.{set_after}
use Rattle.paper.proofs.Computes.{settle_computes}
use Rattle.paper.proofs.Cells.{row_injective}
use Rattle.paper.proofs.Settling.{occurrences_append, settle_keeps}
use Rattle.paper.proofs.Moves.{later, Fits, fits_below, Form, form_next}
use Rattle.paper.proofs.Spelling.{parse_settles, parse_spelled}
use Rattle.paper.proofs.Encoding.{encoder_parsed, encode_with_fnc2_exactly, encode_clear, encode_accepted, encoded}
use Rattle.paper.proofs.Results.{with_by}

-- ---- ź in a list, and the test of every code point

-- is it ź, or another?
data Kind : ℕ → Type 0 where
  retired : Kind ź
  other : {c : ℕ} → not_fnc2 c ≡ true → eqb ź c ≡ false → Kind c

kind : (c : ℕ) → Kind c
unfolding not_fnc2
kind c = go (eqb c ź) refl
  where
    go : (b : Bool) → eqb c ź ≡ b → Kind c
    go true e = rw (eqb-true c ź e) retired
    go false e = other {c = c} (rw e refl) (ne_eqb ź c (λ q. eqb-false c ź e (sym q)))

-- how often ź stands in a list, by its first code point
count_case : {c : ℕ} → Kind c → (cs : List ℕ) → occurrences ź (c ∷ cs) ≡ 0 → (not_fnc2 c ≡ true) × (occurrences ź cs ≡ 0)
unfolding occurrences
count_case retired cs e = absurd (omega arith)
count_case (other {c} u v) cs e = (u, let f = rw v at e in omega arith)

none_passes : (b : ℕ) (x : List ℕ) → occurrences ź x ≡ 0 → every not_fnc2 19 b x ≡ passes
unfolding every
none_passes b [] e = refl
none_passes b (c ∷ cs) e = let both = count_case (kind c) cs e in rw both.0 (none_passes (suc b) cs both.1)

passes_case : {c : ℕ} → Kind c → (b : ℕ) (cs : List ℕ) → every not_fnc2 19 b (c ∷ cs) ≡ passes → (eqb ź c ≡ false) × (every not_fnc2 19 (suc b) cs ≡ passes)
unfolding every not_fnc2
passes_case retired b cs e = absurd (let z : ◌≡◌ {A = ℕ} 0 1 = cc in omega arith)
passes_case (other u v) b cs e = (v, rw u at e)

passes_none : (b : ℕ) (x : List ℕ) → every not_fnc2 19 b x ≡ passes → occurrences ź x ≡ 0
unfolding occurrences
passes_none b [] e = refl
passes_none b (c ∷ cs) e = let both = passes_case (kind c) b cs e in rw both.0 (omega (arith, passes_none (suc b) cs both.1))

-- a test of every code point refuses by its own number
some_refuses : (b : ℕ) (x : List ℕ) → (occurrences ź x ≡ 0 → ⊥) → (p : ℕ) × (every not_fnc2 19 b x ≡ refuses 19 p)
some_refuses b x h = go (every not_fnc2 19 b x) refl (by_every (19 ∷ []) not_fnc2 19 b x (inl refl))
  where
    go : (t : Test) → every not_fnc2 19 b x ≡ t → TestBy (19 ∷ []) t → (p : ℕ) × (every not_fnc2 19 b x ≡ refuses 19 p)
    go passes e o = absurd (h (passes_none b x e))
    go (refuses k p) e (inl o) = (p, e ∙ ap (λ (j : ℕ). refuses j p) o)
    go (refuses k p) e (inr o) = elim o [ ]

-- the place of the first ź: where the test refuses, and only there
abbrev First : ℕ → List ℕ → Type 0
First i x = (i < length x) × (get_or x i 0 ≡ ź) × (occurrences ź (take i x) ≡ 0)

first_refuses : (b i : ℕ) (x : List ℕ) → First i x → every not_fnc2 19 b x ≡ refuses 19 (b + i)
unfolding every not_fnc2
first_refuses b i [] (h, e, o) = absurd (omega arith)
first_refuses b zero (c ∷ cs) (h, e, o) = rw e (ap (refuses 19) (omega arith))
first_refuses b (suc i) (c ∷ cs) (h, e, o) =
    let both = count_case (kind c) (take i cs) o in
    rw both.0 (first_refuses (suc b) i cs (omega arith, e, both.1) ∙ ap (refuses 19) (omega arith))

refuses_case : {c : ℕ} → Kind c → (b : ℕ) (cs : List ℕ) (p : ℕ) → every not_fnc2 19 b (c ∷ cs) ≡ refuses 19 p
    → ((f : every not_fnc2 19 (suc b) cs ≡ refuses 19 p) → (i : ℕ) × (p ≡ suc b + i) × First i cs) → (i : ℕ) × (p ≡ b + i) × First i (c ∷ cs)
unfolding every not_fnc2 occurrences
refuses_case retired b cs p e ih = (0, (let same : b ≡ p = cc in omega arith), (omega arith, refl, refl))
refuses_case (other u v) b cs p e ih =
    let (i, place, first) = ih (rw u at e) in
    (suc i, omega arith, (omega (arith, first.0), first.1, rw v (omega (arith, first.2))))

refuses_first : (b : ℕ) (x : List ℕ) (p : ℕ) → every not_fnc2 19 b x ≡ refuses 19 p → (i : ℕ) × (p ≡ b + i) × First i x
unfolding every
refuses_first b [] p e = absurd (let z : ◌≡◌ {A = ℕ} 0 1 = cc in omega arith)
refuses_first b (c ∷ cs) p e = refuses_case (kind c) b cs p e (refuses_first (suc b) cs p)

-- ---- encode beside document 01's encoder

pub retired_without : (room : ℕ) (x : List ℕ) → occurrences ź x ≡ 0 → encode room x ≡ encode_with_fnc2 room x
retired_without room x e = encode_clear room x (none_passes 0 x e)

pub retired_stopped : (room : ℕ) (x : List ℕ) (at : ℕ) → parse x ≡ stops at → encode room x ≡ encode_with_fnc2 room x
unfolding encode encode_with_fnc2 encoder parsed
retired_stopped room x at p = rw p refl

-- the test refuses, and so does encode: no room is needed
refused_there : (room : ℕ) (x s : List ℕ) (k at : ℕ) → parse x ≡ symbols s → every not_fnc2 19 0 x ≡ refuses k at → encode room x ≡ refuse k at
unfolding encode ◌then◌ into
refused_there room x s k at p e = encoder_parsed _ room x s p ∙ rw e refl

pub retired_refused : (room : ℕ) (x s : List ℕ) → parse x ≡ symbols s → occurrences ź x ≢ 0 → (at : ℕ) × (encode room x ≡ refuse 19 at)
retired_refused room x s p h = let (at, e) = some_refuses 0 x h in (at, refused_there room x s 19 at p e)

-- document 01's encoder has no refusal 19
with_not_19 : (room : ℕ) (x : List ℕ) (at : ℕ) → encode_with_fnc2 room x ≡ refuse 19 at → ⊥
with_not_19 room x at e = go (rw e at (with_by room x))
  where
    go : OneOf 19 (1 ∷ 2 ∷ 3 ∷ 4 ∷ 5 ∷ []) → ⊥
    go (inl q) = omega arith
    go (inr (inl q)) = omega arith
    go (inr (inr (inl q))) = omega arith
    go (inr (inr (inr (inl q)))) = omega arith
    go (inr (inr (inr (inr (inl q))))) = omega arith
    go (inr (inr (inr (inr (inr q))))) = q

refused_first : (room : ℕ) (x : List ℕ) (at : ℕ) → encode room x ≡ refuse 19 at → ((s : List ℕ) × (parse x ≡ symbols s)) × First at x
refused_first room x at e = go (parse x) refl (every not_fnc2 19 0 x) refl
  where
    go : (p : Parsed) → parse x ≡ p → (t : Test) → every not_fnc2 19 0 x ≡ t → ((s : List ℕ) × (parse x ≡ symbols s)) × First at x
    go (stops j) p t q = absurd (with_not_19 room x at (sym (retired_stopped room x j p) ∙ e))
    go (symbols s) p passes q = absurd (with_not_19 room x at (sym (encode_clear room x q) ∙ e))
    go (symbols s) p (refuses k j) q =
        let same : refuse k j ≡ refuse 19 at = sym (refused_there room x s k j p q) ∙ e in
        let (i, place, first) = refuses_first 0 x at (q ∙ cc) in
        let there : at ≡ i = omega arith in
        ((s, p), rw there first)

pub retired_exactly : (room : ℕ) (x : List ℕ) (at : ℕ)
    → (encode room x ≡ refuse 19 at) ↔ (((s : List ℕ) × (parse x ≡ symbols s)) × (at < length x) × (get_or x at 0 ≡ ź) × (occurrences ź (take at x) ≡ 0))
retired_exactly room x at = (
  λ e. let (parses, first) = refused_first room x at e in (parses, first.0, first.1, first.2),
  λ w. refused_there room x w.0.0 19 at w.0.1 (first_refuses 0 at x (w.1, w.2, w.3) ∙ ap (refuses 19) (omega arith)),
)

pub retired_accepted : (room : ℕ) (x : List ℕ) (n : ℕ) (r : List ℕ)
    → (encode room x ≡ accept n r) ↔ ((occurrences ź x ≡ 0) × (encode_with_fnc2 room x ≡ accept n r))
retired_accepted room x n r = (
  λ e. let both = encode_accepted room x e in (passes_none 0 x both.0, both.1),
  λ w. retired_without room x w.0 ∙ w.1,
)

-- ---- the rows that encode writes

-- "symbol 97 in set A or B": is the number m FNC2 in the set?
is_fnc2 : Set → ℕ → Bool
is_fnc2 before m = false
is_fnc2 A m = eqb m 97
is_fnc2 B m = eqb m 97
is_fnc2 C m = false

all_letters : (a : Set) → T (below (λ m. eqb (occurrences ź (letters a m)) (if is_fnc2 a m then 1 else 0)) 106)
unfolding is_fnc2 settle_computes
all_letters before = tt
all_letters A = tt
all_letters B = tt
all_letters C = tt

-- ź is written for FNC2 alone
letters_ź : (a : Set) (m : ℕ) → m < 106 → occurrences ź (letters a m) ≡ (if is_fnc2 a m then 1 else 0)
letters_ź a m h = eqb-true _ _ (truth _ (each_below (λ k. eqb (occurrences ź (letters a k)) (if is_fnc2 a k then 1 else 0)) 106 (all_letters a) m h))

-- the set in which a number other than FNC2 stands, if it is 97: set C
not_FNC2 : (a : Set) (m : ℕ) → Fits (later a) m → is_fnc2 a m ≡ false → m ≡ 97 → a ≡ C
unfolding is_fnc2
not_FNC2 before m f e q = absurd (omega (arith, f.0))
not_FNC2 A m f e q = absurd (eqb-false m 97 e q)
not_FNC2 B m f e q = absurd (eqb-false m 97 e q)
not_FNC2 C m f e q = refl

only_in_C : (a : Set) (m : ℕ) → (m ≡ 97 → a ≡ C) → is_fnc2 a m ≡ false
unfolding is_fnc2
only_in_C before m h = refl
only_in_C A m h = ne_eqb m 97 (λ q. let z : ◌≡◌ {A = ℕ} 0 1 = cc (h q) in omega arith)
only_in_C B m h = ne_eqb m 97 (λ q. let z : ◌≡◌ {A = ℕ} 0 1 = cc (h q) in omega arith)
only_in_C C m h = refl

counted : (b : Bool) (n : ℕ) → n ≡ (if b then 1 else 0) → n ≡ 0 → b ≡ false
counted true n e f = absurd (omega arith)
counted false n e f = refl

-- every 97 of these numbers stands in set C, the first standing in the set a
abbrev OnlyInC : Set → List ℕ → Type 0
OnlyInC a s = (i : ℕ) → get_or s i 0 ≡ 97 → set_after a (take i s) ≡ C

-- so their spelling has no ź, and the other way round
spelled_there : (a : Set) (s : List ℕ) → Form (later a) s → occurrences ź (spell_from a s) ≡ 0 → OnlyInC a s
unfolding spell_from set_after
spelled_there a [] f e i q = absurd (omega arith)
spelled_there a (m ∷ ms) f e zero q =
    let (fits, rest) = form_next a m ms f in
    let both = occurrences_append ź (letters a m) (spell_from (next a m) ms) in
    not_FNC2 a m fits (counted (is_fnc2 a m) _ (letters_ź a m (fits_below (later a) m fits)) (omega arith)) q
spelled_there a (m ∷ ms) f e (suc i) q =
    let (fits, rest) = form_next a m ms f in
    let both = occurrences_append ź (letters a m) (spell_from (next a m) ms) in
    spelled_there (next a m) ms rest (omega arith) i q

spelled_back : (a : Set) (s : List ℕ) → Form (later a) s → OnlyInC a s → occurrences ź (spell_from a s) ≡ 0
unfolding spell_from set_after occurrences
spelled_back a [] f h = refl
spelled_back a (m ∷ ms) f h =
    let (fits, rest) = form_next a m ms f in
    let none : occurrences ź (letters a m) ≡ 0 = rw (only_in_C a m (h 0)) at (letters_ź a m (fits_below (later a) m fits)) in
    occurrences_append ź (letters a m) (spell_from (next a m) ms) ∙ omega (arith, spelled_back (next a m) ms rest (λ i. h (suc i)))

pub retired_rows : (room : ℕ) (s : List ℕ) → SymbolList s → length (row s) ≤ room
    → ((x : List ℕ) × (encode room x ≡ accept (length s) (row s))) ↔ ((i : ℕ) → get_or s i 0 ≡ 97 → set_after before (take i s) ≡ C)
unfolding spelled
retired_rows room s proper fits = (there, back)
  where
    there : (x : List ℕ) × (encode room x ≡ accept (length s) (row s)) → OnlyInC before s
    there (x, e) =
        let (quiet, f) = encode_accepted room x e in
        let a = encoded room x (length s) (row s) f in
        let same : s ≡ a.list = row_injective s a.list proper a.proper a.draws in
        let spelling : settle x ≡ spelled s = rw same (parse_settles x a.list a.parses) in
        spelled_there before s proper.form (sym (ap (occurrences ź) spelling) ∙ settle_keeps ź x ∙ passes_none 0 x quiet)

    back : OnlyInC before s → (x : List ℕ) × (encode room x ≡ accept (length s) (row s))
    back h = (
      spelled s,
      retired_without room (spelled s) (spelled_back before s proper.form h)
          ∙ (encode_with_fnc2_exactly room (spelled s) (length s) (row s)).1 (s, parse_spelled s proper.form, refl, proper.size, refl, fits),
    )
