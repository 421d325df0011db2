-- What one code point does to the parser and what one number gives when spelled, each as one of a
-- few cases.
-- Assumes nothing.
use mathlib.Core.Path.{◌≡◌, refl, sym, ap, ◌∙◌}
use mathlib.Core.Bool.{Bool, true, false, ◌&&◌, ◌||◌, not, beq}
use mathlib.Core.Option.{Option, none, some}
use mathlib.Core.List.{List, [], ◌∷◌}
use Prim.Native.Nat.{ℕ, ◌+◌, ◌-◌, ◌*◌, ◌<◌, ◌≤◌}
use native.Mathlib.Omega.{arith}
use lib.Dec.{leb, ltb, eqb, T}
use borrow.Author.Tests.{leb-true, le-leb, ltb-true, eqb-true, not-true}
use Rattle.std.specs.Prelude.{if◌then◌else◌}
use Rattle.helpers.specs.Answers.{Each}
use Rattle.paper.specs.Iso15417.{Set, before, A, B, C, next, digits}
use Rattle.paper.specs.Crate.{Ź, spans, number_in, point_in, State, free, held, Step, halt, hold, write, digit, pairs, listed, step, as_list, letters}
use Rattle.paper.specs.Settle.{Position, outside, between, halfway, switched}
use Rattle.paper.proofs.Computes.{settle_computes, jobs_computes}
use Rattle.paper.specs.Jobs.{StartThenData, is_start, is_data}
use Rattle.helpers.proofs.Answering.{true_not_false, and_true, truth}
use Rattle.helpers.proofs.Below.{below, at, from, and_left, and_right}
use Rattle.paper.proofs.Lists.{bounds_start}
use Rattle.paper.proofs.Codes.{least, greatest, numbers_back, number_bound, point_between}
use Rattle.paper.proofs.Settling.{switched_case}

-- ---- states and positions

-- in set C one stands between two pairs, elsewhere outside
abbrev pub position_if : Bool → Position
position_if true = between
position_if false = outside

abbrev pub position_of : State → Position
position_of (free s) = position_if (pairs s)
position_of (held d) = halfway (48 + d)

abbrev pub set_of : State → Set
set_of (free s) = s
set_of (held d) = C

-- what is held is a digit's value
abbrev pub Sound : State → Type 0
Sound (free s) = Unit {0}
Sound (held d) = d < 10

-- what is a digit
pub digit_bounds : (c : ℕ) → digit c ≡ true → (48 ≤ c) × (c ≤ 57)
unfolding digit
digit_bounds c e = let both = and_true (leb 48 c) (leb c 57) e in (leb-true 48 c both.0, leb-true c 57 both.1)

-- ---- a START and then data

abbrev pub later : Set → Bool
later before = false
later A = true
later B = true
later C = true

-- what may stand in a set, and what may be left of a list there
abbrev pub Fits : Bool → ℕ → Type 0
Fits false m = (103 ≤ m) × (m ≤ 105)
Fits true m = m ≤ 102

abbrev pub Form : Bool → List ℕ → Type 0
Form false s = StartThenData s
Form true s = Each (λ k. k ≤ 102) s

choose_later : (a b : Bool) (r s t : Set) → later r ≡ true → later s ≡ true → later t ≡ true → later (if a then r else if b then s else t) ≡ true
choose_later true b r s t p q u = p
choose_later false true r s t p q u = q
choose_later false false r s t p q u = u

pub next_later : (s : Set) (m : ℕ) → Fits (later s) m → later (next s m) ≡ true
unfolding next
next_later before m f = truth _ (from (λ k. later (next before k)) 103 3 tt m f.0 (omega arith))
next_later A m f = choose_later (eqb m 99) (eqb m 100) C B A refl refl refl
next_later B m f = choose_later (eqb m 99) (eqb m 101) C A B refl refl refl
next_later C m f = choose_later (eqb m 100) (eqb m 101) B A C refl refl refl

pub form_cons : (s : Set) (m : ℕ) (t : List ℕ) → Fits (later s) m → Form (later (next s m)) t → Form (later s) (m ∷ t)
form_cons s m t f e = go (later s) f (rw (next_later s m f) at e)
  where
    go : (b : Bool) → Fits b m → Form true t → Form b (m ∷ t)
    go false f e = (f.0, f.1, e)
    go true f e = (f, e)

pub form_next : (s : Set) (m : ℕ) (t : List ℕ) → Form (later s) (m ∷ t) → Fits (later s) m × Form (later (next s m)) t
form_next s m t f = let both = go (later s) f in (both.0, rw (next_later s m both.0) both.1)
  where
    go : (b : Bool) → Form b (m ∷ t) → Fits b m × Form true t
    go false f = ((f.0, f.1), f.2)
    go true f = (f.0, f.1)

fits_bounds : (s : Set) (m : ℕ) → (least s ≤ m) × (m ≤ greatest s) → Fits (later s) m
fits_bounds before m h = h
fits_bounds A m h = h.1
fits_bounds B m h = h.1
fits_bounds C m h = h.1

-- ---- code points with a number

-- c has the number m in the set s, and what follows from that
pub record Listed (s : Set) (c m : ℕ) : Type 0 where
  pub number : number_in (spans s) c ≡ some m
  pub point : point_in (spans s) m ≡ some c
  pub fits : Fits (later s) m
  pub low : c < 0x182
  pub wide : later s ≡ false → 0x80 ≤ c
  pub no_digit : (pairs s && digit c) ≡ false
  pub no_pair : (pairs s && ltb m 100) ≡ false
  pub names : switched (position_if (pairs s)) c ≡ position_if (pairs (next s m))

-- is one between two pairs of set C?
in_c : Position → Bool
in_c outside = false
in_c between = true
in_c (halfway d) = false

-- may m stand there? The test of `Fits`.
fitting : Bool → ℕ → Bool
fitting false m = is_start m
fitting true m = is_data m

-- the tests of a number m in a set, by its code point there: it has one if it may stand there and
-- is no pair
judge : Set → ℕ → Option ℕ → Bool
judge s m none = not (fitting (later s) m) || (pairs s && ltb m 100)
judge s m (some c) =
    not (pairs s && digit c) && not (pairs s && ltb m 100) && (later s || leb 0x80 c) && beq (in_c (switched (position_if (pairs s)) c)) (pairs (next s m))

all_judged : (s : Set) → T (below (λ m. judge s m (point_in (spans s) m)) 106)
unfolding judge in_c fitting settle_computes jobs_computes
all_judged before = tt
all_judged A = tt
all_judged B = tt
all_judged C = tt

judged : (s : Set) (m : ℕ) (o : Option ℕ) → m < 106 → point_in (spans s) m ≡ o → T (judge s m o)
judged s m o h e = rw e at (at (λ k. judge s k (point_in (spans s) k)) 106 (all_judged s) m h)

same_truth : (a b : Bool) → T (beq a b) → a ≡ b
same_truth true true t = refl
same_truth true false t = absurd t
same_truth false true t = absurd t
same_truth false false t = refl

or_right : (a b : Bool) → T (a || b) → a ≡ false → b ≡ true
or_right true b t e = true_not_false e
or_right false b t e = truth b t

named_hand : (b : Bool) (c : ℕ) → switched (position_if b) c ≡ position_if (in_c (switched (position_if b) c))
unfolding in_c
named_hand b c = switched_case (λ (g : Position). g ≡ position_if (in_c g)) (position_if b) c refl refl (go b)
  where
    go : (a : Bool) → position_if a ≡ position_if (in_c (position_if a))
    go true = refl
    go false = refl

point_listed : (s : Set) (c m : ℕ) → point_in (spans s) m ≡ some c → Listed s c m
unfolding judge
point_listed s c m e =
    let number = (numbers_back s c m).1 e in
    let bound = number_bound s c m number in
    let t = judged s m (some c) bound.1 e in
    record {
      number = number;
      point = e;
      fits = fits_bounds s m (point_between s m c e);
      low = bound.0;
      wide = λ b. leb-true 0x80 c (or_right (later s) (leb 0x80 c) (search (and_left, and_right) depth 9) b);
      no_digit = not-true _ (truth _ (search (and_left, and_right) depth 9));
      no_pair = not-true _ (truth _ (search (and_left, and_right) depth 9));
      names = named_hand (pairs s) c ∙ ap position_if (same_truth (in_c (switched (position_if (pairs s)) c)) (pairs (next s m)) (search (and_left, and_right) depth 9));
    }

pub number_listed : (s : Set) (c m : ℕ) → number_in (spans s) c ≡ some m → Listed s c m
number_listed s c m e = point_listed s c m ((numbers_back s c m).0 e)

pub listed_letters : (s : Set) (c m : ℕ) → Listed s c m → letters s m ≡ c ∷ []
unfolding letters as_list
listed_letters s c m l = rw (l.no_pair, l.point)

-- ---- one code point

-- parsing stops; in set C a first digit is held; a code point has a number; a second digit closes
-- the pair; a Ź passes by the held digit
pub data Move : State → ℕ → Step → Type 0 where
  stuck : {q : State} {c : ℕ} → Move q c halt
  holds : {c : ℕ} → digit c ≡ true → Move (free C) c (hold (c - 48))
  lists : {s : Set} {c m : ℕ} → Listed s c m → Move (free s) c (write m (free (next s m)))
  closes : {d c : ℕ} → d < 10 → digit c ≡ true → Move (held d) c (write (10 * d + (c - 48)) (free C))
  passes_by : {d : ℕ} → d < 10 → Move (held d) Ź (write 102 (held d))

only_C : (s : Set) → pairs s ≡ true → s ≡ C
unfolding pairs
only_C before e = true_not_false (sym e)
only_C A e = true_not_false (sym e)
only_C B e = true_not_false (sym e)
only_C C e = refl

pub move : (q : State) → Sound q → (c : ℕ) → Move q c (step q c)
unfolding step listed
move (free s) k c = go (pairs s && digit c) refl (number_in (spans s) c) refl
  where
    go : (b : Bool) → (pairs s && digit c) ≡ b → (o : Option ℕ) → number_in (spans s) c ≡ o → Move (free s) c (if b then hold (c - 48) else listed s o)
    go true e o n = let both = and_true (pairs s) (digit c) e in rw (only_C s both.0) (holds both.1)
    go false e none n = stuck
    go false e (some m) n = lists (number_listed s c m n)
move (held d) k c = go (digit c) refl (eqb c Ź) refl
  where
    go : (b : Bool) → digit c ≡ b → (z : Bool) → eqb c Ź ≡ z
        → Move (held d) c (if b then write (10 * d + (c - 48)) (free C) else if z then write 102 (held d) else halt)
    go true e z n = closes k e
    go false e true n = rw (eqb-true c Ź n) (passes_by k)
    go false e false n = stuck

-- ---- one number

-- two digits in set C, or one code point that has the number
pub data Letter (s : Set) (m : ℕ) : List ℕ → Type 0 where
  double : s ≡ C → m < 100 → Letter s m (digits m)
  single : (c : ℕ) → Listed s c m → Letter s m (c ∷ [])

not_in : (a b : Bool) → T (not a || b) → a ≡ true → b ≡ false → ⊥
not_in true true t e f = true_not_false f
not_in true false t e f = t
not_in false b t e f = true_not_false (sym e)

fits_test : (b : Bool) (m : ℕ) → Fits b m → fitting b m ≡ true
unfolding fitting is_data
fits_test false m f = bounds_start m f.0 f.1
fits_test true m f = le-leb m 102 f

pub fits_below : (b : Bool) (m : ℕ) → Fits b m → m < 106
fits_below false m f = omega arith
fits_below true m f = omega arith

pub letter : (s : Set) (m : ℕ) → Fits (later s) m → Letter s m (letters s m)
unfolding letters as_list judge
letter s m f = go (pairs s && ltb m 100) refl (point_in (spans s) m) refl
  where
    go : (b : Bool) → (pairs s && ltb m 100) ≡ b → (o : Option ℕ) → point_in (spans s) m ≡ o → Letter s m (if b then digits m else as_list o)
    go true e o n = let both = and_true (pairs s) (ltb m 100) e in double (only_C s both.0) (ltb-true m 100 both.1)
    go false e none n = absurd (not_in _ _ (judged s m none (fits_below (later s) m f) n) (fits_test (later s) m f) e)
    go false e (some c) n = single c (point_listed s c m n)
