-- The table of patterns: its rule by one computed test, and what a block is found as.
-- Assumes nothing.
use mathlib.Core.Path.{◌≡◌, refl, sym, ap, ◌∙◌}
use mathlib.Core.Logic.{◌≢◌, ◌↔◌, ◌⊎◌, inl, inr}
use mathlib.Core.Bool.{Bool, true, false, ◌&&◌, not}
use mathlib.Core.List.{List, [], ◌∷◌}
use Prim.Native.Nat.{ℕ, suc, ◌+◌, ◌%◌, ◌<◌, ◌≤◌}
use native.Mathlib.Omega.{arith}
use native.Mathlib.Decide.{dec_le}
use lib.Dec.{leb, eqb, T}
use lib.ListN.{length, get_or, take}
use borrow.Author.Tests.{eq-eqb, ne_eqb}
use Rattle.std.specs.Prelude.{if◌then◌else◌}
use Rattle.helpers.specs.Answers.{same, Each}
use Rattle.paper.specs.Iso15417.{widths, drawn, pattern, stop, bar_cells, Look, is, worn, unknown, worn_or_unknown, found_in, found, cells, count}
use Rattle.paper.specs.Chars.{chars, entry}
use Rattle.paper.proofs.Computes.{chars_computes, rules_computes}
use Rattle.paper.specs.Rules.{runs, PatternRule, NoPattern}
use Rattle.helpers.proofs.Below.{below, at, and_left, and_right}
use Rattle.helpers.proofs.Same.{same_true, as_equal, as_least, as_same, as_other}

pub stop_cells : stop ≡ 1 ∷ 1 ∷ 0 ∷ 0 ∷ 0 ∷ 1 ∷ 1 ∷ 1 ∷ 0 ∷ 1 ∷ 0 ∷ 1 ∷ 1 ∷ []
unfolding rules_computes
stop_cells = refl

-- ---- what a block is found as

-- m is the number of the width at `place`, counted from n on, and the block is drawn by that width
record FoundAt (n : ℕ) (ws b : List ℕ) (m : ℕ) : Type 0 where
  place : ℕ
  number : m ≡ n + place
  listed : place < length ws
  drawn_so : b ≡ drawn (get_or ws place 0)

-- the first of the widths, or one of the others
first_or_other : (n w : ℕ) (ws b : List ℕ) (m : ℕ) (t : Bool) → same (drawn w) b ≡ t → (found_in (suc n) ws b ≡ is m → FoundAt (suc n) ws b m)
    → (if t then is n else found_in (suc n) ws b) ≡ is m → FoundAt n (w ∷ ws) b m
first_or_other n w ws b m true s others e =
    let k : m ≡ n = cc in
    record { place = 0; number = omega arith; listed = omega arith; drawn_so = sym (same_true (drawn w) b s) }
first_or_other n w ws b m false s others e =
    let r = others e in
    record { place = suc r.place; number = omega arith; listed = omega arith; drawn_so = r.drawn_so }

-- what is no pattern has no number
none_is : (odd : Bool) (m : ℕ) → (if odd then worn else unknown) ≡ is m → ⊥
none_is true m e = absurd (let z : ◌≡◌ {A = ℕ} 0 1 = cc in omega arith)
none_is false m e = absurd (let z : ◌≡◌ {A = ℕ} 0 1 = cc in omega arith)

found_in_lem : (n : ℕ) (ws b : List ℕ) (m : ℕ) → found_in n ws b ≡ is m → FoundAt n ws b m
unfolding found_in worn_or_unknown
found_in_lem n [] b m e = absurd (none_is (eqb (bar_cells b % 2) 1) m e)
found_in_lem n (w ∷ ws) b m e = first_or_other n w ws b m (same (drawn w) b) refl (found_in_lem (suc n) ws b m) e

all_widths : length widths ≡ 106
unfolding widths
all_widths = refl

pub found_is : (b : List ℕ) (m : ℕ) → found b ≡ is m → (b ≡ pattern m) × (m < 106)
unfolding found pattern
found_is b m e =
    let r = found_in_lem 0 widths b m e in
    let k : m ≡ r.place = omega arith in
    (rw k r.drawn_so, omega (arith, all_widths))

-- ---- one test of the whole table

every : (ℕ → Bool) → List ℕ → Bool
every f [] = true
every f (x ∷ xs) = f x && every f xs

each_of_every : (f : ℕ → Bool) (P : ℕ → Type 0) → ((x : ℕ) → T (f x) → P x) → (xs : List ℕ) → T (every f xs) → Each P xs
unfolding every
each_of_every f P law [] t = tt
each_of_every f P law (x ∷ xs) t = (law x (and_left (f x) (every f xs) t), each_of_every f P law xs (and_right (f x) (every f xs) t))

looks : Look → ℕ → Bool
looks (is k) m = eqb k m
looks worn m = false
looks unknown m = false

looks_is : (l : Look) (m : ℕ) → T (looks l m) → l ≡ is m
unfolding looks
looks_is (is k) m t = ap is (as_equal k m t)
looks_is worn m t = absurd t
looks_is unknown m t = absurd t

-- the tests of one entry: its pattern, how it is found, and the rule, in the order of the record
-- PatternRule
right : ℕ → List ℕ → Bool
right m p =
    same p (pattern m) && looks (found p) m && eqb (length p) 11 && every (λ c. leb c 1) p && eqb (get_or p 0 0) 1 && eqb (get_or p 10 1) 0
    && eqb (length (runs p)) 6 && every (λ w. leb 1 w && leb w 4) (runs p) && eqb (bar_cells p % 2) 0 && not (same p (take 11 stop))

-- what follows from them
record Right (m : ℕ) (p : List ℕ) : Type 0 where
  is_pattern : p ≡ pattern m
  is_found : found p ≡ is m
  is_ruled : PatternRule p

righted : (m : ℕ) (p : List ℕ) → T (right m p) → Right m p
unfolding right
righted m p t = record {
  is_pattern = as_same p (pattern m) (search (and_left, and_right) depth 9);
  is_found = looks_is (found p) m (search (and_left, and_right) depth 9);
  is_ruled = record {
    eleven = as_equal (length p) 11 (search (and_left, and_right) depth 9);
    two_colours = each_of_every (λ c. leb c 1) (λ c. c ≤ 1) (λ c u. as_least c 1 u) p (search (and_left, and_right) depth 9);
    begins = as_equal (get_or p 0 0) 1 (search (and_left, and_right) depth 9);
    ends = as_equal (get_or p 10 1) 0 (search (and_left, and_right) depth 9);
    six = as_equal (length (runs p)) 6 (search (and_left, and_right) depth 9);
    narrow = each_of_every (λ w. leb 1 w && leb w 4) (λ w. (1 ≤ w) × (w ≤ 4))
        (λ w u. (as_least 1 w (and_left (leb 1 w) (leb w 4) u), as_least w 4 (and_right (leb 1 w) (leb w 4) u))) (runs p) (search (and_left, and_right) depth 9);
    even = as_equal (bar_cells p % 2) 0 (search (and_left, and_right) depth 9);
    no_stop = as_other p (take 11 stop) (search (and_left, and_right) depth 9);
  };
}

all_right : T (below (λ m. right m (entry m)) 106)
unfolding right looks every chars_computes rules_computes
all_right = tt

at_entry : (m : ℕ) → m < 106 → Right m (entry m)
at_entry m h = righted m (entry m) (at (λ k. right k (entry k)) 106 all_right m h)

-- ---- the promises of the table

pub table_length : length chars ≡ 1166
unfolding chars
table_length = refl

pub table_widths : chars ≡ cells (count 0 106)
unfolding chars_computes rules_computes
table_widths = refl

pub table_rule : (m : ℕ) → m < 106 → PatternRule (entry m)
table_rule m h = (at_entry m h).is_ruled

pub table_found : (m : ℕ) → m < 106 → found (entry m) ≡ is m
table_found m h = (at_entry m h).is_found

pub table_pattern : (m : ℕ) → m < 106 → entry m ≡ pattern m
table_pattern m h = (at_entry m h).is_pattern

pub table_apart : (m k : ℕ) → m < 106 → k < 106 → entry m ≡ entry k → m ≡ k
table_apart m k h l e = cc (table_found m h, table_found k l)

-- ---- the same of the patterns

rule_of_pattern : (m : ℕ) → m < 106 → PatternRule (pattern m)
rule_of_pattern m h = rw (table_pattern m h) at (table_rule m h)

pub length_pattern : (m : ℕ) → m < 106 → length (pattern m) ≡ 11
length_pattern m h = (rule_of_pattern m h).eleven

pub pattern_cells : (m : ℕ) → m < 106 → Each (λ c. c ≤ 1) (pattern m)
pattern_cells m h = (rule_of_pattern m h).two_colours

pub pattern_even : (m : ℕ) → m < 106 → bar_cells (pattern m) % 2 ≡ 0
pattern_even m h = (rule_of_pattern m h).even

pub found_pattern : (m : ℕ) → m < 106 → found (pattern m) ≡ is m
found_pattern m h = rw (table_pattern m h) at (table_found m h)

-- ---- the three cases of the lookup

-- a block has a number, or is what no pattern is
number_or_none : (t : Bool) (n : ℕ) (l x : Look) → ((m : ℕ) × (l ≡ is m)) ⊎ (l ≡ x) → ((m : ℕ) × ((if t then is n else l) ≡ is m)) ⊎ ((if t then is n else l) ≡ x)
number_or_none true n l x c = inl (n, refl)
number_or_none false n l x c = c

in_or_none : (n : ℕ) (ws b : List ℕ) → ((m : ℕ) × (found_in n ws b ≡ is m)) ⊎ (found_in n ws b ≡ worn_or_unknown b)
unfolding found_in
in_or_none n [] b = inr refl
in_or_none n (w ∷ ws) b = number_or_none (same (drawn w) b) n (found_in (suc n) ws b) (worn_or_unknown b) (in_or_none (suc n) ws b)

found_or_none : (b : List ℕ) → ((m : ℕ) × (found b ≡ is m)) ⊎ (found b ≡ worn_or_unknown b)
unfolding found
found_or_none b = in_or_none 0 widths b

pub look_is : (cs : List ℕ) (m : ℕ) → (found cs ≡ is m) ↔ ((m < 106) × (cs ≡ pattern m))
look_is cs m = ((λ e. let r = found_is cs m e in (r.1, r.0)), (λ p. rw p.1 (found_pattern m p.0)))

pub found_none : (cs : List ℕ) → NoPattern cs → found cs ≡ worn_or_unknown cs
found_none cs none = elim (found_or_none cs) [ inl p ↦ let r = found_is cs p.0 p.1 in absurd (none p.0 r.1 r.0) | inr e ↦ e ]

-- every pattern begins with a bar: a block that does not is none of them
pub no_bar : (cs : List ℕ) → get_or cs 0 0 ≡ 0 → NoPattern cs
no_bar cs h m l e = let bar = rw (← e) at (rule_of_pattern m l).begins in omega (arith, h, bar)

-- a block without a number is no pattern
numberless : (cs : List ℕ) → ((m : ℕ) → found cs ≢ is m) → NoPattern cs × (found cs ≡ worn_or_unknown cs)
numberless cs h = let none : NoPattern cs = λ m l e. h m (rw e (found_pattern m l)) in (none, found_none cs none)

-- worn or unknown, by the number of bar cells
pub odd_worn : (cs : List ℕ) → bar_cells cs % 2 ≡ 1 → worn_or_unknown cs ≡ worn
unfolding worn_or_unknown
odd_worn cs h = rw (eq-eqb (bar_cells cs % 2) 1 h)

pub even_unknown : (cs : List ℕ) → bar_cells cs % 2 ≡ 0 → worn_or_unknown cs ≡ unknown
unfolding worn_or_unknown
even_unknown cs h = rw (ne_eqb (bar_cells cs % 2) 1 (omega arith))

parity : (k : ℕ) → (k % 2 ≡ 0) ⊎ (k % 2 ≡ 1)
parity k = elim (dec_le (k % 2) 0) [ yes h ↦ inl (omega arith) | no h ↦ inr (omega arith) ]

worn_not_unknown : {X : Type 0} → worn ≡ unknown → X
worn_not_unknown e = absurd (let z : ◌≡◌ {A = ℕ} 0 1 = cc in omega arith)

pub look_worn : (cs : List ℕ) → (found cs ≡ worn) ↔ (NoPattern cs × (bar_cells cs % 2 ≡ 1))
look_worn cs = (
  (λ e.
      let n = numberless cs (λ m q. let z : ◌≡◌ {A = ℕ} 0 1 = cc in omega arith) in
      (n.0, elim (parity (bar_cells cs)) [ inl h ↦ worn_not_unknown (sym e ∙ n.1 ∙ even_unknown cs h) | inr h ↦ h ])),
  (λ p. found_none cs p.0 ∙ odd_worn cs p.1),
)

pub look_unknown : (cs : List ℕ) → (found cs ≡ unknown) ↔ (NoPattern cs × (bar_cells cs % 2 ≡ 0))
look_unknown cs = (
  (λ e.
      let n = numberless cs (λ m q. let z : ◌≡◌ {A = ℕ} 0 1 = cc in omega arith) in
      (n.0, elim (parity (bar_cells cs)) [ inl h ↦ h | inr h ↦ worn_not_unknown (sym (odd_worn cs h) ∙ sym n.1 ∙ e) ])),
  (λ p. found_none cs p.0 ∙ even_unknown cs p.1),
)

-- an odd number of bar cells suffices: all patterns have an even one
pub found_odd : (cs : List ℕ) → bar_cells cs % 2 ≡ 1 → found cs ≡ worn
found_odd cs h = (look_worn cs).1 ((λ m l e. let even = rw (← e) at (pattern_even m l) in omega arith), h)
