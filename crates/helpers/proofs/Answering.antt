-- Tests in order, taken apart: what follows from an acceptance, and what makes one.
-- Assumes nothing.
use mathlib.Core.Path.{◌≡◌, refl, sym, ap, ◌∙◌}
use mathlib.Core.Bool.{Bool, true, false, ◌&&◌}
use mathlib.Core.List.{List, [], ◌∷◌, ◌++◌}
use Prim.Native.Nat.{ℕ, zero, suc, ◌<◌, ◌≤◌}
use native.Mathlib.Omega.{arith}
use native.Mathlib.Nat.{not-suc-le-zero, le_of_suc-le-suc}
use lib.Dec.{leb, T}
use lib.ListN.{length, get_or, set, take, drop}
use borrow.Author.Tests.{leb-true, le-leb, lt-leb}
use Rattle.std.specs.Prelude.{if◌then◌else◌}
use Rattle.helpers.specs.Answers.{Each, Answer, refuse, accept, Test, refuses, passes, ◌then◌, ask, every, whole, into}

-- ---- truth values

pub true_not_false : {X : Type 0} → true ≡ false → X
true_not_false e = absurd (let z : ◌≡◌ {A = ℕ} 0 1 = ap (λ b. if b then 0 else 1) e in omega arith)

pub and_true : (a b : Bool) → (a && b) ≡ true → (a ≡ true) × (b ≡ true)
and_true true b e = (refl, e)
and_true false b e = true_not_false (sym e)

pub and_false : (b : Bool) → (b && false) ≡ false
and_false true = refl
and_false false = refl

pub truth : (b : Bool) → T b → b ≡ true
truth true t = refl
truth false t = absurd t

pub as_test : (b : Bool) → b ≡ true → T b
as_test true e = tt
as_test false e = true_not_false (sym e)

-- ---- every element

pub each_append : (P : ℕ → Type 0) (xs ys : List ℕ) → Each P xs → Each P ys → Each P (xs ++ ys)
each_append P [] ys a b = b
each_append P (x ∷ xs) ys a b = (a.0, each_append P xs ys a.1 b)

pub each_map : (P Q : ℕ → Type 0) → ((x : ℕ) → P x → Q x) → (xs : List ℕ) → Each P xs → Each Q xs
each_map P Q f [] a = tt
each_map P Q f (x ∷ xs) a = (f x a.0, each_map P Q f xs a.1)

pub each_at : (P : ℕ → Type 0) (xs : List ℕ) (i d : ℕ) → Each P xs → i < length xs → P (get_or xs i d)
each_at P [] i d a h = absurd (not-suc-le-zero h)
each_at P (x ∷ xs) zero d a h = a.0
each_at P (x ∷ xs) (suc i) d a h = each_at P xs i d a.1 (le_of_suc-le-suc h)

pub each_set : (P : ℕ → Type 0) (xs : List ℕ) (i m : ℕ) → Each P xs → P m → Each P (set xs i m)
each_set P [] i m a h = tt
each_set P (x ∷ xs) zero m a h = (h, a.1)
each_set P (x ∷ xs) (suc i) m a h = (a.0, each_set P xs i m a.1 h)

pub each_take : (P : ℕ → Type 0) (n : ℕ) (xs : List ℕ) → Each P xs → Each P (take n xs)
each_take P zero xs a = tt
each_take P (suc n) [] a = tt
each_take P (suc n) (x ∷ xs) a = (a.0, each_take P n xs a.1)

pub each_drop : (P : ℕ → Type 0) (n : ℕ) (xs : List ℕ) → Each P xs → Each P (drop n xs)
each_drop P zero xs a = a
each_drop P (suc n) [] a = tt
each_drop P (suc n) (x ∷ xs) a = each_drop P n xs a.1

-- ---- acceptances

pub refuse_not_accept : {X : Type 0} {k m n : ℕ} {out : List ℕ} → refuse k m ≡ accept n out → X
refuse_not_accept {k} {m} {n} {out} e = absurd (let z : ◌≡◌ {A = ℕ} 0 1 = cc in omega arith)

pub accept_number : {n m : ℕ} {out out' : List ℕ} → accept n out ≡ accept m out' → n ≡ m
accept_number e = cc

pub accept_output : {n m : ℕ} {out out' : List ℕ} → accept n out ≡ accept m out' → out ≡ out'
accept_output e = cc

pub then_accept : (t : Test) (a : Answer) {n : ℕ} {out : List ℕ} → (t then a) ≡ accept n out → (t ≡ passes) × (a ≡ accept n out)
unfolding ◌then◌
then_accept (refuses k m) a e = refuse_not_accept e
then_accept passes a e = (refl, e)

pub then_passes : (t : Test) (a : Answer) → t ≡ passes → (t then a) ≡ a
unfolding ◌then◌
then_passes t a e = rw e

pub ask_passes : (b : Bool) (k m : ℕ) → ask b k m ≡ passes → b ≡ true
unfolding ask
ask_passes true k m e = refl
ask_passes false k m e = absurd (let z : ◌≡◌ {A = ℕ} 0 1 = cc in omega arith)

pub ask_true : (b : Bool) (k m : ℕ) → b ≡ true → ask b k m ≡ passes
unfolding ask
ask_true b k m e = rw e

into_case : (b : Bool) (n l m : ℕ) (out o : List ℕ) → (if b then accept n out else refuse 5 l) ≡ accept m o → (b ≡ true) × (accept n out ≡ accept m o)
into_case true n l m out o e = (refl, e)
into_case false n l m out o e = refuse_not_accept e

pub into_accept : (room : ℕ) (a : Answer) {n : ℕ} {out : List ℕ} → into room a ≡ accept n out → (a ≡ accept n out) × (length out ≤ room)
unfolding into
into_accept room (refuse k m) e = refuse_not_accept e
into_accept room (accept n out) {n = k} {out = o} e =
    let both = into_case (leb (length out) room) n (length out) k out o e in
    (both.1, rw (accept_output both.1) at (leb-true (length out) room both.0))

pub into_room : (room n : ℕ) (out : List ℕ) → length out ≤ room → into room (accept n out) ≡ accept n out
unfolding into
into_room room n out h = rw (le-leb (length out) room h)

pub into_refuse : (room k m : ℕ) → into room (refuse k m) ≡ refuse k m
unfolding into
into_refuse room k m = refl

-- too little room for the output
pub into_short : (room n : ℕ) (out : List ℕ) (k : ℕ) → room < length out → k ≡ length out → into room (accept n out) ≡ refuse 5 k
unfolding into
into_short room n out k h e = rw (lt-leb (length out) room h, e)

pub whole_accept : (out : List ℕ) {n : ℕ} {o : List ℕ} → whole out ≡ accept n o → (out ≡ o) × (n ≡ length o)
unfolding whole
whole_accept out {n} {o} e =
    let same : out ≡ o = accept_output e in
    (same, sym (accept_number e) ∙ ap length same)

-- ---- a test of every element

pub passed : (b : Bool) (k m : ℕ) (t : Test) → (if b then t else refuses k m) ≡ passes → (b ≡ true) × (t ≡ passes)
passed true k m t e = (refl, e)
passed false k m t e = absurd (let z : ◌≡◌ {A = ℕ} 0 1 = cc in omega arith)

pub every_good : (good : ℕ → Bool) (k at : ℕ) (xs : List ℕ) → every good k at xs ≡ passes → Each (λ x. good x ≡ true) xs
unfolding every
every_good good k at [] e = tt
every_good good k at (x ∷ xs) e =
    let both = passed (good x) k at (every good k (suc at) xs) e in
    (both.0, every_good good k (suc at) xs both.1)

pub every_passes : (good : ℕ → Bool) (k at : ℕ) (xs : List ℕ) → Each (λ x. good x ≡ true) xs → every good k at xs ≡ passes
unfolding every
every_passes good k at [] a = refl
every_passes good k at (x ∷ xs) a = rw a.0 (every_passes good k (suc at) xs a.1)
