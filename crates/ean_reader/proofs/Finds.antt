-- The searches of the read side: cells in a table, cell by cell, and the lists that are looked for.
-- Assumes nothing.
use Prim.Native.Nat.{ℕ, zero, suc, ◌+◌, ◌-◌, ◌<◌, ◌≤◌}
use mathlib.Core.Path.{◌≡◌, refl, sym, ap, ap₂, ◌∙◌}
use mathlib.Core.Bool.{Bool, true, false, ◌&&◌}
use mathlib.Core.List.{List, [], ◌∷◌, ◌++◌}
use native.Mathlib.Nat.{add-zero}
use native.Mathlib.Numerals.{add-one}
use native.Mathlib.Omega.{arith}
use lib.ListN.{length, get_or, take, drop, take-append-drop}
use lib.Seq.{length-take-le}
use borrow.Author.Tests.{eq-eqb}
use Rattle.std.specs.Int.{w32, from_le_bytes, to_le_bytes}
use Rattle.std.proofs.lemmas.Nat.{le_bytes_4}
use Rattle.std.proofs.lemmas.List.{take_rest}
use Rattle.std.specs.Prelude.{if◌then◌else◌, Option, Some, None, Ok, Err, ok_or, position, cond, nat_eq}
use Rattle.std.specs.List.{position_from}
use Rattle.std.specs.Cmp.Lexicographic.{pointwise}
use Rattle.std.proofs.lemmas.Iterator.Adapters.{position_from-zero}
use Rattle.helpers.specs.Answers.{same}
use Rattle.helpers.proofs.Same.{same_true, same_refl}
use Rattle.ean.proofs.Reading.{one_truth}
use Rattle.ean.specs.Ean13.{first_of}
use Rattle.ean.specs.Terms.{Found}

-- what `==` of slices says
pub cells_same : (xs ys : List ℕ) → pointwise nat_eq xs ys ≡ same xs ys
unfolding same
cells_same [] [] = refl
cells_same [] (y ∷ ys) = refl
cells_same (x ∷ xs) [] = refl
cells_same (x ∷ xs) (y ∷ ys) = ap (λ (b : Bool). nat_eq x y && b) (cells_same xs ys)

-- ---- four cells asked at once

abbrev pub Bytes : List ℕ → Type 0
Bytes l = (i : ℕ) → get_or l i 0 < 256

bytes_take : (n : ℕ) (l : List ℕ) → Bytes l → Bytes (take n l)
bytes_take zero l h i = omega arith
bytes_take (suc n) [] h i = h i
bytes_take (suc n) (x ∷ l) h zero = h 0
bytes_take (suc n) (x ∷ l) h (suc i) = bytes_take n l (λ k. h (suc k)) i

-- lists that begin alike are told apart by the rest
same_rest : (p xs ys : List ℕ) → pointwise nat_eq (p ++ xs) (p ++ ys) ≡ pointwise nat_eq xs ys
same_rest [] xs ys = refl
same_rest (x ∷ p) xs ys = rw (eq-eqb x x refl) (same_rest p xs ys)

module _ (xs ys : List ℕ) (long : 4 ≤ length xs) (alike : length xs ≡ length ys) (h : Bytes xs) (k : Bytes ys) where
  four : (l : List ℕ) → Bytes l → 4 ≤ length l → {n : ℕ} → n ≡ from_le_bytes w32 (take 4 l) → to_le_bytes w32 n ≡ take 4 l
  four l b m e = le_bytes_4 (take 4 l) _ (length-take-le 4 l m) (bytes_take 4 l b) e

  pub fours_same : {n m : ℕ} → n ≡ from_le_bytes w32 (take 4 xs) → m ≡ from_le_bytes w32 (take 4 ys) → n ≡ m
      → pointwise nat_eq (take (length xs - 4) (drop 4 xs)) (take (length ys - 4) (drop 4 ys)) ≡ pointwise nat_eq xs ys
  fours_same e f q =
      let front : take 4 xs ≡ take 4 ys = sym (four xs h long e) ∙ ap (to_le_bytes w32) q ∙ four ys k (omega arith) f in
      ap₂ (pointwise nat_eq) (take_rest xs 4) (take_rest ys 4)
      ∙ sym (ap₂ (pointwise nat_eq) (sym (take-append-drop 4 xs)) (sym (take-append-drop 4 ys) ∙ ap (λ (l : List ℕ). l ++ drop 4 ys) (sym front)) ∙ same_rest (take 4 xs) (drop 4 xs) (drop 4 ys))

-- the place of some cells in a table, from place i on
module _ (table : List (List ℕ)) (cs : List ℕ) where
  abbrev list : ℕ → List ℕ
  list d = get_or table d []

  abbrev is : List ℕ → Bool
  is l = pointwise nat_eq l cs

  abbrev Placed : Option ℕ → ℕ → ℕ → Type 0
  Placed None n end = n ≡ end
  Placed (Some d) n end = (d ≡ n) × (d < end)

  from : (xs : List (List ℕ)) (i end : ℕ) → end ≡ i + length xs → ((k : ℕ) → list (i + k) ≡ get_or xs k []) → Placed (position_from is i xs) (first_of list (length xs) i cs) end
  unfolding first_of
  from [] i end e h = omega arith
  from (x ∷ xs) i end e h =
      let here : list i ≡ x = ap list (sym (add-zero i)) ∙ h 0 in
      rw (here, ← cells_same x cs) (by_case (is x) (rw (add-one i) (from xs (suc i) end (omega arith) (λ k. ap list (omega arith) ∙ h (suc k)))))
    where
      by_case : (b : Bool) → Placed (position_from is (i + 1) xs) (first_of list (length xs) (suc i) cs) end
          → Placed (cond b (Some i) (position_from is (i + 1) xs)) (if b then i else first_of list (length xs) (suc i) cs) end
      by_case true p = (refl, omega arith)
      by_case false p = p

  pub placed : {r : Option ℕ} → length table ≡ 10 → r ≡ position is table → Found r (first_of list 10 0 cs)
  placed {r} h e =
      let here : Placed (position_from is 0 table) (first_of list (length table) 0 cs) 10 = from table 0 10 (omega arith) (λ k. ap list (omega arith)) in
      rw (e, position_from-zero is table) (as_found _ _ (rw h at here))
    where
      as_found : (q : Option ℕ) (n : ℕ) → Placed q n 10 → Found q n
      as_found None n p = p
      as_found (Some d) n p = p

-- two tests of cells, the one way round and the other
pub cells_other : (xs ys : List ℕ) → pointwise nat_eq ys xs ≡ same xs ys
cells_other xs ys = cells_same ys xs ∙ one_truth (same ys xs) (same xs ys) (turned ys xs) (turned xs ys)
  where
    turned : (us vs : List ℕ) → same us vs ≡ true → same vs us ≡ true
    turned us vs e = rw (same_true us vs e) (same_refl vs)

-- what `ok_or` made an error, and what it passed on
pub given_none : {T E : Type 0} (o : Option T) {e r : E} → Err r ≡ ok_or o e → (o ≡ None) × (r ≡ e)
given_none None h = (refl, cc)
given_none (Some x) h = absurd cc

pub given_some : {T E : Type 0} (o : Option T) (e : E) {x : T} → Ok x ≡ ok_or o e → o ≡ Some x
given_some None e h = absurd cc
given_some (Some y) e h = cc
