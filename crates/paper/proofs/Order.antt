-- The order of the refusals: each job answers by the first of its tests that refuses; and the table
-- of inputs, by computation.
-- Assumes nothing.
use Prim.Native.Nat.{ℕ, zero, suc, ◌+◌, ◌-◌, ◌≤◌}
use mathlib.Core.Path.{◌≡◌, refl, sym, ap, ◌∙◌}
use mathlib.Core.Bool.{Bool, true, false}
use mathlib.Core.List.{List, [], ◌∷◌, ◌++◌}
use native.Mathlib.Decide.{dec_le}
use native.Mathlib.Omega.{arith}
use lib.Dec.{leb, eqb}
use lib.ListN.{length, get_or, take, drop}
use borrow.Author.Tests.{lt-ltb}
use Rattle.std.specs.Prelude.{if◌then◌else◌}
use Rattle.helpers.specs.Answers.{Answer, refuse, accept, Test, refuses, passes, ◌then◌, ask, every, whole, into}
use Rattle.helpers.specs.Order.{in_order, room_for, answered_and_earned, due}
use Rattle.helpers.proofs.Computes.{tests_computes}
use Rattle.helpers.proofs.Answering.{true_not_false}
use Rattle.helpers.proofs.Order.{into_order, into_order_accept}
use Rattle.paper.specs.Iso15417.{Look, is, worn, unknown, found, stop, row, check}
use Rattle.paper.specs.Crate.{utf8_bytes, is_scalar, Parsed, stops, symbols, parse}
use Rattle.paper.specs.Jobs.{most, row_length, symbol_count, possible, possible_row, parsed, encoder, not_fnc2, encode, well_formed, of_list, draw, spell, scan, is_cell, of_row, fits_at, Blocks, wrong_block, numbers, with_number, block, blocks_from, looked, last_of, wanted, read, pack, all_zero, record_length, version_of, head_length, count_of, count_fits, stored_cells, unpack}
use Rattle.paper.specs.Order.{Job, Encode, Draw, Read, Spell, Scan, Pack, Unpack, answer_of, parses, symbols_of, right, numbers_of, block_tests, numbers_in, list_tests, row_tests, read_tests, tests_of, accepted_of, shortest, wrong_check, spaces, one_bar, earnings}
use Rattle.paper.proofs.Computes.{jobs_computes}
use Rattle.paper.proofs.Utf8.{one_byte, high_bytes}

-- ---- the table

unfoldable order_computes : Unit {0}
unfolding answer_of parses symbols_of right numbers_of block_tests numbers_in list_tests row_tests read_tests tests_of accepted_of shortest wrong_check spaces one_bar earnings tests_computes jobs_computes
order_computes = tt

pub refusals_earned : answered_and_earned answer_of tests_of earnings ≡ due earnings
unfolding order_computes
refusals_earned = refl

-- ---- 1 and 2

-- a value that is no scalar value makes two bytes or more
no_scalar : (c : ℕ) → is_scalar c ≡ false → 0x80 ≤ c
unfolding is_scalar
no_scalar c e =
    elim (dec_le 0x80 c) [
      | yes h ↦ h
      | no h ↦ absurd (true_not_false (sym (rw (lt-ltb c 0xD800 (omega arith))) ∙ e))
    ]

not_refused : {k m : ℕ} {X : Type 0} → passes ≡ refuses k m → X
not_refused e = absurd (let z : ◌≡◌ {A = ℕ} 0 1 = ap (λ (t : Test). elim t [ refuses k m ↦ 1 | passes ↦ 0 ]) e in omega arith)

one_alone : (b : Bool) (c at : ℕ) → is_scalar c ≡ b → (if b then passes else refuses 1 0) ≡ refuses 1 at → 0x80 ≤ c
one_alone true c at s e = not_refused e
one_alone false c at s e = no_scalar c s

pub one_not_two : (x : List ℕ) (at : ℕ) → every is_scalar 1 0 x ≡ refuses 1 at → 2 ≤ utf8_bytes x
unfolding every utf8_bytes
one_not_two [] at e = not_refused e
one_not_two (c ∷ []) at e = omega (arith, high_bytes c (one_alone (is_scalar c) c at refl e))
one_not_two (c ∷ d ∷ x) at e = omega (arith, one_byte c, one_byte d)

-- ---- encode

encode_order : (room : ℕ) (one two retired : Test) (p : Parsed)
    → into room (one then two then parsed p λ s. retired then ask (leb (length s) most) 4 (length s) then accept (length s) (row s))
    ≡ in_order (one ∷ two ∷ parses p ∷ retired ∷ ask (leb (length (symbols_of p)) most) 4 (length (symbols_of p)) ∷ room_for room (row (symbols_of p)) ∷ []) (accept (length (symbols_of p)) (row (symbols_of p)))
unfolding in_order parsed parses symbols_of ◌then◌ into
encode_order room one two retired (stops at) = into_order room (one ∷ two ∷ []) (refuse 3 at)
encode_order room one two retired (symbols s) = into_order_accept room (one ∷ two ∷ retired ∷ ask (leb (length s) most) 4 (length s) ∷ []) (length s) (row s)

-- ---- draw, spell and scan

list_order : (room : ℕ) (s : List ℕ) (n : ℕ) (out : List ℕ) → of_list room s (accept n out) ≡ in_order (list_tests room s out) (accept n out)
unfolding in_order of_list list_tests
list_order room s n out = into_order_accept room (ask (possible (length s)) 10 (length s) ∷ well_formed s ∷ []) n out

-- ---- read and pack

-- a block by itself, and then those after it
block_then : (l : Look) (b : ℕ) (rest : Blocks) (a : Answer) → (right (block l b (numbers [])) then right rest then a) ≡ (right (block l b rest) then a)
unfolding block right ◌then◌ with_number
block_then unknown b rest a = refl
block_then worn b rest a = refl
block_then (is m) b rest a = fits_then (fits_at b m) rest
  where
    fits_then : (f : Bool) (rest : Blocks) → (right (if f then with_number m (numbers []) else wrong_block 13 b) then right rest then a) ≡ (right (if f then with_number m rest else wrong_block 13 b) then a)
    fits_then true (wrong_block k c) = refl
    fits_then true (numbers ms) = refl
    fits_then false rest = refl

blocks_order : (k b : ℕ) (cs : List ℕ) (ts : List Test) (a : Answer) → in_order (block_tests k b cs ++ ts) a ≡ (right (blocks_from k b cs) then in_order ts a)
unfolding in_order block_tests blocks_from right ◌then◌
blocks_order zero b cs ts a = refl
blocks_order (suc k) b cs ts a =
    ap (λ (r : Answer). right (block (found (take 11 cs)) b (numbers [])) then r) (blocks_order k (suc b) (drop 11 cs) ts a) ∙ block_then (found (take 11 cs)) b (blocks_from k (suc b) (drop 11 cs)) (in_order ts a)

read_order : (room : ℕ) (ten eleven fifteen : Test) (n : ℕ) (bs : Blocks)
    → into room (ten then eleven then looked bs λ ms. fifteen then ask (eqb (get_or ms n 0) (check (take n ms))) 14 (check (take n ms)) then accept n (take n ms))
    ≡ (ten then eleven then right bs then in_order (fifteen ∷ ask (eqb (get_or (numbers_of bs) n 0) (check (take n (numbers_of bs)))) 14 (check (take n (numbers_of bs))) ∷ room_for room (take n (numbers_of bs)) ∷ []) (accept n (take n (numbers_of bs))))
unfolding in_order looked right numbers_of ◌then◌ into
read_order room ten eleven fifteen n (wrong_block k b) = into_order room (ten ∷ eleven ∷ []) (refuse k b)
read_order room ten eleven fifteen n (numbers ms) =
    into_order_accept room (ten ∷ eleven ∷ fifteen ∷ ask (eqb (get_or ms n 0) (check (take n ms))) 14 (check (take n ms)) ∷ []) n (take n ms)

-- ---- all

pub in_order_lem : (j : Job) (room : ℕ) (x : List ℕ) → answer_of j room x ≡ in_order (tests_of j room x) (accepted_of j x)
unfolding answer_of tests_of accepted_of encode encoder draw spell scan read pack unpack of_row whole in_order row_tests read_tests numbers_in
in_order_lem Encode room x = encode_order room (every is_scalar 1 0 x) (ask (leb 2 (utf8_bytes x)) 2 0) (every not_fnc2 19 0 x) (parse x)
in_order_lem Draw room s = list_order room s (length s) (row s)
in_order_lem Read room cs =
    let n : ℕ = symbol_count (length cs) in
    let ten : Test = ask (possible_row (length cs)) 10 (length cs) in
    let eleven : Test = every is_cell 11 0 cs in
    read_order room ten eleven (wanted 15 (length cs - 13) stop (last_of 13 cs)) n (blocks_from (n + 1) 0 cs) ∙ ap (λ (a : Answer). ten then eleven then a) (sym (blocks_order (n + 1) 0 cs _ _))
in_order_lem Spell room s = list_order room s _ _
in_order_lem Scan room s = list_order room s _ _
in_order_lem Pack room cs = into_order_accept room (row_tests cs) _ _
in_order_lem Unpack room rec =
    into_order_accept room (
    ask (leb 2 (length rec)) 20 (length rec) ∷
    ask _ 21 (version_of rec) ∷
    ask (leb (head_length rec) (length rec)) 22 0 ∷
    ask (count_fits rec) 22 0 ∷
    ask (eqb (length rec) (record_length (count_of rec))) 22 (record_length (count_of rec)) ∷
    ask (all_zero (drop (row_length (count_of rec)) (stored_cells rec))) 23 (length rec - 1) ∷ []) _ _
