-- What each of the seven jobs owes its caller: its refusals, that its output fits, and its largest
-- output.
-- Assumes nothing.
use mathlib.Core.Path.{◌≡◌, refl}
use mathlib.Core.Logic.{inl, inr}
use mathlib.Core.Bool.{Bool, true, false}
use mathlib.Core.List.{List, [], ◌∷◌}
use Prim.Native.Nat.{ℕ, zero, suc, ◌≤◌}
use native.Mathlib.Omega.{arith}
use lib.Dec.{eqb}
use lib.ListN.{length, take, drop}
use Rattle.std.specs.Prelude.{if◌then◌else◌}
use Rattle.helpers.specs.Answers.{Answer, accept, Test, refuses, passes, every, whole}
use Rattle.helpers.specs.Owes.{OneOf, Owes}
use Rattle.helpers.proofs.Answering.{into_accept, whole_accept}
use Rattle.helpers.proofs.Owed.{TestBy, By, by_if, by_then, by_ask, by_every, by_into, owes}
use Rattle.paper.specs.Iso15417.{Look, is, worn, unknown, found, stop, scanned}
use Rattle.paper.specs.Crate.{Parsed, stops, symbols, parse}
use Rattle.paper.specs.Jobs.{most, SymbolList, parsed, encoder, encode_with_fnc2, not_fnc2, encode, draw, read, spell, scan, pack, unpack, is_start, is_data, well_formed, of_list, of_row, fits_at, Blocks, wrong_block, numbers, with_number, block, blocks_from, looked, wanted}
use Rattle.paper.proofs.Lists.{symbol_list}
use Rattle.paper.proofs.Codes.{scanned_short_before}
use Rattle.paper.proofs.Encoding.{encode_size, spell_encodes}
use Rattle.paper.proofs.Reading.{draw_size, read_size}
use Rattle.paper.proofs.Records.{pack_short, unpack_short}

-- ---- refusals

-- the blocks of a row: if one is wrong, then by one of these numbers
abbrev BlocksBy : List ℕ → Blocks → Type 0
BlocksBy ks (wrong_block k b) = OneOf k ks
BlocksBy ks (numbers ms) = Unit {0}

module _ (ks : List ℕ) where
  by_parsed : (p : Parsed) (made : List ℕ → Answer) → OneOf 3 ks → ((s : List ℕ) → By ks (made s)) → By ks (parsed p made)
  unfolding parsed
  by_parsed (stops at) made h f = h
  by_parsed (symbols s) made h f = f s

  by_form : (s : List ℕ) → OneOf 13 ks → TestBy ks (well_formed s)
  unfolding well_formed
  by_form [] p = tt
  by_form (m ∷ ms) p = by_if ks (is_start m) (every is_data 13 1 ms) (refuses 13 0) (by_every ks is_data 13 1 ms p) p

  by_fit : (f : Bool) (m b : ℕ) (rest : Blocks) → OneOf 13 ks → BlocksBy ks rest → BlocksBy ks (if f then with_number m rest else wrong_block 13 b)
  unfolding with_number
  by_fit true m b (wrong_block k c) p q = q
  by_fit true m b (numbers ms) p q = tt
  by_fit false m b rest p q = p

  by_block : (l : Look) (b : ℕ) (rest : Blocks) → OneOf 12 ks → OneOf 16 ks → OneOf 13 ks → BlocksBy ks rest → BlocksBy ks (block l b rest)
  unfolding block
  by_block unknown b rest p o q r = p
  by_block worn b rest p o q r = o
  by_block (is m) b rest p o q r = by_fit (fits_at b m) m b rest q r

  by_blocks : (n b : ℕ) (cs : List ℕ) → OneOf 12 ks → OneOf 16 ks → OneOf 13 ks → BlocksBy ks (blocks_from n b cs)
  unfolding blocks_from
  by_blocks zero b cs p o q = tt
  by_blocks (suc n) b cs p o q = by_block (found (take 11 cs)) b _ p o q (by_blocks n (suc b) (drop 11 cs) p o q)

  by_looked : (bs : Blocks) (made : List ℕ → Answer) → BlocksBy ks bs → ((ms : List ℕ) → By ks (made ms)) → By ks (looked bs made)
  unfolding looked
  by_looked (wrong_block k b) made p f = p
  by_looked (numbers ms) made p f = f ms

  pub by_wanted : (k at : ℕ) (ys cs : List ℕ) → OneOf k ks → TestBy ks (wanted k at ys cs)
  unfolding wanted
  by_wanted k at [] cs p = tt
  by_wanted k at (y ∷ ys) [] p = p
  by_wanted k at (y ∷ ys) (c ∷ cs) p = by_if ks (eqb c y) (wanted k (suc at) ys cs) (refuses k at) (by_wanted k (suc at) ys cs p) p

-- 10 and 13, or 10 and 11, and 5
list_by : (room : ℕ) (s : List ℕ) (n : ℕ) (out : List ℕ) → By (10 ∷ 13 ∷ 5 ∷ []) (of_list room s (accept n out))
unfolding of_list
list_by room s n out =
    let ks : List ℕ = 10 ∷ 13 ∷ 5 ∷ [] in
    by_into ks room _ (inr (inr (inl refl))) (by_then ks _ _ (by_ask ks _ 10 (length s) (inl refl)) (by_then ks _ _ (by_form ks s (inr (inl refl))) tt))

encoder_by : (ks : List ℕ) (retired : Test) (room : ℕ) (x : List ℕ) → OneOf 1 ks → OneOf 2 ks → OneOf 3 ks → TestBy ks retired → OneOf 4 ks → OneOf 5 ks → By ks (encoder retired room x)
unfolding encoder
encoder_by ks retired room x one two three by four five =
    by_into ks room _ five
    (by_then ks _ _ (by_every ks _ 1 0 x one)
    (by_then ks _ _ (by_ask ks _ 2 0 two)
    (by_parsed ks (parse x) _ three λ s. by_then ks _ _ by (by_then ks _ _ (by_ask ks _ 4 (length s) four) tt))))

pub with_by : (room : ℕ) (x : List ℕ) → By (1 ∷ 2 ∷ 3 ∷ 4 ∷ 5 ∷ []) (encode_with_fnc2 room x)
unfolding encode_with_fnc2
with_by room x =
    let ks : List ℕ = 1 ∷ 2 ∷ 3 ∷ 4 ∷ 5 ∷ [] in
    encoder_by ks passes room x (inl refl) (inr (inl refl)) (inr (inr (inl refl))) tt (inr (inr (inr (inl refl)))) (inr (inr (inr (inr (inl refl)))))

encode_by : (room : ℕ) (x : List ℕ) → By (1 ∷ 2 ∷ 3 ∷ 19 ∷ 4 ∷ 5 ∷ []) (encode room x)
unfolding encode
encode_by room x =
    let ks : List ℕ = 1 ∷ 2 ∷ 3 ∷ 19 ∷ 4 ∷ 5 ∷ [] in
    encoder_by ks (every not_fnc2 19 0 x) room x (inl refl) (inr (inl refl)) (inr (inr (inl refl)))
    (by_every ks _ 19 0 x (inr (inr (inr (inl refl))))) (inr (inr (inr (inr (inl refl))))) (inr (inr (inr (inr (inr (inl refl))))))

draw_by : (room : ℕ) (x : List ℕ) → By (10 ∷ 13 ∷ 5 ∷ []) (draw room x)
unfolding draw
draw_by room x = list_by room x _ _

spell_by : (room : ℕ) (x : List ℕ) → By (10 ∷ 13 ∷ 5 ∷ []) (spell room x)
unfolding spell whole
spell_by room x = list_by room x _ _

scan_by : (room : ℕ) (x : List ℕ) → By (10 ∷ 13 ∷ 5 ∷ []) (scan room x)
unfolding scan whole
scan_by room x = list_by room x _ _

read_by : (room : ℕ) (x : List ℕ) → By (10 ∷ 11 ∷ 12 ∷ 16 ∷ 13 ∷ 15 ∷ 14 ∷ 5 ∷ []) (read room x)
unfolding read of_row
read_by room x =
    let ks : List ℕ = 10 ∷ 11 ∷ 12 ∷ 16 ∷ 13 ∷ 15 ∷ 14 ∷ 5 ∷ [] in
    by_into ks room _ (inr (inr (inr (inr (inr (inr (inr (inl refl))))))))
    (by_then ks _ _ (by_ask ks _ 10 (length x) (inl refl))
    (by_then ks _ _ (by_every ks _ 11 0 x (inr (inl refl)))
    (by_looked ks _ _ (by_blocks ks _ 0 x (inr (inr (inl refl))) (inr (inr (inr (inl refl)))) (inr (inr (inr (inr (inl refl))))))
    λ ms. by_then ks _ _ (by_wanted ks 15 _ stop _ (inr (inr (inr (inr (inr (inl refl))))))) (by_then ks _ _ (by_ask ks _ 14 _ (inr (inr (inr (inr (inr (inr (inl refl)))))))) tt))))

pack_by : (room : ℕ) (x : List ℕ) → By (10 ∷ 11 ∷ 5 ∷ []) (pack room x)
unfolding pack of_row whole
pack_by room x =
    let ks : List ℕ = 10 ∷ 11 ∷ 5 ∷ [] in
    by_into ks room _ (inr (inr (inl refl)))
    (by_then ks _ _ (by_ask ks _ 10 (length x) (inl refl)) (by_then ks _ _ (by_every ks _ 11 0 x (inr (inl refl))) tt))

unpack_by : (room : ℕ) (x : List ℕ) → By (20 ∷ 21 ∷ 22 ∷ 23 ∷ 5 ∷ []) (unpack room x)
unfolding unpack whole
unpack_by room x =
    let ks : List ℕ = 20 ∷ 21 ∷ 22 ∷ 23 ∷ 5 ∷ [] in
    by_into ks room _ (inr (inr (inr (inr (inl refl)))))
    (by_then ks _ _ (by_ask ks _ 20 _ (inl refl))
    (by_then ks _ _ (by_ask ks _ 21 _ (inr (inl refl)))
    (by_then ks _ _ (by_ask ks _ 22 _ (inr (inr (inl refl))))
    (by_then ks _ _ (by_ask ks _ 22 _ (inr (inr (inl refl))))
    (by_then ks _ _ (by_ask ks _ 22 _ (inr (inr (inl refl))))
    (by_then ks _ _ (by_ask ks _ 23 _ (inr (inr (inr (inl refl))))) tt))))))

-- ---- largest outputs

scanned_most : (s : List ℕ) → SymbolList s → length (scanned s) ≤ 7998
unfolding most
scanned_most [] a = absurd a.form
scanned_most (m ∷ ms) a = let size = a.size in omega (arith, scanned_short_before m ms)

scan_short : (room : ℕ) (s : List ℕ) (n : ℕ) (b : List ℕ) → scan room s ≡ accept n b → length b ≤ 7998
unfolding scan
scan_short room s n b e =
    let parts = symbol_list room s (whole (scanned s)) e in
    rw (whole_accept (scanned s) parts.1).0 at (scanned_most s parts.0)

-- ---- the seven

pub encode_owes : Owes encode (1 ∷ 2 ∷ 3 ∷ 19 ∷ 4 ∷ 5 ∷ []) 44024
unfolding encode encoder
encode_owes = owes encode _ 44024 (omega arith) encode_by (λ room x n out e. (into_accept room _ e).1) (λ room x n out e. omega (arith, encode_size room x n out e))

pub draw_owes : Owes draw (10 ∷ 13 ∷ 5 ∷ []) 44024
unfolding draw of_list
draw_owes = owes draw _ 44024 (omega arith) draw_by (λ room x n out e. (into_accept room _ e).1) (λ room x n out e. omega (arith, draw_size room x n out e))

pub read_owes : Owes read (10 ∷ 11 ∷ 12 ∷ 16 ∷ 13 ∷ 15 ∷ 14 ∷ 5 ∷ []) 4000
unfolding read of_row
read_owes = owes read _ 4000 (omega arith) read_by (λ room x n out e. (into_accept room _ e).1) (λ room x n out e. omega (arith, read_size room x n out e))

pub spell_owes : Owes spell (10 ∷ 13 ∷ 5 ∷ []) 7999
unfolding spell of_list
spell_owes =
    owes spell _ 7999 (omega arith) spell_by (λ room x n out e. (into_accept room _ e).1)
    (λ room x n out e. let t = spell_encodes room x n out e in omega (arith, t.2, t.3))

pub scan_owes : Owes scan (10 ∷ 13 ∷ 5 ∷ []) 7998
unfolding scan of_list
scan_owes = owes scan _ 7998 (omega arith) scan_by (λ room x n out e. (into_accept room _ e).1) scan_short

pub pack_owes : Owes pack (10 ∷ 11 ∷ 5 ∷ []) 5506
unfolding pack of_row
pack_owes = owes pack _ 5506 (omega arith) pack_by (λ room x n out e. (into_accept room _ e).1) pack_short

pub unpack_owes : Owes unpack (20 ∷ 21 ∷ 22 ∷ 23 ∷ 5 ∷ []) 44024
unfolding unpack
unpack_owes = owes unpack _ 44024 (omega arith) unpack_by (λ room x n out e. (into_accept room _ e).1) unpack_short
