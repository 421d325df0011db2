-- Blocks that read refuses: what a refusal by 12 or 16 says of the block.
-- Assumes nothing.
use mathlib.Core.Path.{◌≡◌, refl, sym, ◌∙◌}
use mathlib.Core.Logic.{◌≢◌, ◌⊎◌, inl, inr}
use mathlib.Core.Bool.{Bool, true, false}
use mathlib.Core.List.{List, [], ◌∷◌}
use Prim.Native.Nat.{ℕ, zero, suc, ◌+◌, ◌-◌, ◌*◌}
use native.Mathlib.Omega.{arith}
use native.Mathlib.Nat.{add-zero, zero-add}
use lib.Dec.{leb, eqb}
use lib.ListN.{length, get_or, take, drop}
use lib.Seq.{drop-drop}
use Rattle.std.specs.Prelude.{if◌then◌else◌}
use Rattle.helpers.specs.Answers.{Answer, refuse, accept, Test, refuses, passes, ◌then◌, ask, every, into}
use Rattle.helpers.proofs.Answering.{refuse_not_accept}
use Rattle.helpers.proofs.Owed.{TestBy, by_ask, by_every}
use Rattle.paper.specs.Iso15417.{Look, is, worn, unknown, found, check, stop}
use Rattle.paper.specs.Jobs.{is_cell, possible_row, symbol_count, of_row, fits_at, Blocks, wrong_block, numbers, with_number, block, blocks_from, looked, last_of, wanted, read}
use Rattle.paper.specs.Damage.{block_at}
use Rattle.paper.proofs.Reading.{judged}
use Rattle.paper.proofs.Results.{by_wanted}

-- ---- the block

-- the refusal of what is no pattern
refused_by : Look → ℕ
refused_by (is m) = 0
refused_by worn = 16
refused_by unknown = 12

-- a refusal is that of the block at hand, by 13 where a number may not stand, or comes after it
fit_or_after : (t : Bool) (m b : ℕ) (rest : Blocks) (k c : ℕ) → k ≢ 13 → (if t then with_number m rest else wrong_block 13 b) ≡ wrong_block k c → rest ≡ wrong_block k c
unfolding with_number
fit_or_after true m b (wrong_block j d) k c other e = e
fit_or_after true m b (numbers ms) k c other e = absurd (let z : ◌≡◌ {A = ℕ} 0 1 = cc in omega arith)
fit_or_after false m b rest k c other e = absurd (other (let z : 13 ≡ k = cc in sym z))

here_or_after : (l : Look) (b : ℕ) (rest : Blocks) (k c : ℕ) → k ≢ 13 → block l b rest ≡ wrong_block k c → ((refused_by l ≡ k) × (c ≡ b)) ⊎ (rest ≡ wrong_block k c)
unfolding block refused_by
here_or_after (is m) b rest k c other e = inr (fit_or_after (fits_at b m) m b rest k c other e)
here_or_after worn b rest k c other e = inl (cc, cc)
here_or_after unknown b rest k c other e = inl (cc, cc)

-- the refused block stands i blocks after the first
wrong_at : (n b : ℕ) (cs : List ℕ) (k c : ℕ) → k ≢ 13 → blocks_from n b cs ≡ wrong_block k c → (i : ℕ) × (c ≡ b + i) × (refused_by (found (block_at i cs)) ≡ k)
unfolding blocks_from block_at
wrong_at zero b cs k c other e = absurd (let z : ◌≡◌ {A = ℕ} 0 1 = cc in omega arith)
wrong_at (suc n) b cs k c other e = elim (here_or_after (found (take 11 cs)) b (blocks_from n (suc b) (drop 11 cs)) k c other e) [
  | inl h ↦ (0, h.1 ∙ sym (add-zero b), h.0)
  | inr h ↦
      let later = wrong_at n (suc b) (drop 11 cs) k c other h in
      let place : 11 + 11 * later.0 ≡ 11 * suc later.0 = omega arith in
      (suc later.0, omega (arith, later.1), rw (drop-drop (11 * later.0) 11 cs, place) at later.2)
]

-- ---- read

refuse_number : {k m j i : ℕ} → refuse k m ≡ refuse j i → k ≡ j
refuse_number e = cc

-- a refusal by another number than that of a test, or of the room, comes after it
past : (j k : ℕ) (t : Test) (a : Answer) {m : ℕ} → TestBy (j ∷ []) t → k ≢ j → (t then a) ≡ refuse k m → a ≡ refuse k m
unfolding ◌then◌
past j k (refuses i n) a (inl h) other e = absurd (other (sym (refuse_number e) ∙ h))
past j k (refuses i n) a (inr h) other e = elim h [ ]
past j k passes a h other e = e

fits_past : (b : Bool) (k n l : ℕ) (out : List ℕ) {m : ℕ} → k ≢ 5 → (if b then accept n out else refuse 5 l) ≡ refuse k m → accept n out ≡ refuse k m
fits_past true k n l out other e = e
fits_past false k n l out other e = absurd (other (sym (refuse_number e)))

room_past : (room k : ℕ) (a : Answer) {m : ℕ} → k ≢ 5 → into room a ≡ refuse k m → a ≡ refuse k m
unfolding into
room_past room k (refuse j i) other e = e
room_past room k (accept n out) other e = fits_past (leb (length out) room) k n (length out) out other e

-- the numbers that read refuses by beside those of its blocks
abbrev Others : ℕ → Type 0
Others k = (k ≢ 5) × (k ≢ 10) × (k ≢ 11) × (k ≢ 14) × (k ≢ 15)

looked_wrong : (bs : Blocks) (n : ℕ) (cs : List ℕ) (k b : ℕ) → Others k → looked bs (judged n cs) ≡ refuse k b → bs ≡ wrong_block k b
unfolding looked
looked_wrong (wrong_block j c) n cs k b other e = cc
looked_wrong (numbers ms) n cs k b other e =
    let checks = past 15 k (wanted 15 (length cs - 13) stop (last_of 13 cs)) _ (by_wanted (15 ∷ []) 15 (length cs - 13) stop (last_of 13 cs) (inl refl)) other.4 e in
    refuse_not_accept (sym (past 14 k (ask (eqb (get_or ms n 0) (check (take n ms))) 14 (check (take n ms))) _ (by_ask (14 ∷ []) _ 14 _ (inl refl)) other.3 checks))

-- a refusal by 12 or 16 is that of the block which it names
refused_block : (room : ℕ) (cs : List ℕ) (k b : ℕ) → Others k → k ≢ 13 → read room cs ≡ refuse k b → refused_by (found (block_at b cs)) ≡ k
unfolding read of_row
refused_block room cs k b other place e =
    let n : ℕ = symbol_count (length cs) in
    let sized = room_past room k _ other.0 e in
    let clean = past 10 k (ask (possible_row (length cs)) 10 (length cs)) _ (by_ask (10 ∷ []) _ 10 _ (inl refl)) other.1 sized in
    let walked = past 11 k (every is_cell 11 0 cs) _ (by_every (11 ∷ []) is_cell 11 0 cs (inl refl)) other.2 clean in
    let r = wrong_at (n + 1) 0 cs k b place (looked_wrong (blocks_from (n + 1) 0 cs) n cs k b other walked) in
    rw (← zero-add r.0, ← r.1) at r.2

is_worn : (l : Look) → refused_by l ≡ 16 → l ≡ worn
unfolding refused_by
is_worn (is m) e = absurd (omega arith)
is_worn worn e = refl
is_worn unknown e = absurd (omega arith)

is_unknown : (l : Look) → refused_by l ≡ 12 → l ≡ unknown
unfolding refused_by
is_unknown (is m) e = absurd (omega arith)
is_unknown worn e = absurd (omega arith)
is_unknown unknown e = refl

pub read_worn : (room : ℕ) (cs : List ℕ) (b : ℕ) → read room cs ≡ refuse 16 b → found (block_at b cs) ≡ worn
read_worn room cs b e = is_worn _ (refused_block room cs 16 b (omega arith) (omega arith) e)

pub read_unknown : (room : ℕ) (cs : List ℕ) (b : ℕ) → read room cs ≡ refuse 12 b → found (block_at b cs) ≡ unknown
read_unknown room cs b e = is_unknown _ (refused_block room cs 12 b (omega arith) (omega arith) e)
