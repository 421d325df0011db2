-- Eight cells and a byte, many cells and many bytes: each is found again in the other.
-- Assumes nothing.
use mathlib.Core.Path.{◌≡◌, refl, sym, ap, ap₂, subst, ◌∙◌}
use mathlib.Core.Bool.{Bool, true, ◌&&◌}
use mathlib.Core.List.{List, [], ◌∷◌, ◌++◌}
use Prim.Native.Nat.{ℕ, zero, suc, ◌+◌, ◌-◌, ◌*◌, ◌/◌, ◌<◌, ◌≤◌, suc-le-suc}
use native.Mathlib.Omega.{arith}
use native.Mathlib.Decide.{dec_le}
use native.Mathlib.Nat.{not-suc-le-zero, le_of_suc-le-suc, mul-zero, add-sub_of_le}
use lib.Dec.{T, eqb, eqb→eq}
use lib.ListN.{length, get_or, take, drop, length-take, length-drop, take-append-drop, get_or-eq_default, get_or-append}
use lib.Seq.{take-nil, get_or-take, get_or-drop, get_or-append-add, ext_get_or}
use borrow.Author.Tests.{eqb-true}
use Rattle.helpers.specs.Answers.{Each}
use Rattle.paper.specs.Jobs.{bits, bytes, eight, unbytes, all_zero}
use Rattle.helpers.proofs.Answering.{and_true, each_append}
use Rattle.helpers.proofs.Below.{and_left, and_right, below, at}

-- ---- eight cells and a byte

-- the test f passes at every list of at most n cells, each 0 or 1
abbrev every_list : (List ℕ → Bool) → ℕ → Bool
every_list f zero = f []
every_list f (suc n) = f [] && (every_list (λ l. f (0 ∷ l)) n && every_list (λ l. f (1 ∷ l)) n)

at_list : (f : List ℕ → Bool) (n : ℕ) → T (every_list f n) → (l : List ℕ) → Each (λ c. c ≤ 1) l → length l ≤ n → T (f l)
at_list f zero t [] a h = t
at_list f zero t (c ∷ l) a h = absurd (not-suc-le-zero h)
at_list f (suc n) t [] a h = search and_left
at_list f (suc n) t (zero ∷ l) a h = at_list (λ cs. f (0 ∷ cs)) n (search (and_left, and_right)) l a.1 (le_of_suc-le-suc h)
at_list f (suc n) t (suc zero ∷ l) a h = at_list (λ cs. f (1 ∷ cs)) n (search (and_left, and_right)) l a.1 (le_of_suc-le-suc h)
at_list f (suc n) t (suc (suc c) ∷ l) a h = absurd (not-suc-le-zero (le_of_suc-le-suc a.0))

-- the cells of the byte of some cells are those cells, and 0 after them
cell_of_bits : (l : List ℕ) → Each (λ c. c ≤ 1) l → length l ≤ 8 → (i : ℕ) → i < 8 → get_or (eight (bits 128 l)) i 0 ≡ get_or l i 0
unfolding bits eight
cell_of_bits l a h i m =
    let test : List ℕ → ℕ → Bool = λ cs j. eqb (get_or (eight (bits 128 cs)) j 0) (get_or cs j 0) in
    eqb→eq (get_or (eight (bits 128 l)) i 0) (get_or l i 0) (at (test l) 8 (at_list (λ cs. below (test cs) 8) 8 tt l a h) i m)

-- a byte is the byte of its cells
bits_of_eight : (b : ℕ) → b < 256 → bits 128 (eight b) ≡ b
unfolding bits eight
bits_of_eight b h = eqb→eq (bits 128 (eight b)) b (at (λ x. eqb (bits 128 (eight x)) x) 256 tt b h)

-- ---- cells and bytes

pub length_bytes : (k : ℕ) (cs : List ℕ) → length (bytes k cs) ≡ k
unfolding bytes
length_bytes zero cs = refl
length_bytes (suc k) cs = ap suc (length_bytes k (drop 8 cs))

pub length_unbytes : (bs : List ℕ) → length (unbytes bs) ≡ 8 * length bs
unfolding unbytes eight
length_unbytes [] = refl
length_unbytes (b ∷ bs) = omega (arith, length_unbytes bs)

pub unbytes_cells : (bs : List ℕ) → Each (λ c. c ≤ 1) (unbytes bs)
unfolding unbytes eight
unbytes_cells [] = tt
unbytes_cells (b ∷ bs) = each_append (λ c. c ≤ 1) (eight b) (unbytes bs) (omega arith) (unbytes_cells bs)

pub each_split : (P : ℕ → Type 0) (n : ℕ) (xs : List ℕ) → Each P xs → Each P (take n xs) × Each P (drop n xs)
each_split P zero xs a = (tt, a)
each_split P (suc n) [] a = (tt, tt)
each_split P (suc n) (x ∷ xs) a = let both = each_split P n xs a.1 in ((a.0, both.0), both.1)

-- the cells of k bytes of some cells are those cells, and 0 after them
cell_of_bytes : (k : ℕ) (cs : List ℕ) → Each (λ c. c ≤ 1) cs → (i : ℕ) → i < 8 * k → get_or (unbytes (bytes k cs)) i 0 ≡ get_or cs i 0
unfolding bytes unbytes eight
cell_of_bytes zero cs a i h = absurd (not-suc-le-zero h)
cell_of_bytes (suc k) cs a i h =
    elim (dec_le 8 i) [ yes l ↦ later l (cell_of_bytes k (drop 8 cs) halves.1 (i - 8) (omega arith)) | no m ↦ first (omega arith) ]
  where
    halves : Each (λ c. c ≤ 1) (take 8 cs) × Each (λ c. c ≤ 1) (drop 8 cs)
    halves = each_split (λ c. c ≤ 1) 8 cs a

    b : ℕ
    b = bits 128 (take 8 cs)

    u : List ℕ
    u = unbytes (bytes k (drop 8 cs))

    first : i < 8 → get_or (eight b ++ u) i 0 ≡ get_or cs i 0
    first m = get_or-append (eight b) u 0 i m ∙ cell_of_bits (take 8 cs) halves.0 (omega (arith, length-take 8 cs)) i m ∙ get_or-take 8 cs i 0 m

    later : 8 ≤ i → get_or u (i - 8) 0 ≡ get_or (drop 8 cs) (i - 8) 0 → get_or (eight b ++ u) i 0 ≡ get_or cs i 0
    later l e =
        subst (λ (j : ℕ). get_or (eight b ++ u) j 0 ≡ get_or cs j 0) (add-sub_of_le l) (get_or-append-add (eight b) u (i - 8) 0 ∙ e ∙ get_or-drop 8 cs (i - 8) 0)

-- lists that have the same cells, with 0 after their ends, make the same bytes
abbrev Alike : List ℕ → List ℕ → Type 0
Alike cs ds = (i : ℕ) → get_or cs i 0 ≡ get_or ds i 0

alike_after : (n : ℕ) (cs ds : List ℕ) → Alike cs ds → Alike (drop n cs) (drop n ds)
alike_after n cs ds a i = get_or-drop n cs i 0 ∙ a (n + i) ∙ sym (get_or-drop n ds i 0)

bits_first : (n w : ℕ) (cs : List ℕ) → bits w (take (suc n) cs) ≡ w * get_or cs 0 0 + bits (w / 2) (take n (drop 1 cs))
unfolding bits
bits_first n w [] = rw (take-nil {A = ℕ} n, mul-zero w)
bits_first n w (c ∷ cs) = refl

bits_alike : (n w : ℕ) (cs ds : List ℕ) → Alike cs ds → bits w (take n cs) ≡ bits w (take n ds)
bits_alike zero w cs ds a = refl
bits_alike (suc n) w cs ds a =
    rw (bits_first n w cs, bits_first n w ds, a 0, bits_alike n (w / 2) (drop 1 cs) (drop 1 ds) (alike_after 1 cs ds a))

bytes_alike : (k : ℕ) (cs ds : List ℕ) → Alike cs ds → bytes k cs ≡ bytes k ds
unfolding bytes
bytes_alike zero cs ds a = refl
bytes_alike (suc k) cs ds a = rw (bits_alike 8 128 cs ds a, bytes_alike k (drop 8 cs) (drop 8 ds) (alike_after 8 cs ds a))

-- bytes are the bytes of their cells
bytes_of_unbytes : (bs : List ℕ) → Each (λ b. b < 256) bs → bytes (length bs) (unbytes bs) ≡ bs
unfolding bytes unbytes eight
bytes_of_unbytes [] a = refl
bytes_of_unbytes (b ∷ bs) a = ap₂ (λ (x : ℕ) (l : List ℕ). x ∷ l) (bits_of_eight b a.0) (bytes_of_unbytes bs a.1)

-- ---- spare bits

zeros_at : (l : List ℕ) → all_zero l ≡ true → (i : ℕ) → get_or l i 0 ≡ 0
unfolding all_zero
zeros_at [] e i = refl
zeros_at (c ∷ l) e zero = eqb-true c 0 (and_true (eqb c 0) (all_zero l) e).0
zeros_at (c ∷ l) e (suc i) = zeros_at l (and_true (eqb c 0) (all_zero l) e).1 i

zeros_of : (l : List ℕ) → ((i : ℕ) → i < length l → get_or l i 0 ≡ 0) → all_zero l ≡ true
unfolding all_zero
zeros_of [] a = refl
zeros_of (c ∷ l) a = rw (a 0 (omega arith), zeros_of l (λ i h. a (suc i) (suc-le-suc h)))

alike_zeros : (cs z : List ℕ) → all_zero z ≡ true → Alike cs (cs ++ z)
alike_zeros [] z e i = sym (zeros_at z e i)
alike_zeros (c ∷ cs) z e zero = refl
alike_zeros (c ∷ cs) z e (suc i) = alike_zeros cs z e i

-- cells are found again in their bytes, with spare bits 0
module _ (k : ℕ) (cs : List ℕ) (a : Each (λ c. c ≤ 1) cs) (fits : length cs ≤ 8 * k) where
  long : length (unbytes (bytes k cs)) ≡ 8 * k
  long = rw (length_unbytes (bytes k cs), length_bytes k cs)

  pub cells_kept : take (length cs) (unbytes (bytes k cs)) ≡ cs
  cells_kept = ext_get_or 0 (take (length cs) u) cs size
      (λ i h. get_or-take (length cs) u i 0 (omega (arith, size)) ∙ cell_of_bytes k cs a i (omega (arith, size)))
    where
      u : List ℕ
      u = unbytes (bytes k cs)

      size : length (take (length cs) u) ≡ length cs
      size = omega (arith, length-take (length cs) u, long)

  pub spare_kept : all_zero (drop (length cs) (unbytes (bytes k cs))) ≡ true
  spare_kept = zeros_of (drop (length cs) u)
      (λ i h. get_or-drop (length cs) u i 0 ∙ cell_of_bytes k cs a (length cs + i) (omega (arith, length-drop (length cs) u, long))
      ∙ get_or-eq_default cs 0 {n = length cs + i} (omega arith))
    where
      u : List ℕ
      u = unbytes (bytes k cs)

-- bytes are found again in their first cells, where the spare bits are 0
pub bytes_kept : (len : ℕ) (bs : List ℕ) → Each (λ b. b < 256) bs → all_zero (drop len (unbytes bs)) ≡ true → bytes (length bs) (take len (unbytes bs)) ≡ bs
bytes_kept len bs a e =
    let front : List ℕ = take len (unbytes bs) in
    let spare : List ℕ = drop len (unbytes bs) in
    bytes_alike (length bs) front (front ++ spare) (alike_zeros front spare e) ∙ ap (bytes (length bs)) (take-append-drop len (unbytes bs)) ∙ bytes_of_unbytes bs a
