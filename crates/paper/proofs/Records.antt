-- The row record: what follows from an accepted pack or unpack, what makes one, and that the two
-- undo each other.
-- Assumes nothing.
use mathlib.Core.Path.{◌≡◌, refl, sym, ap, ◌∙◌}
use mathlib.Core.Bool.{true, ◌||◌}
use mathlib.Core.List.{List, [], ◌∷◌, ◌++◌}
use Prim.Native.Nat.{ℕ, ◌+◌, ◌*◌, ◌/◌, ◌%◌, ◌<◌, ◌≤◌}
use native.Mathlib.Omega.{arith}
use native.Mathlib.Decide.{dec_le}
use lib.Dec.{eqb}
use lib.ListN.{length, get_or, take, drop, length-take, length-drop, length-append}
use borrow.Author.Tests.{leb-true, le-leb, lt-leb, eqb-true, eq-eqb}
use Rattle.helpers.specs.Answers.{Each, accept, ◌then◌, ask, every, whole}
use Rattle.paper.specs.Jobs.{row_length, symbol_count, possible_row, is_cell, of_row, bytes, bytes_for, head, record_of, pack, unbytes, all_zero, record_length, version_of, head_length, count_of, count_fits, stored_cells, unpack}
use Rattle.helpers.proofs.Answering.{and_true, then_accept, ask_passes, into_accept, into_room, whole_accept}
use Rattle.paper.proofs.Lists.{cells_tested, cells_pass}
use Rattle.paper.proofs.Lengths.{possible_count, possible_count_of, count_of_length, possible_row_lem, possible_row_of}
use Rattle.paper.proofs.Bytes.{length_bytes, length_unbytes, unbytes_cells, each_split, cells_kept, spare_kept, bytes_kept}

-- ---- the head

-- a head has two bytes or three
pub head_short : (n : ℕ) → n ≤ 255 → length (head n) ≡ 2
unfolding head
head_short n h = rw (le-leb n 255 h)

pub head_long : (n : ℕ) → 255 < n → length (head n) ≡ 3
unfolding head
head_long n h = rw (lt-leb n 255 h)

pub head_size : (n : ℕ) → (2 ≤ length (head n)) × (length (head n) ≤ 3)
head_size n = elim (dec_le n 255) [ yes h ↦ omega (arith, head_short n h) | no h ↦ omega (arith, head_long n (omega arith)) ]

-- ---- pack

-- the record of a row
abbrev pub packed_row : List ℕ → List ℕ
packed_row cs = record_of (symbol_count (length cs)) cs

pub length_record : (cs : List ℕ) → length (packed_row cs) ≡ length (head (symbol_count (length cs))) + (length cs + 7) / 8
unfolding record_of bytes_for
length_record cs = length-append (head (symbol_count (length cs))) _ ∙ rw (length_bytes ((length cs + 7) / 8) cs)

pub pack_parts : (room : ℕ) (cs : List ℕ) (n : ℕ) (rec : List ℕ) → pack room cs ≡ accept n rec
    → (possible_row (length cs) ≡ true) × Each (λ c. c ≤ 1) cs × (packed_row cs ≡ rec) × (n ≡ length rec)
unfolding pack of_row
pack_parts room cs n rec e =
    let long = then_accept (ask (possible_row (length cs)) 10 (length cs)) (every is_cell 11 0 cs then whole (packed_row cs)) (into_accept room _ e).0 in
    let clean = then_accept (every is_cell 11 0 cs) (whole (packed_row cs)) long.1 in
    let out = whole_accept (packed_row cs) clean.1 in
    (ask_passes (possible_row (length cs)) 10 (length cs) long.0, cells_tested cs clean.0, out.0, out.1)

pub pack_of : (room : ℕ) (cs : List ℕ) → possible_row (length cs) ≡ true → Each (λ c. c ≤ 1) cs → length (packed_row cs) ≤ room
    → pack room cs ≡ accept (length (packed_row cs)) (packed_row cs)
unfolding pack of_row whole ask ◌then◌
pack_of room cs p a h = rw (p, cells_pass cs a, into_room room (length (packed_row cs)) (packed_row cs) h)

pub record_sizes : (record_length 1 ≡ 7) × (record_length 255 ≡ 356) × (record_length 256 ≡ 358) × (record_length 4000 ≡ 5506)
unfolding record_length bytes_for row_length head
record_sizes = (refl, refl, refl, refl)

pub pack_size : (room : ℕ) (cs : List ℕ) (k n : ℕ) (rec : List ℕ) → length cs ≡ row_length k → pack room cs ≡ accept n rec → (n ≡ length rec) × (n ≡ record_length k)
unfolding record_length bytes_for
pack_size room cs k n rec long e =
    let parts = pack_parts room cs n rec e in
    let counted : symbol_count (length cs) ≡ k = ap symbol_count long ∙ count_of_length k in
    let written : length (packed_row cs) ≡ length (head k) + (row_length k + 7) / 8 = length_record cs ∙ rw (counted, long) in
    (parts.3, parts.3 ∙ sym (ap length parts.2) ∙ written)

pub pack_short : (room : ℕ) (cs : List ℕ) (n : ℕ) (rec : List ℕ) → pack room cs ≡ accept n rec → length rec ≤ 5506
pack_short room cs n rec e =
    let parts = pack_parts room cs n rec e in
    omega (arith, possible_row_lem (length cs) parts.0, length_record cs, head_size (symbol_count (length cs)), ap length parts.2)

-- ---- unpack

-- what follows from an acceptance with the number n, for a record and for the cells taken from it
pub record Unpacked (rec : List ℕ) (n : ℕ) (cs : List ℕ) : Type 0 where
  pub two : 2 ≤ length rec
  pub version : (eqb (version_of rec) 1 || eqb (version_of rec) 2) ≡ true
  pub arrived : head_length rec ≤ length rec
  pub fits : count_fits rec ≡ true
  pub size : length rec ≡ record_length (count_of rec)
  pub spare : all_zero (drop (row_length (count_of rec)) (stored_cells rec)) ≡ true
  pub cells : take (row_length (count_of rec)) (stored_cells rec) ≡ cs
  pub number : n ≡ length cs

pub unpack_parts : (room : ℕ) (rec : List ℕ) (n : ℕ) (cs : List ℕ) → unpack room rec ≡ accept n cs → Unpacked rec n cs
unfolding unpack
unpack_parts room rec n cs e =
    let long = then_accept _ _ (into_accept room _ e).0 in
    let version = then_accept _ _ long.1 in
    let head = then_accept _ _ version.1 in
    let count = then_accept _ _ head.1 in
    let size = then_accept _ _ count.1 in
    let zeros = then_accept _ _ size.1 in
    let out = whole_accept _ zeros.1 in
    record {
      two = leb-true _ _ (ask_passes _ _ _ long.0);
      version = ask_passes _ _ _ version.0;
      arrived = leb-true _ _ (ask_passes _ _ _ head.0);
      fits = ask_passes _ _ _ count.0;
      size = eqb-true _ _ (ask_passes _ _ _ size.0);
      spare = ask_passes _ _ _ zeros.0;
      cells = out.0;
      number = out.1;
    }

-- and these facts are enough
pub unpack_of : (place : ℕ) (rec : List ℕ) (n : ℕ) (cs : List ℕ) → Unpacked rec n cs → length cs ≤ place → unpack place rec ≡ accept n cs
unfolding unpack whole ask ◌then◌
unpack_of place rec n cs u fits =
    rw (
      le-leb 2 (length rec) u.two,
      u.version,
      le-leb (head_length rec) (length rec) u.arrived,
      u.fits,
      eq-eqb (length rec) (record_length (count_of rec)) u.size,
      u.spare,
      u.cells,
      into_room place (length cs) cs fits,
      u.number,
    )

-- a count that fits: within the limit, and of the version that a row of as many symbols is packed as
pub record Counted (rec : List ℕ) : Type 0 where
  pub least : 1 ≤ count_of rec
  pub within : count_of rec ≤ 4000
  pub head_size : length (head (count_of rec)) ≡ head_length rec
  pub version_1 : count_of rec ≤ 255 → version_of rec ≡ 1
  pub version_2 : 255 < count_of rec → version_of rec ≡ 2

pub count_fits_lem : (rec : List ℕ) → count_fits rec ≡ true → Counted rec
unfolding count_fits head_length head
count_fits_lem rec e =
    let both = and_true _ _ e in
    let count = possible_count _ both.0 in
    elim (dec_le (count_of rec) 255) [
      | yes h ↦ let one : version_of rec ≡ 1 = eqb-true _ _ (rw (le-leb (count_of rec) 255 h) at both.1) in
          record { least = count.0; within = count.1; head_size = rw (one, le-leb (count_of rec) 255 h); version_1 = λ _. one; version_2 = λ l. absurd (omega arith) }
      | no h ↦ let two : version_of rec ≡ 2 = eqb-true _ _ (rw (lt-leb (count_of rec) 255 (omega arith)) at both.1) in
          record { least = count.0; within = count.1; head_size = rw (two, lt-leb (count_of rec) 255 (omega arith)); version_1 = λ l. absurd (omega arith); version_2 = λ _. two }
    ]

length_taken : (rec : List ℕ) (n : ℕ) (cs : List ℕ) → Unpacked rec n cs → length cs ≡ row_length (count_of rec)
unfolding stored_cells record_length bytes_for
length_taken rec n cs u =
    let c = count_fits_lem rec u.fits in
    let body = drop (head_length rec) rec in
    omega (arith, u.size, u.arrived, c.head_size, ap length u.cells, length-take (row_length (count_of rec)) (unbytes body), length_unbytes body, length-drop (head_length rec) rec)

pub unpack_size : (room : ℕ) (rec : List ℕ) (n : ℕ) (cs : List ℕ) → unpack room rec ≡ accept n cs
    → (n ≡ length cs) × (length cs ≡ 11 * count_of rec + 24) × (length rec ≡ head_length rec + (length cs + 7) / 8)
unfolding row_length record_length bytes_for
unpack_size room rec n cs e =
    let u = unpack_parts room rec n cs e in
    let long = length_taken rec n cs u in
    (u.number, omega arith, omega (arith, u.size, (count_fits_lem rec u.fits).head_size))

pub unpack_short : (room : ℕ) (rec : List ℕ) (n : ℕ) (cs : List ℕ) → unpack room rec ≡ accept n cs → length cs ≤ 44024
unfolding row_length
unpack_short room rec n cs e =
    let u = unpack_parts room rec n cs e in
    omega (arith, length_taken rec n cs u, (count_fits_lem rec u.fits).within)

-- ---- each undoes the other

-- what a head says of the record that begins with it
record Begins (n : ℕ) (bs rec : List ℕ) : Type 0 where
  version : (eqb (version_of rec) 1 || eqb (version_of rec) 2) ≡ true
  whole_head : head_length rec ≡ length (head n)
  count : count_of rec ≡ n
  same_version : eqb (version_of rec) (get_or (head n) 0 0) ≡ true
  body : drop (head_length rec) rec ≡ bs

begins : (n : ℕ) (bs : List ℕ) → Begins n bs (head n ++ bs)
unfolding head version_of head_length count_of
begins n bs = elim (dec_le n 255) [ yes h ↦ short h | no h ↦ long (omega arith) ]
  where
    short : n ≤ 255 → Begins n bs (head n ++ bs)
    short h =
        let e = le-leb n 255 h in
        record { version = rw e refl; whole_head = rw e refl; count = rw e refl; same_version = rw e refl; body = rw e refl }

    long : 255 < n → Begins n bs (head n ++ bs)
    long h =
        let e = lt-leb n 255 h in
        record { version = rw e refl; whole_head = rw e refl; count = rw e (omega arith); same_version = rw e refl; body = rw e refl }

-- a packed row is a record from which its cells are taken
packed : (cs : List ℕ) → possible_row (length cs) ≡ true → Each (λ c. c ≤ 1) cs → Unpacked (packed_row cs) (length cs) cs
unfolding record_of bytes_for row_length record_length stored_cells count_fits
packed cs p a =
    let fits = possible_row_lem (length cs) p in
    let n = symbol_count (length cs) in
    let k = (length cs + 7) / 8 in
    let b = begins n (bytes k cs) in
    let long = length_record cs in
    record {
      two = omega (arith, head_size n);
      version = b.version;
      arrived = omega (arith, b.whole_head);
      fits = rw (b.count, possible_count_of n fits.1 fits.2, b.same_version);
      size = rw (b.count, ← fits.0) long;
      spare = rw (b.count, b.body, ← fits.0) (spare_kept k cs a (omega arith));
      cells = rw (b.count, b.body, ← fits.0) (cells_kept k cs a (omega arith));
      number = refl;
    }

pub unpack_of_pack : (room : ℕ) (cs : List ℕ) (n : ℕ) (rec : List ℕ) → pack room cs ≡ accept n rec
    → (place : ℕ) → length cs ≤ place → unpack place rec ≡ accept (length cs) cs
unpack_of_pack room cs n rec e place h =
    let parts = pack_parts room cs n rec e in
    rw (← parts.2) (unpack_of place (packed_row cs) (length cs) cs (packed cs parts.0 parts.1) h)

-- a record of bytes begins with the head of its count
headed_1 : (rec : List ℕ) → head_length rec ≤ length rec → count_of rec ≤ 255 → version_of rec ≡ 1 → head (count_of rec) ++ drop (head_length rec) rec ≡ rec
unfolding head version_of head_length count_of
headed_1 [] arrived h one = absurd (omega arith)
headed_1 (v ∷ []) arrived h one = absurd (omega (arith, rw one at arrived))
headed_1 (v ∷ m ∷ bs) arrived h one = rw one (rw (le-leb m 255 (rw one at h)) refl)

headed_2 : (rec : List ℕ) → Each (λ b. b < 256) rec → head_length rec ≤ length rec → 255 < count_of rec → version_of rec ≡ 2
    → head (count_of rec) ++ drop (head_length rec) rec ≡ rec
unfolding head version_of head_length count_of
headed_2 [] small arrived h two = absurd (omega arith)
headed_2 (v ∷ []) small arrived h two = absurd (omega (arith, rw two at arrived))
headed_2 (v ∷ m ∷ []) small arrived h two = absurd (omega (arith, rw two at arrived))
headed_2 (v ∷ m ∷ l ∷ bs) small arrived h two =
    let high : (256 * m + l) / 256 ≡ m = omega (arith, small.1.1.0) in
    let low : (256 * m + l) % 256 ≡ l = omega (arith, small.1.1.0) in
    rw two (rw (lt-leb (256 * m + l) 255 (rw two at h), high, low) refl)

headed : (rec : List ℕ) → Each (λ b. b < 256) rec → head_length rec ≤ length rec → Counted rec → head (count_of rec) ++ drop (head_length rec) rec ≡ rec
headed rec small arrived c = elim (dec_le (count_of rec) 255) [
  | yes h ↦ headed_1 rec arrived h (c.version_1 h)
  | no h ↦ headed_2 rec small arrived (omega arith) (c.version_2 (omega arith))
]

-- cells taken from a record are packed to that record
repacked : (rec : List ℕ) → Each (λ b. b < 256) rec → (n : ℕ) (cs : List ℕ) → Unpacked rec n cs → packed_row cs ≡ rec
unfolding record_of record_length bytes_for stored_cells
repacked rec b n cs u =
    let c = count_fits_lem rec u.fits in
    let body = drop (head_length rec) rec in
    let small : Each (λ b. b < 256) body = (each_split (λ b. b < 256) (head_length rec) rec b).1 in
    let size : length body ≡ (row_length (count_of rec) + 7) / 8 = omega (arith, u.size, c.head_size, length-drop (head_length rec) rec) in
    rw (length_taken rec n cs u, count_of_length (count_of rec), ← size, ← u.cells, bytes_kept (row_length (count_of rec)) body small u.spare) (headed rec b u.arrived c)

pub pack_of_unpack : (room : ℕ) (rec : List ℕ) → Each (λ b. b < 256) rec → (n : ℕ) (cs : List ℕ) → unpack room rec ≡ accept n cs
    → (place : ℕ) → length rec ≤ place → pack place cs ≡ accept (length rec) rec
unfolding stored_cells
pack_of_unpack room rec b n cs e place h =
    let u = unpack_parts room rec n cs e in
    let c = count_fits_lem rec u.fits in
    let body = drop (head_length rec) rec in
    let same : packed_row cs ≡ rec = repacked rec b n cs u in
    let long : possible_row (length cs) ≡ true = rw (length_taken rec n cs u) (possible_row_of (count_of rec) c.least c.within).0 in
    let clean : Each (λ c. c ≤ 1) cs = rw u.cells at (each_split (λ c. c ≤ 1) (row_length (count_of rec)) (unbytes body) (unbytes_cells body)).0 in
    rw same at (pack_of place cs long clean (rw same h))

pub one_record : (room place : ℕ) (rec rec' : List ℕ) → Each (λ b. b < 256) rec → Each (λ b. b < 256) rec' → (n n' : ℕ) (cs : List ℕ)
    → unpack room rec ≡ accept n cs → unpack place rec' ≡ accept n' cs → rec ≡ rec'
one_record room place rec rec' b b' n n' cs e e' = sym (repacked rec b n cs (unpack_parts room rec n cs e)) ∙ repacked rec' b' n' cs (unpack_parts place rec' n' cs e')
