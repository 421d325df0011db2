-- The tests of a record: one law for each way out of them.
-- Assumes nothing.
use Prim.Native.Nat.{ℕ, ◌+◌, ◌-◌, ◌*◌, ◌/◌, ◌<◌, ◌≤◌}
use mathlib.Core.Path.{◌≡◌, refl, sym, ap, ◌∙◌}
use mathlib.Core.Bool.{Bool, true, false, ◌||◌}
use mathlib.Core.List.{List, []}
use native.Mathlib.Omega.{arith}
use lib.Dec.{leb, eqb}
use lib.ListN.{length, get_or, drop, length-drop}
use lib.Seq.{get_or-drop}
use borrow.Author.Tests.{le-leb, lt-leb, eq-eqb, ne_eqb}
use Rattle.std.specs.Prelude.{Some, None}
use Rattle.helpers.specs.Answers.{refuse, accept, ◌then◌, ask}
use Rattle.paper.specs.Jobs.{row_length, eight, unbytes, all_zero, record_length, version_of, head_length, count_of, count_fits, stored_cells}
use Rattle.paper.proofs.Records.{count_fits_lem}
use Rattle.record.specs.Tested.{declared, tested}
use Rattle.record.proofs.Spares.{spare_last}
use Rattle.record.proofs.Counts.{version_known, version_other, length_needed, some_not_none, declared_some, declared_count}

-- A record with the count n that passes 20, 21 and 22.
pub record Sized (rec : List ℕ) (n : ℕ) : Type 0 where
  pub two : 2 ≤ length rec
  pub version : (eqb (version_of rec) 1 || eqb (version_of rec) 2) ≡ true
  pub arrived : leb (head_length rec) (length rec) ≡ true
  pub fits : count_fits rec ≡ true
  pub count : n ≡ count_of rec
  pub needed : length rec ≡ record_length n
  pub long : length rec ≡ head_length rec + (11 * n + 31) / 8

module _ (rec : List ℕ) where
  abbrev known : Bool
  known = eqb (version_of rec) 1 || eqb (version_of rec) 2

  abbrev whole_head : Bool
  whole_head = leb (head_length rec) (length rec)

  pub sized : 2 ≤ length rec → known ≡ true → whole_head ≡ true → count_fits rec ≡ true → (n : ℕ) → n ≡ count_of rec → length rec ≡ record_length n → Sized rec n
  sized two version arrived fits n count needed =
      let c = count_fits_lem rec fits in
      let head = c.head_size in
      record {
        two = two;
        version = version;
        arrived = arrived;
        fits = fits;
        count = count;
        needed = needed;
        long = omega (arith, length_needed n, rw (← count) at head);
      }

  -- a record as long as its declared count needs
  pub sized_declared : (n : ℕ) → declared rec ≡ Some n → 2 ≤ length rec → 1 ≤ version_of rec → version_of rec ≤ 2 → length rec ≡ record_length n → Sized rec n
  sized_declared n count two low high e =
      let d = declared_count rec n count in
      sized two (version_known (version_of rec) low high) d.0 d.1 n d.2 e

  -- 20, 21 and 22
  pub tested_short : length rec < 2 → refuse 20 (length rec) ≡ tested rec
  unfolding tested ask ◌then◌
  tested_short h = rw (lt-leb 2 (length rec) h)

  pub tested_version : (v : ℕ) → v ≡ version_of rec → 2 ≤ length rec → (1 ≤ v → v ≤ 2 → ⊥) → refuse 21 v ≡ tested rec
  unfolding tested ask ◌then◌
  tested_version v e two other = rw (← e, le-leb 2 (length rec) two, version_other v other)

  pub tested_none : declared rec ≡ None → 2 ≤ length rec → 1 ≤ version_of rec → version_of rec ≤ 2 → refuse 22 0 ≡ tested rec
  unfolding tested ask ◌then◌
  tested_none none two low high = by_case whole_head (count_fits rec) refl refl
    where
      by_case : (a b : Bool) → whole_head ≡ a → count_fits rec ≡ b → refuse 22 0 ≡ tested rec
      by_case true true p q = some_not_none (sym (declared_some rec p q) ∙ none)
      by_case true false p q = rw (le-leb 2 (length rec) two, version_known (version_of rec) low high, p, q)
      by_case false b p q = rw (le-leb 2 (length rec) two, version_known (version_of rec) low high, p)

  pub tested_count : (n needed : ℕ) → declared rec ≡ Some n → needed ≡ record_length n → 2 ≤ length rec → 1 ≤ version_of rec → version_of rec ≤ 2
      → (length rec ≡ needed → ⊥) → refuse 22 needed ≡ tested rec
  unfolding tested ask ◌then◌
  tested_count n needed count e two low high other =
      let d = declared_count rec n count in
      let same : needed ≡ record_length (count_of rec) = e ∙ ap record_length d.2 in
      rw (← same, le-leb 2 (length rec) two, version_known (version_of rec) low high, d.0, d.1, ne_eqb (length rec) needed other)

-- t cells fill all bytes but the last, and of that one all bits but the spare ones
last_byte : (t : ℕ) → 1 ≤ t → t ≡ 8 * ((t + 7) / 8 - 1) + (8 - (8 * ((t + 7) / 8) - t))
last_byte t h =
    let low : t ≤ (t + 7) / 8 * 8 = omega arith in
    let high : (t + 7) / 8 * 8 ≤ t + 7 = omega arith in
    let some : 1 ≤ (t + 7) / 8 = omega arith in
    omega arith

-- the spare bits of a record that is so long, after a head of `start` bytes, are the lowest of its
-- last byte
spare_part : (rec : List ℕ) (start n last spare : ℕ) → length rec ≡ start + (11 * n + 31) / 8 → last ≡ length rec - 1 → spare ≡ 8 * ((11 * n + 31) / 8) - (11 * n + 24)
    → drop (row_length n) (unbytes (drop start rec)) ≡ drop (8 - spare) (eight (get_or rec last 0))
unfolding row_length
spare_part rec start n last spare e at s =
    let m : ℕ = (11 * n + 31) / 8 - 1 in
    let place : 11 * (n + 1) + 13 ≡ 8 * m + (8 - spare) = omega (arith, last_byte (11 * n + 24) (omega arith)) in
    let end : start + m ≡ last = omega arith in
    rw (place, spare_last (drop start rec) m (8 - spare) (omega (arith, length-drop start rec)), get_or-drop start rec m 0, end)

-- after 22 the lowest bits of the last byte are left to test
module _ {rec : List ℕ} {n last spare : ℕ} (p : Sized rec n) (at : last ≡ length rec - 1) (s : spare ≡ 8 * ((11 * n + 31) / 8) - (11 * n + 24)) where
  tested_on : (ask (all_zero (drop (8 - spare) (eight (get_or rec last 0)))) 23 last then accept (11 * n + 24) []) ≡ tested rec
  unfolding tested stored_cells ask ◌then◌
  tested_on =
      let cells : row_length n ≡ 11 * n + 24 = unfold row_length in omega arith in
      rw (
        ← p.count,
        le-leb 2 (length rec) p.two,
        p.version,
        p.arrived,
        p.fits,
        eq-eqb (length rec) (record_length n) p.needed,
        spare_part rec (head_length rec) n last spare p.long at s,
        cells,
        ← at,
      )

  pub tested_spare : all_zero (drop (8 - spare) (eight (get_or rec last 0))) ≡ false → refuse 23 last ≡ tested rec
  unfolding ask ◌then◌
  tested_spare e = rw e at tested_on

  pub tested_done : all_zero (drop (8 - spare) (eight (get_or rec last 0))) ≡ true → accept (11 * n + 24) [] ≡ tested rec
  unfolding ask ◌then◌
  tested_done e = rw e at tested_on
