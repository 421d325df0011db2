-- Read accepts the rows that document 01's encoder writes, and no others.
-- Assumes nothing.
use mathlib.Core.Path.{◌≡◌}
use mathlib.Core.Logic.{◌↔◌}
use mathlib.Core.List.{List}
use Prim.Native.Nat.{ℕ, ◌≤◌}
use native.Mathlib.Nat.{le_refl}
use lib.ListN.{length}
use Rattle.helpers.specs.Answers.{accept}
use Rattle.paper.specs.Crate.{symbols, parse, spelled}
use Rattle.paper.specs.Jobs.{encode_with_fnc2, read}
use Rattle.paper.proofs.Spelling.{parse_form, parse_spelled}
use Rattle.paper.proofs.Encoding.{encode_with_fnc2_exactly}
use Rattle.paper.proofs.Reading.{accepted, read_row}

read_written : (room : ℕ) (r : List ℕ) (n : ℕ) (s : List ℕ) → read room r ≡ accept n s → (x : List ℕ) × (parse x ≡ symbols s) × (encode_with_fnc2 (length r) x ≡ accept n r)
read_written room r n s e =
    let d = accepted room r n s e in
    let p : parse (spelled s) ≡ symbols s = parse_spelled s d.0.form in
    (spelled s, p, (encode_with_fnc2_exactly (length r) (spelled s) n r).1 (s, p, d.2, rw d.2 d.0.size, d.1, le_refl (length r)))

written_read : (room : ℕ) (r : List ℕ) (n : ℕ) (s x : List ℕ) → n ≤ room → parse x ≡ symbols s → encode_with_fnc2 (length r) x ≡ accept n r → read room r ≡ accept n s
written_read room r n s x h p e =
    let d = (encode_with_fnc2_exactly (length r) x n r).0 e in
    let same : s ≡ d.0 = cc d.1 in
    let long : n ≡ length s = rw same d.2 in
    rw (d.4, ← same, long) (read_row room s (record { form = parse_form x s p; size = rw long at d.3 }) (rw long at h))

pub read_exactly : (room : ℕ) (r : List ℕ) (n : ℕ) (s : List ℕ) → n ≤ room
    → (read room r ≡ accept n s) ↔ ((x : List ℕ) × (parse x ≡ symbols s) × (encode_with_fnc2 (length r) x ≡ accept n r))
read_exactly room r n s h = (read_written room r n s, λ w. written_read room r n s w.0 h w.1 w.2)
