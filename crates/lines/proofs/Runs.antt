-- However the input is cut into chunks, and whenever the output is written out, a run writes the
-- input's output.
-- Assumes nothing.
use Prim.Native.Nat.{ℕ, zero, suc, ◌+◌, ◌-◌, ◌≤◌}
use mathlib.Core.Path.{◌≡◌, refl, sym, ap, ◌∙◌}
use mathlib.Core.List.{List, [], ◌∷◌, ◌++◌, append_assoc}
use native.Mathlib.Omega.{arith}
use lib.ListN.{length, take, drop, drop_of_length-le, length-append}
use lib.Seq.{sets-eq, length-sets, take_at, length-take-le}
use Rattle.helpers.specs.Terms.{Stored}
use Rattle.line.proofs.Short.{line_short}
use Rattle.line.specs.Line.{line_out}
use Rattle.lines.specs.Lines.{at_end, output_from}
use Rattle.lines.specs.Given.{Holds, Finishes, bytes_of}
use Rattle.lines.specs.Run.{joined, End, ends, fails, stops, last_of, Run, calls_feed, writes_out, reads_on, calls_finish, cannot_read, cannot_write, cannot_write_last}
use Rattle.lines.specs.declared.Finished.{Finished}
use Rattle.lines.specs.declared.Finished.TheVariants.{NoLine, NoRoom, Line}
use Rattle.lines.proofs.Splits.{holds_none}

-- what is filled, once a text is stored after it
filled : {text out out' : List ℕ} {used used' : ℕ} → used ≤ length out → length text ≤ length out - used → Stored text out used out' used'
    → take used' out' ≡ take used out ++ text
filled {text} {out} {out'} {used} {used'} h fits p =
    rw (p.stored, sets-eq text out used (omega arith))
    (take_at (take used out ++ text) (drop (used + length text) out) used' (omega (arith, p.next, length-append (take used out) text, length-take-le used out h)))

-- at the end of a chunk the output is that of the input that is still to come
ended : (last : List ℕ → List ℕ) (chunk cur input : List ℕ) {at : ℕ} → length chunk ≤ at → output_from last cur (drop at chunk ++ input) ≡ output_from last cur input
ended last chunk cur input h = rw (drop_of_length-le chunk h)

-- a run that no write ends
pub data Whole : End → Type 0 where
  at_end_lem : Whole ends
  at_fault : Whole fails

-- what `finish` leaves to be written is what the last line gives
finishes : (f : Finished) (cur out out' : List ℕ) → 22560 ≤ length out → Finishes f cur out out' → take (bytes_of f) out' ≡ at_end cur
unfolding Finishes bytes_of at_end
finishes NoLine cur out out' l p = rw p.0
finishes NoRoom cur out out' l p = absurd (omega (arith, p.1, line_short cur))
finishes (Line n) [] out out' l p = absurd (p.0 refl)
finishes (Line n) (c ∷ cs) out out' l p = rw p.2 (take_at (line_out (c ∷ cs)) (drop n out) n (sym p.1))

pub run : {e : End} → Whole e → {chunk line out rest : List ℕ} {at len used : ℕ} {chunks : List (List ℕ)} (cur : List ℕ) → Holds cur line len → used ≤ length out → 22560 ≤ length out
    → Run e chunk at line len out used chunks rest → rest ≡ take used out ++ output_from (last_of e) cur (drop at chunk ++ joined chunks)
unfolding joined output_from last_of
run {e} w cur h u l (calls_feed {out} {out'} {used} {used'} {chunks} f r) =
    let (next, held, same) = f.feeds_fed.fed_output cur h in
    let long : length out' ≡ length out = ap length f.feeds_stored.stored ∙ length-sets out used f.feeds_text in
    run w next held (omega (arith, f.feeds_stored.next, f.feeds_room)) (omega arith) r
    ∙ rw (filled u f.feeds_room f.feeds_stored, same (last_of e) (joined chunks)) (append_assoc (take used out) f.feeds_text _)
run w cur h u l (writes_out {out} {used} r) = ap (λ (x : List ℕ). take used out ++ x) (run w cur h (omega arith) l r)
run {e} w cur h u l (reads_on {chunk} {out} {chunk'} {used} {chunks} d r) =
    run w cur h u l r ∙ ap (λ (x : List ℕ). take used out ++ x) (sym (ended (last_of e) chunk cur (chunk' ++ joined chunks) d))
run w cur h u l (calls_finish {chunk} {out} f out' d g) = finishes f cur out out' l (g cur h) ∙ sym (ended (last_of ends) chunk cur [] d)
run w cur h u l (cannot_read {chunk} d) = sym (ended (last_of fails) chunk cur [] d)
run w cur h u l (cannot_write sent _) = elim w [ ]
run w cur h u l (cannot_write_last f _ sent _ _ _) = elim w [ ]

-- from the input's start
pub run_whole : {e : End} → Whole e → {line out all : List ℕ} {chunks : List (List ℕ)} → length line ≡ 4097 → 22560 ≤ length out → Run e [] 0 line 0 out 0 chunks all
    → all ≡ output_from (last_of e) [] (joined chunks)
run_whole w s l r = run w [] (holds_none s) (omega arith) l r

-- ---- a run that a write ends

front : (xs : List ℕ) (m k : ℕ) → m ≤ k → (lost : List ℕ) × (take k xs ≡ take m xs ++ lost)
front xs zero k h = (take k xs, refl)
front xs (suc m) zero h = absurd (omega arith)
front [] (suc m) (suc k) h = ([], refl)
front (x ∷ xs) (suc m) (suc k) h = let (lost, e) = front xs m k (omega arith) in (lost, ap (λ (l : List ℕ). x ∷ l) e)

pub run_front : {chunk line out rest : List ℕ} {at len used : ℕ} {chunks : List (List ℕ)} (cur : List ℕ) → Holds cur line len → used ≤ length out → 22560 ≤ length out
    → Run stops chunk at line len out used chunks rest → (lost : List ℕ) × (take used out ++ output_from (last_of stops) cur (drop at chunk ++ joined chunks) ≡ rest ++ lost)
unfolding joined output_from last_of
run_front cur h u l (calls_feed {chunk} {out} {out'} {at} {at'} {used} {used'} {chunks} f r) =
    let (next, held, same) = f.feeds_fed.fed_output cur h in
    let long : length out' ≡ length out = ap length f.feeds_stored.stored ∙ length-sets out used f.feeds_text in
    let (lost, e) = run_front next held (omega (arith, f.feeds_stored.next, f.feeds_room)) (omega arith) r in
    let step : take used' out' ++ output_from (last_of stops) next (drop at' chunk ++ joined chunks) ≡ take used out ++ output_from (last_of stops) cur (drop at chunk ++ joined chunks) =
    rw (filled u f.feeds_room f.feeds_stored, same (last_of stops) (joined chunks)) (append_assoc (take used out) f.feeds_text _) in
    (lost, sym step ∙ e)
run_front cur h u l (writes_out {out} {rest} {used} r) =
    let (lost, e) = run_front cur h (omega arith) l r in
    (lost, ap (λ (x : List ℕ). take used out ++ x) e ∙ sym (append_assoc (take used out) rest lost))
run_front cur h u l (reads_on {chunk} {out} {chunk'} {used} {chunks} d r) =
    let (lost, e) = run_front cur h u l r in
    (lost, ap (λ (x : List ℕ). take used out ++ x) (ended (last_of stops) chunk cur (chunk' ++ joined chunks) d) ∙ e)
run_front cur h u l (cannot_write {chunk} {out} {at} {used} {chunks} sent k) =
    let (lost, e) = front out sent used k in
    let more = output_from (last_of stops) cur (drop at chunk ++ joined chunks) in
    (lost ++ more, ap (λ (x : List ℕ). x ++ more) e ∙ append_assoc (take sent out) lost more)
run_front cur h u l (cannot_write_last {chunk} {out} f out' sent d g k) =
    let (lost, e) = front out' sent (bytes_of f) k in
    (lost, ended (last_of stops) chunk cur [] d ∙ sym (finishes f cur out out' l (g cur h)) ∙ e)

pub run_part : {line out all : List ℕ} {chunks : List (List ℕ)} → length line ≡ 4097 → 22560 ≤ length out → Run stops [] 0 line 0 out 0 chunks all
    → (lost : List ℕ) × (output_from (last_of stops) [] (joined chunks) ≡ all ++ lost)
run_part s l r = run_front [] (holds_none s) (omega arith) l r
