-- The answers of spell and scan: the tests of `fit`, and either job after it.
-- Assumes nothing.
use Prim.Native.Nat.{ℕ, ◌<◌, ◌≤◌}
use mathlib.Core.Path.{◌≡◌, refl, sym, ap, ◌∙◌}
use mathlib.Core.Bool.{Bool, true, false}
use mathlib.Core.List.{List, []}
use native.Mathlib.Omega.{arith}
use lib.Dec.{leb}
use lib.ListN.{length, replicate, length-replicate}
use lib.Seq.{sets}
use Rattle.std.specs.Prelude.{if◌then◌else◌, Result, Ok, Err, OnOk, OnErr}
use Rattle.helpers.specs.Answers as Paper
use Rattle.helpers.specs.Answers.{refuse, accept, Test, refuses, passes, ◌then◌, ask, whole, into, Gave}
use Rattle.helpers.specs.declared.Refusal.{Refusal}
use Rattle.helpers.specs.Numbers.{number_of, second_of}
use Rattle.helpers.specs.Terms.{answers, bare}
use Rattle.helpers.proofs.Answering.{into_short, into_room, whole_accept}
use Rattle.helpers.proofs.Gives.{refused, stored, bare_refuse, bare_accept}
use Rattle.paper.specs.Iso15417.{before, sent}
use Rattle.paper.specs.Crate.{letters, spelled}
use Rattle.paper.specs.Jobs.{of_list, spell, scan}
use Rattle.paper.specs.Shift.{unshifted, scan_unshifted}
use Rattle.paper.proofs.Lists.{symbol_list}
use Rattle.paper.proofs.Shifting.{scan_bare, scan_same_length}
use Rattle.shapes.specs.Vetted.{vetted}
use Rattle.shapes.proofs.Shaping.{list_refused, list_passed}
use Rattle.speller.specs.Walked.{output, fitted}
use Rattle.speller.proofs.Walks.{walked_sent, output_spelled, output_scanned}

-- ---- what `fit` answers is what a job answers, but for the output

bare_room : (b : Bool) (n : ℕ) (out : List ℕ) → bare (if b then accept n out else refuse 5 n) ≡ (ask b 5 n then accept n [])
unfolding bare ask ◌then◌
bare_room true n out = refl
bare_room false n out = refl

bare_into : (room : ℕ) (t u : Test) (out : List ℕ) → bare (into room (t then u then whole out)) ≡ (t then u then ask (leb (length out) room) 5 (length out) then accept (length out) [])
unfolding bare into whole ◌then◌
bare_into room (refuses k m) u out = refl
bare_into room passes (refuses k m) out = refl
bare_into room passes passes out = bare_room (leb (length out) room) (length out) out

fitted_bare : (room : ℕ) (s out : List ℕ) → fitted (length out) room s ≡ bare (of_list room s (whole out))
unfolding fitted of_list
fitted_bare room s out = sym (bare_into room _ _ out)

-- for code points
pub spell_fitted : (room : ℕ) (s : List ℕ) → fitted (length (output (λ s t m. letters s m) s)) room s ≡ bare (spell room s)
unfolding spell
spell_fitted room s = rw (output_spelled s) (fitted_bare room s (spelled s))

-- and for bytes, reckoned by the walk that does not look at Shift, which is the walk that counts
pub scan_fitted : (room : ℕ) (s : List ℕ) → fitted (length (output (λ s t m. sent s m) s)) room s ≡ bare (scan room s)
unfolding scan_unshifted
scan_fitted room s = rw (walked_sent before before s) (fitted_bare room s (unshifted before s) ∙ sym (scan_bare room s))

-- and so by the walk that writes, since Shift changes which bytes are sent and never how many
pub scan_fitted_shifted : (room : ℕ) (s : List ℕ) → fitted (length (output (λ s t m. sent t m) s)) room s ≡ bare (scan room s)
scan_fitted_shifted room s =
    let as_many : length (output (λ s t m. sent t m) s) ≡ length (output (λ s t m. sent s m) s) = rw (output_scanned s, walked_sent before before s) (scan_same_length s) in
    ap (λ (k : ℕ). fitted k room s) as_many ∙ scan_fitted room s

-- ---- the ways out of `fit`

module _ (n room : ℕ) (s : List ℕ) where
  -- any output of n elements serves
  abbrev some : List ℕ
  some = replicate n 0

  long : length some ≡ n
  long = length-replicate {A = ℕ} n 0

  as_bare : fitted n room s ≡ bare (of_list room s (whole some))
  as_bare = ap (λ (k : ℕ). fitted k room s) (sym long) ∙ fitted_bare room s some

  pub fitted_refused : (k m : ℕ) → vetted s ≡ refuse k m → fitted n room s ≡ refuse k m
  unfolding bare
  fitted_refused k m e = as_bare ∙ ap bare (list_refused s room (whole some) k m e)

  pub fitted_short : (j k : ℕ) → vetted s ≡ accept j [] → room < n → k ≡ n → fitted n room s ≡ refuse 5 k
  unfolding bare whole
  fitted_short j k e h q = as_bare ∙ ap bare (list_passed s room (whole some) j e ∙ into_short room (length some) some k (omega (arith, long)) (q ∙ sym long))

  pub fitted_done : (j k : ℕ) → vetted s ≡ accept j [] → n ≤ room → k ≡ n → fitted n room s ≡ accept k []
  unfolding bare whole
  fitted_done j k e h q =
      as_bare ∙ ap bare (list_passed s room (whole some) j e ∙ into_room room (length some) some (omega (arith, long)))
      ∙ ap (λ (i : ℕ). accept i []) (long ∙ sym q)

-- ---- a job after `fit`, which gives `out` for a symbol list

module _ (room : ℕ) (s out : List ℕ) where
  abbrev pub job : Paper.Answer
  job = of_list room s (whole out)

  accepted : (n : ℕ) → bare job ≡ accept n [] → (job ≡ accept n out) × (length out ≤ room)
  accepted n e =
      let some = bare_accept job n e in
      let list = symbol_list room s (whole out) some.1 in
      let same = (whole_accept out list.1).0 in
      (some.1 ∙ ap (accept n) (sym same), rw same list.2)

  pub job_gave : {buf m : List ℕ} (v : Result ℕ Refusal) → answers v ≡ bare job → OnOk v (m ≡ sets buf 0 out) → OnErr v (m ≡ buf)
      → room ≡ length buf → Gave job (number_of v) (second_of v) buf m
  unfolding answers
  job_gave (Err r) e f g q = rw g (refused r (bare_refuse job _ _ (sym e)))
  job_gave (Ok n) e f g q =
      let is = accepted n (sym e) in
      stored n out is.0 (omega (arith, is.1)) f

-- what is accepted has its room
pub fitted_room : (n room : ℕ) (s : List ℕ) (k : ℕ) → fitted n room s ≡ accept k [] → n ≤ room
fitted_room n room s k e = omega (arith, long n room s, (accepted room s (some n room s) k (sym (as_bare n room s) ∙ e)).1)
