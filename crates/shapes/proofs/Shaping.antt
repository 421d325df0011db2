-- The first two tests of a job, and what comes after them: draw, spell and scan after `vet`, read
-- and pack after `shape`.
-- Assumes nothing.
use Prim.Native.Nat.{ℕ, ◌+◌, ◌*◌, ◌≤◌}
use mathlib.Core.Path.{◌≡◌, sym, ap, ◌∙◌}
use mathlib.Core.List.{List, []}
use native.Mathlib.Omega.{arith}
use lib.ListN.{length}
use Rattle.helpers.specs.Answers.{Each, Answer, refuse, accept, Test, refuses, passes, ◌then◌, into}
use Rattle.helpers.proofs.Answering.{then_accept, ask_passes, accept_number, into_refuse, into_room}
use Rattle.paper.specs.Jobs.{of_list, of_row, SymbolList, symbol_count}
use Rattle.paper.proofs.Lists.{symbol_list, cells_tested}
use Rattle.paper.proofs.Lengths.{possible_row_lem}
use Rattle.shapes.specs.Vetted.{vetted, shaped}

two_refuse : (t u : Test) (n : ℕ) (a : Answer) (k m : ℕ) → (t then u then accept n []) ≡ refuse k m → (t then u then a) ≡ refuse k m
unfolding ◌then◌
two_refuse (refuses j l) u n a k m e = e
two_refuse passes (refuses j l) n a k m e = e
two_refuse passes passes n a k m e = absurd (let z : ◌≡◌ {A = ℕ} 0 1 = cc in omega arith)

two_pass : (t u : Test) (n j : ℕ) → (t then u then accept n []) ≡ accept j [] → (t ≡ passes) × (u ≡ passes) × (n ≡ j)
two_pass t u n j e =
    let first = then_accept t _ e in
    let next = then_accept u _ first.1 in
    (first.0, next.0, accept_number next.1)

two_on : (t u : Test) (n j : ℕ) (a : Answer) → (t then u then accept n []) ≡ accept j [] → (t then u then a) ≡ a
unfolding ◌then◌
two_on t u n j a e = let p = two_pass t u n j e in rw (p.0, p.1)

-- draw, spell and scan after `vet`
module _ (s : List ℕ) where
  pub list_refused : (room : ℕ) (a : Answer) (k m : ℕ) → vetted s ≡ refuse k m → of_list room s a ≡ refuse k m
  unfolding vetted of_list
  list_refused room a k m e = rw (two_refuse _ _ _ a k m e) (into_refuse room k m)

  pub list_passed : (room : ℕ) (a : Answer) (n : ℕ) → vetted s ≡ accept n [] → of_list room s a ≡ into room a
  unfolding vetted of_list
  list_passed room a n e = ap (into room) (two_on _ _ _ n a e)

  pub list_proper : (n : ℕ) → vetted s ≡ accept n [] → SymbolList s × (n ≡ length s)
  unfolding vetted
  list_proper n e =
      let on = list_passed 0 (accept (length s) []) n e ∙ into_room 0 (length s) [] (omega arith) in
      ((symbol_list 0 s (accept (length s) []) on).0, sym (two_pass _ _ _ _ e).2)

-- read and pack after `shape`
module _ (cs : List ℕ) where
  pub row_refused : (room : ℕ) (made : ℕ → Answer) (k m : ℕ) → shaped cs ≡ refuse k m → of_row room cs made ≡ refuse k m
  unfolding shaped of_row
  row_refused room made k m e = rw (two_refuse _ _ _ (made (symbol_count (length cs))) k m e) (into_refuse room k m)

  pub row_passed : (room : ℕ) (made : ℕ → Answer) (n : ℕ) → shaped cs ≡ accept n [] → of_row room cs made ≡ into room (made n)
  unfolding shaped of_row
  row_passed room made n e = ap (into room) (two_on _ _ _ n (made (symbol_count (length cs))) e ∙ ap made (two_pass _ _ _ _ e).2)

  -- an accepted shape, taken apart
  pub record Shaped (n : ℕ) : Type 0 where
    pub counted : symbol_count (length cs) ≡ n
    pub sized : length cs ≡ 11 * n + 24
    pub some : 1 ≤ n
    pub limited : n ≤ 4000
    pub two_colours : Each (λ c. c ≤ 1) cs

  pub row_proper : (n : ℕ) → shaped cs ≡ accept n [] → Shaped n
  unfolding shaped
  row_proper n e =
      let p = two_pass _ _ _ _ e in
      let q = possible_row_lem (length cs) (ask_passes _ 10 (length cs) p.0) in
      let same = p.2 in
      record { counted = same; sized = omega (arith, q.0); some = omega (arith, q.1); limited = omega (arith, q.2); two_colours = cells_tested cs p.1 }
