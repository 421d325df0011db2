-- What encode has found before it draws: a refusal, or the symbols at the front of its list. Nobody
-- audits these.
-- Document 01, "Encode: 1, 2, 3, 4, 5, each over the whole input before the next."; document 02,
-- request 12: 19 "after 3 and before 4". Assumes nothing.
use Rattle.std.specs.Prelude.{ℕ, ◌≤◌, ◌≡◌, List, length, take, Result, Ok, Err}
use Rattle.helpers.specs.Answers as Paper
use Rattle.helpers.specs.Answers.{refuse, accept, into}
use Rattle.helpers.specs.declared.Refusal.{Refusal}
use Rattle.helpers.specs.Numbers.{refusal_number, refusal_second}
use Rattle.paper.specs.Iso15417.{row}
use Rattle.paper.specs.Jobs.{SymbolList, encode}

-- all but the room: a refusal, or the acceptance of the row of the symbols at the list's front
unfoldable pub with_row : Result ℕ Refusal → List ℕ → Paper.Answer
with_row (Ok n) list = accept n (row (take n list))
with_row (Err r) list = refuse (refusal_number r) (refusal_second r)

-- where there is something to draw: n symbols stand in the list, and they are a symbol list
unfoldable pub Drawable : Result ℕ Refusal → List ℕ → Type 0
Drawable (Ok n) list = (n ≤ length list) × SymbolList (take n list)
Drawable (Err r) list = Unit {0}

-- encode answers so into whatever room there is
pub record Listed (text : List ℕ) (a : Result ℕ Refusal) (list : List ℕ) : Type 0 where
  pub listed : (room : ℕ) → encode room text ≡ into room (with_row a list)
  pub drawable : Drawable a list
