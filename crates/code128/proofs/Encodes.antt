-- The tests of encode in their order, one law for each way out.
-- Assumes nothing.
use Prim.Native.Nat.{ℕ, ◌<◌, ◌≤◌, min}
use mathlib.Core.Path.{◌≡◌, refl, sym, ap, ◌∙◌}
use mathlib.Core.List.{List}
use native.Mathlib.Omega.{arith}
use lib.Dec.{leb}
use lib.ListN.{length, take}
use lib.Seq.{sets, length-take-le}
use borrow.Author.Tests.{le-leb, lt-leb}
use Rattle.std.specs.Prelude.{Ok, Err}
use Rattle.helpers.specs.Answers.{refuse, accept, Test, refuses, passes, ◌then◌, ask, every, into}
use Rattle.helpers.specs.declared.Refusal.{Refusal}
use Rattle.helpers.specs.declared.Refusal.TheVariants as Names
use Rattle.helpers.specs.Numbers.{refusal_number, refusal_second}
use Rattle.helpers.specs.Terms.{answers}
use Rattle.helpers.proofs.Answering.{into_refuse}
use Rattle.helpers.proofs.Gives.{said_refused}
use Rattle.helpers.proofs.Writes.{sets_prefix}
use Rattle.paper.specs.Iso15417.{row}
use Rattle.paper.specs.Crate.{utf8_bytes, is_scalar, symbols, parse}
use Rattle.paper.specs.Jobs.{most, SymbolList, parsed, encoder, not_fnc2, encode}
use Rattle.paper.proofs.Within.{symbols_within}
use Rattle.paper.proofs.Spelling.{parse_form}
use Rattle.paper.proofs.Encoding.{encoder_parsed}
use Rattle.tokens.specs.Stopped.{stopped_at}
use Rattle.tokens.specs.Tokens.{Tokens}
use Rattle.tokens.specs.declared.parse.Unparsed.TheVariants as No
use Rattle.code128.specs.Listed.{with_row, Drawable, Listed}

-- two tests and a refusal need no room
into_two : (t u : Test) (room k m : ℕ) → into room (t then u then refuse k m) ≡ (t then u then refuse k m)
unfolding ◌then◌ into
into_two (refuses j l) u room k m = refl
into_two passes (refuses j l) room k m = refl
into_two passes passes room k m = refl

encode_parsed : (room : ℕ) (x s : List ℕ) → parse x ≡ symbols s
    → encode room x ≡ into room (every not_fnc2 19 0 x then ask (leb (length s) most) 4 (length s) then accept (length s) (row s))
unfolding encode
encode_parsed room x s p = encoder_parsed _ room x s p

-- a refusal is encode's
pub listed_refused : {x l : List ℕ} (r : Refusal) → ((room : ℕ) → encode room x ≡ refuse (refusal_number r) (refusal_second r)) → Listed x (Err r) l
unfolding with_row Drawable into
listed_refused r h = record { listed = h; drawable = tt }

-- what is stored from place 0 on stands in the front
in_front : (l m s : List ℕ) (n : ℕ) → m ≡ sets l 0 s → n ≡ length s → n ≤ length l → take n m ≡ s
in_front l m s n stored count h = rw stored (sets_prefix l s n count (omega arith))

-- What the parser gave for the text x, into the list that held l, by cases.
module _ (x l m : List ℕ) where
  pub listed_stops : (at : ℕ) → Tokens (Err (No.Stops at)) x l m → (r : Refusal) → answers (Err r) ≡ stopped_at x at → Listed x (Err r) m
  unfolding encode encoder parsed stopped_at Tokens
  listed_stops at stopped r h = listed_refused r (λ room. rw stopped (into_two (every is_scalar 1 0 x) (ask (leb 2 (utf8_bytes x)) 2 0) room 3 at) ∙ said_refused refl h)

  pub listed_retired : (at : ℕ) → Tokens (Err (No.Retired at)) x l m → Listed x (Err (Names.Retired at)) m
  unfolding Tokens ◌then◌ into refusal_number
  listed_retired at (s, parses, noted) = listed_refused (Names.Retired at) (λ room. encode_parsed room x s parses ∙ rw noted refl)

  pub listed_long : (n : ℕ) → Tokens (Ok n) x l m → 4000 < n → Listed x (Err (Names.Symbols n)) m
  unfolding Tokens most ask ◌then◌ into refusal_number
  listed_long n (s, parses, clear, count, stored) h =
      listed_refused (Names.Symbols n) (λ room. encode_parsed room x s parses ∙ rw (clear, lt-leb (length s) 4000 (omega arith)) (ap (refuse 4) (sym count)))

  -- within the limit the list that they were stored into has room for the symbols, and they stand
  -- in its front
  pub listed_fits : (n : ℕ) → Tokens (Ok n) x l m → n ≤ 4000 → min (length x) most ≤ length l → length m ≡ length l → Listed x (Ok n) m
  unfolding Tokens most ask ◌then◌ with_row Drawable
  listed_fits n (s, parses, clear, count, stored) h long kept =
      let fits : n ≤ length l = omega (arith, symbols_within x s parses) in
      let front : take n m ≡ s = in_front l m s n stored count fits in
      let proper : SymbolList s = record { form = parse_form x s parses; size = omega arith } in
      record {
        listed = λ room. rw (front, count) (encode_parsed room x s parses ∙ rw (clear, le-leb (length s) 4000 (omega arith)) refl);
        drawable = (omega arith, rw front proper);
      }

-- ---- what is drawn

module _ {x list : List ℕ} {n : ℕ} (d : Listed x (Ok n) list) where
  pub drawn_within : n ≤ length list
  unfolding Drawable
  drawn_within = d.drawable.0

  pub drawn_proper : SymbolList (take n list)
  unfolding Drawable
  drawn_proper = d.drawable.1

  -- the row of the list's front is what is answered, whatever the room
  pub drawn_row : (room : ℕ) → encode room x ≡ into room (accept (length (take n list)) (row (take n list)))
  unfolding with_row
  drawn_row room = d.listed room ∙ rw (length-take-le n list drawn_within)

pub drawn_refused : {x list : List ℕ} {r : Refusal} → Listed x (Err r) list → (room : ℕ) → encode room x ≡ refuse (refusal_number r) (refusal_second r)
unfolding with_row
drawn_refused d room = d.listed room ∙ into_refuse room _ _
