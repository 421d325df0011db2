-- All that is promised of EAN-13, in one record; `promises` of proofs/Promises.antt is its proof.
-- Document 02, request 2. Assumes nothing.
use Rattle.std.specs.Prelude.{reverse, ◌+◌, ◌/◌, ◌%◌, ◌<◌, ◌≤◌, ◌≡◌, ◌↔◌, ◌≢◌, ◌⊎◌, ◌∷◌, ◌++◌, if◌then◌else◌}
use Rattle.helpers.specs.Prelude.{ℕ, true, List, [], map, eqb, length, get_or, take, set}
use Rattle.helpers.specs.Answers.{Each, refuse, accept}
use Rattle.helpers.specs.Owes.{Owes}
use Rattle.helpers.specs.Order.{in_order, answered_and_earned, due}
use Rattle.helpers.specs.Readers.{ReadsBack}
use Rattle.ean.specs.Ean13.{set_a, set_b, set_c, in_set, parity_row, ean13_row, is_digit, right_check, thirteen, full_text, write_ean13, digit_cells, read_ean13, set_at, redrawn_as}
use Rattle.ean.specs.Order.{Ean13Job, ean13_answer_of, ean13_tests_of, ean13_accepted_of, ean13_earnings}

-- how many of some cells are bar
unfoldable pub bars_of : List ℕ → ℕ
bars_of [] = 0
bars_of (c ∷ cs) = c + bars_of cs

-- the rule of a digit's cells in the set s: seven cells, each 0 or 1; in A and B a space first and
-- a bar last, in C the other way round; an odd number of bar cells in A, an even one in B and C
pub record DigitRule (s : ℕ) (cs : List ℕ) : Type 0 where
  pub seven : length cs ≡ 7
  pub bars_and_spaces : Each (λ c. c ≤ 1) cs
  pub first_cell : get_or cs 0 2 ≡ if eqb s set_c then 1 else 0
  pub last_cell : get_or cs 6 2 ≡ if eqb s set_c then 0 else 1
  pub parity : bars_of cs % 2 ≡ if eqb s set_a then 1 else 0

-- a text that write accepts: twelve digits, or thirteen of which the last is the right check
abbrev pub Valid : List ℕ → Type 0
Valid text = Each (λ c. is_digit c ≡ true) text × ((length text ≡ 12) ⊎ ((length text ≡ 13) × (get_or text 12 0 ≡ right_check text + 48)))

-- the thirteen ASCII digits of a number as it is printed
unfoldable pub printed_text : ℕ → List ℕ
printed_text p = map (λ w. 48 + p / w % 10) (1000000000000 ∷ 100000000000 ∷ 10000000000 ∷ 1000000000 ∷ 100000000 ∷ 10000000 ∷ 1000000 ∷ 100000 ∷ 10000 ∷ 1000 ∷ 100 ∷ 10 ∷ 1 ∷ [])

-- numbers printed in public: two that explain EAN-13, two that explain the ISBN, one that explains
-- UPC-A (with a 0 ahead), the crate's own example with its check, and a JAN
unfoldable pub printed_numbers : List ℕ
printed_numbers = 4006381333931 ∷ 5901234123457 ∷ 9783161484100 ∷ 9780306406157 ∷ 0036000291452 ∷ 7501031311309 ∷ 4901234567894 ∷ []

-- the sentences of request 2, and what every job owes
pub record Promises : Type 0 where
  -- ---- the tables
  -- The thirty patterns: each by its rule, and no two alike.
  pub digit_rule : (s d : ℕ) → s < 3 → d < 10 → DigitRule s (in_set s d)
  pub digits_apart : (s d t e : ℕ) → s < 3 → d < 10 → t < 3 → e < 10 → in_set s d ≡ in_set t e → (s ≡ t) × (d ≡ e)
  -- The ten parity rows: six of A and B, A first; no two alike, not even where one place is left
  -- out.
  pub parity_length : (f : ℕ) → f < 10 → length (parity_row f) ≡ 6
  pub parity_sets : (f : ℕ) → f < 10 → Each (λ s. (s ≡ set_a) ⊎ (s ≡ set_b)) (parity_row f) × (get_or (parity_row f) 0 set_c ≡ set_a)
  pub parity_apart : (f g : ℕ) → f < 10 → g < 10 → parity_row f ≡ parity_row g → f ≡ g
  pub parity_two_places : (f g k : ℕ) → f < 10 → g < 10 → set (parity_row f) k set_c ≡ set (parity_row g) k set_c → f ≡ g
  -- ---- demand 1, of both jobs
  -- What a job owes its caller (helpers, Owes): the numbers that it refuses by, and the most
  -- elements that it ever writes, cells or digits.
  pub write_owes : Owes write_ean13 (30 ∷ 31 ∷ 32 ∷ 5 ∷ []) 95
  pub read_owes : Owes read_ean13 (33 ∷ 5 ∷ []) 13
  -- Each job answers by the first of its tests that refuses, each of them asked by itself, and
  -- accepts where none does.
  pub ean13_in_order : (j : Ean13Job) (room : ℕ) (x : List ℕ) → ean13_answer_of j room x ≡ in_order (ean13_tests_of j room x) (ean13_accepted_of j x)
  -- What each input of the table is answered, and all refusals that it earns.
  pub ean13_earned : answered_and_earned ean13_answer_of ean13_tests_of ean13_earnings ≡ due ean13_earnings
  -- ---- write
  -- It accepts exactly the valid texts, into 95 cells or more, and writes their row, of 95 cells.
  pub write_exactly : (room : ℕ) (x : List ℕ) (n : ℕ) (r : List ℕ)
      → (write_ean13 room x ≡ accept n r) ↔ (Valid x × (n ≡ 95) × (r ≡ ean13_row (thirteen x)) × (95 ≤ room))
  -- Into fewer cells a valid text is refused by 5, with 95.
  pub write_short : (room : ℕ) (x : List ℕ) → Valid x → room < 95 → write_ean13 room x ≡ refuse 5 95
  pub row_length : (x : List ℕ) → Valid x → length (ean13_row (thirteen x)) ≡ 95
  -- Twelve digits, and the same with the right check, are answered alike;
  pub check_alike : (room : ℕ) (x : List ℕ) → length x ≡ 12 → Each (λ c. is_digit c ≡ true) x
      → write_ean13 room (x ++ ((right_check x + 48) ∷ [])) ≡ write_ean13 room x
  -- and with any other digit after them they are refused by 32, with the right one.
  pub check_wrong : (room : ℕ) (x : List ℕ) (c : ℕ) → length x ≡ 12 → Each (λ b. is_digit b ≡ true) x → is_digit c ≡ true → c ≢ right_check x + 48
      → write_ean13 room (x ++ (c ∷ [])) ≡ refuse 32 (right_check x)
  -- Two accepted texts give the same row exactly if their first twelve digits are the same.
  pub ean13_same_row : (room room' : ℕ) (x y : List ℕ) (n m : ℕ) (r q : List ℕ) → write_ean13 room x ≡ accept n r → write_ean13 room' y ≡ accept m q
      → (r ≡ q) ↔ (take 12 x ≡ take 12 y)
  -- Numbers printed in public: each is the full text of its first twelve digits.
  pub printed_checks : map (λ p. full_text (take 12 (printed_text p))) printed_numbers ≡ map printed_text printed_numbers
  -- ---- read
  -- The law of every reader over its writer (helpers, Readers): 33, with 0, exactly for the rows
  -- that write never writes; what is written is read, and what is read is written.
  pub reads_back : ReadsBack write_ean13 read_ean13 full_text
  -- Lent room enough, it accepts a row exactly if write writes it for some text, and returns all
  -- thirteen digits of that text.
  pub read_exactly : (room : ℕ) (r : List ℕ) (n : ℕ) (t : List ℕ) → 13 ≤ room
      → (read_ean13 room r ≡ accept n t) ↔ ((n ≡ 13) × ((x : List ℕ) × (write_ean13 (length r) x ≡ accept 95 r) × (t ≡ full_text x)))
  -- Into fewer elements a row that is written is refused by 5, with 13.
  pub read_short : (room room' : ℕ) (x : List ℕ) (n : ℕ) (r : List ℕ) → room < 13 → write_ean13 room' x ≡ accept n r → read_ean13 room r ≡ refuse 5 13
  -- A drawn digit of an accepted row, redrawn as itself in its own set, leaves the row as it was.
  pub redrawn_itself : (room : ℕ) (x : List ℕ) (n : ℕ) (r : List ℕ) → write_ean13 room x ≡ accept n r
      → (k : ℕ) → k < 12 → redrawn_as k (in_set (set_at (get_or (thirteen x) 0 0) k) (get_or (thirteen x) (k + 1) 0)) r ≡ r
  -- An accepted row in which one of the twelve drawn digits is redrawn as another of its own set is
  -- refused, by 33 with 0, into any room;
  pub redrawn_refused : (room room' : ℕ) (x : List ℕ) (n : ℕ) (r : List ℕ) → write_ean13 room x ≡ accept n r
      → (k d : ℕ) → k < 12 → d < 10 → d ≢ get_or (thirteen x) (k + 1) 0
      → read_ean13 room' (redrawn_as k (in_set (set_at (get_or (thirteen x) 0 0) k) d) r) ≡ refuse 33 0
  -- and so it is with any other seven cells there, be they of another set or of none.
  pub changed_refused : (room room' : ℕ) (x : List ℕ) (n : ℕ) (r : List ℕ) → write_ean13 room x ≡ accept n r
      → (k : ℕ) (cells : List ℕ) → k < 12 → length cells ≡ 7 → cells ≢ digit_cells k r
      → read_ean13 room' (redrawn_as k cells r) ≡ refuse 33 0
  -- An accepted row with any one cell changed, guards too, is refused so.
  pub cell_refused : (room room' : ℕ) (x : List ℕ) (n : ℕ) (r : List ℕ) → write_ean13 room x ≡ accept n r
      → (i v : ℕ) → i < 95 → v ≢ get_or r i 0 → read_ean13 room' (set r i v) ≡ refuse 33 0
  -- An accepted row taken upside down is refused so.
  pub upside_down_refused : (room room' : ℕ) (x : List ℕ) (n : ℕ) (r : List ℕ) → write_ean13 room x ≡ accept n r → read_ean13 room' (reverse r) ≡ refuse 33 0
