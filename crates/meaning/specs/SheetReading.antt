-- 01-scope.md, "Sheets": what the bytes of a sheet mean, with every refusal and its place in the document's order.
use Rattle.std.specs.Prelude.{ℕ, zero, suc, ◌+◌, ◌*◌, List, [], ◌∷◌, not, ltb, eqb, length, get_or, take, drop}
use Rattle.meaning.specs.Rules.{◌⇒◌∣◌}
use Rattle.meaning.specs.Limits.{max_bytes, max_entries, max_encodings}
use Rattle.meaning.specs.Numbers.{of_two}
use Rattle.meaning.specs.Shape.{Shape}
use Rattle.meaning.specs.Reading.{Reading, got, bad, next, reading}
use Rattle.meaning.specs.Numbered.{Numbered}
use Rattle.meaning.specs.Sheet.{Sheet}

-- a count is a number of two bytes, low first
abbrev pub count_size : ℕ
count_size = 2

-- an entry is two such numbers: the blank's, and after it the length
abbrev pub entry_size : ℕ
entry_size = 4

-- the number that two bytes from i on are
abbrev pub number_at : List ℕ → ℕ → ℕ
number_at w i = of_two (get_or w i 0) (get_or w (i + 1) 0)

-- what the lengths of the entries say together
unfoldable pub sum : List (Numbered ℕ) → ℕ
sum [] = 0
sum (e ∷ es) = e.item + sum es

-- a broken sheet is refused with the number broken: 13, "when joining: the first", or 14, "second sheet broken"
module _ (broken : ℕ) where
  -- "an entry not rising or of bad length (the entry)": of c entries from entry i on, none may have a number below m
  unfoldable pub read_entries : ℕ → ℕ → ℕ → List ℕ → Reading (List (Numbered ℕ))
  read_entries i m zero w = got [] w
  read_entries i m (suc c) w =
      ltb (number_at w 0) m ⇒ bad broken i ∣ λ _.
      eqb (number_at w 2) 0 ⇒ bad broken i ∣ λ _.
      ltb max_bytes (number_at w 2) ⇒ bad broken i ∣ λ _.
      next (read_entries (suc i) (suc (number_at w 0)) c (drop entry_size w)) λ es v.
      got (record { number = number_at w 0; item = number_at w 2 } ∷ es) v

  -- "an encoding the reader refuses (its entry)": i is the entry
  unfoldable pub or_entry : ℕ → Reading Shape → Reading Shape
  or_entry i (got s w) = got s w
  or_entry i (bad n p) = bad broken i

  -- "the encodings joined in that order, exactly as long as the lengths say", from entry i on
  unfoldable pub read_encodings : ℕ → List (Numbered ℕ) → List ℕ → Reading Sheet
  read_encodings i [] w = got [] w
  read_encodings i (e ∷ es) w =
      next (or_entry i (reading (take e.item w))) λ s _.
      next (read_encodings (suc i) es (drop e.item w)) λ σ v.
      got (record { number = e.number; item = s } ∷ σ) v

  -- "second count missing, over 16,384, not the sum, or bytes past the end (that count's place); leftover bytes (the first)": p is that place
  unfoldable pub read_second : ℕ → List (Numbered ℕ) → List ℕ → Reading Sheet
  read_second p es [] = bad broken p
  read_second p es (x ∷ []) = bad broken p
  read_second p es (x ∷ y ∷ w) =
      ltb max_encodings (of_two x y) ⇒ bad broken p ∣ λ _.
      not (eqb (of_two x y) (sum es)) ⇒ bad broken p ∣ λ _.
      ltb (length w) (of_two x y) ⇒ bad broken p ∣ λ _.
      ltb (of_two x y) (length w) ⇒ bad broken (p + count_size + of_two x y) ∣ λ _.
      read_encodings 0 es w

  -- "entry count missing, over 32 or entries past the end (place 0)", and then the rest in order
  unfoldable pub read_sheet : List ℕ → Reading Sheet
  read_sheet [] = bad broken 0
  read_sheet (x ∷ []) = bad broken 0
  read_sheet (x ∷ y ∷ w) =
      ltb max_entries (of_two x y) ⇒ bad broken 0 ∣ λ _.
      ltb (length w) (entry_size * of_two x y) ⇒ bad broken 0 ∣ λ _.
      next (read_entries 0 0 (of_two x y) w) (read_second (count_size + entry_size * of_two x y))
