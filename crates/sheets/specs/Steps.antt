-- NOT TO BE BELIEVED: proved equal to reading a sheet (proofs/Whole.antt, `steps-ended`). Private functions' contracts cite it, no public one
-- does. 01-scope.md, "Sheets", once more, as the code goes: by places in the sheet s.
use Rattle.std.specs.Prelude.{ℕ, zero, suc, ◌+◌, ◌*◌, ◌-◌, List, not, ltb, eqb, length, take, drop, Option, Some, None, Result, Ok, Err}
use Rattle.meaning.specs.Rules.{◌⇒◌∣◌}
use Rattle.meaning.specs.Limits.{max_bytes, max_entries, max_encodings}
use Rattle.meaning.specs.Reading.{reading}
use Rattle.meaning.specs.SheetReading.{count_size, entry_size, number_at}
use Rattle.leaves.specs.declared.refusals.Refusal.{Refusal}
use Rattle.reader.specs.Said.{said}
use Rattle.reader.specs.declared.Accepted.{Accepted}
use Rattle.sheets.specs.declared.Broken.{Broken}

-- where entry i stands, and where the second count does, after c entries
abbrev pub entry_place : ℕ → ℕ
entry_place i = count_size + entry_size * i

-- the blank of entry i, and its length
abbrev pub blank_at : List ℕ → ℕ → ℕ
blank_at s i = number_at s (entry_place i)

abbrev pub length_at : List ℕ → ℕ → ℕ
length_at s i = number_at s (entry_place i + count_size)

-- what the lengths of c entries from entry i on say together
unfoldable pub sum_from : List ℕ → ℕ → ℕ → ℕ
sum_from s zero i = 0
sum_from s (suc c) i = length_at s i + sum_from s c (i + 1)

-- the sheet is broken at a place
abbrev pub broken : ℕ → Broken
broken place = record { place = place }

-- where it is broken, if it is
abbrev pub broken_at : {X : Type 0} → Result X Broken → Option ℕ
broken_at (Ok x) = None
broken_at (Err b) = Some b.place

-- c entries from entry i on, none with a number below least; those before say sum together
unfoldable pub entries_from : List ℕ → ℕ → ℕ → ℕ → ℕ → Result ℕ Broken
entries_from s zero i least sum = Ok sum
entries_from s (suc c) i least sum =
    ltb (blank_at s i) least ⇒ Err (broken i) ∣ λ _.
    eqb (length_at s i) 0 ⇒ Err (broken i) ∣ λ _.
    ltb max_bytes (length_at s i) ⇒ Err (broken i) ∣ λ _.
    entries_from s c (i + 1) (blank_at s i + 1) (sum + length_at s i)

-- the reader's judgement of the encoding of entry i: it goes on, or the sheet is broken there
abbrev pub judged : ℕ → Result Accepted Refusal → Option ℕ → Option ℕ
judged i (Ok a) rest = rest
judged i (Err r) rest = Some i

-- the encodings of c entries from entry i on, which stand at a place: the first that is refused
unfoldable pub encodings_from : List ℕ → ℕ → ℕ → ℕ → Option ℕ
encodings_from s zero i at = None
encodings_from s (suc c) i at = judged i (said (reading (take (length_at s i) (drop at s)))) (encodings_from s c (i + 1) (at + length_at s i))

-- the second count, at a place p after c entries that say sum together, and what follows it
unfoldable pub second_at : List ℕ → ℕ → ℕ → ℕ → Option ℕ
second_at s p c sum =
    ltb (length s - p) count_size ⇒ Some p ∣ λ _.
    ltb max_encodings (number_at s p) ⇒ Some p ∣ λ _.
    not (eqb (number_at s p) sum) ⇒ Some p ∣ λ _.
    ltb (length s - (p + count_size)) (number_at s p) ⇒ Some p ∣ λ _.
    ltb (number_at s p) (length s - (p + count_size)) ⇒ Some (p + count_size + number_at s p) ∣ λ _.
    encodings_from s c 0 (p + count_size)

-- an entry that is wrong breaks the sheet
abbrev pub after_entries : Result ℕ Broken → (ℕ → Option ℕ) → Option ℕ
after_entries (Ok sum) go = go sum
after_entries (Err b) go = Some b.place

-- the whole sheet
unfoldable pub sheet_at : List ℕ → Option ℕ
sheet_at s =
    ltb (length s) count_size ⇒ Some 0 ∣ λ _.
    ltb max_entries (number_at s 0) ⇒ Some 0 ∣ λ _.
    ltb (length s - count_size) (entry_size * number_at s 0) ⇒ Some 0 ∣ λ _.
    after_entries (entries_from s (number_at s 0) 0 0 0) (second_at s (entry_place (number_at s 0)) (number_at s 0))
