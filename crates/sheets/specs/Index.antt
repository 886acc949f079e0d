-- What the slots of a sheet say, and what an accepted sheet has for a blank. Contracts between our own crates cite it, no public one does.
use Rattle.std.specs.Prelude.{ℕ, Bool, true, false, ◌+◌, ◌≤◌, ◌<◌, ◌≡◌, List, [], length, get_or, take, drop, Option, Some, None, Result, Ok, Err}
use Rattle.std.proofs.Math.Seq.{slice}
use Rattle.meaning.specs.Refusals.{sheet_broken}
use Rattle.meaning.specs.Shape.{Shape, blank, depth}
use Rattle.meaning.specs.Encode.{encode}
use Rattle.meaning.specs.Within.{Within}
use Rattle.meaning.specs.Reading.{Reading, got, bad, reading}
use Rattle.meaning.specs.Numbered.{Numbered}
use Rattle.meaning.specs.Sheet.{Sheet, at}
use Rattle.meaning.specs.SheetReading.{count_size, number_at, read_sheet}
use Rattle.reader.specs.Said.{said}
use Rattle.leaves.specs.declared.refusals.Refusal.{Refusal}
use Rattle.reader.specs.declared.Accepted.{Accepted}
use Rattle.sheets.specs.declared.Broken.{Broken}
use Rattle.sheets.specs.declared.Slot.{Slot}
use Rattle.sheets.specs.declared.Part.{Part}
use Rattle.sheets.specs.Steps.{entry_place, length_at, sum_from}

-- how deep an accepted shape is, in the reader's judgement
abbrev pub deep_as : Result Accepted Refusal → ℕ
deep_as (Ok a) = a.depth
deep_as (Err r) = 0

-- slot i; where there is none, any will do
abbrev pub slot_at : List Slot → ℕ → Slot
slot_at slots i = get_or slots i (record { start = 0; depth = 0 })

-- slot i is that of entry i of a sheet whose encodings stand from a place on: where the entry's encoding starts, after those before it, and the
-- depth that the reader finds there
pub record Indexed (s : List ℕ) (slots : List Slot) (from i : ℕ) : Type 0 where
  pub start : (slot_at slots i).start ≡ from + sum_from s i 0
  pub deep : (slot_at slots i).depth ≡ deep_as (said (reading (take (length_at s i) (drop (slot_at slots i).start s))))

-- so for each of the first c entries
abbrev pub IndexTo : List ℕ → List Slot → ℕ → ℕ → Type 0
IndexTo s slots from c = (i : ℕ) → i < c → Indexed s slots from i

-- so for all c of them, where the sheet is sound
abbrev pub IndexSaid : {X : Type 0} → List ℕ → ℕ → ℕ → List Slot → Result X Broken → Type 0
IndexSaid s c from slots (Ok x) = IndexTo s slots from c
IndexSaid s c from slots (Err b) = Unit {0}

-- the sheet that accepted bytes are
abbrev pub sheet_from : Reading Sheet → Sheet
sheet_from (got σ w) = σ
sheet_from (bad number place) = []

unfoldable pub sheet_in : List ℕ → Sheet
sheet_in s = sheet_from (read_sheet sheet_broken s)

-- entry i of a sheet; where there is none, any will do
abbrev pub entry : Sheet → ℕ → Numbered Shape
entry σ i = get_or σ i (record { number = 0; item = blank 0 })

-- what becomes of the blank n
abbrev pub blank_in : List ℕ → ℕ → Shape
blank_in s n = at (sheet_in s) n

-- whether bytes are accepted as a sheet
abbrev pub is_sheet : Reading Sheet → Bool
is_sheet (got σ w) = true
is_sheet (bad number place) = false

-- an accepted sheet with its slots: all of its bytes are those of `sheet_in` (proofs/Places.antt, `ready-accepted`)
pub record Ready (s : List ℕ) (slots : List Slot) : Type 0 where
  pub small : (i : ℕ) → get_or s i 0 < 256
  pub accepted : is_sheet (read_sheet sheet_broken s) ≡ true
  pub placed : IndexTo s slots (entry_place (number_at s 0) + count_size) (number_at s 0)

abbrev pub ReadyIf : {X : Type 0} → List ℕ → List Slot → Result X Broken → Type 0
ReadyIf s slots (Ok x) = Ready s slots
ReadyIf s slots (Err b) = Unit {0}

-- the encoding of a shape within the limits stands from start to end, and the shape is so deep
pub record PartIs (s : List ℕ) (t : Shape) (p : Part) : Type 0 where
  pub some : p.start < p.end
  pub inside : p.end ≤ length s
  pub is : slice p.start p.end s ≡ encode t
  pub deep : p.depth ≡ depth t
  pub within : Within t

abbrev pub part : ℕ → ℕ → ℕ → Part
part start end d = record { start = start; end = end; depth = d }

-- what an accepted sheet has for the blank n
abbrev pub EntryIs : List ℕ → ℕ → Option Part → Type 0
EntryIs s n None = blank_in s n ≡ blank n
EntryIs s n (Some p) = PartIs s (blank_in s n) p
