-- 01-scope.md: when each public call refuses, with which number n and at which place p. One constructor a clause, in the document's order; each says
-- that nothing before it refuses. Reading itself (1 to 8), a sheet (13, 14) and a table (9 to 11) have theirs in the meaning. To be believed.
use Rattle.std.specs.Prelude.{ℕ, ◌≤◌, ◌<◌, ◌≡◌, List, [], ◌∷◌, ◌++◌, length, Result, Ok, Err}
use Rattle.meaning.specs.Limits.{max_bytes, max_levels, max_entries, max_encodings, max_nodes}
use Rattle.meaning.specs.Refusals.{cut_short, not_assigned, size_wrong, unfinished, not_utf8, long_form, too_deep, input_too_long, section_broken, buffer_short, sheet_broken, second_broken, made_too_deep, made_too_long, joined_too_large, no_such_part}
use Rattle.meaning.specs.Shape.{Shape, depth}
use Rattle.meaning.specs.Encode.{encode}
use Rattle.meaning.specs.Reading.{got, bad, reading}
use Rattle.meaning.specs.Numbered.{Numbered, All}
use Rattle.meaning.specs.Sheet.{Sheet, fill, join, encodings, sheet_bytes}
use Rattle.meaning.specs.SheetReading.{read_sheet}
use Rattle.meaning.specs.Table.{Table, table_bytes, table_shape, table_of}
use Rattle.meaning.specs.TableReading.{read_table}
use Rattle.leaves.specs.Faults.{number_of}
use Rattle.leaves.specs.declared.refusals.Refusal.{Refusal}
use Rattle.editor.specs.declared.Node.{Node}
use Rattle.editor.specs.Records.{same_table}

-- 1 to 8
abbrev pub read_numbers : List ℕ
read_numbers = cut_short ∷ not_assigned ∷ size_wrong ∷ unfinished ∷ not_utf8 ∷ long_form ∷ too_deep ∷ input_too_long ∷ []

-- `child` and `name`, by the parts that a shape has
pub data PartRefuses {A : Type 0} (parts : Shape → List A) (bytes : List ℕ) (k : ℕ) : ℕ → ℕ → Type 0 where
  -- "A bad encoding gives 1 to 8 first"
  encoding_bad : {n p : ℕ} → reading bytes ≡ bad n p → PartRefuses parts bytes k n p
  -- "then 18", at "how many there are"
  no_part : {s : Shape} {v : List ℕ} → reading bytes ≡ got s v → length (parts s) ≤ k → PartRefuses parts bytes k no_such_part (length (parts s))

-- a made shape, by number alone
pub data ShapeRefuses (s : Shape) : ℕ → Type 0 where
  -- 15, "made shape deeper than 16"
  deep : max_levels < depth s → ShapeRefuses s made_too_deep
  -- 16, "made shape over 2,048 bytes"
  long : depth s ≤ max_levels → max_bytes < length (encode s) → ShapeRefuses s made_too_long

-- a made shape for which neither is given
abbrev pub Fits : Shape → Type 0
Fits s = (depth s ≤ max_levels) × (length (encode s) ≤ max_bytes)

-- a made shape, whose encoding is to be written
pub data MadeRefuses (s : Shape) (room : ℕ) : ℕ → ℕ → Type 0 where
  -- "15, 16", at 0
  unfit : {n : ℕ} → ShapeRefuses s n → MadeRefuses s room n 0
  -- "12", at "the length needed"
  no_room : Fits s → room < length (encode s) → MadeRefuses s room buffer_short (length (encode s))

-- `fill`, into a lent buffer of room bytes
pub data FillRefuses (template sheet : List ℕ) (room : ℕ) : ℕ → ℕ → Type 0 where
  -- "template (1 to 8)"
  template_bad : {n p : ℕ} → reading template ≡ bad n p → FillRefuses template sheet room n p
  -- "sheet (13)"
  sheet_bad : {t : Shape} {v : List ℕ} {p : ℕ} → reading template ≡ got t v → read_sheet sheet_broken sheet ≡ bad sheet_broken p → FillRefuses template sheet room sheet_broken p
  -- "15, 16, 12. Only the made shape counts for 15 and 16."
  filled_bad : {t : Shape} {σ : Sheet} {v w : List ℕ} {n p : ℕ} → reading template ≡ got t v → read_sheet sheet_broken sheet ≡ got σ w → MadeRefuses (fill σ t) room n p → FillRefuses template sheet room n p

-- a joined sheet; its entries stand by rising number
pub data JoinedRefuses (σ : Sheet) (room : ℕ) : ℕ → ℕ → Type 0 where
  -- "17 (entries)", at "how many there would be"
  entries_over : max_entries < length σ → JoinedRefuses σ room joined_too_large (length σ)
  -- "then by rising number 15 and 16", at "the blank's number": of the first entry that does not fit
  entry_bad : (before after : Sheet) (e : Numbered Shape) {n : ℕ} → length σ ≤ max_entries → σ ≡ before ++ (e ∷ after) → All (λ d. Fits d.item) before → ShapeRefuses e.item n → JoinedRefuses σ room n e.number
  -- "then 17 (bytes)", at "how many there would be"
  bytes_over : length σ ≤ max_entries → All (λ d. Fits d.item) σ → max_encodings < length (encodings σ) → JoinedRefuses σ room joined_too_large (length (encodings σ))
  -- "12", at "the length needed"
  sheet_no_room : length σ ≤ max_entries → All (λ d. Fits d.item) σ → length (encodings σ) ≤ max_encodings → room < length (sheet_bytes σ) → JoinedRefuses σ room buffer_short (length (sheet_bytes σ))

-- `join`
pub data JoinRefuses (first second : List ℕ) (room : ℕ) : ℕ → ℕ → Type 0 where
  -- "13"
  first_bad : {p : ℕ} → read_sheet sheet_broken first ≡ bad sheet_broken p → JoinRefuses first second room sheet_broken p
  -- "14"
  second_bad : {σ : Sheet} {v : List ℕ} {p : ℕ} → read_sheet sheet_broken first ≡ got σ v → read_sheet second_broken second ≡ bad second_broken p → JoinRefuses first second room second_broken p
  -- "17 (entries), then by rising number 15 and 16, then 17 (bytes), 12"
  joined_bad : {σ τ : Sheet} {v w : List ℕ} {n p : ℕ} → read_sheet sheet_broken first ≡ got σ v → read_sheet second_broken second ≡ got τ w → JoinedRefuses (join σ τ) room n p → JoinRefuses first second room n p

-- `write`
pub data WriteRefuses (table : List ℕ) (room : ℕ) : ℕ → ℕ → Type 0 where
  -- "9 by section .., 10 by node, 11 by name"
  table_bad : {n p : ℕ} → read_table table ≡ bad n p → WriteRefuses table room n p
  -- "then 15, 16, 12 for the root"
  root_bad : {T : Table} {v : List ℕ} {n p : ℕ} → read_table table ≡ got T v → MadeRefuses (table_shape T) room n p → WriteRefuses table room n p

-- `write_records`, of the editor's nodes and the rest of the table
pub data RecordsRefuses (nodes : List Node) (rest : List ℕ) (room : ℕ) : ℕ → ℕ → Type 0 where
  -- "no records, or more than 6,144: 9 at 0"
  no_records : length nodes < 1 → RecordsRefuses nodes rest room section_broken 0
  many_records : max_nodes < length nodes → RecordsRefuses nodes rest room section_broken 0
  -- "the answer and places are those of the same table in bytes"
  same_bad : {n p : ℕ} → 1 ≤ length nodes → length nodes ≤ max_nodes → WriteRefuses (same_table nodes rest) room n p → RecordsRefuses nodes rest room n p

-- `to_table`
pub data TableRefuses (bytes : List ℕ) (room : ℕ) : ℕ → ℕ → Type 0 where
  -- "Faults: 1 to 8"
  bytes_bad : {n p : ℕ} → reading bytes ≡ bad n p → TableRefuses bytes room n p
  -- "then 12", at "the length needed"
  table_no_room : {s : Shape} {v : List ℕ} → reading bytes ≡ got s v → room < length (table_bytes (table_of s)) → TableRefuses bytes room buffer_short (length (table_bytes (table_of s)))

-- what a call below says is a refusal with the number n at the place p
abbrev pub Refused : {A : Type 0} → Result A Refusal → ℕ → ℕ → Type 0
Refused (Ok a) n p = ⊥
Refused (Err r) n p = (number_of r.fault ≡ n) × (r.place ≡ p)
