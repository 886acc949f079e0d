-- 01-scope.md, "What every call has to commit to": "Try these useless programs against it." A run is what an exported call's contract allows
-- (Calls.antt), so each law says, by one example, that no contract allows what the useless program does. That there are runs at all: Demand1.antt.
--     refusing-read, refusing-child, refusing-name, refusing-sheet,
--     refusing-fill, refusing-join, refusing-write, refusing-records,
--     refusing-table, refusing-pieces     it refuses everything
--     fixed-read, fixed-child, fixed-name, fixed-sheet,
--     fixed-fill, fixed-join, fixed-write, fixed-records,
--     fixed-table, fixed-pieces     it gives one fixed shape or sheet, or one fixed answer
--     fed-start, idle-pieces, finished-start     a reader that is fed with parts starts as if some had come, gives its state back, or starts as if finished
--     wrapped-records    it takes 65,537 records for one
--     copying-fill       a fill that copies its template
--     copying-second     it fills everything in the first stage and copies in the second
--     copying-join       it joins by copying the first sheet
--     invented-fill, invented-join, invented-write, invented-records,
--     invented-table     it invents a needed length
--     invented-children, invented-names     it invents a count of children or names
-- Assumes nothing.
use Prim.Native.Nat.{ℕ, ◌≤◌, ◌<◌}
use mathlib.Core.Path.{◌≡◌, refl, sym, ◌∙◌, ap}
use mathlib.Core.List.{List, [], ◌∷◌}
use mathlib.Core.Bool.{Bool, true, false}
use native.Mathlib.Omega.{arith}
use lib.Dec.{ltb}
use lib.ListN.{length, get_or, take}
use borrow.Author.Tests.{ltb-true, ltb-false}
use Rattle.meaning.specs.Refusals.{cut_short, section_broken, buffer_short, sheet_broken, no_such_part}
use Rattle.meaning.specs.Numbers.{leb128}
use Rattle.meaning.specs.Utf8.{char_size, chars_size, well_formed}
use Rattle.meaning.specs.Shape.{depth, count}
use Rattle.meaning.specs.FirstByte.{code, prim_of, class_of}
use Rattle.meaning.specs.Encode.{as_prim, array_bytes, map_bytes, blank_bytes, encode}
use Rattle.meaning.specs.Reading.{next, read_count, read_text, has_short, finish, read_fields, read_payload, read_long, read_class, read_shape, at_end, reading}
use Rattle.meaning.specs.Parts.{field_shapes, children, field_names, names, field_items, items, name_bytes, shape_bytes, list_bytes, list_start, child_of}
use Rattle.meaning.specs.Numbered.{find, put, over, each}
use Rattle.meaning.specs.Sheet.{plug, or_blank, entries_bytes, encodings, sheet_bytes}
use Rattle.meaning.specs.SheetReading.{sum, read_entries, or_entry, read_encodings, read_second, read_sheet}
use Rattle.meaning.specs.Table.{nodes_bytes, links_bytes, names_bytes, table_bytes, node_shape, shape_in, names_from, joined, with_node, grow}
use Rattle.meaning.specs.TableReading.{section_at, nodes_in, names_in, good_node, check_nodes, check_names, ended, read_table}
use Rattle.meaning.specs.Answers as Meant
use Rattle.meaning.specs.Answers.{onto, in_room, made, all_made, made_sheet, fill_answer, join_answer, write_answer, table_answer}
use Rattle.editor.specs.declared.Node.{Node}
use Rattle.editor.specs.Records.{records_answer}
use Rattle.std.specs.Prelude.{Ok, Err}
use Rattle.leaves.specs.Faults.{refusal}
use Rattle.reader.specs.Said.{said, accepted}
use Rattle.parts.specs.declared.FoundChild.TheVariants as child
use Rattle.parts.specs.Said.{child_said, name_of, name_said}
use Rattle.sheets.specs.Said.{checked, sound}
use Rattle.states.specs.declared.State.{State}
use Rattle.answers.specs.declared.Answer.{Answer}
use Rattle.answers.specs.Answers.{answered, refused}
use Rattle.board.specs.declared.PiecesEnd.{PiecesEnd}
use Rattle.promises.specs.Order.{many_records}
use Rattle.promises.specs.Pieces.{none, one}
use Rattle.promises.specs.Told.{empty_sheet, Answered, wrote, Makes}
use Rattle.promises.proofs.Calls.{BoardRead, BoardChild, BoardName, BoardSheet, BoardFill, BoardJoin, BoardWrite, BoardRecords, BoardTable, BoardPiecesStart, BoardPiecesPart, BoardPiecesFinish}
use Rattle.promises.proofs.Below.{numbered, sized, placed, more, read-said, child-said, name-said, sheet-said, fill-makes, join-makes, write-makes, records-makes, table-makes}
use Rattle.promises.proofs.Demand1.{board-records-tells}
use Rattle.promises.proofs.Pieces.{After, board-pieces-read, board-pieces-closed, board-pieces-part-runs, board-pieces-finish-runs}

-- The examples' bytes: Int and Float; the Record of M4, a Int, b Array of Bool
abbrev pub an_int : List ℕ
an_int = 0x20 ∷ []

abbrev pub a_float : List ℕ
a_float = 0x21 ∷ []

abbrev pub a_record : List ℕ
a_record = 0x42 ∷ 0x07 ∷ 0x00 ∷ 0x02 ∷ 0x01 ∷ 0x61 ∷ 0x20 ∷ 0x01 ∷ 0x62 ∷ 0x62 ∷ []

-- the templates of M13, Array of Variable 0, and of M12, Map of Variable 0 to Variable 1
abbrev pub blank_array : List ℕ
blank_array = 0x40 ∷ 0x01 ∷ 0x00 ∷ 0x00 ∷ []

abbrev pub blank_map : List ℕ
blank_map = 0x41 ∷ 0x02 ∷ 0x00 ∷ 0x00 ∷ 0x01 ∷ []

-- the sheets of M13, 0 as Int, and of M14, 0 as Variable 1 and 1 as Int
abbrev pub zero_as_int : List ℕ
zero_as_int = 0x01 ∷ 0x00 ∷ 0x00 ∷ 0x00 ∷ 0x01 ∷ 0x00 ∷ 0x01 ∷ 0x00 ∷ 0x20 ∷ []

abbrev pub zero_as_one : List ℕ
zero_as_one = 0x01 ∷ 0x00 ∷ 0x00 ∷ 0x00 ∷ 0x01 ∷ 0x00 ∷ 0x01 ∷ 0x00 ∷ 0x01 ∷ []

abbrev pub one_as_int : List ℕ
one_as_int = 0x01 ∷ 0x00 ∷ 0x01 ∷ 0x00 ∷ 0x01 ∷ 0x00 ∷ 0x01 ∷ 0x00 ∷ 0x20 ∷ []

-- the tables of Int and of Float: one node, of kind 0 or 1, and no more
abbrev pub int_table : List ℕ
int_table = 0x01 ∷ 0x00 ∷ 0x00 ∷ 0x00 ∷ 0x00 ∷ 0x00 ∷ 0x00 ∷ 0x00 ∷ 0x00 ∷ 0x00 ∷ 0x00 ∷ 0x00 ∷ 0x00 ∷ 0x00 ∷ []

abbrev pub float_table : List ℕ
float_table = 0x01 ∷ 0x00 ∷ 0x01 ∷ 0x00 ∷ 0x00 ∷ 0x00 ∷ 0x00 ∷ 0x00 ∷ 0x00 ∷ 0x00 ∷ 0x00 ∷ 0x00 ∷ 0x00 ∷ 0x00 ∷ []

-- the same two, as one record each and a rest of no links, names and text
abbrev pub of_kind : ℕ → List Node
of_kind kind = record { kind = kind; a = 0; b = 0 } ∷ []

abbrev pub no_rest : List ℕ
no_rest = 0 ∷ 0 ∷ 0 ∷ 0 ∷ 0 ∷ 0 ∷ []

-- in every room that there is for it, the answer is w
abbrev Always : (ℕ → Meant.Answer) → List ℕ → Type 0
Always answer w = (room : ℕ) → answer room ≡ in_room room w

-- what the meaning says of the examples
record Examples : Type 0 where
  none_said : said (reading []) ≡ Err (refusal cut_short 0)
  int-said : said (reading an_int) ≡ Ok (accepted 1 1)
  record-said : said (reading a_record) ≡ Ok (accepted 10 3)
  first-child-said : child_said (reading a_record) 0 ≡ Ok (child.Part 6 1)
  child-said : child_said (reading a_record) 1 ≡ Ok (child.Part 9 1)
  no-child-said : child_said (reading a_record) 2 ≡ Err (refusal no_such_part 2)
  first-name-said : name_said (reading a_record) 0 ≡ Ok (name_of 5 1)
  name-said : name_said (reading a_record) 1 ≡ Ok (name_of 8 1)
  no-name-said : name_said (reading a_record) 2 ≡ Err (refusal no_such_part 2)
  sheet-said : checked (read_sheet sheet_broken zero_as_int) ≡ Ok (sound 1 1)
  empty-said : checked (read_sheet sheet_broken empty_sheet) ≡ Ok (sound 0 0)
  array_made : Always (fill_answer blank_array zero_as_int) (0x60 ∷ [])
  map-made : Always (fill_answer blank_map zero_as_int) (0x41 ∷ 0x02 ∷ 0x00 ∷ 0x20 ∷ 0x01 ∷ [])
  map-finished : Always (fill_answer (0x41 ∷ 0x02 ∷ 0x00 ∷ 0x20 ∷ 0x01 ∷ []) one_as_int) (0x65 ∷ [])
  sheet-made : Always (join_answer zero_as_one one_as_int) (0x02 ∷ 0x00 ∷ 0x00 ∷ 0x00 ∷ 0x01 ∷ 0x00 ∷ 0x01 ∷ 0x00 ∷ 0x01 ∷ 0x00 ∷ 0x02 ∷ 0x00 ∷ 0x20 ∷ 0x20 ∷ [])
  empty-made : Always (join_answer empty_sheet empty_sheet) empty_sheet
  int-made : Always (write_answer int_table) an_int
  float-made : Always (write_answer float_table) a_float
  int-record-made : Always (records_answer (of_kind 0) no_rest) an_int
  float-record-made : Always (records_answer (of_kind 1) no_rest) a_float
  int-table-made : Always (table_answer an_int) int_table
  float-table-made : Always (table_answer a_float) float_table

computed : Examples
unfolding leb128 char_size chars_size well_formed depth count code prim_of class_of as_prim array_bytes map_bytes blank_bytes encode next read_count read_text has_short finish read_fields read_payload read_long read_class read_shape at_end reading field_shapes children field_names names field_items items name_bytes shape_bytes list_bytes list_start child_of find put over each plug or_blank entries_bytes encodings sheet_bytes sum read_entries or_entry read_encodings read_second read_sheet nodes_bytes links_bytes names_bytes table_bytes node_shape shape_in names_from joined with_node grow section_at nodes_in names_in good_node check_nodes check_names ended read_table onto made all_made made_sheet fill_answer join_answer write_answer table_answer records_answer
computed = record {
  none_said = refl;
  int-said = refl;
  record-said = refl;
  first-child-said = refl;
  child-said = refl;
  no-child-said = refl;
  first-name-said = refl;
  name-said = refl;
  no-name-said = refl;
  sheet-said = refl;
  empty-said = refl;
  array_made = λ room. refl;
  map-made = λ room. refl;
  map-finished = λ room. refl;
  sheet-made = λ room. refl;
  empty-made = λ room. refl;
  int-made = λ room. refl;
  float-made = λ room. refl;
  int-record-made = λ room. refl;
  float-record-made = λ room. refl;
  int-table-made = λ room. refl;
  float-table-made = λ room. refl;
}

-- What is said is no refusal, if its number is 0.
said-refused : {r : Answer} {place length extra : ℕ} → r ≡ answered place length extra → 0 < r.number → ⊥
said-refused e l = let z = numbered e in omega arith

module _ {w before after : List ℕ} {r : Answer} (m : Makes w before r after) where
  -- What is made is not refused, where there is room for it.
  made-refused : length w ≤ length before → 0 < r.number → ⊥
  made-refused h = said-refused (m.enough h).0

  -- There is room for it, or there is not.
  by-room : {P : Type 0} → ((r ≡ wrote (length w)) × (take (length w) after ≡ w) → P) → (r ≡ refused buffer_short (length w) → P) → P
  by-room {P} enough short = go (ltb (length before) (length w)) refl
    where
      go : (t : Bool) → ltb (length before) (length w) ≡ t → P
      go true e = short (m.short (ltb-true _ _ e)).0
      go false e = enough (m.enough (ltb-false _ _ e))

  -- What is answered is what is made,
  made-is : Answered r → take r.length after ≡ w
  made-is z = by-room (λ f. rw (sized f.0) f.1) (λ e. let q = numbered e in absurd (omega arith))

  -- and 12 carries its length.
  made-needs : r.number ≡ buffer_short → r.place ≡ length w
  made-needs n = by-room (λ f. let q = numbered f.0 in absurd (omega arith)) placed

module _ {r : Answer} where
  -- Refuses everything: `shiulbart_read` may not refuse Int,
  pub refusing-read : BoardRead an_int r → 0 < r.number → ⊥
  refusing-read c = said-refused (read-said c computed.int-said)

  -- nor `shiulbart_child` and `shiulbart_name` child 1 and name 1 of a Record of two fields,
  pub refusing-child : BoardChild a_record 1 r → 0 < r.number → ⊥
  refusing-child c = said-refused (child-said c computed.child-said)

  pub refusing-name : BoardName a_record 1 r → 0 < r.number → ⊥
  refusing-name c = said-refused (name-said c computed.name-said)

  -- nor `shiulbart_sheet` a sheet of one entry,
  pub refusing-sheet : BoardSheet zero_as_int r → 0 < r.number → ⊥
  refusing-sheet c = said-refused (sheet-said c computed.sheet-said)

  module _ {before after : List ℕ} where
    -- nor, given the room, `shiulbart_fill` M13, `shiulbart_join` M14, `shiulbart_write` a table of Int, `shiulbart_write_records` its record and
    -- `shiulbart_table` an Int.
    pub refusing-fill : BoardFill blank_array zero_as_int before r after → 1 ≤ length before → 0 < r.number → ⊥
    refusing-fill c = made-refused (fill-makes c computed.array_made)

    pub refusing-join : BoardJoin zero_as_one one_as_int before r after → 14 ≤ length before → 0 < r.number → ⊥
    refusing-join c = made-refused (join-makes c computed.sheet-made)

    pub refusing-write : BoardWrite int_table before r after → 1 ≤ length before → 0 < r.number → ⊥
    refusing-write c = made-refused (write-makes c computed.int-made)

    pub refusing-records : BoardRecords (of_kind 0) no_rest before r after → 1 ≤ length before → 0 < r.number → ⊥
    refusing-records c = made-refused (records-makes c computed.int-record-made)

    pub refusing-table : BoardTable an_int before r after → 14 ≤ length before → 0 < r.number → ⊥
    refusing-table c = made-refused (table-makes c computed.int-table-made)

  -- Gives one fixed answer: `shiulbart_read` may not say the same of Int and of a Record,
  pub fixed-read : BoardRead an_int r → BoardRead a_record r → ⊥
  fixed-read c c' = let e = sized (sym (read-said c computed.int-said) ∙ read-said c' computed.record-said) in omega arith

  -- nor `shiulbart_child` and `shiulbart_name` of a Record's two children and names,
  pub fixed-child : BoardChild a_record 0 r → BoardChild a_record 1 r → ⊥
  fixed-child c c' = let e = placed (sym (child-said c computed.first-child-said) ∙ child-said c' computed.child-said) in omega arith

  pub fixed-name : BoardName a_record 0 r → BoardName a_record 1 r → ⊥
  fixed-name c c' = let e = placed (sym (name-said c computed.first-name-said) ∙ name-said c' computed.name-said) in omega arith

  -- nor `shiulbart_sheet` of a sheet of one entry and of the empty sheet.
  pub fixed-sheet : BoardSheet zero_as_int r → BoardSheet empty_sheet r → ⊥
  fixed-sheet c c' = let e = more (sym (sheet-said c computed.sheet-said) ∙ sheet-said c' computed.empty-said) in omega arith

module _ {s : State} where
  -- A reader that is fed with parts may not refuse Int at the finish,
  pub refusing-pieces : {e : PiecesEnd} → After (an_int ∷ []) s → BoardPiecesFinish s e → 0 < e.answer.number → ⊥
  refusing-pieces l c = refusing-read (board-pieces-read l c)

  -- nor say the same of Int and of a Record,
  pub fixed-pieces : {t : State} {e e' : PiecesEnd} → After (an_int ∷ []) s → BoardPiecesFinish s e → After (a_record ∷ []) t → BoardPiecesFinish t e' → e.answer ≡ e'.answer → ⊥
  fixed-pieces l c k d h = fixed-read (rw h at (board-pieces-read l c)) (board-pieces-read k d)

  -- nor start as if Int had come already,
  pub fed-start : BoardPiecesStart s → After (an_int ∷ []) s → ⊥
  fed-start c l =
      let f = (board-pieces-finish-runs s).1 in
      let q = numbered (read-said (board-pieces-read l f) computed.int-said) in
      let z = numbered (read-said (board-pieces-read (record { first = s; begun = c; fed = none }) f) computed.none_said) in
      omega arith

  -- nor give back the state that it was given with a part,
  pub idle-pieces : BoardPiecesStart s → BoardPiecesPart s an_int s → ⊥
  idle-pieces c d = fed-start c (record { first = s; begun = c; fed = one d none })

  -- nor start as if it had been finished.
  pub finished-start : BoardPiecesStart s → 0 < s.closed → ⊥
  finished-start c h = let d = (board-pieces-part-runs s an_int (omega arith, tt)).1 in idle-pieces c (rw (board-pieces-closed d h) at d)

-- Equal bytes have the same byte i.
byte : {v w x y : List ℕ} (i : ℕ) → v ≡ w → x ≡ y → v ≡ x → get_or w i 0 ≡ get_or y i 0
byte i p q h = ap (λ (l : List ℕ). get_or l i 0) (sym p ∙ h ∙ q)

module _ {b a b' a' : List ℕ} {r r' : Answer} where
  -- Gives one fixed shape or sheet: `shiulbart_fill` may not make the same of two templates,
  pub fixed-fill : BoardFill blank_array zero_as_int b r a → Answered r → BoardFill blank_map zero_as_int b' r' a' → Answered r' → take r.length a ≡ take r'.length a' → ⊥
  fixed-fill c z c' z' h = let e = byte 0 (made-is (fill-makes c computed.array_made) z) (made-is (fill-makes c' computed.map-made) z') h in omega arith

  -- `shiulbart_join` of two pairs of sheets,
  pub fixed-join : BoardJoin zero_as_one one_as_int b r a → Answered r → BoardJoin empty_sheet empty_sheet b' r' a' → Answered r' → take r.length a ≡ take r'.length a' → ⊥
  fixed-join c z c' z' h = let e = byte 0 (made-is (join-makes c computed.sheet-made) z) (made-is (join-makes c' computed.empty-made) z') h in omega arith

  -- `shiulbart_write` of two tables, `shiulbart_write_records` of two records, and `shiulbart_table` of two encodings.
  pub fixed-write : BoardWrite int_table b r a → Answered r → BoardWrite float_table b' r' a' → Answered r' → take r.length a ≡ take r'.length a' → ⊥
  fixed-write c z c' z' h = let e = byte 0 (made-is (write-makes c computed.int-made) z) (made-is (write-makes c' computed.float-made) z') h in omega arith

  pub fixed-records : BoardRecords (of_kind 0) no_rest b r a → Answered r → BoardRecords (of_kind 1) no_rest b' r' a' → Answered r' → take r.length a ≡ take r'.length a' → ⊥
  fixed-records c z c' z' h = let e = byte 0 (made-is (records-makes c computed.int-record-made) z) (made-is (records-makes c' computed.float-record-made) z') h in omega arith

  pub fixed-table : BoardTable an_int b r a → Answered r → BoardTable a_float b' r' a' → Answered r' → take r.length a ≡ take r'.length a' → ⊥
  fixed-table c z c' z' h = let e = byte 2 (made-is (table-makes c computed.int-table-made) z) (made-is (table-makes c' computed.float-table-made) z') h in omega arith

  -- Fills everything in the first stage and copies in the second: after Variable 0 became Int, filling Variable 1 may not leave the same bytes.
  pub copying-second : BoardFill blank_map zero_as_int b r a → Answered r → BoardFill (take r.length a) one_as_int b' r' a' → Answered r' → take r'.length a' ≡ take r.length a → ⊥
  copying-second c z c' z' h =
      let e = made-is (fill-makes c computed.map-made) z in
      let f : take r'.length a' ≡ 0x65 ∷ [] = made-is (fill-makes c' (rw e computed.map-finished)) z' in
      let q = byte 0 f e h in
      omega arith

module _ {before after : List ℕ} {r : Answer} where
  -- A fill that copies its template: M13 may not be left as it is. (It would be the same in one stage as in two, so demand 3 alone allows it.)
  pub copying-fill : BoardFill blank_array zero_as_int before r after → Answered r → take r.length after ≡ blank_array → ⊥
  copying-fill c z h = let e = byte 0 (made-is (fill-makes c computed.array_made) z) refl h in omega arith

  -- Joins by copying the first sheet: M14 may not be the first sheet.
  pub copying-join : BoardJoin zero_as_one one_as_int before r after → Answered r → take r.length after ≡ zero_as_one → ⊥
  copying-join c z h = let e = byte 0 (made-is (join-makes c computed.sheet-made) z) refl h in omega arith

  -- Invents a needed length: what 12 carries is the length of what would have been made, and no other number.
  pub invented-fill : BoardFill blank_array zero_as_int before r after → r.number ≡ buffer_short → r.place ≡ 1
  invented-fill c = made-needs (fill-makes c computed.array_made)

  pub invented-join : BoardJoin zero_as_one one_as_int before r after → r.number ≡ buffer_short → r.place ≡ 14
  invented-join c = made-needs (join-makes c computed.sheet-made)

  pub invented-write : BoardWrite int_table before r after → r.number ≡ buffer_short → r.place ≡ 1
  invented-write c = made-needs (write-makes c computed.int-made)

  pub invented-records : BoardRecords (of_kind 0) no_rest before r after → r.number ≡ buffer_short → r.place ≡ 1
  invented-records c = made-needs (records-makes c computed.int-record-made)

  pub invented-table : BoardTable an_int before r after → r.number ≡ buffer_short → r.place ≡ 14
  invented-table c = made-needs (table-makes c computed.int-table-made)

  -- Takes 65,537 records for one, their number cut to two bytes: so many are refused, however the rest may fit one.
  pub wrapped-records : {nodes : List Node} {rest : List ℕ} → length nodes ≡ 65537 → BoardRecords nodes rest before r after → Answered r → ⊥
  wrapped-records e c z = let f = (((board-records-tells c).0.exactly section_broken 0).1 (many_records (omega arith))).1 in omega arith

-- Invents a count of children or of names: of a Record of two fields, what 18 carries is 2, and no other number.
pub invented-children : {r : Answer} → BoardChild a_record 2 r → r ≡ refused no_such_part 2
invented-children c = child-said c computed.no-child-said

pub invented-names : {r : Answer} → BoardName a_record 2 r → r ≡ refused no_such_part 2
invented-names c = name-said c computed.no-name-said
