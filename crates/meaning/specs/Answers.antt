-- 01-scope.md, "Sheets", "Node table" and "Numbers that a refusal carries": what fill, join, the writer and the way back answer, for any input and
-- any length of the lent buffer, and what the lent buffer holds afterwards.
use Rattle.std.specs.Prelude.{ℕ, List, [], ◌∷◌, ◌++◌, ltb, length, drop}
use Rattle.meaning.specs.Rules.{◌⇒◌∣◌}
use Rattle.meaning.specs.Limits.{max_bytes, max_levels, max_entries, max_encodings}
use Rattle.meaning.specs.Refusals.{buffer_short, sheet_broken, second_broken, made_too_deep, made_too_long, joined_too_large}
use Rattle.meaning.specs.Shape.{Shape, depth}
use Rattle.meaning.specs.Encode.{encode}
use Rattle.meaning.specs.Reading.{Reading, got, bad, reading}
use Rattle.meaning.specs.Sheet.{Sheet, fill, join, encodings, sheet_bytes}
use Rattle.meaning.specs.SheetReading.{read_sheet}
use Rattle.meaning.specs.Table.{table_bytes, table_shape, table_of}
use Rattle.meaning.specs.TableReading.{read_table}

-- the bytes of an answer, or "a number and a place"
pub data Answer : Type 0 where
  answered : List ℕ → Answer
  refused : ℕ → ℕ → Answer

-- what was read, handed on; a refusal of reading is the answer
unfoldable pub onto : {A : Type 0} → Reading A → (A → Answer) → Answer
onto (got a w) f = f a
onto (bad n p) f = refused n p

-- 12, "lent buffer shorter than the answer": "the length needed". The lent buffer has room bytes
unfoldable pub in_room : ℕ → List ℕ → Answer
in_room room w =
    ltb room (length w) ⇒ refused buffer_short (length w) ∣ λ _.
    answered w

-- 15, "made shape deeper than 16", and 16, "made shape over 2,048 bytes", both at p; else what follows
unfoldable pub made : ℕ → Shape → Answer → Answer
made p s a =
    ltb max_levels (depth s) ⇒ refused made_too_deep p ∣ λ _.
    ltb max_bytes (length (encode s)) ⇒ refused made_too_long p ∣ λ _.
    a

-- "then by rising number 15 and 16", at "the blank's number": blank by blank, for each 15 and then 16
unfoldable pub all_made : Sheet → Answer → Answer
all_made [] a = a
all_made (e ∷ es) a = made e.number e.item (all_made es a)

-- "17 (entries), then by rising number 15 and 16, then 17 (bytes), 12": 17 at "how many there would be", entries or bytes of encodings
unfoldable pub made_sheet : ℕ → Sheet → Answer
made_sheet room σ =
    ltb max_entries (length σ) ⇒ refused joined_too_large (length σ) ∣ λ _.
    all_made σ (
    ltb max_encodings (length (encodings σ)) ⇒ refused joined_too_large (length (encodings σ)) ∣ λ _.
    in_room room (sheet_bytes σ))

-- Fill: "Checks: template (1 to 8), sheet (13), 15, 16, 12. Only the made shape counts for 15 and 16." Their place is 0
unfoldable pub fill_answer : List ℕ → List ℕ → ℕ → Answer
fill_answer template sheet room =
    onto (reading template) λ t.
    onto (read_sheet sheet_broken sheet) λ σ.
    made 0 (fill σ t) (in_room room (encode (fill σ t)))

-- Join: "Checks: 13, 14", and then those of the joined sheet
unfoldable pub join_answer : List ℕ → List ℕ → ℕ → Answer
join_answer first second room =
    onto (read_sheet sheet_broken first) λ σ.
    onto (read_sheet second_broken second) λ τ.
    made_sheet room (join σ τ)

-- what a lent buffer holds afterwards: after a refusal, "No lent buffer is changed"; "An answer that writes n bytes writes the first n of the
-- lent buffer only"
unfoldable pub buffer_after : List ℕ → Answer → List ℕ
buffer_after buffer (answered w) = w ++ drop (length w) buffer
buffer_after buffer (refused n p) = buffer

-- The writer: "Checks: 9 by section .., 10 by node, 11 by name .., then 15, 16, 12 for the root." Their place is 0
unfoldable pub write_answer : List ℕ → ℕ → Answer
write_answer table room =
    onto (read_table table) λ T.
    made 0 (table_shape T) (in_room room (encode (table_shape T)))

-- The way back: "Faults: 1 to 8, then 12."
unfoldable pub table_answer : List ℕ → ℕ → Answer
table_answer bytes room =
    onto (reading bytes) λ s.
    in_room room (table_bytes (table_of s))
