-- The bench card, M1 to M14, in one statement.
--     card-holds     every case of the card holds
--     card-runs      every run of the exported calls on the card's bytes says what the card says (Ran)
-- Assumes nothing.
use Prim.Native.Nat.{ℕ}
use mathlib.Core.Path.{◌≡◌, refl, sym, ◌∙◌, ap}
use mathlib.Core.List.{List, [], ◌∷◌}
use lib.ListN.{length}
use Rattle.meaning.specs.Numbers.{leb128}
use Rattle.meaning.specs.Utf8.{char_size, chars_size, well_formed}
use Rattle.meaning.specs.Shape.{depth, count}
use Rattle.meaning.specs.FirstByte.{code, prim_of, class_of}
use Rattle.meaning.specs.Encode.{as_prim, array_bytes, map_bytes, blank_bytes, encode}
use Rattle.meaning.specs.Reading.{next, second_byte, read_count, read_text, has_short, finish, read_blank, read_fields, read_parameters, read_payload, read_long, read_class, read_shape, at_end, reading}
use Rattle.meaning.specs.Parts.{field_shapes, children, field_items, items, name_bytes, shape_bytes, list_bytes, list_start, child_of}
use Rattle.meaning.specs.Numbered.{find, put, over, each}
use Rattle.meaning.specs.Sheet.{plug, or_blank, entries_bytes, encodings, sheet_bytes}
use Rattle.meaning.specs.SheetReading.{sum, read_entries, or_entry, read_encodings, read_second, read_sheet}
use Rattle.meaning.specs.Answers.{onto, made, all_made, made_sheet, fill_answer, join_answer}
use Rattle.meaning.proofs.Laws.{encode-reading}
use Rattle.reader.specs.Said.{said}
use Rattle.answers.specs.declared.Answer.{Answer}
use Rattle.answers.specs.Answers.{answered, refused}
use Rattle.answers.specs.Calls.{read_answer}
use Rattle.promises.specs.Told.{Makes}
use Rattle.promises.specs.Card.{Case, reads, refuses, finds, fills, joins, Holds, All, card}
use Rattle.promises.proofs.Calls.{BoardRead, BoardChild, BoardFill, BoardJoin}
use Rattle.promises.proofs.Below.{read-said, child-said, fill-makes, join-makes}

-- Every case of the bench card holds.
pub card-holds : All Holds card
unfolding Holds All card leb128 char_size chars_size well_formed depth count code prim_of class_of as_prim array_bytes map_bytes blank_bytes encode next second_byte read_count read_text has_short finish read_blank read_fields read_parameters read_payload read_long read_class read_shape at_end reading field_shapes children field_items items name_bytes shape_bytes list_bytes list_start child_of find put over each plug or_blank entries_bytes encodings sheet_bytes sum read_entries or_entry read_encodings read_second read_sheet onto made all_made made_sheet fill_answer join_answer
card-holds = (refl, (refl, (refl, (refl, (refl, (refl, (refl, (refl, (refl, (refl, (refl, (refl, (λ room. refl, (λ room. refl, (λ room. refl, tt)))))))))))))))

-- what every run of the exported calls on a case says
unfoldable pub Ran : Case → Type 0
Ran (reads bytes s) = (r : Answer) → BoardRead bytes r → r ≡ answered 0 (length bytes) (depth s)
Ran (refuses bytes number place) = (r : Answer) → BoardRead bytes r → r ≡ refused number place
Ran (finds bytes k place size) = (r : Answer) → BoardChild bytes k r → r ≡ answered place size 0
Ran (fills template sheet w) = (before after : List ℕ) (r : Answer) → BoardFill template sheet before r after → Makes w before r after
Ran (joins first second w) = (before after : List ℕ) (r : Answer) → BoardJoin first second before r after → Makes w before r after

-- Where a case holds, every run says so.
says_so : (c : Case) → Holds c → Ran c
unfolding Holds Ran
says_so (reads bytes s) h = λ r c. read-said c (ap said h) ∙ ap (λ (n : ℕ). answered 0 n (depth s)) (ap length (sym (encode-reading bytes s [] c.small h).0))
says_so (refuses bytes number place) h = λ r c. c.allowed ∙ rw c.lent (ap read_answer h)
says_so (finds bytes k place size) h = λ r c. child-said c h
says_so (fills template sheet w) h = λ before after r c. fill-makes c h
says_so (joins first second w) h = λ before after r c. join-makes c h

all-say-so : (cs : List Case) → All Holds cs → All Ran cs
unfolding All
all-say-so [] h = tt
all-say-so (c ∷ cs) h = (says_so c h.0, all-say-so cs h.1)

-- Every run on the card's bytes says what the card says.
pub card-runs : All Ran card
card-runs = all-say-so card card-holds
