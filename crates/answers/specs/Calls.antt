-- What each of the board's calls says of its inputs, in four numbers; the call on records has its own (board/specs/Answers.antt). To be believed.
use Rattle.std.specs.Prelude.{ℕ, ltb, length}
use Rattle.meaning.specs.Rules.{◌⇒◌∣◌}
use Rattle.meaning.specs.Refusals.{no_such_part}
use Rattle.meaning.specs.Shape.{Shape, depth}
use Rattle.meaning.specs.Encode.{encode}
use Rattle.meaning.specs.Reading.{Reading, got, bad}
use Rattle.meaning.specs.Sheet.{Sheet, encodings}
use Rattle.meaning.specs.Answers as Meant
use Rattle.meaning.specs.Parts.{Child, part, packed_prim, children, child_of, names, name_text, name_place}
use Rattle.answers.specs.declared.Answer.{Answer}
use Rattle.answers.specs.Answers.{answered, refused}

-- `shiulbart_read`: the shape's length and depth, or the refusal
abbrev pub read_answer : Reading Shape → Answer
read_answer (got s left) = answered 0 (length (encode s)) (depth s)
read_answer (bad number place) = refused number place

-- a child with bytes: its place and length, extra 0; a packed parent's child: the primitive's number as place, length 0, extra 1
abbrev pub child_answered : Child → Answer
child_answered (part place length) = answered place length 0
child_answered (packed_prim number) = answered number 0 1

-- `shiulbart_child`: child k; the reader's refusals first, then 18 with how many children there are
abbrev pub child_answer : Reading Shape → ℕ → Answer
child_answer (bad number place) k = refused number place
child_answer (got s left) k =
    ltb k (length (children s)) ⇒ child_answered (child_of s k) ∣ λ _.
    refused no_such_part (length (children s))

-- `shiulbart_name`: the text's place and length, extra 0; refusals the same way
abbrev pub name_answer : Reading Shape → ℕ → Answer
name_answer (bad number place) k = refused number place
name_answer (got s left) k =
    ltb k (length (names s)) ⇒ answered (name_place s k) (length (name_text s k)) 0 ∣ λ _.
    refused no_such_part (length (names s))

-- `shiulbart_sheet`: how many bytes of encodings a sheet has, and how many entries, or the refusal
abbrev pub sheet_answer : Reading Sheet → Answer
sheet_answer (got σ left) = answered 0 (length (encodings σ)) (length σ)
sheet_answer (bad number place) = refused number place

-- `shiulbart_fill`, `shiulbart_join`, `shiulbart_write` and `shiulbart_table`: how many bytes were written, or the refusal
abbrev pub made_answer : Meant.Answer → Answer
made_answer (Meant.answered w) = answered 0 (length w) 0
made_answer (Meant.refused number place) = refused number place
