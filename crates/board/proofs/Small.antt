-- What the calls below say fits in 32 bits a number; that of the others stands in answers/proofs/Small.antt.
--     finish_put         what is said at the finish of a reader that is fed with parts, in four numbers
--     judged-fits        it fits, whatever the reader's state
--     finish-put         of bytes it is what the whole reader says
--     records-told, records-small     of the writer of records
-- Assumes nothing.
use Prim.Native.Nat.{ℕ}
use mathlib.Core.Path.{◌≡◌, refl}
use mathlib.Core.List.{List}
use native.Mathlib.Omega.{arith}
use lib.Dec.{ltb}
use lib.ListN.{length}
use Rattle.meaning.specs.Limits.{max_nodes}
use Rattle.meaning.specs.Shape.{Shape}
use Rattle.meaning.specs.Reading.{Reading, got, bad}
use Rattle.meaning.proofs.Rules.{rule}
use Rattle.meaning.proofs.Bounds.{Small, Told, told-small}
use Rattle.meaning.proofs.TableAnswers.{write-told}
use Rattle.std.specs.Prelude.{Result, Ok, Err}
use Rattle.reader.specs.declared.Accepted.{Accepted}
use Rattle.pieces.specs.declared.Faulty.{Faulty}
use Rattle.pieces.specs.Led as pieces
use Rattle.editor.specs.declared.Node.{Node}
use Rattle.editor.specs.Records.{same_table, records_answer}
use Rattle.answers.specs.declared.Answer.{Answer}
use Rattle.answers.specs.Answers.{answered, refused, Fits}
use Rattle.answers.specs.Calls.{read_answer}

-- what is said at the finish: length and depth, or the number and the place
abbrev pub finish_put : Result Accepted Faulty → Answer
finish_put (Ok shape) = answered 0 shape.length shape.depth
finish_put (Err it) = refused it.number it.place

-- What the reader that is fed with parts says of any state, small as it is, fits.
pub judged-fits : (m : Result Accepted Faulty) → pieces.Small m → Fits (finish_put m)
judged-fits (Ok shape) h = (omega arith, omega arith, omega (arith, h.0), omega (arith, h.1))
judged-fits (Err it) h = (omega (arith, h.0), omega (arith, h.1), omega arith, omega arith)

-- Of bytes it is what the whole reader says.
pub finish-put : (r : Reading Shape) → finish_put (pieces.finish_said r) ≡ read_answer r
finish-put (got s left) = refl
finish-put (bad number place) = refl

-- What the writer of records answers is told, and small: it refuses at once, or answers as the writer of tables does.
pub records-told : (nodes : List Node) (rest : List ℕ) (room : ℕ) → Told (records_answer nodes rest room)
unfolding records_answer
records-told nodes rest room =
    rule Told (ltb (length nodes) 1) _ _ (λ _. (omega arith, omega arith, omega arith)) λ _.
    rule Told (ltb max_nodes (length nodes)) _ _ (λ _. (omega arith, omega arith, omega arith)) λ _.
    write-told (same_table nodes rest) room

pub records-small : (nodes : List Node) (rest : List ℕ) (room : ℕ) → Small (records_answer nodes rest room)
records-small nodes rest room = told-small _ (records-told nodes rest room)
