-- What the call on records says of its inputs, in four numbers; those of the other calls stand in answers/specs/Calls.antt. To be believed.
use Rattle.std.specs.Prelude.{ℕ, List, length}
use Rattle.editor.specs.declared.Node.{Node}
use Rattle.meaning.specs.Answers.{buffer_after}
use Rattle.editor.specs.Records as Meant
use Rattle.answers.specs.declared.Answer.{Answer}
use Rattle.answers.specs.Calls.{made_answer}

-- `shiulbart_write_records`: what it says, and what the lent buffer holds afterwards
abbrev pub records_answer : List Node → List ℕ → List ℕ → Answer × List ℕ
records_answer nodes rest buffer =
    (made_answer (Meant.records_answer nodes rest (length buffer)), buffer_after buffer (Meant.records_answer nodes rest (length buffer)))
