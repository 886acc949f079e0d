-- What the calls on records say, as plain facts: what the toolchain reads of their contracts (`Post`, in the call's `Reads`).
--     Parameters           what is lent: the records, the rest of their table, and the buffer
--     RecordsPost          what `write_records` says
--     BoardRecordsPost     what `shiulbart_write_records` says
-- Assumes nothing.
use Rattle.std.specs.Prelude.{ℕ, List, Result}
use contract.Lifetimes.{Lfts}
use denote.Ref.{Bor}
use denote.MutBor.{MutBor}
use Rattle.leaves.specs.declared.refusals.Refusal.{Refusal}
use Rattle.editor.specs.declared.Node.{Node}
use Rattle.answers.specs.declared.Answer.{Answer}
use Rattle.editor.proofs.write_records.Reads as records
use Rattle.board.proofs.shiulbart_write_records.Reads as board-records

abbrev pub Parameters : Type 0
Parameters = Bor (List Node) × (Bor (List ℕ) × (MutBor (List ℕ) × Unit {0}))

abbrev pub RecordsPost : Lfts 3 → Parameters → Result ℕ Refusal → Parameters → Type 0
RecordsPost = records.Post

abbrev pub BoardRecordsPost : Lfts 3 → Parameters → Answer → Parameters → Type 0
BoardRecordsPost = board-records.Post
