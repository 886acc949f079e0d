-- 01-scope.md, "Node table": "a Rattle front of the editor lends its nodes as a slice of records (kind, a, b), the rest of the table as one byte
-- buffer; the answer and places are those of the same table in bytes (no records, or more than 6,144: 9 at 0)". To be believed.
use Rattle.std.specs.Prelude.{ℕ, List, ◌++◌, map, ltb, length, Result}
use Rattle.meaning.specs.Rules.{◌⇒◌∣◌}
use Rattle.meaning.specs.Limits.{max_nodes}
use Rattle.meaning.specs.Refusals.{section_broken}
use Rattle.meaning.specs.Numbers.{two_bytes}
use Rattle.meaning.specs.Table as Meant
use Rattle.meaning.specs.Answers.{Answer, refused, write_answer, buffer_after}
use Rattle.leaves.specs.declared.refusals.Refusal.{Refusal}
use Rattle.buffers.specs.Said.{made_said}
use Rattle.editor.specs.declared.Node.{Node}

-- a record is a node whose second byte is zero
abbrev pub meant : Node → Meant.Node
meant n = Meant.node n.kind n.a n.b

-- "the same table in bytes": the number of records, their six bytes each, and the rest
abbrev pub same_table : List Node → List ℕ → List ℕ
same_table nodes rest = two_bytes (length nodes) ++ (Meant.nodes_bytes (map meant nodes) ++ rest)

-- "no records, or more than 6,144: 9 at 0", before their number is written as two bytes; else the answer of the same table
unfoldable pub records_answer : List Node → List ℕ → ℕ → Answer
records_answer nodes rest room =
    ltb (length nodes) 1 ⇒ refused section_broken 0 ∣ λ _.
    ltb max_nodes (length nodes) ⇒ refused section_broken 0 ∣ λ _.
    write_answer (same_table nodes rest) room

-- the whole outcome of the call: what it says, and what the lent buffer holds afterwards
unfoldable pub records_outcome : List Node → List ℕ → List ℕ → Result ℕ Refusal × List ℕ
records_outcome nodes rest buffer =
    (made_said (records_answer nodes rest (length buffer)), buffer_after buffer (records_answer nodes rest (length buffer)))
