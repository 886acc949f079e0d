-- What each run says, by the meaning alone.
--     read-says .. records-says     the answer, and the buffer afterwards
--     Says, MakesIn                 what a call that writes says: its answer; that it makes some bytes
-- Assumes nothing.
use Prim.Native.Nat.{ℕ}
use mathlib.Core.Path.{◌≡◌, ◌∙◌, ap}
use mathlib.Core.List.{List}
use lib.ListN.{length}
use Rattle.meaning.specs.Refusals.{sheet_broken}
use Rattle.meaning.specs.Reading.{reading}
use Rattle.meaning.specs.SheetReading.{read_sheet}
use Rattle.meaning.specs.Answers.{Answer, in_room, fill_answer, join_answer, write_answer, table_answer, buffer_after}
use Rattle.buffers.specs.Said.{made_said}
use Rattle.reader.specs.Said.{said}
use Rattle.parts.specs.Said.{child_said, name_said}
use Rattle.sheets.specs.Said.{checked}
use Rattle.editor.specs.declared.Node.{Node}
use Rattle.editor.specs.Records.{records_answer, records_outcome}
use Rattle.promises.proofs.Calls.{Judged, ChildSaid, NameSaid, Checked, Made, Read, ChildOf, NameOf, Check, Fill, Join, Write, WriteRecords, Tabled}

pub read-says : {bytes : List ℕ} {r : Judged} → Read bytes r → r ≡ said (reading bytes)
read-says c = c.allowed ∙ rw c.lent

pub child-says : {bytes : List ℕ} {k : ℕ} {r : ChildSaid} → ChildOf bytes k r → r ≡ child_said (reading bytes) k
child-says c = c.allowed ∙ rw (c.lent, c.asked)

pub name-says : {bytes : List ℕ} {k : ℕ} {r : NameSaid} → NameOf bytes k r → r ≡ name_said (reading bytes) k
name-says c = c.allowed ∙ rw (c.lent, c.asked)

pub check-says : {sheet : List ℕ} {r : Checked} → Check sheet r → r ≡ checked (read_sheet sheet_broken sheet)
check-says c = c.allowed ∙ rw c.lent

-- a call that writes: its answer, and the buffer afterwards
abbrev pub Says : Answer → List ℕ → Made → List ℕ → Type 0
Says a before r after = (r ≡ made_said a) × (after ≡ buffer_after before a)

-- it makes w: that is the answer where there is room for it, and else the refusal is 12 and its length
abbrev pub MakesIn : (w before : List ℕ) → Made → (after : List ℕ) → Type 0
MakesIn w before = Says (in_room (length before) w) before

pub fill-says : {template sheet before : List ℕ} {r : Made} {after : List ℕ} → Fill template sheet before r after → Says (fill_answer template sheet (length before)) before r after
fill-says c = rw (← c.first-lent, ← c.second-lent, ← c.buffer_lent, ← c.buffer-left) c.allowed

pub join-says : {first second before : List ℕ} {r : Made} {after : List ℕ} → Join first second before r after → Says (join_answer first second (length before)) before r after
join-says c = rw (← c.first-lent, ← c.second-lent, ← c.buffer_lent, ← c.buffer-left) c.allowed

pub write-says : {table before : List ℕ} {r : Made} {after : List ℕ} → Write table before r after → Says (write_answer table (length before)) before r after
write-says c = rw (← c.lent, ← c.buffer_lent, ← c.buffer-left) c.allowed

pub table-says : {bytes before : List ℕ} {r : Made} {after : List ℕ} → Tabled bytes before r after → Says (table_answer bytes (length before)) before r after
table-says c = rw (← c.lent, ← c.buffer_lent, ← c.buffer-left) c.allowed

pub records-says : {nodes : List Node} {rest before : List ℕ} {r : Made} {after : List ℕ} → WriteRecords nodes rest before r after → Says (records_answer nodes rest (length before)) before r after
unfolding records_outcome
records-says {nodes} {rest} {before} {r} {after} c = (ap (λ (o : Made × List ℕ). o.0) outcome, ap (λ (o : Made × List ℕ). o.1) outcome)
  where
    outcome : (r, after) ≡ records_outcome nodes rest before
    outcome = rw (← c.nodes-lent, ← c.rest-lent, ← c.buffer_lent, ← c.buffer-left) c.allowed
