-- The public calls, each as a record of one run: what was lent, what came back, and that the call's own contract (`Post`) allows it. The promises are
-- over the runs of the exported calls, which the boards make (`BoardRead` .. `BoardPiecesFinish`); the runs of the calls below them (`Read` ..
-- `Tabled`) are what the laws behind the promises are over. What is lent are bytes; of what was lent only the buffer that a call writes to can have
-- changed. A state goes in and out by value, so what a call gave is another state, and the one that it was given is as it was.
--     OnBytes, OnPart, Into, IntoOfTwo, IntoOfRecords     a run, by what a call is lent, whatever its contract
--     OnNothing, OnState, OnStateAndBytes                 a run of a call on a state
--     Lent, Buffer, One, Two, Three                       what a call is lent: bytes, a buffer, and its parameters one after the other
--     Judged, ChildSaid, NameSaid, Checked, Made        what a call below says
-- Assumes nothing.
use Prim.Native.Nat.{ℕ}
use mathlib.Core.Path.{◌≡◌}
use mathlib.Core.List.{List, map}
use contract.Lifetimes.{Lfts}
use denote.Ref.{Bor}
use denote.MutBor.{MutBor}
use Rattle.meaning.specs.Within.{Bytes}
use Rattle.meaning.specs.TableReading.{NodesFit}
use Rattle.std.specs.Prelude.{Result}
use Rattle.leaves.specs.declared.refusals.Refusal.{Refusal}
use Rattle.reader.specs.declared.Accepted.{Accepted}
use Rattle.parts.specs.declared.FoundChild.{FoundChild}
use Rattle.parts.specs.declared.FoundName.{FoundName}
use Rattle.sheets.specs.declared.Sound.{Sound}
use Rattle.editor.specs.declared.Node.{Node}
use Rattle.editor.specs.Records.{meant}
use Rattle.states.specs.declared.State.{State}
use Rattle.answers.specs.declared.Answer.{Answer}
use Rattle.board.specs.declared.PiecesEnd.{PiecesEnd}
use Rattle.reader.proofs.read.Reads as read
use Rattle.parts.proofs.child.Reads as child
use Rattle.parts.proofs.name.Reads as name
use Rattle.sheets.proofs.check.Reads as check
use Rattle.fills.proofs.fill.Reads as fill
use Rattle.joins.proofs.join.Reads as join
use Rattle.writer.proofs.write.Reads as write
use Rattle.way_back.proofs.to_table.Reads as to-table
use Rattle.board.proofs.shiulbart_read.Reads as board-read
use Rattle.board.proofs.shiulbart_child.Reads as board-child
use Rattle.board.proofs.shiulbart_name.Reads as board-name
use Rattle.board.proofs.shiulbart_sheet.Reads as board-sheet
use Rattle.board.proofs.shiulbart_fill.Reads as board-fill
use Rattle.board.proofs.shiulbart_join.Reads as board-join
use Rattle.board.proofs.shiulbart_write.Reads as board-write
use Rattle.board.proofs.shiulbart_table.Reads as board-table
use Rattle.board.proofs.shiulbart_pieces_start.Reads as board-pieces-start
use Rattle.board.proofs.shiulbart_pieces_part.Reads as board-pieces-part
use Rattle.board.proofs.shiulbart_pieces_finish.Reads as board-pieces-finish
use Rattle.board.proofs.Plain.{Parameters, RecordsPost, BoardRecordsPost}

-- bytes that are lent: where they stand, and what they are
abbrev pub Lent : Type 0
Lent = Bor (List ℕ)

-- a buffer that is lent to be written: where it stands, and what it holds
abbrev pub Buffer : Type 0
Buffer = MutBor (List ℕ)

-- the parameters of a call, one after the other
abbrev pub One : Type 0 → Type 0
One A = A × Unit {0}

abbrev pub Two : Type 0 → Type 0 → Type 0
Two A B = A × One B

abbrev pub Three : Type 0 → Type 0 → Type 0 → Type 0
Three A B C = A × Two B C

-- a call on lent bytes said r
pub record OnBytes {R S : Type 0} (Post : Lfts 1 → One Lent → R → S → Type 0) (bytes : List ℕ) (r : R) : Type 0 where
  pub κs : Lfts 1
  pub a : One Lent
  pub s : S
  pub allowed : Post κs a r s
  pub lent : a.0.now ≡ bytes
  pub small : Bytes bytes

-- a call on lent bytes, asked for their part k, said r
pub record OnPart {R S : Type 0} (Post : Lfts 1 → Two Lent ℕ → R → S → Type 0) (bytes : List ℕ) (k : ℕ) (r : R) : Type 0 where
  pub κs : Lfts 1
  pub a : Two Lent ℕ
  pub s : S
  pub allowed : Post κs a r s
  pub lent : a.0.now ≡ bytes
  pub asked : a.1.0 ≡ k
  pub small : Bytes bytes

-- a call that writes what it makes of lent bytes said r; the lent buffer held before, and then after
pub record Into {R : Type 0} (Post : Lfts 2 → Two Lent Buffer → R → Two Lent Buffer → Type 0) (bytes before : List ℕ) (r : R) (after : List ℕ) : Type 0 where
  pub κs : Lfts 2
  pub a : Two Lent Buffer
  pub s : Two Lent Buffer
  pub allowed : Post κs a r s
  pub lent : a.0.now ≡ bytes
  pub buffer_lent : a.1.0.now ≡ before
  pub buffer-left : s.1.0.now ≡ after
  pub small : Bytes bytes

-- a call that writes what it makes of two that are lent
pub record IntoOfTwo {R : Type 0} (Post : Lfts 3 → Three Lent Lent Buffer → R → Three Lent Lent Buffer → Type 0) (first second before : List ℕ) (r : R) (after : List ℕ) : Type 0 where
  pub κs : Lfts 3
  pub a : Three Lent Lent Buffer
  pub s : Three Lent Lent Buffer
  pub allowed : Post κs a r s
  pub first-lent : a.0.now ≡ first
  pub second-lent : a.1.0.now ≡ second
  pub buffer_lent : a.1.1.0.now ≡ before
  pub buffer-left : s.1.1.0.now ≡ after
  pub small : Bytes first × Bytes second

-- a call that writes what it makes of lent records, whose fields are one byte and two of two bytes, and the rest of their table
pub record IntoOfRecords {R : Type 0} (Post : Lfts 3 → Parameters → R → Parameters → Type 0) (nodes : List Node) (rest before : List ℕ) (r : R) (after : List ℕ) : Type 0 where
  pub κs : Lfts 3
  pub a : Parameters
  pub s : Parameters
  pub allowed : Post κs a r s
  pub nodes-lent : a.0.now ≡ nodes
  pub rest-lent : a.1.0.now ≡ rest
  pub buffer_lent : a.1.1.0.now ≡ before
  pub buffer-left : s.1.1.0.now ≡ after
  pub small : NodesFit (map meant nodes) × Bytes rest

-- a call on nothing gave r
pub record OnNothing {R S : Type 0} (Post : Lfts 0 → Unit {0} → R → S → Type 0) (r : R) : Type 0 where
  pub κs : Lfts 0
  pub a : Unit {0}
  pub s : S
  pub allowed : Post κs a r s

-- a call on a state gave r
pub record OnState {R S : Type 0} (Post : Lfts 0 → One State → R → S → Type 0) (state : State) (r : R) : Type 0 where
  pub κs : Lfts 0
  pub a : One State
  pub s : S
  pub allowed : Post κs a r s
  pub given : a.0 ≡ state

-- a call on a state and lent bytes gave r
pub record OnStateAndBytes {R S : Type 0} (Post : Lfts 1 → Two State Lent → R → S → Type 0) (state : State) (bytes : List ℕ) (r : R) : Type 0 where
  pub κs : Lfts 1
  pub a : Two State Lent
  pub s : S
  pub allowed : Post κs a r s
  pub given : a.0 ≡ state
  pub lent : a.1.0.now ≡ bytes
  pub small : Bytes bytes

-- what the calls below the exported ones say
abbrev pub Judged : Type 0
Judged = Result Accepted Refusal

abbrev pub ChildSaid : Type 0
ChildSaid = Result FoundChild Refusal

abbrev pub NameSaid : Type 0
NameSaid = Result FoundName Refusal

abbrev pub Checked : Type 0
Checked = Result Sound Refusal

abbrev pub Made : Type 0
Made = Result ℕ Refusal

-- `read` of bytes said r
abbrev pub Read : (bytes : List ℕ) → Judged → Type 0
Read = OnBytes read.Post

-- `child` of bytes for k said r
abbrev pub ChildOf : (bytes : List ℕ) (k : ℕ) → ChildSaid → Type 0
ChildOf = OnPart child.Post

-- `name` of bytes for k said r
abbrev pub NameOf : (bytes : List ℕ) (k : ℕ) → NameSaid → Type 0
NameOf = OnPart name.Post

-- `check` of a sheet said r
abbrev pub Check : (sheet : List ℕ) → Checked → Type 0
Check = OnBytes check.Post

-- `fill` of a template with a sheet said r; the lent buffer held before, and then after
abbrev pub Fill : (template sheet before : List ℕ) → Made → (after : List ℕ) → Type 0
Fill = IntoOfTwo fill.Post

-- `join` of two sheets said r
abbrev pub Join : (first second before : List ℕ) → Made → (after : List ℕ) → Type 0
Join = IntoOfTwo join.Post

-- `write` of a node table said r
abbrev pub Write : (table before : List ℕ) → Made → (after : List ℕ) → Type 0
Write = Into write.Post

-- `write_records` of records and the rest of a table said r
abbrev pub WriteRecords : (nodes : List Node) (rest before : List ℕ) → Made → (after : List ℕ) → Type 0
WriteRecords = IntoOfRecords RecordsPost

-- `to_table` of an encoding said r
abbrev pub Tabled : (bytes before : List ℕ) → Made → (after : List ℕ) → Type 0
Tabled = Into to-table.Post

-- `shiulbart_read` of bytes said r, and so on: the exported calls say four numbers
abbrev pub BoardRead : (bytes : List ℕ) → Answer → Type 0
BoardRead = OnBytes board-read.Post

abbrev pub BoardChild : (bytes : List ℕ) (k : ℕ) → Answer → Type 0
BoardChild = OnPart board-child.Post

abbrev pub BoardName : (bytes : List ℕ) (k : ℕ) → Answer → Type 0
BoardName = OnPart board-name.Post

abbrev pub BoardSheet : (sheet : List ℕ) → Answer → Type 0
BoardSheet = OnBytes board-sheet.Post

abbrev pub BoardFill : (template sheet before : List ℕ) → Answer → (after : List ℕ) → Type 0
BoardFill = IntoOfTwo board-fill.Post

abbrev pub BoardJoin : (first second before : List ℕ) → Answer → (after : List ℕ) → Type 0
BoardJoin = IntoOfTwo board-join.Post

abbrev pub BoardWrite : (table before : List ℕ) → Answer → (after : List ℕ) → Type 0
BoardWrite = Into board-write.Post

abbrev pub BoardRecords : (nodes : List Node) (rest before : List ℕ) → Answer → (after : List ℕ) → Type 0
BoardRecords = IntoOfRecords BoardRecordsPost

abbrev pub BoardTable : (bytes before : List ℕ) → Answer → (after : List ℕ) → Type 0
BoardTable = Into board-table.Post

-- `shiulbart_pieces_start` gave a state
abbrev pub BoardPiecesStart : State → Type 0
BoardPiecesStart = OnNothing board-pieces-start.Post

-- `shiulbart_pieces_part` of a state and a part gave a state
abbrev pub BoardPiecesPart : (state : State) (part : List ℕ) → State → Type 0
BoardPiecesPart = OnStateAndBytes board-pieces-part.Post

-- `shiulbart_pieces_finish` of a state gave a state and four numbers
abbrev pub BoardPiecesFinish : (state : State) → PiecesEnd → Type 0
BoardPiecesFinish = OnState board-pieces-finish.Post
