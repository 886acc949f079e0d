-- "It trusts no caller to have looked first": no public call asks anything. What a call asks, the whole of its `requires`, is nothing (`emp`, a
-- contract's ⊤ₛ), whatever its lifetimes κs and its arguments a are, in every model w of the logic; and so is what the checker reads of it (`Pre`).
--     read-asks-nothing .. pieces-finish-asks-nothing                 the calls
--     board-read-asks-nothing .. board-pieces-finish-asks-nothing     the exported calls
-- Assumes nothing.
use mathlib.Core.Path.{◌≡◌, refl}
use base.Logic.{emp}
use contract.Lifetimes.{Lfts}
use borrow.Fn.World.{World}
use Rattle.reader.specs.contracts.read as read
use Rattle.reader.proofs.read.Reads as read-reads
use Rattle.sheets.specs.contracts.check as check
use Rattle.sheets.proofs.check.Reads as check-reads
use Rattle.parts.specs.contracts.child as child
use Rattle.parts.proofs.child.Reads as child-reads
use Rattle.parts.specs.contracts.name as name
use Rattle.parts.proofs.name.Reads as name-reads
use Rattle.fills.specs.contracts.fill as fill
use Rattle.fills.proofs.fill.Reads as fill-reads
use Rattle.joins.specs.contracts.join as join
use Rattle.joins.proofs.join.Reads as join-reads
use Rattle.writer.specs.contracts.write as write
use Rattle.writer.proofs.write.Reads as write-reads
use Rattle.way_back.specs.contracts.to_table as table
use Rattle.way_back.proofs.to_table.Reads as table-reads
use Rattle.editor.specs.contracts.write_records as records
use Rattle.editor.proofs.write_records.Reads as records-reads
use Rattle.pieces.specs.contracts.start as pieces-start
use Rattle.pieces.proofs.start.Reads as pieces-start-reads
use Rattle.pieces.specs.contracts.finish as pieces-finish
use Rattle.pieces.proofs.finish.Reads as pieces-finish-reads
use Rattle.board.specs.contracts.shiulbart_read as board-read
use Rattle.board.proofs.shiulbart_read.Reads as board-read-reads
use Rattle.board.specs.contracts.shiulbart_sheet as board-sheet
use Rattle.board.proofs.shiulbart_sheet.Reads as board-sheet-reads
use Rattle.board.specs.contracts.shiulbart_child as board-child
use Rattle.board.proofs.shiulbart_child.Reads as board-child-reads
use Rattle.board.specs.contracts.shiulbart_name as board-name
use Rattle.board.proofs.shiulbart_name.Reads as board-name-reads
use Rattle.board.specs.contracts.shiulbart_fill as board-fill
use Rattle.board.proofs.shiulbart_fill.Reads as board-fill-reads
use Rattle.board.specs.contracts.shiulbart_join as board-join
use Rattle.board.proofs.shiulbart_join.Reads as board-join-reads
use Rattle.board.specs.contracts.shiulbart_write as board-write
use Rattle.board.proofs.shiulbart_write.Reads as board-write-reads
use Rattle.board.specs.contracts.shiulbart_table as board-table
use Rattle.board.proofs.shiulbart_table.Reads as board-table-reads
use Rattle.board.specs.contracts.shiulbart_write_records as board-records
use Rattle.board.proofs.shiulbart_write_records.Reads as board-records-reads
use Rattle.board.specs.contracts.shiulbart_pieces_start as board-pieces-start
use Rattle.board.proofs.shiulbart_pieces_start.Reads as board-pieces-start-reads
use Rattle.board.specs.contracts.shiulbart_pieces_part as board-pieces-part
use Rattle.board.proofs.shiulbart_pieces_part.Reads as board-pieces-part-reads
use Rattle.board.specs.contracts.shiulbart_pieces_finish as board-pieces-finish
use Rattle.board.proofs.shiulbart_pieces_finish.Reads as board-pieces-finish-reads

module _ (w : World) (κs : Lfts 1) (a : _) where
  pub read-asks-nothing : ((read.clauses w.𝓛 w.𝓜.mem w.𝓡.run κs a).requires tt ≡ emp w.𝓤) × read-reads.Pre κs a
  read-asks-nothing = (refl, tt)

  pub check-asks-nothing : ((check.clauses w.𝓛 w.𝓜.mem w.𝓡.run κs a).requires tt ≡ emp w.𝓤) × check-reads.Pre κs a
  check-asks-nothing = (refl, tt)

  pub board-read-asks-nothing : ((board-read.clauses w.𝓛 w.𝓜.mem w.𝓡.run κs a).requires tt ≡ emp w.𝓤) × board-read-reads.Pre κs a
  board-read-asks-nothing = (refl, tt)

  pub board-sheet-asks-nothing : ((board-sheet.clauses w.𝓛 w.𝓜.mem w.𝓡.run κs a).requires tt ≡ emp w.𝓤) × board-sheet-reads.Pre κs a
  board-sheet-asks-nothing = (refl, tt)

module _ (w : World) (κs : Lfts 1) (a : _) where
  pub child-asks-nothing : ((child.clauses w.𝓛 w.𝓜.mem w.𝓡.run κs a).requires tt ≡ emp w.𝓤) × child-reads.Pre κs a
  child-asks-nothing = (refl, tt)

  pub name-asks-nothing : ((name.clauses w.𝓛 w.𝓜.mem w.𝓡.run κs a).requires tt ≡ emp w.𝓤) × name-reads.Pre κs a
  name-asks-nothing = (refl, tt)

  pub board-child-asks-nothing : ((board-child.clauses w.𝓛 w.𝓜.mem w.𝓡.run κs a).requires tt ≡ emp w.𝓤) × board-child-reads.Pre κs a
  board-child-asks-nothing = (refl, tt)

  pub board-name-asks-nothing : ((board-name.clauses w.𝓛 w.𝓜.mem w.𝓡.run κs a).requires tt ≡ emp w.𝓤) × board-name-reads.Pre κs a
  board-name-asks-nothing = (refl, tt)

module _ (w : World) (κs : Lfts 3) (a : _) where
  pub fill-asks-nothing : ((fill.clauses w.𝓛 w.𝓜.mem w.𝓡.run κs a).requires tt ≡ emp w.𝓤) × fill-reads.Pre κs a
  fill-asks-nothing = (refl, tt)

  pub join-asks-nothing : ((join.clauses w.𝓛 w.𝓜.mem w.𝓡.run κs a).requires tt ≡ emp w.𝓤) × join-reads.Pre κs a
  join-asks-nothing = (refl, tt)

  pub board-fill-asks-nothing : ((board-fill.clauses w.𝓛 w.𝓜.mem w.𝓡.run κs a).requires tt ≡ emp w.𝓤) × board-fill-reads.Pre κs a
  board-fill-asks-nothing = (refl, tt)

  pub board-join-asks-nothing : ((board-join.clauses w.𝓛 w.𝓜.mem w.𝓡.run κs a).requires tt ≡ emp w.𝓤) × board-join-reads.Pre κs a
  board-join-asks-nothing = (refl, tt)

module _ (w : World) (κs : Lfts 2) (a : _) where
  pub write-asks-nothing : ((write.clauses w.𝓛 w.𝓜.mem w.𝓡.run κs a).requires tt ≡ emp w.𝓤) × write-reads.Pre κs a
  write-asks-nothing = (refl, tt)

  pub table-asks-nothing : ((table.clauses w.𝓛 w.𝓜.mem w.𝓡.run κs a).requires tt ≡ emp w.𝓤) × table-reads.Pre κs a
  table-asks-nothing = (refl, tt)

  pub board-write-asks-nothing : ((board-write.clauses w.𝓛 w.𝓜.mem w.𝓡.run κs a).requires tt ≡ emp w.𝓤) × board-write-reads.Pre κs a
  board-write-asks-nothing = (refl, tt)

  pub board-table-asks-nothing : ((board-table.clauses w.𝓛 w.𝓜.mem w.𝓡.run κs a).requires tt ≡ emp w.𝓤) × board-table-reads.Pre κs a
  board-table-asks-nothing = (refl, tt)

module _ (w : World) (κs : Lfts 3) (a : _) where
  pub records-asks-nothing : ((records.clauses w.𝓛 w.𝓜.mem w.𝓡.run κs a).requires tt ≡ emp w.𝓤) × records-reads.Pre κs a
  records-asks-nothing = (refl, tt)

  pub board-records-asks-nothing : ((board-records.clauses w.𝓛 w.𝓜.mem w.𝓡.run κs a).requires tt ≡ emp w.𝓤) × board-records-reads.Pre κs a
  board-records-asks-nothing = (refl, tt)

module _ (w : World) (κs : Lfts 0) (a : _) where
  pub pieces-start-asks-nothing : ((pieces-start.clauses w.𝓛 w.𝓜.mem w.𝓡.run κs a).requires tt ≡ emp w.𝓤) × pieces-start-reads.Pre κs a
  pieces-start-asks-nothing = (refl, tt)

  pub board-pieces-start-asks-nothing : ((board-pieces-start.clauses w.𝓛 w.𝓜.mem w.𝓡.run κs a).requires tt ≡ emp w.𝓤) × board-pieces-start-reads.Pre κs a
  board-pieces-start-asks-nothing = (refl, tt)

module _ (w : World) (κs : Lfts 1) (a : _) where
  pub board-pieces-part-asks-nothing : ((board-pieces-part.clauses w.𝓛 w.𝓜.mem w.𝓡.run κs a).requires tt ≡ emp w.𝓤) × board-pieces-part-reads.Pre κs a
  board-pieces-part-asks-nothing = (refl, tt)

module _ (w : World) (κs : Lfts 0) (a : _) where
  pub pieces-finish-asks-nothing : ((pieces-finish.clauses w.𝓛 w.𝓜.mem w.𝓡.run κs a).requires tt ≡ emp w.𝓤) × pieces-finish-reads.Pre κs a
  pieces-finish-asks-nothing = (refl, tt)

  pub board-pieces-finish-asks-nothing : ((board-pieces-finish.clauses w.𝓛 w.𝓜.mem w.𝓡.run κs a).requires tt ≡ emp w.𝓤) × board-pieces-finish-reads.Pre κs a
  board-pieces-finish-asks-nothing = (refl, tt)
