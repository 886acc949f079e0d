-- The exports are held to the calls of `board`, over which the promises are.
--     export-read-asks-nothing ..     an export asks nothing of its caller: the whole of its `requires` is nothing (`emp`), and so is what the checker
--                                     reads of it (`Pre`), as Asks.antt of `board` has it of board's calls
--     export-read-says ..             what the checker reads of an export's contract (`Post`) is what it reads of the contract of board's call
-- Assumes nothing.
use mathlib.Core.Path.{◌≡◌, refl}
use base.Logic.{emp}
use contract.Lifetimes.{Lfts}
use borrow.Fn.World.{World}
use Rattle.board.proofs.shiulbart_read.Reads as board-read
use Rattle.board_c.specs.contracts.shiulbart_read as read
use Rattle.board_c.proofs.shiulbart_read.Reads as read-reads
use Rattle.board.proofs.shiulbart_sheet.Reads as board-sheet
use Rattle.board_c.specs.contracts.shiulbart_sheet as sheet
use Rattle.board_c.proofs.shiulbart_sheet.Reads as sheet-reads
use Rattle.board.proofs.shiulbart_child.Reads as board-child
use Rattle.board_c.specs.contracts.shiulbart_child as child
use Rattle.board_c.proofs.shiulbart_child.Reads as child-reads
use Rattle.board.proofs.shiulbart_name.Reads as board-name
use Rattle.board_c.specs.contracts.shiulbart_name as name
use Rattle.board_c.proofs.shiulbart_name.Reads as name-reads
use Rattle.board.proofs.shiulbart_fill.Reads as board-fill
use Rattle.board_c.specs.contracts.shiulbart_fill as fill
use Rattle.board_c.proofs.shiulbart_fill.Reads as fill-reads
use Rattle.board.proofs.shiulbart_join.Reads as board-join
use Rattle.board_c.specs.contracts.shiulbart_join as join
use Rattle.board_c.proofs.shiulbart_join.Reads as join-reads
use Rattle.board.proofs.shiulbart_write.Reads as board-write
use Rattle.board_c.specs.contracts.shiulbart_write as write
use Rattle.board_c.proofs.shiulbart_write.Reads as write-reads
use Rattle.board.proofs.shiulbart_table.Reads as board-table
use Rattle.board_c.specs.contracts.shiulbart_table as table
use Rattle.board_c.proofs.shiulbart_table.Reads as table-reads
use Rattle.board.proofs.shiulbart_write_records.Reads as board-records
use Rattle.board_c.specs.contracts.shiulbart_write_records as records
use Rattle.board_c.proofs.shiulbart_write_records.Reads as records-reads
use Rattle.board.proofs.shiulbart_pieces_start.Reads as board-pieces-start
use Rattle.board_c.specs.contracts.shiulbart_pieces_start as pieces-start
use Rattle.board_c.proofs.shiulbart_pieces_start.Reads as pieces-start-reads
use Rattle.board.proofs.shiulbart_pieces_part.Reads as board-pieces-part
use Rattle.board_c.specs.contracts.shiulbart_pieces_part as pieces-part
use Rattle.board_c.proofs.shiulbart_pieces_part.Reads as pieces-part-reads
use Rattle.board.proofs.shiulbart_pieces_finish.Reads as board-pieces-finish
use Rattle.board_c.specs.contracts.shiulbart_pieces_finish as pieces-finish
use Rattle.board_c.proofs.shiulbart_pieces_finish.Reads as pieces-finish-reads

pub export-read-asks-nothing : (w : World) (κs : Lfts 1) (a : _) → ((read.clauses w.𝓛 w.𝓜.mem w.𝓡.run κs a).requires tt ≡ emp w.𝓤) × read-reads.Pre κs a
export-read-asks-nothing w κs a = (refl, tt)

pub export-read-says : read-reads.Post ≡ board-read.Post
export-read-says = refl

pub export-sheet-asks-nothing : (w : World) (κs : Lfts 1) (a : _) → ((sheet.clauses w.𝓛 w.𝓜.mem w.𝓡.run κs a).requires tt ≡ emp w.𝓤) × sheet-reads.Pre κs a
export-sheet-asks-nothing w κs a = (refl, tt)

pub export-sheet-says : sheet-reads.Post ≡ board-sheet.Post
export-sheet-says = refl

pub export-child-asks-nothing : (w : World) (κs : Lfts 1) (a : _) → ((child.clauses w.𝓛 w.𝓜.mem w.𝓡.run κs a).requires tt ≡ emp w.𝓤) × child-reads.Pre κs a
export-child-asks-nothing w κs a = (refl, tt)

pub export-child-says : child-reads.Post ≡ board-child.Post
export-child-says = refl

pub export-name-asks-nothing : (w : World) (κs : Lfts 1) (a : _) → ((name.clauses w.𝓛 w.𝓜.mem w.𝓡.run κs a).requires tt ≡ emp w.𝓤) × name-reads.Pre κs a
export-name-asks-nothing w κs a = (refl, tt)

pub export-name-says : name-reads.Post ≡ board-name.Post
export-name-says = refl

pub export-fill-asks-nothing : (w : World) (κs : Lfts 3) (a : _) → ((fill.clauses w.𝓛 w.𝓜.mem w.𝓡.run κs a).requires tt ≡ emp w.𝓤) × fill-reads.Pre κs a
export-fill-asks-nothing w κs a = (refl, tt)

pub export-fill-says : fill-reads.Post ≡ board-fill.Post
export-fill-says = refl

pub export-join-asks-nothing : (w : World) (κs : Lfts 3) (a : _) → ((join.clauses w.𝓛 w.𝓜.mem w.𝓡.run κs a).requires tt ≡ emp w.𝓤) × join-reads.Pre κs a
export-join-asks-nothing w κs a = (refl, tt)

pub export-join-says : join-reads.Post ≡ board-join.Post
export-join-says = refl

pub export-write-asks-nothing : (w : World) (κs : Lfts 2) (a : _) → ((write.clauses w.𝓛 w.𝓜.mem w.𝓡.run κs a).requires tt ≡ emp w.𝓤) × write-reads.Pre κs a
export-write-asks-nothing w κs a = (refl, tt)

pub export-write-says : write-reads.Post ≡ board-write.Post
export-write-says = refl

pub export-table-asks-nothing : (w : World) (κs : Lfts 2) (a : _) → ((table.clauses w.𝓛 w.𝓜.mem w.𝓡.run κs a).requires tt ≡ emp w.𝓤) × table-reads.Pre κs a
export-table-asks-nothing w κs a = (refl, tt)

pub export-table-says : table-reads.Post ≡ board-table.Post
export-table-says = refl

pub export-records-asks-nothing : (w : World) (κs : Lfts 3) (a : _) → ((records.clauses w.𝓛 w.𝓜.mem w.𝓡.run κs a).requires tt ≡ emp w.𝓤) × records-reads.Pre κs a
export-records-asks-nothing w κs a = (refl, tt)

pub export-records-says : records-reads.Post ≡ board-records.Post
export-records-says = refl

pub export-pieces-start-asks-nothing : (w : World) (κs : Lfts 0) (a : _) → ((pieces-start.clauses w.𝓛 w.𝓜.mem w.𝓡.run κs a).requires tt ≡ emp w.𝓤) × pieces-start-reads.Pre κs a
export-pieces-start-asks-nothing w κs a = (refl, tt)

pub export-pieces-start-says : pieces-start-reads.Post ≡ board-pieces-start.Post
export-pieces-start-says = refl

pub export-pieces-part-asks-nothing : (w : World) (κs : Lfts 1) (a : _) → ((pieces-part.clauses w.𝓛 w.𝓜.mem w.𝓡.run κs a).requires tt ≡ emp w.𝓤) × pieces-part-reads.Pre κs a
export-pieces-part-asks-nothing w κs a = (refl, tt)

pub export-pieces-part-says : pieces-part-reads.Post ≡ board-pieces-part.Post
export-pieces-part-says = refl

pub export-pieces-finish-asks-nothing : (w : World) (κs : Lfts 0) (a : _) → ((pieces-finish.clauses w.𝓛 w.𝓜.mem w.𝓡.run κs a).requires tt ≡ emp w.𝓤) × pieces-finish-reads.Pre κs a
export-pieces-finish-asks-nothing w κs a = (refl, tt)

pub export-pieces-finish-says : pieces-finish-reads.Post ≡ board-pieces-finish.Post
export-pieces-finish-says = refl
