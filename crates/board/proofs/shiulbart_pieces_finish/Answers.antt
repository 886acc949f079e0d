-- `board::shiulbart_pieces_finish` meets its contract: what is said at the finish fits, whatever the state.
use Rattle.board.proofs.Small.{judged-fits}
use Rattle.board.proofs.shiulbart_pieces_finish.Goals as goal

pub in_numbers-requires : goal.in_numbers-requires
in_numbers-requires c = judged-fits c.finish-finished.result.answer c.finish-finished.ensures.small
