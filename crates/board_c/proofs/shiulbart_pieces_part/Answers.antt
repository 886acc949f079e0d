-- `board_c::shiulbart_pieces_part` says what board's call of its name says. The check finds this by itself; it is written out, so that an edit of the call
-- is refused for what it changes.
use Rattle.board_c.proofs.shiulbart_pieces_part.Goals as goal

pub returns : goal.returns
returns c = c.shiulbart_pieces_part.ensures
