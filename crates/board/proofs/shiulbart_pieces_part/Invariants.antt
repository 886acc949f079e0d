-- `board::shiulbart_pieces_part` meets its contract. The laws of its loop are those of pieces/proofs/Looping.antt.
use mathlib.Core.Path.{◌≡◌}
use Rattle.turns.specs.Leads.{to_do}
use Rattle.pieces.proofs.Looping.{Inv}
use Rattle.board.proofs.shiulbart_pieces_part.Given as goal

abbrev pub invariant-loop-t : goal.invariant-loop-t
invariant-loop-t l = Inv l.part l.initial.state l.state.levels l.kinds l.t.mode l.t.top l.n l.t.count l.t.whole l.t.deepest l.t.i × (l.state.closed ≡ l.initial.state.closed)

abbrev pub decreases-loop-t : goal.decreases-loop-t
decreases-loop-t l = to_do l.part l.t.i l.t.mode l.n
