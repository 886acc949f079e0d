-- `board::shiulbart_pieces_part` meets its contract. The laws of its loop are those of pieces/proofs/Looping.antt.
use mathlib.Core.Path.{refl, ap, ◌∙◌}
use native.Mathlib.Omega.{arith}
use Rattle.turns.specs.Moves.{sized}
use Rattle.pieces.proofs.Led.{led-room, led-open, letters-led}
use Rattle.pieces.proofs.Looping.{inv-start, inv-push, inv-pop, rest-led}
use Rattle.board.proofs.shiulbart_pieces_part.Goals as goal

-- the part is letters of one text
pub returns-in-Some-clause-led : goal.returns-in-Some-clause-led
returns-in-Some-clause-led c = let h = c.in-Some.ensures in λ u e. rw c.lettered-state.ensures (letters-led u _ _ _ e h.0 h.1)

-- no part leads to a state that is halted
pub returns-then-halted-clause-led : goal.returns-then-halted-clause-led
returns-then-halted-clause-led c = let z = ap sized c.from-mode.ensures in
    λ u e. absurd (omega (arith, led-room u _ e, c.halted.ensures.yes c.if-halted.true (led-open u _ e)))

-- before the first turn
pub loop-t-init : goal.loop-t-init
loop-t-init c = (
  rw (c.begun-t.ensures, c.level_of-top.ensures, c.from-mode.ensures)
      (inv-start c.args.part.now c.args.state (rw c.from-mode.ensures at (c.halted.ensures.no c.if-halted.false).1)),
  refl,
)

-- the level in hand is laid by
pub loop-t-preserved-in-Push : goal.loop-t-preserved-in-Push
loop-t-preserved-in-Push c = let l = c.loop-t in (rw (c.from.ensures, c.kinds_with-kinds.ensures) (inv-push l.invariant.0 c.turn-t.ensures c.in-Push.is), l.invariant.1)

-- the level laid by last is taken up again
pub loop-t-preserved : goal.loop-t-preserved
loop-t-preserved c = let l = c.loop-t in (rw c.level_of-t.ensures (inv-pop l.invariant.0 c.turn-t.ensures c.in-Pop.is _), l.invariant.1)

-- the part is at its end
pub returns-in-Rest-clause-led : goal.returns-in-Rest-clause-led
returns-in-Rest-clause-led c = let l = c.loop-t in
    λ u e. rw (c.from-state-in-Rest.ensures, c.kinds_with.ensures, c.from-state.ensures, l.invariant.1 ∙ led-open u _ e) (rest-led l.invariant.0 c.turn-t.ensures c.in-Rest.is u e)
