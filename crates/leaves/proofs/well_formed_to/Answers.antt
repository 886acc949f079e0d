-- `leaves::well_formed_to` meets its contract. The invariant: the text goes on from its start to here.
use borrow.Author.Rules.{rules}
use mathlib.Core.Path.{sym, ◌∙◌}
use Rattle.leaves.proofs.Way.{ascii-on, char-on, stay, follow, stop-here, end-here}
use Rattle.leaves.proofs.well_formed_to.Goals as goal

pub loop-at-init : goal.loop-at-init
loop-at-init c = stay _ _ _ (search rules)

pub loop-at-preserved-then-w-at-lt128 : goal.loop-at-preserved-then-w-at-lt128
loop-at-preserved-then-w-at-lt128 c = follow c.loop-at.invariant
    (follow (ascii-on _ _ _ (search rules) (search rules) (search rules)) c.past_ascii-at.ensures)

pub returns-then-n-eq0 : goal.returns-then-n-eq0
returns-then-n-eq0 c = stop-here c.loop-at.invariant
    (sym c.char_at-n.ensures.is ∙ c.if-n-eq0.true)

pub loop-at-preserved : goal.loop-at-preserved
loop-at-preserved c = follow c.loop-at.invariant
    (char-on _ _ _ (search rules) _ c.char_at-n.ensures.is c.if-n-eq0.false (search rules))

pub returns : goal.returns
returns c = end-here c.loop-at.invariant (search rules)
