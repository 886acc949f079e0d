-- `leaves::past_ascii` meets its contract. The invariant: the text goes on from its start to here.
use borrow.Author.Rules.{rules}
use Rattle.leaves.proofs.Way.{ascii-on, follow}
use Rattle.leaves.proofs.past_ascii.Goals as goal

pub loop-at-preserved : goal.loop-at-preserved
loop-at-preserved c = follow c.loop-at.invariant (ascii-on _ _ _ (search rules) (search rules) (search rules))
