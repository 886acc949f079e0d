-- `leaves::past_blocks` meets its contract. The invariant: the text goes on from its start to here.
use borrow.Author.Rules.{rules}
use native.Mathlib.Omega.{arith}
use Rattle.leaves.proofs.Way.{stay, follow}
use Rattle.leaves.proofs.past_blocks.Goals as goal

pub loop-at-init : goal.loop-at-init
loop-at-init c = stay _ _ _ (search rules)

pub overflow_add-at : goal.overflow_add-at
overflow_add-at c = let h = c.block_at.ensures c.loop-at-test.true in search rules

pub loop-at-smaller : goal.loop-at-smaller
loop-at-smaller c = let h = c.block_at.ensures c.loop-at-test.true in omega arith

pub loop-at-preserved : goal.loop-at-preserved
loop-at-preserved c = follow c.loop-at.invariant (c.block_at.ensures c.loop-at-test.true)
