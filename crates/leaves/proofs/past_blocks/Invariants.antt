-- `leaves::past_blocks` meets its contract. The invariant: the text goes on from its start to here.
use Prim.Native.Nat.{◌-◌}
use lib.ListN.{length}
use Rattle.leaves.specs.Onward.{Onward}
use Rattle.leaves.proofs.past_blocks.Given as goal

abbrev pub invariant-loop-at : goal.invariant-loop-at
invariant-loop-at l = Onward l.w (length l.w) l.from l.at

abbrev pub decreases-loop-at : goal.decreases-loop-at
decreases-loop-at l = length l.w - l.at
