-- `leaves::past_ascii` meets its contract. The invariant: the text goes on from its start to here.
use lib.ListN.{length}
use Rattle.leaves.specs.Onward.{Onward}
use Rattle.leaves.proofs.past_ascii.Given as goal

abbrev pub invariant-loop-at : goal.invariant-loop-at
invariant-loop-at l = Onward l.w (length l.w) l.from l.at
