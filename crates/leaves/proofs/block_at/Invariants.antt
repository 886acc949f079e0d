-- `leaves::block_at` meets its contract. The invariant: if the bits met are those of bytes under 128, the text goes on from its start to here.
use Prim.Native.Nat.{◌+◌, ◌<◌}
use lib.ListN.{length}
use Rattle.leaves.specs.Onward.{Onward}
use Rattle.leaves.proofs.block_at.Given as goal

abbrev pub invariant-loop-b : goal.invariant-loop-b
invariant-loop-b l = l.bits < 128 → Onward l.w (length l.w) l.at (l.at + l.b-index)
