-- The proof of the cycle of calls {add_at, add_items}. Levels left and items left fall as a pair: levels * 65,536 + items, at each call.
-- add_items goes through its list in a loop; add_at adds what the list's node has for itself.
use Prim.Native.Nat.{◌+◌, ◌*◌}
use Rattle.steps.specs.Pass.{pass_shape}
use Rattle.counts.specs.Pieces.{pieces}
use Rattle.counts.proofs.Counting.{Tallied}
use Rattle.counts.proofs.+add_at_add_items.Given as goal

abbrev pub decreases-add_at : goal.decreases-add_at
decreases-add_at l = l.left * 65536

abbrev pub decreases-add_items : goal.decreases-add_items
decreases-add_items l = l.items.left * 65536 + l.items.count

-- the items so far are added, and those that are due end as the whole list does
abbrev pub invariant-add_items-loop : goal.invariant-add_items-loop
invariant-add_items-loop l = Tallied (pass_shape pieces l.items.left) l.items.kind l.s l.items.from l.items.count l.fn.counts l.at l.counts l.text l.counter
