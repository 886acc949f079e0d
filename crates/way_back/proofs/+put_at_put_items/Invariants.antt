-- The proof of the cycle of calls {put_at, put_items}. Levels left and items left fall as a pair: levels * 65,536 + items, at each call. put_items
-- writes the shapes of its list in a loop; put_at writes a list's items, and then its node.
use Prim.Native.Nat.{◌+◌, ◌*◌}
use Rattle.steps.specs.Pass.{pass_shape}
use Rattle.counts.specs.Pieces.{pieces}
use Rattle.way_back.proofs.Putting.{Turn}
use Rattle.way_back.proofs.+put_at_put_items.Given as goal

abbrev pub decreases-put_at : goal.decreases-put_at
decreases-put_at l = l.left * 65536

abbrev pub decreases-put_items : goal.decreases-put_items
decreases-put_items l = l.items.left * 65536 + l.items.count

-- the shapes so far are written, and those that are due end as the whole list does
abbrev pub invariant-put_items-loop : goal.invariant-put_items-loop
invariant-put_items-loop l =
    Turn l.section (pass_shape pieces l.items.left) l.items.kind l.s l.items.from l.fn.put.to l.items.count l.fn.put.there l.initial.out l.out l.put.next l.put.to l.put.there l.text l.counter
