-- The proof of the cycle of calls {items, shape}. Levels left and items left fall as a pair: levels * 65,536 + items, at each call. items reads
-- its list in a loop, of which each turn leaves one item less.
use Prim.Native.Nat.{◌≤◌, ◌+◌, ◌*◌, ◌-◌}
use mathlib.Core.Path.{◌≡◌}
use lib.ListN.{length}
use Rattle.reader.specs.Walk.{walk_items, walk_shape, depths}
use Rattle.reader.proofs.+items_shape.Given as goal

abbrev pub decreases-items : goal.decreases-items
decreases-items l = l.left * 65536 + l.count

abbrev pub decreases-shape : goal.decreases-shape
decreases-shape l = l.left * 65536

-- the items that are still due, read on from here, end as the whole list does
abbrev pub invariant-items-loop : goal.invariant-items-loop
invariant-items-loop l = record {
  due : l.end ≤ l.count;
  deep : l.deep ≤ l.left;
  same : walk_items depths (walk_shape depths l.left) l.kind l.count l.w (length l.w) l.from 0 ≡ walk_items depths (walk_shape depths l.left) l.kind (l.end - l.counter) l.w (length l.w) l.at l.deep;
}

-- levels left and items left, of which a turn leaves one less
abbrev pub decreases-items-loop : goal.decreases-items-loop
decreases-items-loop l = l.left * 65536 + (l.end - l.counter)
