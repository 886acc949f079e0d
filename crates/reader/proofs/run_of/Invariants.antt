-- `reader::run_of` meets its contract. The loop's invariant: the items that are still due, read on from here, end as the whole list does.
use Prim.Native.Nat.{◌≤◌}
use mathlib.Core.Path.{◌≡◌}
use lib.ListN.{length}
use Rattle.reader.specs.Walk.{walk_items, walk_shape, depths}
use Rattle.reader.proofs.run_of.Given as goal

abbrev pub invariant-loop-run : goal.invariant-loop-run
invariant-loop-run l = record {
  due : l.run.due ≤ l.count;
  deep : l.run.deep ≤ l.left;
  same : walk_items depths (walk_shape depths l.left) l.fn.kind l.count l.w (length l.w) l.from 0 ≡ walk_items depths (walk_shape depths l.left) l.fn.kind l.run.due l.w (length l.w) l.run.at l.run.deep;
}

abbrev pub decreases-loop-run : goal.decreases-loop-run
decreases-loop-run l = l.run.due
