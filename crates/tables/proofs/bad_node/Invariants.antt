-- `tables::bad_node` meets its contract. The invariant: the first broken node is the first of those that are still due.
use Prim.Native.Nat.{◌-◌}
use mathlib.Core.Path.{◌≡◌}
use Rattle.tables.specs.Places.{first_bad_node}
use Rattle.tables.proofs.bad_node.Given as goal

abbrev pub invariant-loop-i : goal.invariant-loop-i
invariant-loop-i l = first_bad_node l.nodes l.rest l.links l.names l.count 0 ≡ first_bad_node l.nodes l.rest l.links l.names (l.count - l.i) l.i
