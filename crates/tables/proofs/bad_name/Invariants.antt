-- `tables::bad_name` meets its contract. The invariant: the first broken name is the first of those that are still due.
use Prim.Native.Nat.{◌-◌}
use mathlib.Core.Path.{◌≡◌}
use Rattle.tables.specs.Places.{first_bad_name}
use Rattle.tables.proofs.bad_name.Given as goal

abbrev pub invariant-loop-k : goal.invariant-loop-k
invariant-loop-k l = first_bad_name l.rest l.links l.names l.text l.names 0 ≡ first_bad_name l.rest l.links l.names l.text (l.names - l.k) l.k
