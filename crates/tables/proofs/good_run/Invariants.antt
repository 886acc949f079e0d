-- `tables::good_run` meets its contract. The invariant: the links that are still due, judged from here on, are as good as all of them.
use Prim.Native.Nat.{◌+◌, ◌-◌}
use mathlib.Core.Path.{◌≡◌}
use Rattle.tables.specs.Places.{good_from}
use Rattle.tables.proofs.good_run.Given as goal

abbrev pub invariant-loop-x : goal.invariant-loop-x
invariant-loop-x l = good_from l.rest l.way l.i l.names l.a l.b ≡ good_from l.rest l.way l.i l.names l.x (l.a + l.b - l.x)
