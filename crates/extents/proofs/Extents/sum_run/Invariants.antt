-- `extents::Extents::sum_run` meets its contract. The invariant: the links that are still due are good, and with them the sum is that of all.
use mathlib.Core.Bool.{true}
use mathlib.Core.Path.{◌≡◌}
use Prim.Native.Nat.{ℕ, ◌+◌}
use Rattle.tables.specs.Places.{good_from}
use Rattle.extents.specs.Extents.{held_in, none, sum_run}
use Rattle.extents.proofs.Extents.sum_run.Given as goal

abbrev pub invariant-loop-x : goal.invariant-loop-x
invariant-loop-x l =
    (due : ℕ) → l.x + due ≡ l.a + l.b
    → (good_from l.self.rest.now l.way l.i l.self.names l.x due ≡ true)
    × (sum_run (held_in l.self.lengths.now l.self.depths.now) l.self.rest.now l.self.links l.way l.a l.b none ≡ sum_run (held_in l.self.lengths.now l.self.depths.now) l.self.rest.now l.self.links l.way l.x due l.sum)
