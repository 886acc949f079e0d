-- `items::items_run` meets its contract.
use mathlib.Core.Path.{◌≡◌}
use lib.ListN.{length}
use Rattle.items.specs.Fed.{RunFed}
use Rattle.items.proofs.items_run.Given as goal

abbrev pub invariant-loop-due : goal.invariant-loop-due
invariant-loop-due l = (l.run.due ≡ l.due) × RunFed l.items l.w (length l.w) l.fn.from.i l.n l.fn.from.due l.fn.from.deepest l.run
