-- `items::shorts_run` meets its contract. The loop's invariant: an item was taken for each byte.
use Rattle.byte_steps.specs.declared.modes.Items.TheVariants.{Bare}
use lib.ListN.{length}
use Rattle.items.specs.Fed.{RunFed, run_past}
use Rattle.items.proofs.shorts_run.Given as goal

abbrev pub invariant-loop-i : goal.invariant-loop-i
invariant-loop-i l = RunFed Bare l.w (length l.w) l.run.i l.n l.run.due l.run.deepest (run_past l.run l.i l.deepest)
