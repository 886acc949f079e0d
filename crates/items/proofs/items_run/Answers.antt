-- `items::items_run` meets its contract.
use mathlib.Core.Path.{refl}
use native.Mathlib.Omega.{arith}
use lib.ListN.{length}
use Rattle.items.proofs.Whole.{run-fault, run_more}
use Rattle.items.proofs.items_run.Goals as goal

pub returns-in-Err : goal.returns-in-Err
returns-in-Err c = run-fault _ c.loop-due.invariant.1

pub returns-then-w-item : goal.returns-then-w-item
returns-then-w-item c = c.loop-due.invariant.1

pub loop-due-preserved : goal.loop-due-preserved
loop-due-preserved c = let r = c.loop-due in let a = c.args in
    (refl, rw (← r.invariant.0) (run_more a.items a.w.now (length a.w.now) a.from.i a.n a.from.due a.from.deepest r.run.i r.run.due r.run.deepest r.run.fault _ _ r.invariant.1 (omega arith) (rw c.in-Ok.is at c.item_at.ensures) (omega arith)))
