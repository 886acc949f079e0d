-- `reader::run_of` meets its contract.
use native.Mathlib.Omega.{arith}
use mathlib.Core.Path.{sym, ◌∙◌}
use Rattle.reader.proofs.Steps.{items-bare}
use Rattle.reader.proofs.run_of.Goals as goal

pub loop-run-preserved : goal.loop-run-preserved
loop-run-preserved c = let h = rw c.in-Ok-One.field-0-is at c.in-Ok-One.ensures in record {
  due = omega arith;
  deep = omega arith;
  same = c.loop-run.invariant.same ∙ items-bare _ _ _ _ _ _ _ c.loop-run.run.due (omega arith) (sym c.if-is_named.ensures) (sym c.if-not-is_shaped.ensures) h.0 ∙ rw (← c.max.ensures);
}
