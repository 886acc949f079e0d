-- `items::shape_item` meets its contract.
use mathlib.Core.Path.{sym}
use native.Mathlib.Omega.{arith}
use Rattle.items.proofs.Whole.{short-whole}
use Rattle.items.proofs.shape_item.Goals as goal

pub returns-else-deep-gt-LEVELS : goal.returns-else-deep-gt-LEVELS
returns-else-deep-gt-LEVELS c = rw c.max.ensures (short-whole _ _ _ c.args.n _ _ (sym c.in-Short.ensures) (omega arith) (omega arith) (omega arith))
