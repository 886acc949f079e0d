-- `items::long_item` meets its contract.
use mathlib.Core.Path.{sym}
use native.Mathlib.Omega.{arith}
use Rattle.items.proofs.Whole.{shape-whole}
use Rattle.items.proofs.long_item.Goals as goal

pub returns : goal.returns
returns c = rw c.max.ensures (shape-whole _ _ _ c.args.n _ _ _ (sym c.in_ok-shape.ensures.is) (omega arith) (omega arith))
