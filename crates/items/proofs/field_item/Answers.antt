-- `items::field_item` meets its contract.
use mathlib.Core.Path.{sym}
use native.Mathlib.Omega.{arith}
use Rattle.items.proofs.Whole.{field-whole}
use Rattle.items.proofs.field_item.Goals as goal

pub returns : goal.returns
returns c = field-whole _ _ _ c.args.n _ c.in_ok-name.name c.shape_item.result (sym c.in_ok-name.ensures) (omega arith) c.shape_item.ensures
