-- `items::text_item` meets its contract.
use mathlib.Core.Path.{sym}
use native.Mathlib.Omega.{arith}
use Rattle.items.proofs.Whole.{text-whole}
use Rattle.items.proofs.text_item.Goals as goal

pub returns : goal.returns
returns c = text-whole _ _ _ c.args.n _ c.in_ok-text.text (sym c.in_ok-text.ensures) (omega arith)
