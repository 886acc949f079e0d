-- `items::item_at` meets its contract.
use lib.ListN.{length}
use Rattle.items.proofs.Whole.{bare-whole}
use Rattle.items.proofs.item_at.Goals as goal

pub returns-in-Bare : goal.returns-in-Bare
returns-in-Bare c = rw c.in-Bare.is (bare-whole c.args.w.now (length c.args.w.now) c.args.at c.args.n c.args.deepest c.shape_item.result c.shape_item.ensures)

pub returns-in-Fields : goal.returns-in-Fields
returns-in-Fields c = rw c.in-Fields.is c.field_item.ensures

pub returns-in-Texts : goal.returns-in-Texts
returns-in-Texts c = rw c.in-Texts.is c.text_item.ensures
