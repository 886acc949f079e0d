-- `board::shiulbart_child` meets its contract: what is said of a child fits, and is what the call says.
use native.Mathlib.Omega.{arith}
use mathlib.Core.Path.{◌∙◌, ap}
use Rattle.meaning.proofs.Window.{bytes-by-index}
use Rattle.answers.specs.Answers.{said_put, child_put}
use Rattle.answers.proofs.Small.{exported-child}
use Rattle.board.proofs.shiulbart_child.Goals as goal

pub in_numbers-requires : goal.in_numbers-requires
in_numbers-requires c = let w = c.args.bytes.now in rw c.child.ensures (exported-child w (bytes-by-index w (λ i. omega (arith, c.type_inv.bytes i))) c.args.k).fits

pub returns : goal.returns
returns c = let w = c.args.bytes.now in c.in_numbers.ensures ∙ ap (said_put child_put) c.child.ensures ∙ (exported-child w (bytes-by-index w (λ i. omega (arith, c.type_inv.bytes i))) c.args.k).is
