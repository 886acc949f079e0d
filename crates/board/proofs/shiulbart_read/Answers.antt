-- `board::shiulbart_read` meets its contract: what the reader says fits, and is what the call says.
use native.Mathlib.Omega.{arith}
use mathlib.Core.Path.{◌∙◌, ap}
use Rattle.meaning.proofs.Window.{bytes-by-index}
use Rattle.answers.specs.Answers.{said_put, accepted_put}
use Rattle.answers.proofs.Small.{exported}
use Rattle.board.proofs.shiulbart_read.Goals as goal

pub in_numbers-requires : goal.in_numbers-requires
in_numbers-requires c = let w = c.args.bytes.now in rw c.read.ensures (exported w (bytes-by-index w (λ i. omega (arith, c.type_inv.bytes i)))).fits

pub returns : goal.returns
returns c = let w = c.args.bytes.now in c.in_numbers.ensures ∙ ap (said_put accepted_put) c.read.ensures ∙ (exported w (bytes-by-index w (λ i. omega (arith, c.type_inv.bytes i)))).is
