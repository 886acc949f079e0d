-- `parts::name` meets its contract: of an accepted encoding the steps are what is said.
use native.Mathlib.Omega.{arith}
use mathlib.Core.Path.{◌∙◌}
use Rattle.parts.proofs.Judged.{accepted-name}
use Rattle.parts.proofs.name.Goals as goal

pub returns : goal.returns
returns c = c.name_of.ensures ∙ accepted-name c.args.bytes.now (λ i. omega (arith, c.type_inv.bytes i)) c.args.k c.in_ok-read.ensures
