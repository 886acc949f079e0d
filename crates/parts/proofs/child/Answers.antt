-- `parts::child` meets its contract: of an accepted encoding the steps are what is said.
use native.Mathlib.Omega.{arith}
use mathlib.Core.Path.{◌∙◌}
use Rattle.parts.proofs.Judged.{accepted-child}
use Rattle.parts.proofs.child.Goals as goal

pub returns : goal.returns
returns c = c.child_of.ensures ∙ accepted-child c.args.bytes.now (λ i. omega (arith, c.type_inv.bytes i)) c.args.k c.in_ok-read.ensures
