-- `pieces::finish` meets its contract.
use mathlib.Core.Path.{◌∙◌}
use native.Mathlib.Omega.{arith}
use Rattle.pieces.proofs.Led.{finish-led, finish-small}
use Rattle.pieces.proofs.finish.Goals as goal

pub returns-clause-led : goal.returns-clause-led
returns-clause-led c = λ u b e. c.judged-answer.ensures ∙ finish-led u c.args.state b e

pub returns-clause-small : goal.returns-clause-small
returns-clause-small c = rw c.judged-answer.ensures (finish-small c.args.state (omega arith) (omega arith) (omega arith) (omega arith) (omega arith))
