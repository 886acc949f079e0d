-- `Sheet::blank` meets its contract: each entry of a sheet that was checked stands in it.
use mathlib.Core.Path.{◌∙◌}
use native.Mathlib.Omega.{arith}
use Rattle.sheets.proofs.Places.{ready-within, entry-room, ready-number}
use Rattle.sheets.proofs.Sheet.blank.Goals as goal

pub overflow_mul-i : goal.overflow_mul-i
overflow_mul-i c = omega (arith, (ready-within c.args.self.now.ready).few)

pub overflow_add-i : goal.overflow_add-i
overflow_add-i c = omega (arith, (ready-within c.args.self.now.ready).few)

pub two_at-requires : goal.two_at-requires
two_at-requires c = omega (arith, entry-room c.args.self.now.ready c.args.i c.requires)

pub returns : goal.returns
returns c = c.two_at.ensures.is ∙ ready-number c.args.self.now.ready c.args.i c.requires
