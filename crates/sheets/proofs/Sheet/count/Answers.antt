-- `Sheet::count` meets its contract: a sheet that was checked has as many entries as its first count says.
use mathlib.Core.Path.{◌∙◌}
use native.Mathlib.Omega.{arith}
use Rattle.sheets.proofs.Places.{ready-count, ready-room}
use Rattle.sheets.proofs.Sheet.count.Goals as goal

pub two_at-requires : goal.two_at-requires
two_at-requires c = let r = c.args.self.now.ready in omega (arith, ready-room r)

pub returns : goal.returns
returns c = let r = c.args.self.now.ready in c.two_at.ensures.is ∙ ready-count r
