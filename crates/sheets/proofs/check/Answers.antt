-- `sheets::check` meets its contract: the encodings of an accepted sheet are what follows its second count.
use mathlib.Core.Path.{ap}
use lib.ListN.{length}
use native.Mathlib.Omega.{arith}
use Rattle.sheets.proofs.Places.{ready-within, ready-count, ready-room, ready-checked}
use Rattle.sheets.proofs.check.Goals as goal

pub overflow_mul-result : goal.overflow_mul-result
overflow_mul-result c = omega (arith, (ready-within c.in_ok-read.field-0.ready).few)

pub overflow_add-result : goal.overflow_add-result
overflow_add-result c = omega (arith, (ready-within c.in_ok-read.field-0.ready).few)

pub overflow_add-result-2 : goal.overflow_add-result-2
overflow_add-result-2 c = omega (arith, (ready-within c.in_ok-read.field-0.ready).few)

pub overflow_sub-result : goal.overflow_sub-result
overflow_sub-result c = let r = c.in_ok-read.field-0.ready in omega (arith, ready-room r, ready-count r, ap length c.in_ok-read.ensures)

pub returns : goal.returns
returns c = ready-checked c.in_ok-read.field-0.ready c.args.sheet.now c.count-entries.result c.in_ok-read.ensures c.count-entries.ensures
