-- `Sheet::entry` meets its contract: a sheet that was checked has few entries, so each has a slot.
use native.Mathlib.Omega.{arith}
use Rattle.sheets.proofs.Places.{ready-within, entry-room, ready-part}
use Rattle.sheets.proofs.Sheet.entry.Goals as goal

pub offset_bounds-self-i : goal.offset_bounds-self-i
offset_bounds-self-i c = omega (arith, (ready-within c.args.self.now.ready).few)

pub bounds-self-i : goal.bounds-self-i
bounds-self-i c = omega (arith, (ready-within c.args.self.now.ready).few)

pub overflow_mul-i : goal.overflow_mul-i
overflow_mul-i c = omega (arith, (ready-within c.args.self.now.ready).few)

pub overflow_add-i : goal.overflow_add-i
overflow_add-i c = omega (arith, (ready-within c.args.self.now.ready).few)

pub overflow_add-i-2 : goal.overflow_add-i-2
overflow_add-i-2 c = omega (arith, (ready-within c.args.self.now.ready).few)

pub two_at-size-requires : goal.two_at-size-requires
two_at-size-requires c = omega (arith, entry-room c.args.self.now.ready c.args.i c.requires)

pub returns : goal.returns
returns c = rw c.two_at-size.ensures.is (ready-part c.args.self.now.ready c.args.i c.requires)
