-- The proof of the cycle of calls {items_size, shape_size}. Levels left and items left fall as a pair: levels * 65,536 + items, at each call.
use Prim.Native.Nat.{◌+◌, ◌*◌, ◌-◌}
use Rattle.sheets.specs.Index.{blank_in}
use Rattle.sizes.proofs.Sums.{Going}
use Rattle.sizes.proofs.+items_size_shape_size.Given as goal

abbrev pub decreases-items_size : goal.decreases-items_size
decreases-items_size l = l.left * 65536 + l.count

abbrev pub decreases-shape_size : goal.decreases-shape_size
decreases-shape_size l = l.left * 65536

-- what each turn of the loop keeps
abbrev pub invariant-items_size-loop : goal.invariant-items_size-loop
invariant-items_size-loop l = Going (blank_in l.sheet.bytes.now) l.s l.from l.left l.kind l.count l.at l.sum (l.count - l.counter)
