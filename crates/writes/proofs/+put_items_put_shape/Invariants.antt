-- The proof of the cycle of calls {put_items, put_shape}. Levels left and items left fall as a pair: levels * 65,536 + items, at each call.
-- put_items writes its list in a loop; put_shape writes a list's count and items, and then its head.
use Prim.Native.Nat.{◌+◌, ◌*◌}
use Rattle.steps.specs.Pass.{pass_shape}
use Rattle.sheets.specs.Index.{blank_in}
use Rattle.writes.specs.Writes.{writes}
use Rattle.writes.proofs.Turns.{Turn}
use Rattle.writes.proofs.+put_items_put_shape.Given as goal

abbrev pub decreases-put_items : goal.decreases-put_items
decreases-put_items l = l.left * 65536 + l.count

abbrev pub decreases-put_shape : goal.decreases-put_shape
decreases-put_shape l = l.left * 65536

-- the items so far are written, and those that are due end as the whole list does
abbrev pub invariant-put_items-loop : goal.invariant-put_items-loop
invariant-put_items-loop l = Turn (blank_in l.sheet.bytes.now) (pass_shape (writes (blank_in l.sheet.bytes.now)) l.left) l.kind l.s l.from l.first l.count l.counter l.initial.out l.out l.places
