-- The proof of the cycle of calls {items_size, shape_size}. Levels left and items left fall as a pair: levels * 65,536 + items, at each call.
-- items_size goes through its list in a loop, of which each turn leaves one item less.
use borrow.Author.Rules.{rules}
use native.Mathlib.Omega.{arith}
use mathlib.Core.Path.{◌≡◌, sym, ap, ◌∙◌}
use Prim.Native.Nat.{◌≤◌, ◌+◌, ◌-◌}
use lib.ListN.{length}
use Rattle.sheets.specs.Index.{blank_in}
use Rattle.sizes.specs.Sizes.{sizes}
use Rattle.steps.specs.Pass.{Came}
use Rattle.sizes.specs.declared.Size.{Size}
use Rattle.steps.proofs.Passing.{shape-none, shape-short, list-deep, list-cut, items-none}
use Rattle.sizes.proofs.Sums.{turn, nothing-inside, short-inside, list-is}
use Rattle.sizes.proofs.+items_size_shape_size.Goals as goal
use Rattle.sizes.proofs.+items_size_shape_size.Goals.{items_size-in-Unassigned, items_size-in-Short, items_size-in-Long, shape_size-then-left-eq0-via-then-left-eq0, shape_size-then-left-eq0-via-else-left-eq0+then-s-at-lt-HEAD_SIZE}

-- one turn keeps what holds, whatever the item is
pub items_size-loop-preserved : goal.items_size-loop-preserved
items_size-loop-preserved t c = let a = c.args in let i : c.past_name-start.result ≤ length a.s.now = search rules in let at = c.past_name-start.result in
    elim c.match-first_at.branch [
      | items_size-in-Unassigned w ↦
          let x : w.nothing.result.next ≡ at = ap (λ (r : Came Size). r.next) w.nothing.ensures in
          let g = turn (blank_in a.sheet.now.bytes.now) a.s.now a.left a.kind c.loop.sum at w.nothing.result (a.count - (c.loop.counter + 1)) w.with_item-sum.result c.loop.invariant (omega arith) (omega arith)
          c.past_name-start.ensures.is c.past_name-start.ensures.inside.0 i
          (w.nothing.ensures ∙ sym (shape-none (sizes (blank_in a.sheet.now.bytes.now)) a.left a.s.now at (sym c.first_at.ensures.is ∙ w.in-Unassigned.is)))
          (nothing-inside a.left a.s.now at w.nothing.result i w.nothing.ensures) w.with_item-sum.ensures in
          rw (w.at-is, w.sum-is) (rw x at g)
      | items_size-in-Short w ↦
          let h = rw w.in-Short.is at c.first_at.ensures.inside in
          rw (w.at-is, w.sum-is) (turn (blank_in a.sheet.now.bytes.now) a.s.now a.left a.kind c.loop.sum at (record { next = at + 1; size = w.short_size.result }) (a.count - (c.loop.counter + 1)) w.with_item-sum-in-Short.result
          c.loop.invariant (omega arith) (omega arith) c.past_name-start.ensures.is c.past_name-start.ensures.inside.0 i
          (sym (shape-short (sizes (blank_in a.sheet.now.bytes.now)) a.left a.s.now at (sym c.first_at.ensures.is ∙ w.in-Short.is) ∙ rw (← w.short_size.ensures.is)))
          (short-inside a.left a.s.now at w.short_size.result h.0 w.short_size.ensures.inside) w.with_item-sum-in-Short.ensures)
      | items_size-in-Long w ↦
          rw (w.at-is, w.sum-is) (turn (blank_in a.sheet.now.bytes.now) a.s.now a.left a.kind c.loop.sum at w.shape_size-part.result (a.count - (c.loop.counter + 1)) w.with_item-sum-in-Long.result
          c.loop.invariant (omega arith) (omega arith) c.past_name-start.ensures.is c.past_name-start.ensures.inside.0 i w.shape_size-part.ensures.is w.shape_size-part.ensures.inside w.with_item-sum-in-Long.ensures)
    ]

-- all items
pub items_size-returns-clause-is : goal.items_size-returns-clause-is
items_size-returns-clause-is t c = let a = c.args in let g = c.loop.invariant in sym (g.same ∙ items-none (sizes (blank_in a.sheet.now.bytes.now)) _ _ _ _ _ _ (omega arith))

-- a list with no level left for it, or whose head is cut off
pub shape_size-returns-then-left-eq0-clause-is : goal.shape_size-returns-then-left-eq0-clause-is
shape_size-returns-then-left-eq0-clause-is t c = let a = c.args in let p = sym c.is_shaped.ensures ∙ c.if-is_shaped.true in
    c.nothing.ensures ∙ sym (elim c.then-left-eq0.branch [
      | shape_size-then-left-eq0-via-then-left-eq0 w ↦ list-deep (sizes (blank_in a.sheet.now.bytes.now)) a.left a.s.now a.at c.requires.3 p w.if-left-eq0.true
      | shape_size-then-left-eq0-via-else-left-eq0+then-s-at-lt-HEAD_SIZE w ↦ list-cut (sizes (blank_in a.sheet.now.bytes.now)) a.left a.s.now a.at c.requires.3 p (search rules) w.if-s-at-lt-HEAD_SIZE.true
    ])

pub shape_size-returns-then-is_shaped-clause-is : goal.shape_size-returns-then-is_shaped-clause-is
shape_size-returns-then-is_shaped-clause-is t c = let a = c.args in list-is (blank_in a.sheet.now.bytes.now) a.left a.s.now a.at a.kind c.list_at-list.result c.items_size-all.result c.list_size.result
    c.requires.3 (sym c.is_shaped.ensures ∙ c.if-is_shaped.true) (search rules) (search rules)
    c.list_at-list.ensures.is c.list_at-list.ensures.inside c.items_size-all.ensures.is c.list_size.ensures
