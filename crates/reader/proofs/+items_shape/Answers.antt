-- The proof of the cycle of calls {items, shape}.
use native.Mathlib.Omega.{arith}
use Prim.Native.Nat.{◌+◌, ◌-◌}
use mathlib.Core.Path.{◌≡◌, sym, ◌∙◌}
use Rattle.std.proofs.lemmas.Result.{err_from_is_err_and}
use Rattle.reader.specs.Walk.{walk_items}
use Rattle.reader.proofs.Fronts.{items-window, closing-window}
use Rattle.reader.proofs.Steps.{shape-more, items-plain, items-shaped}
use Rattle.reader.proofs.+items_shape.Goals as goal
use Rattle.reader.proofs.+items_shape.Goals.{items-then-is_shaped+in_ok-depth+in-One, items-then-is_shaped+in_ok-depth+in-More+in_ok-part-in-More, items-else-is_shaped}

pub items-loop-preserved : goal.items-loop-preserved
items-loop-preserved t c = let less : c.run_of-front.result.due - c.loop.counter - 1 ≡ c.run_of-front.result.due - (c.loop.counter + 1) = omega arith in elim c.if-is_shaped.branch [
  | items-then-is_shaped+in_ok-depth+in-One w ↦ (let h = rw w.in-One.is at w.in_ok-depth.ensures in record {
    due = omega arith;
    deep = omega arith;
    same = c.loop.invariant.same ∙ items-shaped _ _ _ _ _ _ _ (c.run_of-front.result.due - c.loop.counter) (omega arith) (sym c.in_ok-at.ensures) (sym w.if-is_shaped.ensures) h.0 ∙ (cc less);
  })
  | items-then-is_shaped+in_ok-depth+in-More+in_ok-part-in-More w ↦ record {
    due = omega arith;
    deep = omega (arith, w.in_ok-part-in-More.ensures.inside);
    same = c.loop.invariant.same ∙ items-shaped _ _ _ _ _ _ _ (c.run_of-front.result.due - c.loop.counter) (omega arith) (sym c.in_ok-at.ensures) (sym w.if-is_shaped.ensures) (sym w.in_ok-part-in-More.ensures.is) ∙ (cc less);
  }
  | items-else-is_shaped w ↦ record {
    due = omega arith;
    deep = omega arith;
    same = c.loop.invariant.same ∙ items-plain _ _ _ _ _ _ _ (c.run_of-front.result.due - c.loop.counter) (omega arith) (sym c.in_ok-at.ensures) (sym w.if-is_shaped.ensures) ∙ (cc less);
  }
]

pub items-returns-clause-is : goal.items-returns-clause-is
unfolding walk_items
items-returns-clause-is t c = let z : c.run_of-front.result.due - c.loop.counter ≡ 0 = omega arith in sym (c.loop.invariant.same ∙ rw z)

pub shape-returns-in_err-list-clause-is : goal.shape-returns-in_err-list-clause-is
shape-returns-in_err-list-clause-is t c = let p = err_from_is_err_and c.from_residual.result c.from_residual.ensures.1 in let q = c.requires.1 in rw (p.1, p.2, shape-more _ _ _ _ _ q.0 q.1 q.2, ← c.in_err-list.ensures.is)

pub shape-returns-in_err-all-clause-is : goal.shape-returns-in_err-all-clause-is
shape-returns-in_err-all-clause-is t c =
    let p = err_from_is_err_and c.from_residual-in_err-all.result c.from_residual-in_err-all.ensures.1 in let q = c.requires.1 in
    let all = items-window c.args.w.now c.in_ok-list.ensures.inside.1 _ _ _ _ _ c.in_err-all.ensures.is in
    rw (p.1, p.2, shape-more _ _ _ _ _ q.0 q.1 q.2, ← c.in_ok-list.ensures.is, ← all)

pub shape-returns-clause-is : goal.shape-returns-clause-is
shape-returns-clause-is t c =
    let p = c.requires.1 in
    let stop = c.in_ok-list.ensures.inside.1 in
    let all = items-window c.args.w.now stop _ _ _ _ _ c.in_ok-all.ensures.is in
    let end = closing-window c.args.w.now stop _ _ _ _ c.closing_at.ensures.is in
    rw (shape-more _ _ _ _ _ p.0 p.1 p.2, ← c.in_ok-list.ensures.is, ← all, ← end)
