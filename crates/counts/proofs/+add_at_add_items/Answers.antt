-- The proof of the cycle of calls {add_at, add_items}. Levels left and items left fall as a pair: levels * 65,536 + items, at each call.
-- add_items goes through its list in a loop; add_at adds what the list's node has for itself.
use native.Mathlib.Omega.{arith}
use mathlib.Core.Path.{refl, sym, ◌∙◌}
use Rattle.steps.proofs.Passing.{shape-none, shape-short, list-deep, list-cut}
use Rattle.counts.specs.Pieces.{pieces}
use Rattle.counts.proofs.Counting.{text_few, shape-few, shape-within, tally-first, tally-turn, tally-end, none-counted, IsList, is-list, list-few, list-sum, list_counted, short-plus}
use Rattle.counts.proofs.+add_at_add_items.Goals as goal
use Rattle.counts.proofs.+add_at_add_items.Goals.{add_at-After-list_at-list, add_at-then-left-eq0-via-then-left-eq0, add_at-then-left-eq0-via-else-left-eq0+then-s-at-lt-HEAD_SIZE}

-- The items that the code found are those of the list at the place.
a-list : {t : _} (c : add_at-After-list_at-list t) → IsList c.args.left c.args.s.now c.args.at c.in-Long.kind c.list_at-list.result
a-list c =
    is-list _ _ _ _ _ (sym c.first_at.ensures.is ∙ c.in-Long.is) (sym c.is_shaped.ensures ∙ c.if-not-is_shaped.false) (omega (arith, c.if-left-eq0.false)) c.if-s-at-lt-HEAD_SIZE.false c.list_at-list.ensures.is

pub add_at-add_items-all-requires : goal.add_at-add_items-all-requires
add_at-add_items-all-requires t c =
    let l = c.list_at-list.ensures.inside in
    (omega (arith, c.if-left-eq0.false, l.2), (omega (arith, l.1, c.if-s-at-lt-HEAD_SIZE.false), c.requires.1, list-few (a-list (goal.at.add_at-add_items-all-requires t c).After-list_at-list) c.args.counts.now c.requires.3))

pub add_at-add-requires-in-Long : goal.add_at-add-requires-in-Long
add_at-add-requires-in-Long t c = list-sum (a-list (goal.at.add_at-add-requires-in-Long t c).After-list_at-list) c.add_items-all.ensures c.own_counts.ensures c.requires.3

pub add_at-returns-then-left-eq0 : goal.add_at-returns-then-left-eq0
add_at-returns-then-left-eq0 t c =
    let h = sym c.first_at.ensures.is ∙ c.in-Long.is in let k = sym c.is_shaped.ensures ∙ c.if-not-is_shaped.false in
    none-counted
    (elim c.then-left-eq0.branch [
      | add_at-then-left-eq0-via-then-left-eq0 w ↦ list-deep _ _ _ _ h k w.if-left-eq0.true
      | add_at-then-left-eq0-via-else-left-eq0+then-s-at-lt-HEAD_SIZE w ↦ list-cut _ _ _ _ h k (omega (arith, w.if-left-eq0.false)) w.if-s-at-lt-HEAD_SIZE.true
    ])
    c.requires.0

pub add_at-returns-in-Unassigned : goal.add_at-returns-in-Unassigned
add_at-returns-in-Unassigned t c = none-counted (shape-none _ _ _ _ (sym c.first_at.ensures.is ∙ c.in-Unassigned.is)) c.requires.0

pub add_at-returns-in-Short : goal.add_at-returns-in-Short
add_at-returns-in-Short t c = let h = rw c.in-Short.is at c.first_at.ensures.inside in
    rw (shape-short pieces c.args.left c.args.s.now c.args.at (sym c.first_at.ensures.is ∙ c.in-Short.is))
    (record { next_is = refl; counts_is = short-plus c.args.counts.now c.short_links-links.ensures.is; inside = omega (arith, h.0) })

pub add_at-returns-else-s-at-lt-HEAD_SIZE : goal.add_at-returns-else-s-at-lt-HEAD_SIZE
add_at-returns-else-s-at-lt-HEAD_SIZE t c = list_counted (a-list (goal.at.add_at-returns-else-s-at-lt-HEAD_SIZE t c).After-list_at-list) c.add_items-all.ensures c.own_counts.ensures c.add-in-Long.ensures

pub add_items-loop-init : goal.add_items-loop-init
add_items-loop-init t c = tally-first _ _ _ _ _ _ c.requires.0

pub add_items-overflow_add-text : goal.add_items-overflow_add-text
add_items-overflow_add-text t c = let n = c.past_name-start.ensures in
    let y = text_few c.loop.invariant c.requires.2 c.loop-test.true n.is n.inside c.text_size-text.ensures in
    record { fits = omega arith }

pub add_items-add_at-at-requires : goal.add_items-add_at-at-requires
add_items-add_at-at-requires t c = let n = c.past_name-start.ensures in (
  omega (arith, c.loop-test.true),
  (shape-within c.loop.invariant c.requires.2 c.loop-test.true n.is n.inside, c.requires.1, c.args.items.few.1, shape-few c.loop.invariant c.requires.2 c.loop-test.true n.is n.inside),
)

pub add_items-loop-preserved : goal.add_items-loop-preserved
add_items-loop-preserved t c = tally-turn c.loop.invariant c.requires.2 c.loop-test.true c.past_name-start.ensures.is c.past_name-start.ensures.inside c.text_size-text.ensures c.add_at-at.ensures

pub add_items-returns : goal.add_items-returns
add_items-returns t c = tally-end c.loop.invariant c.loop-test.false
