-- The proof of the cycle of calls {put_at, put_items}. Levels left and items left fall as a pair: levels * 65,536 + items, at each call. put_items
-- writes the shapes of its list in a loop; put_at writes a list's items, and then its node.
use borrow.Author.Rules.{rules}
use native.Mathlib.Omega.{arith}
use mathlib.Core.Path.{refl, sym, ◌∙◌}
use Rattle.steps.proofs.Passing.{shape-none, shape-short, list-deep, list-cut}
use Rattle.counts.specs.Pieces.{pieces}
use Rattle.counts.proofs.Linked.{shape-linked}
use Rattle.counts.proofs.Counting.{IsList, is-list}
use Rattle.way_back.proofs.Putting.{put-none, turn-first, turn-few, turn-room, turn-within, turn-text, turn_on, turn_end, list-few, own-few, items-room, own_room, sum-few, list_put}
use Rattle.way_back.proofs.+put_at_put_items.Goals as goal
use Rattle.way_back.proofs.+put_at_put_items.Goals.{put_at-After-list_at-list, put_at-then-left-eq0-via-then-left-eq0, put_at-then-left-eq0-via-else-left-eq0+then-s-at-lt-HEAD_SIZE}

-- The items that the code found are those of the list at the place.
a-list : {t : _} (c : put_at-After-list_at-list t) → IsList c.args.left c.args.s.now c.args.put.now.next c.in-Long.kind c.list_at-list.result
a-list c =
    is-list _ _ _ _ _ (sym c.first_at.ensures.is ∙ c.in-Long.is) (sym c.is_shaped.ensures ∙ c.if-not-is_shaped.false) (omega (arith, c.if-left-eq0.false)) c.if-s-at-lt-HEAD_SIZE.false c.list_at-list.ensures.is

pub put_at-put_short-put-requires : goal.put_at-put_short-put-requires
put_at-put_short-put-requires t c = let z = shape-short pieces c.args.left c.args.s.now c.args.put.now.next (sym c.first_at.ensures.is ∙ c.in-Short.is) in
    (rw z at c.requires.3, rw z at c.requires.4)

pub put_at-add-put-requires : goal.put_at-add-put-requires
put_at-add-put-requires t c = let z = shape-short pieces c.args.left c.args.s.now c.args.put.now.next (sym c.first_at.ensures.is ∙ c.in-Short.is) in
    rw c.short_counts.ensures (rw z at c.requires.3)

pub put_at-returns-then-left-eq0 : goal.put_at-returns-then-left-eq0
put_at-returns-then-left-eq0 t c =
    let h = sym c.first_at.ensures.is ∙ c.in-Long.is in let k = sym c.is_shaped.ensures ∙ c.if-not-is_shaped.false in
    put-none
    (elim c.then-left-eq0.branch [
      | put_at-then-left-eq0-via-then-left-eq0 w ↦ list-deep _ _ _ _ h k w.if-left-eq0.true
      | put_at-then-left-eq0-via-else-left-eq0+then-s-at-lt-HEAD_SIZE w ↦ list-cut _ _ _ _ h k (omega (arith, w.if-left-eq0.false)) w.if-s-at-lt-HEAD_SIZE.true
    ])
    c.requires.0

pub put_at-put_items-text-requires : goal.put_at-put_items-text-requires
put_at-put_items-text-requires t c =
    let f = a-list (goal.at.put_at-put_items-text-requires t c).After-list_at-list in let l = c.list_at-list.ensures.inside in
    (omega (arith, c.if-left-eq0.false, l.2), (omega (arith, l.1, c.if-s-at-lt-HEAD_SIZE.false), c.requires.1, list-few f c.args.put.now.there c.requires.3, items-room f c.args.put.now.there c.args.section _ _ c.requires.4, c.requires.5))

pub put_at-put_list-put-requires : goal.put_at-put_list-put-requires
put_at-put_list-put-requires t c =
    let f = a-list (goal.at.put_at-put_list-put-requires t c).After-list_at-list in let l = c.list_at-list.ensures.inside in let z = c.put_items-text.ensures.there_is in
    rw f.has-shapes (omega (arith, l.1, c.if-s-at-lt-HEAD_SIZE.false), c.requires.1, z, rw z (list-few f c.args.put.now.there c.requires.3).0.1, rw z (own-few f c.args.put.now.there c.requires.3 c.requires.5), own_room f c.args.put.now.there c.args.section _ _ (omega (arith, c.requires.4, c.put_items-text.auto)) c.put_items-text.ensures.wrote.after)

pub put_at-add-put-requires-in-Long : goal.put_at-add-put-requires-in-Long
put_at-add-put-requires-in-Long t c = sum-few (a-list (goal.at.put_at-add-put-requires-in-Long t c).After-list_at-list) c.args.put.now.there c.put_items-text.ensures c.own_counts.ensures c.requires.3

pub put_at-returns-in-Unassigned : goal.put_at-returns-in-Unassigned
put_at-returns-in-Unassigned t c = put-none (shape-none _ _ _ _ (sym c.first_at.ensures.is ∙ c.in-Unassigned.is)) c.requires.0

pub put_at-returns-in-Short : goal.put_at-returns-in-Short
put_at-returns-in-Short t c = let h = rw c.in-Short.is at c.first_at.ensures.inside in
    rw (shape-short pieces c.args.left c.args.s.now c.args.put.now.next (sym c.first_at.ensures.is ∙ c.in-Short.is))
    (record { wrote = c.put_short-put.ensures; next_is = refl; there_is = c.add-put.ensures ∙ rw c.short_counts.ensures; inside = omega (arith, h.0) })

pub put_at-returns-else-s-at-lt-HEAD_SIZE : goal.put_at-returns-else-s-at-lt-HEAD_SIZE
put_at-returns-else-s-at-lt-HEAD_SIZE t c = let f = a-list (goal.at.put_at-returns-else-s-at-lt-HEAD_SIZE t c).After-list_at-list in
    list_put f c.args.put.now.there c.put_items-text.ensures c.own_counts.ensures c.requires.4 (rw f.has-shapes at c.put_list-put.ensures) c.add-put-in-Long.ensures

pub put_items-loop-init : goal.put_items-loop-init
put_items-loop-init t c = turn-first _ _ _ _ _ _ _ _ _ c.requires.0 c.requires.4

pub put_items-slice_bounds-text_size-end : goal.put_items-slice_bounds-text_size-end
put_items-slice_bounds-text_size-end t c = let n = c.past_name-start.ensures in
    let i = turn-within c.loop.invariant c.requires.2 c.requires.3 c.loop-test.true n.is n.inside in search rules

pub put_items-overflow_add-text : goal.put_items-overflow_add-text
put_items-overflow_add-text t c = let n = c.past_name-start.ensures in
    let y = turn-text c.loop.invariant c.requires.2 c.requires.3 c.loop-test.true n.is n.inside c.text_size-text.ensures in
    record { fits = omega arith }

pub put_items-put_at-requires : goal.put_items-put_at-requires
put_items-put_at-requires t c = let n = c.past_name-start.ensures in (
  omega (arith, c.loop-test.true),
  (turn-within c.loop.invariant c.requires.2 c.requires.3 c.loop-test.true n.is n.inside, c.requires.1, c.args.items.few.1, turn-few c.loop.invariant c.requires.2 c.requires.3 c.loop-test.true n.is, turn-room c.loop.invariant c.requires.2 c.requires.3 c.loop-test.true n.is, c.loop.invariant.linked),
)

pub put_items-loop-preserved : goal.put_items-loop-preserved
put_items-loop-preserved t c = let n = c.past_name-start.ensures in
    turn_on c.loop.invariant c.requires.2 c.requires.3 c.loop-test.true n.is n.inside c.text_size-text.ensures c.put_at.ensures (omega (arith, c.put_at.auto)) (shape-linked _ _ _)

pub put_items-returns : goal.put_items-returns
put_items-returns t c = turn_end c.loop.invariant c.loop-test.false
