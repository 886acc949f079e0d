-- The proof of the cycle of calls {put_items, put_shape}. Levels left and items left fall as a pair: levels * 65,536 + items, at each call.
-- put_items writes its list in a loop; put_shape writes a list's count and items, and then its head.
use native.Mathlib.Omega.{arith}
use Prim.Native.Nat.{◌-◌, ◌≤◌}
use native.Mathlib.Nat.{add-zero, sub-zero}
use mathlib.Core.Path.{refl, sym, ◌∙◌}
use mathlib.Core.List.{[]}
use lib.ListN.{length}
use lib.Seq.{length-slice}
use Rattle.std.specs.Prelude.{Some}
use Rattle.buffers.proofs.Written.{written_none}
use Rattle.steps.proofs.Passing.{shape-none, shape-short, list-deep, list-cut, items-none}
use Rattle.steps.proofs.Inside.{shape-inside}
use Rattle.sheets.specs.Index.{blank_in}
use Rattle.writes.specs.Writes.{items, writes}
use Rattle.writes.proofs.Bytes.{part-slice}
use Rattle.writes.proofs.Turns.{room-name, room-shape, turn_on, turn-made}
use Rattle.writes.proofs.Long.{packed-room, packed-wrote, long-room, long-wrote}
use Rattle.writes.proofs.+put_items_put_shape.Goals as goal
use Rattle.writes.proofs.+put_items_put_shape.Goals.{put_items-in-Unassigned, put_items-in-Short, put_items-in-Long}
use Rattle.writes.proofs.+put_items_put_shape.Goals.{put_shape-then-left-eq0-via-then-left-eq0, put_shape-then-left-eq0-via-else-left-eq0+then-s-at-lt-HEAD_SIZE}

pub put_items-loop-init : goal.put_items-loop-init
put_items-loop-init t c = record { a = items (Some 0) []; goes = rw sub-zero; wrote = sym (written_none _ _); to_is = sym (add-zero _); long = refl; inside = c.requires.0 }

pub put_items-put_bytes-requires : goal.put_items-put_bytes-requires
put_items-put_bytes-requires t c = let n = c.past_name-start.ensures in
    let i : c.past_name-start.result ≤ length c.args.s.now = omega (arith, n.inside.1, c.loop.invariant.inside) in
    rw (part-slice _ _ c.args.s.now n.inside.0, length-slice _ _ c.args.s.now i) (room-name _ _ _ _ _ _ _ _ _ _ _ c.loop.invariant c.requires.3 c.loop-test.true _ n.is n.inside.0 i)

pub put_items-overflow_add-to : goal.put_items-overflow_add-to
put_items-overflow_add-to t c = let n = c.past_name-start.ensures in
    let i : c.past_name-start.result ≤ length c.args.s.now = omega (arith, n.inside.1, c.loop.invariant.inside) in
    let h = room-name _ _ _ _ _ _ _ _ _ _ _ c.loop.invariant c.requires.3 c.loop-test.true _ n.is n.inside.0 i in
    record { fits = omega (arith, h, c.loop.invariant.long) }

pub put_items-put_short-requires : goal.put_items-put_short-requires
put_items-put_short-requires t c = let n = c.past_name-start.ensures in
    let i : c.past_name-start.result ≤ length c.args.s.now = omega (arith, n.inside.1, c.loop.invariant.inside) in
    let z = shape-short (writes (blank_in c.args.sheet.now.bytes.now)) c.args.left c.args.s.now c.past_name-start.result (sym c.first_at.ensures.is ∙ c.in-Short.is) in
    let h = rw z at (room-shape _ _ _ _ _ _ _ _ _ _ _ c.loop.invariant c.requires.3 c.loop-test.true _ n.is n.inside.0 i) in
    omega (arith, h.0, c.put_bytes.auto)

pub put_items-put_shape-places-requires : goal.put_items-put_shape-places-requires
put_items-put_shape-places-requires t c = let n = c.past_name-start.ensures in
    let i : c.past_name-start.result ≤ length c.args.s.now = omega (arith, n.inside.1, c.loop.invariant.inside) in
    let h = rw c.in-Long.is at c.first_at.ensures.inside in
    let r = room-shape _ _ _ _ _ _ _ _ _ _ _ c.loop.invariant c.requires.3 c.loop-test.true _ n.is n.inside.0 i in
    (omega (arith, c.loop-test.true), (h, c.requires.1, sym c.first_at.ensures.is ∙ c.in-Long.is, (omega (arith, r.0, c.put_bytes.auto), r.1)))

pub put_items-loop-preserved : goal.put_items-loop-preserved
put_items-loop-preserved t c = let n = c.past_name-start.ensures in
    let i : c.past_name-start.result ≤ length c.args.s.now = omega (arith, n.inside.1, c.loop.invariant.inside) in
    let p = rw (part-slice _ _ c.args.s.now n.inside.0) at c.put_bytes.ensures in
    elim c.match-first_at.branch [
      | put_items-in-Unassigned w ↦ (
          let z = shape-none (writes (blank_in c.args.sheet.now.bytes.now)) c.args.left c.args.s.now c.past_name-start.result (sym c.first_at.ensures.is ∙ w.in-Unassigned.is) in
          rw (w.out-is, w.places-is) (turn-made _ _ _ _ _ _ _ _ _ _ _ c.loop.invariant c.requires.3 c.loop-test.true _ n.is n.inside.0 i [] _ _ _ z p (omega (arith, c.put_bytes.auto)) (sym (add-zero _)) (sym (written_none _ _)) refl i))
      | put_items-in-Short w ↦ (
          let z = shape-short (writes (blank_in c.args.sheet.now.bytes.now)) c.args.left c.args.s.now c.past_name-start.result (sym c.first_at.ensures.is ∙ w.in-Short.is) in
          let h = rw w.in-Short.is at c.first_at.ensures.inside in
          rw (w.out-is, w.places-is) (turn-made _ _ _ _ _ _ _ _ _ _ _ c.loop.invariant c.requires.3 c.loop-test.true _ n.is n.inside.0 i _ _ _ _ z p (omega (arith, c.put_bytes.auto)) w.put_short.ensures.after w.put_short.ensures.wrote (omega (arith, w.put_short.auto)) (omega (arith, h.0))))
      | put_items-in-Long w ↦ (
          let z = w.put_shape-places.ensures in
          rw (w.out-is, w.places-is) (turn_on _ _ _ _ _ _ _ _ _ _ _ c.loop.invariant c.requires.3 c.loop-test.true _ n.is n.inside.0 i _ _ _ p (omega (arith, c.put_bytes.auto)) z (omega (arith, w.put_shape-places.auto)) (rw z.next_is (shape-inside c.args.s.now (writes (blank_in c.args.sheet.now.bytes.now)) c.args.left c.past_name-start.result i))))
    ]

pub put_items-returns : goal.put_items-returns
put_items-returns t c = let z : c.args.count - c.loop.counter ≤ 0 = omega arith in
    rw (c.loop.invariant.goes, items-none _ _ _ _ _ _ _ z) (record { next_is = refl; to_is = c.loop.invariant.to_is; wrote = c.loop.invariant.wrote })

pub put_shape-returns-then-left-eq0 : goal.put_shape-returns-then-left-eq0
put_shape-returns-then-left-eq0 t c = let y = sym c.is_shaped.ensures ∙ c.if-not-is_shaped.false in
    elim c.then-left-eq0.branch [
      | put_shape-then-left-eq0-via-then-left-eq0 w ↦ rw (list-deep _ _ _ _ c.requires.2 y w.if-left-eq0.true) (record { next_is = refl; to_is = sym (add-zero _); wrote = sym (written_none _ _) })
      | put_shape-then-left-eq0-via-else-left-eq0+then-s-at-lt-HEAD_SIZE w ↦ rw (list-cut _ c.args.left _ _ c.requires.2 y (omega (arith, w.if-left-eq0.false)) w.if-s-at-lt-HEAD_SIZE.true) (record { next_is = refl; to_is = sym (add-zero _); wrote = sym (written_none _ _) })
    ]

pub put_shape-put_byte-requires : goal.put_shape-put_byte-requires
put_shape-put_byte-requires t c = let y = sym c.is_shaped.ensures ∙ c.if-not-is_shaped.false in
    packed-room _ _ _ _ _ c.requires.2 y (omega (arith, c.if-left-eq0.false)) c.if-s-at-lt-HEAD_SIZE.false _ c.list_at-list.ensures.is _ _ c.requires.3 _ c.in-Some.ensures

pub put_shape-returns-in-Some : goal.put_shape-returns-in-Some
put_shape-returns-in-Some t c = let y = sym c.is_shaped.ensures ∙ c.if-not-is_shaped.false in
    packed-wrote _ _ _ _ _ c.requires.2 y (omega (arith, c.if-left-eq0.false)) c.if-s-at-lt-HEAD_SIZE.false _ c.list_at-list.ensures.is _ _ c.requires.3 _ c.in-Some.ensures _ _ _ c.put_byte.ensures refl refl

pub put_shape-put_bytes-requires : goal.put_shape-put_bytes-requires
put_shape-put_bytes-requires t c = let y = sym c.is_shaped.ensures ∙ c.if-not-is_shaped.false in let l = c.list_at-list.ensures in
    let i : c.list_at-list.result.from ≤ length c.args.s.now = omega (arith, l.inside.1, c.if-s-at-lt-HEAD_SIZE.false) in
    let r = long-room _ _ _ _ _ c.requires.2 y (omega (arith, c.if-left-eq0.false)) c.if-s-at-lt-HEAD_SIZE.false _ l.is _ _ c.requires.3 c.in_default.ensures i l.inside.0 in
    rw (part-slice _ _ c.args.s.now l.inside.0, length-slice _ _ c.args.s.now i) (omega (arith, r.0, l.inside.0))

pub put_shape-put_items-all-requires : goal.put_shape-put_items-all-requires
put_shape-put_items-all-requires t c = let y = sym c.is_shaped.ensures ∙ c.if-not-is_shaped.false in let l = c.list_at-list.ensures in
    let i : c.list_at-list.result.from ≤ length c.args.s.now = omega (arith, l.inside.1, c.if-s-at-lt-HEAD_SIZE.false) in
    let r = long-room _ _ _ _ _ c.requires.2 y (omega (arith, c.if-left-eq0.false)) c.if-s-at-lt-HEAD_SIZE.false _ l.is _ _ c.requires.3 c.in_default.ensures i l.inside.0 in
    (omega (arith, c.if-left-eq0.false, l.inside.2), (i, omega (arith, c.requires.1), l.inside.2, (omega (arith, r.0, c.put_bytes.auto), omega (arith, r.1))))

pub put_shape-put_head-requires : goal.put_shape-put_head-requires
put_shape-put_head-requires t c = let y = sym c.is_shaped.ensures ∙ c.if-not-is_shaped.false in let l = c.list_at-list.ensures in
    let i : c.list_at-list.result.from ≤ length c.args.s.now = omega (arith, l.inside.1, c.if-s-at-lt-HEAD_SIZE.false) in
    let r = long-room _ _ _ _ _ c.requires.2 y (omega (arith, c.if-left-eq0.false)) c.if-s-at-lt-HEAD_SIZE.false _ l.is _ _ c.requires.3 c.in_default.ensures i l.inside.0 in
    (omega (arith, r.1, c.put_items-all.ensures.to_is), omega (arith, r.0, c.put_bytes.auto, c.put_items-all.auto, l.inside.0))

pub put_shape-returns : goal.put_shape-returns
put_shape-returns t c = let y = sym c.is_shaped.ensures ∙ c.if-not-is_shaped.false in let l = c.list_at-list.ensures in
    let i : c.list_at-list.result.from ≤ length c.args.s.now = omega (arith, l.inside.1, c.if-s-at-lt-HEAD_SIZE.false) in
    let p = rw (part-slice _ _ c.args.s.now l.inside.0) at c.put_bytes.ensures in
    long-wrote _ _ _ _ _ c.requires.2 y (omega (arith, c.if-left-eq0.false)) c.if-s-at-lt-HEAD_SIZE.false _ l.is _ _ c.requires.3 c.in_default.ensures i l.inside.0 _ _ _ _ _ refl p c.put_items-all.ensures c.put_head.ensures
