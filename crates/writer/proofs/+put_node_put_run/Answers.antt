-- The proof of the cycle of calls {put_node, put_run}. Nodes and links left fall as a pair: nodes * 65,536 + links, at each call; the targets of
-- node i stand before it. put_run writes its links in a loop, of which each turn leaves one link less; put_node writes a list's count and links, and
-- then its head.
use native.Mathlib.Omega.{arith}
use native.Mathlib.Nat.{add-zero}
use Prim.Native.Nat.{◌+◌, ◌-◌}
use mathlib.Core.Path.{◌≡◌, refl, sym, ◌∙◌}
use Rattle.buffers.proofs.Written.{written_none}
use Rattle.writer.proofs.Links.{node-formed, node-by-form, node-linked, link-named, target-before}
use Rattle.writer.proofs.Turns.{turn-first, turn_last, child_is, no-child, room-name, room-child, turn_on}
use Rattle.writer.proofs.Heads.{list-room, list_wrote}
use Rattle.writer.proofs.+put_node_put_run.Goals as goal
use Rattle.writer.proofs.+put_node_put_run.Goals.{put_run-in-Texts, put_run-in-Bare}

pub put_node-form_of-requires : goal.put_node-form_of-requires
put_node-form_of-requires t c = node-formed c.args.table.now _ c.requires.0 _ c.node-node.ensures.is

pub put_node-put_byte-requires : goal.put_node-put_byte-requires
put_node-put_byte-requires t c = let z = node-by-form c.args.table.now _ c.requires.0 _ c.node-node.ensures.is _ (sym c.form_of.ensures ∙ c.in-Byte.is) in
    let h = rw z at c.requires.1 in omega (arith, h.0)

pub put_node-put_blank-requires : goal.put_node-put_blank-requires
put_node-put_blank-requires t c = let z = node-by-form c.args.table.now _ c.requires.0 _ c.node-node.ensures.is _ (sym c.form_of.ensures ∙ c.in-Blank.is) in
    let h = rw z at c.requires.1 in (c.node-node.ensures.small.0, h.0)

pub put_node-put_count-from-requires : goal.put_node-put_count-from-requires
put_node-put_count-from-requires t c = let r = list-room c.args.table.now _ c.requires.0 _ c.node-node.ensures.is _ _ _ (sym c.form_of.ensures ∙ c.in-List.is) _ _ c.requires.1 in
    ((node-linked c.args.table.now _ c.requires.0 _ c.node-node.ensures.is _ _ _ (sym c.form_of.ensures ∙ c.in-List.is)).1, omega (arith, r.0))

pub put_node-put_run-end-requires : goal.put_node-put_run-end-requires
put_node-put_run-end-requires t c = let r = list-room c.args.table.now _ c.requires.0 _ c.node-node.ensures.is _ _ _ (sym c.form_of.ensures ∙ c.in-List.is) _ _ c.requires.1 in
    (omega (arith, c.node-node.ensures.small.1), ((node-linked c.args.table.now _ c.requires.0 _ c.node-node.ensures.is _ _ _ (sym c.form_of.ensures ∙ c.in-List.is)).0, (omega (arith, r.0, c.put_count-from.ensures.after, c.put_count-from.auto), omega (arith, r.1))))

pub put_node-put_head-requires : goal.put_node-put_head-requires
put_node-put_head-requires t c = let r = list-room c.args.table.now _ c.requires.0 _ c.node-node.ensures.is _ _ _ (sym c.form_of.ensures ∙ c.in-List.is) _ _ c.requires.1 in
    (omega (arith, r.1, c.put_count-from.ensures.after, c.put_run-end.ensures.after), omega (arith, r.0, c.put_count-from.auto, c.put_run-end.auto))

pub put_node-returns-in-Byte-clause-after : goal.put_node-returns-in-Byte-clause-after
put_node-returns-in-Byte-clause-after t c = let z = node-by-form c.args.table.now _ c.requires.0 _ c.node-node.ensures.is _ (sym c.form_of.ensures ∙ c.in-Byte.is) in
    rw z refl

pub put_node-returns-in-Byte-clause-wrote : goal.put_node-returns-in-Byte-clause-wrote
put_node-returns-in-Byte-clause-wrote t c = let z = node-by-form c.args.table.now _ c.requires.0 _ c.node-node.ensures.is _ (sym c.form_of.ensures ∙ c.in-Byte.is) in
    rw z (c.put_byte.ensures)

pub put_node-returns-in-Blank : goal.put_node-returns-in-Blank
put_node-returns-in-Blank t c = let z = node-by-form c.args.table.now _ c.requires.0 _ c.node-node.ensures.is _ (sym c.form_of.ensures ∙ c.in-Blank.is) in
    rw z c.put_blank.ensures

pub put_node-returns-in-List-clause-after : goal.put_node-returns-in-List-clause-after
put_node-returns-in-List-clause-after t c = (list_wrote c.args.table.now _ c.requires.0 _ c.node-node.ensures.is _ _ _ (sym c.form_of.ensures ∙ c.in-List.is) _ _ c.requires.1 _ _ _ _ _ _ refl c.put_count-from.ensures.wrote c.put_count-from.ensures.after c.put_run-end.ensures.wrote c.put_run-end.ensures.after c.put_head.ensures).0

pub put_node-returns-in-List-clause-wrote : goal.put_node-returns-in-List-clause-wrote
put_node-returns-in-List-clause-wrote t c = (list_wrote c.args.table.now _ c.requires.0 _ c.node-node.ensures.is _ _ _ (sym c.form_of.ensures ∙ c.in-List.is) _ _ c.requires.1 _ _ _ _ _ _ refl c.put_count-from.ensures.wrote c.put_count-from.ensures.after c.put_run-end.ensures.wrote c.put_run-end.ensures.after c.put_head.ensures).1

pub put_run-loop-x-init : goal.put_run-loop-x-init
put_run-loop-x-init t c = let z : c.args.a + c.args.b - c.args.a ≡ c.args.b = omega arith in rw z (turn-first _ _ _ _ _ _ _ c.requires.0)

pub put_run-put_name-after-requires : goal.put_run-put_name-after-requires
put_run-put_name-after-requires t c = (link-named c.args.table.now _ _ _ _ c.loop-x.invariant.linked (omega arith) _ c.link-link.ensures, room-name _ _ _ _ _ _ _ _ _ _ _ c.loop-x.invariant c.requires.1 (omega arith) _ c.link-link.ensures _ refl)

pub put_run-put_node-to-requires : goal.put_run-put_node-to-requires
put_run-put_node-to-requires t c = let l = c.loop-x.invariant in let e = c.put_name-after.ensures.after in
    let b = target-before c.args.table.now _ _ _ _ l.linked (omega arith) _ c.link-link.ensures c.in-Bare.is in
    let r = room-child _ _ _ _ _ _ _ _ _ _ _ l c.requires.1 (omega arith) _ c.link-link.ensures _ (child_is _ _ _ c.in-Bare.is) in
    (omega (arith, l.fewer), (omega (arith, l.linked.below), (omega (arith, r.0, e, c.put_name-after.auto), r.1)))

pub put_run-loop-x-preserved : goal.put_run-loop-x-preserved
put_run-loop-x-preserved t c = let l = c.loop-x.invariant in let e = c.put_name-after.ensures in
    let z : c.args.a + c.args.b - (c.loop-x.x + 1) ≡ c.args.a + c.args.b - c.loop-x.x - 1 = omega arith in
    rw z (elim c.match-way.branch [
      | put_run-in-Texts w ↦ rw (w.out-is, w.to-is) (turn_on _ _ _ _ _ _ _ _ _ _ _ l c.requires.1 (omega arith) _ c.link-link.ensures _ (no-child _ _ _ w.in-Texts.is) _ _ _ _ e.wrote (omega (arith, c.put_name-after.auto)) e.after (sym (written_none _ _)) refl (sym (add-zero _)))
      | put_run-in-Bare w ↦ rw (w.out-is, w.to-is) (turn_on _ _ _ _ _ _ _ _ _ _ _ l c.requires.1 (omega arith) _ c.link-link.ensures _ (child_is _ _ _ w.in-Bare.is) _ _ _ _ e.wrote (omega (arith, c.put_name-after.auto)) e.after w.put_node-to.ensures.wrote (omega (arith, w.put_node-to.auto)) w.put_node-to.ensures.after)
    ])

pub put_run-returns-clause-after : goal.put_run-returns-clause-after
put_run-returns-clause-after t c = (turn_last _ _ _ _ _ _ _ _ _ _ _ c.loop-x.invariant (omega arith)).0

pub put_run-returns-clause-wrote : goal.put_run-returns-clause-wrote
put_run-returns-clause-wrote t c = (turn_last _ _ _ _ _ _ _ _ _ _ _ c.loop-x.invariant (omega arith)).1
