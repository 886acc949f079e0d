-- `way_back::put_map` meets its contract.
use native.Mathlib.Omega.{arith}
use lib.ListN.{length-append}
use Rattle.entries.proofs.Wrote.{wrote_after}
use Rattle.way_back.proofs.Packed.{map-bytes}
use Rattle.way_back.proofs.put_map.Goals as goal

pub returns : goal.returns
returns c = let a = c.args in let h = simp (map-bytes a.section a.base a.p a.q, length-append) at c.requires.1 in
    rw (map-bytes a.section a.base a.p a.q)
    (wrote_after (omega arith) c.put_node-second.ensures
    (wrote_after (omega (arith, h, c.put_node-second.ensures.after, c.put_node-second.auto)) c.put_node-linked.ensures
    (wrote_after (omega (arith, h, c.put_node-second.ensures.after, c.put_node-second.auto, c.put_node-linked.ensures.after, c.put_node-linked.auto)) c.put_bare-other.ensures
    (wrote_after (omega (arith, h, c.put_node-second.ensures.after, c.put_node-second.auto, c.put_node-linked.ensures.after, c.put_node-linked.auto, c.put_bare-other.ensures.after, c.put_bare-other.auto)) c.put_bare-end.ensures c.put_node.ensures))))
