-- `way_back::put_array` meets its contract.
use native.Mathlib.Omega.{arith}
use lib.ListN.{length-append}
use Rattle.entries.proofs.Wrote.{wrote_after}
use Rattle.way_back.proofs.Packed.{array-bytes}
use Rattle.way_back.proofs.put_array.Goals as goal

pub returns : goal.returns
returns c = let a = c.args in let h = simp (array-bytes a.section a.base a.p, length-append) at c.requires.1 in
    rw (array-bytes a.section a.base a.p)
    (wrote_after (omega (arith, h)) c.put_node-linked.ensures
    (wrote_after (omega (arith, h, c.put_node-linked.ensures.after, c.put_node-linked.auto)) c.put_bare-end.ensures c.put_node.ensures))
