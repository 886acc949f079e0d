-- `entries::put_list` meets its contract.
use native.Mathlib.Omega.{arith}
use lib.ListN.{length-append}
use Rattle.entries.proofs.Wrote.{wrote_after}
use Rattle.entries.proofs.Entries.{own-bytes}
use Rattle.entries.proofs.put_list.Goals as goal

pub returns : goal.returns
returns c = let a = c.args in let i = a.items in let e = own-bytes a.section i.left i.kind i.count a.s.now i.from a.base a.after c.requires.2 c.kind_number.ensures in
    let h = rw (e, length-append) at c.requires.5 in
    rw e (wrote_after (omega (arith, h)) c.put_own-end.ensures c.put_node.ensures)
