-- The proof of the cycle of calls {put_node, put_run}. Nodes and links left fall as a pair: nodes * 65,536 + links, at each call; the targets of
-- node i stand before it. put_run writes its links in a loop, of which each turn leaves one link less; put_node writes a list's count and links, and
-- then its head.
use Prim.Native.Nat.{◌+◌, ◌-◌, ◌*◌}
use Rattle.writer.proofs.Turns.{Turn}
use Rattle.writer.proofs.+put_node_put_run.Given as goal

abbrev pub decreases-put_node : goal.decreases-put_node
decreases-put_node l = (l.i + 1) * 65536

abbrev pub decreases-put_run : goal.decreases-put_run
decreases-put_run l = l.i * 65536 + l.b

-- the links so far are written, and those that are due end as the whole run does
abbrev pub invariant-put_run-loop-x : goal.invariant-put_run-loop-x
invariant-put_run-loop-x l = Turn l.table l.way l.i l.a l.b l.first l.initial.out l.out l.x l.to (l.a + l.b - l.x)

abbrev pub decreases-put_run-loop-x : goal.decreases-put_run-loop-x
decreases-put_run-loop-x l = l.i * 65536 + (l.a + l.b - l.x)
