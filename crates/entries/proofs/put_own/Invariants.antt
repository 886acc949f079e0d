-- The entries that a list's node has for its items are written in a loop; a section that has none of them is left as it is.
use Rattle.entries.proofs.Owning.{Turn}
use Rattle.entries.proofs.put_own.Given as goal

abbrev pub invariant-loop-k : goal.invariant-loop-k
invariant-loop-k l = Turn l.section l.s l.items.from l.items.left l.items.kind l.items.count l.base l.after l.initial.out l.first l.out l.at l.to l.nodes l.text l.k
