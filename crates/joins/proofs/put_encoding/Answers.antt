-- `joins::put_encoding` meets its contract.
use Rattle.sheets.specs.Index.{blank_in}
use Rattle.merges.proofs.Filling.{part_bytes}
use Rattle.joins.proofs.Filling.{room-filled, wrote-filled}
use Rattle.joins.proofs.put_encoding.Goals as goal

pub write-requires : goal.write-requires
write-requires c = let a = c.args in let p = rw c.in-First.is at c.requires in room-filled c.entry-part.ensures (blank_in a.second.now.bytes.now) _ a.to p.1 p.2

pub returns-in-First-clause-after : goal.returns-in-First-clause-after
returns-in-First-clause-after c = let a = c.args in rw c.in-First.is (wrote-filled c.entry-part.ensures (blank_in a.second.now.bytes.now) a.out.now _ a.to c.write.result c.write.ensures).0

pub returns-in-First-clause-wrote : goal.returns-in-First-clause-wrote
returns-in-First-clause-wrote c = let a = c.args in rw c.in-First.is (wrote-filled c.entry-part.ensures (blank_in a.second.now.bytes.now) a.out.now _ a.to c.write.result c.write.ensures).1

pub returns-in-Second-clause-wrote : goal.returns-in-Second-clause-wrote
returns-in-Second-clause-wrote c = rw (c.in-Second.is, ← part_bytes c.entry-part-in-Second.ensures) c.put_bytes.ensures
