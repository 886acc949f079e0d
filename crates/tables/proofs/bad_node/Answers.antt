-- `tables::bad_node` meets its contract. The invariant: the first broken node is the first of those that are still due.
use native.Mathlib.Omega.{arith}
use native.Mathlib.Nat.{sub-zero}
use mathlib.Core.Path.{◌∙◌, refl}
use borrow.Author.Tests.{lt-ltb, le-ltb}
use Rattle.tables.proofs.Turns.{node-good, node-bad, node_end}
use Rattle.tables.proofs.bad_node.Goals as goal

pub loop-i-init : goal.loop-i-init
loop-i-init c = rw sub-zero

pub loop-i-preserved : goal.loop-i-preserved
loop-i-preserved c = let a = c.args in c.loop-i.invariant ∙ node-good a.nodes.now a.rest.now a.links a.names a.count c.loop-i.i (omega arith) c.node_at.ensures.is c.good_node.ensures c.if-not-good_node.false

pub returns-then-not-good_node : goal.returns-then-not-good_node
returns-then-not-good_node c = let a = c.args in
    rw (c.loop-i.invariant ∙ node-bad a.nodes.now a.rest.now a.links a.names a.count c.loop-i.i (omega arith) c.node_at.ensures.is c.good_node.ensures c.if-not-good_node.true, lt-ltb c.loop-i.i a.count (omega arith)) refl

pub returns : goal.returns
returns c = let a = c.args in
    rw (c.loop-i.invariant ∙ node_end a.nodes.now a.rest.now a.links a.names a.count c.loop-i.i (omega arith), le-ltb c.loop-i.i a.count (omega arith)) refl
