-- `tables::good_node` meets its contract.
use native.Mathlib.Omega.{arith}
use borrow.Author.Tests.{eq-eqb, ne_eqb, le-leb, lt-leb}
use Rattle.tables.specs.Places.{node_said}
use Rattle.tables.proofs.ByKind.{at_second, at-primitive, at-array, at_map, at-record, at-function, at_symbol, at-variable, at_other}
use Rattle.tables.proofs.good_node.Goals as goal

pub returns-then-b-eq1 : goal.returns-then-b-eq1
returns-then-b-eq1 c = let a = c.args in rw (at-array a.rest.now a.links a.names a.i (node_said a.node) (omega arith) (omega arith), eq-eqb _ _ c.if-b-eq1.true) c.good_links.ensures

pub returns-else-b-eq1 : goal.returns-else-b-eq1
returns-else-b-eq1 c = let a = c.args in rw (at-array a.rest.now a.links a.names a.i (node_said a.node) (omega arith) (omega arith), ne_eqb _ _ c.if-b-eq1.false)

pub returns-then-b-eq2 : goal.returns-then-b-eq2
returns-then-b-eq2 c = let a = c.args in rw (at_map a.rest.now a.links a.names a.i (node_said a.node) (omega arith) (omega arith), eq-eqb _ _ c.if-b-eq2.true) c.good_links-then-b-eq2.ensures

pub returns-else-b-eq2 : goal.returns-else-b-eq2
returns-else-b-eq2 c = let a = c.args in rw (at_map a.rest.now a.links a.names a.i (node_said a.node) (omega arith) (omega arith), ne_eqb _ _ c.if-b-eq2.false)

pub returns-in-7 : goal.returns-in-7
returns-in-7 c = let a = c.args in rw (at-record a.rest.now a.links a.names a.i (node_said a.node) (omega arith) (omega arith)) c.good_links-in-7.ensures

pub returns-then-b-ge1 : goal.returns-then-b-ge1
returns-then-b-ge1 c = let a = c.args in rw (at-function a.rest.now a.links a.names a.i (node_said a.node) (omega arith) (omega arith), le-leb _ _ c.if-b-ge1.true) c.good_links-then-b-ge1.ensures

pub returns-else-b-ge1 : goal.returns-else-b-ge1
returns-else-b-ge1 c = let a = c.args in rw (at-function a.rest.now a.links a.names a.i (node_said a.node) (omega arith) (omega arith), lt-leb _ _ c.if-b-ge1.false)

pub returns-in-9 : goal.returns-in-9
returns-in-9 c = let a = c.args in rw (at_symbol a.rest.now a.links a.names a.i (node_said a.node) (omega arith) (omega arith)) c.good_links-in-9.ensures

pub returns-in-10 : goal.returns-in-10
returns-in-10 c = let a = c.args in rw (at-variable a.rest.now a.links a.names a.i (node_said a.node) (omega arith) (omega arith))

pub returns-then-a-eq0 : goal.returns-then-a-eq0
returns-then-a-eq0 c = let a = c.args in rw (at-primitive a.rest.now a.links a.names a.i (node_said a.node) (omega arith) (omega arith), eq-eqb _ _ c.if-a-eq0.true)

pub returns-else-a-eq0 : goal.returns-else-a-eq0
returns-else-a-eq0 c = let a = c.args in rw (at-primitive a.rest.now a.links a.names a.i (node_said a.node) (omega arith) (omega arith), ne_eqb _ _ c.if-a-eq0.false)

pub returns-in_default-2 : goal.returns-in_default-2
returns-in_default-2 c = let a = c.args in rw (at_other a.rest.now a.links a.names a.i (node_said a.node) (omega arith) (omega arith))

pub returns-else-node-eq0 : goal.returns-else-node-eq0
returns-else-node-eq0 c = let a = c.args in rw (at_second a.rest.now a.links a.names a.i (node_said a.node) c.if-node-eq0.false, ne_eqb _ _ c.if-node-eq0.false)
