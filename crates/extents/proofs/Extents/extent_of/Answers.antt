-- `extents::Extents::extent_of` meets its contract.
use native.Mathlib.Omega.{arith}
use borrow.Author.Tests.{le-ltb, lt-ltb}
use Rattle.tables.specs.Places.{node_said}
use Rattle.extents.specs.Extents.{held_in}
use Rattle.extents.proofs.Sound.{array-has, map-has, record-has, function-has, symbol-has, link-room, links-room}
use Rattle.extents.proofs.ByKind.{of-primitive, of_array, of_map, of-record, of_function, of-symbol, of-variable}
use Rattle.extents.proofs.Extents.extent_of.Goals as goal

pub returns-in-0-to-4 : goal.returns-in-0-to-4
returns-in-0-to-4 c = let s = c.args.self.now in rw (of-primitive (held_in s.lengths.now s.depths.now) s.nodes.now s.rest.now s.links (node_said c.args.node) (omega arith))

pub prim_at-requires : goal.prim_at-requires
prim_at-requires c = let s = c.args.self.now in let h = array-has s.rest.now s.links s.names c.args.i (node_said c.args.node) c.requires.2 c.in-5.is in
    link-room s.nodes.now s.rest.now s.links s.names c.args.i c.args.node.a c.args.node.b s.holds.links_few s.holds.front c.requires.0 c.requires.1 (omega (arith, h.0)) h.1.inside h.1.good

pub returns-in-5 : goal.returns-in-5
returns-in-5 c = let s = c.args.self.now in rw (of_array (held_in s.lengths.now s.depths.now) s.nodes.now s.rest.now s.links (node_said c.args.node) c.in-5.is, ← c.if-prim_at.ensures)

pub sum_run-requires : goal.sum_run-requires
sum_run-requires c = let s = c.args.self.now in let h = array-has s.rest.now s.links s.names c.args.i (node_said c.args.node) c.requires.2 c.in-5.is in (h.1.inside, h.1.good, c.requires.0)

pub returns-in-5-2 : goal.returns-in-5-2
returns-in-5-2 c = let s = c.args.self.now in rw (of_array (held_in s.lengths.now s.depths.now) s.nodes.now s.rest.now s.links (node_said c.args.node) c.in-5.is, ← c.if-prim_at.ensures, ← c.sum_run.ensures) c.closed.ensures

pub prims_at-requires : goal.prims_at-requires
prims_at-requires c = let s = c.args.self.now in let h = map-has s.rest.now s.links s.names c.args.i (node_said c.args.node) c.requires.2 c.in-6.is in
    links-room s.nodes.now s.rest.now s.links s.names c.args.i c.args.node.a c.args.node.b s.holds.links_few s.holds.front c.requires.0 c.requires.1 (omega (arith, h.0)) h.1.inside h.1.good

pub returns-in-6 : goal.returns-in-6
returns-in-6 c = let s = c.args.self.now in rw (of_map (held_in s.lengths.now s.depths.now) s.nodes.now s.rest.now s.links (node_said c.args.node) c.in-6.is, ← c.if-prims_at.ensures)

pub sum_run-requires-in-6-2 : goal.sum_run-requires-in-6-2
sum_run-requires-in-6-2 c = let s = c.args.self.now in let h = map-has s.rest.now s.links s.names c.args.i (node_said c.args.node) c.requires.2 c.in-6.is in (h.1.inside, h.1.good, c.requires.0)

pub returns-in-6-2 : goal.returns-in-6-2
returns-in-6-2 c = let s = c.args.self.now in rw (of_map (held_in s.lengths.now s.depths.now) s.nodes.now s.rest.now s.links (node_said c.args.node) c.in-6.is, ← c.if-prims_at.ensures, ← c.sum_run-in-6-2.ensures) c.closed-in-6-2.ensures

pub sum_run-requires-in-7 : goal.sum_run-requires-in-7
sum_run-requires-in-7 c = let s = c.args.self.now in let h = record-has s.rest.now s.links s.names c.args.i (node_said c.args.node) c.requires.2 c.in-7.is in (h.inside, h.good, c.requires.0)

pub returns-in-7 : goal.returns-in-7
returns-in-7 c = let s = c.args.self.now in rw (of-record (held_in s.lengths.now s.depths.now) s.nodes.now s.rest.now s.links (node_said c.args.node) c.in-7.is, ← c.leb_size.ensures.is, ← c.sum_run-in-7.ensures) c.closed-in-7.ensures

pub sum_run-requires-in-8 : goal.sum_run-requires-in-8
sum_run-requires-in-8 c = let s = c.args.self.now in let h = function-has s.rest.now s.links s.names c.args.i (node_said c.args.node) c.requires.2 c.in-8.is in (h.1.inside, h.1.good, c.requires.0)

pub overflow_sub-b : goal.overflow_sub-b
overflow_sub-b c = let s = c.args.self.now in omega (arith, (function-has s.rest.now s.links s.names c.args.i (node_said c.args.node) c.requires.2 c.in-8.is).0)

pub returns-in-8 : goal.returns-in-8
returns-in-8 c = let s = c.args.self.now in rw (of_function (held_in s.lengths.now s.depths.now) s.nodes.now s.rest.now s.links (node_said c.args.node) c.in-8.is, ← c.leb_size-in-8.ensures.is, ← c.sum_run-in-8.ensures) c.closed-in-8.ensures

pub sum_run-requires-in-9 : goal.sum_run-requires-in-9
sum_run-requires-in-9 c = let s = c.args.self.now in let h = symbol-has s.rest.now s.links s.names c.args.i (node_said c.args.node) c.requires.2 c.in-9.is in (h.inside, h.good, c.requires.0)

pub returns-in-9 : goal.returns-in-9
returns-in-9 c = let s = c.args.self.now in rw (of-symbol (held_in s.lengths.now s.depths.now) s.nodes.now s.rest.now s.links (node_said c.args.node) c.in-9.is, ← c.leb_size-in-9.ensures.is, ← c.sum_run-in-9.ensures) c.closed-in-9.ensures

pub returns-in_default : goal.returns-in_default
returns-in_default c = let s = c.args.self.now in rw (of-variable (held_in s.lengths.now s.depths.now) s.nodes.now s.rest.now s.links (node_said c.args.node) (omega arith), lt-ltb _ _ c.if-a.true)

pub returns-in_default-2 : goal.returns-in_default-2
returns-in_default-2 c = let s = c.args.self.now in rw (of-variable (held_in s.lengths.now s.depths.now) s.nodes.now s.rest.now s.links (node_said c.args.node) (omega arith), le-ltb _ _ c.if-a.false)
