-- `extents::extents_of` meets its contract. The invariant: of each node before the next its extent is held.
use native.Mathlib.Omega.{arith}
use Prim.Native.Nat.{◌≤◌}
use lib.ListN.{length-set}
use Rattle.tables.specs.Places.{node_said}
use Rattle.extents.specs.Extents.{over, too_deep, held_in}
use Rattle.extents.proofs.Sound.{every-good}
use Rattle.extents.proofs.Held.{node-small, extents-next}
use Rattle.extents.proofs.extents_of.Goals as goal

pub loop-i-init : goal.loop-i-init
loop-i-init c = let p = c.requires in (p.6, p.7, λ j h. absurd (omega arith))

pub invariant_of-held : goal.invariant_of-held
invariant_of-held c = let p = c.requires in
    record { holds = record { links_few = p.2; names_few = p.3; front = p.4; lengths_all = c.loop-i.invariant.0; depths_all = c.loop-i.invariant.1 } }

pub extent_of-extent-requires : goal.extent_of-extent-requires
extent_of-extent-requires c = let a = c.args in let p = c.requires in (omega arith, omega arith, rw c.node_at.ensures.is (every-good a.nodes.now a.rest.now a.links a.names a.count p.5 c.loop-i.i c.loop-i-test.true))

pub overflow_cast-lengths : goal.overflow_cast-lengths
overflow_cast-lengths c = let a = c.args in let s : c.extent_of-extent.result.length ≤ over = rw c.extent_of-extent.ensures (node-small (held_in c.loop-i.lengths c.loop-i.depths) a.nodes.now a.rest.now a.links (node_said c.node_at.result)).0 in
    omega (arith, s)

pub overflow_cast-depths : goal.overflow_cast-depths
overflow_cast-depths c = let a = c.args in let s : c.extent_of-extent.result.depth ≤ too_deep = rw c.extent_of-extent.ensures (node-small (held_in c.loop-i.lengths c.loop-i.depths) a.nodes.now a.rest.now a.links (node_said c.node_at.result)).1 in
    omega (arith, s)

pub loop-i-preserved : goal.loop-i-preserved
loop-i-preserved c = let a = c.args in (
  simp length-set c.loop-i.invariant.0,
  simp length-set c.loop-i.invariant.1,
  extents-next a.nodes.now a.rest.now a.links a.names c.loop-i.lengths c.loop-i.depths c.loop-i.i c.extent_of-extent.result (omega arith) (omega arith) (λ j h. every-good a.nodes.now a.rest.now a.links a.names a.count c.requires.5 j (omega arith)) c.node_at.ensures.is c.extent_of-extent.ensures c.loop-i.invariant.2,
)

pub returns : goal.returns
returns c = λ j h. c.loop-i.invariant.2 j (omega arith)
