-- `extents::extents_of` meets its contract. The invariant: of each node before the next its extent is held.
use mathlib.Core.Path.{◌≡◌}
use lib.ListN.{length}
use Rattle.meaning.specs.Limits.{max_nodes}
use Rattle.extents.specs.Extents.{ExtentsTo}
use Rattle.extents.proofs.extents_of.Given as goal

abbrev pub invariant-loop-i : goal.invariant-loop-i
invariant-loop-i l = (length l.lengths ≡ max_nodes) × (length l.depths ≡ max_nodes) × ExtentsTo l.nodes l.rest l.links l.lengths l.depths l.i
