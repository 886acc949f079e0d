-- `editor::put_records` meets its contract. The invariant: the section holds the first i records, one after the other.
use mathlib.Core.Path.{◌≡◌, refl, sym, ◌∙◌}
use native.Mathlib.Omega.{arith}
use lib.ListN.{length}
use lib.Seq.{take-length}
use Rattle.meaning.specs.Table.{nodes_bytes}
use Rattle.buffers.proofs.Written.{written_none}
use Rattle.editor.proofs.Outcome.{put-more}
use Rattle.editor.proofs.put_records.Goals as goal

pub loop-i-init : goal.loop-i-init
unfolding nodes_bytes
loop-i-init c = sym (written_none c.args.section.now 0)

pub loop-i-preserved : goal.loop-i-preserved
loop-i-preserved c = c.put_node.ensures ∙ rw c.loop-i.invariant (put-more c.args.nodes.now c.args.section.now c.loop-i.i _ c.loop-i-test.true c.requires)

pub returns : goal.returns
returns c = let z : c.loop-i.i ≡ length c.args.nodes.now = omega arith in rw (c.loop-i.invariant, z, take-length) refl
