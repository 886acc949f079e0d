-- `buffers::put_bytes` meets its contract. The invariant: the first i bytes are written.
use native.Mathlib.Omega.{arith}
use native.Mathlib.Nat.{zero-add}
use mathlib.Core.Path.{◌≡◌, sym, ◌∙◌}
use lib.ListN.{length}
use lib.Seq.{take-length}
use Rattle.buffers.proofs.Written.{written_none, part-more}
use Rattle.buffers.proofs.put_bytes.Goals as goal

pub loop-i-init : goal.loop-i-init
loop-i-init c = sym (written_none c.args.out.now c.args.to)

pub loop-i-preserved : goal.loop-i-preserved
loop-i-preserved c = let a = c.args in rw c.loop-i.invariant (simp zero-add at (part-more a.out.now a.to a.bytes.now 0 c.loop-i.i (omega arith) (omega arith)))

pub returns : goal.returns
returns c = let z : c.loop-i.i ≡ length c.args.bytes.now = omega arith in c.loop-i.invariant ∙ rw (z, take-length)
