-- `buffers::put_bytes` meets its contract. The invariant: the first i bytes are written.
use mathlib.Core.Path.{◌≡◌}
use lib.ListN.{take}
use Rattle.buffers.specs.Written.{written}
use Rattle.buffers.proofs.put_bytes.Given as goal

abbrev pub invariant-loop-i : goal.invariant-loop-i
invariant-loop-i l = l.out ≡ written l.initial.out l.to (take l.i l.bytes)
