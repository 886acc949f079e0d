-- `editor::put_records` meets its contract. The invariant: the section holds the first i records, one after the other.
use mathlib.Core.Path.{◌≡◌}
use Rattle.buffers.specs.Written.{written}
use Rattle.editor.proofs.Outcome.{front}
use Rattle.editor.proofs.put_records.Given as goal

abbrev pub invariant-loop-i : goal.invariant-loop-i
invariant-loop-i l = l.section ≡ written l.initial.section 0 (front l.nodes l.i)
