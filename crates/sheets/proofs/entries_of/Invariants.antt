-- `sheets::entries_of` meets its contract. The invariant: the entries that are still due, read on from here, end as all of them do.
use Prim.Native.Nat.{◌*◌, ◌-◌, ◌≤◌}
use mathlib.Core.Path.{◌≡◌}
use Rattle.meaning.specs.Limits.{max_bytes}
use Rattle.sheets.specs.Steps.{entries_from}
use Rattle.sheets.proofs.entries_of.Given as goal

abbrev pub invariant-loop-i : goal.invariant-loop-i
invariant-loop-i l = (l.sum ≤ max_bytes * l.i) × (entries_from l.sheet l.count 0 0 0 ≡ entries_from l.sheet (l.count - l.i) l.i l.least l.sum)
