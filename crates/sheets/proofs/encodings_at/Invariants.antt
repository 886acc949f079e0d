-- `sheets::encodings_at` meets its contract. The invariant: the encodings that are still due have room from here on, and, judged from here on,
-- end as all of them do; those before are in their slots.
use Prim.Native.Nat.{◌+◌, ◌-◌, ◌≤◌}
use mathlib.Core.Path.{◌≡◌}
use lib.ListN.{length}
use Rattle.meaning.specs.Limits.{max_entries}
use Rattle.sheets.specs.Steps.{sum_from, encodings_from}
use Rattle.sheets.specs.Index.{IndexTo}
use Rattle.sheets.proofs.encodings_at.Given as goal

abbrev pub invariant-loop-entry : goal.invariant-loop-entry
invariant-loop-entry l = (l.at + sum_from l.sheet (l.count - l.entry) l.entry ≤ length l.sheet)
    × (encodings_from l.sheet l.count 0 l.from ≡ encodings_from l.sheet (l.count - l.entry) l.entry l.at)
    × (l.at ≡ l.from + sum_from l.sheet l.entry 0)
    × (length l.slots ≡ max_entries)
    × IndexTo l.sheet l.slots l.from l.entry
