-- `merges::measure_all` meets its contract. The invariant: all entries measure as those that are left do, after the bytes of those measured.
use Prim.Native.Nat.{◌+◌, ◌-◌, ◌*◌, ◌≤◌}
use mathlib.Core.Path.{◌≡◌}
use lib.ListN.{length}
use Rattle.meaning.specs.Limits.{max_bytes, max_entries}
use Rattle.meaning.specs.Sheet.{join}
use Rattle.sheets.specs.Index.{sheet_in}
use Rattle.merges.specs.Merge.{joined_from, measured_all}
use Rattle.merges.proofs.Merging.{Over}
use Rattle.merges.proofs.measure_all.Given as goal

abbrev pub invariant-loop-turn : goal.invariant-loop-turn
invariant-loop-turn l =
    (goal.iterator-loop-turn).can_next l.turn-iterator ×
    (goal.iterator-loop-turn).is_finite l.turn-iterator ×
    record {
      over : Over (sheet_in l.first.bytes.now) (sheet_in l.second.bytes.now) l.turn-iterator;
      small : l.bytes + max_bytes * ((length (sheet_in l.first.bytes.now) - l.turn-iterator.i) + (length (sheet_in l.second.bytes.now) - l.turn-iterator.j)) ≤ max_bytes * (max_entries + max_entries);
      goes : measured_all (join (sheet_in l.first.bytes.now) (sheet_in l.second.bytes.now)) 0 ≡ measured_all (joined_from (sheet_in l.first.bytes.now) (sheet_in l.second.bytes.now) l.turn-iterator.i l.turn-iterator.j) l.bytes;
    }
