-- `joins::put_entries` meets its contract. The invariant: the entries passed are written.
use Rattle.sheets.specs.Index.{sheet_in}
use Rattle.merges.proofs.Merging.{Over}
use Rattle.joins.proofs.Putting.{Put}
use Rattle.joins.proofs.put_entries.Given as goal

abbrev pub invariant-loop-turn : goal.invariant-loop-turn
invariant-loop-turn l =
    (goal.iterator-loop-turn).can_next l.turn-iterator ×
    (goal.iterator-loop-turn).is_finite l.turn-iterator ×
    record {
      over : Over (sheet_in l.first.bytes.now) (sheet_in l.second.bytes.now) l.turn-iterator;
      put : Put (sheet_in l.first.bytes.now) (sheet_in l.second.bytes.now) l.count l.initial.out l.out l.turn-iterator.i l.turn-iterator.j l.at l.to;
    }
