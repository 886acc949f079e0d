-- `counts::count_symbol` meets its contract.
use Rattle.counts.proofs.Counting.{Texts}
use Rattle.counts.proofs.count_symbol.Given as goal

abbrev pub invariant-loop : goal.invariant-loop
invariant-loop l = Texts l.w l.list.from l.list.count l.at l.text l.counter
