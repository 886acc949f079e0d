-- `Sheet::get` meets its contract. The invariant: every entry before low has a smaller number, every one from high on a larger.
use Prim.Native.Nat.{◌-◌}
use Rattle.sheets.proofs.Search.{Turn}
use Rattle.sheets.proofs.Sheet.get.Given as goal

abbrev pub invariant-loop-low : goal.invariant-loop-low
invariant-loop-low l = Turn l.self.bytes.now l.n l.low l.high

abbrev pub decreases-loop-low : goal.decreases-loop-low
decreases-loop-low l = l.high - l.low
