-- `Sheet::get` meets its contract. The invariant: every entry before low has a smaller number, every one from high on a larger.
use native.Mathlib.Omega.{arith}
use Prim.Native.Nat.{◌+◌, ◌/◌}
use mathlib.Core.Path.{sym, ◌∙◌}
use Rattle.sheets.proofs.Places.{ready-within, ready-blank}
use Rattle.sheets.proofs.Search.{search-up, search-down, search-end}
use Rattle.sheets.proofs.Sheet.get.Goals as goal

pub overflow_add-middle : goal.overflow_add-middle
overflow_add-middle c = omega (arith, (ready-within c.args.self.now.ready).few)

pub returns-then-blank-n : goal.returns-then-blank-n
returns-then-blank-n c = let i = c.loop-low.invariant.inside in let m = (c.loop-low.low + c.loop-low.high) / 2 in
    rw (sym c.if-blank-n.true ∙ c.blank-blank.ensures, ready-blank c.args.self.now.ready m (omega arith)) c.entry.ensures

pub loop-low-preserved-then-blank-n-2 : goal.loop-low-preserved-then-blank-n-2
loop-low-preserved-then-blank-n-2 c = let z = c.blank-blank.ensures in search-up c.args.self.now.ready c.args.n c.loop-low.low c.loop-low.high _ c.loop-low.invariant (omega arith) (omega arith) (omega arith)

pub loop-low-preserved : goal.loop-low-preserved
loop-low-preserved c = let z = c.blank-blank.ensures in search-down c.args.self.now.ready c.args.n c.loop-low.low c.loop-low.high _ c.loop-low.invariant (omega arith) (omega arith) (omega arith)

pub returns : goal.returns
returns c = search-end c.args.self.now.ready c.args.n c.loop-low.low c.loop-low.high c.loop-low.invariant (omega arith)
