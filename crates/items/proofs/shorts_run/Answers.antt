-- `items::shorts_run` meets its contract.
use mathlib.Core.Path.{◌≡◌, sym}
use Prim.Native.Nat.{◌+◌, ◌-◌}
use native.Mathlib.Omega.{arith}
use lib.ListN.{length, get_or}
use Rattle.meaning.specs.FirstByte.{class_of}
use Rattle.byte_steps.specs.declared.modes.Items.TheVariants.{Bare}
use Rattle.byte_steps.proofs.Firsts.{short-small}
use Rattle.std.specs.Prelude.{Ok}
use Rattle.std.proofs.Math.Nat.{max_comm}
use Rattle.items.proofs.Whole.{whole_of, short-whole, bare-whole, run_more}
use Rattle.items.proofs.shorts_run.Goals as goal

pub loop-i-preserved : goal.loop-i-preserved
loop-i-preserved c = let r = c.loop-i in let a = c.args in
    let e = sym c.in-Short.ensures in
    let h = short-small (class_of (get_or a.w.now r.i 0)) _ e in
    let k : a.run.due - (r.i - a.run.i) - 1 ≡ a.run.due - (r.i + 1 - a.run.i) = omega arith in
    rw (← k, c.max-deepest.ensures, max_comm _ r.deepest)
    (run_more Bare a.w.now (length a.w.now) a.run.i a.n a.run.due a.run.deepest r.i (a.run.due - (r.i - a.run.i)) r.deepest a.run.fault _ _ r.invariant (omega arith)
    (bare-whole a.w.now (length a.w.now) r.i a.n r.deepest (Ok (whole_of _ _))
    (short-whole a.w.now (length a.w.now) r.i a.n r.deepest _ e (omega arith) (omega arith) (omega arith)))
    (omega arith))
