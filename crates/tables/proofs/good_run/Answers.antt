-- `tables::good_run` meets its contract. The invariant: the links that are still due, judged from here on, are as good as all of them.
use native.Mathlib.Omega.{arith}
use mathlib.Core.Path.{◌≡◌, sym, ◌∙◌}
use Prim.Native.Nat.{ℕ, ◌+◌, ◌-◌}
use Rattle.tables.specs.Places.{good_from}
use Rattle.tables.proofs.Turns.{run-good, run-bad}
use Rattle.tables.proofs.good_run.Goals as goal

-- One link less is due.
one_less : (a b x : ℕ) → a + b - x - 1 ≡ a + b - (x + 1)
one_less a b x = omega arith

pub loop-x-init : goal.loop-x-init
loop-x-init c = let a = c.args in let z : a.a + a.b - a.a ≡ a.b = omega arith in rw z

pub returns-then-not-good_link : goal.returns-then-not-good_link
returns-then-not-good_link c = let a = c.args in
    sym (c.loop-x.invariant ∙ run-bad a.rest.now a.way a.i a.names c.loop-x.x (a.a + a.b - c.loop-x.x) (omega arith) c.link_at.ensures c.good_link.ensures c.if-not-good_link.true)

pub loop-x-preserved : goal.loop-x-preserved
loop-x-preserved c = let a = c.args in
    c.loop-x.invariant ∙ run-good a.rest.now a.way a.i a.names c.loop-x.x (a.a + a.b - c.loop-x.x) (omega arith) c.link_at.ensures c.good_link.ensures c.if-not-good_link.false ∙ rw (one_less a.a a.b c.loop-x.x)

pub returns : goal.returns
unfolding good_from
returns c = let a = c.args in let z : a.a + a.b - c.loop-x.x ≡ 0 = omega arith in rw (c.loop-x.invariant, z)
