-- `extents::Extents::sum_run` meets its contract.
use native.Mathlib.Omega.{arith}
use mathlib.Core.Path.{◌≡◌, refl, sym, ◌∙◌}
use Prim.Native.Nat.{suc, ◌+◌, ◌-◌}
use Rattle.extents.specs.Extents.{held_in, sum_run}
use Rattle.extents.proofs.Sound.{first_good, others-good}
use Rattle.extents.proofs.Sums.{run-turn}
use Rattle.extents.proofs.Extents.sum_run.Goals as goal

pub loop-x-init : goal.loop-x-init
loop-x-init c = λ due e. let z : due ≡ c.args.b = omega arith in rw z (c.requires.1, refl)

pub with_link-sum-requires : goal.with_link-sum-requires
with_link-sum-requires c = let a = c.args in let s = a.self.now in let x = c.loop-x.x in
    (rw c.link_at.ensures (first_good s.rest.now a.way a.i s.names x (suc (a.a + a.b - (x + 1))) (omega arith) (c.loop-x.invariant (suc (a.a + a.b - (x + 1))) (omega arith)).0), c.requires.2)

pub loop-x-preserved : goal.loop-x-preserved
loop-x-preserved c = λ due e. let a = c.args in let s = a.self.now in let h = c.loop-x.invariant (suc due) (omega arith) in
    let z : suc due - 1 ≡ due = omega arith in
    (rw z at (others-good s.rest.now a.way a.i s.names c.loop-x.x (suc due) (omega arith) h.0), rw c.with_link-sum.ensures (h.1 ∙ run-turn (held_in s.lengths.now s.depths.now) s.rest.now s.links a.way c.loop-x.x due c.loop-x.sum c.link_at.ensures))

pub returns : goal.returns
unfolding sum_run
returns c = sym (c.loop-x.invariant 0 (omega arith)).1
