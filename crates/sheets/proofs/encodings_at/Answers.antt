-- `sheets::encodings_at` meets its contract. The invariant: the encodings that are still due have room from here on, and, judged from here on,
-- end as all of them do; those before are in their slots.
use native.Mathlib.Omega.{arith}
use native.Mathlib.Nat.{sub-zero}
use Prim.Native.Nat.{◌+◌, ◌-◌}
use mathlib.Core.Path.{refl, sym, ◌∙◌}
use lib.ListN.{length-set}
use Rattle.sheets.specs.Steps.{sum_from}
use Rattle.sheets.proofs.Turns.{sum-turn, encodings-refused, encodings-accepted, encodings-end}
use Rattle.sheets.proofs.Indexing.{sum-last, index-turn, part-deep, deep-told}
use Rattle.sheets.proofs.encodings_at.Goals as goal

pub loop-entry-init : goal.loop-entry-init
unfolding sum_from
loop-entry-init c = rw sub-zero (c.requires.2, refl, omega arith, omega arith, λ i h. absurd (omega arith))

pub slice_bounds-read-end : goal.slice_bounds-read-end
slice_bounds-read-end c = let a = c.args in omega (arith, sum-turn a.sheet.now a.count c.loop-entry.entry (omega arith))

pub returns-in_default-clause-is : goal.returns-in_default-clause-is
returns-in_default-clause-is c = let a = c.args in sym (c.loop-entry.invariant.1 ∙ encodings-refused a.sheet.now a.count c.loop-entry.entry (omega arith) c.loop-entry.at c.two_at-size.ensures.is c.read.ensures c.in_default.is)

pub overflow_cast-slots-in-loop-entry : goal.overflow_cast-slots-in-loop-entry
overflow_cast-slots-in-loop-entry c = omega (arith, part-deep c.args.sheet.now c.loop-entry.at (c.loop-entry.at + c.two_at-size.result - c.loop-entry.at) _ (λ i. omega (arith, c.type_inv.sheet i)) c.read.ensures c.in-Ok.is)

pub loop-entry-preserved : goal.loop-entry-preserved
loop-entry-preserved c = let a = c.args in let s = a.sheet.now in let i = c.loop-entry.entry in let z = c.two_at-size.ensures.is in (
  omega (arith, sum-turn s a.count i (omega arith)),
  c.loop-entry.invariant.1 ∙ encodings-accepted s a.count i (omega arith) c.loop-entry.at z c.read.ensures c.in-Ok.is,
  omega (arith, sum-last s i, z),
  simp length-set (omega arith),
  index-turn s c.loop-entry.slots a.from i c.loop-entry.at _ (omega arith) c.loop-entry.invariant.4 c.loop-entry.invariant.2 (deep-told s c.loop-entry.at _ _ _ z c.read.ensures c.in-Ok.is),
)

pub returns-clause-is : goal.returns-clause-is
returns-clause-is c = let a = c.args in sym (c.loop-entry.invariant.1 ∙ encodings-end a.sheet.now a.count c.loop-entry.entry (omega arith) _)
