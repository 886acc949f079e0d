-- `writes::write` meets its contract: by the first byte, as the pass over a shape goes.
use native.Mathlib.Omega.{arith}
use native.Mathlib.Nat.{add-zero}
use mathlib.Core.Path.{refl, sym, ◌∙◌}
use Rattle.meaning.specs.Limits.{max_levels}
use Rattle.buffers.proofs.Written.{written_none}
use Rattle.steps.proofs.Passing.{shape-none, shape-short}
use Rattle.sheets.specs.Index.{blank_in}
use Rattle.writes.specs.Writes.{writes}
use Rattle.writes.proofs.Whole.{whole_room, whole-wrote}
use Rattle.writes.proofs.write.Goals as goal

pub put_short-requires : goal.put_short-requires
put_short-requires c = let a = c.args in let z = shape-short (writes (blank_in a.sheet.now.bytes.now)) max_levels a.template.now 0 (sym c.first_at.ensures.is ∙ c.in-Short.is) in
    let h = rw z at (whole_room _ _ (λ i. omega (arith, c.type_inv.template i)) _ _ c.requires) in h.0

pub put_shape-requires : goal.put_shape-requires
put_shape-requires c = let h = rw c.in-Long.is at c.first_at.ensures.inside in
    (h, omega arith, sym c.first_at.ensures.is ∙ c.in-Long.is, whole_room _ _ (λ i. omega (arith, c.type_inv.template i)) _ _ c.requires)

pub returns-in-Unassigned : goal.returns-in-Unassigned
returns-in-Unassigned c = let a = c.args in let z = shape-none (writes (blank_in a.sheet.now.bytes.now)) max_levels a.template.now 0 (sym c.first_at.ensures.is ∙ c.in-Unassigned.is) in
    whole-wrote _ _ (λ i. omega (arith, c.type_inv.template i)) _ _ _ (record { next = 0; to = a.to }) (rw z (record { next_is = refl; to_is = sym (add-zero _); wrote = sym (written_none _ _) }))

pub returns-in-Short : goal.returns-in-Short
returns-in-Short c = let a = c.args in let z = shape-short (writes (blank_in a.sheet.now.bytes.now)) max_levels a.template.now 0 (sym c.first_at.ensures.is ∙ c.in-Short.is) in
    whole-wrote _ _ (λ i. omega (arith, c.type_inv.template i)) _ _ _ (record { next = 1; to = c.put_short.result }) (rw z (record { next_is = refl; to_is = c.put_short.ensures.after; wrote = c.put_short.ensures.wrote }))

pub returns-in-Long : goal.returns-in-Long
returns-in-Long c = whole-wrote _ _ (λ i. omega (arith, c.type_inv.template i)) _ _ _ _ c.put_shape.ensures
