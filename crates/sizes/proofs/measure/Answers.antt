-- `sizes::measure` meets its contract: the pass over the template makes what is said of it.
use mathlib.Core.Path.{sym, ap, ◌∙◌}
use native.Mathlib.Omega.{arith}
use Rattle.meaning.specs.Limits.{max_levels}
use Rattle.steps.specs.Pass.{Came}
use Rattle.sheets.specs.Index.{blank_in}
use Rattle.sizes.specs.declared.Size.{Size}
use Rattle.sizes.specs.Sizes.{sizes}
use Rattle.steps.proofs.Passing.{shape-none, shape-short}
use Rattle.sizes.proofs.Making.{measured}
use Rattle.sizes.proofs.measure.Goals as goal

pub returns-in-Unassigned : goal.returns-in-Unassigned
returns-in-Unassigned c = let a = c.args in measured (blank_in a.sheet.now.bytes.now) a.template.now (λ i. omega (arith, c.type_inv.template i)) c.nothing.result.size
    (ap (λ (r : Came Size). r.made)
    (shape-none (sizes (blank_in a.sheet.now.bytes.now)) max_levels a.template.now 0 (sym c.first_at.ensures.is ∙ c.in-Unassigned.is) ∙ sym c.nothing.ensures))

pub returns-in-Short : goal.returns-in-Short
returns-in-Short c = let a = c.args in measured (blank_in a.sheet.now.bytes.now) a.template.now (λ i. omega (arith, c.type_inv.template i)) c.short_size.result
    (ap (λ (r : Came Size). r.made) (shape-short (sizes (blank_in a.sheet.now.bytes.now)) max_levels a.template.now 0 (sym c.first_at.ensures.is ∙ c.in-Short.is))
    ∙ sym c.short_size.ensures.is)

pub returns-in-Long : goal.returns-in-Long
returns-in-Long c = let a = c.args in measured (blank_in a.sheet.now.bytes.now) a.template.now (λ i. omega (arith, c.type_inv.template i)) c.shape_size.result.size
    (ap (λ (r : Came Size). r.made) (sym c.shape_size.ensures.is))
