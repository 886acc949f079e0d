-- `sizes::plain_size` meets its contract.
use mathlib.Core.Path.{sym, ◌∙◌}
use lib.Seq.{length-slice}
use Rattle.sheets.specs.Index.{blank_in}
use Rattle.sizes.specs.Sizes.{sizes}
use Rattle.steps.proofs.Passing.{shape-symbol, blank_cut, shape-blank}
use Rattle.sizes.proofs.plain_size.Goals as goal

pub returns-then-is_named-clause-is : goal.returns-then-is_named-clause-is
returns-then-is_named-clause-is c = let a = c.args in let p = c.past_long-next.ensures in sym (shape-symbol (sizes (blank_in a.sheet.now.bytes.now)) a.left a.s.now a.at c.requires.1 c.requires.2 (sym c.is_named.ensures ∙ c.if-is_named.true)
    ∙ rw (← p.is, length-slice a.at c.past_long-next.result a.s.now p.inside))

pub returns-then-s-at-lt-LONG_BLANK-clause-is : goal.returns-then-s-at-lt-LONG_BLANK-clause-is
returns-then-s-at-lt-LONG_BLANK-clause-is c = let a = c.args in c.nothing.ensures
    ∙ sym (blank_cut (sizes (blank_in a.sheet.now.bytes.now)) a.left a.s.now a.at c.requires.1 c.requires.2 (sym c.is_named.ensures ∙ c.if-is_named.false) c.if-s-at-lt-LONG_BLANK.true)

pub returns-clause-is : goal.returns-clause-is
returns-clause-is c = let a = c.args in sym (shape-blank (sizes (blank_in a.sheet.now.bytes.now)) a.left a.s.now a.at c.requires.1 c.requires.2 (sym c.is_named.ensures ∙ c.if-is_named.false) c.if-s-at-lt-LONG_BLANK.false
    ∙ rw (← c.two_at.ensures.is, ← c.blank_size.ensures.is))
