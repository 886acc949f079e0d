-- `writes::prim_at` meets its contract.
use mathlib.Core.Path.{refl, sym, ◌∙◌}
use Rattle.sheets.specs.Index.{blank_in}
use Rattle.writes.proofs.Peeks.{look-nothing, look-short, look-list, look-symbol, look-cut, look-blank}
use Rattle.writes.proofs.prim_at.Goals as goal
use Rattle.writes.proofs.prim_at.Goals.{then-is_shaped-via-then-is_shaped, then-is_shaped-via-else-is_shaped+then-is_named, then-is_shaped-via-else-is_shaped+else-is_named+then-s-at-lt-LONG_BLANK}

pub returns-in-Unassigned : goal.returns-in-Unassigned
returns-in-Unassigned c = let a = c.args in look-nothing (blank_in a.sheet.now.bytes.now) a.s.now a.at (sym c.first_at.ensures.is ∙ c.in-Unassigned.is)

pub returns-in_err-code-in-Short : goal.returns-in_err-code-in-Short
returns-in_err-code-in-Short c = let a = c.args in look-short (blank_in a.sheet.now.bytes.now) a.s.now a.at _ _ _ (sym c.first_at.ensures.is ∙ c.in-Short.is) c.in_err-code-in-Short.ensures c.from_residual.ensures

pub returns-in_ok-code-in-Short : goal.returns-in_ok-code-in-Short
returns-in_ok-code-in-Short c = let a = c.args in look-short (blank_in a.sheet.now.bytes.now) a.s.now a.at _ _ _ (sym c.first_at.ensures.is ∙ c.in-Short.is) c.in_ok-code-in-Short.ensures refl

pub returns-in_err-code-in-Long : goal.returns-in_err-code-in-Long
returns-in_err-code-in-Long c = let a = c.args in look-blank (blank_in a.sheet.now.bytes.now) a.s.now a.at _ (sym c.first_at.ensures.is ∙ c.in-Long.is)
    (sym c.is_shaped.ensures ∙ c.if-is_shaped.false) (sym c.is_named.ensures ∙ c.if-is_named.false)
    c.if-s-at-lt-LONG_BLANK.false _ _ (rw c.two_at.ensures.is at c.in_err-code-in-Long.ensures) c.from_residual-in_err-code-in-Long.ensures

pub returns-in_ok-code-in-Long : goal.returns-in_ok-code-in-Long
returns-in_ok-code-in-Long c = let a = c.args in look-blank (blank_in a.sheet.now.bytes.now) a.s.now a.at _ (sym c.first_at.ensures.is ∙ c.in-Long.is)
    (sym c.is_shaped.ensures ∙ c.if-is_shaped.false) (sym c.is_named.ensures ∙ c.if-is_named.false)
    c.if-s-at-lt-LONG_BLANK.false _ _ (rw c.two_at.ensures.is at c.in_ok-code-in-Long.ensures) refl

pub returns-then-is_shaped : goal.returns-then-is_shaped
returns-then-is_shaped c = let a = c.args in let f = sym c.first_at.ensures.is ∙ c.in-Long.is in let h = sym c.is_shaped.ensures in
    elim c.then-is_shaped.branch [
      | then-is_shaped-via-then-is_shaped w ↦ look-list (blank_in a.sheet.now.bytes.now) a.s.now a.at _ f (h ∙ w.if-is_shaped.true)
      | then-is_shaped-via-else-is_shaped+then-is_named w ↦ look-symbol (blank_in a.sheet.now.bytes.now) a.s.now a.at _ f (h ∙ w.if-is_shaped.false) (sym w.is_named.ensures ∙ w.if-is_named.true)
      | then-is_shaped-via-else-is_shaped+else-is_named+then-s-at-lt-LONG_BLANK w ↦ look-cut (blank_in a.sheet.now.bytes.now) a.s.now a.at _ f (h ∙ w.if-is_shaped.false) (sym w.is_named.ensures ∙ w.if-is_named.false) w.if-s-at-lt-LONG_BLANK.true
    ]
