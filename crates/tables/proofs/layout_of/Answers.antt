-- `tables::layout_of` meets its contract.
use native.Mathlib.Omega.{arith}
use mathlib.Core.Path.{sym, ◌∙◌}
use Rattle.meaning.proofs.Rules.{tests}
use Rattle.tables.specs.Places.{layout_at}
use Rattle.tables.proofs.Turns.{section-ended}
use Rattle.tables.proofs.layout_of.Goals as goal

pub returns-in_default : goal.returns-in_default
unfolding layout_at
returns-in_default c = rw (← c.section_at.ensures, c.in_default.is)

pub section_at-requires-2 : goal.section_at-requires-2
section_at-requires-2 c = let e = section-ended c.args.rest.now _ _ _ _ _ (sym c.section_at.ensures ∙ c.in-Some.is) in
    (e.inside, omega arith)

pub returns-in_default-section_at : goal.returns-in_default-section_at
unfolding layout_at
returns-in_default-section_at c = rw (← c.section_at.ensures, c.in-Some.is, ← c.section_at-2.ensures, c.in_default-section_at.is)

pub section_at-requires-3 : goal.section_at-requires-3
section_at-requires-3 c = let e = section-ended c.args.rest.now _ _ _ _ _ (sym c.section_at-2.ensures ∙ c.in-Some-section_at.is) in
    (e.inside, omega arith)

pub returns-in_default-section_at-2 : goal.returns-in_default-section_at-2
unfolding layout_at
returns-in_default-section_at-2 c = rw (← c.section_at.ensures, c.in-Some.is, ← c.section_at-2.ensures, c.in-Some-section_at.is, ← c.section_at-3.ensures, c.in_default-section_at-2.is)

pub returns-then-text-rest : goal.returns-then-text-rest
unfolding layout_at
returns-then-text-rest c = rw (← c.section_at.ensures, c.in-Some.is, ← c.section_at-2.ensures, c.in-Some-section_at.is, ← c.section_at-3.ensures, c.in-Some-section_at-2.is) (search tests)

pub returns : goal.returns
unfolding layout_at
returns c = rw (← c.section_at.ensures, c.in-Some.is, ← c.section_at-2.ensures, c.in-Some-section_at.is, ← c.section_at-3.ensures, c.in-Some-section_at-2.is) (search tests)
