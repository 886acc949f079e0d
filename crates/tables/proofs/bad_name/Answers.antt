-- `tables::bad_name` meets its contract. The invariant: the first broken name is the first of those that are still due.
use native.Mathlib.Omega.{arith}
use native.Mathlib.Nat.{sub-zero}
use mathlib.Core.Path.{◌∙◌, refl}
use borrow.Author.Tests.{eq-eqb, ne_eqb, lt-ltb, le-ltb}
use Rattle.leaves.proofs.Fronts.{well-window}
use Rattle.tables.proofs.Turns.{name-good, name-bad, name-end, name-wide, name-text}
use Rattle.tables.proofs.bad_name.Goals as goal

pub loop-k-init : goal.loop-k-init
loop-k-init c = rw sub-zero

pub returns-then-text-start : goal.returns-then-text-start
returns-then-text-start c = let a = c.args in
    rw (c.loop-k.invariant ∙ name-bad a.rest.now a.links a.names a.text a.names c.loop-k.k (omega arith) c.name_at-name.ensures.is (name-wide a.rest.now a.links a.names a.text _ _ c.if-text-start.true), lt-ltb c.loop-k.k a.names (omega arith)) refl

pub loop-k-preserved : goal.loop-k-preserved
loop-k-preserved c = let a = c.args in
    c.loop-k.invariant ∙ name-good a.rest.now a.links a.names a.text a.names c.loop-k.k (omega arith) c.name_at-name.ensures.is (name-text a.rest.now a.links a.names a.text _ _ c.text_from-from.ensures (omega arith) (omega arith) (well-window a.rest.now _ _ _ (omega arith) c.well_formed_to.ensures) ∙ eq-eqb _ _ c.if-well_formed_to-first.false)

pub returns-then-well_formed_to-first : goal.returns-then-well_formed_to-first
returns-then-well_formed_to-first c = let a = c.args in
    rw (c.loop-k.invariant ∙ name-bad a.rest.now a.links a.names a.text a.names c.loop-k.k (omega arith) c.name_at-name.ensures.is (name-text a.rest.now a.links a.names a.text _ _ c.text_from-from.ensures (omega arith) (omega arith) (well-window a.rest.now _ _ _ (omega arith) c.well_formed_to.ensures) ∙ ne_eqb _ _ c.if-well_formed_to-first.true), lt-ltb c.loop-k.k a.names (omega arith)) refl

pub returns : goal.returns
returns c = let a = c.args in
    rw (c.loop-k.invariant ∙ name-end a.rest.now a.links a.names a.text a.names c.loop-k.k (omega arith), le-ltb c.loop-k.k a.names (omega arith)) refl
