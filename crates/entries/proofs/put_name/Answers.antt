-- `entries::put_name` meets its contract.
use mathlib.Core.Path.{sym, ◌∙◌}
use Rattle.entries.proofs.Wrote.{wrote_none}
use Rattle.entries.proofs.Entries.{pair-wrote}
use Rattle.entries.proofs.put_name.Goals as goal

pub returns-then-is_named : goal.returns-then-is_named
returns-then-is_named c = let e = sym c.is_named.ensures ∙ c.if-is_named.true in
    rw e (pair-wrote _ _ _ _ _ _ (rw e at c.requires.2) c.put_two.ensures c.put_two-then-is_named.ensures)

pub returns-else-is_named : goal.returns-else-is_named
returns-else-is_named c = rw (sym c.is_named.ensures ∙ c.if-is_named.false) (wrote_none _ _)
