-- `sheets::entries_of` meets its contract. The invariant: the entries that are still due, read on from here, end as all of them do.
use borrow.Author.Tests.{le-ltb}
use native.Mathlib.Omega.{arith}
use mathlib.Core.Path.{sym, ◌∙◌}
use Rattle.meaning.specs.Limits.{max_bytes}
use Rattle.meaning.proofs.Rules.{tests}
use Rattle.sheets.proofs.Turns.{entries-turn, entries-end}
use Rattle.sheets.proofs.entries_of.Goals as goal
use Rattle.sheets.proofs.entries_of.Goals.{then-blank-least-via-then-blank-least, then-blank-least-via-else-blank-least+then-size-eq0, then-blank-least-via-else-blank-least+else-size-eq0+then-size-gt-MAX_BYTES}

pub returns-then-blank-least : goal.returns-then-blank-least
returns-then-blank-least c = let a = c.args in
    rw (c.loop-i.invariant.1, entries-turn a.sheet.now a.count c.loop-i.i (omega arith), ← c.two_at-blank.ensures.is, ← c.two_at-size.ensures.is)
    (elim c.then-blank-least.branch [
      | then-blank-least-via-then-blank-least w ↦ search tests
      | then-blank-least-via-else-blank-least+then-size-eq0 w ↦ search tests
      | then-blank-least-via-else-blank-least+else-size-eq0+then-size-gt-MAX_BYTES w ↦ search tests
    ])

pub loop-i-preserved : goal.loop-i-preserved
loop-i-preserved c = let a = c.args in (
  omega arith,
  rw (c.loop-i.invariant.1, entries-turn a.sheet.now a.count c.loop-i.i (omega arith), ← c.two_at-blank.ensures.is, ← c.two_at-size.ensures.is, le-ltb max_bytes c.two_at-size.result (omega arith)) (search tests),
)

pub returns : goal.returns
returns c = let a = c.args in sym (c.loop-i.invariant.1 ∙ entries-end a.sheet.now a.count c.loop-i.i (omega arith) _ _)
