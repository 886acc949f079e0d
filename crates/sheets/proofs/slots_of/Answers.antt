-- `sheets::slots_of` meets its contract: the steps' answer is what reading a sheet means, and an accepted sheet is ready.
use borrow.Author.Rules.{rules}
use borrow.Author.Tests.{le-ltb}
use native.Mathlib.Omega.{arith}
use mathlib.Core.Path.{sym}
use Rattle.std.proofs.lemmas.Result.{err_from_is_err_and}
use Rattle.meaning.proofs.Rules.{tests}
use Rattle.meaning.specs.Limits.{max_entries}
use Rattle.sheets.specs.Steps.{sheet_at}
use Rattle.sheets.proofs.Turns.{rising-sum}
use Rattle.sheets.proofs.Places.{ready-made}
use Rattle.sheets.proofs.slots_of.Goals as goal
use Rattle.sheets.proofs.slots_of.Goals.{then-count-gt-MAX_ENTRIES-via-then-count-gt-MAX_ENTRIES, then-count-gt-MAX_ENTRIES-via-else-count-gt-MAX_ENTRIES+then-sheet-count}

pub returns-then-sheet-lt-COUNT_SIZE-clause-is : goal.returns-then-sheet-lt-COUNT_SIZE-clause-is
unfolding sheet_at
returns-then-sheet-lt-COUNT_SIZE-clause-is c = search tests

pub returns-then-count-gt-MAX_ENTRIES-clause-is : goal.returns-then-count-gt-MAX_ENTRIES-clause-is
unfolding sheet_at
returns-then-count-gt-MAX_ENTRIES-clause-is c =
    rw (← c.two_at-count.ensures.is)
    (elim c.then-count-gt-MAX_ENTRIES.branch [
      | then-count-gt-MAX_ENTRIES-via-then-count-gt-MAX_ENTRIES w ↦ search tests
      | then-count-gt-MAX_ENTRIES-via-else-count-gt-MAX_ENTRIES+then-sheet-count w ↦ rw (le-ltb max_entries c.two_at-count.result (omega arith)) (search tests)
    ])

pub second_at-requires : goal.second_at-requires
second_at-requires c = (search rules, search rules, omega arith, omega (arith, rising-sum c.args.sheet.now c.two_at-count.result 0 0 0 c.in_ok-sum.sum (sym c.in_ok-sum.ensures)))

pub returns-in_err-sum-clause-is : goal.returns-in_err-sum-clause-is
unfolding sheet_at
returns-in_err-sum-clause-is c = let p = err_from_is_err_and c.from_residual.result c.from_residual.ensures.1 in
    rw (p.1, p.2, ← c.two_at-count.ensures.is, le-ltb max_entries c.two_at-count.result (omega arith), ← c.in_err-sum.ensures) (search tests)

pub returns-clause-is : goal.returns-clause-is
unfolding sheet_at
returns-clause-is c = rw (← c.two_at-count.ensures.is, le-ltb max_entries c.two_at-count.result (omega arith), ← c.in_ok-sum.ensures) (simp c.second_at.ensures.is (search tests))

pub returns-clause-ready : goal.returns-clause-ready
returns-clause-ready c = ready-made c.args.sheet.now c.second_at.new.slots c.second_at.result (λ i. omega (arith, c.type_inv.sheet i)) (returns-clause-is c) (rw c.two_at-count.ensures.is at c.second_at.ensures.found)
