-- `sheets::second_at` meets its contract.
use borrow.Author.Tests.{le-ltb}
use native.Mathlib.Omega.{arith}
use Rattle.meaning.specs.Limits.{max_encodings}
use Rattle.meaning.proofs.Rules.{tests}
use Rattle.sheets.specs.Steps.{second_at}
use Rattle.sheets.proofs.second_at.Goals as goal
use Rattle.sheets.proofs.second_at.Goals.{then-bytes-gt-MAX_ENCODINGS-via-then-bytes-gt-MAX_ENCODINGS, then-bytes-gt-MAX_ENCODINGS-via-else-bytes-gt-MAX_ENCODINGS+then-bytes-sum, then-bytes-gt-MAX_ENCODINGS-via-else-bytes-gt-MAX_ENCODINGS+else-bytes-sum+then-left-bytes}

pub returns-then-sheet-place-lt-COUNT_SIZE-clause-is : goal.returns-then-sheet-place-lt-COUNT_SIZE-clause-is
unfolding second_at
returns-then-sheet-place-lt-COUNT_SIZE-clause-is c = search tests

pub returns-then-bytes-gt-MAX_ENCODINGS-clause-is : goal.returns-then-bytes-gt-MAX_ENCODINGS-clause-is
unfolding second_at
returns-then-bytes-gt-MAX_ENCODINGS-clause-is c =
    rw (← c.two_at-bytes.ensures.is)
    (elim c.then-bytes-gt-MAX_ENCODINGS.branch [
      | then-bytes-gt-MAX_ENCODINGS-via-then-bytes-gt-MAX_ENCODINGS w ↦ search tests
      | then-bytes-gt-MAX_ENCODINGS-via-else-bytes-gt-MAX_ENCODINGS+then-bytes-sum w ↦ rw (le-ltb max_encodings c.two_at-bytes.result (omega arith)) (search tests)
      | then-bytes-gt-MAX_ENCODINGS-via-else-bytes-gt-MAX_ENCODINGS+else-bytes-sum+then-left-bytes w ↦ rw (le-ltb max_encodings c.two_at-bytes.result (omega arith)) (search tests)
    ])

pub returns-then-bytes-left-clause-is : goal.returns-then-bytes-left-clause-is
unfolding second_at
returns-then-bytes-left-clause-is c = let t = c.two_at-bytes in rw (← t.ensures.is, le-ltb max_encodings t.result (omega arith)) (search tests)

pub returns-clause-is : goal.returns-clause-is
unfolding second_at
returns-clause-is c = let e = c.encodings_at in let t = c.two_at-bytes in rw (← t.ensures.is, le-ltb max_encodings t.result (omega arith)) (simp e.ensures.is (search tests))
