-- `tables::section_at` meets its contract.
use Rattle.meaning.proofs.Rules.{tests}
use Rattle.tables.specs.Places.{section_of}
use Rattle.tables.proofs.section_at.Goals as goal
use Rattle.tables.proofs.section_at.Goals.{then-most-count-via-then-most-count, then-most-count-via-else-most-count+then-rest-at}

pub returns-then-rest-at-lt-COUNT_SIZE : goal.returns-then-rest-at-lt-COUNT_SIZE
unfolding section_of
returns-then-rest-at-lt-COUNT_SIZE c = search tests

pub returns : goal.returns
unfolding section_of
returns c = rw (← c.two_at-count.ensures.is) (search tests)

pub returns-then-most-count : goal.returns-then-most-count
unfolding section_of
returns-then-most-count c = rw (← c.two_at-count.ensures.is) (
    elim c.then-most-count.branch [
      | then-most-count-via-then-most-count w ↦ search tests
      | then-most-count-via-else-most-count+then-rest-at w ↦ search tests
    ])
