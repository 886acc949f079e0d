-- `tables::good_links` meets its contract.
use borrow.Author.Tests.{le-ltb, lt-ltb, lt-leb}
use Rattle.tables.specs.Places.{good_span}
use Rattle.tables.proofs.good_links.Goals as goal

pub returns-then-a-b : goal.returns-then-a-b
unfolding good_span
returns-then-a-b c = rw (le-ltb _ _ c.if-a-b.true) c.good_run.ensures

pub returns-else-a-b : goal.returns-else-a-b
unfolding good_span
returns-else-a-b c = rw (lt-ltb _ _ c.if-a-b.false, lt-leb _ _ c.if-a-b.false)
