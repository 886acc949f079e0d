-- `tables::link_at` meets its contract.
use Rattle.tables.proofs.link_at.Goals as goal

pub returns : goal.returns
returns c = rw (c.two_at.ensures.is, c.two_at-2.ensures.is)
