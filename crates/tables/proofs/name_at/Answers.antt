-- `tables::name_at` meets its contract.
use Rattle.tables.proofs.name_at.Goals as goal

pub returns-clause-is : goal.returns-clause-is
returns-clause-is c = rw (c.two_at.ensures.is, c.two_at-2.ensures.is)
