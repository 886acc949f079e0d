-- `sizes::blank_size` meets its contract.
use Rattle.sizes.proofs.Blanks.{found-size, blank-inside}
use Rattle.sizes.proofs.blank_size.Goals as goal

pub returns-in-None-clause-inside : goal.returns-in-None-clause-inside
returns-in-None-clause-inside c = rw c.stays_size.ensures (blank-inside _)

pub returns-in-Some-clause-is : goal.returns-in-Some-clause-is
returns-in-Some-clause-is c = let p = c.in-Some.part in rw c.prim_in.ensures (found-size _ _ p.start p.end p.depth c.in-Some.ensures)
