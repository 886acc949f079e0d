-- `writes::blank_prim` meets its contract.
use Rattle.writes.proofs.Peeks.{prim-blank}
use Rattle.writes.proofs.blank_prim.Goals as goal

pub returns-in_err-part : goal.returns-in_err-part
returns-in_err-part c = rw (c.from_residual.ensures, prim-blank _ _ c.in_err-part.ensures)
