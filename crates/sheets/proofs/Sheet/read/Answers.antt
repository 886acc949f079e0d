-- `Sheet::read` meets its contract: what is broken is refused as the fault that was asked for.
use mathlib.Core.Path.{refl}
use Rattle.leaves.specs.Faults.{number_of}
use Rattle.sheets.proofs.Whole.{broken-is}
use Rattle.sheets.proofs.Sheet.read.Goals as goal

pub returns-in-Err : goal.returns-in-Err
returns-in-Err c = (refl, broken-is (number_of c.args.fault) c.args.bytes.now c.in-Err.broken.place c.in-Err.ensures.is)
