-- What `check_shape::judged` judges means what all that the input had means.
use Rattle.std.proofs.Common.{rules}
use Rattle.check_shape.proofs.Whole.{judged-whole}
use Rattle.check_shape.proofs.judged.Goals as goal

pub returns : goal.returns
returns g c =
    let e = c.in_ok-n.ensures in
    judged-whole _ _ c.read_full.new.buffer c.in_ok-n.n _ c.read.ensures e.within (search rules) e.came e.end
