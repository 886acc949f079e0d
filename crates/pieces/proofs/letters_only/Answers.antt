-- `pieces::letters_only` meets its contract.
use native.Mathlib.Omega.{arith}
use Rattle.leaves.proofs.Way.{end-here}
use Rattle.pieces.proofs.letters_only.Goals as goal

pub returns-then-block_at : goal.returns-then-block_at
returns-then-block_at c = let well = end-here (c.block_at.ensures c.if-block_at.true) (omega arith) in
    (omega arith, record { text = omega arith; between = omega arith; going = omega arith; all = omega arith; more = omega arith; few = omega arith; well = omega (arith, well) })
