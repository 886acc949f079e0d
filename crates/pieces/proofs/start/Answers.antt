-- `pieces::start` meets its contract.
use mathlib.Core.Path.{refl}
use Rattle.byte_steps.specs.Automaton.{start, fed}
use Rattle.states.specs.Kept.{kinds_of, laid_out, word_of}
use Rattle.pieces.proofs.start.Goals as goal

pub returns : goal.returns
unfolding start fed laid_out word_of kinds_of
returns c = refl
