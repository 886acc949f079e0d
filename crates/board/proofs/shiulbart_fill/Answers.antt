-- `board::shiulbart_fill` meets its contract: what is said of a fill fits, and is what the call says; the buffer is as the call below left it.
use mathlib.Core.Path.{◌∙◌, ap}
use Rattle.meaning.specs.Answers.{fill_answer}
use Rattle.meaning.proofs.Bounds.{fill-told, fill-small}
use Rattle.answers.specs.Answers.{said_put, written_put}
use Rattle.answers.proofs.Small.{exported-made, made-fits}
use Rattle.board.proofs.shiulbart_fill.Goals as goal

pub in_numbers-requires : goal.in_numbers-requires
in_numbers-requires c = rw c.fill.ensures.is (made-fits (fill_answer _ _ _) (fill-small _ _ _))

pub returns-clause-is : goal.returns-clause-is
returns-clause-is c = c.in_numbers.ensures ∙ ap (said_put written_put) c.fill.ensures.is ∙ (exported-made (fill_answer _ _ _) (fill-told _ _ _)).is

pub returns-clause-buffer : goal.returns-clause-buffer
returns-clause-buffer c = c.fill.ensures.buffer
