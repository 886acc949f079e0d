-- `board::shiulbart_write` meets its contract: what is said of what is written fits, and is what the call says; the buffer is as the call below left it.
use mathlib.Core.Path.{◌∙◌, ap}
use Rattle.meaning.specs.Answers.{write_answer}
use Rattle.meaning.proofs.TableAnswers.{write-told, write-small}
use Rattle.answers.specs.Answers.{said_put, written_put}
use Rattle.answers.proofs.Small.{exported-made, made-fits}
use Rattle.board.proofs.shiulbart_write.Goals as goal

pub in_numbers-requires : goal.in_numbers-requires
in_numbers-requires c = rw c.write.ensures.is (made-fits (write_answer _ _) (write-small _ _))

pub returns-clause-is : goal.returns-clause-is
returns-clause-is c = c.in_numbers.ensures ∙ ap (said_put written_put) c.write.ensures.is ∙ (exported-made (write_answer _ _) (write-told _ _)).is

pub returns-clause-buffer : goal.returns-clause-buffer
returns-clause-buffer c = c.write.ensures.buffer
