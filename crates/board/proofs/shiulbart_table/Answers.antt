-- `board::shiulbart_table` meets its contract: what is said of a table fits, and is what the call says; the buffer is as the call below left it.
use native.Mathlib.Omega.{arith}
use mathlib.Core.Path.{◌∙◌, ap}
use Rattle.meaning.specs.Answers.{table_answer}
use Rattle.meaning.proofs.Window.{bytes-by-index}
use Rattle.meaning.proofs.TableAnswers.{table-told, table-small}
use Rattle.answers.specs.Answers.{said_put, written_put}
use Rattle.answers.proofs.Small.{exported-made, made-fits}
use Rattle.board.proofs.shiulbart_table.Goals as goal

pub in_numbers-requires : goal.in_numbers-requires
in_numbers-requires c = rw c.to_table.ensures.is (made-fits (table_answer _ _) (table-small _ _ (bytes-by-index c.args.bytes.now (λ i. omega (arith, c.type_inv.bytes i)))))

pub returns-clause-is : goal.returns-clause-is
returns-clause-is c = c.in_numbers.ensures ∙ ap (said_put written_put) c.to_table.ensures.is ∙ (exported-made (table_answer _ _) (table-told _ _ (bytes-by-index c.args.bytes.now (λ i. omega (arith, c.type_inv.bytes i))))).is

pub returns-clause-buffer : goal.returns-clause-buffer
returns-clause-buffer c = c.to_table.ensures.buffer
