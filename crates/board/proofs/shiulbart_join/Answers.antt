-- `board::shiulbart_join` meets its contract: what is said of a joining fits, and is what the call says; the buffer is as the call below left it.
use native.Mathlib.Omega.{arith}
use mathlib.Core.Path.{◌∙◌, ap}
use Rattle.meaning.specs.Answers.{join_answer}
use Rattle.meaning.proofs.Window.{bytes-by-index}
use Rattle.meaning.proofs.Bounds.{join-told, join-small}
use Rattle.answers.specs.Answers.{said_put, written_put}
use Rattle.answers.proofs.Small.{exported-made, made-fits}
use Rattle.board.proofs.shiulbart_join.Goals as goal

pub in_numbers-requires : goal.in_numbers-requires
in_numbers-requires c = let a = c.args in let f = bytes-by-index a.first.now (λ i. omega (arith, c.type_inv.first i)) in
    let s = bytes-by-index a.second.now (λ i. omega (arith, c.type_inv.second i)) in
    rw c.join.ensures.is (made-fits (join_answer _ _ _) (join-small _ _ _ (search (f, s)) (search (f, s))))

pub returns-clause-is : goal.returns-clause-is
returns-clause-is c = let a = c.args in let f = bytes-by-index a.first.now (λ i. omega (arith, c.type_inv.first i)) in
    let s = bytes-by-index a.second.now (λ i. omega (arith, c.type_inv.second i)) in
    c.in_numbers.ensures ∙ ap (said_put written_put) c.join.ensures.is ∙ (exported-made (join_answer _ _ _) (join-told _ _ _ f s)).is

pub returns-clause-buffer : goal.returns-clause-buffer
returns-clause-buffer c = c.join.ensures.buffer
