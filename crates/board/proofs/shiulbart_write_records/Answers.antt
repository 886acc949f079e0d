-- `board::shiulbart_write_records` meets its contract: what the writer of records says fits in 32 bits a number, and is what the call says; the buffer
-- is as the call below left it.
use Rattle.std.proofs.Common.{◌∙◌, ap, List, ℕ, length}
use Rattle.std.specs.Prelude.{Result}
use mathlib.Core.Path.{ap₂}
use Rattle.leaves.specs.declared.refusals.Refusal.{Refusal}
use Rattle.editor.specs.Records.{records_outcome}
use Rattle.answers.specs.Answers.{said_put, written_put}
use Rattle.answers.specs.declared.Answer.{Answer}
use Rattle.answers.proofs.Small.{exported-made, made-fits}
use Rattle.board.proofs.Small.{records-told, records-small}
use Rattle.board.proofs.shiulbart_write_records.Goals as goal

pub in_numbers-requires : goal.in_numbers-requires
unfolding records_outcome
in_numbers-requires c =
    let a = c.args in
    let said = ap (λ (p : Result ℕ Refusal × List ℕ). p.0) c.write_records.ensures in
    rw said (made-fits _ (records-small a.nodes.now a.rest.now (length a.out.now)))

pub returns : goal.returns
unfolding records_outcome
returns c =
    let a = c.args in let e = c.write_records.ensures in
    let said = ap (λ (p : Result ℕ Refusal × List ℕ). p.0) e in
    let left = ap (λ (p : Result ℕ Refusal × List ℕ). p.1) e in
    let fit = exported-made _ (records-told a.nodes.now a.rest.now (length a.out.now)) in
    ap₂ (λ (r : Answer) (w : List ℕ). (r, w)) (c.in_numbers.ensures ∙ ap (said_put written_put) said ∙ fit.is) left
