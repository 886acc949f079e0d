-- `way_back::to_table` meets its contract: the encoding is read first, then its entries are counted, then there is room or not.
use native.Mathlib.Omega.{arith}
use native.Mathlib.Nat.{zero-add}
use mathlib.Core.Path.{sym, ap, ◌∙◌}
use lib.ListN.{length}
use Rattle.std.specs.Prelude.{Ok}
use Rattle.std.proofs.lemmas.Result.{err_from_is_err_and}
use Rattle.meaning.specs.Answers.{buffer_after}
use Rattle.buffers.proofs.Written.{buffer-made}
use Rattle.way_back.proofs.Cases.{Found, found, found-few, found-short, unread-said, unread-buffer, answer-short, sections-fit, answer-made}
use Rattle.way_back.proofs.to_table.Goals as goal
use Rattle.way_back.proofs.to_table.Goals.{In_ok-read}

-- What the reader accepts is the encoding of a shape.
encoded : (c : In_ok-read) → Found c.args.bytes.now
encoded c = found c.args.bytes.now (λ i. omega (arith, c.type_inv.bytes i)) _ (sym c.read.ensures ∙ c.in_ok-read.was)

pub returns-in_err-read-clause-is : goal.returns-in_err-read-clause-is
returns-in_err-read-clause-is c = let p = err_from_is_err_and c.from_residual.result c.from_residual.ensures.1 in
    rw (p.1, p.2) (unread-said _ _ _ (sym c.read.ensures ∙ c.in_err-read.was))

pub returns-in_err-read-clause-buffer : goal.returns-in_err-read-clause-buffer
returns-in_err-read-clause-buffer c = unread-buffer _ _ _ _ (sym c.read.ensures ∙ c.in_err-read.was)

pub count_at-requires : goal.count_at-requires
count_at-requires c = let f = encoded (goal.at.count_at-requires c).In_ok-read in
    (omega arith, found-short _ f, omega arith, found-few _ f)

pub table_size-needed-requires : goal.table_size-needed-requires
table_size-needed-requires c = rw c.count_at.ensures.counts_is (found-few _ (encoded (goal.at.table_size-needed-requires c).In_ok-read))

pub returns-then-out-needed-clause-is : goal.returns-then-out-needed-clause-is
returns-then-out-needed-clause-is c = let f = encoded (goal.at.returns-then-out-needed-clause-is c).In_ok-read in
    rw (answer-short _ f c.count_at.result.counts c.count_at.ensures.counts_is (length c.args.out.now) (omega (arith, c.table_size-needed.ensures, c.if-out-needed.true)), c.table_size-needed.ensures)

pub returns-then-out-needed-clause-buffer : goal.returns-then-out-needed-clause-buffer
unfolding buffer_after
returns-then-out-needed-clause-buffer c = let f = encoded (goal.at.returns-then-out-needed-clause-buffer c).In_ok-read in
    rw (answer-short _ f c.count_at.result.counts c.count_at.ensures.counts_is (length c.args.out.now) (omega (arith, c.table_size-needed.ensures, c.if-out-needed.true)))

pub put_table-requires : goal.put_table-requires
put_table-requires c = let f = encoded (goal.at.put_table-requires c).In_ok-read in
    let h = sections-fit _ f c.count_at.result.counts c.count_at.ensures.counts_is (length c.args.out.now) (omega (arith, c.table_size-needed.ensures, c.if-out-needed.false)) in
    (found-short _ f, c.count_at.ensures.counts_is, rw c.count_at.ensures.counts_is (found-few _ f), omega (arith, h))

pub returns-clause-is : goal.returns-clause-is
returns-clause-is c = let f = encoded (goal.at.returns-clause-is c).In_ok-read in
    rw (answer-made _ f c.count_at.result.counts c.count_at.ensures.counts_is (length c.args.out.now) (omega (arith, c.table_size-needed.ensures, c.if-out-needed.false)))
    (ap Ok (c.put_table.ensures.after ∙ zero-add _))

pub returns-clause-buffer : goal.returns-clause-buffer
returns-clause-buffer c = let f = encoded (goal.at.returns-clause-buffer c).In_ok-read in
    rw (answer-made _ f c.count_at.result.counts c.count_at.ensures.counts_is (length c.args.out.now) (omega (arith, c.table_size-needed.ensures, c.if-out-needed.false)))
    (c.put_table.ensures.wrote ∙ buffer-made _ _)
