-- `writer::write` meets its contract: the nodes' section is looked at first, and the rest is handed on in two parts.
use native.Mathlib.Omega.{arith}
use mathlib.Core.Path.{refl}
use lib.ListN.{length}
use Rattle.meaning.specs.Answers.{buffer_after}
use Rattle.tables.proofs.Whole.{table-short, table_none, table-many, table-past, table-split}
use Rattle.writer.proofs.Answering.{write-refused}
use Rattle.writer.proofs.write.Goals as goal
use Rattle.writer.proofs.write.Goals.{then-count-lt1-via-then-count-lt1, then-count-lt1-via-else-count-lt1+then-count-gt-MAX_NODES, then-count-lt1-via-else-count-lt1+else-count-gt-MAX_NODES+then-table-count}

pub returns-then-table-lt-COUNT_SIZE : goal.returns-then-table-lt-COUNT_SIZE
unfolding buffer_after
returns-then-table-lt-COUNT_SIZE c = let a = c.args in rw (write-refused a.table.now (length a.out.now) (table-short a.table.now c.if-table-lt-COUNT_SIZE.true)) record { is = refl; buffer = refl }

pub returns-then-count-lt1 : goal.returns-then-count-lt1
unfolding buffer_after
returns-then-count-lt1 c = let t = c.args.table.now in let n = c.two_at-count.ensures.is in
    rw (write-refused t (length c.args.out.now) (elim c.then-count-lt1.branch [
      | then-count-lt1-via-then-count-lt1 w ↦ table_none t (omega (arith, n, w.if-count-lt1.true))
      | then-count-lt1-via-else-count-lt1+then-count-gt-MAX_NODES w ↦ table-many t (omega (arith, n, w.if-count-gt-MAX_NODES.true))
      | then-count-lt1-via-else-count-lt1+else-count-gt-MAX_NODES+then-table-count w ↦ table-past t (omega (arith, n, w.if-table-count.true))
    ])) record { is = refl; buffer = refl }

pub returns : goal.returns
returns c = let a = c.args in let e = table-split a.table.now c.two_at-count.result (λ i. omega (arith, c.type_inv.table i)) c.two_at-count.ensures.is (omega arith) in
    rw e at c.write_parts.ensures
