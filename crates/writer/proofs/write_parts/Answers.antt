-- `writer::write_parts` meets its contract: a table that is refused is answered so, and of one that is read, what it means.
use mathlib.Core.Path.{refl}
use lib.ListN.{length}
use Rattle.std.proofs.lemmas.Result.{err_from_is_err_and}
use Rattle.leaves.proofs.Faults.{fault-number}
use Rattle.meaning.specs.Answers.{buffer_after}
use Rattle.tables.specs.Places.{whole}
use Rattle.writer.proofs.Answering.{write-refused, write-made}
use Rattle.writer.proofs.write_parts.Goals as goal

pub returns-in_err-table-clause-is : goal.returns-in_err-table-clause-is
returns-in_err-table-clause-is c = let p = err_from_is_err_and c.from_residual.result c.from_residual.ensures.1 in let a = c.args in
    rw (p.1, p.2, write-refused (whole a.count a.nodes.now a.rest.now) (length a.out.now) c.in_err-table.ensures) (rw fault-number refl)

pub returns-in_err-table-clause-buffer : goal.returns-in_err-table-clause-buffer
unfolding buffer_after
returns-in_err-table-clause-buffer c = let a = c.args in rw (write-refused (whole a.count a.nodes.now a.rest.now) (length a.out.now) c.in_err-table.ensures)

pub returns : goal.returns
returns c = let a = c.args in let h = c.in_ok-table.ensures in
    rw (write-made (whole a.count a.nodes.now a.rest.now) (length a.out.now) h.3) (rw (h.0, h.1, h.2) at c.write_sound.ensures)
