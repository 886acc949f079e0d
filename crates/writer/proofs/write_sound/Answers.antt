-- `writer::write_sound` meets its contract.
use native.Mathlib.Omega.{arith}
use mathlib.Core.Path.{refl, ◌∙◌}
use lib.ListN.{length}
use Rattle.std.proofs.lemmas.Result.{err_from_is_err_and}
use Rattle.leaves.proofs.Faults.{fault-number}
use Rattle.meaning.specs.Answers.{buffer_after}
use Rattle.buffers.proofs.Written.{buffer-made}
use Rattle.writer.proofs.Answering.{root-encoded, root-found, found-comes}
use Rattle.writer.proofs.write_sound.Goals as goal

pub returns-in_err-length-clause-is : goal.returns-in_err-length-clause-is
returns-in_err-length-clause-is c = let p = err_from_is_err_and c.from_residual.result c.from_residual.ensures.1 in
    rw (p.1, p.2, found-comes (root-found c.args.table.now _ _ c.extents_of.ensures) (length c.args.out.now) c.in_err-length.ensures) (rw fault-number refl)

pub returns-in_err-length-clause-buffer : goal.returns-in_err-length-clause-buffer
unfolding buffer_after
returns-in_err-length-clause-buffer c = rw (found-comes (root-found c.args.table.now _ _ c.extents_of.ensures) (length c.args.out.now) c.in_err-length.ensures)

pub put_node-requires : goal.put_node-requires
put_node-requires c = let v = found-comes (root-found c.args.table.now _ _ c.extents_of.ensures) (length c.args.out.now) c.in_ok-length.ensures in
    (omega (arith, c.args.table.now.sound.some), rw (root-encoded c.args.table.now) (omega (arith, v.1, v.2), omega (arith, v.1, v.3)))

pub returns-clause-is : goal.returns-clause-is
returns-clause-is c = let v = found-comes (root-found c.args.table.now _ _ c.extents_of.ensures) (length c.args.out.now) c.in_ok-length.ensures in
    rw (v.0, v.1)

pub returns-clause-buffer : goal.returns-clause-buffer
returns-clause-buffer c = let v = found-comes (root-found c.args.table.now _ _ c.extents_of.ensures) (length c.args.out.now) c.in_ok-length.ensures in
    let w = rw (root-encoded c.args.table.now) at c.put_node.ensures in
    rw v.0 (w.wrote ∙ buffer-made _ _)
