-- `editor::write_records` meets its contract: too few records or too many are refused; else their bytes are the front of the section, and the writer
-- says the rest.
use mathlib.Core.Path.{refl}
use native.Mathlib.Omega.{arith}
use lib.ListN.{length}
use borrow.Author.Tests.{lt-ltb, le-ltb}
use Rattle.meaning.specs.Limits.{max_nodes}
use Rattle.meaning.specs.Answers.{buffer_after}
use Rattle.editor.specs.Records.{records_answer, records_outcome}
use Rattle.editor.proofs.Outcome.{section-made}
use Rattle.editor.proofs.write_records.Goals as goal
use Rattle.editor.proofs.write_records.Goals.{then-count-lt1-via-then-count-lt1, then-count-lt1-via-else-count-lt1+then-count-gt-MAX_NODES}

pub returns-then-count-lt1 : goal.returns-then-count-lt1
unfolding records_outcome records_answer buffer_after
returns-then-count-lt1 c = let n = length c.args.nodes.now in
    elim c.then-count-lt1.branch [
      | then-count-lt1-via-then-count-lt1 w ↦ rw (lt-ltb n 1 (omega (arith, w.if-count-lt1.true))) refl
      | then-count-lt1-via-else-count-lt1+then-count-gt-MAX_NODES w ↦
          rw (le-ltb n 1 (omega (arith, w.if-count-lt1.false)), lt-ltb max_nodes n (omega (arith, w.if-count-gt-MAX_NODES.true))) refl
    ]

pub returns : goal.returns
unfolding records_outcome records_answer
returns c = let n = c.args.nodes.now in
    rw (le-ltb (length n) 1 (omega arith), le-ltb max_nodes (length n) (omega arith)) (
    let w = rw (c.put_records.ensures, section-made n _) at c.write_parts.ensures in rw (w.is, w.buffer) refl)
