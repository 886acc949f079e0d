-- `reader::read` meets its contract: the walk's answer is what reading means.
use native.Mathlib.Omega.{arith}
use Rattle.std.proofs.lemmas.Result.{err_from_is_err_and}
use Rattle.meaning.proofs.Rules.{tests}
use Rattle.leaves.proofs.Faults.{fault-number}
use Rattle.reader.specs.Walk.{walk_all}
use Rattle.reader.proofs.Whole.{walk-said}
use Rattle.reader.proofs.read.Goals as goal

pub returns-then-bytes-gt-MAX_BYTES : goal.returns-then-bytes-gt-MAX_BYTES
unfolding walk_all
returns-then-bytes-gt-MAX_BYTES c = rw (← walk-said c.args.bytes.now (λ i. omega (arith, c.type_inv.bytes i))) (search tests)

pub returns-in_err-root : goal.returns-in_err-root
unfolding walk_all
returns-in_err-root c = let p = err_from_is_err_and c.from_residual.result c.from_residual.ensures.1 in
    rw (p.1, p.2, ← walk-said c.args.bytes.now (λ i. omega (arith, c.type_inv.bytes i)), ← c.in_err-root.ensures.is) (search (tests, fault-number))

pub returns-then-root-bytes : goal.returns-then-root-bytes
unfolding walk_all
returns-then-root-bytes c = rw (← walk-said c.args.bytes.now (λ i. omega (arith, c.type_inv.bytes i)), ← c.in_ok-root.ensures.is) (search tests)

pub returns : goal.returns
unfolding walk_all
returns c = rw (← walk-said c.args.bytes.now (λ i. omega (arith, c.type_inv.bytes i)), ← c.in_ok-root.ensures.is) (search tests)
