-- `fills::fill` meets its contract: the template is looked at first, then the sheet, then the filled shape.
use native.Mathlib.Omega.{arith}
use mathlib.Core.Path.{ap, ◌∙◌}
use lib.ListN.{length}
use Rattle.std.specs.Prelude.{Ok}
use Rattle.std.proofs.lemmas.Result.{err_from_is_err_and}
use Rattle.buffers.proofs.Written.{buffer-made}
use Rattle.fills.proofs.Cases.{short, unread, broken, found, answer-is, filled-comes, unfit}
use Rattle.fills.proofs.fill.Goals as goal

pub returns-in_err-read-clause-is : goal.returns-in_err-read-clause-is
returns-in_err-read-clause-is c = let a = c.args in let p = err_from_is_err_and c.from_residual.result c.from_residual.ensures.1 in
    rw (p.1, p.2) (unread a.template.now a.sheet.now a.out.now (length a.out.now) _ c.in_err-read.ensures).is

pub returns-in_err-read-clause-buffer : goal.returns-in_err-read-clause-buffer
returns-in_err-read-clause-buffer c = let a = c.args in (unread a.template.now a.sheet.now a.out.now (length a.out.now) _ c.in_err-read.ensures).buffer

pub returns-in_err-sheet-clause-is : goal.returns-in_err-sheet-clause-is
returns-in_err-sheet-clause-is c = let a = c.args in let p = err_from_is_err_and c.from_residual-in_err-sheet.result c.from_residual-in_err-sheet.ensures.1 in
    let w = c.in_err-sheet.ensures in
    rw (p.1, p.2) (broken a.template.now a.sheet.now a.out.now (length a.out.now) _ (_, c.in_ok-read.ensures) w.0 w.1).is

pub returns-in_err-sheet-clause-buffer : goal.returns-in_err-sheet-clause-buffer
returns-in_err-sheet-clause-buffer c = let a = c.args in let w = c.in_err-sheet.ensures in
    (broken a.template.now a.sheet.now a.out.now (length a.out.now) _ (_, c.in_ok-read.ensures) w.0 w.1).buffer

pub measure-size-requires : goal.measure-size-requires
measure-size-requires c = short c.args.template.now (λ i. omega (arith, c.type_inv.template i)) (_, c.in_ok-read.ensures)

pub returns-in_err-length-clause-is : goal.returns-in_err-length-clause-is
returns-in_err-length-clause-is c = let a = c.args in let p = err_from_is_err_and c.from_residual-in_err-length.result c.from_residual-in_err-length.ensures.1 in
    let s = c.in_ok-sheet.sheet in let f = found a.template.now s.bytes.now _ (_, c.in_ok-read.ensures) c.measure-size.ensures in
    rw (p.1, p.2, ← c.in_ok-sheet.ensures) (unfit (length a.out.now) s.ready f a.out.now _ c.in_err-length.ensures).is

pub returns-in_err-length-clause-buffer : goal.returns-in_err-length-clause-buffer
returns-in_err-length-clause-buffer c = let a = c.args in
    let s = c.in_ok-sheet.sheet in let f = found a.template.now s.bytes.now _ (_, c.in_ok-read.ensures) c.measure-size.ensures in
    rw (← c.in_ok-sheet.ensures) (unfit (length a.out.now) s.ready f a.out.now _ c.in_err-length.ensures).buffer

pub write-requires : goal.write-requires
write-requires c = let a = c.args in let s = c.in_ok-sheet.sheet in let f = found a.template.now s.bytes.now _ (_, c.in_ok-read.ensures) c.measure-size.ensures in
    let v = filled-comes (length a.out.now) s.ready f c.in_ok-length.ensures in
    rw f.is (omega arith, omega arith)

pub returns-clause-is : goal.returns-clause-is
returns-clause-is c = let a = c.args in let s = c.in_ok-sheet.sheet in let f = found a.template.now s.bytes.now _ (_, c.in_ok-read.ensures) c.measure-size.ensures in
    let v = filled-comes (length a.out.now) s.ready f c.in_ok-length.ensures in
    rw (← c.in_ok-sheet.ensures, answer-is (length a.out.now) s.ready f, v.0) (ap Ok v.1)

pub returns-clause-buffer : goal.returns-clause-buffer
returns-clause-buffer c = let a = c.args in let s = c.in_ok-sheet.sheet in let f = found a.template.now s.bytes.now _ (_, c.in_ok-read.ensures) c.measure-size.ensures in
    let v = filled-comes (length a.out.now) s.ready f c.in_ok-length.ensures in
    let w = rw f.is at c.write.ensures in
    rw (← c.in_ok-sheet.ensures, answer-is (length a.out.now) s.ready f, v.0) (w.1 ∙ buffer-made _ _)
