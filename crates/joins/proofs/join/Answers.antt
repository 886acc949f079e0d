-- `joins::join` meets its contract: the first sheet is looked at first, then the second.
use Rattle.std.proofs.lemmas.Result.{err_from_is_err_and}
use Rattle.joins.proofs.Answering.{join-first-broken, join-second-broken}
use Rattle.joins.proofs.join.Goals as goal

pub returns-in_err-first : goal.returns-in_err-first
returns-in_err-first c = let a = c.args in let p = err_from_is_err_and c.from_residual.result c.from_residual.ensures.1 in
    let e = c.in_err-first.ensures in
    let s = join-first-broken a.out.now a.first.now a.second.now e.0 e.1 in
    record { is = rw (p.1, p.2) s.0; buffer = s.1 }

pub returns-in_err-second : goal.returns-in_err-second
returns-in_err-second c = let a = c.args in let p = err_from_is_err_and c.from_residual-in_err-second.result c.from_residual-in_err-second.ensures.1 in
    let e = c.in_err-second.ensures in
    let s = join-second-broken a.out.now a.second.now (rw c.in_ok-first.ensures at c.in_ok-first.first.ready) e.0 e.1 in
    record { is = rw (p.1, p.2) s.0; buffer = s.1 }
