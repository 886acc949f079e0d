-- `joins::join_sound` meets its contract.
use native.Mathlib.Omega.{arith}
use mathlib.Core.Path.{sym}
use Rattle.std.proofs.lemmas.Result.{err_from_is_err_and}
use Rattle.joins.proofs.Answering.{measured-fits, join-many, join-made-large, join-large, join-short, join_written}
use Rattle.joins.proofs.join_sound.Goals as goal

pub returns-then-count-gt-MAX_ENTRIES : goal.returns-then-count-gt-MAX_ENTRIES
returns-then-count-gt-MAX_ENTRIES c = let a = c.args in let s = join-many a.first.now.ready a.second.now.ready a.out.now c.joined_count-count.ensures c.if-count-gt-MAX_ENTRIES.true in
    record { is = s.0; buffer = s.1 }

pub returns-in_err-bytes : goal.returns-in_err-bytes
returns-in_err-bytes c = let a = c.args in let p = err_from_is_err_and c.from_residual.result c.from_residual.ensures.1 in
    let s = join-made-large a.first.now.ready a.second.now.ready a.out.now c.joined_count-count.ensures (omega arith) c.in_err-bytes.ensures in
    record { is = rw (p.1, p.2) s.0; buffer = s.1 }

pub returns-then-bytes-gt-MAX_ENCODINGS : goal.returns-then-bytes-gt-MAX_ENCODINGS
returns-then-bytes-gt-MAX_ENCODINGS c = let a = c.args in
    let s = join-large a.first.now.ready a.second.now.ready a.out.now c.joined_count-count.ensures (omega arith) c.in_ok-bytes.ensures c.if-bytes-gt-MAX_ENCODINGS.true in
    record { is = s.0; buffer = s.1 }

pub returns-then-out-needed : goal.returns-then-out-needed
returns-then-out-needed c = let a = c.args in
    let s = join-short a.first.now.ready a.second.now.ready a.out.now c.joined_count-count.ensures (omega arith) c.in_ok-bytes.ensures (omega arith) c.if-out-needed.true in
    record { is = s.0; buffer = s.1 }

pub put_sheet-requires : goal.put_sheet-requires
put_sheet-requires c = let f = measured-fits _ _ _ (sym c.in_ok-bytes.ensures) in
    (c.joined_count-count.ensures, omega arith, f.1, omega (arith, f.0), omega arith, omega arith)

pub returns : goal.returns
returns c = let a = c.args in
    let s = join_written a.first.now.ready a.second.now.ready a.out.now c.joined_count-count.ensures (omega arith) c.in_ok-bytes.ensures (omega arith) (omega arith) c.put_sheet.ensures in
    record { is = s.0; buffer = s.1 }
