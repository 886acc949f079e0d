-- `way_back::put_symbol` meets its contract.
use native.Mathlib.Omega.{arith}
use Rattle.way_back.proofs.Texts.{symbol-after, symbol-bytes, symbol-few, symbol-cut}
use Rattle.way_back.proofs.put_symbol.Goals as goal

pub put_node-requires : goal.put_node-requires
put_node-requires c = let a = c.args in (omega arith, omega arith, rw (symbol-cut a.w.now a.section a.base c.if-w-lt-HEAD_SIZE.true) at c.requires.2)

pub returns-then-w-lt-HEAD_SIZE : goal.returns-then-w-lt-HEAD_SIZE
returns-then-w-lt-HEAD_SIZE c = let a = c.args in rw (symbol-cut a.w.now a.section a.base c.if-w-lt-HEAD_SIZE.true) c.put_node.ensures

pub put_list-requires : goal.put_list-requires
put_list-requires c = let l = c.list_at-list in let a = c.args in
    (omega (arith, l.ensures.inside.1, c.if-w-lt-HEAD_SIZE.false), c.requires.0, symbol-after a.w.now l.result l.ensures.is a.base, omega arith, symbol-few a.w.now l.result l.ensures.is a.base c.requires.1, rw (symbol-bytes a.w.now l.result l.ensures.is a.section a.base) at c.requires.2)

pub returns : goal.returns
returns c = let l = c.list_at-list in let a = c.args in rw (symbol-bytes a.w.now l.result l.ensures.is a.section a.base) c.put_list.ensures
