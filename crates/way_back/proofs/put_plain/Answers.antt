-- `way_back::put_plain` meets its contract.
use native.Mathlib.Omega.{arith}
use mathlib.Core.Path.{sym, ◌∙◌}
use lib.ListN.{length-take, length-drop}
use Rattle.steps.proofs.Passing.{blank_cut, shape-blank}
use Rattle.counts.specs.Pieces.{pieces}
use Rattle.entries.proofs.Wrote.{wrote_none}
use Rattle.way_back.proofs.Texts.{symbol-here}
use Rattle.way_back.proofs.put_plain.Goals as goal

pub put_symbol-requires : goal.put_symbol-requires
put_symbol-requires c = let l = c.past_long-next in let a = c.args in let e = symbol-here a.left a.s.now a.from.now.next l.result c.requires.2 c.requires.3 (sym c.is_named.ensures ∙ c.if-is_named.true) l.ensures.is l.ensures.onward l.ensures.inside in
    (simp (length-take, length-drop) (omega (arith, c.requires.1)), rw e at c.requires.4, rw e at c.requires.5)

pub returns-then-is_named : goal.returns-then-is_named
returns-then-is_named c = let a = c.args in rw (symbol-here a.left a.s.now a.from.now.next c.past_long-next.result c.requires.2 c.requires.3 (sym c.is_named.ensures ∙ c.if-is_named.true) c.past_long-next.ensures.is c.past_long-next.ensures.onward c.past_long-next.ensures.inside)
    c.put_symbol.ensures

pub returns-then-s-at-lt-LONG_BLANK : goal.returns-then-s-at-lt-LONG_BLANK
returns-then-s-at-lt-LONG_BLANK c = let a = c.args in rw (blank_cut pieces a.left a.s.now a.from.now.next c.requires.2 c.requires.3 (sym c.is_named.ensures ∙ c.if-is_named.false) c.if-s-at-lt-LONG_BLANK.true)
    (wrote_none a.out.now a.from.now.to)

pub put_node-requires : goal.put_node-requires
put_node-requires c = let a = c.args in let t = c.two_at-number.ensures in (t.small, omega arith, rw (shape-blank pieces a.left a.s.now a.from.now.next c.requires.2 c.requires.3 (sym c.is_named.ensures ∙ c.if-is_named.false) c.if-s-at-lt-LONG_BLANK.false, ← t.is) at c.requires.5)

pub returns : goal.returns
returns c = let a = c.args in rw (shape-blank pieces a.left a.s.now a.from.now.next c.requires.2 c.requires.3 (sym c.is_named.ensures ∙ c.if-is_named.false) c.if-s-at-lt-LONG_BLANK.false, ← c.two_at-number.ensures.is)
    c.put_node.ensures
