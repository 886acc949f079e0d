-- `counts::count_plain` meets its contract.
use borrow.Author.Rules.{rules}
use mathlib.Core.Path.{refl, sym, ◌∙◌}
use Rattle.counts.specs.Pieces.{pieces}
use Rattle.steps.proofs.Passing.{shape-symbol, blank_cut, shape-blank}
use Rattle.counts.proofs.Counting.{part-is}
use Rattle.counts.proofs.count_plain.Goals as goal

pub returns-then-is_named : goal.returns-then-is_named
returns-then-is_named c = let a = c.args in let n = c.past_long-next.ensures in rw (shape-symbol pieces a.left a.s.now a.at c.requires.2 c.requires.3 (sym c.is_named.ensures ∙ c.if-is_named.true))
    (record { next_is = n.is; counts_is = c.count_symbol.ensures ∙ rw (part-is a.at c.past_long-next.result a.s.now n.onward n.inside, n.is); inside = n.inside })

pub returns-then-s-at-lt-LONG_BLANK : goal.returns-then-s-at-lt-LONG_BLANK
returns-then-s-at-lt-LONG_BLANK c = let a = c.args in
    rw (c.nothing_at.ensures, blank_cut pieces a.left a.s.now a.at c.requires.2 c.requires.3 (sym c.is_named.ensures ∙ c.if-is_named.false) c.if-s-at-lt-LONG_BLANK.true)
    (record { next_is = refl; counts_is = refl; inside = search rules })

pub returns : goal.returns
returns c = let a = c.args in rw (shape-blank pieces a.left a.s.now a.at c.requires.2 c.requires.3 (sym c.is_named.ensures ∙ c.if-is_named.false) c.if-s-at-lt-LONG_BLANK.false)
    (record { next_is = refl; counts_is = c.packed_counts.ensures; inside = search rules })
