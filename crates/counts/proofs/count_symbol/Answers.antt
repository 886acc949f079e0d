-- `counts::count_symbol` meets its contract.
use borrow.Author.Rules.{rules}
use mathlib.Core.Path.{◌∙◌}
use native.Mathlib.Omega.{arith}
use Rattle.counts.proofs.Counting.{texts-start, text-within, text-short, texts-turn, texts-end}
use Rattle.counts.proofs.count_symbol.Goals as goal

pub loop-init : goal.loop-init
loop-init c = texts-start _ _ c.list_at-list.ensures.is c.list_at-list.ensures.inside

pub slice_bounds-text_size-end : goal.slice_bounds-text_size-end
slice_bounds-text_size-end c =
    let i = text-within c.loop.invariant c.loop-test.true c.past_name-start.ensures.is c.past_name-start.ensures.inside in
    search rules

pub overflow_add-text : goal.overflow_add-text
overflow_add-text c =
    let n = c.past_name-start.ensures in
    let i = text-within c.loop.invariant c.loop-test.true n.is n.inside in
    let h = text-short c.loop.invariant c.loop-test.true n.is n.inside c.text_size-text.ensures in
    record { fits = omega (arith, h, i, c.requires) }

pub loop-preserved : goal.loop-preserved
loop-preserved c =
    texts-turn c.loop.invariant c.loop-test.true c.past_name-start.ensures.is c.past_name-start.ensures.inside c.text_size-text.ensures

pub returns : goal.returns
returns c =
    c.own_counts.ensures
    ∙ texts-end c.loop.invariant (rw c.list_at-list.ensures.is) (rw c.list_at-list.ensures.is) (omega (arith, c.loop.auto, c.loop-test.false))
