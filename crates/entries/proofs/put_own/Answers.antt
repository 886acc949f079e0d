-- The entries that a list's node has for its items are written in a loop; a section that has none of them is left as it is.
use Prim.Native.Nat.{◌+◌, ◌<◌}
use native.Mathlib.Nat.{sub-zero}
use native.Mathlib.Omega.{arith}
use mathlib.Core.Path.{refl, sym, ◌∙◌}
use Rattle.counts.specs.Pieces.{no_items}
use Rattle.counts.proofs.Counting.{items-end}
use Rattle.entries.proofs.Wrote.{wrote_none}
use Rattle.entries.proofs.Entries.{no_own}
use Rattle.entries.proofs.Owning.{few-inner, starts-within, few-sums, item-fits, turn_on}
use Rattle.entries.proofs.put_own.Goals as goal
use Rattle.entries.proofs.put_own.Goals.{After-count_inner-part}

-- What the loop adds up of the nodes stays few.
sums : (c : After-count_inner-part) → c.args.base.nodes + (c.loop-k.nodes + c.count_inner-part.result.counts.nodes) < 65536
sums c = let n = c.past_name-start.ensures in
    (few-sums c.loop-k.invariant c.requires.2 c.loop-k-test.true n.is n.inside c.count_inner-part.ensures).0

pub returns-then-not-has_entries : goal.returns-then-not-has_entries
returns-then-not-has_entries c = rw (no_own c.args.section c.args.items.kind c.args.base c.args.after _ _ _ _ (sym c.has_entries.ensures ∙ c.if-not-has_entries.true)) (wrote_none _ _)

pub loop-k-init : goal.loop-k-init
loop-k-init c = record { a = no_items; goes = rw sub-zero; few = omega (arith, c.requires.2); wrote = wrote_none _ _; nodes-is = refl; text_is = refl; items-are = refl; long = refl; inside = c.requires.0 }

pub count_inner-part-requires : goal.count_inner-part-requires
count_inner-part-requires c = let n = c.past_name-start.ensures in
    (starts-within c.loop-k.invariant c.requires.2 c.loop-k-test.true n.is n.inside, c.requires.1, c.args.items.few.1, few-inner c.loop-k.invariant c.requires.2 c.loop-k-test.true n.is)

pub overflow_add-nodes : goal.overflow_add-nodes
overflow_add-nodes c = record { fits = omega (arith, sums (goal.at.overflow_add-nodes c).After-count_inner-part) }

pub overflow_add-base : goal.overflow_add-base
overflow_add-base c = record { fits = omega (arith, sums (goal.at.overflow_add-base c).After-count_inner-part) }

pub put_item-to-requires : goal.put_item-to-requires
put_item-to-requires c = let n = c.past_name-start.ensures in
    item-fits c.loop-k.invariant c.requires.2 c.loop-k-test.true n.is n.inside c.count_inner-part.ensures c.requires.3 c.saturating_sub.ensures c.requires.1

pub loop-k-preserved : goal.loop-k-preserved
loop-k-preserved c = let n = c.past_name-start.ensures in
    turn_on c.loop-k.invariant c.requires.2 c.loop-k-test.true n.is n.inside c.count_inner-part.ensures c.requires.3 c.saturating_sub.ensures c.put_item-to.ensures (omega (arith, c.put_item-to.auto)) c.text_size-text.ensures

pub returns : goal.returns
returns c = rw (c.loop-k.invariant.goes, items-end _ _ _ _ _ c.loop-k.k c.args.items.count c.loop-k-test.false) c.loop-k.invariant.wrote
