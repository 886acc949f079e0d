-- `merges::measure_all` meets its contract. The invariant: all entries measure as those that are left do, after the bytes of those measured.
use native.Mathlib.Omega.{arith}
use mathlib.Core.Path.{refl, sym, ◌∙◌}
use Rattle.sheets.proofs.Places.{ready-within}
use Rattle.merges.specs.Merge.{measured_all}
use Rattle.merges.proofs.Merging.{over_turn, turn_is, over_end, turn_deep, turn_long, turn_fits}
use Rattle.merges.proofs.measure_all.Goals as goal

pub loop-turn-init : goal.loop-turn-init
loop-turn-init c = let e = c.new-turn-items.ensures in rw c.into_iter-turn-iterator.ensures.into_iter_gives (
  tt,
  tt,
  record {
    over = record { first = rw e.first refl; second = rw e.second refl };
    small = omega (arith, (ready-within c.args.first.now.ready).few, (ready-within c.args.second.now.ready).few);
    goes = rw (e.i, e.j) refl;
  },
)

pub span_at-span-requires : goal.span_at-span-requires
span_at-span-requires c = (turn_is c.loop-turn.invariant.2.over c.in-Some.ensures.steps).there

pub returns-then-span-gt-MAX_LEVELS : goal.returns-then-span-gt-MAX_LEVELS
returns-then-span-gt-MAX_LEVELS c = let v = c.loop-turn.invariant.2 in sym (v.goes ∙ turn_deep (turn_is v.over c.in-Some.ensures.steps) c.span_at-span.ensures c.loop-turn.bytes c.if-span-gt-MAX_LEVELS.true)

pub returns-then-span-gt-MAX_BYTES : goal.returns-then-span-gt-MAX_BYTES
returns-then-span-gt-MAX_BYTES c = let v = c.loop-turn.invariant.2 in sym (v.goes ∙ turn_long (turn_is v.over c.in-Some.ensures.steps) c.span_at-span.ensures c.loop-turn.bytes (omega arith) c.if-span-gt-MAX_BYTES.true)

pub loop-turn-preserved : goal.loop-turn-preserved
loop-turn-preserved c = let v = c.loop-turn.invariant.2 in let g = c.in-Some.ensures.steps in let t = turn_is v.over g in (
  tt,
  tt,
  record {
    over = over_turn v.over g;
    small = omega (arith, t.onward, v.small);
    goes = v.goes ∙ turn_fits t c.span_at-span.ensures c.loop-turn.bytes (omega arith) (omega arith);
  },
)

pub returns : goal.returns
unfolding measured_all
returns c = let v = c.loop-turn.invariant.2 in rw (v.goes, over_end v.over c.in-None.ensures.steps) refl
