-- `joins::put_entries` meets its contract. The invariant: the entries passed are written.
use native.Mathlib.Omega.{arith}
use mathlib.Core.Path.{refl}
use Rattle.sheets.proofs.Places.{ready-within}
use Rattle.merges.proofs.Merging.{over_turn, turn_is, over_end}
use Rattle.joins.proofs.Putting.{next-short, next-room, next_place, next_small, put-none, put-more, put_all}
use Rattle.joins.proofs.put_entries.Goals as goal

pub loop-turn-init : goal.loop-turn-init
loop-turn-init c = let e = c.new-turn-items.ensures in let p = c.requires in rw c.into_iter-turn-iterator.ensures.into_iter_gives (
  tt,
  tt,
  record {
    over = record { first = rw e.first refl; second = rw e.second refl };
    put = rw (e.i, e.j) (put-none _ _ _ c.args.out.now (record { counted = p.0; few = p.1; fitting = p.2; room = p.3 }));
  },
)

pub put_encoding-end-requires : goal.put_encoding-end-requires
put_encoding-end-requires c = let v = c.loop-turn.invariant.2 in let u = turn_is v.over c.in-Some.ensures.steps in (u.there, next-room v.put u, next-short v.put u)

pub put_two-requires : goal.put_two-requires
put_two-requires c = let v = c.loop-turn.invariant.2 in let p = v.put in let u = turn_is v.over c.in-Some.ensures.steps in
    (omega (arith, next_place p u, p.same, p.fits.room), next_small u (ready-within c.args.first.now.ready).all (ready-within c.args.second.now.ready).all)

pub put_two-requires-in-loop-turn : goal.put_two-requires-in-loop-turn
put_two-requires-in-loop-turn c = let v = c.loop-turn.invariant.2 in let p = v.put in let u = turn_is v.over c.in-Some.ensures.steps in
    (omega (arith, next_place p u, p.same, p.fits.room), omega (arith, c.put_encoding-end.ensures.after, next-short p u))

pub loop-turn-preserved : goal.loop-turn-preserved
loop-turn-preserved c = let v = c.loop-turn.invariant.2 in let g = c.in-Some.ensures.steps in let e = c.put_encoding-end.ensures in (
  tt,
  tt,
  record {
    over = over_turn v.over g;
    put = put-more v.put (turn_is v.over g) _ _ _ _ e.after e.wrote c.put_two.ensures c.put_two-in-loop-turn.ensures (omega arith);
  },
)

pub returns : goal.returns
returns c = let v = c.loop-turn.invariant.2 in put_all v.put (over_end v.over c.in-None.ensures.steps)
