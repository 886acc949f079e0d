-- `leaves::block_at` meets its contract. The invariant: if the bits met are those of bytes under 128, the text goes on from its start to here.
use borrow.Author.Rules.{rules}
use mathlib.Core.Path.{◌≡◌}
use Prim.Native.Nat.{◌+◌, ◌<◌, ◌-◌}
use lib.ListN.{get_or, take, drop}
use lib.Seq.{get_or-take, get_or-drop}
use Rattle.leaves.proofs.Way.{ascii-on, or-under, follow, same_place}
use Rattle.leaves.proofs.block_at.Goals as goal

pub loop-b-preserved : goal.loop-b-preserved
loop-b-preserved c = λ h.
    let a = c.args in
    let i = c.loop-b.b-index in
    let n = a.at + a.size - a.at in
    let near : i < n = search rules in
    let b : get_or (take n (drop a.at a.w.now)) i 0 ≡ get_or a.w.now (a.at + i) 0 = rw (get_or-take, get_or-drop) in
    let p = or-under _ _ _ (rw b at h) in
    same_place (follow (c.loop-b.invariant p.0) (ascii-on _ _ _ (search rules) (search rules) p.1)) (search rules) (search rules)
