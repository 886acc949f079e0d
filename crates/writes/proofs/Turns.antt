-- The turns of the loop that writes a list's items, and the room that they have.
--     Turn                      what the loop keeps: the items so far stand in the buffer, and the others end as the whole list does
--     room-name, room-shape     where the whole list has room, the item's name and its shape have
--     turn_on, turn-made        a turn keeps it
-- Assumes nothing.
use mathlib.Core.Path.{◌≡◌, refl, ◌∙◌}
use mathlib.Core.List.{List, ◌++◌}
use Prim.Native.Nat.{ℕ, zero, suc, ◌+◌, ◌-◌, ◌≤◌, ◌<◌}
use native.Mathlib.Omega.{arith}
use lib.ListN.{length, length-append}
use lib.Seq.{slice, length-slice}
use Rattle.meaning.specs.Shape.{Shape}
use Rattle.buffers.specs.Written.{written}
use Rattle.buffers.proofs.Written.{written_after}
use Rattle.payloads.specs.declared.first.Kind.{Kind}
use Rattle.steps.specs.Steps.{past_name}
use Rattle.steps.specs.Pass.{came, Passer, pass_items}
use Rattle.steps.proofs.Passing.{items-one}
use Rattle.writes.specs.Writes.{Items, writes, Wrote, FitsItems}
use Rattle.writes.specs.declared.Places.{Places}

-- The bytes of a list's items only grow.
grows : (σ : ℕ → Shape) (inner : Passer (List ℕ)) (kind : Kind) (s : List ℕ) (due at : ℕ) (a : Items)
    → length a.bytes ≤ length (pass_items (writes σ) inner kind due s at a).made.bytes
unfolding pass_items
grows σ inner kind s zero at a = omega arith
grows σ inner kind s (suc due) at a =
    let b : Items = (writes σ).item a (slice at (past_name s at kind) s) (inner s (past_name s at kind)).made in
    omega (arith, grows σ inner kind s due (inner s (past_name s at kind)).next b, length-append a.bytes (slice at (past_name s at kind) s ++ (inner s (past_name s at kind)).made))

-- what the loop keeps, of the buffer d that is now e: the items so far are a
pub record Turn (σ : ℕ → Shape) (inner : Passer (List ℕ)) (kind : Kind) (s : List ℕ) (from first count done : ℕ) (d e : List ℕ) (p : Places) : Type 0 where
  pub a : Items
  pub goes : pass_items (writes σ) inner kind count s from (writes σ).start ≡ pass_items (writes σ) inner kind (count - done) s p.next a
  pub wrote : e ≡ written d first a.bytes
  pub to_is : p.to ≡ first + length a.bytes
  pub long : length e ≡ length d
  pub inside : p.next ≤ length s

module _ (σ : ℕ → Shape) (inner : Passer (List ℕ)) (kind : Kind) (s : List ℕ) (from first count done : ℕ) (d e : List ℕ) (p : Places)
    (t : Turn σ inner kind s from first count done d e p)
    (fits : FitsItems (length d) first (pass_items (writes σ) inner kind count s from (writes σ).start))
    (more : done < count) (start : ℕ) (is : start ≡ past_name s p.next kind) (onward : p.next ≤ start) (within : start ≤ length s) where
  -- The items so far, the name and the shape fit together.
  room : (first + (length t.a.bytes + ((start - p.next) + length (inner s start).made)) ≤ length d) × (length (inner s start).made < 65536)
  room =
      let q : ℕ = past_name s p.next kind in
      let b : Items = (writes σ).item t.a (slice p.next q s) (inner s q).made in
      let f = rw (t.goes ∙ items-one (writes σ) inner kind s p.next t.a (count - done) (omega arith)) at fits in
      let g = grows σ inner kind s (count - done - 1) (inner s q).next b in
      let l = length-append t.a.bytes (slice p.next q s ++ (inner s q).made) in
      let m = length-append (slice p.next q s) (inner s q).made in
      let n = length-slice p.next q s (rw (← is) within) in
      rw is (omega (arith, f.0, f.1, g, l, m, n), omega (arith, f.0, f.1, g, l, m, n))

  -- The name has room.
  pub room-name : p.to + (start - p.next) ≤ length e
  room-name = omega (arith, room.0, t.to_is, t.long)

  -- The shape has room after it.
  pub room-shape : (p.to + (start - p.next) + length (inner s start).made ≤ length e) × (length (inner s start).made < 65536)
  room-shape = (omega (arith, room.0, t.to_is, t.long), room.1)

  -- With both written the loop goes on.
  pub turn_on : (e1 e2 : List ℕ) (q : Places) → e1 ≡ written e p.to (slice p.next start s) → length e1 ≡ length e
      → Wrote e1 e2 (p.to + (start - p.next)) q (inner s start) → length e2 ≡ length e1
      → q.next ≤ length s → Turn σ inner kind s from first count (done + 1) d e2 q
  turn_on e1 e2 q w1 l1 w2 l2 i =
      let v : List ℕ = (inner s start).made in
      let x : List ℕ = slice p.next start s in
      let l : length x ≡ start - p.next = length-slice p.next start s within in
      let m = length-append t.a.bytes (x ++ v) in
      let k = length-append x v in
      let h = room.0 in
      let o : p.to + (start - p.next) ≡ p.to + length x = omega arith in
      let u : e2 ≡ written e p.to (x ++ v) = w2.wrote ∙ rw (w1, o) (written_after e p.to x v (omega (arith, t.to_is, t.long))) in
      let less : count - done - 1 ≡ count - (done + 1) = omega arith in
      record {
        a = (writes σ).item t.a x v;
        goes = t.goes ∙ items-one (writes σ) inner kind s p.next t.a (count - done) (omega arith) ∙ rw (← is, w2.next_is, less);
        wrote = u ∙ rw (t.wrote, t.to_is) (written_after d first t.a.bytes (x ++ v) (omega arith));
        to_is = omega (arith, t.to_is, w2.to_is);
        long = l2 ∙ l1 ∙ t.long;
        inside = i;
      }

  -- So it does where it is known what is made of the shape.
  pub turn-made : (v e1 e2 : List ℕ) (q : Places) → inner s start ≡ came q.next v → e1 ≡ written e p.to (slice p.next start s) → length e1 ≡ length e
      → q.to ≡ p.to + (start - p.next) + length v → e2 ≡ written e1 (p.to + (start - p.next)) v → length e2 ≡ length e1
      → q.next ≤ length s → Turn σ inner kind s from first count (done + 1) d e2 q
  turn-made v e1 e2 q z w1 l1 u w2 l2 i = turn_on e1 e2 q w1 l1 (rw z (record { next_is = refl; to_is = u; wrote = w2 })) l2 i
