-- What a section gets of a shape: of nothing; and of a list, of the shapes of its items, in the turns of a loop, and then of its node.
--     put-none               where no shape stands, nothing is written
--     Turn, turn-first       what the loop keeps: the shapes so far stand in the buffer, and the others end as the whole list does; so it starts
--     turn-few, turn-text    where what the whole list adds is few, what an item's shape adds is after those before it, and so are the texts
--     turn-within            the shape starts inside
--     turn-room, turn_on     the shape has room, and with it written the loop goes on
--     turn_end               at the end the shapes of all items are written
--     list-few               where what a list adds is few, what its items add is after those before it
--     own-few, sum-few       so is what its node's entries say, and what is there after them
--     items-room, own_room   the items' shapes have room, and the node's entries after them
--     list_put               written one after the other they are the list
-- Assumes nothing.
use mathlib.Core.Path.{◌≡◌, refl, sym, subst, ◌∙◌}
use mathlib.Core.List.{List}
use Prim.Native.Nat.{ℕ, ◌+◌, ◌-◌, ◌≤◌, ◌<◌, max}
use native.Mathlib.Nat.{sub-zero}
use native.Mathlib.Omega.{arith}
use lib.ListN.{length, length-append}
use lib.Seq.{slice}
use Rattle.payloads.specs.declared.first.Kind.{Kind}
use Rattle.steps.specs.Steps.{past_name}
use Rattle.steps.specs.declared.Listing.{Listing}
use Rattle.steps.specs.Pass.{Came, came, Passer, pass_items, pass_shape}
use Rattle.counts.specs.declared.Counts.{Counts}
use Rattle.counts.specs.declared.Section.{Section}
use Rattle.counts.specs.Pieces.{plus, Few, text_in, Piece, Gathered, nothing, no_items, with_item, own_counts, own_bytes, pieces, Linked}
use Rattle.counts.proofs.Grows.{grows, items-count, shapes-grow}
use Rattle.counts.specs.Counts.{FewItems}
use Rattle.counts.proofs.Counting.{part, part-is, items-next, items-end, all_of, IsList, plus_none, plus_assoc}
use Rattle.counts.proofs.Linked.{items-linked, shape-linked}
use Rattle.way_back.specs.declared.Put.{Put}
use Rattle.entries.specs.Entries.{FewOwn, Wrote, Room}
use Rattle.way_back.specs.Puts.{PutIs, PutItemsIs}
use Rattle.entries.proofs.Wrote.{wrote_none, wrote_after}

-- Where no shape stands, nothing is written.
pub put-none : {section : Section} {s : List ℕ} {base : Counts} {d : List ℕ} {at to : ℕ} {v : Came Piece} → v ≡ came at nothing → at ≤ length s
    → PutIs section s base d d to (record { next = at; to = to; there = base }) v
put-none {base = base} {d = d} {to = to} e i = rw e (record { wrote = wrote_none d to; next_is = refl; there_is = sym (plus_none base); inside = i })

-- what the loop keeps, of the buffer d that is now e: the items so far are a
pub record Turn (section : Section) (inner : Passer Piece) (kind : Kind) (s : List ℕ) (from first count : ℕ) (base : Counts) (d e : List ℕ) (at to : ℕ) (there : Counts) (text k : ℕ) : Type 0 where
  pub a : Gathered
  pub goes : pass_items pieces inner kind count s from no_items ≡ pass_items pieces inner kind (count - k) s at a
  pub wrote : Wrote d e first (a.shapes section base) to
  pub there_is : there ≡ plus base a.counts
  pub text_is : text ≡ a.text
  pub linked : Linked there
  pub long : length e ≡ length d
  pub inside : at ≤ length s

-- So the loop starts, with nothing written.
pub turn-first : (section : Section) (inner : Passer Piece) (kind : Kind) (s : List ℕ) (from first count : ℕ) (base : Counts) (d : List ℕ) → from ≤ length s → Linked base
    → Turn section inner kind s from first count base d d from first base 0 0
turn-first section inner kind s from first count base d i l =
    record { a = no_items; goes = rw sub-zero; wrote = wrote_none d first; there_is = sym (plus_none base); text_is = refl; linked = l; long = refl; inside = i }

module _ {section : Section} {inner : Passer Piece} {kind : Kind} {s : List ℕ} {from first count : ℕ} {base : Counts} {d e : List ℕ} {at to : ℕ} {there : Counts} {text k : ℕ}
    (t : Turn section inner kind s from first count base d e at to there text k)
    (few : FewItems base (pass_items pieces inner kind count s from no_items).made)
    (room : Room (length d) first ((pass_items pieces inner kind count s from no_items).made.shapes section base))
    (due : k < count) {start : ℕ} (is : start ≡ past_name s at kind) where
  -- The item is passed over, and the others follow it.
  goes_on_lem : pass_items pieces inner kind count s from no_items ≡ pass_items pieces inner kind (count - (k + 1)) s (inner s start).next (with_item t.a (slice at start s) (inner s start).made)
  goes_on_lem = t.goes ∙ items-next inner kind s at t.a k count due ∙ rw is

  -- What its shape adds is few after those before it.
  pub turn-few : Few (plus there (inner s start).made.counts)
  turn-few =
      let v : Piece = (inner s start).made in
      let g = (grows inner kind s (count - (k + 1)) (inner s start).next (with_item t.a (slice at start s) v)).counts in
      let f = rw goes_on_lem at few.0 in
      rw t.there_is (omega (arith, f.0, g.nodes), omega (arith, f.1, g.links), omega (arith, f.2, g.names), omega (arith, f.3, g.text))

  -- The shapes so far and this one have room together,
  both-room : first + (length (t.a.shapes section base) + length ((inner s start).made.bytes section there)) ≤ length d
  both-room =
      let v : Piece = (inner s start).made in
      let g = shapes-grow inner kind s section base (count - (k + 1)) (inner s start).next (with_item t.a (slice at start s) v) in
      let f = rw goes_on_lem at room in
      rw t.there_is (omega (arith, f, g, length-append (t.a.shapes section base) (v.bytes section (plus base t.a.counts))))

  -- and so has it.
  pub turn-room : Room (length e) to ((inner s start).made.bytes section there)
  turn-room = omega (arith, both-room, t.wrote.after, t.long)

  module _ (inside : (at ≤ start) × (start ≤ max at (length s))) where
    -- It starts inside.
    pub turn-within : start ≤ length s
    turn-within = omega (arith, inside.1, t.inside)

    module _ {size : ℕ} (is-size : size ≡ length (text_in (part at start s))) where
      -- The texts are few with the item's text.
      pub turn-text : text + size < 65536
      turn-text =
          let g = (grows inner kind s (count - (k + 1)) (inner s start).next (with_item t.a (slice at start s) (inner s start).made)).text in
          let f = rw goes_on_lem at few.1 in
          rw (is-size, t.text_is, part-is at start s inside.0 turn-within) (omega (arith, f, g))

      -- With the shape written the loop goes on.
      pub turn_on : {f : List ℕ} {r : Put} → PutIs section s there e f to r (inner s start) → length f ≡ length e → Linked (inner s start).made.counts
          → Turn section inner kind s from first count base d f r.next r.to r.there (text + size) (k + 1)
      turn_on v z l =
          record {
            a = with_item t.a (slice at start s) (inner s start).made;
            goes = goes_on_lem ∙ rw v.next_is;
            wrote = wrote_after (omega (arith, both-room)) t.wrote (rw t.there_is at v.wrote);
            there_is = v.there_is ∙ rw t.there_is (plus_assoc base t.a.counts (inner s start).made.counts);
            text_is = rw (is-size, t.text_is, part-is at start s inside.0 turn-within);
            linked = rw v.there_is (omega (arith, t.linked));
            long = z ∙ t.long;
            inside = v.inside;
          }

-- At the end the shapes of all items are written.
pub turn_end : {section : Section} {inner : Passer Piece} {kind : Kind} {s : List ℕ} {from first count : ℕ} {base : Counts} {d e : List ℕ} {at to : ℕ} {there : Counts} {text k : ℕ}
    → Turn section inner kind s from first count base d e at to there text k → count ≤ k
    → PutItemsIs section s base d e first (record { next = at; to = to; there = there }) text (pass_items pieces inner kind count s from no_items)
turn_end {inner = inner} {kind = kind} {s = s} {count = count} {at = at} {k = k} t z =
    rw (t.goes ∙ items-end inner kind s at t.a k count z)
    (record { wrote = t.wrote; next_is = refl; there_is = t.there_is; text_is = t.text_is; inside = t.inside })

module _ {left : ℕ} {s : List ℕ} {at : ℕ} {kind : Kind} {l : Listing} (m : IsList left s at kind l) (base : Counts) where
  -- the items
  abbrev all : Gathered
  all = (all_of left s kind l).made

  module _ (few : Few (plus base (pass_shape pieces left s at).made.counts)) where
    -- What its items add is few after those before it.
    pub list-few : FewItems base all
    list-few =
        let f = rw m.passed at few in
        ((omega (arith, f.0), omega (arith, f.1), omega (arith, f.2), omega (arith, f.3)), omega (arith, f.3))

    -- So is what its node's entries say: the names are no more than the links.
    pub own-few : Linked base → FewOwn base (plus base all.counts) all
    own-few h =
        let f = rw m.passed at few in
        let k = items-linked s (pass_shape pieces (left - 1)) (shape-linked s (left - 1)) kind l.count l.from no_items (omega arith) in
        ((omega (arith, f.0), omega (arith, f.1), omega (arith, f.2), omega (arith, f.3)), omega (arith, f.0), omega (arith, f.1, h, k), omega (arith, f.3))

  module _ (section : Section) (room to : ℕ) (fits : Room room to ((pass_shape pieces left s at).made.bytes section base)) where
    -- The shapes of its items and its node's entries have room together,
    all_room : to + (length (all.shapes section base) + length (own_bytes section kind all base)) ≤ room
    all_room = rw length-append at (rw m.passed at fits)

    -- so the shapes have,
    pub items-room : Room room to (all.shapes section base)
    items-room = omega (arith, all_room)

    -- and the entries after them.
    pub own_room : {next : ℕ} → next ≡ to + length (all.shapes section base) → Room room next (own_bytes section kind all base)
    own_room n = omega (arith, all_room)

  module _ {section : Section} {d e : List ℕ} {to : ℕ} {r : Put} {text : ℕ} {own : Counts} (v : PutItemsIs section s base d e to r text (all_of left s kind l)) (is-own : own ≡ own_counts kind l.count text) where
    -- What is there after them is what the list adds to what was there before.
    sum_is : plus r.there own ≡ plus base (pass_shape pieces left s at).made.counts
    sum_is =
        rw (is-own, v.there_is, v.text_is, m.passed, items-count (pass_shape pieces (left - 1)) kind s l.count l.from) (plus_assoc base all.counts (own_counts kind l.count all.text))

    -- So it is few,
    pub sum-few : Few (plus base (pass_shape pieces left s at).made.counts) → Few (plus r.there own)
    sum-few few = subst (λ (c : Counts). Few c) (sym sum_is) few

    -- and with the entries written the list is.
    pub list_put : {f : List ℕ} {end : ℕ} {there : Counts} → Room (length d) to ((pass_shape pieces left s at).made.bytes section base)
        → Wrote e f r.to (own_bytes section kind all base) end → there ≡ plus r.there own
        → PutIs section s base d f to (record { next = r.next; to = end; there = there }) (pass_shape pieces left s at)
    list_put fits w h =
        record {
          wrote = rw m.passed (wrote_after (omega (arith, items-room section (length d) to fits)) v.wrote w);
          next_is = v.next_is ∙ rw m.passed;
          there_is = h ∙ sum_is;
          inside = v.inside;
        }
