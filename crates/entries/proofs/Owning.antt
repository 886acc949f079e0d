-- The turns of the loop that writes the entries that a list's node has for its items, and the room that they have.
--     Turn                    what the loop keeps: the entries of the items so far stand in the buffer, and the others end as the whole list does
--     few-inner, few-sums     where the whole list's entries say what is few, what the item's shape adds is few, and what the loop adds up stays few
--     starts-within           the item's shape starts inside
--     item-fits               where they have room, the item's entry can be written
--     turn_on                 a turn keeps it
-- Assumes nothing.
use mathlib.Core.Path.{◌≡◌, ◌∙◌}
use mathlib.Core.List.{List, ◌++◌}
use Prim.Native.Nat.{ℕ, ◌+◌, ◌-◌, ◌≤◌, ◌<◌, max}
use native.Mathlib.Omega.{arith}
use lib.ListN.{length, take, drop, length-append}
use lib.Seq.{slice, length-slice}
use Rattle.payloads.specs.declared.first.Kind.{Kind}
use Rattle.steps.specs.Steps.{past_name}
use Rattle.steps.specs.Pass.{pass_items}
use Rattle.counts.specs.declared.Counts.{Counts}
use Rattle.counts.specs.declared.Counted.{Counted}
use Rattle.counts.specs.declared.Section.{Section}
use Rattle.counts.specs.Pieces.{Few, Gathered, text_in, item_entry, with_item, pieces, inner}
use Rattle.counts.specs.Counts.{CountedIs}
use Rattle.counts.proofs.Grows.{below-few, grows, own-grow}
use Rattle.counts.proofs.Counting.{part-is, items-next}
use Rattle.entries.specs.Entries.{FewOwn, items_at, Wrote, Room}
use Rattle.entries.proofs.Wrote.{wrote_after}

-- what the loop keeps, of the buffer d that is now e: the items so far are a
pub record Turn (section : Section) (s : List ℕ) (from left : ℕ) (kind : Kind) (count : ℕ) (base after : Counts) (d : List ℕ) (first : ℕ) (e : List ℕ) (at to nodes text k : ℕ) : Type 0 where
  pub a : Gathered
  pub goes : items_at left kind count s from ≡ pass_items pieces (inner left kind) kind (count - k) s at a
  pub few : FewOwn base after a
  pub wrote : Wrote d e first (a.own section kind base after) to
  pub nodes-is : nodes ≡ a.counts.nodes
  pub text_is : text ≡ a.text
  pub items-are : a.items ≡ k
  pub long : length e ≡ length d
  pub inside : at ≤ length s

module _ {section : Section} {s : List ℕ} {from left : ℕ} {kind : Kind} {count : ℕ} {base after : Counts} {d : List ℕ} {first : ℕ} {e : List ℕ} {at to nodes text k : ℕ}
    (t : Turn section s from left kind count base after d first e at to nodes text k)
    (few : FewOwn base after (items_at left kind count s from).made) (due : k < count) {start : ℕ} (is : start ≡ past_name s at kind) where
  -- the items so far, and the one that is next
  abbrev more : Gathered
  more = with_item t.a (slice at start s) (inner left kind s start).made

  -- The others follow it.
  rest : items_at left kind count s from ≡ pass_items pieces (inner left kind) kind (count - (k + 1)) s (inner left kind s start).next more
  rest = t.goes ∙ items-next (inner left kind) kind s at t.a k count due ∙ rw (← is)

  -- With it the entries say what is few.
  few-more : FewOwn base after more
  few-more =
      let g = rw (← rest) at (grows (inner left kind) kind s (count - (k + 1)) (inner left kind s start).next more) in
      (below-few _ _ g.counts few.0, omega (arith, g.counts.nodes, few.1), omega (arith, g.items, few.2), omega (arith, g.text, few.3))

  -- What its shape adds is few.
  pub few-inner : Few (inner left kind s start).made.counts
  few-inner = let f = few-more.0 in (omega (arith, f.0), omega (arith, f.1), omega (arith, f.2), omega (arith, f.3))

  module _ (inside : (at ≤ start) × (start ≤ max at (length s))) where
    -- Its shape starts inside.
    pub starts-within : start ≤ length s
    starts-within = omega (arith, inside.1, t.inside)

    -- the bytes of its name
    abbrev w : List ℕ
    w = take (start - at) (drop at s)

    -- It is the window there.
    w-is : w ≡ slice at start s
    w-is = part-is at start s inside.0 starts-within

    module _ {part : Counted} (is-part : CountedIs s part (inner left kind s start)) where
      -- What the loop adds up stays few.
      pub few-sums : (base.nodes + (nodes + part.counts.nodes) < 65536) × (after.names + (k + 1) < 65536) × (after.text + (text + length (text_in w)) < 65536)
      few-sums = rw (t.nodes-is, ← t.items-are, t.text_is, is-part.counts_is, w-is) (few-more.1, few-more.2, few-more.3)

      module _ (room : Room (length d) first ((items_at left kind count s from).made.own section kind base after))
          {target : ℕ} (is-target : target ≡ base.nodes + (nodes + part.counts.nodes) - 1) where
        -- what the section gets of the item
        abbrev entry : List ℕ
        entry = item_entry section kind target (after.names + k) (after.text + text) (text_in w)

        -- With it the entries are those so far and its own.
        joined : more.own section kind base after ≡ t.a.own section kind base after ++ entry
        joined = rw (is-target, t.nodes-is, t.text_is, ← t.items-are, is-part.counts_is, w-is)

        -- They have room.
        room-more : first + (length (t.a.own section kind base after) + length entry) ≤ length d
        room-more =
            let g = rw (← rest, joined, length-append) at (own-grow (inner left kind) kind s section kind base after (count - (k + 1)) (inner left kind s start).next more) in
            omega (arith, g, room)

        -- The item can be written.
        pub item-fits : length s < 65536 → (target < 65536) × (after.names + k < 65536) × (after.text + text < 65536) × (length w < 65536) × Room (length e) to entry
        item-fits h = (
          omega (arith, few-sums.0),
          omega (arith, few-sums.1),
          omega (arith, few-sums.2),
          rw (w-is, length-slice at start s starts-within) (omega arith),
          omega (arith, room-more, t.wrote.after, t.long),
        )

        -- With it written the loop goes on.
        pub turn_on : {f : List ℕ} {r size : ℕ} → Wrote e f to entry r → length f ≡ length e → size ≡ length (text_in w)
            → Turn section s from left kind count base after d first f part.next r (nodes + part.counts.nodes) (text + size) (k + 1)
        turn_on v l z =
            record {
              a = more;
              goes = rw is-part.next_is rest;
              few = few-more;
              wrote = rw joined (wrote_after (omega (arith, room-more)) t.wrote v);
              nodes-is = rw (t.nodes-is, is-part.counts_is);
              text_is = rw (t.text_is, z, w-is);
              items-are = rw t.items-are;
              long = l ∙ t.long;
              inside = is-part.inside;
            }
