-- What the items of a list add grows item by item, so that what is few or has room at the end was so all the way.
--     Below, below-few     counts that are nowhere larger, and so few
--     grows                counts, items and texts grow
--     items-count          a list has as many items as were passed over
--     shapes-grow, own-grow     the bytes grow
-- Assumes nothing.
use mathlib.Core.Path.{◌≡◌, sym, ◌∙◌}
use mathlib.Core.List.{List}
use Prim.Native.Nat.{ℕ, zero, suc, ◌+◌, ◌-◌, ◌≤◌}
use native.Mathlib.Nat.{add-zero, zero-add}
use native.Mathlib.Omega.{arith}
use lib.ListN.{length, length-append}
use lib.Seq.{slice}
use Rattle.payloads.specs.declared.first.Kind.{Kind}
use Rattle.steps.specs.Steps.{past_name}
use Rattle.steps.specs.Pass.{Passer, pass_items}
use Rattle.counts.specs.declared.Counts.{Counts}
use Rattle.counts.specs.declared.Section.{Section}
use Rattle.counts.specs.Pieces.{Few, Piece, Gathered, text_in, plus, item_entry, no_items, with_item, pieces}

-- counts that are nowhere larger
pub record Below (a b : Counts) : Type 0 where
  pub nodes : a.nodes ≤ b.nodes
  pub links : a.links ≤ b.links
  pub names : a.names ≤ b.names
  pub text : a.text ≤ b.text

-- Counts below few are few.
pub below-few : (a b : Counts) → Below a b → Few b → Few a
below-few a b h f = (omega (arith, h.nodes, f.0), omega (arith, h.links, f.1), omega (arith, h.names, f.2), omega (arith, h.text, f.3))

-- items that grew
pub record Grew (a b : Gathered) : Type 0 where
  pub counts : Below a.counts b.counts
  pub items : a.items ≤ b.items
  pub text : a.text ≤ b.text

module _ (inner : Passer Piece) (kind : Kind) (s : List ℕ) where
  -- What the items add grows.
  pub grows : (due at : ℕ) (a : Gathered) → Grew a (pass_items pieces inner kind due s at a).made
  unfolding pass_items
  grows zero at a = record { counts = record { nodes = omega arith; links = omega arith; names = omega arith; text = omega arith }; items = omega arith; text = omega arith }
  grows (suc due) at a =
      let v = inner s (past_name s at kind) in
      let g = grows due v.next (with_item a (slice at (past_name s at kind) s) v.made) in
      record {
        counts = record { nodes = omega (arith, g.counts.nodes); links = omega (arith, g.counts.links); names = omega (arith, g.counts.names); text = omega (arith, g.counts.text) };
        items = omega (arith, g.items);
        text = omega (arith, g.text);
      }

  -- There are as many items as were passed over.
  counted : (due at : ℕ) (a : Gathered) → (pass_items pieces inner kind due s at a).made.items ≡ a.items + due
  unfolding pass_items
  counted zero at a = sym (add-zero _)
  counted (suc due) at a =
      let v = inner s (past_name s at kind) in
      let g = counted due v.next (with_item a (slice at (past_name s at kind) s) v.made) in omega (arith, g)

  pub items-count : (count from : ℕ) → (pass_items pieces inner kind count s from no_items).made.items ≡ count
  items-count count from = counted count from no_items ∙ zero-add count

  -- The bytes of their shapes grow.
  pub shapes-grow : (section : Section) (before : Counts) (due at : ℕ) (a : Gathered) → length (a.shapes section before) ≤ length ((pass_items pieces inner kind due s at a).made.shapes section before)
  unfolding pass_items
  shapes-grow section before zero at a = omega arith
  shapes-grow section before (suc due) at a =
      let v = inner s (past_name s at kind) in
      let g = shapes-grow section before due v.next (with_item a (slice at (past_name s at kind) s) v.made) in
      omega (arith, g, length-append (a.shapes section before) (v.made.bytes section (plus before a.counts)))

  -- So do the entries that the list's node has for them.
  pub own-grow : (section : Section) (of : Kind) (before after : Counts) (due at : ℕ) (a : Gathered) → length (a.own section of before after) ≤ length ((pass_items pieces inner kind due s at a).made.own section of before after)
  unfolding pass_items
  own-grow section of before after zero at a = omega arith
  own-grow section of before after (suc due) at a =
      let w = slice at (past_name s at kind) s in
      let v = inner s (past_name s at kind) in
      let g = own-grow section of before after due v.next (with_item a w v.made) in
      omega (arith, g, length-append (a.own section of before after) (item_entry section of (before.nodes + (a.counts.nodes + v.made.counts.nodes) - 1) (after.names + a.items) (after.text + a.text) (text_in w)))
