-- Each name of a table stands beside a link: no shape adds more names than links.
--     items-linked     what is made of a list's items, if so of each one's shape
--     shape-linked     what is made of a shape, whatever the input's bytes are
-- Assumes nothing.
use mathlib.Core.List.{List}
use Prim.Native.Nat.{ℕ, zero, suc, ◌+◌, ◌-◌, ◌≤◌}
use native.Mathlib.Omega.{arith}
use lib.Dec.{ltb, eqb}
use lib.ListN.{length}
use Rattle.meaning.specs.FirstByte.{short_blanks, array_byte, map_byte}
use Rattle.meaning.proofs.Rules.{rule}
use Rattle.payloads.specs.Payload.{named}
use Rattle.payloads.specs.declared.first.Kind.{Kind}
use Rattle.payloads.specs.declared.first.Kind.TheVariants.{Array, Map, Record, Function, Symbol, Variable}
use Rattle.payloads.specs.declared.first.First.{First}
use Rattle.payloads.specs.declared.first.First.TheVariants.{Unassigned, Short, Long}
use Rattle.steps.specs.Steps.{first_at, list_at, past_name}
use Rattle.steps.specs.declared.Listing.{Listing}
use Rattle.steps.specs.Pass.{Came, came, Passer, pass_items, pass_list, pass_long, pass_first, pass_shape}
use Rattle.counts.specs.Pieces.{Piece, Gathered, nothing, no_items, list_piece, short_piece, gather_texts, texts_of, symbol_piece, pieces, Linked}

-- A list's node adds a link for each item, and no more names.
list-linked : (kind : Kind) (a : Gathered) → Linked a.counts → Linked (list_piece kind a).counts
list-linked kind a h = rule (λ n. a.counts.names + n ≤ a.counts.links + a.items) (named kind) _ _ (λ p. omega arith) (λ p. omega arith)

-- So do a shape of one byte,
short-linked : (b : ℕ) → Linked (short_piece b).counts
unfolding short_piece
short-linked b =
    rule (λ (v : Piece). Linked v.counts) (ltb b short_blanks) _ _ (λ p. omega arith) λ p.
    rule (λ (v : Piece). Linked v.counts) (ltb b (array_byte 0)) _ _ (λ q. omega arith) λ q.
    rule (λ (v : Piece). Linked v.counts) (ltb b (map_byte 0 0)) _ _ (λ r. omega arith) λ r.
    omega arith

-- texts one after the other,
texts-linked : (count : ℕ) (w : List ℕ) (at : ℕ) (a : Gathered) → Linked a.counts → Linked (gather_texts count w at a).counts
unfolding gather_texts
texts-linked zero w at a h = h
texts-linked (suc count) w at a h = texts-linked count w _ _ (omega arith)

-- and a Symbol.
symbol-linked : (w : List ℕ) → Linked (symbol_piece w).counts
unfolding symbol_piece
symbol-linked w = list-linked Symbol (texts_of w) (texts-linked _ w _ no_items (omega arith))

module _ (s : List ℕ) where
  -- So do the items of a list, if their shapes do,
  pub items-linked : (inner : Passer Piece) → ((at : ℕ) → Linked (inner s at).made.counts)
      → (kind : Kind) (count at : ℕ) (a : Gathered) → Linked a.counts → Linked (pass_items pieces inner kind count s at a).made.counts
  unfolding pass_items
  items-linked inner ih kind zero at a h = h
  items-linked inner ih kind (suc count) at a h = items-linked inner ih kind count _ _ (omega (arith, ih (past_name s at kind)))

  -- a shape with a list,
  payload-linked : (left : ℕ) (inner : Passer Piece) → ((at : ℕ) → Linked (inner s at).made.counts)
      → (at : ℕ) (kind : Kind) → Linked (pass_list pieces left inner s at kind).made.counts
  unfolding pass_list
  payload-linked left inner ih at kind =
      rule (λ (r : Came Piece). Linked r.made.counts) (eqb left 0) _ _ (λ p. omega arith) λ p.
      rule (λ (r : Came Piece). Linked r.made.counts) (ltb (length s - at) 3) _ _ (λ q. omega arith) λ q.
      let l : Listing = list_at s (at + 3) kind in
      list-linked kind (pass_items pieces inner kind l.count s l.from no_items).made (items-linked inner ih kind l.count l.from no_items (omega arith))

  -- a shape with a payload,
  long-linked : (left : ℕ) (inner : Passer Piece) → ((at : ℕ) → Linked (inner s at).made.counts)
      → (at : ℕ) (kind : Kind) → Linked (pass_long pieces left inner s at kind).made.counts
  unfolding pass_long
  long-linked left inner ih at Array = payload-linked left inner ih at Array
  long-linked left inner ih at Map = payload-linked left inner ih at Map
  long-linked left inner ih at Record = payload-linked left inner ih at Record
  long-linked left inner ih at Function = payload-linked left inner ih at Function
  long-linked left inner ih at Symbol = symbol-linked _
  long-linked left inner ih at Variable = rule (λ (r : Came Piece). Linked r.made.counts) (ltb (length s - at) 5) _ _ (λ p. omega arith) (λ p. omega arith)

  -- a shape by its first byte,
  first-linked : (left : ℕ) (inner : Passer Piece) → ((at : ℕ) → Linked (inner s at).made.counts)
      → (at : ℕ) (f : First) → Linked (pass_first pieces left inner s at f).made.counts
  unfolding pass_first
  first-linked left inner ih at Unassigned = omega arith
  first-linked left inner ih at (Short levels) = short-linked _
  first-linked left inner ih at (Long kind) = long-linked left inner ih at kind

  -- and so every shape.
  pub shape-linked : (left at : ℕ) → Linked (pass_shape pieces left s at).made.counts
  unfolding pass_shape
  shape-linked zero at = first-linked zero (λ s at. came at nothing) (λ at. omega arith) at (first_at s at)
  shape-linked (suc left) at = first-linked (suc left) (pass_shape pieces left) (λ at. shape-linked left at) at (first_at s at)
