-- Laws of the entries of an Array and a Map of primitives (counts/specs/Pieces.antt), as they are written.
--     array-bytes, map-bytes     entry by entry
-- Assumes nothing.
use mathlib.Core.Path.{◌≡◌, refl}
use mathlib.Core.Bool.{true, false}
use mathlib.Core.List.{[], ◌++◌, append_assoc}
use Prim.Native.Nat.{ℕ, ◌+◌, ◌-◌}
use native.Mathlib.Nat.{add-zero}
use native.Mathlib.Omega.{arith}
use Rattle.meaning.specs.Table.{array_kind, map_kind}
use Rattle.payloads.specs.Payload.{named, shaped}
use Rattle.payloads.specs.declared.first.Kind.{Kind}
use Rattle.payloads.specs.declared.first.Kind.TheVariants.{Array, Map}
use Rattle.counts.specs.declared.Counts.{Counts}
use Rattle.counts.specs.declared.Section.{Section}
use Rattle.counts.specs.declared.Section.TheVariants.{Nodes, Links, Names, Text}
use Rattle.counts.specs.Pieces.{text_in, node_entry, item_entry, list_piece, packed_array, packed_map}
use Rattle.counts.proofs.Texted.{text-none}
use Rattle.way_back.specs.Puts.{bare_entry}

-- The item of a kind without names is a bare link.
item-bare : (section : Section) (kind : Kind) (m n k start : ℕ) → shaped kind ≡ true → named kind ≡ false → m ≡ n
    → item_entry section kind m k start (text_in []) ≡ bare_entry section n
item-bare Nodes kind m n k start p q e = refl
item-bare Links kind m n k start p q e = rw (p, q, e)
item-bare Names kind m n k start p q e = rw q
item-bare Text kind m n k start p q e = text-none

module _ (section : Section) (base : Counts) where
  -- An Array of a primitive is the primitive's node, a link to it, and the Array's node.
  pub array-bytes : (p : ℕ) → (list_piece Array (packed_array p)).bytes section base
      ≡ node_entry section p 0 0 ++ (bare_entry section base.nodes ++ node_entry section array_kind base.links 1)
  array-bytes p = rw (item-bare section Array (base.nodes + 1 - 1) base.nodes _ _ refl refl (omega arith), add-zero base.links)

  -- A Map of two primitives is their nodes, a link to each, and the Map's node.
  pub map-bytes : (p q : ℕ) → (list_piece Map (packed_map p q)).bytes section base
      ≡ node_entry section p 0 0 ++ (node_entry section q 0 0 ++ (bare_entry section base.nodes ++ (bare_entry section (base.nodes + 1) ++ node_entry section map_kind base.links 2)))
  map-bytes p q =
      rw (item-bare section Map (base.nodes + 1 - 1) base.nodes _ _ refl refl (omega arith), item-bare section Map (base.nodes + 2 - 1) (base.nodes + 1) _ _ refl refl (omega arith), add-zero base.links)
      (simp append_assoc)
