-- A node that becomes a list: how its bytes are written, its head last.
--     list-room      where the node has room, its count and its links have
--     list_wrote     with count, links and head written, the node is
-- Assumes nothing.
use mathlib.Core.Path.{◌≡◌, ◌∙◌}
use mathlib.Core.List.{List, ◌++◌}
use Prim.Native.Nat.{ℕ, ◌+◌, ◌-◌, ◌≤◌, ◌<◌}
use native.Mathlib.Omega.{arith}
use lib.ListN.{length, length-append}
use Rattle.meaning.specs.Table.{Node}
use Rattle.buffers.specs.Written.{written}
use Rattle.buffers.proofs.Written.{written_after, written-before}
use Rattle.std.specs.Prelude.{Option}
use Rattle.payloads.specs.declared.first.Kind.{Kind}
use Rattle.steps.specs.Heads.{head_bytes}
use Rattle.tables.specs.declared.Table.{Table}
use Rattle.tables.specs.declared.Way.{Way}
use Rattle.tables.specs.Places.{node_at}
use Rattle.forms.specs.declared.Form.TheVariants as form
use Rattle.forms.specs.Forms.{form_of, count_bytes}
use Rattle.writer.specs.Bytes.{with_head, encoded_at, links_bytes}
use Rattle.writer.specs.Sound.{Room}
use Rattle.writer.proofs.Links.{node-by-form}

module _ (table : Table) (i : ℕ) (below : i < table.count) (n : Node) (is : n ≡ node_at table.nodes.now i)
    (kind : Kind) (way : Way) (c : Option ℕ) (listed : form_of table.nodes.now table.rest.now n ≡ form.List kind way c)
    (room to : ℕ) (fits : Room room to (encoded_at table i)) where
  -- the bytes of the count, and of the links
  abbrev x : List ℕ
  x = count_bytes c

  abbrev y : List ℕ
  y = links_bytes table way n.a n.b

  -- The node's bytes are the head, and these.
  whole : encoded_at table i ≡ with_head kind (x ++ y)
  whole = node-by-form table i below n is (form.List kind way c) listed

  -- Count and links have room after the head.
  pub list-room : (to + 3 + length x + length y ≤ room) × (length x + length y < 65536)
  list-room = let a = length-append x y in let f = rw whole at fits in (omega (arith, f.0), omega (arith, f.1))

  -- They are written, the head last.
  pub list_wrote : (d e f g : List ℕ) (from end : ℕ) → length d ≡ room → e ≡ written d (to + 3) x → from ≡ to + 3 + length x
      → f ≡ written e from y → end ≡ from + length y → g ≡ written f to (head_bytes kind (end - to - 3))
      → (end ≡ to + length (encoded_at table i)) × (g ≡ written d to (encoded_at table i))
  list_wrote d e f g from end r w1 u1 w2 u2 w3 =
      let a = length-append x y in
      let m = list-room in
      let k : end - to - 3 ≡ length (x ++ y) = omega arith in
      let u : f ≡ written d (to + 3) (x ++ y) = w2 ∙ rw (w1, u1) (written_after d (to + 3) x y (omega (arith, m.0))) in
      rw whole (omega arith, w3 ∙ rw (k, u) (written-before d to (head_bytes kind (length (x ++ y))) (x ++ y) (omega (arith, m.0))))
