-- What the writer answers, from what the code finds out.
--     Found, root-found             what is held of the last node is found of what the table means
--     found-comes                   the verdict where this is found
--     write-refused, write-made     a table that is refused, and one that is read
-- Assumes nothing.
use Prim.Native.Nat.{ℕ, ◌-◌, min}
use mathlib.Core.Path.{◌≡◌, sym, ap}
use mathlib.Core.List.{List, []}
use native.Mathlib.Omega.{arith}
use lib.ListN.{length, get_or}
use Rattle.std.specs.Prelude.{Result}
use Rattle.leaves.specs.declared.refusals.Refusal.{Refusal}
use Rattle.meaning.specs.Shape.{Shape, depth}
use Rattle.meaning.specs.Encode.{encode}
use Rattle.meaning.specs.Reading.{got, bad}
use Rattle.meaning.specs.Table as Meant
use Rattle.meaning.specs.Table.{shape_of, table_shape}
use Rattle.meaning.specs.TableReading.{read_table}
use Rattle.meaning.specs.Answers.{refused, onto, write_answer}
use Rattle.buffers.specs.Verdicts.{verdict_of}
use Rattle.buffers.proofs.Verdicts.{Comes, comes}
use Rattle.tables.specs.declared.Table.{Table}
use Rattle.tables.proofs.Whole.{nodes-length}
use Rattle.extents.specs.Extents.{over, too_deep, ExtentsTo}
use Rattle.extents.specs.declared.Extent.{Extent}
use Rattle.extents.proofs.Shapes.{shapes-held}
use Rattle.writer.specs.Bytes.{table_of, encoded_at}
use Rattle.writer.specs.Sound.{sound_answer}

-- what is found of a shape: so many bytes and levels, up to one over their limits
pub record Found (s : Shape) (needed deep : ℕ) : Type 0 where
  pub bytes : needed ≡ min (length (encode s)) over
  pub levels : deep ≡ min (depth s) too_deep

module _ (table : Table) where
  -- The last node is the root.
  root_is : table_shape (table_of table) ≡ shape_of (table_of table) (table.count - 1)
  root_is = rw (nodes-length table.nodes.now table.rest.now table.count table.links table.names table.sound.whole)

  -- Its bytes are those of what the table means.
  pub root-encoded : encoded_at table (table.count - 1) ≡ encode (table_shape (table_of table))
  unfolding encoded_at
  root-encoded = ap encode (sym root_is)

  -- What is held of it is found of what the table means.
  pub root-found : (lengths depths : List ℕ) → ExtentsTo table.nodes.now table.rest.now table.links lengths depths table.count → Found (table_shape (table_of table)) (get_or lengths (table.count - 1) 0) (get_or depths (table.count - 1) 0)
  root-found lengths depths to =
      let s = table.sound in
      let e = shapes-held table.nodes.now table.rest.now table.count table.links table.names _ s.whole s.fits s.nodes_good s.names_good lengths depths to (table.count - 1) (omega (arith, s.some)) in
      rw root_is (record { bytes = ap (λ (x : Extent). x.length) e; levels = ap (λ (x : Extent). x.depth) e })

-- The verdict on what is found is that on the shape.
pub found-comes : {s : Shape} {needed deep : ℕ} → Found s needed deep → (room : ℕ) {v : Result ℕ Refusal} → v ≡ verdict_of needed deep room → Comes s room v
found-comes {s} {needed} {deep} f room = comes s needed deep room (omega (arith, f.bytes)) (omega (arith, f.levels))

-- A table that is refused is answered so.
pub write-refused : (w : List ℕ) (room : ℕ) {n p : ℕ} → read_table w ≡ bad n p → write_answer w room ≡ refused n p
unfolding write_answer onto
write-refused w room h = rw h

-- What one that is read means is left to be answered.
pub write-made : (w : List ℕ) (room : ℕ) {T : Meant.Table} → read_table w ≡ got T [] → write_answer w room ≡ sound_answer T room
unfolding write_answer onto
write-made w room h = rw h
