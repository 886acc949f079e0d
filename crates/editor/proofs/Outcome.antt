-- The records, put one after the other, are the bytes of the table's nodes.
--     front, put-more     the bytes of the first k records, and of one more
--     section-made        all records, put one after the other, are the section's bytes
-- Assumes nothing.
use Prim.Native.Nat.{ℕ, suc, ◌+◌, ◌*◌, ◌≤◌, ◌<◌}
use mathlib.Core.Path.{◌≡◌, refl}
use mathlib.Core.List.{List, ◌++◌, map, map-append, append-nil}
use native.Mathlib.Nat.{zero-add}
use native.Mathlib.Numerals.{add-one}
use native.Mathlib.Omega.{arith}
use lib.ListN.{length, take, get_or, length-map}
use lib.Seq.{take-suc, take_at, length-take-le}
use Rattle.meaning.specs.Table as Meant
use Rattle.meaning.specs.TableReading.{node_size}
use Rattle.meaning.proofs.TableBytes.{nodes-append, nodes-length}
use Rattle.buffers.specs.Written.{written}
use Rattle.buffers.proofs.Written.{written_after}
use Rattle.tables.specs.Places.{node_bytes}
use Rattle.editor.specs.declared.Node.{Node}
use Rattle.editor.specs.Records.{meant}

-- The bytes of the first k records.
abbrev pub front : List Node → ℕ → List ℕ
front nodes k = Meant.nodes_bytes (map meant (take k nodes))

front_length : (nodes : List Node) (k : ℕ) → k ≤ length nodes → length (front nodes k) ≡ node_size * k
front_length nodes k h = rw (nodes-length (map meant (take k nodes)), length-map, length-take-le k nodes h) refl

-- One record more.
front-more : (nodes : List Node) (k : ℕ) (d : Node) → k < length nodes → front nodes (suc k) ≡ front nodes k ++ node_bytes (get_or nodes k d).kind (get_or nodes k d).a (get_or nodes k d).b
unfolding Meant.nodes_bytes
front-more nodes k d h = rw (take-suc nodes k d h, map-append, nodes-append, append-nil) refl

-- Put after the first k into bytes, it is there with them.
pub put-more : (nodes : List Node) (bytes : List ℕ) (k : ℕ) (d : Node) → k < length nodes → node_size * length nodes ≤ length bytes
    → written (written bytes 0 (front nodes k)) (node_size * k) (node_bytes (get_or nodes k d).kind (get_or nodes k d).a (get_or nodes k d).b) ≡ written bytes 0 (front nodes (k + 1))
put-more nodes bytes k d h room =
    let l = front_length nodes k (omega arith) in
    rw (add-one k, front-more nodes k d h, ← written_after bytes 0 (front nodes k) _ (rw l (omega arith)), l, zero-add) refl

-- All records, put one after the other, are the section's bytes.
pub section-made : (nodes : List Node) (bytes : List ℕ) → take (node_size * length nodes) (written bytes 0 (Meant.nodes_bytes (map meant nodes))) ≡ Meant.nodes_bytes (map meant nodes)
unfolding written
section-made nodes bytes = take_at (Meant.nodes_bytes (map meant nodes)) _ (node_size * length nodes) (rw (nodes-length (map meant nodes), length-map) refl)
