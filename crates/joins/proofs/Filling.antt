-- An entry of a sheet, filled: where its encoding stands, the pass that writes from those bytes speaks of its shape.
--     room-filled      there is room for the shape, filled
--     wrote-filled     what is written is the encoding of the shape, filled
-- Assumes nothing.
use Prim.Native.Nat.{ℕ, ◌+◌, ◌≤◌}
use mathlib.Core.Path.{◌≡◌}
use mathlib.Core.List.{List}
use lib.ListN.{length}
use Rattle.meaning.specs.Limits.{max_bytes}
use Rattle.meaning.specs.Shape.{Shape}
use Rattle.meaning.specs.Encode.{encode}
use Rattle.meaning.specs.Reading.{reading}
use Rattle.meaning.specs.Sheet.{plug}
use Rattle.buffers.specs.Written.{written}
use Rattle.sheets.specs.declared.Part.{Part}
use Rattle.sheets.specs.Index.{PartIs}
use Rattle.writes.specs.Writes.{RoomFor, WroteFor}
use Rattle.merges.proofs.Filling.{lent, part-reading}

module _ {s : List ℕ} {t : Shape} {p : Part} (h : PartIs s t p) where
  -- There is room for the shape, filled.
  pub room-filled : (σ : ℕ → Shape) (room to : ℕ) → to + length (encode (plug σ t)) ≤ room → length (encode (plug σ t)) ≤ max_bytes
      → RoomFor σ room to (reading (lent s p))
  room-filled σ room to a b = rw (part-reading h) (a, b)

  -- What is written is the encoding of the shape, filled.
  pub wrote-filled : (σ : ℕ → Shape) (d e : List ℕ) (to r : ℕ) → WroteFor σ d e to r (reading (lent s p))
      → (r ≡ to + length (encode (plug σ t))) × (e ≡ written d to (encode (plug σ t)))
  wrote-filled σ d e to r w = rw (part-reading h) at w
