-- An entry of a sheet, filled: where its encoding stands, the pass that measures those bytes speaks of its shape.
--     lent             the bytes of a part, as a call is lent them
--     part_bytes       they are the encoding of its shape
--     part-reading     they are read as its shape
--     span_filled      what is measured there is the span of the shape, filled
-- Assumes nothing.
use Prim.Native.Nat.{ℕ, ◌+◌, ◌-◌}
use mathlib.Core.Path.{◌≡◌, ◌∙◌, ap}
use mathlib.Core.List.{List, []}
use native.Mathlib.Omega.{arith}
use lib.ListN.{length, take, drop}
use lib.Seq.{take-length}
use Rattle.meaning.specs.Shape.{Shape, depth}
use Rattle.meaning.specs.Encode.{encode}
use Rattle.meaning.specs.Reading.{got, reading}
use Rattle.meaning.specs.Sheet.{plug}
use Rattle.meaning.proofs.Window.{window-take}
use Rattle.meaning.proofs.Laws.{reading-encode}
use Rattle.sheets.specs.declared.Part.{Part}
use Rattle.sheets.specs.Index.{PartIs}
use Rattle.sizes.specs.declared.Size.{Size}
use Rattle.sizes.specs.Sizes.{MeasureIs}
use Rattle.merges.specs.declared.Span.{Span}

-- the bytes from start to end, as a call is lent them
abbrev pub lent : List ℕ → Part → List ℕ
lent s p = take (p.end - p.start) (drop p.start s)

-- a length and a depth
abbrev span : ℕ → ℕ → Span
span l d = record { length = l; depth = d }

module _ {s : List ℕ} {t : Shape} {p : Part} (h : PartIs s t p) where
  -- The bytes of a part are the encoding of its shape.
  pub part_bytes : lent s p ≡ encode t
  part_bytes =
      let b = h.inside in
      let a = h.some in
      let z : p.start + (p.end - p.start) ≡ p.end = omega arith in
      rw (take-length s, z) at (window-take s p.start (length s) (p.end - p.start) (omega arith)) ∙ h.is

  -- They are read as that shape.
  pub part-reading : reading (lent s p) ≡ got t []
  part-reading = rw part_bytes (reading-encode t h.within)

  -- What is measured there is the span of the shape, filled.
  pub span_filled : (σ : ℕ → Shape) (z : Size) → MeasureIs σ (reading (lent s p)) z
      → span z.length z.depth ≡ span (length (encode (plug σ t))) (depth (plug σ t))
  span_filled σ z m = ap (λ (z : Size). span z.length z.depth) (rw part-reading at m)
