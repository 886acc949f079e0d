-- The pass that writes makes of every shape the bytes of that shape, its blanks filled.
--     writes-making     it makes what it should of what it meets
-- Assumes nothing.
use mathlib.Core.Path.{◌≡◌, refl, sym, ap, ◌∙◌}
use mathlib.Core.List.{List, [], ◌∷◌, ◌++◌, append_assoc, append-nil}
use mathlib.Core.Option.{Option, none, some}
use Rattle.std.specs.Prelude.{Some}
use Prim.Native.Nat.{ℕ}
use native.Mathlib.Omega.{arith}
use borrow.Author.Tests.{lt-ltb, le-ltb}
use Rattle.meaning.specs.Shape.{Primitive, Tree, fields, parameters, Shape, no_fields, field, no_parameters, parameter}
use Rattle.meaning.specs.FirstByte.{short_blanks, Class, whole, packed, long, unassigned, class_of}
use Rattle.meaning.specs.Encode.{as_prim, array_bytes, map_bytes, encode}
use Rattle.meaning.specs.Parts.{bare, field_items, parameter_items, name_bytes}
use Rattle.meaning.specs.Parts as Parts
use Rattle.meaning.specs.Sheet.{plug}
use Rattle.meaning.proofs.Sound.{by-class}
use Rattle.meaning.proofs.Plug.{fields-kept, parameters-kept}
use Rattle.payloads.specs.declared.first.Kind.TheVariants.{Array, Map}
use Rattle.steps.proofs.Passed.{gathered, Making}
use Rattle.writes.specs.Writes.{Items, items, more, list_bytes, short_bytes, writes}
use Rattle.writes.proofs.Peeks.{code_if, prim-encoded}

-- An Array is written as it is encoded,
array_written : (o : Option Primitive) (w : List ℕ) → list_bytes Array [] (items (more (Some 0) (code_if o)) w) ≡ array_bytes o w
unfolding array_bytes
array_written none w = refl
array_written (some p) w = (ap (λ (n : ℕ). n ∷ []) (omega arith))

-- and so is a Map.
map-written : (o q : Option Primitive) (w : List ℕ) → list_bytes Map [] (items (more (more (Some 0) (code_if o)) (code_if q)) w) ≡ map_bytes o q w
unfolding map_bytes
map-written none q w = refl
map-written (some p) none w = refl
map-written (some p) (some q) w = (ap (λ (n : ℕ). n ∷ []) (omega arith))

-- what is made of a byte, by what the byte says
MadeBy : (ℕ → Shape) → ℕ → Class → Type 0
MadeBy σ b (whole s) = short_bytes σ b ≡ encode (plug σ s)
MadeBy σ b (packed s) = short_bytes σ b ≡ encode (plug σ s)
MadeBy σ b (long k) = Unit {0}
MadeBy σ b unassigned = Unit {0}

-- Of a byte that is a shape the bytes of that shape are made.
byte-made : (σ : ℕ → Shape) (b : ℕ) → MadeBy σ b (class_of b)
unfolding MadeBy encode plug array_bytes map_bytes as_prim
byte-made σ b =
    by-class (MadeBy σ b) b
    (λ h. rw (lt-ltb b short_blanks h))
    (λ p e. rw (le-ltb b short_blanks (omega arith), e))
    (λ p e. rw (le-ltb b short_blanks (omega arith), e))
    (λ p q e. rw (le-ltb b short_blanks (omega arith), e))
    (λ k e. tt)
    tt

module _ (σ : ℕ → Shape) where
  -- the bytes of a shape, filled
  abbrev filled : Shape → List ℕ
  filled t = encode (plug σ t)

  -- What is gathered of fields is their bytes, filled,
  fields-gathered : (f : Tree fields) (a : Items) → (gathered (writes σ) filled a (field_items f)).bytes ≡ a.bytes ++ encode (plug σ f)
  unfolding field_items name_bytes plug encode
  fields-gathered no_fields a = sym (append-nil a.bytes)
  fields-gathered (field n s f) a = fields-gathered f _ ∙ simp append_assoc

  -- and so of parameters and a return.
  parameters-gathered : (p : Tree parameters) (r : Shape) (a : Items)
      → (gathered (writes σ) filled a (parameter_items p ++ (bare r ∷ []))).bytes ≡ a.bytes ++ (encode (plug σ p) ++ filled r)
  unfolding parameter_items name_bytes plug encode
  parameters-gathered no_parameters r a = refl
  parameters-gathered (parameter s p) r a = parameters-gathered p r _ ∙ simp append_assoc

  -- The pass that writes makes of every shape its bytes, filled.
  pub writes-making : Making (writes σ) filled
  unfolding Parts.items name_bytes plug encode MadeBy
  writes-making =
      record {
        whole = λ b s e. rw e at (byte-made σ b);
        packed = λ b s e. rw e at (byte-made σ b);
        blanks = λ n h. refl;
        symbols = λ ts l. refl;
        arrays = λ s h. rw (prim-encoded (plug σ s)) (array_written (as_prim (plug σ s)) (filled s));
        maps = λ s t h. rw (prim-encoded (plug σ s), prim-encoded (plug σ t)) (map-written (as_prim (plug σ s)) (as_prim (plug σ t)) (filled s ++ filled t));
        records = λ f. rw (fields-gathered f (writes σ).start, fields-kept σ f);
        functions = λ p r. rw (parameters-gathered p r (writes σ).start, parameters-kept σ p);
      }
