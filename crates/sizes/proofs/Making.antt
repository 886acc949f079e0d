-- The pass `sizes` makes of every shape the size of the filled shape.
--     sizes-making     it does so of what it meets
--     measured         so it does of a whole accepted encoding
-- Assumes nothing.
use mathlib.Core.Path.{◌≡◌, refl, sym, ap, ◌∙◌}
use mathlib.Core.List.{List, [], ◌∷◌, ◌++◌}
use mathlib.Core.Bool.{Bool, true}
use mathlib.Core.Option.{Option, none, some}
use Prim.Native.Nat.{ℕ, ◌+◌, ◌<◌, max}
use native.Mathlib.Omega.{arith}
use borrow.Author.Tests.{lt-ltb, le-ltb}
use lib.ListN.{length, get_or, length-append}
use Rattle.meaning.specs.Limits.{max_levels}
use Rattle.meaning.specs.Numbers.{leb128}
use Rattle.meaning.specs.Shape.{Primitive, Tree, fields, parameters, Shape, array_of, map_of, no_fields, field, no_parameters, parameter, count, depth}
use Rattle.meaning.specs.FirstByte.{short_blanks, Class, whole, packed, long, unassigned, class_of}
use Rattle.meaning.specs.Encode.{as_prim, array_bytes, map_bytes, text_bytes, encode}
use Rattle.meaning.specs.Reading.{reading}
use Rattle.meaning.specs.Parts.{bare, field_items, parameter_items, items, name_bytes}
use Rattle.meaning.specs.Sheet.{plug}
use Rattle.meaning.proofs.Sound.{by-class}
use Rattle.meaning.proofs.Complete.{as-prim}
use Rattle.meaning.proofs.Laws.{by-reading}
use Rattle.meaning.proofs.Plug.{fields-kept, parameters-kept}
use Rattle.meaning.proofs.Window.{bytes-by-index}
use Rattle.payloads.specs.declared.first.Kind.TheVariants.{Array, Map}
use Rattle.steps.specs.Pass.{Came, pass_shape}
use Rattle.steps.proofs.Passed.{gathered, Making, pass-whole}
use Rattle.sizes.specs.declared.Size.{Size}
use Rattle.sizes.specs.declared.Sum.{Sum}
use Rattle.sizes.specs.Sizes.{size, sum, size_of, short_size, sum_item, list_size, sizes, MeasureIs}

-- Two sizes are the same by their lengths and depths.
same : {l m d e : ℕ} {p : Bool} → l ≡ m → d ≡ e → size l d p ≡ size m e p
same {p = p} x y = λ i. size (x i) (y i) p

-- An Array's size is that of its one item with a head, or one byte.
array-is : (x : Shape) → list_size Array 3 (sum_item (sum 0 0 true) 0 (size_of x)) ≡ size_of (array_of x)
unfolding encode as_prim array_bytes depth
array-is x = go (as_prim x) refl
  where
    go : (o : Option Primitive) → as_prim x ≡ o → list_size Array 3 (sum_item (sum 0 0 true) 0 (size_of x)) ≡ size_of (array_of x)
    go none e = rw e (same (omega arith) (omega arith))
    go (some p) e = rw (as-prim x p e)

-- So is a Map's, of its two.
map_is : (x y : Shape) → list_size Map 3 (sum_item (sum_item (sum 0 0 true) 0 (size_of x)) 0 (size_of y)) ≡ size_of (map_of x y)
unfolding encode as_prim map_bytes depth
map_is x y = go (as_prim x) (as_prim y) refl refl
  where
    go : (o q : Option Primitive) → as_prim x ≡ o → as_prim y ≡ q
        → list_size Map 3 (sum_item (sum_item (sum 0 0 true) 0 (size_of x)) 0 (size_of y)) ≡ size_of (map_of x y)
    go none q e f = rw e (same (simp length-append (omega arith)) (omega arith))
    go (some p) none e f = rw (e, f) (same (simp length-append (omega arith)) (omega arith))
    go (some p) (some q) e f = rw (as-prim x p e, as-prim y q f)

module _ (σ : ℕ → Shape) where
  -- the size of a shape, filled
  abbrev filled_size : Shape → Size
  filled_size t = size_of (plug σ t)

  -- what a shape of one byte is made
  abbrev ShortFits : ℕ → Class → Type 0
  ShortFits b (whole s) = short_size σ b 1 ≡ filled_size s
  ShortFits b (packed s) = short_size σ b 2 ≡ filled_size s
  ShortFits b (long k) = Unit {0}
  ShortFits b unassigned = Unit {0}

  -- Of a shape of one byte the size is made.
  short-fits : (b : ℕ) → ShortFits b (class_of b)
  unfolding plug encode depth as_prim array_bytes map_bytes
  short-fits b =
      by-class (ShortFits b) b
      (λ h. rw (lt-ltb b short_blanks h))
      (λ p e. rw (le-ltb b short_blanks (omega arith)))
      (λ p e. rw (le-ltb b short_blanks (omega arith)))
      (λ p q e. rw (le-ltb b short_blanks (omega arith)))
      (λ k e. tt)
      tt

  -- Fields add their bytes, and are as deep as they are.
  fields-sum : (f : Tree fields) (a : Sum)
      → ((gathered (sizes σ) filled_size a (field_items f)).length ≡ a.length + length (encode (plug σ f)))
      × ((gathered (sizes σ) filled_size a (field_items f)).depth ≡ max a.depth (depth (plug σ f)))
  unfolding field_items plug encode depth name_bytes
  fields-sum no_fields a = (omega arith, omega arith)
  fields-sum (field n s f) a =
      let h = fields-sum f (sum_item a (length (text_bytes n)) (filled_size s)) in
      (h.0 ∙ simp length-append (omega arith), h.1 ∙ omega arith)

  -- So do parameters, and the return after them.
  parameters-sum : (p : Tree parameters) (r : Shape) (a : Sum)
      → ((gathered (sizes σ) filled_size a (parameter_items p ++ (bare r ∷ []))).length ≡ a.length + length (encode (plug σ p)) + length (encode (plug σ r)))
      × ((gathered (sizes σ) filled_size a (parameter_items p ++ (bare r ∷ []))).depth ≡ max a.depth (max (depth (plug σ p)) (depth (plug σ r))))
  unfolding parameter_items plug encode depth name_bytes
  parameters-sum no_parameters r a = (omega arith, omega arith)
  parameters-sum (parameter s p) r a =
      let h = parameters-sum p r (sum_item a 0 (filled_size s)) in
      (h.0 ∙ simp length-append (omega arith), h.1 ∙ omega arith)

  -- The pass makes of every shape the size of the filled shape, step by step.
  pub sizes-making : Making (sizes σ) filled_size
  unfolding plug encode depth as_prim items name_bytes
  sizes-making =
      record {
        whole = λ b s h. rw h at (short-fits b);
        packed = λ b s h. rw h at (short-fits b);
        blanks = λ n h. refl;
        symbols = λ ts l. refl;
        arrays = λ s h. array-is (plug σ s);
        maps = λ s t h. map_is (plug σ s) (plug σ t);
        records = λ f.
            let h = fields-sum f (sum 0 0 true) in
            same (rw (h.0, fields-kept σ f) (omega (arith, length-append (leb128 (count f)) (encode (plug σ f))))) (rw h.1 (omega arith));
        functions = λ p r.
            let h = parameters-sum p r (sum 0 0 true) in
            let l = length-append (encode (plug σ p)) (encode (plug σ r)) in
            same (rw (h.0, parameters-kept σ p) (omega (arith, l, length-append (leb128 (count p)) (encode (plug σ p) ++ encode (plug σ r))))) (rw h.1 (omega arith));
      }

-- What the pass makes of an input that is read as a shape is the size of the filled shape.
pub measured : (σ : ℕ → Shape) (s : List ℕ) → ((i : ℕ) → get_or s i 0 < 256) → (r : Size) → (pass_shape (sizes σ) max_levels s 0).made ≡ r → MeasureIs σ (reading s) r
measured σ s bytes r =
    by-reading (λ s q. (pass_shape (sizes σ) max_levels s 0).made ≡ r → MeasureIs σ q r) s (bytes-by-index s bytes)
    (λ t w h e. sym e ∙ ap (λ (c : Came Size). c.made) (pass-whole (sizes-making σ) t h))
    (λ n q e. tt)
