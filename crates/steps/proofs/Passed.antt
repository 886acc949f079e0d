-- What a pass makes of an accepted encoding: what it makes of each shape, if it does so step by step.
--     stands-slice   what stands at a place is a part of the input
--     Making         a pass makes v of every shape, if it does so of what it meets
--     pass-makes     then it makes v of the shape that stands at a place, and comes to the place after it
--     pass-whole     so of a whole encoding
-- Assumes nothing.
use mathlib.Core.Path.{◌≡◌, refl, ap, ◌∙◌}
use mathlib.Core.Bool.{true, false}
use mathlib.Core.List.{List, [], ◌∷◌, ◌++◌, append_assoc, append-nil}
use Prim.Native.Nat.{ℕ, zero, suc, ◌+◌, ◌-◌, ◌≤◌, ◌/◌}
use native.Mathlib.Omega.{arith}
use native.Mathlib.Nat.{add-zero}
use lib.ListN.{length, take, get_or, length-append}
use lib.Seq.{slice, length-take-le, take-add, take-append_seam, drop_at}
use borrow.Author.Tests.{ltb-false, le-ltb, lt-leb, ne_eqb}
use Rattle.meaning.specs.Limits.{max_levels}
use Rattle.meaning.specs.Numbers.{leb128, two_bytes}
use Rattle.meaning.specs.Shape.{Text, Tree, fields, parameters, Shape, prim, blank, array_of, map_of, record_of, function_of, symbol_of, no_fields, field, no_parameters, parameter, count, depth}
use Rattle.meaning.specs.FirstByte.{short_blanks, kind_byte, class_of}
use Rattle.meaning.specs.FirstByte as Meant
use Rattle.meaning.specs.Encode.{sized, as_prim, blank_bytes, texts_bytes, encode}
use Rattle.meaning.specs.Reading.{has_short}
use Rattle.meaning.specs.Parts.{Item, bare, named, lone, field_items, parameter_items, items, name_bytes, shape_bytes, list_bytes}
use Rattle.meaning.specs.Within.{Within}
use Rattle.meaning.proofs.Sound.{long-array, long-map}
use Rattle.meaning.proofs.Complete.{two-value, class-kind, array_long, map-long, encode-pos, depth_pos, count-le}
use Rattle.meaning.proofs.Heads.{Head, whole-byte, packed_byte, payload, head_of}
use Rattle.meaning.proofs.Lists.{list-append, fields-list, parameters-list, fields-count, parameters-count}
use Rattle.payloads.specs.First.{first_said, kind_said}
use Rattle.payloads.specs.Payload as Payload
use Rattle.payloads.specs.declared.first.Kind as first
use Rattle.payloads.specs.declared.first.Kind.TheVariants.{Array, Map, Record, Function}
use Rattle.steps.specs.Steps.{first_at, listing, list_at}
use Rattle.steps.specs.Pass.{came, Pass, Passer, pass_items, pass_list, pass_long, pass_first, pass_shape}
use Rattle.steps.proofs.Places.{Stands, stands-length, stands-byte, stands_after, past-long, leb-at, Of, of_bare, of-named, of-lone, AllOf, past-name}
use Rattle.steps.proofs.Items.{fields-all, parameters-all}

-- the shape of an item; a text alone has none, and any will do
abbrev pub item_shape : Item → Shape
item_shape (bare s) = s
item_shape (named t s) = s
item_shape (lone t) = blank 0

-- the bytes of a list's count, where the kind has one
unfoldable pub count_bytes : Shape → List ℕ
count_bytes (prim p) = []
count_bytes (blank n) = []
count_bytes (array_of s) = []
count_bytes (map_of s t) = []
count_bytes (record_of f) = leb128 (count f)
count_bytes (function_of p r) = leb128 (count p)
count_bytes (symbol_of ts) = []

-- what a pass gathers of items, where v is made of each shape
abbrev pub gathered : {X A : Type 0} → Pass X A → (Shape → X) → A → List Item → A
gathered F v a [] = a
gathered F v a (i ∷ is) = gathered F v (F.item a (name_bytes i) (v (item_shape i))) is

-- a pass F makes v of every shape, if it does so step by step
pub record Making {X A : Type 0} (F : Pass X A) (v : Shape → X) : Type 0 where
  pub whole : (b : ℕ) (s : Shape) → class_of b ≡ Meant.whole s → F.short b 1 ≡ v s
  pub packed : (b : ℕ) (s : Shape) → class_of b ≡ Meant.packed s → F.short b 2 ≡ v s
  pub blanks : (n : ℕ) → short_blanks ≤ n → F.blank n ≡ v (blank n)
  pub symbols : (ts : List Text) → length (encode (symbol_of ts)) ≤ 16384 → F.symbol (encode (symbol_of ts)) ≡ v (symbol_of ts)
  pub arrays : (s : Shape) → has_short (array_of s) ≡ false → F.list Array [] (gathered F v F.start (items (array_of s))) ≡ v (array_of s)
  pub maps : (s t : Shape) → has_short (map_of s t) ≡ false → F.list Map [] (gathered F v F.start (items (map_of s t))) ≡ v (map_of s t)
  pub records : (f : Tree fields) → F.list Record (leb128 (count f)) (gathered F v F.start (items (record_of f))) ≡ v (record_of f)
  pub functions : (p : Tree parameters) (r : Shape) → F.list Function (leb128 (count p)) (gathered F v F.start (items (function_of p r))) ≡ v (function_of p r)

-- What stands at a place inside the input is the part of the input from there.
pub stands-slice : (s : List ℕ) (at : ℕ) (p q : List ℕ) → at ≤ length s → Stands s at (p ++ q) → slice at (at + length p) s ≡ p
stands-slice s at p q i h = rw (take-add at (length p) s, h, take-append_seam p q) (drop_at (take at s) p at (length-take-le at s i))

-- The first byte that stands at a place says what the steps find there.
first-stands : (s : List ℕ) (at b : ℕ) (w : List ℕ) → Stands s at (b ∷ w) → first_at s at ≡ first_said (class_of b)
unfolding first_at
first-stands s at b w h =
    let l = stands-length s at _ h in
    let e : get_or s at 0 ≡ b = rw (← add-zero at) (stands-byte s at _ h 0) in
    rw (lt-leb (length s) at (omega arith), e)

-- every item's shape is no deeper than the levels left, and no longer than a payload
abbrev Fit : ℕ → List Item → Type 0
Fit left [] = Unit {0}
Fit left (i ∷ is) = (depth (item_shape i) ≤ left) × (length (encode (item_shape i)) ≤ 16384) × Fit left is

-- The fields fit, where their list does.
fields_fit : (f : Tree fields) (left : ℕ) → depth f ≤ left → length (encode f) ≤ 16384 → Fit left (field_items f)
unfolding field_items encode depth
fields_fit no_fields left d h = tt
fields_fit (field n s f) left d h = let k = simp length-append at h in (omega arith, omega arith, fields_fit f left (omega arith) (omega arith))

-- So do the parameters and the return.
parameters-fit : (p : Tree parameters) (r : Shape) (left : ℕ) → depth p ≤ left → depth r ≤ left → length (encode p) ≤ 16384 → length (encode r) ≤ 16384
    → Fit left (parameter_items p ++ (bare r ∷ []))
unfolding parameter_items encode depth
parameters-fit no_parameters r left d e h g = (e, g, tt)
parameters-fit (parameter s p) r left d e h g = let k = simp length-append at h in (omega arith, omega arith, parameters-fit p r left (omega arith) e (omega arith) g)

-- An item of a list of shapes ends in the bytes of its shape.
shape_of : (kind : first.Kind) (i : Item) → Payload.shaped kind ≡ true → Of kind i → shape_bytes i ≡ encode (item_shape i)
unfolding shape_bytes
shape_of kind i p (of_bare c n q) = refl
shape_of kind i p (of-named t c n q b) = refl
shape_of kind i p (of-lone t n q b) = cc

-- a shape whose payload is a list of items with shapes, after the count of its kind
record OfItems (t : Shape) (k : Meant.Kind) : Type 0 where
  is : encode t ≡ sized k (count_bytes t ++ list_bytes (items t))
  all : AllOf (kind_said k) (items t)
  fit : (left : ℕ) → depth t ≤ suc left → Fit left (items t)
  list : (s : List ℕ) (at : ℕ) (x : List ℕ) → at ≤ length s → Stands s at (count_bytes t ++ x)
      → list_at s at (kind_said k) ≡ listing (at + length (count_bytes t)) (length (items t))

-- An Array in its long form is one,
array-items : (s : Shape) → has_short (array_of s) ≡ false → length (encode (array_of s)) ≤ 16384 → OfItems (array_of s) Meant.array
unfolding count_bytes encode has_short items list_bytes name_bytes shape_bytes depth list_at
array-items s h l =
    record {
      is = rw (long-array (as_prim s) (encode s) h, append-nil);
      all = (of_bare s refl refl, tt);
      fit = λ left d. (omega arith, omega (arith, array_long s), tt);
      list = λ s at x i g. rw add-zero;
    }

-- so is a Map,
map-items : (s t : Shape) → has_short (map_of s t) ≡ false → length (encode (map_of s t)) ≤ 16384 → OfItems (map_of s t) Meant.map
unfolding count_bytes encode has_short items list_bytes name_bytes shape_bytes depth list_at
map-items s t h l =
    record {
      is = rw (long-map (as_prim s) (as_prim t) (encode s ++ encode t) h, append-nil (encode t));
      all = (of_bare s refl refl, (of_bare t refl refl, tt));
      fit = λ left d. (omega arith, omega (arith, (map-long s t).0), (omega arith, omega (arith, (map-long s t).1), tt));
      list = λ s at x i g. rw add-zero;
    }

-- so is a Record,
record-items : (f : Tree fields) → length (encode (record_of f)) ≤ 16384 → OfItems (record_of f) Meant.rec
unfolding count_bytes encode items depth list_at
record-items f h =
    let k = simp length-append at h in
    record {
      is = rw (fields-list f);
      all = fields-all f (omega arith);
      fit = λ left d. fields_fit f left (omega arith) (omega arith);
      list = λ s at x i g. rw (leb-at s at (count f) x (omega (arith, count-le f)) i g, fields-count f, add-zero);
    }

-- so is a Function.
function-items : (p : Tree parameters) (r : Shape) → length (encode (function_of p r)) ≤ 16384 → OfItems (function_of p r) Meant.function
unfolding count_bytes encode items list_bytes name_bytes shape_bytes depth list_at
function-items p r h =
    let k = simp length-append at h in
    record {
      is = rw (list-append (parameter_items p) (bare r ∷ []), parameters-list p, append-nil (encode r));
      all = parameters-all p r;
      fit = λ left d. parameters-fit p r left (omega arith) (omega arith) (omega arith) (omega arith);
      list = λ s at x i g. rw (leb-at s at (count p) x (omega (arith, count-le p)) i g, parameters-count p r);
    }

-- inner makes v of every shape that stands in s, is no deeper than the levels left, and no longer than a payload
abbrev Makes : {X : Type 0} → (Shape → X) → Passer X → List ℕ → ℕ → Type 0
Makes v inner s left =
    (t : Shape) (at : ℕ) (x : List ℕ) → Stands s at (encode t ++ x) → depth t ≤ left → length (encode t) ≤ 16384
    → inner s at ≡ came (at + length (encode t)) (v t)

module _ {X A : Type 0} (F : Pass X A) (v : Shape → X) where
  -- Over a list the pass gathers what it should of the items, if inner makes v of their shapes.
  items-made : (inner : Passer X) (s : List ℕ) (left : ℕ) → Makes v inner s left → (kind : first.Kind) → Payload.shaped kind ≡ true
      → (is : List Item) (at : ℕ) (a : A) (x : List ℕ) → AllOf kind is → Fit left is → Stands s at (list_bytes is ++ x)
      → pass_items F inner kind (length is) s at a ≡ came (at + length (list_bytes is)) (gathered F v a is)
  unfolding pass_items list_bytes
  items-made inner s left ih kind p [] at a x o f h = rw add-zero
  items-made inner s left ih kind p (i ∷ is) at a x o f h =
      let c : Shape = item_shape i in
      let b : shape_bytes i ≡ encode c = shape_of kind i p o.0 in
      let g : Stands s at (name_bytes i ++ (encode c ++ (list_bytes is ++ x))) = h ∙ rw (b, append_assoc (name_bytes i), append_assoc (encode c)) in
      let w = stands_after s at (name_bytes i) _ g in
      let l = simp length-append at (stands-length s at _ g) in
      let z : A = F.item a (name_bytes i) (v c) in
      rw (
        pass_items,
        past-name s at kind i _ o.0 g,
        stands-slice s at (name_bytes i) _ (omega (arith, encode-pos c)) g,
        ih c (at + length (name_bytes i)) _ w f.0 f.1,
        items-made inner s left ih kind p is (at + length (name_bytes i) + length (encode c)) z x o.1 f.2 (stands_after s _ (encode c) _ w),
        b,
      )
      (ap (λ (n : ℕ). came n (gathered F v z is)) (simp length-append (omega arith)))

  -- Over a shape with a list it then makes v of that shape.
  list-made : (inner : Passer X) (s : List ℕ) (left : ℕ) → Makes v inner s left → (t : Shape) (k : Meant.Kind) → Payload.shaped (kind_said k) ≡ true → OfItems t k
      → F.list (kind_said k) (count_bytes t) (gathered F v F.start (items t)) ≡ v t
      → (at : ℕ) (x : List ℕ) → Stands s at (encode t ++ x) → depth t ≤ suc left
      → pass_list F (suc left) inner s at (kind_said k) ≡ came (at + length (encode t)) (v t)
  unfolding pass_list
  list-made inner s left ih t k p l m at x h d =
      let c : List ℕ = count_bytes t in
      let b : List ℕ = list_bytes (items t) in
      let q : List ℕ = two_bytes (length (c ++ b)) in
      let g : Stands s at ((kind_byte k ∷ q) ++ (c ++ (b ++ x))) = h ∙ rw (l.is, append_assoc c b x) in
      let n = simp length-append at (stands-length s at _ g) in
      let w : Stands s (at + 3) (c ++ (b ++ x)) = stands_after s at (kind_byte k ∷ q) _ g in
      rw (
        ne_eqb (suc left) 0 (omega arith),
        le-ltb (length s - at) 3 (omega arith),
        l.list s (at + 3) (b ++ x) (omega arith) w,
        stands-slice s (at + 3) c (b ++ x) (omega arith) w,
        items-made inner s left ih (kind_said k) p (items t) (at + 3 + length c) F.start x l.all (l.fit left d) (stands_after s (at + 3) c (b ++ x) w),
        m,
        l.is,
      )
      (ap (λ (n : ℕ). came n (v t)) (simp length-append (omega arith)))

  module _ (m : Making F v) (left : ℕ) (s : List ℕ) (ih : Makes v (pass_shape F left) s left) (at : ℕ) (x : List ℕ) where
    -- The first byte says how the pass goes on.
    begins : (b : ℕ) (w : List ℕ) → Stands s at (b ∷ w) → pass_shape F (suc left) s at ≡ pass_first F (suc left) (pass_shape F left) s at (first_said (class_of b))
    unfolding pass_shape
    begins b w h = rw (first-stands s at b w h)

    -- The pass makes v of a Variable in its long form,
    blank-made : (n : ℕ) → short_blanks ≤ n → Stands s at (sized Meant.variable (two_bytes n) ++ x)
        → pass_shape F (suc left) s at ≡ came (at + length (sized Meant.variable (two_bytes n))) (v (blank n))
    unfolding pass_first pass_long
    blank-made n b h =
        let l = stands-length s at _ h in
        let y = stands-byte s at _ h 3 in
        let z : get_or s (at + 3 + 1) 0 ≡ n / 256 = let e : at + 3 + 1 ≡ at + 4 = omega arith in rw e (stands-byte s at _ h 4) in
        begins _ _ h ∙ rw (class-kind Meant.variable, le-ltb (length s - at) 5 (omega arith), y, z, two-value n, m.blanks n b)

    -- of a Symbol,
    symbol-made : (ts : List Text) → length (encode (symbol_of ts)) ≤ 16384 → Stands s at (encode (symbol_of ts) ++ x) → pass_shape F (suc left) s at ≡ came (at + length (encode (symbol_of ts))) (v (symbol_of ts))
    unfolding pass_first pass_long encode
    symbol-made ts b h =
        let q : List ℕ = leb128 (length ts) ++ texts_bytes ts in
        let l = stands-length s at _ h in
        begins _ _ h ∙ rw (class-kind Meant.symbol, past-long s at Meant.symbol q x h, stands-slice s at (sized Meant.symbol q) x (omega arith) h, m.symbols ts b)

    -- of every shape with a payload.
    long-made : (t : Shape) → has_short t ≡ false → Stands s at (encode t ++ x) → depth t ≤ suc left → length (encode t) ≤ 16384
        → pass_shape F (suc left) s at ≡ came (at + length (encode t)) (v t)
    unfolding has_short encode blank_bytes pass_first pass_long count_bytes
    long-made (prim p) f h d l = cc
    long-made (blank n) f h d l = rw f (blank-made n (ltb-false n short_blanks f) (rw f at h))
    long-made (array_of c) f h d l =
        begins _ _ (rw (long-array (as_prim c) (encode c) f) at h) ∙ rw (class-kind Meant.array)
        (list-made (pass_shape F left) s left ih (array_of c) Meant.array refl (array-items c f l) (m.arrays c f) at x h d)
    long-made (map_of c e) f h d l =
        begins _ _ (rw (long-map (as_prim c) (as_prim e) (encode c ++ encode e) f) at h) ∙ rw (class-kind Meant.map)
        (list-made (pass_shape F left) s left ih (map_of c e) Meant.map refl (map-items c e f l) (m.maps c e f) at x h d)
    long-made (record_of g) f h d l =
        begins _ _ h ∙ rw (class-kind Meant.rec)
        (list-made (pass_shape F left) s left ih (record_of g) Meant.rec refl (record-items g l) (m.records g) at x h d)
    long-made (function_of p r) f h d l =
        begins _ _ h ∙ rw (class-kind Meant.function)
        (list-made (pass_shape F left) s left ih (function_of p r) Meant.function refl (function-items p r l) (m.functions p r) at x h d)
    long-made (symbol_of ts) f h d l = symbol-made ts l h

    -- So of every shape.
    shape-made : (t : Shape) → Stands s at (encode t ++ x) → depth t ≤ suc left → length (encode t) ≤ 16384
        → pass_shape F (suc left) s at ≡ came (at + length (encode t)) (v t)
    unfolding pass_first
    shape-made t h d l = go (head_of t)
      where
        first : (b : ℕ) → encode t ≡ b ∷ [] → get_or s at 0 ≡ b
        first b e = rw (← add-zero at) (stands-byte s at _ h 0 ∙ rw e)

        go : Head t → pass_shape F (suc left) s at ≡ came (at + length (encode t)) (v t)
        go (whole-byte b e k p) = begins b x (rw e at h) ∙ rw (k, first b e, m.whole b t k, e)
        go (packed_byte b e k p) = begins b x (rw e at h) ∙ rw (k, first b e, m.packed b t k, e)
        go (payload k q e p) = long-made t p h d l

-- Over a shape that stands at a place of the input, with levels enough, the pass makes v of it and comes to the place after it.
pub pass-makes : {X A : Type 0} {F : Pass X A} {v : Shape → X} → Making F v → (left : ℕ) (t : Shape) (s : List ℕ) (at : ℕ) (x : List ℕ)
    → Stands s at (encode t ++ x) → depth t ≤ left → length (encode t) ≤ 16384 → pass_shape F left s at ≡ came (at + length (encode t)) (v t)
pass-makes m zero t s at x h d l = absurd (omega (arith, depth_pos t))
pass-makes {F = F} {v = v} m (suc left) t s at x h d l = shape-made F v m left s (λ t at x h d l. pass-makes m left t s at x h d l) at x t h d l

-- So it does over a whole encoding.
pub pass-whole : {X A : Type 0} {F : Pass X A} {v : Shape → X} → Making F v → (t : Shape) → Within t → pass_shape F max_levels (encode t) 0 ≡ came (length (encode t)) (v t)
pass-whole {v = v} m t w =
    pass-makes m max_levels t (encode t) 0 [] (rw append-nil) w.shallow (omega (arith, w.short))
    ∙ ap (λ (n : ℕ). came n (v t)) (omega arith)
