-- What is promised of children and names (01-scope.md, "Children and names").
--     child-bytes, child-inside        the bytes at a child's place are its encoding, and lie inside the payload
--     child-apart                      children stand in order and share no byte
--     packed-child, packed-number      a child without bytes is a primitive, of a number from 0 to 4
--     child-within, child-accepted     a child of a shape within the limits is within them, and its bytes are accepted
--     name-bytes, name-inside          the bytes at a name's place are its text, and lie inside the payload
--     children-few, names_few          how many there are at most
--     item-bytes                       what stands at an item's place
-- Assumes nothing.
use mathlib.Core.Path.{◌≡◌, refl, sym, ap, ◌∙◌}
use mathlib.Core.Bool.{Bool, true, false, false≢true, and-eq-true_iff}
use mathlib.Core.Option.{Option, none, some}
use mathlib.Core.List.{List, [], ◌∷◌, ◌++◌, append_assoc}
use Prim.Native.Nat.{ℕ, zero, suc, ◌+◌, ◌-◌, ◌≤◌, ◌<◌, max, zero-le}
use native.Mathlib.Omega.{arith}
use lib.ListN.{length, take, drop, get_or, length-append, length-drop}
use lib.Seq.{take-suc, take-add, drop-cons, drop-drop, take-append_seam, drop-append_seam}
use Rattle.meaning.specs.Numbers.{leb128}
use Rattle.meaning.specs.Shape.{Text, Primitive, Tree, fields, parameters, prim, blank, array_of, map_of, record_of, function_of, symbol_of, no_fields, field, no_parameters, parameter, Shape, depth, Proper}
use Rattle.meaning.specs.Encode.{as_prim, text_bytes, encode}
use Rattle.meaning.specs.Within.{Within}
use Rattle.meaning.specs.Reading.{got, some?, has_short, reading}
use Rattle.meaning.specs.Parts.{field_shapes, parameter_shapes, children, field_names, names, Item, lone, field_items, text_items, items, name_bytes, shape_bytes, list_bytes, list_start, item_of, item_place, child_shape, number_of, name_text, name_place}
use Rattle.meaning.proofs.Complete.{as-prim, code-small, leb-pos, encode-pos, count-le, texts-le}
use Rattle.meaning.proofs.Lists.{list-append, list_of, list-drop, fields-count, parameters-count, texts-count, field-shapes, field-names, parameter-shapes, child-is}
use Rattle.meaning.proofs.Laws.{reading-encode, within}

-- There are no more children than items.
children-items : (s : Shape) → length (children s) ≤ length (items s)
unfolding children items
children-items (prim p) = zero-le
children-items (blank n) = zero-le
children-items (array_of s) = omega arith
children-items (map_of s t) = omega arith
children-items (record_of f) = omega (arith, field-shapes f)
children-items (function_of p r) = omega (arith, parameter-shapes p r)
children-items (symbol_of ts) = zero-le

-- There are no more names than items.
names-items : (s : Shape) → length (names s) ≤ length (items s)
unfolding names items
names-items (prim p) = zero-le
names-items (blank n) = zero-le
names-items (array_of s) = zero-le
names-items (map_of s t) = zero-le
names-items (record_of f) = omega (arith, field-names f)
names-items (function_of p r) = zero-le
names-items (symbol_of ts) = omega (arith, texts-count ts)

-- There is at most one item more than bytes: a Map of two primitives has one byte and two children.
items-few : (s : Shape) → length (items s) ≤ 1 + length (encode s)
unfolding items encode
items-few (prim p) = zero-le
items-few (blank n) = zero-le
items-few (array_of s) = omega arith
items-few (map_of s t) = omega (arith, encode-pos (map_of s t))
items-few (record_of f) = simp length-append (omega (arith, fields-count f, count-le f))
items-few (function_of p r) = rw (parameters-count p r) (simp length-append (omega (arith, count-le p)))
items-few (symbol_of ts) = simp length-append (omega (arith, texts-count ts, texts-le ts))

-- So of children.
pub children-few : (s : Shape) → length (children s) ≤ 1 + length (encode s)
children-few s = omega (arith, children-items s, items-few s)

-- So of names.
pub names_few : (s : Shape) → length (names s) ≤ 1 + length (encode s)
names_few s = omega (arith, names-items s, items-few s)

-- The list starts in the payload.
start-inside : (s : Shape) → 3 ≤ list_start s
unfolding list_start
start-inside (prim p) = omega arith
start-inside (blank n) = omega arith
start-inside (array_of s) = omega arith
start-inside (map_of s t) = omega arith
start-inside (record_of f) = omega arith
start-inside (function_of p r) = omega arith
start-inside (symbol_of ts) = omega arith

-- From item k's place on, the bytes of a shape with a payload are item k's and those of the items after it.
pub item-bytes : (s : Shape) (k : ℕ) → has_short s ≡ false → k < length (items s) → drop (item_place s k) (encode s) ≡ name_bytes (item_of s k) ++ (shape_bytes (item_of s k) ++ list_bytes (drop (suc k) (items s)))
unfolding list_bytes
item-bytes s k h l =
    sym (drop-drop (length (list_bytes (take k (items s)))) (list_start s) (encode s))
    ∙ ap (drop (length (list_bytes (take k (items s))))) (list_of s h (omega arith))
    ∙ list-drop (items s) k
    ∙ ap list_bytes (drop-cons (items s) k (lone []) l)

-- A part that stands after another stands there, and inside the whole.
part-stands : (w : List ℕ) (at : ℕ) (p q r : List ℕ) → drop at w ≡ p ++ (q ++ r) → 0 < length p + length q → (take (length q) (drop (at + length p) w) ≡ q) × (at + length p + length q ≤ length w)
part-stands w at p q r h b = (rw (← drop-drop (length p) at w, h, drop-append_seam p (q ++ r), take-append_seam q r), let l = simp (length-drop, length-append) at (ap length h) in omega arith)

-- where child k starts: after the name of item k
abbrev pub child_place : Shape → ℕ → ℕ
child_place s k = item_place s k + length (name_bytes (item_of s k))

module _ (s : Shape) (k : ℕ) (long : has_short s ≡ false) (is : k < length (children s)) where
  -- Child k's encoding stands at its place, up to the shape's end or before it.
  child-stands : (take (length (encode (child_shape s k))) (drop (child_place s k) (encode s)) ≡ encode (child_shape s k)) × (child_place s k + length (encode (child_shape s k)) ≤ length (encode s))
  child-stands =
      part-stands (encode s) (item_place s k) (name_bytes (item_of s k)) (encode (child_shape s k)) (list_bytes (drop (suc k) (items s)))
      (rw (child-is s k is) at (item-bytes s k long (omega (arith, children-items s))))
      (omega (arith, encode-pos (child_shape s k)))

  -- The bytes at child k's place are its encoding.
  pub child-bytes : take (length (encode (child_shape s k))) (drop (child_place s k) (encode s)) ≡ encode (child_shape s k)
  child-bytes = child-stands.0

  -- They stand inside the payload.
  pub child-inside : (3 ≤ child_place s k) × (child_place s k + length (encode (child_shape s k)) ≤ length (encode s))
  child-inside = (omega (arith, start-inside s), child-stands.1)

-- An item ends where any later one starts, or before.
item-apart : (s : Shape) (j k : ℕ) → j < k → j < length (items s) → item_place s j + (length (name_bytes (item_of s j)) + length (shape_bytes (item_of s j))) ≤ item_place s k
unfolding list_bytes
item-apart s j k h l =
    let e : suc j + (k - suc j) ≡ k = omega arith in
    let a = ap (λ (is : List Item). length (list_bytes is)) (rw (e, take-suc (items s) j (lone []) l) at (take-add (suc j) (k - suc j) (items s))) in
    let n = simp (list-append, length-append) at a in
    omega arith

-- Of two children the first ends where the second starts, or before: they stand in order, and share no byte.
pub child-apart : (s : Shape) (j k : ℕ) → j < k → k < length (children s) → child_place s j + length (encode (child_shape s j)) ≤ child_place s k
child-apart s j k h l = let a = rw (child-is s j (omega arith)) at (item-apart s j k h (omega (arith, children-items s))) in omega arith

-- A shape that is some primitive is that primitive.
prim-of : (s : Shape) → some? (as_prim s) ≡ true → (p : Primitive) × (s ≡ prim p)
prim-of s = go (as_prim s) refl
  where
    go : (o : Option Primitive) → as_prim s ≡ o → some? o ≡ true → (p : Primitive) × (s ≡ prim p)
    go none e h = absurd (false≢true h)
    go (some p) e h = (p, as-prim s p e)

-- Where the parent is one byte its children are primitives.
pub packed-child : (s : Shape) (k : ℕ) → has_short s ≡ true → k < length (children s) → (p : Primitive) × (child_shape s k ≡ prim p)
unfolding has_short children
packed-child (prim p) k h l = absurd (omega arith)
packed-child (blank n) k h l = absurd (omega arith)
packed-child (array_of s) zero h l = prim-of s h
packed-child (array_of s) (suc k) h l = absurd (omega arith)
packed-child (map_of s t) zero h l = prim-of s ((and-eq-true_iff (some? (as_prim s)) (some? (as_prim t))).0 h).0
packed-child (map_of s t) (suc zero) h l = prim-of t ((and-eq-true_iff (some? (as_prim s)) (some? (as_prim t))).0 h).1
packed-child (map_of s t) (suc (suc k)) h l = absurd (omega arith)
packed-child (record_of f) k h l = absurd (false≢true h)
packed-child (function_of p r) k h l = absurd (false≢true h)
packed-child (symbol_of ts) k h l = absurd (omega arith)

-- Their numbers are 0 to 4.
pub packed-number : (s : Shape) (k : ℕ) → has_short s ≡ true → k < length (children s) → number_of (as_prim (child_shape s k)) < 5
unfolding as_prim
packed-number s k h l = let c = packed-child s k h l in rw c.1 (code-small c.0)

-- A field's shape is no deeper than the fields, and proper where they are.
field-part : (f : Tree fields) (k : ℕ) → k < length (field_shapes f) → (depth (get_or (field_shapes f) k (blank 0)) ≤ depth f) × (Proper f → Proper (get_or (field_shapes f) k (blank 0)))
unfolding field_shapes depth Proper
field-part no_fields k h = absurd (omega arith)
field-part (field n s f) zero h = (omega arith, λ u. u.1)
field-part (field n s f) (suc k) h = let p = field-part f k (omega arith) in (omega arith, λ u. p.1 u.2)

-- So of a parameter and of the return.
parameter-part : (p : Tree parameters) (r : Shape) (k : ℕ) → k < length (parameter_shapes p ++ (r ∷ []))
    → (depth (get_or (parameter_shapes p ++ (r ∷ [])) k (blank 0)) ≤ max (depth p) (depth r)) × (Proper p → Proper r → Proper (get_or (parameter_shapes p ++ (r ∷ [])) k (blank 0)))
unfolding parameter_shapes depth Proper
parameter-part no_parameters r zero h = (omega arith, λ u v. v)
parameter-part no_parameters r (suc k) h = absurd (omega arith)
parameter-part (parameter s p) r zero h = (omega arith, λ u v. u.0)
parameter-part (parameter s p) r (suc k) h = let q = parameter-part p r k (omega arith) in (omega arith, λ u v. q.1 u.1 v)

-- A child is less deep than its parent, and proper where that is.
child-part : (s : Shape) (k : ℕ) → k < length (children s) → (depth (child_shape s k) < depth s) × (Proper s → Proper (child_shape s k))
unfolding children depth Proper
child-part (prim p) k h = absurd (omega arith)
child-part (blank n) k h = absurd (omega arith)
child-part (array_of s) zero h = (omega arith, λ u. u)
child-part (array_of s) (suc k) h = absurd (omega arith)
child-part (map_of s t) zero h = (omega arith, λ u. u.0)
child-part (map_of s t) (suc zero) h = (omega arith, λ u. u.1)
child-part (map_of s t) (suc (suc k)) h = absurd (omega arith)
child-part (record_of f) k h = let p = field-part f k h in (omega arith, p.1)
child-part (function_of p r) k h = let q = parameter-part p r k h in (omega arith, λ u. q.1 u.0 u.1)
child-part (symbol_of ts) k h = absurd (omega arith)

-- A child is no longer than its parent.
child-short : (s : Shape) (k : ℕ) → k < length (children s) → length (encode (child_shape s k)) ≤ length (encode s)
unfolding encode
child-short s k l = go (has_short s) refl
  where
    go : (b : Bool) → has_short s ≡ b → length (encode (child_shape s k)) ≤ length (encode s)
    go true h = rw (packed-child s k h l).1 (encode-pos s)
    go false h = omega (arith, (child-inside s k h l).1)

-- A child of a shape within the limits is within them.
pub child-within : (s : Shape) (k : ℕ) → Within s → k < length (children s) → Within (child_shape s k)
child-within s k w h = let p = child-part s k h in within (child_shape s k) (omega (arith, child-short s k h, w.short)) (omega (arith, w.shallow)) (p.1 w.proper)

-- So its bytes are accepted, and read as that child.
pub child-accepted : (s : Shape) (k : ℕ) → Within s → k < length (children s) → reading (encode (child_shape s k)) ≡ got (child_shape s k) []
child-accepted s k w h = reading-encode (child_shape s k) (child-within s k w h)

-- Before its shape a field has its name, with its length.
field-bytes : (f : Tree fields) (k : ℕ) → name_bytes (get_or (field_items f) k (lone [])) ≡ text_bytes (get_or (field_names f) k [])
unfolding field_items field_names name_bytes
field-bytes no_fields k = refl
field-bytes (field n s f) zero = refl
field-bytes (field n s f) (suc k) = field-bytes f k

-- So has a Symbol's part its text.
symbol-bytes : (ts : List Text) (k : ℕ) → name_bytes (get_or (text_items ts) k (lone [])) ≡ text_bytes (get_or ts k [])
unfolding text_items name_bytes
symbol-bytes [] k = refl
symbol-bytes (t ∷ ts) zero = refl
symbol-bytes (t ∷ ts) (suc k) = symbol-bytes ts k

-- A shape with names has a payload, and item k there is name k with its length.
named-long : (s : Shape) (k : ℕ) → k < length (names s) → (has_short s ≡ false) × (name_bytes (item_of s k) ≡ text_bytes (name_text s k))
unfolding names items has_short
named-long (prim p) k h = absurd (omega arith)
named-long (blank n) k h = absurd (omega arith)
named-long (array_of s) k h = absurd (omega arith)
named-long (map_of s t) k h = absurd (omega arith)
named-long (record_of f) k h = (refl, field-bytes f k)
named-long (function_of p r) k h = absurd (omega arith)
named-long (symbol_of ts) k h = (refl, symbol-bytes ts k)

module _ (s : Shape) (k : ℕ) (is : k < length (names s)) where
  -- Name k's text stands at its place, up to the shape's end or before it.
  name-stands : (take (length (name_text s k)) (drop (name_place s k) (encode s)) ≡ name_text s k) × (name_place s k + length (name_text s k) ≤ length (encode s))
  name-stands =
      let n = named-long s k is in
      part-stands (encode s) (item_place s k) (leb128 (length (name_text s k))) (name_text s k) _
      (rw (n.1, append_assoc) at (item-bytes s k n.0 (omega (arith, names-items s))))
      (omega (arith, leb-pos (length (name_text s k))))

  -- The bytes at name k's place are its text.
  pub name-bytes : take (length (name_text s k)) (drop (name_place s k) (encode s)) ≡ name_text s k
  name-bytes = name-stands.0

  -- They stand inside the payload.
  pub name-inside : (3 ≤ name_place s k) × (name_place s k + length (name_text s k) ≤ length (encode s))
  name-inside = (omega (arith, start-inside s), name-stands.1)
