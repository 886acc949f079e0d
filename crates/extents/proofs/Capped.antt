-- Numbers that stop growing: the sum of what was cut off at a limit is the sum, cut off.
--     text-capped, shape-capped         with a text, and with a shape
--     closed-capped, counted-capped     a list, without a count and with one
--     leb-length                        how many bytes a LEB128 number has
--     array-form, map-form, blank-form     what has a form of one byte, and what has not
-- Assumes nothing.
use mathlib.Core.Path.{◌≡◌, refl, ◌∙◌, ap, ap₂}
use mathlib.Core.Bool.{true, ◌&&◌}
use mathlib.Core.List.{List, ◌++◌}
use mathlib.Core.Option.{Option, none, some}
use Prim.Native.Nat.{ℕ, suc, ◌+◌, max, min}
use native.Mathlib.Omega.{arith}
use lib.Dec.{ltb}
use lib.ListN.{length, length-append}
use Rattle.meaning.specs.Rules.{◌⇒◌∣◌}
use Rattle.meaning.specs.Numbers.{leb128}
use Rattle.meaning.specs.FirstByte.{short_blanks}
use Rattle.meaning.specs.Shape.{Primitive, Shape, prim, blank, array_of, map_of, record_of, function_of, symbol_of, depth}
use Rattle.meaning.specs.Encode.{as_prim, array_bytes, map_bytes, blank_bytes, encode}
use Rattle.meaning.specs.Reading.{some?}
use Rattle.meaning.proofs.Sound.{long-array, long-map}
use Rattle.extents.specs.declared.Extent.{Extent}
use Rattle.extents.specs.Extents.{extent, over, too_deep, extent_of, plus, deeper, leb_size, with_text, with_shape, closed}
use Rattle.extents.proofs.Sound.{cases, clash, and_left, and_right}

-- an extent, cut off
abbrev pub capped : ℕ → ℕ → Extent
capped a d = extent (min a over) (min d too_deep)

-- A sum of what is cut off, cut off.
cap-plus : (a b : ℕ) → plus (min a over) (min b over) ≡ min (a + b) over
cap-plus a b = omega arith

-- So it is with two numbers that are not.
cap-two : (a b c : ℕ) → plus (plus (min a over) b) c ≡ min (a + (b + c)) over
cap-two a b c = omega arith

-- So it is with a head.
cap-one : (x a : ℕ) → plus (min a over) (3 + x) ≡ min (suc (suc (suc (x + a)))) over
cap-one x a = omega arith

-- So is the larger of two.
cap-max : (a b : ℕ) → max (min a too_deep) (min b too_deep) ≡ min (max a b) too_deep
cap-max a b = omega arith

-- So is a level more.
cap-deeper : (a : ℕ) → deeper (min a too_deep) ≡ min (suc a) too_deep
cap-deeper a = omega arith

-- With a text, what is cut off stays the sum, cut off.
pub text-capped : (a d z : ℕ) → with_text (capped a d) z ≡ capped (a + (leb_size z + z)) d
text-capped a d z = ap (λ (x : ℕ). extent x (min d too_deep)) (cap-two a (leb_size z) z)

-- So it does with a shape.
pub shape-capped : (a d x y : ℕ) → with_shape (capped a d) (capped x y) ≡ capped (a + x) (max d y)
shape-capped a d x y = ap₂ extent (cap-plus a x) (cap-max d y)

-- A list has three bytes more, and a level.
pub closed-capped : (a d : ℕ) → closed 3 (capped a d) ≡ capped (suc (suc (suc a))) (suc d)
closed-capped a d = ap₂ extent (omega arith) (cap-deeper d)

-- A list with a count has those of its count too.
pub counted-capped : (x a d : ℕ) → closed (3 + x) (capped (0 + a) (max 0 d)) ≡ capped (suc (suc (suc (x + a)))) (suc d)
counted-capped x a d = ap₂ extent (cap-one x (0 + a) ∙ ap (λ (y : ℕ). min (suc (suc (suc (x + y)))) over) (omega arith)) (cap-deeper (max 0 d) ∙ ap (λ (y : ℕ). min (suc y) too_deep) (omega arith))

-- The order in which a deepest is found does not matter.
pub max-group : (x y z : ℕ) → max (max x y) z ≡ max x (max y z)
max-group x y z = omega arith

-- A LEB128 number has one byte or two.
pub leb-length : (n : ℕ) → length (leb128 n) ≡ leb_size n
unfolding leb128
leb-length n = cases (ltb n 128) (λ t. rw t) (λ t. rw t)

-- A primitive has one level.
prim-depth : (s : Shape) → some? (as_prim s) ≡ true → depth s ≡ 1
unfolding as_prim depth
prim-depth (prim p) h = refl
prim-depth (blank n) h = clash h
prim-depth (array_of s) h = clash h
prim-depth (map_of s t) h = clash h
prim-depth (record_of f) h = clash h
prim-depth (function_of p r) h = clash h
prim-depth (symbol_of ts) h = clash h

-- An Array of a primitive is one byte.
short-array : (o : Option Primitive) (x : List ℕ) → some? o ≡ true → length (array_bytes o x) ≡ 1
unfolding array_bytes
short-array none x h = clash h
short-array (some p) x h = refl

-- So is a Map of two.
short-map : (o o' : Option Primitive) (x : List ℕ) → (some? o && some? o') ≡ true → length (map_bytes o o' x) ≡ 1
unfolding map_bytes
short-map none o x h = clash h
short-map (some p) none x h = clash h
short-map (some p) (some q) x h = refl

-- An Array is one byte, or a list.
pub array-form : (s : Shape) (e : Extent) → e ≡ capped (length (encode s)) (depth s) → (some? (as_prim s) ⇒ extent 1 2 ∣ λ _. closed 3 e) ≡ extent_of (array_of s)
unfolding encode depth
array-form s e h =
    cases (some? (as_prim s))
    (λ t. rw (t, short-array (as_prim s) (encode s) t, prim-depth s t))
    (λ t. rw (t, long-array (as_prim s) (encode s) t, h) (closed-capped (length (encode s)) (depth s)))

-- So is a Map.
pub map-form : (s t : Shape) (e : Extent) → e ≡ capped (length (encode s) + length (encode t)) (max (depth s) (depth t)) → ((some? (as_prim s) && some? (as_prim t)) ⇒ extent 1 2 ∣ λ _. closed 3 e) ≡ extent_of (map_of s t)
unfolding encode depth
map-form s t e h =
    cases (some? (as_prim s) && some? (as_prim t))
    (λ u. rw (u, short-map (as_prim s) (as_prim t) (encode s ++ encode t) u, prim-depth s (and_left _ (some? (as_prim t)) u), prim-depth t (and_right (some? (as_prim s)) _ u)))
    (λ u. rw (u, long-map (as_prim s) (as_prim t) (encode s ++ encode t) u, h, length-append (encode s) (encode t)) (closed-capped (length (encode s) + length (encode t)) (max (depth s) (depth t))))

-- A blank is one byte or five.
pub blank-form : (a : ℕ) → (ltb a short_blanks ⇒ extent 1 1 ∣ λ _. extent 5 1) ≡ extent_of (blank a)
unfolding encode depth blank_bytes
blank-form a = cases (ltb a short_blanks) (λ t. rw t) (λ t. rw t)

-- A primitive is one byte.
pub prim-form : (p : Primitive) → extent 1 1 ≡ extent_of (prim p)
unfolding encode depth
prim-form p = refl
