-- 01-scope.md, "Shapes": what a shape is, its depth, and which texts and blanks it may hold.
use Rattle.std.specs.Prelude.{ℕ, suc, ◌<◌, max, ◌≡◌, true, List, [], ◌∷◌}
use Rattle.meaning.specs.Utf8.{utf8}

-- a text is a list of bytes
abbrev pub Text : Type 0
Text = List ℕ

-- "Int, Float, Bool, Str, Bytes"
pub data Primitive : Type 0 where
  int float bool str bytes : Primitive

-- a tree is a shape, a Record's list of fields or a Function's list of parameters
pub data Sort : Type 0 where
  shape fields parameters : Sort

-- "Lists keep their order. Record names may come in any order and may repeat; order is part of the shape. Names and texts may be empty."
pub data Tree : Sort → Type 0 where
  prim : Primitive → Tree shape
  blank : ℕ → Tree shape
  array_of : Tree shape → Tree shape
  map_of : Tree shape → Tree shape → Tree shape
  record_of : Tree fields → Tree shape
  function_of : Tree parameters → Tree shape → Tree shape
  symbol_of : List Text → Tree shape
  no_fields : Tree fields
  field : Text → Tree shape → Tree fields → Tree fields
  no_parameters : Tree parameters
  parameter : Tree shape → Tree parameters → Tree parameters

-- "A shape is Int, Float, Bool, Str, Bytes, Array of a shape, Map of key and value, Record (a list of name and shape), Function (a list of
-- parameters and a return), Symbol (a list of texts) or Variable"
abbrev pub Shape : Type 0
Shape = Tree shape

-- "a shape without children has depth 1 (an empty Record and every Symbol too), any other 1 more than its deepest child"; a list has the depth
-- of its deepest member, 0 where it has none
unfoldable pub depth : {k : Sort} → Tree k → ℕ
depth (prim p) = 1
depth (blank n) = 1
depth (array_of s) = suc (depth s)
depth (map_of s t) = suc (max (depth s) (depth t))
depth (record_of f) = suc (depth f)
depth (function_of p r) = suc (max (depth p) (depth r))
depth (symbol_of ts) = 1
depth no_fields = 0
depth (field n s f) = max (depth s) (depth f)
depth no_parameters = 0
depth (parameter s p) = max (depth s) (depth p)

-- how many fields or parameters a list has; a shape is no list
unfoldable pub count : {k : Sort} → Tree k → ℕ
count (prim p) = 0
count (blank n) = 0
count (array_of s) = 0
count (map_of s t) = 0
count (record_of f) = 0
count (function_of p r) = 0
count (symbol_of ts) = 0
count no_fields = 0
count (field n s f) = suc (count f)
count no_parameters = 0
count (parameter s p) = suc (count p)

-- every name and text is UTF-8, and every Variable is "0 to 65,535"
unfoldable pub ProperTexts : List Text → Type 0
ProperTexts [] = Unit {0}
ProperTexts (t ∷ ts) = (utf8 t ≡ true) × ProperTexts ts

unfoldable pub Proper : {k : Sort} → Tree k → Type 0
Proper (prim p) = Unit {0}
Proper (blank n) = n < 65536
Proper (array_of s) = Proper s
Proper (map_of s t) = Proper s × Proper t
Proper (record_of f) = Proper f
Proper (function_of p r) = Proper p × Proper r
Proper (symbol_of ts) = ProperTexts ts
Proper no_fields = Unit {0}
Proper (field n s f) = (utf8 n ≡ true) × Proper s × Proper f
Proper no_parameters = Unit {0}
Proper (parameter s p) = Proper s × Proper p
