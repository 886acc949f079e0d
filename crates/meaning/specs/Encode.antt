-- 01-scope.md, "First bytes": the bytes of a shape. "Array of a primitive, Map of two primitives and Variables under 32 have only their
-- one-byte form."
use Rattle.std.specs.Prelude.{ℕ, List, [], ◌∷◌, ◌++◌, ltb, length}
use Rattle.std.proofs.Math.Option.{Option, none, some}
use Rattle.meaning.specs.Rules.{◌⇒◌∣◌}
use Rattle.meaning.specs.Numbers.{two_bytes, leb128}
use Rattle.meaning.specs.Shape.{Text, Primitive, Sort, Tree, prim, blank, array_of, map_of, record_of, function_of, symbol_of, no_fields, field, no_parameters, parameter, Shape, count}
use Rattle.meaning.specs.FirstByte.{code, short_blanks, prim_byte, Kind, array, map, rec, function, symbol, variable, kind_byte, array_byte, map_byte}

-- "Bytes 64 to 69 are followed by a payload size, two bytes, low first, then the payload"
abbrev pub sized : Kind → List ℕ → List ℕ
sized k payload = kind_byte k ∷ two_bytes (length payload) ++ payload

-- the primitive that a shape is, if it is one
unfoldable pub as_prim : Shape → Option Primitive
as_prim (prim p) = some p
as_prim (blank n) = none
as_prim (array_of s) = none
as_prim (map_of s t) = none
as_prim (record_of f) = none
as_prim (function_of p r) = none
as_prim (symbol_of ts) = none

-- an Array and a Map, from the primitives that their children are and from their children's bytes
unfoldable pub array_bytes : Option Primitive → List ℕ → List ℕ
array_bytes none x = sized array x
array_bytes (some p) x = array_byte (code p) ∷ []

unfoldable pub map_bytes : Option Primitive → Option Primitive → List ℕ → List ℕ
map_bytes none q x = sized map x
map_bytes (some p) none x = sized map x
map_bytes (some p) (some q) x = map_byte (code p) (code q) ∷ []

unfoldable pub blank_bytes : ℕ → List ℕ
blank_bytes n =
    ltb n short_blanks ⇒ n ∷ [] ∣ λ _.
    sized variable (two_bytes n)

-- "name length, name", "length and text"
abbrev pub text_bytes : Text → List ℕ
text_bytes t = leb128 (length t) ++ t

unfoldable pub texts_bytes : List Text → List ℕ
texts_bytes [] = []
texts_bytes (t ∷ ts) = text_bytes t ++ texts_bytes ts

-- "Array: the element. Map: key, value. Record: field count, then for each field name length, name, shape. Function: parameter count, the
-- parameters, the return. Symbol: part count, then for each part length and text. Variable: two bytes, low first."
unfoldable pub encode : {k : Sort} → Tree k → List ℕ
encode (prim p) = prim_byte (code p) ∷ []
encode (blank n) = blank_bytes n
encode (array_of s) = array_bytes (as_prim s) (encode s)
encode (map_of s t) = map_bytes (as_prim s) (as_prim t) (encode s ++ encode t)
encode (record_of f) = sized rec (leb128 (count f) ++ encode f)
encode (function_of p r) = sized function (leb128 (count p) ++ (encode p ++ encode r))
encode (symbol_of ts) = sized symbol (leb128 (length ts) ++ texts_bytes ts)
encode no_fields = []
encode (field n s f) = text_bytes n ++ (encode s ++ encode f)
encode no_parameters = []
encode (parameter s p) = encode s ++ encode p
