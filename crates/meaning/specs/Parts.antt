-- 01-scope.md, "Children and names": where the children and the names of a shape stand in its bytes.
use Rattle.std.specs.Prelude.{ℕ, ◌+◌, List, [], ◌∷◌, ◌++◌, length, take, get_or}
use Rattle.std.proofs.Math.Option.{Option, none, some}
use Rattle.meaning.specs.Rules.{◌⇒◌∣◌}
use Rattle.meaning.specs.Numbers.{leb128}
use Rattle.meaning.specs.Shape.{Text, Primitive, Tree, fields, parameters, prim, blank, array_of, map_of, record_of, function_of, symbol_of, no_fields, field, no_parameters, parameter, Shape, count}
use Rattle.meaning.specs.FirstByte.{code}
use Rattle.meaning.specs.Encode.{as_prim, text_bytes, encode}
use Rattle.meaning.specs.Reading.{has_short}

-- the children of a shape, in order: "Array has 1, Map 2, Record its fields, Function its parameters and then its return; all others none"
unfoldable pub field_shapes : Tree fields → List Shape
field_shapes no_fields = []
field_shapes (field n s f) = s ∷ field_shapes f

unfoldable pub parameter_shapes : Tree parameters → List Shape
parameter_shapes no_parameters = []
parameter_shapes (parameter s p) = s ∷ parameter_shapes p

unfoldable pub children : Shape → List Shape
children (prim p) = []
children (blank n) = []
children (array_of s) = s ∷ []
children (map_of s t) = s ∷ t ∷ []
children (record_of f) = field_shapes f
children (function_of p r) = parameter_shapes p ++ (r ∷ [])
children (symbol_of ts) = []

-- its names, in order: "a Record's or Symbol's k-th text"; "other shapes have none"
unfoldable pub field_names : Tree fields → List Text
field_names no_fields = []
field_names (field n s f) = n ∷ field_names f

unfoldable pub names : Shape → List Text
names (prim p) = []
names (blank n) = []
names (array_of s) = []
names (map_of s t) = []
names (record_of f) = field_names f
names (function_of p r) = []
names (symbol_of ts) = ts

-- an item of a payload's list: a shape, a name and a shape, or a text
pub data Item : Type 0 where
  bare : Shape → Item
  named : Text → Shape → Item
  lone : Text → Item

-- the items of a shape's payload, in order: its children, a Record's with their names; a Symbol's texts
unfoldable pub field_items : Tree fields → List Item
field_items no_fields = []
field_items (field n s f) = named n s ∷ field_items f

unfoldable pub parameter_items : Tree parameters → List Item
parameter_items no_parameters = []
parameter_items (parameter s p) = bare s ∷ parameter_items p

unfoldable pub text_items : List Text → List Item
text_items [] = []
text_items (t ∷ ts) = lone t ∷ text_items ts

unfoldable pub items : Shape → List Item
items (prim p) = []
items (blank n) = []
items (array_of s) = bare s ∷ []
items (map_of s t) = bare s ∷ bare t ∷ []
items (record_of f) = field_items f
items (function_of p r) = parameter_items p ++ (bare r ∷ [])
items (symbol_of ts) = text_items ts

-- the bytes of an item: its name or text, with its length before it, and then its shape
unfoldable pub name_bytes : Item → List ℕ
name_bytes (bare s) = []
name_bytes (named t s) = text_bytes t
name_bytes (lone t) = text_bytes t

unfoldable pub shape_bytes : Item → List ℕ
shape_bytes (bare s) = encode s
shape_bytes (named t s) = encode s
shape_bytes (lone t) = []

unfoldable pub list_bytes : List Item → List ℕ
list_bytes [] = []
list_bytes (i ∷ is) = name_bytes i ++ (shape_bytes i ++ list_bytes is)

-- where the list starts: after 3 bytes of head and the count's LEB128, where there is a count
unfoldable pub list_start : Shape → ℕ
list_start (prim p) = 3
list_start (blank n) = 3
list_start (array_of s) = 3
list_start (map_of s t) = 3
list_start (record_of f) = 3 + length (leb128 (count f))
list_start (function_of p r) = 3 + length (leb128 (count p))
list_start (symbol_of ts) = 3 + length (leb128 (length ts))

-- item k, and where it starts: after all items before it, names too
abbrev pub item_of : Shape → ℕ → Item
item_of s k = get_or (items s) k (lone [])

abbrev pub item_place : Shape → ℕ → ℕ
item_place s k = list_start s + length (list_bytes (take k (items s)))

-- a child: "place and length in the parent, or a primitive's number when the parent is packed: those children have no bytes"
pub data Child : Type 0 where
  part : ℕ → ℕ → Child
  packed_prim : ℕ → Child

abbrev pub child_shape : Shape → ℕ → Shape
child_shape s k = get_or (children s) k (blank 0)

abbrev pub number_of : Option Primitive → ℕ
number_of none = 0
number_of (some p) = code p

-- child k, where there is one
unfoldable pub child_of : Shape → ℕ → Child
child_of s k =
    has_short s ⇒ packed_prim (number_of (as_prim (child_shape s k))) ∣ λ _.
    part (item_place s k + length (name_bytes (item_of s k))) (length (encode (child_shape s k)))

-- "Name k: a Record's or Symbol's k-th text as place and length": of the text itself, after its length
abbrev pub name_text : Shape → ℕ → Text
name_text s k = get_or (names s) k []

abbrev pub name_place : Shape → ℕ → ℕ
name_place s k = item_place s k + length (leb128 (length (name_text s k)))
