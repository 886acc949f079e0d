-- 01-scope.md, "First bytes". Every first byte is named here and nowhere else in the meaning.
use Rattle.std.specs.Prelude.{ℕ, zero, suc, ◌+◌, ◌*◌, ◌-◌, ◌/◌, ◌%◌, ltb, eqb}
use Rattle.meaning.specs.Rules.{◌⇒◌∣◌}
use Rattle.meaning.specs.Shape.{Primitive, int, float, bool, str, bytes, prim, blank, array_of, map_of, Shape}

-- "Int, Float, Bool, Str, Bytes (primitive 0 to 4)"
unfoldable pub code : Primitive → ℕ
code int = 0
code float = 1
code bool = 2
code str = 3
code bytes = 4

unfoldable pub prim_of : ℕ → Primitive
prim_of zero = int
prim_of (suc zero) = float
prim_of (suc (suc zero)) = bool
prim_of (suc (suc (suc zero))) = str
prim_of (suc (suc (suc (suc n)))) = bytes

-- 0-31: "Variable of that number"
abbrev pub short_blanks : ℕ
short_blanks = 32

-- 32-36: a primitive
abbrev pub prim_byte : ℕ → ℕ
prim_byte c = 32 + c

-- 64-69: "Array, Map, Record, Function, Symbol, Variable from 32 up", with a payload
pub data Kind : Type 0 where
  array map rec function symbol variable : Kind

abbrev pub kind_byte : Kind → ℕ
kind_byte array = 64
kind_byte map = 65
kind_byte rec = 66
kind_byte function = 67
kind_byte symbol = 68
kind_byte variable = 69

-- 96-100: "Array of primitive (byte - 96)"
abbrev pub array_byte : ℕ → ℕ
array_byte c = 96 + c

-- 101-125: "Map: 101 + 5 x key + value, both primitives"
abbrev pub map_byte : ℕ → ℕ → ℕ
map_byte c d = 101 + 5 * c + d

-- what a first byte says: a shape of one byte, without or with children (which the byte packs), a payload of a kind, or nothing
pub data Class : Type 0 where
  whole packed : Shape → Class
  long : Kind → Class
  unassigned : Class

-- "others: refused", bytes of 128 or more among them
unfoldable pub class_of : ℕ → Class
class_of b =
    ltb b short_blanks ⇒ whole (blank b) ∣ λ _.
    ltb b (prim_byte 5) ⇒ whole (prim (prim_of (b - prim_byte 0))) ∣ λ _.
    eqb b (kind_byte array) ⇒ long array ∣ λ _.
    eqb b (kind_byte map) ⇒ long map ∣ λ _.
    eqb b (kind_byte rec) ⇒ long rec ∣ λ _.
    eqb b (kind_byte function) ⇒ long function ∣ λ _.
    eqb b (kind_byte symbol) ⇒ long symbol ∣ λ _.
    eqb b (kind_byte variable) ⇒ long variable ∣ λ _.
    ltb b (array_byte 0) ⇒ unassigned ∣ λ _.
    ltb b (array_byte 5) ⇒ packed (array_of (prim (prim_of (b - array_byte 0)))) ∣ λ _.
    ltb b (map_byte 5 0) ⇒ packed (map_of (prim (prim_of ((b - map_byte 0 0) / 5))) (prim (prim_of ((b - map_byte 0 0) % 5)))) ∣ λ _.
    unassigned
