-- The bytes of a shape whose blanks are filled, and the pass over the bytes that writes them (steps/specs/Pass.antt). Contracts between our own
-- crates cite it, no public one does.
use Rattle.std.specs.Prelude.{ℕ, ◌+◌, ◌*◌, ◌-◌, ◌≤◌, ◌<◌, ◌≡◌, List, [], ◌∷◌, ◌++◌, length, ltb, Option, Some, None}
use Rattle.meaning.specs.Rules.{◌⇒◌∣◌}
use Rattle.meaning.specs.Limits.{max_bytes}
use Rattle.meaning.specs.Shape.{Shape}
use Rattle.meaning.specs.FirstByte.{short_blanks, prim_byte, array_byte, map_byte}
use Rattle.meaning.specs.Encode.{encode}
use Rattle.meaning.specs.Reading.{Reading, got, bad}
use Rattle.meaning.specs.Sheet.{plug}
use Rattle.buffers.specs.Written.{written}
use Rattle.payloads.specs.declared.first.Kind.{Kind}
use Rattle.payloads.specs.declared.first.Kind.TheVariants.{Array, Map, Record, Function, Symbol, Variable}
use Rattle.steps.specs.Heads.{head_bytes}
use Rattle.steps.specs.Pass.{Came, Pass, pass_items, pass_shape}
use Rattle.writes.specs.declared.Places.{Places}
use Rattle.writes.specs.declared.Peek.{Peek}
use Rattle.writes.specs.declared.Packed.{Packed}

-- the number of the primitive whose encoding the bytes are
abbrev pub prim_code : List ℕ → Option ℕ
prim_code [] = None
prim_code (b ∷ []) =
    ltb b (prim_byte 0) ⇒ None ∣ λ _.
    ltb b (prim_byte 5) ⇒ Some (b - prim_byte 0) ∣ λ _.
    None
prim_code (b ∷ c ∷ w) = None

-- the items of a list so far: the number of the form of one byte, while all are primitives, and their bytes
pub record Items : Type 0 where
  pub code : Option ℕ
  pub bytes : List ℕ

abbrev pub items : Option ℕ → List ℕ → Items
items c b = record { code = c; bytes = b }

-- primitives one after the other, as the packed Map counts them
abbrev pub more : Option ℕ → Option ℕ → Option ℕ
more None q = None
more (Some p) None = None
more (Some p) (Some q) = Some (5 * p + q)

-- the form of one byte that a list has
abbrev pub pack_byte : Kind → Option ℕ → Option ℕ
pack_byte Array None = None
pack_byte Array (Some c) = Some (array_byte c)
pack_byte Map None = None
pack_byte Map (Some c) = Some (map_byte 0 c)
pack_byte Record p = None
pack_byte Function p = None
pack_byte Symbol p = None
pack_byte Variable p = None

-- the one byte where there is one, else the bytes
abbrev pub byte_or : Option ℕ → List ℕ → List ℕ
byte_or None w = w
byte_or (Some b) w = b ∷ []

abbrev pub list_bytes : Kind → List ℕ → Items → List ℕ
list_bytes kind count a = byte_or (pack_byte kind a.code) (head_bytes kind (length (count ++ a.bytes)) ++ (count ++ a.bytes))

-- a shape of one byte; σ says what becomes of a blank
abbrev pub short_bytes : (ℕ → Shape) → ℕ → List ℕ
short_bytes σ b =
    ltb b short_blanks ⇒ encode (σ b) ∣ λ _.
    b ∷ []

abbrev pub writes : (ℕ → Shape) → Pass (List ℕ) Items
writes σ = record {
  nothing = [];
  short = λ b levels. short_bytes σ b;
  blank = λ n. encode (σ n);
  symbol = λ w. w;
  start = items (Some 0) [];
  item = λ a name v. items (more a.code (prim_code v)) (a.bytes ++ (name ++ v));
  list = list_bytes;
}

-- there is room from a place on for what a pass makes, and its length can be said in two bytes
abbrev pub Fits : ℕ → ℕ → Came (List ℕ) → Type 0
Fits room to r = (to + length r.made ≤ room) × (length r.made < 65536)

abbrev pub FitsItems : ℕ → ℕ → Came Items → Type 0
FitsItems room to r = (to + length r.made.bytes ≤ room) × (length r.made.bytes < 65536)

-- the buffer d became e: bytes w were written from a place on, and p says what comes next, in the template and in the buffer
pub record WroteBytes (d e : List ℕ) (to : ℕ) (w : List ℕ) (next : ℕ) (p : Places) : Type 0 where
  pub next_is : p.next ≡ next
  pub to_is : p.to ≡ to + length w
  pub wrote : e ≡ written d to w

abbrev pub Wrote : List ℕ → List ℕ → ℕ → Places → Came (List ℕ) → Type 0
Wrote d e to p r = WroteBytes d e to r.made r.next p

abbrev pub WroteItems : List ℕ → List ℕ → ℕ → Places → Came Items → Type 0
WroteItems d e to p r = WroteBytes d e to r.made.bytes r.next p

-- what a look at the shape at a place tells of what the pass makes there: the primitive and the place after the shape, where it is one
abbrev pub peek_said : Option ℕ → ℕ → Option Peek
peek_said None next = None
peek_said (Some c) next = Some (record { next = next; code = c })

abbrev pub PeekIs : (ℕ → Shape) → List ℕ → ℕ → Option Peek → Type 0
PeekIs σ s at r = (left : ℕ) → r ≡ peek_said (prim_code (pass_shape (writes σ) left s at).made) (pass_shape (writes σ) left s at).next

-- how many items a list that may be packed has
abbrev pub packed_count : Kind → ℕ
packed_count Array = 1
packed_count Map = 2
packed_count Record = 0
packed_count Function = 0
packed_count Symbol = 0
packed_count Variable = 0

-- what a look at a list tells: the form of one byte and the place after its items, where it has that form
abbrev pub packed_said : Option ℕ → ℕ → Option Packed
packed_said None next = None
packed_said (Some b) next = Some (record { next = next; byte = b })

abbrev pub PackedOf : Kind → Came Items → Option Packed → Type 0
PackedOf kind a r = r ≡ packed_said (pack_byte kind a.made.code) a.next

abbrev pub PackedIs : (ℕ → Shape) → List ℕ → ℕ → Kind → Option Packed → Type 0
PackedIs σ s from kind r = (left : ℕ) → PackedOf kind (pass_items (writes σ) (pass_shape (writes σ) left) kind (packed_count kind) s from (writes σ).start) r

-- there is room for an accepted template, filled, and it is no longer than an encoding may be
abbrev pub RoomFor : (ℕ → Shape) → ℕ → ℕ → Reading Shape → Type 0
RoomFor σ room to (got t w) = (to + length (encode (plug σ t)) ≤ room) × (length (encode (plug σ t)) ≤ max_bytes)
RoomFor σ room to (bad number place) = ⊥

-- it was written
abbrev pub WroteFor : (ℕ → Shape) → List ℕ → List ℕ → ℕ → ℕ → Reading Shape → Type 0
WroteFor σ d e to r (got t w) = (r ≡ to + length (encode (plug σ t))) × (e ≡ written d to (encode (plug σ t)))
WroteFor σ d e to r (bad number place) = Unit {0}
