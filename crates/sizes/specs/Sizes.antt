-- What a shape measures once its blanks are filled, and the pass over the bytes that finds it (steps/specs/Pass.antt). Contracts between our own
-- crates cite it, no public one does.
use Rattle.std.specs.Prelude.{ℕ, ◌+◌, ◌*◌, ◌≤◌, max, ◌≡◌, List, Bool, true, false, ◌&&◌, length, get_or, ltb, eqb}
use Rattle.std.proofs.Math.Option.{Option, none, some}
use Rattle.meaning.specs.Rules.{◌⇒◌∣◌}
use Rattle.meaning.specs.Limits.{max_bytes, max_levels}
use Rattle.meaning.specs.Shape.{Shape, Primitive, depth}
use Rattle.meaning.specs.FirstByte.{short_blanks, prim_byte}
use Rattle.meaning.specs.Encode.{encode, as_prim}
use Rattle.meaning.specs.Reading.{Reading, got, bad}
use Rattle.meaning.specs.Sheet.{plug}
use Rattle.payloads.specs.declared.first.Kind.{Kind}
use Rattle.payloads.specs.declared.first.Kind.TheVariants.{Array, Map, Record, Function, Symbol, Variable}
use Rattle.steps.specs.Steps.{head_size}
use Rattle.steps.specs.Pass.{Came, came, Pass}
use Rattle.sizes.specs.declared.Size.{Size}
use Rattle.sizes.specs.declared.Sized.{Sized}
use Rattle.sizes.specs.declared.Sum.{Sum}
use Rattle.sizes.specs.declared.Summed.{Summed}

abbrev pub size : ℕ → ℕ → Bool → Size
size l d p = record { length = l; depth = d; prim = p }

abbrev pub sum : ℕ → ℕ → Bool → Sum
sum l d p = record { length = l; depth = d; prims = p }

-- whether a shape is a primitive
abbrev pub is_some : Option Primitive → Bool
is_some none = false
is_some (some p) = true

-- the size of a shape
abbrev pub size_of : Shape → Size
size_of t = size (length (encode t)) (depth t) (is_some (as_prim t))

-- an encoding is a primitive's: one byte
unfoldable pub prim_in : List ℕ → Bool
prim_in w =
    eqb (length w) 1 ⇒ (ltb (get_or w 0 0) (prim_byte 0) ⇒ false ∣ λ _. ltb (get_or w 0 0) (prim_byte 5)) ∣ λ _.
    false

-- a shape of one byte, by the byte and its depth; σ says what becomes of a blank
abbrev pub short_size : (ℕ → Shape) → ℕ → ℕ → Size
short_size σ b levels =
    ltb b short_blanks ⇒ size_of (σ b) ∣ λ _.
    size 1 levels (eqb levels 1)

-- items, one more with so many bytes of name
abbrev pub sum_item : Sum → ℕ → Size → Sum
sum_item a name v = sum (a.length + name + v.length) (max a.depth v.depth) (a.prims && v.prim)

-- a list of a kind, where all its items are primitives, has a form of one byte
abbrev pub packs : Kind → Bool
packs Array = true
packs Map = true
packs Record = false
packs Function = false
packs Symbol = false
packs Variable = false

-- a list by its kind, with so many bytes of head and count
abbrev pub list_size : Kind → ℕ → Sum → Size
list_size kind front a =
    (packs kind && a.prims) ⇒ size 1 2 false ∣ λ _.
    size (front + a.length) (a.depth + 1) false

abbrev pub sizes : (ℕ → Shape) → Pass Size Sum
sizes σ = record {
  nothing = size 0 0 false;
  short = short_size σ;
  blank = λ n. size_of (σ n);
  symbol = λ w. size (length w) 1 false;
  start = sum 0 0 true;
  item = λ a name v. sum_item a (length name) v;
  list = λ kind count a. list_size kind (head_size + length count) a;
}

-- what the code's own answers say
abbrev pub sized_said : Sized → Came Size
sized_said r = came r.next r.size

abbrev pub summed_said : Summed → Came Sum
summed_said r = came r.next r.sum

-- what becomes of a blank is within the limits, so that no sum is cut off: a byte of the template becomes no more bytes than an encoding has
abbrev pub SizeInside : Size → Type 0
SizeInside r = (r.length ≤ max_bytes) × (r.depth ≤ max_levels)

abbrev pub SizedInside : ℕ → List ℕ → ℕ → Sized → Type 0
SizedInside left s at r =
    (at ≤ r.next) × (r.next ≤ length s) × (r.size.length + max_bytes * at ≤ max_bytes * r.next) × (r.size.depth ≤ left + max_levels)

abbrev pub SummedInside : ℕ → List ℕ → ℕ → Summed → Type 0
SummedInside left s from r =
    (from ≤ r.next) × (r.next ≤ length s) × (r.sum.length + max_bytes * from ≤ max_bytes * r.next) × (r.sum.depth ≤ left + max_levels)

-- the size of an accepted template, filled
abbrev pub MeasureIs : (ℕ → Shape) → Reading Shape → Size → Type 0
MeasureIs σ (got t w) r = r ≡ size_of (plug σ t)
MeasureIs σ (bad number place) r = Unit {0}
