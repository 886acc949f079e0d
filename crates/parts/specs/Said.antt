-- What the answers of `child` and `name` say: this paper's number and values for each of their cases. To be believed.
use Rattle.std.specs.Prelude.{ℕ, ltb, length, Result, Ok, Err}
use Rattle.meaning.specs.Rules.{◌⇒◌∣◌}
use Rattle.meaning.specs.Refusals.{no_such_part}
use Rattle.meaning.specs.Shape.{Shape}
use Rattle.meaning.specs.Reading.{Reading, got, bad}
use Rattle.meaning.specs.Parts.{Child, part, packed_prim, children, child_of, names, name_text, name_place}
use Rattle.leaves.specs.Faults.{refusal}
use Rattle.leaves.specs.declared.refusals.Refusal.{Refusal}
use Rattle.parts.specs.declared.FoundChild.{FoundChild}
use Rattle.parts.specs.declared.FoundChild.TheVariants.{Part, Primitive}
use Rattle.parts.specs.declared.FoundName.{FoundName}

-- a child with bytes, or a primitive's number
abbrev pub told_child : Child → FoundChild
told_child (part place length) = Part place length
told_child (packed_prim number) = Primitive number

-- a text's place and its length
abbrev pub name_of : ℕ → ℕ → FoundName
name_of place length = record { place = place; length = length }

-- "A bad encoding gives 1 to 8 first, then 18", with how many there are
abbrev pub child_said : Reading Shape → ℕ → Result FoundChild Refusal
child_said (bad number place) k = Err (refusal number place)
child_said (got s left) k =
    ltb k (length (children s)) ⇒ Ok (told_child (child_of s k)) ∣ λ _.
    Err (refusal no_such_part (length (children s)))

abbrev pub name_said : Reading Shape → ℕ → Result FoundName Refusal
name_said (bad number place) k = Err (refusal number place)
name_said (got s left) k =
    ltb k (length (names s)) ⇒ Ok (name_of (name_place s k) (length (name_text s k))) ∣ λ _.
    Err (refusal no_such_part (length (names s)))
