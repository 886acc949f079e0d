-- NOT TO BE BELIEVED: proved to be what Said.antt says, of every accepted encoding (proofs/Whole.antt). What the private functions find, by places
-- in the input s.
use Rattle.std.specs.Prelude.{ℕ, ◌-◌, ◌/◌, ◌%◌, List, length, get_or, ltb, eqb, Result, Ok, Err}
use Rattle.meaning.specs.Rules.{◌⇒◌∣◌}
use Rattle.meaning.specs.Refusals.{no_such_part}
use Rattle.meaning.specs.FirstByte.{array_byte, map_byte}
use Rattle.leaves.specs.Faults.{refusal}
use Rattle.leaves.specs.Leb.{leb_at}
use Rattle.leaves.specs.declared.refusals.Refusal.{Refusal}
use Rattle.leaves.specs.declared.Leb.{Leb}
use Rattle.payloads.specs.Payload.{named, shaped}
use Rattle.payloads.specs.declared.first.Kind.{Kind}
use Rattle.payloads.specs.declared.first.First.{First}
use Rattle.payloads.specs.declared.first.First.TheVariants.{Unassigned, Short, Long}
use Rattle.steps.specs.declared.Listing.{Listing}
use Rattle.steps.specs.Steps.{head_size, first_at, past_shape, past_name, past_items, list_at}
use Rattle.parts.specs.declared.FoundChild.{FoundChild}
use Rattle.parts.specs.declared.FoundChild.TheVariants.{Part, Primitive}
use Rattle.parts.specs.declared.FoundName.{FoundName}
use Rattle.parts.specs.Said.{name_of}

-- the child that starts at a place, and the name whose length stands at one
abbrev pub child_from : List ℕ → ℕ → FoundChild
child_from s start = Part start (past_shape s start - start)

abbrev pub name_by : Result Leb Refusal → Result FoundName Refusal
name_by (Err r) = Err (refusal no_such_part 0)
name_by (Ok size) = Ok (name_of size.next size.value)

unfoldable pub name_from : List ℕ → ℕ → Result FoundName Refusal
name_from s at = name_by (leb_at s (length s) at)

-- child k and name k of a shape with a payload, of which there are so many
abbrev pub child_count : Kind → Listing → ℕ
child_count kind list = shaped kind ⇒ list.count ∣ λ _. 0

abbrev pub name_count : Kind → Listing → ℕ
name_count kind list = named kind ⇒ list.count ∣ λ _. 0

unfoldable pub child_in : List ℕ → Kind → ℕ → Listing → Result FoundChild Refusal
child_in s kind k list =
    ltb k (child_count kind list) ⇒ Ok (child_from s (past_name s (past_items s kind k list.from) kind)) ∣ λ _.
    Err (refusal no_such_part (child_count kind list))

unfoldable pub name_in : List ℕ → Kind → ℕ → Listing → Result FoundName Refusal
name_in s kind k list =
    ltb k (name_count kind list) ⇒ name_from s (past_items s kind k list.from) ∣ λ _.
    Err (refusal no_such_part (name_count kind list))

-- child k of a shape of one byte
unfoldable pub packed_child : ℕ → ℕ → Result FoundChild Refusal
packed_child b k =
    ltb b (array_byte 0) ⇒ Err (refusal no_such_part 0) ∣ λ _.
    ltb b (map_byte 0 0) ⇒ (eqb k 0 ⇒ Ok (Primitive (b - array_byte 0)) ∣ λ _. Err (refusal no_such_part 1)) ∣ λ _.
    eqb k 0 ⇒ Ok (Primitive ((b - map_byte 0 0) / 5)) ∣ λ _.
    eqb k 1 ⇒ Ok (Primitive ((b - map_byte 0 0) % 5)) ∣ λ _.
    Err (refusal no_such_part 2)

-- by the first byte
unfoldable pub child_by : List ℕ → ℕ → First → Result FoundChild Refusal
child_by s k Unassigned = Err (refusal no_such_part 0)
child_by s k (Short levels) = packed_child (get_or s 0 0) k
child_by s k (Long kind) = child_in s kind k (list_at s head_size kind)

unfoldable pub name_with : List ℕ → ℕ → First → Result FoundName Refusal
name_with s k Unassigned = Err (refusal no_such_part 0)
name_with s k (Short levels) = Err (refusal no_such_part 0)
name_with s k (Long kind) = name_in s kind k (list_at s head_size kind)

unfoldable pub child_steps : List ℕ → ℕ → Result FoundChild Refusal
child_steps s k = child_by s k (first_at s 0)

unfoldable pub name_steps : List ℕ → ℕ → Result FoundName Refusal
name_steps s k = name_with s k (first_at s 0)
