-- NOT TO BE BELIEVED: of every accepted encoding proved to find what stands there (proofs/Places.antt). Steps over an accepted encoding, by places in
-- the input s. They stay inside s whatever its bytes are, so they ask nothing of their callers. Only contracts between our own crates cite them.
use Rattle.std.specs.Prelude.{ℕ, zero, suc, ◌+◌, ◌-◌, ◌<◌, ◌≤◌, max, List, length, get_or, ltb, leb, Result, Ok, Err}
use Rattle.meaning.specs.Rules.{◌⇒◌∣◌}
use Rattle.meaning.specs.FirstByte.{class_of}
use Rattle.leaves.specs.Leb.{leb_at}
use Rattle.leaves.specs.declared.refusals.Refusal.{Refusal}
use Rattle.leaves.specs.declared.Leb.{Leb}
use Rattle.payloads.specs.First.{first_said}
use Rattle.payloads.specs.Payload.{named, shaped, size_at}
use Rattle.payloads.specs.declared.first.Kind.{Kind}
use Rattle.payloads.specs.declared.first.Kind.TheVariants.{Array, Map, Record, Function, Symbol, Variable}
use Rattle.payloads.specs.declared.first.First.{First}
use Rattle.payloads.specs.declared.first.First.TheVariants.{Unassigned, Short, Long}
use Rattle.steps.specs.declared.Listing.{Listing}

-- the first byte and the payload's size
abbrev pub head_size : ℕ
head_size = 3

-- what the first byte at a place says; past the end nothing is assigned
unfoldable pub first_at : List ℕ → ℕ → First
first_at s at =
    leb (length s) at ⇒ Unassigned ∣ λ _.
    first_said (class_of (get_or s at 0))

-- where something is assigned, a byte stands
abbrev pub FirstInside : List ℕ → ℕ → First → Type 0
FirstInside s at Unassigned = Unit {0}
FirstInside s at (Short levels) = (at < length s) × (levels ≤ 2)
FirstInside s at (Long kind) = at < length s

-- the place after the shape at a place, by its head
unfoldable pub past_long : List ℕ → ℕ → ℕ
past_long s at =
    ltb (length s - at) head_size ⇒ at ∣ λ _.
    ltb (length s - at - head_size) (size_at s (at + 1)) ⇒ at ∣ λ _.
    at + head_size + size_at s (at + 1)

abbrev pub past_first : List ℕ → ℕ → First → ℕ
past_first s at Unassigned = at
past_first s at (Short levels) = at + 1
past_first s at (Long kind) = past_long s at

unfoldable pub past_shape : List ℕ → ℕ → ℕ
past_shape s at = past_first s at (first_at s at)

-- the place after the text at a place, and after an item's name, where it has one
abbrev pub past_leb : List ℕ → ℕ → Result Leb Refusal → ℕ
past_leb s at (Err r) = at
past_leb s at (Ok size) = ltb (length s - size.next) size.value ⇒ at ∣ λ _. size.next + size.value

unfoldable pub past_text : List ℕ → ℕ → ℕ
past_text s at = past_leb s at (leb_at s (length s) at)

unfoldable pub past_name : List ℕ → ℕ → Kind → ℕ
past_name s at kind = named kind ⇒ past_text s at ∣ λ _. at

-- the place after an item, and after k of them
unfoldable pub past_item : List ℕ → ℕ → Kind → ℕ
past_item s at kind = shaped kind ⇒ past_shape s (past_name s at kind) ∣ λ _. past_name s at kind

unfoldable pub past_items : List ℕ → Kind → ℕ → ℕ → ℕ
past_items s kind zero at = at
past_items s kind (suc k) at = past_items s kind k (past_item s at kind)

-- the list of a payload: where it starts, after any count, and how many items it has
abbrev pub listing : ℕ → ℕ → Listing
listing from count = record { from = from; count = count }

abbrev pub counted_by : ℕ → ℕ → Result Leb Refusal → Listing
counted_by start more (Err r) = listing start 0
counted_by start more (Ok count) = listing count.next (count.value + more)

unfoldable pub list_at : List ℕ → ℕ → Kind → Listing
list_at s start Array = listing start 1
list_at s start Map = listing start 2
list_at s start Record = counted_by start 0 (leb_at s (length s) start)
list_at s start Function = counted_by start 1 (leb_at s (length s) start)
list_at s start Symbol = counted_by start 0 (leb_at s (length s) start)
list_at s start Variable = listing start 0

-- what every list has: it starts after the payload's start, inside the input if that is, and its items are few
abbrev pub ListingInside : List ℕ → ℕ → Listing → Type 0
ListingInside s start l = (start ≤ l.from) × (l.from ≤ max start (length s)) × (l.count ≤ 16384)
