-- What the leaf `leb128` says of a LEB128 number: the meaning's `read_count`, with places for what is left of the window.
use Rattle.std.specs.Prelude.{ℕ, ◌<◌, ◌≤◌, List, Result, Ok, Err}
use Rattle.std.proofs.Math.Seq.{slice}
use Rattle.meaning.specs.Reading.{Reading, got, bad, place, read_count}
use Rattle.leaves.specs.Faults.{refusal}
use Rattle.leaves.specs.declared.refusals.Refusal.{Refusal}
use Rattle.leaves.specs.declared.Leb.{Leb}

abbrev pub leb_of : ℕ → ℕ → Leb
leb_of value next = record { value = value; next = next }

-- the number read with the place after it, or the refusal at the place of the number, in a window that ends at end
abbrev pub leb_said : ℕ → ℕ → Reading ℕ → Result Leb Refusal
leb_said end at (got v w) = Ok (leb_of v (place end w))
leb_said end at (bad n p) = Err (refusal n at)

-- the number that stands at a place of a window that ends at end
unfoldable pub leb_at : List ℕ → ℕ → ℕ → Result Leb Refusal
leb_at s end at = leb_said end at (read_count end (slice at end s))

-- what every such number has: it is small, and lies inside the window
abbrev pub LebInside : ℕ → ℕ → Result Leb Refusal → Type 0
LebInside end at (Ok n) = (n.value < 16384) × (at < n.next) × (n.next ≤ end)
LebInside end at (Err r) = Unit {0}
