-- What the functions that write a node and its entries do, by places in the encoding s and in the lent buffer. Contracts between our own crates cite it,
-- no public one does.
use Rattle.std.specs.Prelude.{ℕ, ◌+◌, ◌≤◌, ◌<◌, ◌≡◌, Bool, true, false, List, length}
use Rattle.buffers.specs.Written.{written}
use Rattle.payloads.specs.Payload.{named}
use Rattle.payloads.specs.declared.first.Kind.{Kind}
use Rattle.steps.specs.Pass.{Came, pass_items}
use Rattle.counts.specs.declared.Counts.{Counts}
use Rattle.counts.specs.declared.Section.{Section}
use Rattle.counts.specs.declared.items.Items.{Items}
use Rattle.counts.specs.declared.Section.TheVariants.{Nodes, Links, Names, Text}
use Rattle.counts.specs.Pieces.{Few, Gathered, no_items, pieces, inner}

-- whether a section gets anything of the items of a list of a kind
abbrev pub has_entries : Section → Kind → Bool
has_entries Nodes kind = false
has_entries Links kind = true
has_entries Names kind = named kind
has_entries Text kind = named kind

-- what the entries of a list's node say is few, where so many are there before the list and so many after its shapes
abbrev pub FewOwn : Counts → Counts → Gathered → Type 0
FewOwn base after a =
    Few a.counts × (base.nodes + a.counts.nodes < 65536) × (after.names + a.items < 65536) × (after.text + a.text < 65536)

-- the items of a list, of which each is a shape or a text
abbrev pub items_at : ℕ → Kind → ℕ → List ℕ → ℕ → Came Gathered
items_at left kind count s from = pass_items pieces (inner left kind) kind count s from no_items

abbrev pub items_in : List ℕ → Items → Came Gathered
items_in s items = items_at items.left items.kind items.count s items.from

-- the buffer d became e: bytes w were written from a place on, and r is the place after them
pub record Wrote (d e : List ℕ) (to : ℕ) (w : List ℕ) (r : ℕ) : Type 0 where
  pub after : r ≡ to + length w
  pub wrote : e ≡ written d to w

-- bytes w have room from a place on
abbrev pub Room : ℕ → ℕ → List ℕ → Type 0
Room room to w = to + length w ≤ room
