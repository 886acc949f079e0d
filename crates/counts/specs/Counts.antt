-- What the code counts, by places in the encoding s. No public contract of a call cites it.
use Rattle.std.specs.Prelude.{ℕ, ◌≤◌, ◌<◌, ◌≡◌, List, length}
use Rattle.steps.specs.Pass.{Came, pass_items, pass_shape}
use Rattle.counts.specs.declared.Counts.{Counts}
use Rattle.counts.specs.declared.Counted.{Counted}
use Rattle.counts.specs.declared.Tally.{Tally}
use Rattle.counts.specs.declared.items.Items.{Items}
use Rattle.counts.specs.Pieces.{none, plus, Few, Piece, Gathered, no_items, pieces}

-- the items of a list, of which each is a shape
abbrev pub shapes_at : List ℕ → Items → Came Gathered
shapes_at s items = pass_items pieces (pass_shape pieces items.left) items.kind items.count s items.from no_items

-- nothing was counted at a place
abbrev pub nothing_counted : ℕ → Counted
nothing_counted at = record { next = at; counts = none }

-- what was counted of a shape is what the pass makes of it, and the place after it is inside
pub record CountedIs (s : List ℕ) (r : Counted) (v : Came Piece) : Type 0 where
  pub next_is : r.next ≡ v.next
  pub counts_is : r.counts ≡ v.made.counts
  pub inside : r.next ≤ length s

-- so many are there after a shape was added to those before it, which adds what the pass makes of it, and the place after it is inside
pub record AddedIs (s : List ℕ) (base after : Counts) (next : ℕ) (v : Came Piece) : Type 0 where
  pub next_is : next ≡ v.next
  pub counts_is : after ≡ plus base v.made.counts
  pub inside : next ≤ length s

-- so of the items of a list
pub record TallyIs (s : List ℕ) (base after : Counts) (r : Tally) (v : Came Gathered) : Type 0 where
  pub next_is : r.next ≡ v.next
  pub counts_is : after ≡ plus base v.made.counts
  pub text_is : r.text ≡ v.made.text
  pub inside : r.next ≤ length s

-- what the items of a list add is few, where so many are there before the list
abbrev pub FewItems : Counts → Gathered → Type 0
FewItems base a = Few (plus base a.counts) × (a.text < 65536)
