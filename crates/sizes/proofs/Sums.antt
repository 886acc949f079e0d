-- What the code keeps while it sums up a list, and what it has at the end.
--     Going            what holds at each turn
--     turn             one turn keeps it
--     nothing-inside, short-inside     what stays inside the input and the limits
--     list-is          a list, from what its items are together
-- Assumes nothing.
use mathlib.Core.Path.{◌≡◌, sym, ap, ◌∙◌}
use mathlib.Core.List.{List}
use mathlib.Core.Bool.{true, false}
use Prim.Native.Nat.{ℕ, ◌+◌, ◌*◌, ◌-◌, ◌<◌, ◌≤◌}
use native.Mathlib.Omega.{arith}
use lib.ListN.{length}
use lib.Seq.{length-slice}
use Rattle.meaning.specs.Limits.{max_bytes, max_levels}
use Rattle.meaning.specs.Shape.{Shape}
use Rattle.payloads.specs.Payload.{shaped}
use Rattle.payloads.specs.declared.first.Kind.{Kind}
use Rattle.payloads.specs.declared.first.First.TheVariants.{Long}
use Rattle.steps.specs.declared.Listing.{Listing}
use Rattle.steps.specs.Steps.{head_size, first_at, past_name, list_at, ListingInside}
use Rattle.steps.specs.Pass.{Came, came, pass_items, pass_shape}
use Rattle.sizes.specs.declared.Size.{Size}
use Rattle.sizes.specs.declared.Sized.{Sized}
use Rattle.sizes.specs.declared.Sum.{Sum}
use Rattle.sizes.specs.declared.Summed.{Summed}
use Rattle.sizes.specs.Sizes.{size, sum_item, list_size, sizes, sized_said, summed_said, SizeInside, SizedInside}
use Rattle.steps.proofs.Passing.{list-items, items-one}

-- the items that are due, passed over from here on, end as the whole list does; the place is inside the input, and the sum inside what its bytes
-- can become
pub record Going (σ : ℕ → Shape) (s : List ℕ) (from left : ℕ) (kind : Kind) (count at : ℕ) (a : Sum) (due : ℕ) : Type 0 where
  pub onward : from ≤ at
  pub inside : at ≤ length s
  pub short : a.length + max_bytes * from ≤ max_bytes * at
  pub shallow : a.depth ≤ left + max_levels
  pub same : pass_items (sizes σ) (pass_shape (sizes σ) left) kind count s from (sizes σ).start ≡ pass_items (sizes σ) (pass_shape (sizes σ) left) kind due s at a

module _ {from count at due : ℕ} (σ : ℕ → Shape) (s : List ℕ) (left : ℕ) (kind : Kind) (a : Sum) (start : ℕ) (v : Sized) where
  -- One turn keeps what holds.
  pub turn : (next : ℕ) (r : Sum) → Going σ s from left kind count at a due → 0 < due → next ≡ due - 1 → start ≡ past_name s at kind → at ≤ start → start ≤ length s
      → sized_said v ≡ pass_shape (sizes σ) left s start → SizedInside left s start v → r ≡ sum_item a (start - at) v.size
      → Going σ s from left kind count v.next r next
  turn next r g d n p o i e w h =
      rw (h, n) (record {
        onward = omega arith;
        inside = omega arith;
        short = omega arith;
        shallow = omega arith;
        same = g.same ∙ items-one (sizes σ) (pass_shape (sizes σ) left) kind s at a due d ∙ rw (← p, ← e, length-slice at start s i);
      })

-- Where nothing is made, nothing is added.
pub nothing-inside : (left : ℕ) (s : List ℕ) (at : ℕ) (v : Sized) → at ≤ length s → sized_said v ≡ came at (size 0 0 false) → SizedInside left s at v
nothing-inside left s at v i h =
    let n : v.next ≡ at = ap (λ (r : Came Size). r.next) h in
    let z : v.size ≡ size 0 0 false = ap (λ (r : Came Size). r.made) h in
    rw (n, z) (omega arith, i, omega arith, omega arith)

-- A shape of one byte becomes no more than an encoding has.
pub short-inside : (left : ℕ) (s : List ℕ) (at : ℕ) (v : Size) → at < length s → SizeInside v → SizedInside left s at (record { next = at + 1; size = v })
short-inside left s at v i h = (omega arith, omega arith, omega arith, omega arith)

-- A list is what the code says of it, if its items are.
pub list-is : (σ : ℕ → Shape) (left : ℕ) (s : List ℕ) (at : ℕ) (kind : Kind) (l : Listing) (all : Summed) (r : Size)
    → first_at s at ≡ Long kind → shaped kind ≡ true → 0 < left → at + head_size ≤ length s
    → l ≡ list_at s (at + head_size) kind → ListingInside s (at + head_size) l
    → summed_said all ≡ pass_items (sizes σ) (pass_shape (sizes σ) (left - 1)) kind l.count s l.from (sizes σ).start
    → r ≡ list_size kind (l.from - at) all.sum
    → sized_said (record { next = all.next; size = r }) ≡ pass_shape (sizes σ) left s at
list-is σ left s at kind l all r f p z k e w g h =
    let o : head_size + (l.from - (at + head_size)) ≡ l.from - at = omega arith in
    rw h (sym (list-items (sizes σ) left s at f p z (omega arith) ∙ rw (← e, ← g, length-slice (at + head_size) l.from s (omega arith), o)))
