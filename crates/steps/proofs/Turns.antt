-- `past_items`, as the code counts: up by one.
--     items_more     one item more is passed over after the others
-- Assumes nothing.
use mathlib.Core.Path.{◌≡◌, refl}
use mathlib.Core.List.{List}
use Prim.Native.Nat.{ℕ, zero, suc, ◌+◌}
use native.Mathlib.Numerals.{add-one}
use Rattle.payloads.specs.declared.first.Kind.{Kind}
use Rattle.steps.specs.Steps.{past_item, past_items}

module _ (s : List ℕ) (kind : Kind) where
  after : (k at : ℕ) → past_items s kind (suc k) at ≡ past_item s (past_items s kind k at) kind
  unfolding past_items
  after zero at = refl
  after (suc k) at = after k (past_item s at kind)

  pub items_more : (k at : ℕ) → past_items s kind (k + 1) at ≡ past_item s (past_items s kind k at) kind
  items_more k at = rw add-one (after k at)
