-- Sums over the links of a node, as the code counts.
--     run-turn     one link of those that are due
--     run-same     a good run looks only at what is held of the nodes before
-- Assumes nothing.
use mathlib.Core.Path.{◌≡◌, refl, ap}
use mathlib.Core.Bool.{true}
use mathlib.Core.List.{List}
use Prim.Native.Nat.{ℕ, zero, suc, ◌+◌, ◌<◌}
use native.Mathlib.Numerals.{add-one}
use Rattle.meaning.specs.Table.{Link}
use Rattle.tables.specs.declared.Way.{Way}
use Rattle.tables.specs.declared.Way.TheVariants.{Bare, Named, Texts}
use Rattle.tables.specs.Places.{link_at, name_at, good_by, good_from}
use Rattle.extents.specs.declared.Extent.{Extent}
use Rattle.extents.specs.Extents.{with_text, with_shape, with_link, sum_run}
use Rattle.extents.proofs.Sound.{and_left, and_right, bare-below, named-below}

-- Where a link is due, the sum has it, and the others are due.
pub run-turn : (held : ℕ → Extent) (rest : List ℕ) (links : ℕ) (way : Way) (x due : ℕ) (e : Extent) {l : Link} → l ≡ link_at rest x → sum_run held rest links way x (suc due) e ≡ sum_run held rest links way (x + 1) due (with_link held rest links way e l)
unfolding sum_run
run-turn held rest links way x due e q = let z : x + 1 ≡ suc x = add-one x in rw (q, z)

module _ (held told : ℕ → Extent) (rest : List ℕ) (links names i : ℕ) (same : (k : ℕ) → k < i → held k ≡ told k) where
  -- What a good link stands for is held of a node before.
  link-same : (way : Way) (e : Extent) (l : Link) → good_by way i names l ≡ true → with_link held rest links way e l ≡ with_link told rest links way e l
  link-same Bare e l h = ap (with_shape e) (same l.target (bare-below i names l h))
  link-same Named e l h = ap (with_shape (with_text e (name_at rest links l.name).size)) (same l.target (named-below i names l h))
  link-same Texts e l h = refl

  -- So is what a good run of links stands for.
  pub run-same : (way : Way) (a b : ℕ) (e : Extent) → good_from rest way i names a b ≡ true → sum_run held rest links way a b e ≡ sum_run told rest links way a b e
  unfolding good_from sum_run
  run-same way a zero e h = refl
  run-same way a (suc b) e h =
      rw (link-same way e (link_at rest a) (and_left _ (good_from rest way i names (suc a) b) h)) (run-same way (suc a) b (with_link told rest links way e (link_at rest a)) (and_right (good_by way i names (link_at rest a)) _ h))
