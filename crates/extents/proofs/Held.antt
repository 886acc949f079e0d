-- What is held of nodes, as it is found one by one.
--     node-small      an extent is at most one over its limits
--     node-same       the extent of a good node looks only at what is held of the nodes before
--     extents-next    with the extent of one more node, that of one more is held
-- Assumes nothing.
use mathlib.Core.Path.{◌≡◌, refl, sym, ◌∙◌, ap, ap₂}
use mathlib.Core.Bool.{true, ◌&&◌}
use mathlib.Core.List.{List}
use Prim.Native.Nat.{ℕ, ◌+◌, ◌≤◌, ◌<◌}
use native.Mathlib.Omega.{arith}
use lib.Dec.{ltb, eqb}
use lib.ListN.{length, set}
use lib.Seq.{get_or-set_same, get_or-set_other}
use borrow.Author.Tests.{eqb-true, eqb-false}
use Rattle.meaning.specs.FirstByte.{short_blanks}
use Rattle.meaning.specs.Table.{Node, array_kind, map_kind, record_kind, function_kind, symbol_kind}
use Rattle.meaning.proofs.Rules.{rule, both}
use Rattle.tables.specs.declared.Way.{Way}
use Rattle.tables.specs.declared.Way.TheVariants.{Bare, Named, Texts}
use Rattle.tables.specs.Places.{node_at, good_at}
use Rattle.extents.specs.declared.Extent.{Extent}
use Rattle.extents.specs.Extents.{extent, over, too_deep, held_in, none, sum_run, closed, prim_at, node_extent, ExtentsTo}
use Rattle.extents.proofs.Sound.{cases, Linked, array-has, map-has, record-has, function-has, symbol-has}
use Rattle.extents.proofs.Sums.{run-same}

-- an extent is at most one over its limits
abbrev Small : Extent → Type 0
Small e = (e.length ≤ over) × (e.depth ≤ too_deep)

-- That of a list is.
closed-small : (front : ℕ) (e : Extent) → Small (closed front e)
closed-small front e = (omega arith, omega arith)

-- That of a node is.
pub node-small : (held : ℕ → Extent) (nodes rest : List ℕ) (links : ℕ) (n : Node) → Small (node_extent held nodes rest links n)
unfolding node_extent
node-small held nodes rest links n =
    rule Small (ltb n.kind array_kind) _ _ (λ _. (omega arith, omega arith)) λ _.
    rule Small (eqb n.kind array_kind) _ _ (λ _. rule Small (prim_at nodes rest n.a) _ _ (λ _. (omega arith, omega arith)) λ _. closed-small _ _) λ _.
    rule Small (eqb n.kind map_kind) _ _ (λ _. rule Small (prim_at nodes rest n.a && prim_at nodes rest (n.a + 1)) _ _ (λ _. (omega arith, omega arith)) λ _. closed-small _ _) λ _.
    rule Small (eqb n.kind record_kind) _ _ (λ _. closed-small _ _) λ _.
    rule Small (eqb n.kind function_kind) _ _ (λ _. closed-small _ _) λ _.
    rule Small (eqb n.kind symbol_kind) _ _ (λ _. closed-small _ _) λ _.
    rule Small (ltb n.a short_blanks) _ _ (λ _. (omega arith, omega arith)) λ _. (omega arith, omega arith)

module _ (held told : ℕ → Extent) (nodes rest : List ℕ) (links names i : ℕ) (n : Node) (same : (k : ℕ) → k < i → held k ≡ told k) where
  -- A list of good links looks only at what is held of the nodes before.
  list_same : (front : ℕ) (way : Way) → Linked rest way i links names n → closed front (sum_run held rest links way n.a n.b none) ≡ closed front (sum_run told rest links way n.a n.b none)
  list_same front way h = ap (closed front) (run-same held told rest links names i same way n.a n.b none h.good)

  -- So does a good node.
  pub node-same : good_at rest links names i n ≡ true → node_extent held nodes rest links n ≡ node_extent told nodes rest links n
  unfolding node_extent
  node-same g =
      both ◌≡◌ (ltb n.kind array_kind) _ _ _ _ (λ _. refl) λ _.
      both ◌≡◌ (eqb n.kind array_kind) _ _ _ _ (λ t. both ◌≡◌ (prim_at nodes rest n.a) _ _ _ _ (λ _. refl) λ _. list_same _ Bare (array-has rest links names i n g (eqb-true _ _ t)).1) λ _.
      both ◌≡◌ (eqb n.kind map_kind) _ _ _ _ (λ t. both ◌≡◌ (prim_at nodes rest n.a && prim_at nodes rest (n.a + 1)) _ _ _ _ (λ _. refl) λ _. list_same _ Bare (map-has rest links names i n g (eqb-true _ _ t)).1) λ _.
      both ◌≡◌ (eqb n.kind record_kind) _ _ _ _ (λ t. list_same _ Named (record-has rest links names i n g (eqb-true _ _ t))) λ _.
      both ◌≡◌ (eqb n.kind function_kind) _ _ _ _ (λ t. list_same _ Bare (function-has rest links names i n g (eqb-true _ _ t)).1) λ _.
      both ◌≡◌ (eqb n.kind symbol_kind) _ _ _ _ (λ t. list_same _ Texts (symbol-has rest links names i n g (eqb-true _ _ t))) λ _.
      refl

module _ (nodes rest : List ℕ) (links names : ℕ) (lengths depths : List ℕ) (i : ℕ) (e : Extent) where
  -- what is held once the extent of node i is stored
  abbrev now : ℕ → Extent
  now = held_in (set lengths i e.length) (set depths i e.depth)

  -- What is held of another node stays.
  held-other : (k : ℕ) → (k ≡ i → ⊥) → held_in lengths depths k ≡ now k
  held-other k h = ap₂ extent (sym (get_or-set_other lengths i k e.length 0 h)) (sym (get_or-set_other depths i k e.depth 0 h))

  -- What is stored is held.
  held_same : i < length lengths → i < length depths → now i ≡ e
  held_same h k = ap₂ extent (get_or-set_same lengths i e.length 0 h) (get_or-set_same depths i e.depth 0 k)

  -- With the extent of one more node, that of one more is held.
  pub extents-next : {n : Node} → i < length lengths → i < length depths → ((j : ℕ) → j ≤ i → good_at rest links names j (node_at nodes j) ≡ true) → n ≡ node_at nodes i → e ≡ node_extent (held_in lengths depths) nodes rest links n → ExtentsTo nodes rest links lengths depths i → ExtentsTo nodes rest links (set lengths i e.length) (set depths i e.depth) (i + 1)
  extents-next h k good q f old j b =
      node_kept j (omega arith) (cases (eqb j i)
      (λ t. let w : j ≡ i = eqb-true _ _ t in rw w (held_same h k ∙ f ∙ ap (node_extent (held_in lengths depths) nodes rest links) q))
      (λ t. let w = eqb-false j i t in sym (held-other j w) ∙ old j (omega (arith, w))))
    where
      node_kept : (j : ℕ) → j ≤ i → now j ≡ node_extent (held_in lengths depths) nodes rest links (node_at nodes j) → now j ≡ node_extent now nodes rest links (node_at nodes j)
      node_kept j b p = p ∙ node-same (held_in lengths depths) now nodes rest links names j (node_at nodes j) (λ k s. held-other k (λ z. omega arith)) (good j b)
