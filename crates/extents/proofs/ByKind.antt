-- The extent of a node, by its kind: one law for each arm of the code.
-- Assumes nothing.
use mathlib.Core.Path.{◌≡◌}
use mathlib.Core.Bool.{◌&&◌}
use mathlib.Core.List.{List}
use Prim.Native.Nat.{ℕ, ◌+◌, ◌-◌, ◌<◌}
use native.Mathlib.Omega.{arith}
use lib.Dec.{ltb}
use borrow.Author.Tests.{le-ltb, lt-ltb, ne_eqb}
use Rattle.meaning.specs.Rules.{◌⇒◌∣◌}
use Rattle.meaning.specs.FirstByte.{short_blanks}
use Rattle.meaning.specs.Table.{Node, array_kind, map_kind, record_kind, function_kind, symbol_kind}
use Rattle.tables.specs.declared.Way.TheVariants.{Bare, Named, Texts}
use Rattle.extents.specs.declared.Extent.{Extent}
use Rattle.extents.specs.Extents.{extent, leb_size, none, sum_run, closed, prim_at, node_extent}

module _ (held : ℕ → Extent) (nodes rest : List ℕ) (links : ℕ) (n : Node) where
  -- A primitive is one byte.
  pub of-primitive : n.kind < array_kind → node_extent held nodes rest links n ≡ extent 1 1
  unfolding node_extent
  of-primitive h = rw (lt-ltb n.kind array_kind h)

  -- So is an Array of a primitive.
  pub of_array : n.kind ≡ array_kind → node_extent held nodes rest links n ≡ (prim_at nodes rest n.a ⇒ extent 1 2 ∣ λ _. closed 3 (sum_run held rest links Bare n.a n.b none))
  unfolding node_extent
  of_array h = rw h

  -- So is a Map of two.
  pub of_map : n.kind ≡ map_kind → node_extent held nodes rest links n ≡ ((prim_at nodes rest n.a && prim_at nodes rest (n.a + 1)) ⇒ extent 1 2 ∣ λ _. closed 3 (sum_run held rest links Bare n.a n.b none))
  unfolding node_extent
  of_map h = rw h

  -- A Record has its count, and its fields with their names.
  pub of-record : n.kind ≡ record_kind → node_extent held nodes rest links n ≡ closed (3 + leb_size n.b) (sum_run held rest links Named n.a n.b none)
  unfolding node_extent
  of-record h = rw h

  -- A Function has its count of parameters.
  pub of_function : n.kind ≡ function_kind → node_extent held nodes rest links n ≡ closed (3 + leb_size (n.b - 1)) (sum_run held rest links Bare n.a n.b none)
  unfolding node_extent
  of_function h = rw h

  -- A Symbol has its count, and its texts.
  pub of-symbol : n.kind ≡ symbol_kind → node_extent held nodes rest links n ≡ closed (3 + leb_size n.b) (sum_run held rest links Texts n.a n.b none)
  unfolding node_extent
  of-symbol h = rw h

  -- A Variable is a blank, short or long.
  pub of-variable : symbol_kind < n.kind → node_extent held nodes rest links n ≡ (ltb n.a short_blanks ⇒ extent 1 1 ∣ λ _. extent 5 1)
  unfolding node_extent
  of-variable h = rw (le-ltb n.kind array_kind (omega arith), ne_eqb n.kind array_kind (omega arith), ne_eqb n.kind map_kind (omega arith), ne_eqb n.kind record_kind (omega arith), ne_eqb n.kind function_kind (omega arith), ne_eqb n.kind symbol_kind (omega arith))
