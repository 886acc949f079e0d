-- Whether a node is good, by its kind: one law for each arm of the code.
-- Assumes nothing.
use mathlib.Core.Path.{◌≡◌}
use mathlib.Core.Bool.{false, ◌&&◌}
use mathlib.Core.List.{List}
use Prim.Native.Nat.{ℕ, ◌<◌}
use native.Mathlib.Omega.{arith}
use lib.Dec.{leb, eqb}
use borrow.Author.Tests.{le-ltb, lt-ltb, ne_eqb}
use Rattle.meaning.specs.Table.{Node, array_kind, map_kind, record_kind, function_kind, symbol_kind, variable_kind}
use Rattle.tables.specs.declared.Way.TheVariants.{Bare, Named, Texts}
use Rattle.tables.specs.Places.{good_span, good_at}

module _ (rest : List ℕ) (links names i : ℕ) (n : Node) where
  -- A node whose second byte is not zero is broken.
  pub at_second : (n.second ≡ 0 → ⊥) → good_at rest links names i n ≡ false
  unfolding good_at
  at_second h = rw (ne_eqb n.second 0 h)

  module _ (z : n.second ≡ 0) where
    -- A primitive has no links, and neither a nor b.
    pub at-primitive : n.kind < array_kind → good_at rest links names i n ≡ eqb n.a 0 && eqb n.b 0
    unfolding good_at
    at-primitive h = rw (z, lt-ltb n.kind array_kind h)

    -- An Array has one link.
    pub at-array : n.kind ≡ array_kind → good_at rest links names i n ≡ eqb n.b 1 && good_span rest Bare i links names n.a n.b
    unfolding good_at
    at-array h = rw (z, h)

    -- A Map has two.
    pub at_map : n.kind ≡ map_kind → good_at rest links names i n ≡ eqb n.b 2 && good_span rest Bare i links names n.a n.b
    unfolding good_at
    at_map h = rw (z, h)

    -- A Record has links with names.
    pub at-record : n.kind ≡ record_kind → good_at rest links names i n ≡ good_span rest Named i links names n.a n.b
    unfolding good_at
    at-record h = rw (z, h)

    -- A Function has one link at least.
    pub at-function : n.kind ≡ function_kind → good_at rest links names i n ≡ leb 1 n.b && good_span rest Bare i links names n.a n.b
    unfolding good_at
    at-function h = rw (z, h)

    -- A Symbol has links to texts.
    pub at_symbol : n.kind ≡ symbol_kind → good_at rest links names i n ≡ good_span rest Texts i links names n.a n.b
    unfolding good_at
    at_symbol h = rw (z, h)

    -- A Variable has no links.
    pub at-variable : n.kind ≡ variable_kind → good_at rest links names i n ≡ eqb n.b 0
    unfolding good_at
    at-variable h = rw (z, h)

    -- There is no other kind.
    pub at_other : variable_kind < n.kind → good_at rest links names i n ≡ false
    unfolding good_at
    at_other h = rw (z, le-ltb n.kind array_kind (omega arith), ne_eqb n.kind array_kind (omega arith), ne_eqb n.kind map_kind (omega arith), ne_eqb n.kind record_kind (omega arith), ne_eqb n.kind function_kind (omega arith), ne_eqb n.kind symbol_kind (omega arith), ne_eqb n.kind variable_kind (omega arith))
