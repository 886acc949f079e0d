-- How long and how deep the shapes of nodes are, up to one over their limits, as the code finds them: each node's extent from those of the nodes
-- before it. Proved to be the extents of the shapes that the nodes stand for (proofs/Shapes.antt). No public contract cites it.
use Rattle.std.specs.Prelude.{ℕ, zero, suc, ◌+◌, ◌-◌, ◌≤◌, ◌<◌, max, min, ◌≡◌, List, Bool, ◌&&◌, ltb, eqb, length, get_or}
use Rattle.meaning.specs.Rules.{◌⇒◌∣◌}
use Rattle.meaning.specs.Limits.{max_bytes, max_levels, max_nodes, max_links, max_names}
use Rattle.meaning.specs.FirstByte.{short_blanks}
use Rattle.meaning.specs.Shape.{Shape, depth}
use Rattle.meaning.specs.Encode.{encode}
use Rattle.meaning.specs.Table.{Node, Link, array_kind, map_kind, record_kind, function_kind, symbol_kind}
use Rattle.tables.specs.declared.Way.{Way}
use Rattle.tables.specs.declared.Way.TheVariants.{Bare, Named, Texts}
use Rattle.tables.specs.Places.{name_place, node_at, link_at, name_at, target_kind}
use Rattle.extents.specs.declared.Extent.{Extent}

abbrev pub extent : ℕ → ℕ → Extent
extent l d = record { length = l; depth = d }

-- one over the limit of an encoding, and of a shape's levels
abbrev pub over : ℕ
over = max_bytes + 1

abbrev pub too_deep : ℕ
too_deep = max_levels + 1

-- the extent of a shape
abbrev pub extent_of : Shape → Extent
extent_of t = extent (min (length (encode t)) over) (min (depth t) too_deep)

-- sums and levels that stop growing
abbrev pub plus : ℕ → ℕ → ℕ
plus a b = min (a + b) over

abbrev pub deeper : ℕ → ℕ
deeper a = min (a + 1) too_deep

abbrev pub leb_size : ℕ → ℕ
leb_size n = ltb n 128 ⇒ 1 ∣ λ _. 2

-- with a text of so many bytes after its length, and with a shape
abbrev pub with_text : Extent → ℕ → Extent
with_text e size = extent (plus (plus e.length (leb_size size)) size) e.depth

abbrev pub with_shape : Extent → Extent → Extent
with_shape e x = extent (plus e.length x.length) (max e.depth x.depth)

-- what is held of node j
abbrev pub held_in : List ℕ → List ℕ → ℕ → Extent
held_in lengths depths j = extent (get_or lengths j 0) (get_or depths j 0)

-- held says the extent of a node; rest is the table from the links' count on, with so many links
module _ (held : ℕ → Extent) (rest : List ℕ) (links : ℕ) where
  -- with what a link stands for
  abbrev pub with_link : Way → Extent → Link → Extent
  with_link Bare e l = with_shape e (held l.target)
  with_link Named e l = with_shape (with_text e (name_at rest links l.name).size) (held l.target)
  with_link Texts e l = with_text e (name_at rest links l.name).size

  -- with what b links from link a on stand for
  unfoldable pub sum_run : Way → ℕ → ℕ → Extent → Extent
  sum_run way a zero e = e
  sum_run way a (suc b) e = sum_run way (suc a) b (with_link way e (link_at rest a))

abbrev pub none : Extent
none = extent 0 0

-- a list whose head and count have so many bytes
abbrev pub closed : ℕ → Extent → Extent
closed front e = extent (plus e.length front) (deeper e.depth)

-- the target of link x is a primitive
abbrev pub prim_at : List ℕ → List ℕ → ℕ → Bool
prim_at nodes rest x = ltb (target_kind nodes rest x) array_kind

-- the extent of a node
unfoldable pub node_extent : (ℕ → Extent) → List ℕ → List ℕ → ℕ → Node → Extent
node_extent held nodes rest links n =
    ltb n.kind array_kind ⇒ extent 1 1 ∣ λ _.
    eqb n.kind array_kind ⇒ (prim_at nodes rest n.a ⇒ extent 1 2 ∣ λ _. closed 3 (sum_run held rest links Bare n.a n.b none)) ∣ λ _.
    eqb n.kind map_kind ⇒ ((prim_at nodes rest n.a && prim_at nodes rest (n.a + 1)) ⇒ extent 1 2 ∣ λ _. closed 3 (sum_run held rest links Bare n.a n.b none)) ∣ λ _.
    eqb n.kind record_kind ⇒ closed (3 + leb_size n.b) (sum_run held rest links Named n.a n.b none) ∣ λ _.
    eqb n.kind function_kind ⇒ closed (3 + leb_size (n.b - 1)) (sum_run held rest links Bare n.a n.b none) ∣ λ _.
    eqb n.kind symbol_kind ⇒ closed (3 + leb_size n.b) (sum_run held rest links Texts n.a n.b none) ∣ λ _.
    ltb n.a short_blanks ⇒ extent 1 1 ∣ λ _.
    extent 5 1

-- of each of the first c nodes its extent is held
abbrev pub ExtentsTo : List ℕ → List ℕ → ℕ → List ℕ → List ℕ → ℕ → Type 0
ExtentsTo nodes rest links lengths depths c =
    (j : ℕ) → j < c → held_in lengths depths j ≡ node_extent (held_in lengths depths) nodes rest links (node_at nodes j)

-- the sections before the text are within their limits and there, and something is held of each node that a table may have
pub record Holds (rest : List ℕ) (links names : ℕ) (lengths depths : List ℕ) : Type 0 where
  pub links_few : links ≤ max_links
  pub names_few : names ≤ max_names
  pub front : name_place links names ≤ length rest
  pub lengths_all : length lengths ≡ max_nodes
  pub depths_all : length depths ≡ max_nodes
