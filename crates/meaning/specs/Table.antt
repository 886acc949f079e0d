-- 01-scope.md, "Node table": what a table is, its bytes, the shape that it means, and the table of a shape.
use Rattle.std.specs.Prelude.{ℕ, zero, suc, ◌+◌, ◌-◌, ◌≡◌, List, [], ◌∷◌, ◌++◌, ltb, eqb, length, get_or}
use Rattle.std.proofs.Math.Seq.{slice}
use Rattle.meaning.specs.Rules.{◌⇒◌∣◌}
use Rattle.meaning.specs.Numbers.{two_bytes}
use Rattle.meaning.specs.Shape.{Text, Sort, Tree, fields, parameters, prim, blank, array_of, map_of, record_of, function_of, symbol_of, no_fields, field, no_parameters, parameter, Shape, count}
use Rattle.meaning.specs.FirstByte.{code, prim_of}
use Rattle.meaning.specs.Parts.{field_names}

-- "nodes of 6 bytes: kind, a zero byte, a, b"
pub record Node : Type 0 where
  pub kind : ℕ
  pub second : ℕ
  pub a : ℕ
  pub b : ℕ

-- "links of 4 bytes: target, name"
pub record Link : Type 0 where
  pub target : ℕ
  pub name : ℕ

-- "names of 4 bytes: start, length in the text"
pub record Name : Type 0 where
  pub start : ℕ
  pub size : ℕ

-- "Four sections in this order", the last "text bytes"
pub record Table : Type 0 where
  pub nodes : List Node
  pub links : List Link
  pub names : List Name
  pub text : List ℕ

-- "Kinds 0 to 4 primitives (a = b = 0); 5 Array, 6 Map, 7 Record, 8 Function, 9 Symbol (a first link, b how many links); 10 Variable (a its
-- number, b = 0)"
abbrev pub array_kind : ℕ
array_kind = 5

abbrev pub map_kind : ℕ
map_kind = 6

abbrev pub record_kind : ℕ
record_kind = 7

abbrev pub function_kind : ℕ
function_kind = 8

abbrev pub symbol_kind : ℕ
symbol_kind = 9

abbrev pub variable_kind : ℕ
variable_kind = 10

abbrev pub node : ℕ → ℕ → ℕ → Node
node k a b = record { kind = k; second = 0; a = a; b = b }

abbrev pub link : ℕ → ℕ → Link
link t n = record { target = t; name = n }

abbrev pub name : ℕ → ℕ → Name
name s l = record { start = s; size = l }

-- "each after its count (all numbers two bytes, low first)"
unfoldable pub nodes_bytes : List Node → List ℕ
nodes_bytes [] = []
nodes_bytes (n ∷ ns) = n.kind ∷ n.second ∷ two_bytes n.a ++ (two_bytes n.b ++ nodes_bytes ns)

unfoldable pub links_bytes : List Link → List ℕ
links_bytes [] = []
links_bytes (l ∷ ls) = two_bytes l.target ++ (two_bytes l.name ++ links_bytes ls)

unfoldable pub names_bytes : List Name → List ℕ
names_bytes [] = []
names_bytes (n ∷ ns) = two_bytes n.start ++ (two_bytes n.size ++ names_bytes ns)

unfoldable pub table_bytes : Table → List ℕ
table_bytes T =
    two_bytes (length T.nodes) ++ (nodes_bytes T.nodes
    ++ (two_bytes (length T.links) ++ (links_bytes T.links
    ++ (two_bytes (length T.names) ++ (names_bytes T.names
    ++ (two_bytes (length T.text) ++ T.text))))))

-- The shape that a table means: "The last node is the root." Each node stands for a shape, its links for its children or texts, in order.
module _ (T : Table) where
  -- node i, link i, name k; where there is none, any will do
  abbrev pub node_of : ℕ → Node
  node_of i = get_or T.nodes i (node 0 0 0)

  abbrev pub link_of : ℕ → Link
  link_of i = get_or T.links i (link 0 0)

  abbrev pub name_of : ℕ → Name
  name_of k = get_or T.names k (name 0 0)

  -- the text of name k
  abbrev pub text_of : ℕ → Text
  text_of k = slice (name_of k).start ((name_of k).start + (name_of k).size) T.text

  -- the texts of b links from link a on
  unfoldable pub texts_from : ℕ → ℕ → List Text
  texts_from a zero = []
  texts_from a (suc b) = text_of (link_of a).name ∷ texts_from (suc a) b

  -- the fields and the parameters of b links from link a on, where child i is the shape of node i
  unfoldable pub fields_from : (ℕ → Shape) → ℕ → ℕ → Tree fields
  fields_from child a zero = no_fields
  fields_from child a (suc b) = field (text_of (link_of a).name) (child (link_of a).target) (fields_from child (suc a) b)

  unfoldable pub parameters_from : (ℕ → Shape) → ℕ → ℕ → Tree parameters
  parameters_from child a zero = no_parameters
  parameters_from child a (suc b) = parameter (child (link_of a).target) (parameters_from child (suc a) b)

  -- the shape of a node; a Function's "return last"
  unfoldable pub node_shape : (ℕ → Shape) → Node → Shape
  node_shape child n =
      ltb n.kind array_kind ⇒ prim (prim_of n.kind) ∣ λ _.
      eqb n.kind array_kind ⇒ array_of (child (link_of n.a).target) ∣ λ _.
      eqb n.kind map_kind ⇒ map_of (child (link_of n.a).target) (child (link_of (suc n.a)).target) ∣ λ _.
      eqb n.kind record_kind ⇒ record_of (fields_from child n.a n.b) ∣ λ _.
      eqb n.kind function_kind ⇒ function_of (parameters_from child n.a (n.b - 1)) (child (link_of (n.a + (n.b - 1))).target) ∣ λ _.
      eqb n.kind symbol_kind ⇒ symbol_of (texts_from n.a n.b) ∣ λ _.
      blank n.a

  -- the shape of node i, where the nodes below it are at most n: "Targets are smaller than the node's own index", so n = i is enough
  unfoldable pub shape_in : ℕ → ℕ → Shape
  shape_in zero i = node_shape (λ j. blank 0) (node_of i)
  shape_in (suc n) i = node_shape (shape_in n) (node_of i)

  abbrev pub shape_of : ℕ → Shape
  shape_of i = shape_in i i

  -- what the table means
  abbrev pub table_shape : Shape
  table_shape = shape_of (length T.nodes - 1)

-- "Nodes may share children": node i of the table stands for a shape, and the links from link i on for fields, parameters or texts. Every node of
-- a table that passes its checks stands for one shape, the one above (law `one-shape`)
module _ (T : Table) where
  unfoldable pub StandsTexts : List Text → ℕ → Type 0
  StandsTexts [] a = Unit {0}
  StandsTexts (w ∷ ws) a = (text_of T (link_of T a).name ≡ w) × StandsTexts ws (suc a)

  unfoldable pub Stands : {k : Sort} → Tree k → ℕ → Type 0
  Stands (prim p) i = node_of T i ≡ node (code p) 0 0
  Stands (blank n) i = node_of T i ≡ node variable_kind n 0
  Stands (array_of s) i = (a : ℕ) × (node_of T i ≡ node array_kind a 1) × Stands s (link_of T a).target
  Stands (map_of s t) i = (a : ℕ) × (node_of T i ≡ node map_kind a 2) × Stands s (link_of T a).target × Stands t (link_of T (suc a)).target
  Stands (record_of f) i = (a : ℕ) × (node_of T i ≡ node record_kind a (count f)) × Stands f a
  Stands (function_of p r) i = (a : ℕ) × (node_of T i ≡ node function_kind a (suc (count p))) × Stands p a × Stands r (link_of T (a + count p)).target
  Stands (symbol_of ts) i = (a : ℕ) × (node_of T i ≡ node symbol_kind a (length ts)) × StandsTexts ts a
  Stands no_fields i = Unit {0}
  Stands (field n s f) i = (text_of T (link_of T i).name ≡ n) × Stands s (link_of T i).target × Stands f (suc i)
  Stands no_parameters i = Unit {0}
  Stands (parameter s p) i = Stands s (link_of T i).target × Stands p (suc i)

-- The table of a shape: "From bytes to table nothing is shared: children first, then the node; with each node its links, names and texts are
-- added in order. An empty Record or Symbol has the number of links so far as a."

-- a table that grew, and the nodes of the shapes that were added last
pub record Grown : Type 0 where
  pub table : Table
  pub roots : List ℕ

-- names of texts that stand one after the other from a place of the text on, and their bytes
unfoldable pub names_from : ℕ → List Text → List Name
names_from at [] = []
names_from at (w ∷ ws) = name at (length w) ∷ names_from (at + length w) ws

unfoldable pub joined : List Text → List ℕ
joined [] = []
joined (w ∷ ws) = w ++ joined ws

-- links to nodes: without names, and with the names from k on; links to texts with the names from k on
unfoldable pub bare_links : List ℕ → List Link
bare_links [] = []
bare_links (j ∷ js) = link j 0 ∷ bare_links js

unfoldable pub named_links : ℕ → List ℕ → List Link
named_links k [] = []
named_links k (j ∷ js) = link j k ∷ named_links (suc k) js

unfoldable pub text_links : ℕ → List Text → List Link
text_links k [] = []
text_links k (w ∷ ws) = link 0 k ∷ text_links (suc k) ws

-- a node added with its links, names and texts
unfoldable pub with_node : Table → Node → List Link → List Text → Grown
with_node T n ls ws = record {
  table = record {
    nodes = T.nodes ++ (n ∷ []);
    links = T.links ++ ls;
    names = T.names ++ names_from (length T.text) ws;
    text = T.text ++ joined ws;
  };
  roots = length T.nodes ∷ [];
}

-- a table with a shape, or with a list of them, added
unfoldable pub grow : {k : Sort} → Tree k → Table → Grown
grow (prim p) T = with_node T (node (code p) 0 0) [] []
grow (blank n) T = with_node T (node variable_kind n 0) [] []
grow (array_of s) T =
    let d = grow s T in
    with_node d.table (node array_kind (length d.table.links) 1) (bare_links d.roots) []
grow (map_of s t) T =
    let d = grow s T in
    let e = grow t d.table in
    with_node e.table (node map_kind (length e.table.links) 2) (bare_links (d.roots ++ e.roots)) []
grow (record_of f) T =
    let d = grow f T in
    with_node d.table (node record_kind (length d.table.links) (count f)) (named_links (length d.table.names) d.roots) (field_names f)
grow (function_of p r) T =
    let d = grow p T in
    let e = grow r d.table in
    with_node e.table (node function_kind (length e.table.links) (suc (count p))) (bare_links (d.roots ++ e.roots)) []
grow (symbol_of ts) T = with_node T (node symbol_kind (length T.links) (length ts)) (text_links (length T.names) ts) ts
grow no_fields T = record { table = T; roots = [] }
grow (field n s f) T =
    let d = grow s T in
    let e = grow f d.table in
    record { table = e.table; roots = d.roots ++ e.roots }
grow no_parameters T = record { table = T; roots = [] }
grow (parameter s p) T =
    let d = grow s T in
    let e = grow p d.table in
    record { table = e.table; roots = d.roots ++ e.roots }

abbrev pub empty_table : Table
empty_table = record { nodes = []; links = []; names = []; text = [] }

abbrev pub table_of : Shape → Table
table_of s = (grow s empty_table).table
