-- 01-scope.md, "Node table": what the bytes of a table mean, with every refusal and its place in the document's order, and the tables within the
-- limits.
use Rattle.std.specs.Prelude.{ℕ, zero, suc, ◌+◌, ◌*◌, ◌≤◌, ◌<◌, ◌≡◌, List, [], ◌∷◌, Bool, true, false, not, ◌&&◌, ltb, leb, eqb, length, drop}
use Rattle.meaning.specs.Rules.{◌⇒◌∣◌}
use Rattle.meaning.specs.Limits.{max_nodes, max_links, max_names, max_text}
use Rattle.meaning.specs.Refusals.{section_broken, node_broken, name_broken}
use Rattle.meaning.specs.Numbers.{of_two}
use Rattle.meaning.specs.Utf8.{utf8}
use Rattle.meaning.specs.Within.{Bytes}
use Rattle.meaning.specs.Reading.{Reading, got, bad, next}
use Rattle.meaning.specs.SheetReading.{count_size, number_at}
use Rattle.meaning.specs.Table.{Node, Link, Name, Table, array_kind, map_kind, record_kind, function_kind, symbol_kind, variable_kind, link, name, link_of, text_of}

-- the bytes of a node, of a link, of a name
abbrev pub node_size : ℕ
node_size = 6

abbrev pub link_size : ℕ
link_size = 4

abbrev pub name_size : ℕ
name_size = 4

-- "9 by section (count missing, outside its limits, or entries past the end"), at "its count": a section at the place p, of entries of so many
-- bytes; its count is handed on with the bytes after it
unfoldable pub section_at : ℕ → ℕ → ℕ → ℕ → List ℕ → Reading ℕ
section_at p least most size [] = bad section_broken p
section_at p least most size (x ∷ []) = bad section_broken p
section_at p least most size (x ∷ y ∷ w) =
    ltb (of_two x y) least ⇒ bad section_broken p ∣ λ _.
    ltb most (of_two x y) ⇒ bad section_broken p ∣ λ _.
    ltb (length w) (size * of_two x y) ⇒ bad section_broken p ∣ λ _.
    got (of_two x y) w

-- the entries of a section that has so many
unfoldable pub nodes_in : ℕ → List ℕ → List Node
nodes_in zero w = []
nodes_in (suc c) [] = []
nodes_in (suc c) (k ∷ []) = []
nodes_in (suc c) (k ∷ z ∷ w) = record { kind = k; second = z; a = number_at w 0; b = number_at w 2 } ∷ nodes_in c (drop 4 w)

unfoldable pub links_in : ℕ → List ℕ → List Link
links_in zero w = []
links_in (suc c) w = link (number_at w 0) (number_at w 2) ∷ links_in c (drop link_size w)

unfoldable pub names_in : ℕ → List ℕ → List Name
names_in zero w = []
names_in (suc c) w = name (number_at w 0) (number_at w 2) ∷ names_in c (drop name_size w)

module _ (T : Table) where
  -- "Targets are smaller than the node's own index, but a Symbol's are always 0. Names are name indexes, below the name count, for Record and
  -- Symbol, else 0": a link of node i without a name, one with a name, and one of a Symbol
  abbrev pub bare_link : ℕ → Link → Bool
  bare_link i l = ltb l.target i && eqb l.name 0

  abbrev pub named_link : ℕ → Link → Bool
  named_link i l = ltb l.target i && ltb l.name (length T.names)

  abbrev pub text_link : Link → Bool
  text_link l = eqb l.target 0 && ltb l.name (length T.names)

  -- b links from link a on are good
  unfoldable pub good_run : (Link → Bool) → ℕ → ℕ → Bool
  good_run good a zero = true
  good_run good a (suc b) = good (link_of T a) && good_run good (suc a) b

  -- "For kinds 5 to 9 a + b is at most the link count"
  abbrev pub good_links : (Link → Bool) → Node → Bool
  good_links good n = leb (n.a + n.b) (length T.links) && good_run good n.a n.b

  -- "Array has 1 link, Map 2, Function at least 1 (the return last)"; "A node that breaks any of this, has a kind over 10 or a second byte other
  -- than zero" is broken
  unfoldable pub good_node : ℕ → Node → Bool
  good_node i n =
      not (eqb n.second 0) ⇒ false ∣ λ _.
      ltb n.kind array_kind ⇒ eqb n.a 0 && eqb n.b 0 ∣ λ _.
      eqb n.kind array_kind ⇒ eqb n.b 1 && good_links (bare_link i) n ∣ λ _.
      eqb n.kind map_kind ⇒ eqb n.b 2 && good_links (bare_link i) n ∣ λ _.
      eqb n.kind record_kind ⇒ good_links (named_link i) n ∣ λ _.
      eqb n.kind function_kind ⇒ leb 1 n.b && good_links (bare_link i) n ∣ λ _.
      eqb n.kind symbol_kind ⇒ good_links text_link n ∣ λ _.
      eqb n.kind variable_kind ⇒ eqb n.b 0 ∣ λ _.
      false

  -- "10 by node": the nodes ns from node i on; "Unreached nodes are checked too but mean nothing; links that no node uses are not looked at"
  unfoldable pub check_nodes : ℕ → List Node → Reading Table → Reading Table
  check_nodes i [] r = r
  check_nodes i (n ∷ ns) r =
      not (good_node i n) ⇒ bad node_broken i ∣ λ _.
      check_nodes (suc i) ns r

  -- "11 by name (range, then UTF-8)": the names ns from name k on, each its range and then its text
  unfoldable pub check_names : ℕ → List Name → Reading Table → Reading Table
  check_names k [] r = r
  check_names k (n ∷ ns) r =
      ltb (length T.text) (n.start + n.size) ⇒ bad name_broken k ∣ λ _.
      not (utf8 (text_of T k)) ⇒ bad name_broken k ∣ λ _.
      check_names (suc k) ns r

  -- the sections are laid out: "10 by node, 11 by name"
  abbrev pub check_table : Reading Table
  check_table = check_nodes 0 T.nodes (check_names 0 T.names (got T []))

-- the places of the counts of links, of names and of the text, after n nodes, l links and m names
abbrev pub links_place : ℕ → ℕ
links_place n = count_size + node_size * n

abbrev pub names_place : ℕ → ℕ → ℕ
names_place n l = links_place n + count_size + link_size * l

abbrev pub text_place : ℕ → ℕ → ℕ → ℕ
text_place n l m = names_place n l + count_size + name_size * m

-- "then leftover bytes", at "the first", and then the checks of nodes and names: v are the bytes after the text's count c, at the place p
unfoldable pub ended : ℕ → ℕ → List ℕ → Reading Table → Reading Table
ended p c v r = ltb c (length v) ⇒ bad section_broken (p + count_size + c) ∣ λ _. r

-- "Table: 1 to 6,144 nodes, up to 6,144 links, 2,048 names, 2,048 bytes of text."
unfoldable pub read_table : List ℕ → Reading Table
read_table w =
    next (section_at 0 1 max_nodes node_size w) λ n w₁.
    next (section_at (links_place n) 0 max_links link_size (drop (node_size * n) w₁)) λ l w₂.
    next (section_at (names_place n l) 0 max_names name_size (drop (link_size * l) w₂)) λ m w₃.
    next (section_at (text_place n l m) 0 max_text 1 (drop (name_size * m) w₃)) λ c w₄.
    ended (text_place n l m) c w₄
    (check_table (record { nodes = nodes_in n w₁; links = links_in l w₂; names = names_in m w₃; text = w₄ }))

-- every number fits its bytes: two of them, or the one of a kind or a second byte
unfoldable pub NodesFit : List Node → Type 0
NodesFit [] = Unit {0}
NodesFit (n ∷ ns) = (n.kind < 256) × (n.second < 256) × (n.a < 65536) × (n.b < 65536) × NodesFit ns

unfoldable pub LinksFit : List Link → Type 0
LinksFit [] = Unit {0}
LinksFit (l ∷ ls) = (l.target < 65536) × (l.name < 65536) × LinksFit ls

unfoldable pub NamesFit : List Name → Type 0
NamesFit [] = Unit {0}
NamesFit (n ∷ ns) = (n.start < 65536) × (n.size < 65536) × NamesFit ns

module _ (T : Table) where
  -- the nodes ns from node i on are good
  unfoldable pub GoodNodes : ℕ → List Node → Type 0
  GoodNodes i [] = Unit {0}
  GoodNodes i (n ∷ ns) = (good_node T i n ≡ true) × GoodNodes (suc i) ns

  -- the names ns from name k on lie in the text and are UTF-8
  unfoldable pub GoodNames : ℕ → List Name → Type 0
  GoodNames k [] = Unit {0}
  GoodNames k (n ∷ ns) = (n.start + n.size ≤ length T.text) × (utf8 (text_of T k) ≡ true) × GoodNames (suc k) ns

-- "Table: 1 to 6,144 nodes, up to 6,144 links, 2,048 names, 2,048 bytes of text", each number in its bytes, every node and every name good
pub record TableWithin (T : Table) : Type 0 where
  pub nodes_some : 1 ≤ length T.nodes
  pub nodes_few : length T.nodes ≤ max_nodes
  pub links_few : length T.links ≤ max_links
  pub names_few : length T.names ≤ max_names
  pub text_short : length T.text ≤ max_text
  pub nodes_fit : NodesFit T.nodes
  pub links_fit : LinksFit T.links
  pub names_fit : NamesFit T.names
  pub text_small : Bytes T.text
  pub nodes_good : GoodNodes T 0 T.nodes
  pub names_good : GoodNames T 0 T.names
