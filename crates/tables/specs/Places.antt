-- NOT TO BE BELIEVED: proved to be what reading a table means (proofs/Whole.antt). 01-scope.md, "Node table", once more, as the code goes: by
-- places in the bytes of the nodes and in the rest of the table, from the links' count on.
use Rattle.std.specs.Prelude.{ℕ, zero, suc, ◌+◌, ◌*◌, ◌-◌, ◌≤◌, ◌<◌, ◌≡◌, List, ◌∷◌, ◌++◌, Bool, true, false, not, ◌&&◌, ltb, leb, eqb, length, get_or, drop, Option, Some, None, Result, Ok, Err}
use Rattle.std.proofs.Math.Seq.{slice}
use Rattle.meaning.specs.Rules.{◌⇒◌∣◌}
use Rattle.meaning.specs.Limits.{max_nodes, max_links, max_names, max_text}
use Rattle.meaning.specs.Numbers.{two_bytes}
use Rattle.meaning.specs.Utf8.{utf8}
use Rattle.meaning.specs.SheetReading.{count_size, number_at}
use Rattle.meaning.specs.Table as Meant
use Rattle.meaning.specs.Table.{array_kind, map_kind, record_kind, function_kind, symbol_kind, variable_kind}
use Rattle.meaning.specs.TableReading.{node_size, link_size, name_size, nodes_in, links_in, names_in}
use Rattle.tables.specs.declared.Section.{Section}
use Rattle.tables.specs.declared.Layout.{Layout}
use Rattle.tables.specs.declared.Broken.{Broken}
use Rattle.tables.specs.declared.Node.{Node}
use Rattle.tables.specs.declared.Link.{Link}
use Rattle.tables.specs.declared.Name.{Name}
use Rattle.tables.specs.declared.Way.{Way}
use Rattle.tables.specs.declared.Way.TheVariants.{Bare, Named, Texts}

-- where link x stands in the rest, where the names' count does, name k, the text's count, and the text
abbrev pub link_place : ℕ → ℕ
link_place x = count_size + link_size * x

abbrev pub name_place : ℕ → ℕ → ℕ
name_place links k = link_place links + count_size + name_size * k

abbrev pub text_place : ℕ → ℕ → ℕ
text_place links names = name_place links names + count_size

-- a section of so many entries with the place after them, so many links, names and bytes of text, and a broken place
abbrev pub section : ℕ → ℕ → Section
section count next = record { count = count; next = next }

abbrev pub layout : ℕ → ℕ → ℕ → Layout
layout links names text = record { links = links; names = names; text = text }

abbrev pub broken : ℕ → Broken
broken place = record { place = place }

-- the section whose count stands at a place
unfoldable pub section_of : List ℕ → ℕ → ℕ → ℕ → Option Section
section_of rest at most size =
    ltb (length rest - at) count_size ⇒ None ∣ λ _.
    ltb most (number_at rest at) ⇒ None ∣ λ _.
    ltb (length rest - at - count_size) (size * number_at rest at) ⇒ None ∣ λ _.
    Some (section (number_at rest at) (at + count_size + size * number_at rest at))

abbrev pub after_section : ℕ → Option Section → (ℕ → ℕ → Result Layout Broken) → Result Layout Broken
after_section at (Some s) go = go s.count s.next
after_section at None go = Err (broken at)

-- the sections after the nodes
unfoldable pub layout_at : List ℕ → Result Layout Broken
layout_at rest =
    after_section 0 (section_of rest 0 max_links link_size) λ links second.
    after_section second (section_of rest second max_names name_size) λ names third.
    after_section third (section_of rest third max_text 1) λ text end.
    ltb end (length rest) ⇒ Err (broken end) ∣ λ _.
    Ok (layout links names text)

-- how long the sections after the nodes are
pub record Fits (rest : List ℕ) (links names text : ℕ) : Type 0 where
  pub links_few : links ≤ max_links
  pub names_few : names ≤ max_names
  pub text_few : text ≤ max_text
  pub ends : length rest ≡ text_place links names + text

-- a table in bytes, of so many nodes
abbrev pub whole : ℕ → List ℕ → List ℕ → List ℕ
whole count nodes rest = two_bytes count ++ (nodes ++ rest)

-- the table that so many nodes and the rest are
abbrev pub table_in : List ℕ → List ℕ → ℕ → ℕ → ℕ → Meant.Table
table_in nodes rest count links names = record {
  nodes = nodes_in count nodes;
  links = links_in links (drop count_size rest);
  names = names_in names (drop (name_place links 0) rest);
  text = drop (text_place links names) rest;
}

-- the bytes of a node whose second byte is zero
abbrev pub node_bytes : ℕ → ℕ → ℕ → List ℕ
node_bytes kind a b = kind ∷ 0 ∷ two_bytes a ++ two_bytes b

-- node i, link x and name k by their bytes, and what the code's own answers say
abbrev pub node_at : List ℕ → ℕ → Meant.Node
node_at nodes i = record {
  kind = get_or nodes (node_size * i) 0;
  second = get_or nodes (node_size * i + 1) 0;
  a = number_at nodes (node_size * i + 2);
  b = number_at nodes (node_size * i + 4);
}

abbrev pub link_at : List ℕ → ℕ → Meant.Link
link_at rest x = Meant.link (number_at rest (link_place x)) (number_at rest (link_place x + count_size))

abbrev pub name_at : List ℕ → ℕ → ℕ → Meant.Name
name_at rest links k = Meant.name (number_at rest (name_place links k)) (number_at rest (name_place links k + count_size))

-- the kind of the node that is the target of link x, where that node is there
abbrev pub target_kind : List ℕ → List ℕ → ℕ → ℕ
target_kind nodes rest x = (node_at nodes (link_at rest x).target).kind

abbrev pub Aimed : List ℕ → List ℕ → ℕ → Type 0
Aimed nodes rest x = ((link_at rest x).target < max_nodes) × (node_size * (link_at rest x).target + node_size ≤ length nodes)

abbrev pub node_said : Node → Meant.Node
node_said n = record { kind = n.kind; second = n.second; a = n.a; b = n.b }

abbrev pub link_said : Link → Meant.Link
link_said l = Meant.link l.target l.name

abbrev pub name_said : Name → Meant.Name
name_said n = Meant.name n.start n.size

-- a link of node i is good, by the way of judging it; there are so many names
abbrev pub good_by : Way → ℕ → ℕ → Meant.Link → Bool
good_by Bare i names l = ltb l.target i && eqb l.name 0
good_by Named i names l = ltb l.target i && ltb l.name names
good_by Texts i names l = eqb l.target 0 && ltb l.name names

-- b links from link a on are
unfoldable pub good_from : List ℕ → Way → ℕ → ℕ → ℕ → ℕ → Bool
good_from rest way i names a zero = true
good_from rest way i names a (suc b) = good_by way i names (link_at rest a) && good_from rest way i names (suc a) b

-- and are there
unfoldable pub good_span : List ℕ → Way → ℕ → ℕ → ℕ → ℕ → ℕ → Bool
good_span rest way i links names a b = ltb links (a + b) ⇒ false ∣ λ _. good_from rest way i names a b

-- a node at the index i is good
unfoldable pub good_at : List ℕ → ℕ → ℕ → ℕ → Meant.Node → Bool
good_at rest links names i n =
    not (eqb n.second 0) ⇒ false ∣ λ _.
    ltb n.kind array_kind ⇒ (eqb n.a 0 && eqb n.b 0) ∣ λ _.
    eqb n.kind array_kind ⇒ (eqb n.b 1 && good_span rest Bare i links names n.a n.b) ∣ λ _.
    eqb n.kind map_kind ⇒ (eqb n.b 2 && good_span rest Bare i links names n.a n.b) ∣ λ _.
    eqb n.kind record_kind ⇒ good_span rest Named i links names n.a n.b ∣ λ _.
    eqb n.kind function_kind ⇒ (leb 1 n.b && good_span rest Bare i links names n.a n.b) ∣ λ _.
    eqb n.kind symbol_kind ⇒ good_span rest Texts i links names n.a n.b ∣ λ _.
    eqb n.kind variable_kind ⇒ eqb n.b 0 ∣ λ _.
    false

-- the first of c nodes from node i on that is not
unfoldable pub first_bad_node : List ℕ → List ℕ → ℕ → ℕ → ℕ → ℕ → ℕ
first_bad_node nodes rest links names zero i = i
first_bad_node nodes rest links names (suc c) i =
    good_at rest links names i (node_at nodes i) ⇒ first_bad_node nodes rest links names c (suc i) ∣ λ _.
    i

-- the first of c names from name k on that is broken
unfoldable pub good_name : List ℕ → ℕ → ℕ → ℕ → Meant.Name → Bool
good_name rest links names text n =
    ltb text (n.start + n.size) ⇒ false ∣ λ _.
    utf8 (slice (text_place links names + n.start) (text_place links names + n.start + n.size) rest)

unfoldable pub first_bad_name : List ℕ → ℕ → ℕ → ℕ → ℕ → ℕ → ℕ
first_bad_name rest links names text zero k = k
first_bad_name rest links names text (suc c) k =
    good_name rest links names text (name_at rest links k) ⇒ first_bad_name rest links names text c (suc k) ∣ λ _.
    k

-- the first of so many that is broken, where it is one of them: the search ends at the count where none is
abbrev pub found_below : ℕ → ℕ → Option ℕ
found_below count i = ltb i count ⇒ Some i ∣ λ _. None

-- the nodes and the rest of a table that passed its checks, of so many nodes, links and names
pub record Sound (nodes rest : List ℕ) (count links names : ℕ) : Type 0 where
  pub whole : length nodes ≡ node_size * count
  pub some : 1 ≤ count
  pub few : count ≤ max_nodes
  pub fits : Fits rest links names (length rest - text_place links names)
  pub nodes_good : first_bad_node nodes rest links names count 0 ≡ count
  pub names_good : first_bad_name rest links names (length rest - text_place links names) names 0 ≡ names
