-- How large the table of a shape is.
--     table-nodes, table-links, table-names, table-text     its sections, by the length of the encoding
--     table-of-length                                       its bytes: 30 for each byte of the encoding, and 8
--     made-length, made-within                              the table of a shape within the limits has at most 61,448 bytes, and is within those of tables
-- Assumes nothing.
use Prim.Native.Nat.{ℕ, ◌+◌, ◌*◌, ◌≤◌}
use mathlib.Core.Path.{◌≡◌, refl}
use mathlib.Core.Option.{Option, none, some}
use mathlib.Core.List.{List, [], ◌∷◌, ◌++◌}
use native.Mathlib.Omega.{arith}
use lib.ListN.{length, length-append}
use Rattle.meaning.specs.Limits.{max_nodes, max_links, max_names, max_text, longest_made}
use Rattle.meaning.specs.Shape.{Text, Primitive, Sort, shape, fields, parameters, Tree, prim, blank, array_of, map_of, record_of, function_of, symbol_of, no_fields, field, no_parameters, parameter, Shape}
use Rattle.meaning.specs.FirstByte.{code, map}
use Rattle.meaning.specs.Encode.{sized, as_prim, array_bytes, map_bytes, texts_bytes, encode}
use Rattle.meaning.specs.Within.{Within}
use Rattle.meaning.specs.Parts.{field_names}
use Rattle.meaning.specs.Table.{Node, Link, Name, Table, node, table_bytes, Grown, joined, bare_links, with_node, grow, empty_table, table_of}
use Rattle.meaning.proofs.Complete.{as-prim, leb-pos, blank-pos}
use Rattle.meaning.specs.TableReading.{NodesFit, LinksFit, NamesFit, TableWithin}
use Rattle.meaning.proofs.TableBytes.{table-length}
use Rattle.meaning.proofs.TableOf.{names-length, bare-length, named-length, text-links-length, SmallNodes, SmallLinks, SmallNames, table-rooted, table-text-bytes, table-good-nodes, table-good-names, short-small}

-- the names that fields will have, when their Record is added
abbrev pending : (k : Sort) → Tree k → List Text
pending shape s = []
pending fields f = field_names f
pending parameters p = []

-- E is T with a tree of the bytes w added: each byte pays for three nodes, or for a name or a byte of text, and with each node or text came
-- one link to it, but for the nodes that are handed on
record Sizes (T : Table) {k : Sort} (t : Tree k) (E : Grown) (w : List ℕ) : Type 0 where
  paid : length E.table.nodes + 3 * (length E.table.names + length E.table.text + (length (pending k t) + length (joined (pending k t)))) ≤ length T.nodes + 3 * (length T.names + length T.text) + 3 * length w
  linked : length E.table.links + length E.roots + length T.nodes + length T.names ≤ length T.links + length E.table.nodes + length E.table.names

-- With a node, its links, names and texts, the sections are as much longer.
with-lengths : (D : Table) (n : Node) (ls : List Link) (ws : List Text) → (length (with_node D n ls ws).table.nodes ≡ length D.nodes + 1) × (length (with_node D n ls ws).table.links ≡ length D.links + length ls)
    × (length (with_node D n ls ws).table.names ≡ length D.names + length ws) × (length (with_node D n ls ws).table.text ≡ length D.text + length (joined ws))
unfolding with_node
with-lengths D n ls ws = (length-append D.nodes (n ∷ []), length-append D.links ls, rw (length-append, names-length), length-append D.text (joined ws))

-- So a shape of the bytes w is paid for, if they pay for its node too.
with-sizes : (T D : Table) (s : Shape) (n : Node) (ls : List Link) (ws : List Text) (w : List ℕ)
    → length D.nodes + 1 + 3 * (length D.names + length D.text + (length ws + length (joined ws))) ≤ length T.nodes + 3 * (length T.names + length T.text) + 3 * length w
    → length D.links + length ls + length T.nodes + length T.names ≤ length T.links + length D.nodes + (length D.names + length ws)
    → Sizes T s (with_node D n ls ws) w
unfolding with_node joined
with-sizes T D s n ls ws w h k =
    let e = with-lengths D n ls ws in
    record { paid = omega (arith, e.0, e.2, e.3); linked = omega (arith, e.0, e.1, e.2) }

-- Texts are paid for by their bytes.
texts-paid : (ts : List Text) → length ts + length (joined ts) ≤ length (texts_bytes ts)
unfolding texts_bytes joined
texts-paid [] = omega arith
texts-paid (t ∷ ts) = simp length-append (omega (arith, leb-pos (length t), texts-paid ts))

-- A shape that is a primitive adds its node and nothing else.
prim-lengths : (s : Shape) (b : Primitive) (T : Table) → as_prim s ≡ some b → (length (grow s T).table.nodes ≡ length T.nodes + 1) × (length (grow s T).table.names ≡ length T.names) × (length (grow s T).table.text ≡ length T.text)
unfolding grow joined
prim-lengths s b T p = rw (as-prim s b p)
    (let e = with-lengths T (node (code b) 0 0) [] [] in
    (e.0, omega (arith, e.2), omega (arith, e.3)))

-- An Array is paid for, packed or not.
array-sizes : (s : Shape) (T : Table) → Sizes T s (grow s T) (encode s) → Sizes T (array_of s) (grow (array_of s) T) (encode (array_of s))
unfolding grow encode array_bytes joined
array-sizes s T g = go (as_prim s) refl
  where
    D : Table
    D = (grow s T).table

    linked : length D.links + length (bare_links (grow s T).roots) + length T.nodes + length T.names ≤ length T.links + length D.nodes + (length D.names + 0)
    linked = rw bare-length (omega (arith, g.linked))

    go : (o : Option Primitive) → as_prim s ≡ o → Sizes T (array_of s) (grow (array_of s) T) (array_bytes o (encode s))
    go none p = with-sizes T D (array_of s) _ _ _ _ (omega (arith, g.paid)) linked
    go (some b) p = let z = prim-lengths s b T p in with-sizes T D (array_of s) _ _ _ _ (omega (arith, z.0, z.1, z.2)) linked

-- The links to what two trees hand on came with the nodes and texts of both.
two_linked : (T : Table) {k l : Sort} (s : Tree k) (t : Tree l) (D E : Grown) (v w : List ℕ) → Sizes T s D v → Sizes D.table t E w
    → length E.table.links + length (bare_links (D.roots ++ E.roots)) + length T.nodes + length T.names ≤ length T.links + length E.table.nodes + (length E.table.names + 0)
two_linked T s t D E v w g h = rw (bare-length, length-append) (omega (arith, g.linked, h.linked))

-- A Map is paid for, packed or not.
map-sizes : (s t : Shape) (T : Table) → Sizes T s (grow s T) (encode s) → Sizes (grow s T).table t (grow t (grow s T).table) (encode t) → Sizes T (map_of s t) (grow (map_of s t) T) (encode (map_of s t))
unfolding grow encode map_bytes joined
map-sizes s t T g h = go (as_prim s) refl (as_prim t) refl
  where
    D : Table
    D = (grow s T).table

    linked : length (grow t D).table.links + length (bare_links ((grow s T).roots ++ (grow t D).roots)) + length T.nodes + length T.names ≤ length T.links + length (grow t D).table.nodes + (length (grow t D).table.names + 0)
    linked = two_linked T s t (grow s T) (grow t D) (encode s) (encode t) g h

    long : Sizes T (map_of s t) (grow (map_of s t) T) (sized map (encode s ++ encode t))
    long = with-sizes T (grow t D).table (map_of s t) _ _ _ _ (simp length-append (omega (arith, g.paid, h.paid))) linked

    go : (o : Option Primitive) → as_prim s ≡ o → (o' : Option Primitive) → as_prim t ≡ o' → Sizes T (map_of s t) (grow (map_of s t) T) (map_bytes o o' (encode s ++ encode t))
    go none p o q = long
    go (some b) p none q = long
    go (some b) p (some c) q =
        let y = prim-lengths s b T p in
        let z = prim-lengths t c D q in
        with-sizes T (grow t D).table (map_of s t) _ _ _ _ (omega (arith, y.0, y.1, y.2, z.0, z.1, z.2)) linked

-- Every tree is paid for by its bytes.
sizes : {k : Sort} (t : Tree k) (T : Table) → Sizes T t (grow t T) (encode t)
unfolding grow encode joined field_names
sizes (prim p) T = with-sizes T T (prim p) _ _ _ _ (omega arith) (omega arith)
sizes (blank n) T = with-sizes T T (blank n) _ _ _ _ (omega (arith, blank-pos n)) (omega arith)
sizes (array_of s) T = array-sizes s T (sizes s T)
sizes (map_of s t) T = map-sizes s t T (sizes s T) (sizes t (grow s T).table)
sizes (record_of f) T =
    let g = sizes f T in
    with-sizes T (grow f T).table (record_of f) _ _ _ _ (simp length-append (omega (arith, g.paid))) (rw named-length (omega (arith, g.linked)))
sizes (function_of p r) T =
    let g = sizes p T in
    let h = sizes r (grow p T).table in
    with-sizes T _ (function_of p r) _ _ _ _ (simp length-append (omega (arith, g.paid, h.paid))) (two_linked T p r (grow p T) _ (encode p) (encode r) g h)
sizes (symbol_of ts) T = with-sizes T T (symbol_of ts) _ _ _ _ (simp length-append (omega (arith, texts-paid ts))) (rw text-links-length (omega arith))
sizes no_fields T = record { paid = omega arith; linked = omega arith }
sizes (field n s f) T =
    let g = sizes s T in
    let h = sizes f (grow s T).table in
    record { paid = simp length-append (omega (arith, leb-pos (length n), g.paid, h.paid)); linked = rw (length-append (grow s T).roots) (omega (arith, g.linked, h.linked)) }
sizes no_parameters T = record { paid = omega arith; linked = omega arith }
sizes (parameter s p) T =
    let g = sizes s T in
    let h = sizes p (grow s T).table in
    record { paid = rw length-append (omega (arith, g.paid, h.paid)); linked = rw (length-append (grow s T).roots) (omega (arith, g.linked, h.linked)) }

-- The table of a shape has at most three nodes for each byte of the encoding,
pub table-nodes : (s : Shape) → length (table_of s).nodes ≤ 3 * length (encode s)
unfolding joined
table-nodes s = omega (arith, (sizes s empty_table).paid)

-- three links,
pub table-links : (s : Shape) → length (table_of s).links ≤ 3 * length (encode s)
unfolding joined
table-links s = omega (arith, (sizes s empty_table).paid, (sizes s empty_table).linked)

-- one name
pub table-names : (s : Shape) → length (table_of s).names ≤ length (encode s)
unfolding joined
table-names s = omega (arith, (sizes s empty_table).paid)

-- and one byte of text;
pub table-text : (s : Shape) → length (table_of s).text ≤ length (encode s)
unfolding joined
table-text s = omega (arith, (sizes s empty_table).paid)

-- together thirty bytes, and eight for the counts.
pub table-of-length : (s : Shape) → length (table_bytes (table_of s)) ≤ 8 + 30 * length (encode s)
unfolding joined
table-of-length s = rw (table-length (table_of s)) (omega (arith, (sizes s empty_table).paid, (sizes s empty_table).linked))

-- "Every accepted encoding has a table within these, of at most 61,448 bytes."
pub made-length : (s : Shape) → Within s → length (table_bytes (table_of s)) ≤ longest_made
made-length s h = omega (arith, table-of-length s, h.short)

-- Small numbers fit their bytes.
nodes_fit : (ns : List Node) → SmallNodes ns → NodesFit ns
unfolding SmallNodes NodesFit
nodes_fit [] h = tt
nodes_fit (n ∷ ns) h = (omega arith, omega arith, h.0.2, h.0.3, nodes_fit ns h.1)

links_fit : (ls : List Link) → SmallLinks ls → LinksFit ls
unfolding SmallLinks LinksFit
links_fit [] h = tt
links_fit (l ∷ ls) h = (h.0.0, h.0.1, links_fit ls h.1)

names_fit : (ns : List Name) → SmallNames ns → NamesFit ns
unfolding SmallNames NamesFit
names_fit [] h = tt
names_fit (n ∷ ns) h = (h.0.0, h.0.1, names_fit ns h.1)

-- The table of a shape within the limits is within those of tables.
pub made-within : (s : Shape) → Within s → TableWithin (table_of s)
made-within s h =
    let n : length (table_of s).nodes ≤ max_nodes = omega (arith, table-nodes s, h.short) in
    let l : length (table_of s).links ≤ max_links = omega (arith, table-links s, h.short) in
    let m : length (table_of s).names ≤ max_names = omega (arith, table-names s, h.short) in
    let c : length (table_of s).text ≤ max_text = omega (arith, table-text s, h.short) in
    let z = short-small s h.proper (omega arith) (omega arith) (omega arith) (omega arith) in
    record {
      nodes_some = table-rooted s;
      nodes_few = n;
      links_few = l;
      names_few = m;
      text_short = c;
      nodes_fit = nodes_fit (table_of s).nodes z.0;
      links_fit = links_fit (table_of s).links z.1;
      names_fit = names_fit (table_of s).names z.2;
      text_small = table-text-bytes s h.proper;
      nodes_good = table-good-nodes s h.proper;
      names_good = table-good-names s h.proper;
    }
