-- Reading a table accepts exactly the bytes of the tables within the limits.
--     nodes-append, nodes-length     the bytes of several nodes
--     nodes-small, counted-small     nodes, and a number before bytes, are bytes
--     read_table_lem            the bytes of a table are read as that table
--     table-read            what is read as a table are the bytes of that table, and it is within the limits
--     accepts-table         both in one
--     same-table-bytes      bytes and table determine each other
--     table-refusal         a refusal has the number 9, 10 or 11, and a place no further on than the end, nor than longest_table
--     table-length          how many bytes a table has
--     longest_table          how many at the limits
--     table-bytes           a table is written as bytes
-- Assumes nothing.
use Prim.Native.Nat.{ℕ, zero, suc, ◌+◌, ◌*◌, ◌≤◌, ◌<◌, min}
use mathlib.Core.Path.{◌≡◌, refl, sym, ◌∙◌, ap, ap₂}
use mathlib.Core.Logic.{◌↔◌}
use mathlib.Core.Bool.{not}
use mathlib.Core.List.{List, [], ◌∷◌, ◌++◌}
use native.Mathlib.Omega.{arith}
use lib.Dec.{ltb}
use lib.ListN.{length, drop, length-append, length-drop}
use lib.Seq.{drop_at}
use borrow.Author.Tests.{ltb-false, not-false, le-ltb}
use Rattle.meaning.specs.Limits.{max_nodes, max_links, max_names, max_text}
use Rattle.meaning.specs.Refusals.{section_broken, name_broken}
use Rattle.meaning.specs.Numbers.{two_bytes, of_two}
use Rattle.meaning.specs.Utf8.{utf8}
use Rattle.meaning.specs.Within.{Bytes}
use Rattle.meaning.specs.Reading.{Reading, got, bad, next}
use Rattle.meaning.specs.SheetReading.{count_size}
use Rattle.meaning.specs.Table.{Node, Link, Name, Table, text_of, nodes_bytes, links_bytes, names_bytes, table_bytes}
use Rattle.meaning.specs.TableReading.{node_size, link_size, name_size, section_at, nodes_in, links_in, names_in, good_node, check_nodes, check_names, links_place, names_place, text_place, ended, read_table, NodesFit, LinksFit, NamesFit, GoodNodes, GoodNames, TableWithin}
use Rattle.meaning.proofs.Rules.{rule}
use Rattle.meaning.proofs.Window.{bytes-append}
use Rattle.meaning.proofs.Complete.{two-value}
use Rattle.meaning.proofs.Sound.{not-got, same-got, by_next, by-else, bytes_rest}
use Rattle.meaning.proofs.Faults.{not-bad}
use Rattle.meaning.proofs.SheetBytes.{two_bytes_lem, four_bytes}

-- The bytes of nodes one after the other are their bytes one after the other.
pub nodes-append : (ns ms : List Node) → nodes_bytes (ns ++ ms) ≡ nodes_bytes ns ++ nodes_bytes ms
unfolding nodes_bytes
nodes-append [] ms = refl
nodes-append (n ∷ ns) ms = rw (nodes-append ns ms)

-- Nodes have 6 bytes each.
pub nodes-length : (ns : List Node) → length (nodes_bytes ns) ≡ node_size * length ns
unfolding nodes_bytes
nodes-length [] = refl
nodes-length (n ∷ ns) = omega (arith, nodes-length ns)

-- Links have 4.
links-length : (ls : List Link) → length (links_bytes ls) ≡ link_size * length ls
unfolding links_bytes
links-length [] = refl
links-length (l ∷ ls) = omega (arith, links-length ls)

-- Names have 4.
names-length : (ns : List Name) → length (names_bytes ns) ≡ name_size * length ns
unfolding names_bytes
names-length [] = refl
names-length (n ∷ ns) = omega (arith, names-length ns)

-- how many bytes a table has that has so many nodes, links, names and bytes of text
abbrev pub table_size : ℕ → ℕ → ℕ → ℕ → ℕ
table_size n l m c = text_place n l m + count_size + c

-- A table has four counts, 6 bytes for each node, 4 for each link and each name, and the text.
pub table-length : (T : Table) → length (table_bytes T) ≡ table_size (length T.nodes) (length T.links) (length T.names) (length T.text)
unfolding table_bytes
table-length T = simp length-append (omega (arith, nodes-length T.nodes, links-length T.links, names-length T.names))

-- how many bytes a table has whose nodes, links, names and text are at their limits
abbrev pub longest_table : ℕ
longest_table = table_size max_nodes max_links max_names max_text

-- Nodes whose numbers fit are written as bytes.
pub nodes-small : (ns : List Node) → NodesFit ns → Bytes (nodes_bytes ns)
unfolding nodes_bytes NodesFit
nodes-small [] f = tt
nodes-small (n ∷ ns) f = (f.0, (f.1, (omega arith, (omega (arith, f.2), (omega arith, (omega (arith, f.3), nodes-small ns f.4))))))

-- So are links.
links-small : (ls : List Link) → LinksFit ls → Bytes (links_bytes ls)
unfolding links_bytes LinksFit
links-small [] f = tt
links-small (l ∷ ls) f = (omega arith, (omega (arith, f.0), (omega arith, (omega (arith, f.1), links-small ls f.2))))

-- So are names.
names-small : (ns : List Name) → NamesFit ns → Bytes (names_bytes ns)
unfolding names_bytes NamesFit
names-small [] f = tt
names-small (n ∷ ns) f = (omega arith, (omega (arith, f.0), (omega arith, (omega (arith, f.1), names-small ns f.2))))

-- A small count and bytes are bytes.
pub counted-small : (n : ℕ) (w : List ℕ) → n < 65536 → Bytes w → Bytes (two_bytes n ++ w)
counted-small n w h b = (omega arith, (omega arith, b))

-- the bytes of a table from its second, its third and its fourth count on
module _ (T : Table) where
  abbrev fourth : List ℕ
  fourth = two_bytes (length T.text) ++ T.text

  abbrev third : List ℕ
  third = two_bytes (length T.names) ++ (names_bytes T.names ++ fourth)

  abbrev second : List ℕ
  second = two_bytes (length T.links) ++ (links_bytes T.links ++ third)

-- A table within the limits is written as bytes.
pub table-bytes : (T : Table) → TableWithin T → Bytes (table_bytes T)
unfolding table_bytes
table-bytes T h =
    counted-small (length T.nodes) (nodes_bytes T.nodes ++ second T) (omega (arith, h.nodes_few)) (bytes-append (nodes_bytes T.nodes) (second T) (nodes-small T.nodes h.nodes_fit)
    (counted-small (length T.links) (links_bytes T.links ++ third T) (omega (arith, h.links_few)) (bytes-append (links_bytes T.links) (third T) (links-small T.links h.links_fit)
    (counted-small (length T.names) (names_bytes T.names ++ fourth T) (omega (arith, h.names_few)) (bytes-append (names_bytes T.names) (fourth T) (names-small T.names h.names_fit)
    (counted-small (length T.text) T.text (omega (arith, h.text_short)) h.text_small))))))

-- The nodes of a table are read back, whatever follows.
nodes-read : (ns : List Node) (x : List ℕ) → nodes_in (length ns) (nodes_bytes ns ++ x) ≡ ns
unfolding nodes_in nodes_bytes
nodes-read [] x = refl
nodes-read (n ∷ ns) x = rw (two-value n.a, two-value n.b, nodes-read ns x)

-- So are the links.
links-read : (ls : List Link) (x : List ℕ) → links_in (length ls) (links_bytes ls ++ x) ≡ ls
unfolding links_in links_bytes
links-read [] x = refl
links-read (l ∷ ls) x = rw (two-value l.target, two-value l.name, links-read ls x)

-- So are the names.
names-read : (ns : List Name) (x : List ℕ) → names_in (length ns) (names_bytes ns ++ x) ≡ ns
unfolding names_in names_bytes
names-read [] x = refl
names-read (n ∷ ns) x = rw (two-value n.start, two-value n.size, names-read ns x)

-- A section whose count is within its limits, and whose entries are there, is read.
section-read : (p least most size n : ℕ) (w : List ℕ) → least ≤ n → n ≤ most → size * n ≤ length w → section_at p least most size (two_bytes n ++ w) ≡ got n w
unfolding section_at
section-read p least most size n w h k l = rw (two-value n, le-ltb n least h, le-ltb most n k, le-ltb (length w) (size * n) l)

-- Good nodes pass their check.
nodes-pass : (T : Table) (i : ℕ) (ns : List Node) (r : Reading Table) → GoodNodes T i ns → check_nodes T i ns r ≡ r
unfolding check_nodes GoodNodes
nodes-pass T i [] r g = refl
nodes-pass T i (n ∷ ns) r g = rw g.0 (nodes-pass T (suc i) ns r g.1)

-- Good names pass theirs.
names-pass : (T : Table) (k : ℕ) (ns : List Name) (r : Reading Table) → GoodNames T k ns → check_names T k ns r ≡ r
unfolding check_names GoodNames
names-pass T k [] r g = refl
names-pass T k (n ∷ ns) r g = rw (le-ltb (length T.text) (n.start + n.size) g.0, g.1) (names-pass T (suc k) ns r g.2)

-- The bytes of a table within the limits are read as that table.
pub read_table_lem : (T : Table) → TableWithin T → read_table (table_bytes T) ≡ got T []
unfolding read_table table_bytes next ended
read_table_lem T h =
    let n : ℕ = length T.nodes in
    let l : ℕ = length T.links in
    let m : ℕ = length T.names in
    let c : ℕ = length T.text in
    rw (
      section-read 0 1 max_nodes node_size n (nodes_bytes T.nodes ++ second T) h.nodes_some h.nodes_few (rw length-append (omega (arith, nodes-length T.nodes))),
      drop_at (nodes_bytes T.nodes) (second T) (node_size * n) (nodes-length T.nodes),
      section-read (links_place n) 0 max_links link_size l (links_bytes T.links ++ third T) (omega arith) h.links_few (rw length-append (omega (arith, links-length T.links))),
      drop_at (links_bytes T.links) (third T) (link_size * l) (links-length T.links),
      section-read (names_place n l) 0 max_names name_size m (names_bytes T.names ++ fourth T) (omega arith) h.names_few (rw length-append (omega (arith, names-length T.names))),
      drop_at (names_bytes T.names) (fourth T) (name_size * m) (names-length T.names),
      section-read (text_place n l m) 0 max_text 1 c T.text (omega arith) h.text_short (omega arith),
      le-ltb c c (omega arith),
      nodes-read T.nodes (second T),
      links-read T.links (third T),
      names-read T.names (fourth T),
    )
    (nodes-pass T 0 T.nodes _ h.nodes_good ∙ names-pass T 0 T.names _ h.names_good)

-- what is read as a section: a count within its limits, and then bytes of which there are enough for its entries
record Section (least most size : ℕ) (w : List ℕ) (n : ℕ) (v : List ℕ) : Type 0 where
  is : Bytes w → (w ≡ two_bytes n ++ v) × Bytes v
  long : length w ≡ count_size + length v
  low : least ≤ n
  high : n ≤ most
  there : size * n ≤ length v

-- So is any that is read.
section-right : (p least most size : ℕ) (w : List ℕ) (n : ℕ) (v : List ℕ) → section_at p least most size w ≡ got n v → Section least most size w n v
unfolding section_at
section-right p least most size [] n v h = absurd (not-got h)
section-right p least most size (x ∷ []) n v h = absurd (not-got h)
section-right p least most size (x ∷ y ∷ w) n v h =
    by-else (ltb (of_two x y) least) _ _ _ h λ p₁ h.
    by-else (ltb most (of_two x y)) _ _ _ h λ p₂ h.
    by-else (ltb (length w) (size * of_two x y)) _ _ _ h λ p₃ h.
    rw (← (same-got h).0, ← (same-got h).1) (record {
      is = λ b. (sym (ap (λ (t : List ℕ). t ++ w) (two_bytes_lem x y b.0 b.1.0)), b.1.1);
      long = omega arith;
      low = ltb-false _ _ p₁;
      high = ltb-false _ _ p₂;
      there = ltb-false _ _ p₃;
    })

-- c entries are in bytes that are long enough: they are their bytes, and what follows
record Entries {E : Type 0} (entries_in : ℕ → List ℕ → List E) (entries_bytes : List E → List ℕ) (Fit : List E → Type 0) (size c : ℕ) (w : List ℕ) : Type 0 where
  is : w ≡ entries_bytes (entries_in c w) ++ drop (size * c) w
  counted : length (entries_in c w) ≡ c
  fit : Fit (entries_in c w)

-- So are any nodes that are read.
nodes-right : (c : ℕ) (w : List ℕ) → Bytes w → node_size * c ≤ length w → Entries nodes_in nodes_bytes NodesFit node_size c w
unfolding nodes_in nodes_bytes NodesFit
nodes-right zero w b l = record { is = refl; counted = refl; fit = tt }
nodes-right (suc c) [] b l = absurd (omega arith)
nodes-right (suc c) (k ∷ []) b l = absurd (omega arith)
nodes-right (suc c) (k ∷ z ∷ []) b l = absurd (omega arith)
nodes-right (suc c) (k ∷ z ∷ p ∷ []) b l = absurd (omega arith)
nodes-right (suc c) (k ∷ z ∷ p ∷ q ∷ []) b l = absurd (omega arith)
nodes-right (suc c) (k ∷ z ∷ p ∷ q ∷ r ∷ []) b l = absurd (omega arith)
nodes-right (suc c) (k ∷ z ∷ p ∷ q ∷ r ∷ s ∷ w) b l =
    let g = nodes-right c w b.1.1.1.1.1.1 (omega arith) in
    let e : node_size * suc c ≡ suc (suc (suc (suc (suc (suc (node_size * c)))))) = omega arith in
    record {
      is = rw e (ap (λ (t : List ℕ). k ∷ z ∷ t) (four_bytes b.1.1 g.is));
      counted = ap suc g.counted;
      fit = (b.0, b.1.0, omega (arith, b.1.1.0, b.1.1.1.0), omega (arith, b.1.1.1.1.0, b.1.1.1.1.1.0), g.fit);
    }

-- So are any links.
links-right : (c : ℕ) (w : List ℕ) → Bytes w → link_size * c ≤ length w → Entries links_in links_bytes LinksFit link_size c w
unfolding links_in links_bytes LinksFit
links-right zero w b l = record { is = refl; counted = refl; fit = tt }
links-right (suc c) [] b l = absurd (omega arith)
links-right (suc c) (p ∷ []) b l = absurd (omega arith)
links-right (suc c) (p ∷ q ∷ []) b l = absurd (omega arith)
links-right (suc c) (p ∷ q ∷ r ∷ []) b l = absurd (omega arith)
links-right (suc c) (p ∷ q ∷ r ∷ s ∷ w) b l =
    let g = links-right c w b.1.1.1.1 (omega arith) in
    let e : link_size * suc c ≡ suc (suc (suc (suc (link_size * c)))) = omega arith in
    record {
      is = rw e (four_bytes b g.is);
      counted = ap suc g.counted;
      fit = (omega (arith, b.0, b.1.0), omega (arith, b.1.1.0, b.1.1.1.0), g.fit);
    }

-- So are any names.
names-right : (c : ℕ) (w : List ℕ) → Bytes w → name_size * c ≤ length w → Entries names_in names_bytes NamesFit name_size c w
unfolding names_in names_bytes NamesFit
names-right zero w b l = record { is = refl; counted = refl; fit = tt }
names-right (suc c) [] b l = absurd (omega arith)
names-right (suc c) (p ∷ []) b l = absurd (omega arith)
names-right (suc c) (p ∷ q ∷ []) b l = absurd (omega arith)
names-right (suc c) (p ∷ q ∷ r ∷ []) b l = absurd (omega arith)
names-right (suc c) (p ∷ q ∷ r ∷ s ∷ w) b l =
    let g = names-right c w b.1.1.1.1 (omega arith) in
    let e : name_size * suc c ≡ suc (suc (suc (suc (name_size * c)))) = omega arith in
    record {
      is = rw e (four_bytes b g.is);
      counted = ap suc g.counted;
      fit = (omega (arith, b.0, b.1.0), omega (arith, b.1.1.0, b.1.1.1.0), g.fit);
    }

-- Nodes that pass their check are good.
nodes-passed : (T : Table) (i : ℕ) (ns : List Node) (r : Reading Table) {S : Table} {v : List ℕ} → check_nodes T i ns r ≡ got S v → GoodNodes T i ns × (r ≡ got S v)
unfolding check_nodes GoodNodes
nodes-passed T i [] r h = (tt, h)
nodes-passed T i (n ∷ ns) r h =
    by-else (not (good_node T i n)) _ _ _ h λ p h.
    let g = nodes-passed T (suc i) ns r h in
    ((not-false _ p, g.0), g.1)

-- So are names.
names-passed : (T : Table) (k : ℕ) (ns : List Name) (r : Reading Table) {S : Table} {v : List ℕ} → check_names T k ns r ≡ got S v → GoodNames T k ns × (r ≡ got S v)
unfolding check_names GoodNames
names-passed T k [] r h = (tt, h)
names-passed T k (n ∷ ns) r h =
    by-else (ltb (length T.text) (n.start + n.size)) _ _ _ h λ p h.
    by-else (not (utf8 (text_of T k))) _ _ _ h λ q h.
    let g = names-passed T (suc k) ns r h in
    ((ltb-false _ _ p, not-false _ q, g.0), g.1)

-- Four sections with nothing after them are the bytes of the table that they are, and it is within the limits if its nodes and names are good.
sections-right : (w w₁ w₂ w₃ w₄ : List ℕ) (n l m c : ℕ) → Bytes w
    → Section 1 max_nodes node_size w n w₁
    → Section 0 max_links link_size (drop (node_size * n) w₁) l w₂
    → Section 0 max_names name_size (drop (link_size * l) w₂) m w₃
    → Section 0 max_text 1 (drop (name_size * m) w₃) c w₄
    → length w₄ ≤ c
    → (T : Table) → T ≡ record { nodes = nodes_in n w₁; links = links_in l w₂; names = names_in m w₃; text = w₄ }
    → GoodNodes T 0 T.nodes
    → GoodNames T 0 T.names
    → (w ≡ table_bytes T) × TableWithin T
unfolding table_bytes
sections-right w w₁ w₂ w₃ w₄ n l m c b s₁ s₂ s₃ s₄ e T t f g = rw t (
  whole,
  record {
    nodes_some = rw a₁.counted s₁.low;
    nodes_few = rw a₁.counted s₁.high;
    links_few = rw a₂.counted s₂.high;
    names_few = rw a₃.counted s₃.high;
    text_short = omega (arith, e, s₄.high);
    nodes_fit = a₁.fit;
    links_fit = a₂.fit;
    names_fit = a₃.fit;
    text_small = (s₄.is b₃).1;
    nodes_good = rw t at f;
    names_good = rw t at g;
  },
)
  where
    a₁ : Entries nodes_in nodes_bytes NodesFit node_size n w₁
    a₁ = nodes-right n w₁ (s₁.is b).1 s₁.there

    b₁ : Bytes (drop (node_size * n) w₁)
    b₁ = bytes_rest (nodes_bytes (nodes_in n w₁)) w₁ _ a₁.is (s₁.is b).1

    a₂ : Entries links_in links_bytes LinksFit link_size l w₂
    a₂ = links-right l w₂ (s₂.is b₁).1 s₂.there

    b₂ : Bytes (drop (link_size * l) w₂)
    b₂ = bytes_rest (links_bytes (links_in l w₂)) w₂ _ a₂.is (s₂.is b₁).1

    a₃ : Entries names_in names_bytes NamesFit name_size m w₃
    a₃ = names-right m w₃ (s₃.is b₂).1 s₃.there

    b₃ : Bytes (drop (name_size * m) w₃)
    b₃ = bytes_rest (names_bytes (names_in m w₃)) w₃ _ a₃.is (s₃.is b₂).1

    long : length w₄ ≡ c
    long = omega (arith, e, s₄.there)

    whole : w ≡ two_bytes (length (nodes_in n w₁)) ++ (nodes_bytes (nodes_in n w₁) ++ (two_bytes (length (links_in l w₂)) ++ (links_bytes (links_in l w₂) ++ (two_bytes (length (names_in m w₃)) ++ (names_bytes (names_in m w₃) ++ (two_bytes (length w₄) ++ w₄))))))
    whole =
        rw (a₁.counted, a₂.counted, a₃.counted, long)
        ((s₁.is b).0 ∙ ap (λ (u : List ℕ). two_bytes n ++ u) (a₁.is ∙ ap (λ (u : List ℕ). nodes_bytes (nodes_in n w₁) ++ u)
        ((s₂.is b₁).0 ∙ ap (λ (u : List ℕ). two_bytes l ++ u) (a₂.is ∙ ap (λ (u : List ℕ). links_bytes (links_in l w₂) ++ u)
        ((s₃.is b₂).0 ∙ ap (λ (u : List ℕ). two_bytes m ++ u) (a₃.is ∙ ap (λ (u : List ℕ). names_bytes (names_in m w₃) ++ u)
        (s₄.is b₃).0))))))

-- What is read as a table are the bytes of that table, all of them, and it is within the limits.
pub table-read : (w : List ℕ) (T : Table) (v : List ℕ) → Bytes w → read_table w ≡ got T v → (w ≡ table_bytes T) × (v ≡ []) × TableWithin T
unfolding read_table ended
table-read w T v b h =
    by_next (section_at 0 1 max_nodes node_size w) _ h λ n w₁ h₁ h.
    by_next (section_at (links_place n) 0 max_links link_size (drop (node_size * n) w₁)) _ h λ l w₂ h₂ h.
    by_next (section_at (names_place n l) 0 max_names name_size (drop (link_size * l) w₂)) _ h λ m w₃ h₃ h.
    by_next (section_at (text_place n l m) 0 max_text 1 (drop (name_size * m) w₃)) _ h λ c w₄ h₄ h.
    by-else (ltb c (length w₄)) _ _ _ h λ p h.
    let S : Table = record { nodes = nodes_in n w₁; links = links_in l w₂; names = names_in m w₃; text = w₄ } in
    let f = nodes-passed S 0 (nodes_in n w₁) (check_names S 0 (names_in m w₃) (got S [])) h in
    let g = names-passed S 0 (names_in m w₃) (got S []) f.1 in
    let r = sections-right w w₁ w₂ w₃ w₄ n l m c b
    (section-right 0 1 max_nodes node_size w n w₁ h₁)
    (section-right _ 0 max_links link_size _ l w₂ h₂)
    (section-right _ 0 max_names name_size _ m w₃ h₃)
    (section-right _ 0 max_text 1 _ c w₄ h₄)
    (ltb-false _ _ p) S refl f.0 g.0 in
    rw (← (same-got g.1).0) (r.0, sym (same-got g.1).1, r.1)

-- The inputs that are read as a table are exactly the bytes of the tables within the limits.
pub accepts-table : (w : List ℕ) → (Bytes w × ((T : Table) × (read_table w ≡ got T []))) ↔ ((T : Table) × (w ≡ table_bytes T) × TableWithin T)
accepts-table w = (λ a. let g = table-read w a.1.0 [] a.0 a.1.1 in (a.1.0, g.0, g.2), λ a. (rw a.1 (table-bytes a.0 a.2), (a.0, rw a.1 (read_table_lem a.0 a.2))))

-- Two tables within the limits have the same bytes exactly if they are the same.
pub same-table-bytes : (S T : Table) → TableWithin S → TableWithin T → (table_bytes S ≡ table_bytes T) ↔ (S ≡ T)
same-table-bytes S T h k = (λ e. (same-got (sym (read_table_lem S h) ∙ ap read_table e ∙ read_table_lem T k)).0, λ e. ap (λ (t : Table). table_bytes t) e)

-- a refusal's number is a table's, and its place lies no further on than top
pub record TableFault (top n p : ℕ) : Type 0 where
  pub low : section_broken ≤ n
  pub high : n ≤ name_broken
  pub inside : p ≤ top

-- A fault of a table's number at a place no further on is such a refusal.
this : {A : Type 0} {top k q n p : ℕ} → section_broken ≤ k → k ≤ name_broken → q ≤ top → ◌≡◌ {A = Reading A} (bad k q) (bad n p) → TableFault top n p
this {A} {top} {k} {q} {n} {p} s l i h = let a : k ≡ n = cc in let b : q ≡ p = cc in record { low = omega arith; high = omega arith; inside = omega arith }

-- The fault of two readings is that of the first, or of the second after the first got something.
by-fault : {A B P : Type 0} (x : Reading A) (f : A → List ℕ → Reading B) {n p : ℕ} → next x f ≡ bad n p → (x ≡ bad n p → P) → ((a : A) (u : List ℕ) → x ≡ got a u → f a u ≡ bad n p → P) → P
unfolding next
by-fault (got a u) f h j k = k a u refl h
by-fault (bad m q) f {n} {p} h j k = let a : m ≡ n = cc in let b : q ≡ p = cc in j (ap₂ bad a b)

-- A refusal of a section is at its count.
section-refusal : (top q least most size : ℕ) (w : List ℕ) (n p : ℕ) → q ≤ top → section_at q least most size w ≡ bad n p → TableFault top n p
unfolding section_at
section-refusal top q least most size [] n p l = this (omega arith) (omega arith) l
section-refusal top q least most size (x ∷ []) n p l = this (omega arith) (omega arith) l
section-refusal top q least most size (x ∷ y ∷ w) n p l =
    rule (λ r. r ≡ bad n p → TableFault top n p) (ltb (of_two x y) least) _ _ (λ _. this (omega arith) (omega arith) l) λ _.
    rule (λ r. r ≡ bad n p → TableFault top n p) (ltb most (of_two x y)) _ _ (λ _. this (omega arith) (omega arith) l) λ _.
    rule (λ r. r ≡ bad n p → TableFault top n p) (ltb (length w) (size * of_two x y)) _ _ (λ _. this (omega arith) (omega arith) l) λ _ h.
    absurd (not-bad h)

-- A refusal of nodes is at one of them, or is of what follows.
nodes-refusal : (T : Table) (top i : ℕ) (ns : List Node) (r : Reading Table) (n p : ℕ) → i + length ns ≤ top → (r ≡ bad n p → TableFault top n p) → check_nodes T i ns r ≡ bad n p → TableFault top n p
unfolding check_nodes
nodes-refusal T top i [] r n p l k = k
nodes-refusal T top i (m ∷ ns) r n p l k =
    rule (λ r. r ≡ bad n p → TableFault top n p) (not (good_node T i m)) _ _ (λ _. this (omega arith) (omega arith) (omega arith)) λ _.
    nodes-refusal T top (suc i) ns r n p (omega arith) k

-- So is a refusal of names.
names-refusal : (T : Table) (top k : ℕ) (ns : List Name) (r : Reading Table) (n p : ℕ) → k + length ns ≤ top → (r ≡ bad n p → TableFault top n p) → check_names T k ns r ≡ bad n p → TableFault top n p
unfolding check_names
names-refusal T top k [] r n p l f = f
names-refusal T top k (m ∷ ns) r n p l f =
    rule (λ r. r ≡ bad n p → TableFault top n p) (ltb (length T.text) (m.start + m.size)) _ _ (λ _. this (omega arith) (omega arith) (omega arith)) λ _.
    rule (λ r. r ≡ bad n p → TableFault top n p) (not (utf8 (text_of T k))) _ _ (λ _. this (omega arith) (omega arith) (omega arith)) λ _.
    names-refusal T top (suc k) ns r n p (omega arith) f

-- No more nodes are read than were asked for.
nodes-at-most : (c : ℕ) (w : List ℕ) → length (nodes_in c w) ≤ c
unfolding nodes_in
nodes-at-most zero w = omega arith
nodes-at-most (suc c) [] = omega arith
nodes-at-most (suc c) (k ∷ []) = omega arith
nodes-at-most (suc c) (k ∷ z ∷ w) = omega (arith, nodes-at-most c (drop 4 w))

-- Nor are more names.
names-at-most : (c : ℕ) (w : List ℕ) → length (names_in c w) ≤ c
unfolding names_in
names-at-most zero w = omega arith
names-at-most (suc c) w = omega (arith, names-at-most c (drop name_size w))

-- A refusal of a table has the number 9, 10 or 11, and a place no further on than its end, nor than that of the longest table.
pub table-refusal : (w : List ℕ) (n p : ℕ) → read_table w ≡ bad n p → TableFault (min (length w) longest_table) n p
unfolding read_table ended
table-refusal w n p h =
    by-fault (section_at 0 1 max_nodes node_size w) _ h (section-refusal _ 0 1 max_nodes node_size w n p (omega arith)) λ a w₁ h₁ h.
    let s₁ = section-right 0 1 max_nodes node_size w a w₁ h₁ in
    let l₁ = s₁.long in
    let t₁ = s₁.there in
    let m₁ = s₁.high in
    by-fault (section_at (links_place a) 0 max_links link_size (drop (node_size * a) w₁)) _ h (section-refusal _ _ 0 max_links link_size _ n p (omega arith)) λ b w₂ h₂ h.
    let s₂ = section-right _ 0 max_links link_size (drop (node_size * a) w₁) b w₂ h₂ in
    let l₂ = rw length-drop at s₂.long in
    let t₂ = s₂.there in
    let m₂ = s₂.high in
    by-fault (section_at (names_place a b) 0 max_names name_size (drop (link_size * b) w₂)) _ h (section-refusal _ _ 0 max_names name_size _ n p (omega arith)) λ c w₃ h₃ h.
    let s₃ = section-right _ 0 max_names name_size (drop (link_size * b) w₂) c w₃ h₃ in
    let l₃ = rw length-drop at s₃.long in
    let t₃ = s₃.there in
    let m₃ = s₃.high in
    by-fault (section_at (text_place a b c) 0 max_text 1 (drop (name_size * c) w₃)) _ h (section-refusal _ _ 0 max_text 1 _ n p (omega arith)) λ d w₄ h₄ h.
    let s₄ = section-right _ 0 max_text 1 (drop (name_size * c) w₃) d w₄ h₄ in
    let l₄ = rw length-drop at s₄.long in
    let t₄ = s₄.there in
    let m₄ = s₄.high in
    rule (λ r. r ≡ bad n p → TableFault (min (length w) longest_table) n p) (ltb d (length w₄)) _ _ (λ _. this (omega arith) (omega arith) (omega arith)) (λ _.
    nodes-refusal _ _ 0 (nodes_in a w₁) _ n p (omega (arith, nodes-at-most a w₁)) (
    names-refusal _ _ 0 (names_in c w₃) _ n p (omega (arith, names-at-most c w₃)) λ h. absurd (not-bad h))) h
