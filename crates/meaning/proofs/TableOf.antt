-- The table of a shape, by an induction over trees with a table that goes on: what is added keeps what was there.
--     table-stands                           its last node stands for the shape
--     stands-shape                           what a node stands for is what is found there
--     table-shape, table-rooted              the table means the shape, and has a node
--     table-good-nodes, table-good-names     its nodes and names are good
--     table-text-bytes                       its text is bytes
--     short-small                            its numbers are small, if its sections are short
--     card-table                             the bench card's table
-- Assumes nothing.
use Prim.Native.Nat.{ℕ, zero, suc, ◌+◌, ◌-◌, ◌≤◌, ◌<◌}
use mathlib.Core.Path.{◌≡◌, refl, sym, ◌∙◌, ap, ap₂}
use mathlib.Core.Bool.{Bool, true}
use mathlib.Core.List.{List, [], ◌∷◌, ◌++◌, append_assoc, append-nil}
use native.Mathlib.Nat.{zero-add, add-zero, add-suc, suc-add}
use native.Mathlib.Numerals.{one-add, add-one}
use native.Mathlib.Omega.{arith}
use lib.ListN.{length, get_or, length-append}
use lib.Seq.{slice, take-append-add, take-append_seam, drop-append_seam}
use borrow.Author.Tests.{lt-ltb, le-leb}
use Rattle.meaning.specs.Shape.{Text, int, bool, Sort, shape, fields, parameters, Tree, prim, blank, array_of, map_of, record_of, function_of, symbol_of, no_fields, field, no_parameters, parameter, Shape, depth, count, Proper, ProperTexts}
use Rattle.meaning.specs.FirstByte.{code}
use Rattle.meaning.specs.Within.{Bytes}
use Rattle.meaning.specs.Parts.{field_shapes, parameter_shapes, field_names}
use Rattle.meaning.specs.Table.{Node, Link, Name, Table, array_kind, map_kind, record_kind, function_kind, symbol_kind, node, link, name, node_of, link_of, text_of, texts_from, fields_from, parameters_from, node_shape, shape_in, table_shape, StandsTexts, Stands, Grown, names_from, joined, bare_links, named_links, text_links, with_node, grow, empty_table, table_of, nodes_bytes, links_bytes, names_bytes, table_bytes}
use Rattle.meaning.specs.TableReading.{bare_link, named_link, text_link, good_run, good_links, good_node, GoodNodes, GoodNames}
use Rattle.meaning.proofs.Window.{bytes-append}
use Rattle.meaning.proofs.Utf8.{utf8-bytes}
use Rattle.meaning.proofs.Complete.{code-small, prim-code, depth_pos}
use Rattle.meaning.proofs.Lists.{fields-count, field-names}

-- two bytes hold the numbers below this
abbrev pub two_byte_end : ℕ
two_byte_end = 65536

-- a node has small numbers: each takes the bytes that it has there
abbrev pub SmallNode : Node → Type 0
SmallNode n = (n.kind < 11) × (n.second ≡ 0) × (n.a < two_byte_end) × (n.b < two_byte_end)

-- so have all nodes, all links, all names of a list
unfoldable pub SmallNodes : List Node → Type 0
SmallNodes [] = Unit {0}
SmallNodes (n ∷ ns) = SmallNode n × SmallNodes ns

unfoldable pub SmallLinks : List Link → Type 0
SmallLinks [] = Unit {0}
SmallLinks (l ∷ ls) = ((l.target < two_byte_end) × (l.name < two_byte_end)) × SmallLinks ls

unfoldable pub SmallNames : List Name → Type 0
SmallNames [] = Unit {0}
SmallNames (n ∷ ns) = ((n.start < two_byte_end) × (n.size < two_byte_end)) × SmallNames ns

module _ {A : Type 0} where
  -- m goes on where l ends
  abbrev GoesOn : List A → List A → Type 0
  GoesOn l m = (x : List A) × (m ≡ l ++ x)

  -- A list that goes on where one that goes on ended goes on.
  goes-trans : (l m n : List A) → GoesOn l m → GoesOn m n → GoesOn l n
  goes-trans l m n h k = (h.0 ++ k.0, k.1 ∙ ap (λ (y : List A). y ++ k.0) h.1 ∙ append_assoc l h.0 k.0)

  -- A list that goes on is no shorter.
  goes-length : (l m : List A) → GoesOn l m → length l ≤ length m
  goes-length l m h = rw (h.1, length-append) (omega arith)

  -- from the index i on, the elements of l are those of p; d stands where there is none
  unfoldable Run : A → List A → ℕ → List A → Type 0
  Run d l i [] = Unit {0}
  Run d l i (x ∷ p) = (get_or l i d ≡ x) × Run d l (suc i) p

  -- With an element more at the front they stand one further on.
  run_on : (d y : A) (l p : List A) (i : ℕ) → Run d l i p → Run d (y ∷ l) (suc i) p
  unfolding Run
  run_on d y l [] i r = tt
  run_on d y l (x ∷ p) i r = (r.0, run_on d y l p (suc i) r.1)

  -- A list begins with its front.
  run-front : (d : A) (p x : List A) → Run d (p ++ x) 0 p
  unfolding Run
  run-front d [] x = tt
  run-front d (y ∷ p) x = (refl, run_on d y (p ++ x) p 0 (run-front d p x))

  -- What was appended stands where the list ended.
  run-seam : (d : A) (l p x : List A) → Run d (l ++ (p ++ x)) (length l) p
  run-seam d [] p x = run-front d p x
  run-seam d (y ∷ l) p x = run_on d y (l ++ (p ++ x)) p (length l) (run-seam d l p x)

  -- It stands there too if the list goes on.
  run-there : (d : A) (l p m : List A) → GoesOn (l ++ p) m → Run d m (length l) p
  run-there d l p m h = rw (h.1, append_assoc l p h.0) (run-seam d l p h.0)

-- a table in which each section goes on where that of another ends
record Extends (T U : Table) : Type 0 where
  nodes : GoesOn T.nodes U.nodes
  links : GoesOn T.links U.links
  names : GoesOn T.names U.names
  text : GoesOn T.text U.text

-- A table goes on where it ends itself.
extends-same : (T : Table) → Extends T T
extends-same T = record { nodes = ([], sym (append-nil T.nodes)); links = ([], sym (append-nil T.links)); names = ([], sym (append-nil T.names)); text = ([], sym (append-nil T.text)) }

-- What goes on where a table that goes on ended goes on.
extends-trans : (T U W : Table) → Extends T U → Extends U W → Extends T W
extends-trans T U W h k = record {
  nodes = goes-trans T.nodes U.nodes W.nodes h.nodes k.nodes;
  links = goes-trans T.links U.links W.links h.links k.links;
  names = goes-trans T.names U.names W.names h.names k.names;
  text = goes-trans T.text U.text W.text h.text k.text;
}

-- With a node added, a table goes on.
extends-with : (D : Table) (n : Node) (ls : List Link) (ws : List Text) → Extends D (with_node D n ls ws).table
unfolding with_node
extends-with D n ls ws = record { nodes = (n ∷ [], refl); links = (ls, refl); names = (names_from (length D.text) ws, refl); text = (joined ws, refl) }

-- What is added for a tree makes a table go on.
grow-extends : {k : Sort} (t : Tree k) (T : Table) → Extends T (grow t T).table
unfolding grow
grow-extends (prim p) T = extends-with T _ _ _
grow-extends (blank n) T = extends-with T _ _ _
grow-extends (array_of s) T = extends-trans T _ _ (grow-extends s T) (extends-with _ _ _ _)
grow-extends (map_of s t) T = extends-trans T _ _ (extends-trans T _ _ (grow-extends s T) (grow-extends t _)) (extends-with _ _ _ _)
grow-extends (record_of f) T = extends-trans T _ _ (grow-extends f T) (extends-with _ _ _ _)
grow-extends (function_of p r) T = extends-trans T _ _ (extends-trans T _ _ (grow-extends p T) (grow-extends r _)) (extends-with _ _ _ _)
grow-extends (symbol_of ts) T = extends-with T _ _ _
grow-extends no_fields T = extends-same T
grow-extends (field n s f) T = extends-trans T _ _ (grow-extends s T) (grow-extends f _)
grow-extends no_parameters T = extends-same T
grow-extends (parameter s p) T = extends-trans T _ _ (grow-extends s T) (grow-extends p _)

-- the shapes whose nodes are handed on: a shape itself, or the shapes of a list
abbrev members : (k : Sort) → Tree k → List Shape
members shape s = s ∷ []
members fields f = field_shapes f
members parameters p = parameter_shapes p

-- from the name k on, the texts of a table are ws
unfoldable AllNamed : Table → ℕ → List Text → Type 0
AllNamed T k [] = Unit {0}
AllNamed T k (w ∷ ws) = (text_of T k ≡ w) × AllNamed T (suc k) ws

-- The text after another is the one that was put there.
slice-there : (a w x : List ℕ) → slice (length a) (length a + length w) (a ++ (w ++ x)) ≡ w
slice-there a w x = rw (take-append-add a (w ++ x) (length w), take-append_seam w x) (drop-append_seam a w)

module _ (U : Table) where
  -- Names of texts that stand one after the other name these.
  all_named : (ws : List Text) (k : ℕ) (a x : List ℕ) → U.text ≡ a ++ (joined ws ++ x) → Run (name 0 0) U.names k (names_from (length a) ws) → AllNamed U k ws
  unfolding AllNamed Run names_from joined
  all_named [] k a x e r = tt
  all_named (w ∷ ws) k a x e r = (
    rw (r.0, e, append_assoc w (joined ws) x) (slice-there a w (joined ws ++ x)),
    all_named ws (suc k) (a ++ w) x (e ∙ ap (λ (y : List ℕ). a ++ y) (append_assoc w (joined ws) x) ∙ sym (append_assoc a w (joined ws ++ x))) (rw length-append r.1),
  )

  -- each of the nodes js stands for its shape
  unfoldable AllStand : List Shape → List ℕ → Type 0
  AllStand [] [] = Unit {0}
  AllStand [] (j ∷ js) = ⊥
  AllStand (s ∷ ss) [] = ⊥
  AllStand (s ∷ ss) (j ∷ js) = Stands U s j × AllStand ss js

  -- So do those of two lists joined.
  stand-append : (ss rs : List Shape) (js is : List ℕ) → AllStand ss js → AllStand rs is → AllStand (ss ++ rs) (js ++ is)
  unfolding AllStand
  stand-append [] rs [] is h k = k
  stand-append [] rs (j ∷ js) is h k = absurd h
  stand-append (s ∷ ss) rs [] is h k = absurd h
  stand-append (s ∷ ss) rs (j ∷ js) is h k = (h.0, stand-append ss rs js is h.1 k)

  -- The one node of a shape.
  the_one : {P : Type 0} (s : Shape) (js : List ℕ) → AllStand (s ∷ []) js → ((j : ℕ) → js ≡ j ∷ [] → Stands U s j → P) → P
  unfolding AllStand
  the_one s [] h k = absurd h
  the_one s (j ∷ []) h k = k j refl h.0
  the_one s (j ∷ i ∷ js) h k = absurd h.1

  -- Links with names stand for fields.
  fields-stand : (f : Tree fields) (js : List ℕ) (a k : ℕ) → AllStand (field_shapes f) js → Run (link 0 0) U.links a (named_links k js) → AllNamed U k (field_names f) → Stands U f a
  unfolding Stands AllStand field_shapes field_names AllNamed Run named_links
  fields-stand no_fields js a k m r n = tt
  fields-stand (field w s f) [] a k m r n = absurd m
  fields-stand (field w s f) (j ∷ js) a k m r n = (rw r.0 n.0, rw r.0 m.0, fields-stand f js (suc a) (suc k) m.1 r.1 n.1)

  -- Links of a Symbol stand for texts.
  texts-stand : (ts : List Text) (a k : ℕ) → Run (link 0 0) U.links a (text_links k ts) → AllNamed U k ts → StandsTexts U ts a
  unfolding StandsTexts AllNamed Run text_links
  texts-stand [] a k r n = tt
  texts-stand (t ∷ ts) a k r n = (rw r.0 n.0, texts-stand ts (suc a) (suc k) r.1 n.1)

  -- Links without names stand for parameters, and the one after them goes to the return.
  parameters-stand : (p : Tree parameters) (js : List ℕ) (i a : ℕ) → AllStand (parameter_shapes p) js → Run (link 0 0) U.links a (bare_links (js ++ (i ∷ []))) → Stands U p a × (link_of U (a + count p) ≡ link i 0)
  unfolding Stands AllStand parameter_shapes Run bare_links count
  parameters-stand no_parameters [] i a m r = (tt, rw add-zero r.0)
  parameters-stand no_parameters (j ∷ js) i a m r = absurd m
  parameters-stand (parameter s p) [] i a m r = absurd m
  parameters-stand (parameter s p) (j ∷ js) i a m r =
      let d = parameters-stand p js i (suc a) m.1 r.1 in
      ((rw r.0 m.0, d.0), rw (add-suc, ← suc-add) d.1)

  module _ (D : Table) (n : Node) (ls : List Link) (ws : List Text) (h : Extends (with_node D n ls ws).table U) where
    -- The node that was added last stands in its place.
    node-there : node_of U (length D.nodes) ≡ n
    unfolding with_node Run
    node-there = (run-there (node 0 0 0) D.nodes (n ∷ []) U.nodes h.nodes).0

    -- So do its links.
    links-there : Run (link 0 0) U.links (length D.links) ls
    unfolding with_node
    links-there = run-there (link 0 0) D.links ls U.links h.links

    -- So do its names, with their texts.
    names-there : AllNamed U (length D.names) ws
    unfolding with_node
    names-there = all_named ws (length D.names) D.text h.text.0 (h.text.1 ∙ append_assoc D.text (joined ws) h.text.0) (run-there (name 0 0) D.names (names_from (length D.text) ws) U.names h.names)

  -- What went on with a node more went on without it.
  before : (D : Table) (n : Node) (ls : List Link) (ws : List Text) → Extends (with_node D n ls ws).table U → Extends D U
  before D n ls ws h = extends-trans D _ U (extends-with D n ls ws) h

  -- The node of an Array whose child stands stands for it.
  array-stands : (s : Shape) (D : Table) (js : List ℕ) → Extends (with_node D (node array_kind (length D.links) 1) (bare_links js) []).table U → (Extends D U → AllStand (s ∷ []) js) → AllStand (array_of s ∷ []) (length D.nodes ∷ [])
  unfolding Stands AllStand Run bare_links
  array-stands s D js h m = the_one s js (m (before D _ _ _ h)) λ j e q.
      let r = rw e at (links-there D _ _ _ h) in
      ((length D.links, node-there D _ _ _ h, rw r.0 q), tt)

  -- So does that of a Map.
  map-stands : (s t : Shape) (D : Table) (js is : List ℕ) → Extends (with_node D (node map_kind (length D.links) 2) (bare_links (js ++ is)) []).table U → (Extends D U → AllStand (s ∷ []) js) → (Extends D U → AllStand (t ∷ []) is) → AllStand (map_of s t ∷ []) (length D.nodes ∷ [])
  unfolding Stands AllStand Run bare_links
  map-stands s t D js is h m m' = the_one s js (m (before D _ _ _ h)) λ j e q. the_one t is (m' (before D _ _ _ h)) λ i e' q'.
      let r = rw (e, e') at (links-there D _ _ _ h) in
      ((length D.links, node-there D _ _ _ h, rw r.0 q, rw r.1.0 q'), tt)

  -- So does that of a Record.
  record-stands : (f : Tree fields) (D : Table) (js : List ℕ) → Extends (with_node D (node record_kind (length D.links) (count f)) (named_links (length D.names) js) (field_names f)).table U → (Extends D U → AllStand (field_shapes f) js) → AllStand (record_of f ∷ []) (length D.nodes ∷ [])
  unfolding Stands AllStand
  record-stands f D js h m = ((length D.links, node-there D _ _ _ h, fields-stand f js _ _ (m (before D _ _ _ h)) (links-there D _ _ _ h) (names-there D _ _ _ h)), tt)

  -- So does that of a Function.
  function-stands : (p : Tree parameters) (r : Shape) (D : Table) (js is : List ℕ) → Extends (with_node D (node function_kind (length D.links) (suc (count p))) (bare_links (js ++ is)) []).table U → (Extends D U → AllStand (parameter_shapes p) js) → (Extends D U → AllStand (r ∷ []) is) → AllStand (function_of p r ∷ []) (length D.nodes ∷ [])
  unfolding Stands AllStand
  function-stands p r D js is h m m' = the_one r is (m' (before D _ _ _ h)) λ i e q.
      let l = parameters-stand p js i (length D.links) (m (before D _ _ _ h)) (rw e at (links-there D _ _ _ h)) in
      ((length D.links, node-there D _ _ _ h, l.0, rw l.1 q), tt)

  -- Where the table goes on, the nodes that were added for a tree stand for its shapes.
  grow-stands : {k : Sort} (t : Tree k) (T : Table) → Extends (grow t T).table U → AllStand (members k t) (grow t T).roots
  unfolding grow with_node Stands AllStand field_shapes parameter_shapes
  grow-stands (prim p) T h = (node-there T _ _ _ h, tt)
  grow-stands (blank n) T h = (node-there T _ _ _ h, tt)
  grow-stands (array_of s) T h = array-stands s (grow s T).table (grow s T).roots h (grow-stands s T)
  grow-stands (map_of s t) T h =
      let D = (grow s T).table in
      map-stands s t (grow t D).table (grow s T).roots (grow t D).roots h (λ e. grow-stands s T (extends-trans D (grow t D).table U (grow-extends t D) e)) (grow-stands t D)
  grow-stands (record_of f) T h = record-stands f (grow f T).table (grow f T).roots h (grow-stands f T)
  grow-stands (function_of p r) T h =
      let D = (grow p T).table in
      function-stands p r (grow r D).table (grow p T).roots (grow r D).roots h (λ e. grow-stands p T (extends-trans D (grow r D).table U (grow-extends r D) e)) (grow-stands r D)
  grow-stands (symbol_of ts) T h = ((length T.links, node-there T _ _ _ h, texts-stand ts _ _ (links-there T _ _ _ h) (names-there T _ _ _ h)), tt)
  grow-stands no_fields T h = tt
  grow-stands (field n s f) T h =
      let D = (grow s T).table in
      stand-append (s ∷ []) (field_shapes f) (grow s T).roots (grow f D).roots (grow-stands s T (extends-trans D (grow f D).table U (grow-extends f D) h)) (grow-stands f D h)
  grow-stands no_parameters T h = tt
  grow-stands (parameter s p) T h =
      let D = (grow s T).table in
      stand-append (s ∷ []) (parameter_shapes p) (grow s T).roots (grow p D).roots (grow-stands s T (extends-trans D (grow p D).table U (grow-extends p D) h)) (grow-stands p D h)

-- A node that was added last is the last.
with-last : (D : Table) (n : Node) (ls : List Link) (ws : List Text) → (with_node D n ls ws).roots ≡ (length (with_node D n ls ws).table.nodes - 1) ∷ []
unfolding with_node
with-last D n ls ws = ap (λ (i : ℕ). i ∷ []) (rw length-append (omega arith))

-- The node of a shape that was added last is the last.
root-last : (s : Shape) (T : Table) → (grow s T).roots ≡ (length (grow s T).table.nodes - 1) ∷ []
unfolding grow
root-last (prim p) T = with-last _ _ _ _
root-last (blank n) T = with-last _ _ _ _
root-last (array_of s) T = with-last _ _ _ _
root-last (map_of s t) T = with-last _ _ _ _
root-last (record_of f) T = with-last _ _ _ _
root-last (function_of p r) T = with-last _ _ _ _
root-last (symbol_of ts) T = with-last _ _ _ _

-- The last node of the table of a shape stands for it.
pub table-stands : (s : Shape) → Stands (table_of s) s (length (table_of s).nodes - 1)
unfolding AllStand
table-stands s = (rw (root-last s empty_table) at (grow-stands (table_of s) s empty_table (extends-same (table_of s)))).0

module _ (T : Table) where
  -- the shape of node i where n levels are looked at
  abbrev level : ℕ → ℕ → Shape
  level zero i = blank 0
  level (suc n) i = shape_in T n i

  -- a shape, or the fields or parameters of b links
  abbrev made : (k : Sort) → ℕ → ℕ → ℕ → Tree k
  made shape n b i = level n i
  made fields n b i = fields_from T (level n) i b
  made parameters n b i = parameters_from T (level n) i b

  -- The shape of a node is made of the shapes one level lower.
  level-node : (n i : ℕ) (x : Node) → node_of T i ≡ x → shape_in T n i ≡ node_shape T (level n) x
  unfolding shape_in
  level-node zero i x h = ap (node_shape T (level zero)) h
  level-node (suc n) i x h = ap (node_shape T (shape_in T n)) h

  -- The texts that links stand for are those that are found there.
  texts-made : (ts : List Text) (a : ℕ) → StandsTexts T ts a → texts_from T a (length ts) ≡ ts
  unfolding StandsTexts texts_from
  texts-made [] a h = refl
  texts-made (t ∷ ts) a h = ap₂ ◌∷◌ h.0 (texts-made ts (suc a) h.1)

  -- What stands for a tree is the tree, if enough levels are looked at.
  stands-made : {k : Sort} (t : Tree k) (n i : ℕ) → depth t ≤ n → Stands T t i → made k n (count t) i ≡ t
  unfolding Stands depth count node_shape fields_from parameters_from
  stands-made (prim p) zero i d h = absurd (omega arith)
  stands-made (prim p) (suc n) i d h = level-node n i _ h ∙ rw (lt-ltb (code p) array_kind (code-small p), prim-code p)
  stands-made (blank m) zero i d h = absurd (omega arith)
  stands-made (blank m) (suc n) i d h = level-node n i _ h
  stands-made (array_of s) zero i d h = absurd (omega arith)
  stands-made (array_of s) (suc n) i d h = level-node n i _ h.1 ∙ ap array_of (stands-made s n _ (omega arith) h.2)
  stands-made (map_of s t) zero i d h = absurd (omega arith)
  stands-made (map_of s t) (suc n) i d h = level-node n i _ h.1 ∙ ap₂ map_of (stands-made s n _ (omega arith) h.2) (stands-made t n _ (omega arith) h.3)
  stands-made (record_of f) zero i d h = absurd (omega arith)
  stands-made (record_of f) (suc n) i d h = level-node n i _ h.1 ∙ ap record_of (stands-made f n _ (omega arith) h.2)
  stands-made (function_of p r) zero i d h = absurd (omega arith)
  stands-made (function_of p r) (suc n) i d h =
      let q : suc (count p) - 1 ≡ count p = omega arith in
      level-node n i _ h.1 ∙ rw q (ap₂ function_of (stands-made p n _ (omega arith) h.2) (stands-made r n _ (omega arith) h.3))
  stands-made (symbol_of ts) zero i d h = absurd (omega arith)
  stands-made (symbol_of ts) (suc n) i d h = level-node n i _ h.1 ∙ ap symbol_of (texts-made ts _ h.2)
  stands-made no_fields n i d h = refl
  stands-made (field w s f) n i d h = rw (h.0, stands-made s n _ (omega arith) h.1, stands-made f n (suc i) (omega arith) h.2)
  stands-made no_parameters n i d h = refl
  stands-made (parameter s p) n i d h = ap₂ parameter (stands-made s n _ (omega arith) h.0) (stands-made p n (suc i) (omega arith) h.1)

  -- The shape that a node stands for is the one that is found there.
  pub stands-shape : (s : Shape) (n i : ℕ) → depth s ≤ suc n → Stands T s i → shape_in T n i ≡ s
  stands-shape s n i d h = stands-made s (suc n) i d h

-- With a node, a table has one node more.
with-nodes : (D : Table) (n : Node) (ls : List Link) (ws : List Text) → length (with_node D n ls ws).table.nodes ≡ suc (length D.nodes)
unfolding with_node
with-nodes D n ls ws = rw length-append (omega arith)

-- For each level of a tree at least one node is added.
grow-deep : {k : Sort} (t : Tree k) (T : Table) → length T.nodes + depth t ≤ length (grow t T).table.nodes
unfolding grow depth
grow-deep (prim p) T = rw with-nodes (omega arith)
grow-deep (blank n) T = rw with-nodes (omega arith)
grow-deep (array_of s) T = rw with-nodes (omega (arith, grow-deep s T))
grow-deep (map_of s t) T = rw with-nodes (omega (arith, grow-deep s T, grow-deep t (grow s T).table))
grow-deep (record_of f) T = rw with-nodes (omega (arith, grow-deep f T))
grow-deep (function_of p r) T = rw with-nodes (omega (arith, grow-deep p T, grow-deep r (grow p T).table))
grow-deep (symbol_of ts) T = rw with-nodes (omega arith)
grow-deep no_fields T = omega arith
grow-deep (field n s f) T = omega (arith, grow-deep s T, grow-deep f (grow s T).table)
grow-deep no_parameters T = omega arith
grow-deep (parameter s p) T = omega (arith, grow-deep s T, grow-deep p (grow s T).table)

-- The table of a shape means the shape.
pub table-shape : (s : Shape) → table_shape (table_of s) ≡ s
table-shape s = stands-shape (table_of s) s _ _ (omega (arith, grow-deep s empty_table)) (table-stands s)

-- Its root is there: the table has a node.
pub table-rooted : (s : Shape) → 1 ≤ length (table_of s).nodes
table-rooted s = omega (arith, grow-deep s empty_table, depth_pos s)

-- all of js are below n
unfoldable Under : ℕ → List ℕ → Type 0
Under n [] = Unit {0}
Under n (j ∷ js) = (j < n) × Under n js

-- They are below anything larger too.
under_more : (m n : ℕ) (js : List ℕ) → m ≤ n → Under m js → Under n js
unfolding Under
under_more m n [] h u = tt
under_more m n (j ∷ js) h u = (omega (arith, u.0), under_more m n js h u.1)

-- So are two lists joined.
under-append : (n : ℕ) (js is : List ℕ) → Under n js → Under n is → Under n (js ++ is)
unfolding Under
under-append n [] is u v = v
under-append n (j ∷ js) is u v = (u.0, under-append n js is u.1 v)

-- so many nodes are handed on, and all are in the table
abbrev Handed : ℕ → Grown → Type 0
Handed n E = (length E.roots ≡ n) × Under (length E.table.nodes) E.roots

-- For a shape one node is handed on.
shape-handed : (s : Shape) (T : Table) → Handed 1 (grow s T)
unfolding Under
shape-handed s T = rw (root-last s T) (refl, (omega (arith, grow-deep s T, depth_pos s), tt))

-- Two parts, one added after the other, hand on what both do.
both-handed : (m n : ℕ) (D : Grown) (E : Grown) → length D.table.nodes ≤ length E.table.nodes → Handed m D → Handed n E → Handed (m + n) (record { table = E.table; roots = D.roots ++ E.roots })
both-handed m n D E l h k = (rw (length-append, h.0, k.0), under-append _ D.roots E.roots (under_more _ _ D.roots l h.1) k.1)

-- For fields as many as there are.
fields-handed : (f : Tree fields) (T : Table) → Handed (count f) (grow f T)
unfolding grow count Under
fields-handed no_fields T = (refl, tt)
fields-handed (field n s f) T =
    let D = (grow s T).table in
    rw (← one-add (count f)) (both-handed 1 (count f) (grow s T) (grow f D) (omega (arith, grow-deep f D)) (shape-handed s T) (fields-handed f D))

-- So for parameters.
parameters-handed : (p : Tree parameters) (T : Table) → Handed (count p) (grow p T)
unfolding grow count Under
parameters-handed no_parameters T = (refl, tt)
parameters-handed (parameter s p) T =
    let D = (grow s T).table in
    rw (← one-add (count p)) (both-handed 1 (count p) (grow s T) (grow p D) (omega (arith, grow-deep p D)) (shape-handed s T) (parameters-handed p D))

-- There are as many names as texts.
pub names-length : (a : ℕ) (ws : List Text) → length (names_from a ws) ≡ length ws
unfolding names_from
names-length a [] = refl
names-length a (w ∷ ws) = ap suc (names-length (a + length w) ws)

-- There are as many links as nodes that they go to,
pub bare-length : (js : List ℕ) → length (bare_links js) ≡ length js
unfolding bare_links
bare-length [] = refl
bare-length (j ∷ js) = ap suc (bare-length js)

-- with names too,
pub named-length : (k : ℕ) (js : List ℕ) → length (named_links k js) ≡ length js
unfolding named_links
named-length k [] = refl
named-length k (j ∷ js) = ap suc (named-length (suc k) js)

-- and as many as texts.
pub text-links-length : (k : ℕ) (ts : List Text) → length (text_links k ts) ≡ length ts
unfolding text_links
text-links-length k [] = refl
text-links-length k (t ∷ ts) = ap suc (text-links-length (suc k) ts)

-- A Record has as many names as fields.
names-count : (f : Tree fields) → length (field_names f) ≡ count f
names-count f = field-names f ∙ fields-count f

-- The names of proper fields are proper.
proper-fields : (f : Tree fields) → Proper f → ProperTexts (field_names f)
unfolding Proper ProperTexts field_names
proper-fields no_fields p = tt
proper-fields (field n s f) p = (p.0, proper-fields f p.2)

-- Proper texts joined are bytes.
joined_bytes : (ws : List Text) → ProperTexts ws → Bytes (joined ws)
unfolding ProperTexts joined
joined_bytes [] p = tt
joined_bytes (w ∷ ws) p = bytes-append w (joined ws) (utf8-bytes w p.0) (joined_bytes ws p.1)

-- Links to nodes below a small number have small numbers.
bare-small : (i : ℕ) (js : List ℕ) → i < two_byte_end → Under i js → SmallLinks (bare_links js)
unfolding SmallLinks Under bare_links
bare-small i [] h u = tt
bare-small i (j ∷ js) h u = ((omega (arith, u.0), omega arith), bare-small i js h u.1)

-- So have those with small names,
named_small : (i k : ℕ) (js : List ℕ) → i < two_byte_end → Under i js → k + length js < two_byte_end → SmallLinks (named_links k js)
unfolding SmallLinks Under named_links
named_small i k [] h u l = tt
named_small i k (j ∷ js) h u l = ((omega (arith, u.0), omega arith), named_small i (suc k) js h u.1 (omega arith))

-- and those of texts.
text_small : (k : ℕ) (ts : List Text) → k + length ts < two_byte_end → SmallLinks (text_links k ts)
unfolding SmallLinks text_links
text_small k [] l = tt
text_small k (t ∷ ts) l = ((omega arith, omega arith), text_small (suc k) ts (omega arith))

-- Nodes of small numbers and one after them have small numbers.
small-snoc : (ns : List Node) (n : Node) → SmallNodes ns → SmallNode n → SmallNodes (ns ++ (n ∷ []))
unfolding SmallNodes
small-snoc [] n a b = (b, tt)
small-snoc (m ∷ ns) n a b = (a.0, small-snoc ns n a.1 b)

-- So have links and links after them.
small-append : (ls ms : List Link) → SmallLinks ls → SmallLinks ms → SmallLinks (ls ++ ms)
unfolding SmallLinks
small-append [] ms a b = b
small-append (l ∷ ls) ms a b = (a.0, small-append ls ms a.1 b)

module _ (U : Table) where
  -- all of ls are good
  unfoldable AllGood : (Link → Bool) → List Link → Type 0
  AllGood good [] = Unit {0}
  AllGood good (l ∷ ls) = (good l ≡ true) × AllGood good ls

  -- Links without names to nodes below i are good for node i.
  bare-good : (i : ℕ) (js : List ℕ) → Under i js → AllGood (bare_link U i) (bare_links js)
  unfolding AllGood Under bare_links
  bare-good i [] u = tt
  bare-good i (j ∷ js) u = (rw (lt-ltb j i u.0), bare-good i js u.1)

  -- So are links with names, if these are there.
  named-good : (i k : ℕ) (js : List ℕ) → Under i js → k + length js ≤ length U.names → AllGood (named_link U i) (named_links k js)
  unfolding AllGood Under named_links
  named-good i k [] u h = tt
  named-good i k (j ∷ js) u h = (rw (lt-ltb j i u.0, lt-ltb k (length U.names) (omega arith)), named-good i (suc k) js u.1 (omega arith))

  -- So are those of a Symbol.
  text-good : (k : ℕ) (ts : List Text) → k + length ts ≤ length U.names → AllGood (text_link U) (text_links k ts)
  unfolding AllGood text_links
  text-good k [] h = tt
  text-good k (t ∷ ts) h = (rw (lt-ltb k (length U.names) (omega arith)), text-good (suc k) ts (omega arith))

  -- Good links make a good run.
  run-good : (good : Link → Bool) (ls : List Link) (a : ℕ) → Run (link 0 0) U.links a ls → AllGood good ls → good_run U good a (length ls) ≡ true
  unfolding AllGood Run good_run
  run-good good [] a r g = refl
  run-good good (l ∷ ls) a r g = rw (r.0, g.0) (run-good good ls (suc a) r.1 g.1)

  -- The good links of a node that was added are good in the table.
  links-good : (k b : ℕ) (good : Link → Bool) (D : Table) (n : Node) (ls : List Link) (ws : List Text) → Extends (with_node D n ls ws).table U → length ls ≡ b → AllGood good ls → good_links U good (node k (length D.links) b) ≡ true
  unfolding with_node
  links-good k b good D n ls ws h e g =
      let l = rw length-append at (goes-length (D.links ++ ls) U.links h.links) in
      rw (le-leb (length D.links + b) (length U.links) (omega arith), ← e) (run-good good ls (length D.links) (links-there U D n ls ws h) g)

  -- With a good node after them good nodes are good.
  nodes-snoc : (ns : List Node) (i : ℕ) (n : Node) → GoodNodes U i ns → good_node U (i + length ns) n ≡ true → GoodNodes U i (ns ++ (n ∷ []))
  unfolding GoodNodes
  nodes-snoc [] i n g h = (rw add-zero at h, tt)
  nodes-snoc (m ∷ ns) i n g h = (g.0, nodes-snoc ns (suc i) n g.1 (rw (add-suc, ← suc-add) at h))

  -- So are good names, with others after them.
  names-append : (ns ms : List Name) (k : ℕ) → GoodNames U k ns → GoodNames U (k + length ns) ms → GoodNames U k (ns ++ ms)
  unfolding GoodNames
  names-append [] ms k g h = rw add-zero at h
  names-append (n ∷ ns) ms k g h = (g.0, g.1, names-append ns ms (suc k) g.2 (rw (add-suc, ← suc-add) at h))

  -- The names of proper texts are good.
  proper-names : (ws : List Text) (k : ℕ) (a x : List ℕ) → ProperTexts ws → U.text ≡ a ++ (joined ws ++ x) → AllNamed U k ws → GoodNames U k (names_from (length a) ws)
  unfolding GoodNames ProperTexts AllNamed names_from joined
  proper-names [] k a x p e n = tt
  proper-names (w ∷ ws) k a x p e n = (
    rw e (simp length-append (omega arith)),
    rw n.0 p.0,
    rw (← length-append a w) (proper-names ws (suc k) (a ++ w) x p.1 (e ∙ ap (λ (y : List ℕ). a ++ y) (append_assoc w (joined ws) x) ∙ sym (append_assoc a w (joined ws ++ x))) n.1),
  )

  -- What was added is within the sections of the table.
  within-sections : (D : Table) (n : Node) (ls : List Link) (ws : List Text) → Extends (with_node D n ls ws).table U → (length D.nodes < length U.nodes) × (length D.links + length ls ≤ length U.links) × (length D.names + length ws ≤ length U.names)
  unfolding with_node
  within-sections D n ls ws h =
      let a = rw length-append at (goes-length (D.nodes ++ (n ∷ [])) U.nodes h.nodes) in
      let b = rw length-append at (goes-length (D.links ++ ls) U.links h.links) in
      let c = rw (length-append, names-length) at (goes-length (D.names ++ names_from (length D.text) ws) U.names h.names) in
      (omega arith, omega arith, omega arith)

  -- the sections are so short that two bytes hold each of their indexes
  abbrev Room : Type 0
  Room = (length U.nodes < two_byte_end) × (length U.links < two_byte_end) × (length U.names < two_byte_end)

  -- what a table T has that U goes on from: nodes and names that are good in U, small numbers, and bytes as its text
  record Sound (T : Table) : Type 0 where
    nodes : GoodNodes U 0 T.nodes
    names : GoodNames U 0 T.names
    small_nodes : Room → SmallNodes T.nodes
    small_links : Room → SmallLinks T.links
    text : Bytes T.text

  module _ (D : Table) (n : Node) (ls : List Link) (ws : List Text) (h : Extends (with_node D n ls ws).table U) where
    -- With a good node it has them still.
    sound-with : Sound D → good_node U (length D.nodes) n ≡ true → ProperTexts ws → (Room → SmallNode n) → (Room → SmallLinks ls) → Sound (with_node D n ls ws).table
    unfolding with_node
    sound-with s g p a b = record {
      nodes = nodes-snoc D.nodes 0 n s.nodes (rw zero-add g);
      names = names-append D.names (names_from (length D.text) ws) 0 s.names (rw zero-add (proper-names ws (length D.names) D.text h.text.0 p (h.text.1 ∙ append_assoc D.text (joined ws) h.text.0) (names-there U D n ls ws h)));
      small_nodes = λ r. small-snoc D.nodes n (s.small_nodes r) (a r);
      small_links = λ r. small-append D.links ls (s.small_links r) (b r);
      text = bytes-append D.text (joined ws) s.text (joined_bytes ws p);
    }

  -- With a node whose links have no names it has them.
  sound-bare : (k b : ℕ) (D : Table) (js : List ℕ) → Extends (with_node D (node k (length D.links) b) (bare_links js) []).table U → k < 11 → length js ≡ b → Under (length D.nodes) js
      → (good_links U (bare_link U (length D.nodes)) (node k (length D.links) b) ≡ true → good_node U (length D.nodes) (node k (length D.links) b) ≡ true)
      → (Extends D U → Sound D) → Sound (with_node D (node k (length D.links) b) (bare_links js) []).table
  unfolding ProperTexts
  sound-bare k b D js h l e u g s =
      let q = bare-length js ∙ e in
      let w = within-sections D _ (bare_links js) [] h in
      sound-with D _ _ _ h (s (before U D _ _ _ h)) (g (links-good k b _ D _ _ _ h q (bare-good _ js u))) tt (λ r. (l, refl, omega arith, omega arith)) (λ r. bare-small (length D.nodes) js (omega arith) u)

  -- With the node of a Record.
  sound-record : (f : Tree fields) (D : Table) (js : List ℕ) → length js ≡ count f → Under (length D.nodes) js → Proper f
      → Extends (with_node D (node record_kind (length D.links) (count f)) (named_links (length D.names) js) (field_names f)).table U
      → (Extends D U → Sound D) → Sound (with_node D (node record_kind (length D.links) (count f)) (named_links (length D.names) js) (field_names f)).table
  unfolding good_node
  sound-record f D js e u p h s =
      let w = within-sections D _ _ _ h in
      let q = named-length (length D.names) js ∙ e in
      let c = names-count f in
      sound-with D _ _ _ h (s (before U D _ _ _ h)) (links-good record_kind (count f) _ D _ _ _ h q (named-good _ (length D.names) js u (omega arith))) (proper-fields f p)
      (λ r. (omega arith, refl, omega arith, omega arith)) (λ r. named_small (length D.nodes) (length D.names) js (omega arith) u (omega arith))

  -- With that of a Symbol.
  sound-symbol : (ts : List Text) (D : Table) → ProperTexts ts → Extends (with_node D (node symbol_kind (length D.links) (length ts)) (text_links (length D.names) ts) ts).table U
      → Sound D → Sound (with_node D (node symbol_kind (length D.links) (length ts)) (text_links (length D.names) ts) ts).table
  unfolding good_node
  sound-symbol ts D p h s =
      let w = within-sections D _ _ _ h in
      let q = text-links-length (length D.names) ts in
      sound-with D _ _ _ h s (links-good symbol_kind (length ts) (text_link U) D _ _ _ h q (text-good (length D.names) ts w.2)) p
      (λ r. (omega arith, refl, omega arith, omega arith)) (λ r. text_small (length D.names) ts (omega arith))

  -- What is added for two trees is sound, if it is for each.
  sound-both : {k l : Sort} (s : Tree k) (t : Tree l) (T : Table) → (Extends (grow s T).table U → Sound (grow s T).table)
      → (Sound (grow s T).table → Extends (grow t (grow s T).table).table U → Sound (grow t (grow s T).table).table)
      → Extends (grow t (grow s T).table).table U → Sound (grow t (grow s T).table).table
  sound-both s t T a b h = b (a (extends-trans (grow s T).table (grow t (grow s T).table).table U (grow-extends t (grow s T).table) h)) h

  -- What is added for a proper tree is sound.
  grow-sound : {k : Sort} (t : Tree k) (T : Table) → Proper t → Sound T → Extends (grow t T).table U → Sound (grow t T).table
  unfolding grow Proper ProperTexts good_node SmallLinks
  grow-sound (prim p) T q g h = sound-with T _ _ _ h g (rw (lt-ltb (code p) array_kind (code-small p))) tt (λ r. (omega (arith, code-small p), refl, omega arith, omega arith)) (λ r. tt)
  grow-sound (blank n) T q g h = sound-with T _ _ _ h g refl tt (λ r. (omega arith, refl, q, omega arith)) (λ r. tt)
  grow-sound (array_of s) T q g h =
      let a = shape-handed s T in
      sound-bare array_kind 1 (grow s T).table (grow s T).roots h (omega arith) a.0 a.1 (λ e. e) (grow-sound s T q g)
  grow-sound (map_of s t) T q g h =
      let D = (grow s T).table in
      let a = both-handed 1 1 (grow s T) (grow t D) (omega (arith, grow-deep t D)) (shape-handed s T) (shape-handed t D) in
      sound-bare map_kind 2 (grow t D).table ((grow s T).roots ++ (grow t D).roots) h (omega arith) a.0 a.1 (λ e. e) (sound-both s t T (grow-sound s T q.0 g) (grow-sound t D q.1))
  grow-sound (record_of f) T q g h =
      let a = fields-handed f T in
      sound-record f (grow f T).table (grow f T).roots a.0 a.1 q h (grow-sound f T q g)
  grow-sound (function_of p r) T q g h =
      let D = (grow p T).table in
      let a = both-handed (count p) 1 (grow p T) (grow r D) (omega (arith, grow-deep r D)) (parameters-handed p T) (shape-handed r D) in
      sound-bare function_kind (suc (count p)) (grow r D).table ((grow p T).roots ++ (grow r D).roots) h (omega arith) (a.0 ∙ add-one (count p)) a.1 (λ e. rw (le-leb 1 (suc (count p)) (omega arith)) e)
      (sound-both p r T (grow-sound p T q.0 g) (grow-sound r D q.1))
  grow-sound (symbol_of ts) T q g h = sound-symbol ts T q h g
  grow-sound no_fields T q g h = g
  grow-sound (field n s f) T q g h = sound-both s f T (grow-sound s T q.1 g) (grow-sound f (grow s T).table q.2) h
  grow-sound no_parameters T q g h = g
  grow-sound (parameter s p) T q g h = sound-both s p T (grow-sound s T q.0 g) (grow-sound p (grow s T).table q.1) h

-- The table of a proper shape is sound.
table-sound : (s : Shape) → Proper s → Sound (table_of s) (table_of s)
unfolding GoodNodes GoodNames SmallNodes SmallLinks
table-sound s p = grow-sound (table_of s) s empty_table p (record { nodes = tt; names = tt; small_nodes = λ r. tt; small_links = λ r. tt; text = tt }) (extends-same (table_of s))

-- Every node of the table of a proper shape is good.
pub table-good-nodes : (s : Shape) → Proper s → GoodNodes (table_of s) 0 (table_of s).nodes
table-good-nodes s p = (table-sound s p).nodes

-- So is every name.
pub table-good-names : (s : Shape) → Proper s → GoodNames (table_of s) 0 (table_of s).names
table-good-names s p = (table-sound s p).names

-- Its text is bytes.
pub table-text-bytes : (s : Shape) → Proper s → Bytes (table_of s).text
table-text-bytes s p = (table-sound s p).text

-- The numbers of names that end within a short text are small.
names-small : (T : Table) (k : ℕ) (ns : List Name) → length T.text < two_byte_end → GoodNames T k ns → SmallNames ns
unfolding GoodNames SmallNames
names-small T k [] h g = tt
names-small T k (n ∷ ns) h g = ((omega (arith, g.0), omega (arith, g.0)), names-small T (suc k) ns h g.2)

-- In a table of short sections every number is small.
pub short-small : (s : Shape) → Proper s → length (table_of s).nodes < two_byte_end → length (table_of s).links < two_byte_end → length (table_of s).names < two_byte_end → length (table_of s).text < two_byte_end
    → SmallNodes (table_of s).nodes × SmallLinks (table_of s).links × SmallNames (table_of s).names
short-small s p a b c d = ((table-sound s p).small_nodes (a, b, c), (table-sound s p).small_links (a, b, c), names-small (table_of s) 0 (table_of s).names d (table-good-names s p))

-- The table of the bench card's M4: 54 bytes.
pub card-table : table_bytes (table_of (record_of (field (97 ∷ []) (prim int) (field (98 ∷ []) (array_of (prim bool)) no_fields))))
    ≡ 0x04 ∷ 0x00 ∷ 0x00 ∷ 0x00 ∷ 0x00 ∷ 0x00 ∷ 0x00 ∷ 0x00 ∷ 0x02 ∷ 0x00 ∷ 0x00 ∷ 0x00 ∷ 0x00 ∷ 0x00 ∷ 0x05 ∷ 0x00 ∷ 0x00 ∷ 0x00 ∷ 0x01 ∷ 0x00 ∷ 0x07 ∷ 0x00 ∷ 0x01 ∷ 0x00 ∷ 0x02 ∷ 0x00 ∷ 0x03 ∷ 0x00 ∷ 0x01 ∷ 0x00 ∷ 0x00 ∷ 0x00 ∷ 0x00 ∷ 0x00 ∷ 0x00 ∷ 0x00 ∷ 0x02 ∷ 0x00 ∷ 0x01 ∷ 0x00 ∷ 0x02 ∷ 0x00 ∷ 0x00 ∷ 0x00 ∷ 0x01 ∷ 0x00 ∷ 0x01 ∷ 0x00 ∷ 0x01 ∷ 0x00 ∷ 0x02 ∷ 0x00 ∷ 0x61 ∷ 0x62 ∷ []
unfolding table_bytes nodes_bytes links_bytes names_bytes grow with_node bare_links named_links field_names names_from joined count code
card-table = refl
