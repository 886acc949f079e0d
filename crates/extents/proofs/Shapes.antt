-- What is held of a node is the extent of its shape.
--     fields-count, parameters-count, texts-count     there are as many as links
--     node-is           where that is so of the nodes before, it is so of a good node
--     names-inside      where no name is broken, each is in the text
--     text-long         the text of a good name is as long as the name says
--     prim-held         a node's shape is the primitive of its kind, if it is one
--     shapes-held       of a table whose nodes and names are good, of each node the extent of its shape is held
-- Assumes nothing.
use mathlib.Core.Path.{◌≡◌, refl, sym, ◌∙◌, ap, ap₂}
use mathlib.Core.Bool.{true, ◌&&◌}
use mathlib.Core.List.{List, ◌++◌}
use mathlib.Core.Option.{Option, some}
use mathlib.Core.Option as option
use Prim.Native.Nat.{ℕ, zero, suc, ◌+◌, ◌*◌, ◌-◌, ◌≤◌, ◌<◌, max}
use native.Mathlib.Nat.{add-zero}
use native.Mathlib.Numerals.{add-one}
use native.Mathlib.Omega.{arith}
use lib.Dec.{ltb, eqb}
use lib.ListN.{length, length-append}
use lib.Seq.{length-slice}
use borrow.Author.Tests.{ltb-false, eqb-true, eqb-false}
use Rattle.meaning.specs.Rules.{◌⇒◌∣◌}
use Rattle.meaning.specs.Numbers.{leb128}
use Rattle.meaning.specs.FirstByte.{prim_of}
use Rattle.meaning.specs.Shape.{Primitive, Shape, blank, array_of, map_of, record_of, function_of, symbol_of, depth, count}
use Rattle.meaning.specs.Encode.{as_prim, text_bytes, texts_bytes, encode}
use Rattle.meaning.specs.Reading.{some?}
use Rattle.meaning.specs.Table.{Node, Table, array_kind, map_kind, record_kind, function_kind, symbol_kind, node_of, link_of, text_of, texts_from, fields_from, parameters_from, node_shape, shape_in, shape_of}
use Rattle.meaning.specs.TableReading.{node_size}
use Rattle.meaning.proofs.Rules.{rule, both}
use Rattle.tables.specs.declared.Way.TheVariants.{Bare, Named, Texts}
use Rattle.tables.specs.Places.{text_place, table_in, node_at, link_at, name_at, good_by, good_from, good_at, first_bad_node, good_name, first_bad_name, Fits}
use Rattle.tables.proofs.Whole.{node-view, link-view, text-view}
use Rattle.extents.specs.declared.Extent.{Extent}
use Rattle.extents.specs.Extents.{extent, extent_of, leb_size, with_shape, held_in, none, sum_run, closed, prim_at, node_extent, ExtentsTo}
use Rattle.extents.proofs.Sound.{cases, clash, and_left, and_right, bare-below, named-below, named-inside, text-inside, array-has, map-has, record-has, function-has, symbol-has, every-good}
use Rattle.extents.proofs.Capped.{capped, text-capped, shape-capped, counted-capped, max-group, leb-length, array-form, map-form, blank-form, prim-form}

-- Two parts that are added one by one are added as one.
joined_length : (a : ℕ) (u v : List ℕ) → a + length u + length v ≡ a + length (u ++ v)
joined_length a u v = let e = length-append u v in omega arith

module _ (T : Table) (child : ℕ → Shape) where
  -- There are as many fields as links.
  pub fields-count : (b a : ℕ) → count (fields_from T child a b) ≡ b
  unfolding fields_from count
  fields-count zero a = refl
  fields-count (suc b) a = ap suc (fields-count b (suc a))

  -- There are as many parameters.
  pub parameters-count : (b a : ℕ) → count (parameters_from T child a b) ≡ b
  unfolding parameters_from count
  parameters-count zero a = refl
  parameters-count (suc b) a = ap suc (parameters-count b (suc a))

-- There are as many texts.
pub texts-count : (T : Table) (b a : ℕ) → length (texts_from T a b) ≡ b
unfolding texts_from
texts-count T zero a = refl
texts-count T (suc b) a = ap suc (texts-count T b (suc a))

-- T is a table whose links and names are those of the rest; child says the shapes of the nodes before node i, and held their extents
module _ (T : Table) (rest : List ℕ) (l m : ℕ) (linked : (x : ℕ) → x < l → link_of T x ≡ link_at rest x) (sized : (k : ℕ) → k < m → length (text_of T k) ≡ (name_at rest l k).size) where
  -- A text has its length before it.
  text-size : (k : ℕ) → k < m → leb_size (name_at rest l k).size + (name_at rest l k).size ≡ length (text_bytes (text_of T k))
  text-size k h = rw (← sized k h, length-append (leb128 (length (text_of T k))) (text_of T k), leb-length (length (text_of T k)))

  module _ (held : ℕ → Extent) (child : ℕ → Shape) (i : ℕ) (right : (t : ℕ) → t < i → held t ≡ extent_of (child t)) where
    -- The sum of good links to texts is that of the texts' bytes.
    texts-sum : (b a s d : ℕ) → a + b ≤ l → good_from rest Texts i m a b ≡ true → sum_run held rest l Texts a b (capped s d) ≡ capped (s + length (texts_bytes (texts_from T a b))) d
    unfolding good_from sum_run texts_from texts_bytes
    texts-sum zero a s d h g = ap (λ (x : ℕ). capped x d) (omega arith)
    texts-sum (suc b) a s d h g =
        let k = (link_at rest a).name in let w = text_bytes (text_of T k) in
        let t = text-size k (text-inside i m (link_at rest a) (and_left _ (good_from rest Texts i m (suc a) b) g)) in
        rw (linked a (omega arith)) (
        ap (sum_run held rest l Texts (suc a) b) (text-capped s d (name_at rest l k).size ∙ ap (λ (x : ℕ). capped (s + x) d) t)
        ∙ texts-sum b (suc a) (s + length w) d (omega arith) (and_right (good_by Texts i m (link_at rest a)) _ g)
        ∙ ap (λ (x : ℕ). capped x d) (joined_length s w (texts_bytes (texts_from T (suc a) b))))

    -- The sum of good links with names is that of the fields' bytes, and as deep.
    fields-sum : (b a s d : ℕ) → a + b ≤ l → good_from rest Named i m a b ≡ true → sum_run held rest l Named a b (capped s d) ≡ capped (s + length (encode (fields_from T child a b))) (max d (depth (fields_from T child a b)))
    unfolding good_from sum_run fields_from encode depth
    fields-sum zero a s d h g = ap₂ capped (omega arith) (omega arith)
    fields-sum (suc b) a s d h g =
        let j = (link_at rest a).target in let k = (link_at rest a).name in let w = text_bytes (text_of T k) in let f = fields_from T child (suc a) b in
        let p : good_by Named i m (link_at rest a) ≡ true = and_left _ (good_from rest Named i m (suc a) b) g in
        rw (linked a (omega arith)) (
        ap (sum_run held rest l Named (suc a) b) (
        ap₂ with_shape (text-capped s d (name_at rest l k).size ∙ ap (λ (x : ℕ). capped (s + x) d) (text-size k (named-inside i m (link_at rest a) p))) (right j (named-below i m (link_at rest a) p))
        ∙ shape-capped (s + length w) d (length (encode (child j))) (depth (child j)))
        ∙ fields-sum b (suc a) (s + length w + length (encode (child j))) (max d (depth (child j))) (omega arith) (and_right (good_by Named i m (link_at rest a)) _ g)
        ∙ ap₂ capped (field-length s w (encode (child j)) (encode f)) (max-group d (depth (child j)) (depth f)))
      where
        field-length : (s : ℕ) (w u v : List ℕ) → s + length w + length u + length v ≡ s + length (w ++ (u ++ v))
        field-length s w u v = let e = length-append w (u ++ v) in let f = length-append u v in omega arith

    -- The sum of good links without names is that of parameters and a return, and as deep.
    bare-sum : (b a s d : ℕ) → a + suc b ≤ l → good_from rest Bare i m a (suc b) ≡ true → sum_run held rest l Bare a (suc b) (capped s d) ≡ capped (s + (length (encode (parameters_from T child a b)) + length (encode (child (link_of T (a + b)).target)))) (max d (max (depth (parameters_from T child a b)) (depth (child (link_of T (a + b)).target))))
    unfolding good_from sum_run parameters_from encode depth
    bare-sum zero a s d h g =
        let j = (link_at rest a).target in
        rw (add-zero, linked a (omega arith)) (
        ap (with_shape (capped s d)) (right j (bare-below i m (link_at rest a) (and_left _ (good_from rest Bare i m (suc a) zero) g)))
        ∙ shape-capped s d (length (encode (child j))) (depth (child j))
        ∙ ap₂ capped (omega arith) (omega arith))
    bare-sum (suc b) a s d h g =
        let j = (link_at rest a).target in let q = parameters_from T child (suc a) b in let r = child (link_of T (suc a + b)).target in
        let z : a + suc b ≡ suc a + b = omega arith in
        rw (z, linked a (omega arith)) (
        ap (sum_run held rest l Bare (suc a) (suc b)) (
        ap (with_shape (capped s d)) (right j (bare-below i m (link_at rest a) (and_left _ (good_from rest Bare i m (suc a) (suc b)) g)))
        ∙ shape-capped s d (length (encode (child j))) (depth (child j)))
        ∙ bare-sum b (suc a) (s + length (encode (child j))) (max d (depth (child j))) (omega arith) (and_right (good_by Bare i m (link_at rest a)) _ g)
        ∙ ap₂ capped (more-length s (encode (child j)) (encode q) (length (encode r))) (max-group d (depth (child j)) (max (depth q) (depth r)) ∙ ap (max d) (sym (max-group (depth (child j)) (depth q) (depth r)))))
      where
        more-length : (s : ℕ) (u v : List ℕ) (x : ℕ) → s + length u + (length v + x) ≡ s + (length (u ++ v) + x)
        more-length s u v x = let e = length-append u v in omega arith

    -- The extent of a Record is that of its shape.
    record_is : (a b : ℕ) → a + b ≤ l → good_from rest Named i m a b ≡ true → closed (3 + leb_size b) (sum_run held rest l Named a b none) ≡ extent_of (record_of (fields_from T child a b))
    unfolding encode depth
    record_is a b h g =
        let f = fields_from T child a b in
        rw (fields-count T child b a, length-append (leb128 b) (encode f), leb-length b)
        (ap (closed (3 + leb_size b)) (fields-sum b a 0 0 h g) ∙ counted-capped (leb_size b) (length (encode f)) (depth f))

    -- So is that of a Symbol.
    symbol-is : (a b : ℕ) → a + b ≤ l → good_from rest Texts i m a b ≡ true → closed (3 + leb_size b) (sum_run held rest l Texts a b none) ≡ extent_of (symbol_of (texts_from T a b))
    unfolding encode depth
    symbol-is a b h g =
        let w = texts_bytes (texts_from T a b) in
        rw (texts-count T b a, length-append (leb128 b) w, leb-length b)
        (ap (closed (3 + leb_size b)) (texts-sum b a 0 0 h g) ∙ counted-capped (leb_size b) (length w) 0)

    -- So is that of a Function.
    function-is : (a b : ℕ) → a + suc b ≤ l → good_from rest Bare i m a (suc b) ≡ true → closed (3 + leb_size b) (sum_run held rest l Bare a (suc b) none) ≡ extent_of (function_of (parameters_from T child a b) (child (link_of T (a + b)).target))
    unfolding encode depth
    function-is a b h g =
        let q = parameters_from T child a b in let r = child (link_of T (a + b)).target in
        rw (parameters-count T child b a, length-append (leb128 b) (encode q ++ encode r), length-append (encode q) (encode r), leb-length b)
        (ap (closed (3 + leb_size b)) (bare-sum b a 0 0 h g) ∙ counted-capped (leb_size b) (length (encode q) + length (encode r)) (max (depth q) (depth r)))

    -- whether a node before is a primitive, its shape says
    module _ (nodes : List ℕ) (prims : (t : ℕ) → t < i → ltb (node_at nodes t).kind array_kind ≡ some? (as_prim (child t))) where
      -- So is that of an Array.
      array-is : (a : ℕ) → a + 1 ≤ l → good_from rest Bare i m a 1 ≡ true → (prim_at nodes rest a ⇒ extent 1 2 ∣ λ _. closed 3 (sum_run held rest l Bare a 1 none)) ≡ extent_of (array_of (child (link_of T a).target))
      unfolding good_from sum_run
      array-is a h g =
          let j = (link_at rest a).target in
          let p = bare-below i m (link_at rest a) (and_left _ true g) in
          rw (linked a (omega arith), prims j p) (array-form (child j) (with_shape none (held j)) (
          ap (with_shape none) (right j p) ∙ shape-capped 0 0 (length (encode (child j))) (depth (child j)) ∙ ap₂ capped (omega arith) (omega arith)))

      -- So is that of a Map.
      map_is : (a : ℕ) → a + 2 ≤ l → good_from rest Bare i m a 2 ≡ true → ((prim_at nodes rest a && prim_at nodes rest (a + 1)) ⇒ extent 1 2 ∣ λ _. closed 3 (sum_run held rest l Bare a 2 none)) ≡ extent_of (map_of (child (link_of T a).target) (child (link_of T (suc a)).target))
      unfolding good_from sum_run
      map_is a h g =
          let j = (link_at rest a).target in let k = (link_at rest (suc a)).target in
          let p = bare-below i m (link_at rest a) (and_left _ (good_by Bare i m (link_at rest (suc a)) && true) g) in
          let q = bare-below i m (link_at rest (suc a)) (and_left _ true (and_right (good_by Bare i m (link_at rest a)) _ g)) in
          let z : a + 1 ≡ suc a = add-one a in
          rw (z, linked a (omega arith), linked (suc a) (omega arith), prims j p, prims k q) (map-form (child j) (child k) (with_shape (with_shape none (held j)) (held k)) (
          ap₂ (λ (x y : Extent). with_shape (with_shape none x) y) (right j p) (right k q)
          ∙ ap (λ (e : Extent). with_shape e (extent_of (child k))) (shape-capped 0 0 (length (encode (child j))) (depth (child j)))
          ∙ shape-capped (0 + length (encode (child j))) (max 0 (depth (child j))) (length (encode (child k))) (depth (child k))
          ∙ ap₂ capped (omega arith) (omega arith)))

      -- The extent of a good node is that of its shape.
      node-is : (n : Node) → good_at rest l m i n ≡ true → node_extent held nodes rest l n ≡ extent_of (node_shape T child n)
      unfolding node_extent node_shape
      node-is n g =
          both R (ltb n.kind array_kind) _ _ _ _ (λ _. prim-form (prim_of n.kind)) λ _.
          both R (eqb n.kind array_kind) _ _ _ _ (λ t. let h = array-has rest l m i n g (eqb-true _ _ t) in rw h.0 (array-is n.a (omega (arith, h.0, h.1.inside)) (rw h.0 at h.1.good))) λ _.
          both R (eqb n.kind map_kind) _ _ _ _ (λ t. let h = map-has rest l m i n g (eqb-true _ _ t) in rw h.0 (map_is n.a (omega (arith, h.0, h.1.inside)) (rw h.0 at h.1.good))) λ _.
          both R (eqb n.kind record_kind) _ _ _ _ (λ t. let h = record-has rest l m i n g (eqb-true _ _ t) in record_is n.a n.b h.inside h.good) λ _.
          both R (eqb n.kind function_kind) _ _ _ _ (λ t. let h = function-has rest l m i n g (eqb-true _ _ t) in one_less n.b h.0 h.1.inside h.1.good) λ _.
          both R (eqb n.kind symbol_kind) _ _ _ _ (λ t. let h = symbol-has rest l m i n g (eqb-true _ _ t) in symbol-is n.a n.b h.inside h.good) λ _.
          blank-form n.a
        where
          R : Extent → Shape → Type 0
          R e s = e ≡ extent_of s

          one_less : (b : ℕ) → 1 ≤ b → n.a + b ≤ l → good_from rest Bare i m n.a b ≡ true → closed (3 + leb_size (b - 1)) (sum_run held rest l Bare n.a b none) ≡ extent_of (function_of (parameters_from T child n.a (b - 1)) (child (link_of T (n.a + (b - 1))).target))
          one_less zero h k g = absurd (omega arith)
          one_less (suc b) h k g = let z : suc b - 1 ≡ b = omega arith in rw z (function-is n.a b k g)

-- the primitive of a kind, if it is one
abbrev pub primitive_of : ℕ → Option Primitive
primitive_of k = ltb k array_kind ⇒ some (prim_of k) ∣ λ _. option.none

-- A kind is a primitive's where it has one.
has-primitive : (k : ℕ) → ltb k array_kind ≡ some? (primitive_of k)
has-primitive k = cases (ltb k array_kind) (λ t. rw t) (λ t. rw t)

-- A node is the primitive of its kind where its shape is one.
node-prim : (T : Table) (child : ℕ → Shape) (n : Node) → as_prim (node_shape T child n) ≡ primitive_of n.kind
unfolding node_shape as_prim
node-prim T child n =
    rule P (ltb n.kind array_kind) _ _ (λ t. rw t) λ t.
    rule P (eqb n.kind array_kind) _ _ (λ _. rw t) λ _.
    rule P (eqb n.kind map_kind) _ _ (λ _. rw t) λ _.
    rule P (eqb n.kind record_kind) _ _ (λ _. rw t) λ _.
    rule P (eqb n.kind function_kind) _ _ (λ _. rw t) λ _.
    rule P (eqb n.kind symbol_kind) _ _ (λ _. rw t) λ _. rw t
  where
    P : Shape → Type 0
    P s = as_prim s ≡ primitive_of n.kind

-- Where none of the names from name k on is broken, each is in the text.
pub names-inside : (rest : List ℕ) (l m c : ℕ) (b k : ℕ) → first_bad_name rest l m c b k ≡ k + b → (j : ℕ) → k ≤ j → j < k + b → (name_at rest l j).start + (name_at rest l j).size ≤ c
unfolding first_bad_name good_name
names-inside rest l m c zero k e j p q = absurd (omega arith)
names-inside rest l m c (suc b) k e j p q =
    cases (good_name rest l m c (name_at rest l k))
    (λ t. cases (eqb k j)
    (λ u. let w : k ≡ j = eqb-true _ _ u in rw (← w) (
    cases (ltb c ((name_at rest l k).start + (name_at rest l k).size)) (λ v. clash (rw v at t)) (λ v. ltb-false _ _ v)))
    (λ u. let w = eqb-false k j u in
    names-inside rest l m c b (suc k) (let d : first_bad_name rest l m c b (suc k) ≡ k + suc b = rw t at e in omega (arith, d)) j (omega (arith, w)) (omega arith)))
    (λ t. let d : k ≡ k + suc b = rw t at e in absurd (omega arith))

-- the nodes and names of a table of n nodes, and of so many links, names and bytes of text, are good
module _ (nodes rest : List ℕ) (n l m c : ℕ) (whole : length nodes ≡ node_size * n) (fits : Fits rest l m c) (good : first_bad_node nodes rest l m n 0 ≡ n) (named : first_bad_name rest l m c m 0 ≡ m) where
  -- the table
  abbrev T : Table
  T = table_in nodes rest n l m

  -- The text of a name is as long as the name says.
  pub text-long : (k : ℕ) → k < m → length (text_of T k) ≡ (name_at rest l k).size
  text-long k h =
      let a = text_place l m + (name_at rest l k).start in let z = (name_at rest l k).size in
      let i = names-inside rest l m c m 0 (omega (arith, named)) k (omega arith) (omega arith) in
      ap length (text-view nodes rest n l m k h) ∙ length-slice a (a + z) rest (omega (arith, fits.ends)) ∙ one_side a z
    where
      one_side : (a z : ℕ) → a + z - a ≡ z
      one_side a z = omega arith

  -- A node of the table is the primitive of its kind where its shape is one.
  pub prim-held : (k i : ℕ) → i < n → as_prim (shape_in T k i) ≡ primitive_of (node_at nodes i).kind
  unfolding shape_in
  prim-held zero i h = node-prim T (λ j. blank 0) (node_of T i) ∙ ap (λ (x : Node). primitive_of x.kind) (node-view nodes rest n l m whole i h)
  prim-held (suc k) i h = node-prim T (shape_in T k) (node_of T i) ∙ ap (λ (x : Node). primitive_of x.kind) (node-view nodes rest n l m whole i h)

  module _ (lengths depths : List ℕ) (to : ExtentsTo nodes rest l lengths depths n) where
    -- What is held of node i is the extent of its shape, where that of the nodes before is.
    next-held : (child : ℕ → Shape) (i : ℕ) → i < n → ((t : ℕ) → t < i → held_in lengths depths t ≡ extent_of (child t)) → ((t : ℕ) → t < i → ltb (node_at nodes t).kind array_kind ≡ some? (as_prim (child t))) → held_in lengths depths i ≡ extent_of (node_shape T child (node_of T i))
    next-held child i h right prims =
        to i h
        ∙ node-is T rest l m (link-view nodes rest n l m) text-long (held_in lengths depths) child i right nodes prims (node_at nodes i) (every-good nodes rest l m n good i h)
        ∙ ap (λ (x : Node). extent_of (node_shape T child x)) (sym (node-view nodes rest n l m whole i h))

    -- What is held of a node is the extent of its shape, where there are levels enough.
    held_in_lem : (k i : ℕ) → i ≤ k → i < n → held_in lengths depths i ≡ extent_of (shape_in T k i)
    unfolding shape_in
    held_in_lem zero i p h = next-held (λ j. blank 0) i h (λ t b. absurd (omega arith)) (λ t b. absurd (omega arith))
    held_in_lem (suc k) i p h = next-held (shape_in T k) i h (λ t b. held_in_lem k t (omega arith) (omega arith)) (λ t b. let h = prim-held k t (omega arith) in has-primitive (node_at nodes t).kind ∙ ap some? (sym h))

    -- Of each node the extent of its shape is held.
    pub shapes-held : (j : ℕ) → j < n → held_in lengths depths j ≡ extent_of (shape_of T j)
    shapes-held j h = held_in_lem j j (omega arith) h
