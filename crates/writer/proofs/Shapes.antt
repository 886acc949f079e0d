-- The bytes of a node are the encoding of its shape.
--     node-bytes        where what is written of the nodes before encodes their shapes, so does what is written of a good node
--     node-encoded      of a table that was read, the bytes of each node encode its shape
-- Assumes nothing.
use mathlib.Core.Path.{◌≡◌, refl, sym, ◌∙◌, ap, ap₂}
use mathlib.Core.Bool.{true, ◌&&◌}
use mathlib.Core.List.{List, [], ◌++◌, append_assoc, append-nil}
use Prim.Native.Nat.{ℕ, zero, suc, ◌+◌, ◌-◌, ◌≤◌, ◌<◌}
use native.Mathlib.Nat.{add-zero}
use native.Mathlib.Numerals.{add-one}
use native.Mathlib.Omega.{arith}
use lib.Dec.{ltb, eqb}
use borrow.Author.Tests.{ltb-true, eqb-true}
use Rattle.meaning.specs.Numbers.{leb128}
use Rattle.meaning.specs.Shape.{Shape, blank, array_of, map_of, record_of, function_of, symbol_of}
use Rattle.meaning.specs.Encode.{as_prim, array_bytes, map_bytes, text_bytes, texts_bytes, encode}
use Rattle.meaning.specs.Table as Meant
use Rattle.meaning.specs.Table.{Node, array_kind, map_kind, record_kind, function_kind, symbol_kind, node_of, link_of, text_of, texts_from, fields_from, parameters_from, node_shape, shape_in}
use Rattle.meaning.proofs.Rules.{both}
use Rattle.meaning.proofs.Sound.{code-prim}
use Rattle.payloads.specs.declared.first.Kind.TheVariants.{Record, Function, Symbol}
use Rattle.tables.specs.declared.Table.{Table}
use Rattle.tables.specs.declared.Way.TheVariants.{Bare, Named, Texts}
use Rattle.tables.specs.Places.{node_at, link_at, target_kind, good_by, good_from, good_at}
use Rattle.tables.proofs.Whole.{node-view, link-view, text-view}
use Rattle.extents.proofs.Sound.{cases, and_left, and_right, bare-below, named-below, named-inside, text-inside, array-has, map-has, record-has, function-has, symbol-has, every-good}
use Rattle.extents.proofs.Shapes.{fields-count, parameters-count, texts-count, primitive_of, text-long, prim-held}
use Rattle.forms.specs.declared.Form.{Form}
use Rattle.forms.specs.Forms.{text_at, array_form, map_form, form_of}
use Rattle.writer.specs.Bytes.{with_head, run_bytes, form_bytes, table_of, encoded_at, node_bytes}

-- T is a table whose links and texts are those of the rest; child says the shapes of the nodes before node i, and bytes what is written of them
module _ (T : Meant.Table) (rest : List ℕ) (l m : ℕ) (linked : (x : ℕ) → x < l → link_of T x ≡ link_at rest x) (texts : (k : ℕ) → k < m → text_at rest l m k ≡ text_bytes (text_of T k)) (bytes : ℕ → List ℕ) (child : ℕ → Shape) (i : ℕ) (right : (t : ℕ) → t < i → bytes t ≡ encode (child t)) where
  -- The bytes of good links to texts are those of the texts.
  texts-run : (b a : ℕ) → a + b ≤ l → good_from rest Texts i m a b ≡ true → run_bytes bytes rest l m Texts a b ≡ texts_bytes (texts_from T a b)
  unfolding good_from run_bytes texts_from texts_bytes
  texts-run zero a h g = refl
  texts-run (suc b) a h g =
      let k = (link_at rest a).name in
      let t = texts k (text-inside i m (link_at rest a) (and_left _ (good_from rest Texts i m (suc a) b) g)) in
      rw (linked a (omega arith), append-nil (text_at rest l m k)) (
      ap₂ ◌++◌ t (texts-run b (suc a) (omega arith) (and_right (good_by Texts i m (link_at rest a)) _ g)))

  -- The bytes of good links with names are those of the fields.
  fields-run : (b a : ℕ) → a + b ≤ l → good_from rest Named i m a b ≡ true → run_bytes bytes rest l m Named a b ≡ encode (fields_from T child a b)
  unfolding good_from run_bytes fields_from encode
  fields-run zero a h g = refl
  fields-run (suc b) a h g =
      let j = (link_at rest a).target in let k = (link_at rest a).name in
      let p : good_by Named i m (link_at rest a) ≡ true = and_left _ (good_from rest Named i m (suc a) b) g in
      let t = texts k (named-inside i m (link_at rest a) p) in
      let r = right j (named-below i m (link_at rest a) p) in
      let f = fields-run b (suc a) (omega arith) (and_right (good_by Named i m (link_at rest a)) _ g) in
      rw (linked a (omega arith), append_assoc (text_at rest l m k) (bytes j) _) (ap₂ ◌++◌ t (ap₂ ◌++◌ r f))

  -- The bytes of good links without names are those of parameters and a return.
  bare-run : (b a : ℕ) → a + suc b ≤ l → good_from rest Bare i m a (suc b) ≡ true → run_bytes bytes rest l m Bare a (suc b) ≡ encode (parameters_from T child a b) ++ encode (child (link_of T (a + b)).target)
  unfolding good_from run_bytes parameters_from encode
  bare-run zero a h g =
      let r = right (link_at rest a).target (bare-below i m (link_at rest a) (and_left _ true g)) in
      rw (add-zero, linked a (omega arith), append-nil (bytes (link_at rest a).target)) r
  bare-run (suc b) a h g =
      let j = (link_at rest a).target in
      let r = right j (bare-below i m (link_at rest a) (and_left _ (good_from rest Bare i m (suc a) (suc b)) g)) in
      let f = bare-run b (suc a) (omega arith) (and_right (good_by Bare i m (link_at rest a)) _ g) in
      let z : a + suc b ≡ suc a + b = omega arith in
      rw (z, linked a (omega arith), append_assoc (encode (child j))) (ap₂ ◌++◌ r f)

  -- A Record is written as its shape is encoded.
  record-bytes : (a b : ℕ) → a + b ≤ l → good_from rest Named i m a b ≡ true → with_head Record (leb128 b ++ run_bytes bytes rest l m Named a b) ≡ encode (record_of (fields_from T child a b))
  unfolding encode
  record-bytes a b h g = rw (fields-count T child b a, fields-run b a h g)

  -- So is a Symbol.
  symbol-bytes : (a b : ℕ) → a + b ≤ l → good_from rest Texts i m a b ≡ true → with_head Symbol (leb128 b ++ run_bytes bytes rest l m Texts a b) ≡ encode (symbol_of (texts_from T a b))
  unfolding encode
  symbol-bytes a b h g = rw (texts-count T b a, texts-run b a h g)

  -- So is a Function.
  function-bytes : (a b : ℕ) → 1 ≤ b → a + b ≤ l → good_from rest Bare i m a b ≡ true → with_head Function (leb128 (b - 1) ++ run_bytes bytes rest l m Bare a b) ≡ encode (function_of (parameters_from T child a (b - 1)) (child (link_of T (a + (b - 1))).target))
  unfolding encode
  function-bytes a zero s h g = absurd (omega arith)
  function-bytes a (suc b) s h g = let z : suc b - 1 ≡ b = omega arith in rw (z, parameters-count T child b a, bare-run b a h g)

  -- whether a node before is a primitive, and which, its shape says
  module _ (nodes : List ℕ) (prims : (t : ℕ) → t < i → as_prim (child t) ≡ primitive_of (node_at nodes t).kind) where
    -- So is an Array.
    array-bytes : (a : ℕ) → a + 1 ≤ l → good_from rest Bare i m a 1 ≡ true → form_bytes bytes rest l m (array_form nodes rest a) a 1 ≡ encode (array_of (child (link_of T a).target))
    unfolding good_from run_bytes array_form encode array_bytes
    array-bytes a h g =
        let j = (link_at rest a).target in let k = target_kind nodes rest a in
        let p = bare-below i m (link_at rest a) (and_left _ true g) in
        rw (linked a (omega arith), prims j p) (
        cases (ltb k array_kind)
        (λ t. rw (t, code-prim k (ltb-true k array_kind t)))
        (λ t. rw (t, append-nil (bytes j), right j p)))

    -- So is a Map.
    map-bytes : (a : ℕ) → a + 2 ≤ l → good_from rest Bare i m a 2 ≡ true → form_bytes bytes rest l m (map_form nodes rest a) a 2 ≡ encode (map_of (child (link_of T a).target) (child (link_of T (suc a)).target))
    unfolding good_from run_bytes map_form encode map_bytes
    map-bytes a h g =
        let j = (link_at rest a).target in let j' = (link_at rest (suc a)).target in
        let k = target_kind nodes rest a in let k' = target_kind nodes rest (suc a) in
        let p = bare-below i m (link_at rest a) (and_left _ (good_by Bare i m (link_at rest (suc a)) && true) g) in
        let q = bare-below i m (link_at rest (suc a)) (and_left _ true (and_right (good_by Bare i m (link_at rest a)) _ g)) in
        let r : bytes j ++ (bytes j' ++ []) ≡ encode (child j) ++ encode (child j') = rw (append-nil (bytes j')) (ap₂ ◌++◌ (right j p) (right j' q)) in
        rw (add-one a, linked a (omega arith), linked (suc a) (omega arith), prims j p, prims j' q) (
        cases (ltb k array_kind)
        (λ t. cases (ltb k' array_kind)
        (λ u. rw (t, u, code-prim k (ltb-true k array_kind t), code-prim k' (ltb-true k' array_kind u)))
        (λ u. rw (t, u, r)))
        (λ t. rw (t, r)))

    -- A good node is written as its shape is encoded.
    node-bytes : (n : Node) → good_at rest l m i n ≡ true → form_bytes bytes rest l m (form_of nodes rest n) n.a n.b ≡ encode (node_shape T child n)
    unfolding form_of node_shape encode
    node-bytes n g =
        both R (ltb n.kind array_kind) _ _ _ _ (λ t. rw (code-prim n.kind (ltb-true n.kind array_kind t))) λ _.
        both R (eqb n.kind array_kind) _ _ _ _ (λ t. let h = array-has rest l m i n g (eqb-true _ _ t) in rw h.0 (array-bytes n.a (omega (arith, h.0, h.1.inside)) (rw h.0 at h.1.good))) λ _.
        both R (eqb n.kind map_kind) _ _ _ _ (λ t. let h = map-has rest l m i n g (eqb-true _ _ t) in rw h.0 (map-bytes n.a (omega (arith, h.0, h.1.inside)) (rw h.0 at h.1.good))) λ _.
        both R (eqb n.kind record_kind) _ _ _ _ (λ t. let h = record-has rest l m i n g (eqb-true _ _ t) in record-bytes n.a n.b h.inside h.good) λ _.
        both R (eqb n.kind function_kind) _ _ _ _ (λ t. let h = function-has rest l m i n g (eqb-true _ _ t) in function-bytes n.a n.b h.0 h.1.inside h.1.good) λ _.
        both R (eqb n.kind symbol_kind) _ _ _ _ (λ t. let h = symbol-has rest l m i n g (eqb-true _ _ t) in symbol-bytes n.a n.b h.inside h.good) λ _.
        refl
      where
        R : Form → Shape → Type 0
        R f s = form_bytes bytes rest l m f n.a n.b ≡ encode s

-- a table that was read
module _ (table : Table) where
  -- what it is, and its parts
  abbrev T : Meant.Table
  T = table_of table

  abbrev nodes : List ℕ
  nodes = table.nodes.now

  abbrev rest : List ℕ
  rest = table.rest.now

  abbrev n : ℕ
  n = table.count

  abbrev l : ℕ
  l = table.links

  abbrev m : ℕ
  m = table.names

  -- The text of a name is that of the table.
  text-bytes : (k : ℕ) → k < m → text_at rest l m k ≡ text_bytes (text_of T k)
  text-bytes k h = let s = table.sound in ap₂ (λ (z : ℕ) (w : List ℕ). leb128 z ++ w) (sym (text-long nodes rest n l m _ s.whole s.fits s.nodes_good s.names_good k h)) (sym (text-view nodes rest n l m k h))

  -- Where the bytes of the nodes before node i encode their shapes, so do its own.
  next-encoded : (child : ℕ → Shape) (i : ℕ) → i < n → ((t : ℕ) → t < i → encoded_at table t ≡ encode (child t)) → ((t : ℕ) → t < i → as_prim (child t) ≡ primitive_of (node_at nodes t).kind) → encode (node_shape T child (node_of T i)) ≡ node_bytes table (node_at nodes i)
  next-encoded child i h right prims =
      ap (λ (x : Node). encode (node_shape T child x)) (node-view nodes rest n l m table.sound.whole i h)
      ∙ sym (node-bytes T rest l m (link-view nodes rest n l m) text-bytes (encoded_at table) child i right nodes prims (node_at nodes i) (every-good nodes rest l m n table.sound.nodes_good i h))

  -- A node before has the primitive of its kind.
  kind-prim : (k t : ℕ) → t < n → as_prim (shape_in T k t) ≡ primitive_of (node_at nodes t).kind
  kind-prim = let s = table.sound in prim-held nodes rest n l m _ s.whole s.fits s.nodes_good s.names_good

  -- the bytes of node i encode its shape, where at most k nodes below it are allowed and these are enough
  abbrev EncodedIn : ℕ → Type 0
  EncodedIn k = (i : ℕ) → i ≤ k → i < n → encode (shape_in T k i) ≡ node_bytes table (node_at nodes i)

  -- They do so for k, where they do for fewer than g and k is at most g.
  one_more : (g : ℕ) → ((k : ℕ) → k < g → EncodedIn k) → (k : ℕ) → k ≤ g → EncodedIn k
  unfolding shape_in encoded_at
  one_more g below zero e i p h = next-encoded (λ j. blank 0) i h (λ t b. absurd (omega arith)) (λ t b. absurd (omega arith))
  one_more g below (suc k) e i p h =
      next-encoded (shape_in T k) i h
      (λ t b. below t (omega arith) t (omega arith) (omega arith) ∙ sym (below k e t (omega arith) (omega arith)))
      (λ t b. kind-prim k t (omega arith))

  -- So they do for all.
  encoded-in : (g k : ℕ) → k < g → EncodedIn k
  encoded-in zero k e = absurd (omega arith)
  encoded-in (suc g) k e = one_more g (encoded-in g) k (omega arith)

  -- The bytes of a node encode its shape.
  pub node-encoded : (i : ℕ) → i < n → encoded_at table i ≡ node_bytes table (node_at nodes i)
  unfolding encoded_at
  node-encoded i h = encoded-in (suc i) i (omega arith) i (omega arith) h
