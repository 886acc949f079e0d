-- Every node of a table within the limits stands for one shape.
--     Kept, kept          what a good node is, kind by kind
--     run_at              each link of a good run is good
--     node-good           every node of such a table is good
--     name-good           every name of it is UTF-8
--     shape-enough        the shape of node i needs no more than i nodes below it
--     one-shape           node i stands for its shape, and for no other
--     table-proper        that shape is proper
-- Assumes nothing.
use Prim.Native.Nat.{ℕ, zero, suc, ◌+◌, ◌-◌, max, ◌≤◌, ◌<◌}
use mathlib.Core.Path.{◌≡◌, refl, sym, ◌∙◌, ap, ap₂}
use mathlib.Core.Bool.{Bool, true, false, not, ◌&&◌, false≢true}
use mathlib.Core.List.{List, [], ◌∷◌}
use native.Mathlib.Nat.{zero-add, add-zero, add-suc, suc-add}
use native.Mathlib.Omega.{arith}
use lib.Dec.{ltb, leb, eqb}
use lib.ListN.{length, get_or}
use borrow.Author.Tests.{ltb-true, leb-true, eqb-true, not-false, lt-ltb}
use Rattle.meaning.specs.Utf8.{utf8}
use Rattle.meaning.specs.Shape.{Text, Primitive, Sort, shape, fields, parameters, Tree, prim, blank, array_of, map_of, record_of, function_of, symbol_of, no_fields, field, no_parameters, parameter, Shape, depth, count, ProperTexts, Proper}
use Rattle.meaning.specs.FirstByte.{code, prim_of}
use Rattle.meaning.specs.Table.{Node, Link, Name, Table, node, array_kind, map_kind, record_kind, function_kind, symbol_kind, variable_kind, node_of, link_of, text_of, texts_from, fields_from, parameters_from, node_shape, shape_in, shape_of, StandsTexts, Stands}
use Rattle.meaning.specs.TableReading.{bare_link, named_link, text_link, good_run, good_links, good_node, NodesFit, GoodNodes, GoodNames, TableWithin}
use Rattle.meaning.proofs.Rules.{rule}
use Rattle.meaning.proofs.Complete.{code-small, prim-code}
use Rattle.meaning.proofs.Sound.{code-prim}

-- Two tests that hold together hold each.
both_true : (a b : Bool) → (a && b) ≡ true → (a ≡ true) × (b ≡ true)
both_true true b h = (refl, h)
both_true false b h = absurd (false≢true h)

-- Nodes with the same kind, a and b, and with a zero byte, are the same.
same-node : (n : Node) (k a b : ℕ) → n.second ≡ 0 → n.kind ≡ k → n.a ≡ a → n.b ≡ b → node k a b ≡ n
same-node n k a b s p q r = λ i. record { kind = sym p i; second = sym s i; a = sym q i; b = sym r i }

-- One less than the number after a number is that number.
one_less : (b : ℕ) → suc b - 1 ≡ b
one_less b = omega arith

module _ (T : Table) where
  -- a good node i, kind by kind
  pub data Kept (i : ℕ) : Node → Type 0 where
    prim_node : (p : Primitive) → Kept i (node (code p) 0 0)
    array_node : (a : ℕ) → good_run T (bare_link T i) a 1 ≡ true → Kept i (node array_kind a 1)
    map_node : (a : ℕ) → good_run T (bare_link T i) a 2 ≡ true → Kept i (node map_kind a 2)
    record_node : (a b : ℕ) → good_run T (named_link T i) a b ≡ true → Kept i (node record_kind a b)
    function_node : (a b : ℕ) → good_run T (bare_link T i) a (suc b) ≡ true → Kept i (node function_kind a (suc b))
    symbol_node : (a b : ℕ) → good_run T (text_link T) a b ≡ true → Kept i (node symbol_kind a b)
    variable_node : (a : ℕ) → Kept i (node variable_kind a 0)

  -- Of a good run of links each is good.
  pub run_at : (good : Link → Bool) (b a c : ℕ) → good_run T good a b ≡ true → a ≤ c → c < a + b → good (link_of T c) ≡ true
  unfolding good_run
  run_at good b a c h l k = let e : c ≡ a + (c - a) = omega arith in rw e (go b a (c - a) h (omega arith))
    where
      go : (b a j : ℕ) → good_run T good a b ≡ true → j < b → good (link_of T (a + j)) ≡ true
      go zero a j h l = absurd (omega arith)
      go (suc b) a zero h l = rw add-zero (both_true (good (link_of T a)) _ h).0
      go (suc b) a (suc j) h l = rw (add-suc, ← suc-add) (go b (suc a) j (both_true (good (link_of T a)) _ h).1 (omega arith))

  -- A good run of links is good without its last.
  run-front : (good : Link → Bool) (b a : ℕ) → good_run T good a (suc b) ≡ true → good_run T good a b ≡ true
  unfolding good_run
  run-front good zero a h = refl
  run-front good (suc b) a h =
      let q = both_true (good (link_of T a)) _ h in
      rw q.0 (run-front good b (suc a) q.1)

  -- A good node is one of these.
  pub kept : (i : ℕ) (n : Node) → good_node T i n ≡ true → Kept i n
  unfolding good_node
  kept i n =
      rule P (not (eqb n.second 0)) _ _ (λ _ h. absurd (false≢true h)) λ z.
      let s : n.second ≡ 0 = eqb-true _ _ (not-false _ z) in
      rule P (ltb n.kind array_kind) _ _ (λ k h. let q = both_true (eqb n.a 0) _ h in
      is (same-node n (code (prim_of n.kind)) 0 0 s (sym (code-prim n.kind (ltb-true _ _ k))) (eqb-true _ _ q.0) (eqb-true _ _ q.1)) (prim_node (prim_of n.kind))) λ _.
      rule P (eqb n.kind array_kind) _ _ (λ k h. let q = both_true (eqb n.b 1) _ h in let b = eqb-true n.b 1 q.0 in
      is (same-node n array_kind n.a 1 s (eqb-true _ _ k) refl b) (array_node n.a (rw b at (run (bare_link T i) q.1)))) λ _.
      rule P (eqb n.kind map_kind) _ _ (λ k h. let q = both_true (eqb n.b 2) _ h in let b = eqb-true n.b 2 q.0 in
      is (same-node n map_kind n.a 2 s (eqb-true _ _ k) refl b) (map_node n.a (rw b at (run (bare_link T i) q.1)))) λ _.
      rule P (eqb n.kind record_kind) _ _ (λ k h. is (same-node n record_kind n.a n.b s (eqb-true _ _ k) refl refl) (record_node n.a n.b (run (named_link T i) h))) λ _.
      rule P (eqb n.kind function_kind) _ _ (λ k h. let q = both_true (leb 1 n.b) _ h in let b : n.b ≡ suc (n.b - 1) = omega (arith, leb-true 1 n.b q.0) in
      is (same-node n function_kind n.a (suc (n.b - 1)) s (eqb-true _ _ k) refl b) (function_node n.a (n.b - 1) (rw b at (run (bare_link T i) q.1)))) λ _.
      rule P (eqb n.kind symbol_kind) _ _ (λ k h. is (same-node n symbol_kind n.a n.b s (eqb-true _ _ k) refl refl) (symbol_node n.a n.b (run (text_link T) h))) λ _.
      rule P (eqb n.kind variable_kind) _ _ (λ k h. is (same-node n variable_kind n.a 0 s (eqb-true _ _ k) refl (eqb-true _ _ h)) (variable_node n.a)) λ _ h.
      absurd (false≢true h)
    where
      P : Bool → Type 0
      P t = t ≡ true → Kept i n

      is : {m : Node} → m ≡ n → Kept i m → Kept i n
      is e c = rw e at c

      run : (good : Link → Bool) → good_links T good n ≡ true → good_run T good n.a n.b ≡ true
      run good h = (both_true (leb (n.a + n.b) (length T.links)) _ h).1

  -- Of good nodes each is good at its index.
  node-from : (ns : List Node) (i j : ℕ) → GoodNodes T i ns → j < length ns → good_node T (i + j) (get_or ns j (node 0 0 0)) ≡ true
  unfolding GoodNodes
  node-from [] i j g l = absurd (omega arith)
  node-from (n ∷ ns) i zero g l = rw add-zero g.0
  node-from (n ∷ ns) i (suc j) g l = rw (add-suc, ← suc-add) (node-from ns (suc i) j g.1 (omega arith))

  -- Of good names each is UTF-8.
  name-from : (ns : List Name) (i k : ℕ) → GoodNames T i ns → k < length ns → utf8 (text_of T (i + k)) ≡ true
  unfolding GoodNames
  name-from [] i k g l = absurd (omega arith)
  name-from (n ∷ ns) i zero g l = rw add-zero g.1
  name-from (n ∷ ns) i (suc k) g l = rw (add-suc, ← suc-add) (name-from ns (suc i) k g.2 (omega arith))

  -- Of nodes that fit their bytes each has a small first number.
  node-fits : (ns : List Node) (j : ℕ) → NodesFit ns → (get_or ns j (node 0 0 0)).a < 65536
  unfolding NodesFit
  node-fits [] j f = omega arith
  node-fits (n ∷ ns) zero f = f.2
  node-fits (n ∷ ns) (suc j) f = node-fits ns j f.4

  -- A good link without a name goes to a node before.
  bare-below : (i : ℕ) (l : Link) → bare_link T i l ≡ true → l.target < i
  bare-below i l h = ltb-true _ _ (both_true (ltb l.target i) _ h).0

  -- So does one with a name, and the name is there.
  named-below : (i : ℕ) (l : Link) → named_link T i l ≡ true → (l.target < i) × (l.name < length T.names)
  named-below i l h = let q = both_true (ltb l.target i) _ h in (ltb-true _ _ q.0, ltb-true _ _ q.1)

  module _ (i : ℕ) (f g : ℕ → Shape) (same : (j : ℕ) → j < i → f j ≡ g j) where
    -- The fields of good links hang on the shapes of the nodes before alone.
    fields-same : (b a : ℕ) → good_run T (named_link T i) a b ≡ true → fields_from T f a b ≡ fields_from T g a b
    unfolding good_run fields_from
    fields-same zero a h = refl
    fields-same (suc b) a h =
        let q = both_true (named_link T i (link_of T a)) _ h in
        ap₂ (field (text_of T (link_of T a).name)) (same _ (named-below i (link_of T a) q.0).0) (fields-same b (suc a) q.1)

    -- So do the parameters.
    parameters-same : (b a : ℕ) → good_run T (bare_link T i) a b ≡ true → parameters_from T f a b ≡ parameters_from T g a b
    unfolding good_run parameters_from
    parameters-same zero a h = refl
    parameters-same (suc b) a h =
        let q = both_true (bare_link T i (link_of T a)) _ h in
        ap₂ parameter (same _ (bare-below i (link_of T a) q.0)) (parameters-same b (suc a) q.1)

    -- So does the child of each link without a name.
    child-same : (b a c : ℕ) → good_run T (bare_link T i) a b ≡ true → a ≤ c → c < a + b → f (link_of T c).target ≡ g (link_of T c).target
    child-same b a c h l k = same _ (bare-below i (link_of T c) (run_at (bare_link T i) b a c h l k))

    -- So does the shape of a good node.
    node-same : (n : Node) → Kept i n → node_shape T f n ≡ node_shape T g n
    unfolding node_shape
    node-same n (prim_node p) = rw (lt-ltb (code p) array_kind (code-small p))
    node-same n (array_node a h) = ap array_of (child-same 1 a a h (omega arith) (omega arith))
    node-same n (map_node a h) = ap₂ map_of (child-same 2 a a h (omega arith) (omega arith)) (child-same 2 a (suc a) h (omega arith) (omega arith))
    node-same n (record_node a b h) = ap record_of (fields-same b a h)
    node-same n (function_node a b h) = rw (one_less b) (ap₂ function_of (parameters-same b a (run-front _ b a h)) (child-same (suc b) a (a + b) h (omega arith) (omega arith)))
    node-same n (symbol_node a b h) = refl
    node-same n (variable_node a) = refl

  module _ (i : ℕ) (child : ℕ → Shape) (right : (j : ℕ) → j < i → Stands T (child j) j × Proper (child j)) (named : (k : ℕ) → k < length T.names → utf8 (text_of T k) ≡ true) where
    -- The fields of good links stand there, as many as there are links, and are proper.
    fields-stand : (b a : ℕ) → good_run T (named_link T i) a b ≡ true → Stands T (fields_from T child a b) a × Proper (fields_from T child a b) × (count (fields_from T child a b) ≡ b)
    unfolding good_run fields_from Stands Proper count
    fields-stand zero a h = (tt, tt, refl)
    fields-stand (suc b) a h =
        let q = both_true (named_link T i (link_of T a)) _ h in
        let l = named-below i (link_of T a) q.0 in
        let c = right _ l.0 in
        let r = fields-stand b (suc a) q.1 in
        ((refl, c.0, r.0), (named _ l.1, c.1, r.1), ap suc r.2)

    -- So do the parameters.
    parameters-stand : (b a : ℕ) → good_run T (bare_link T i) a b ≡ true → Stands T (parameters_from T child a b) a × Proper (parameters_from T child a b) × (count (parameters_from T child a b) ≡ b)
    unfolding good_run parameters_from Stands Proper count
    parameters-stand zero a h = (tt, tt, refl)
    parameters-stand (suc b) a h =
        let q = both_true (bare_link T i (link_of T a)) _ h in
        let c = right _ (bare-below i (link_of T a) q.0) in
        let r = parameters-stand b (suc a) q.1 in
        ((c.0, r.0), (c.1, r.1), ap suc r.2)

    -- So do the texts.
    texts-stand : (b a : ℕ) → good_run T (text_link T) a b ≡ true → StandsTexts T (texts_from T a b) a × ProperTexts (texts_from T a b) × (length (texts_from T a b) ≡ b)
    unfolding good_run texts_from StandsTexts ProperTexts
    texts-stand zero a h = (tt, tt, refl)
    texts-stand (suc b) a h =
        let q = both_true (text_link T (link_of T a)) _ h in
        let l = (both_true (eqb (link_of T a).target 0) _ q.0).1 in
        let r = texts-stand b (suc a) q.1 in
        ((refl, r.0), (named _ (ltb-true _ _ l), r.1), ap suc r.2)

    -- The child of each link without a name stands there, and is proper.
    child-stands : (b a c : ℕ) → good_run T (bare_link T i) a b ≡ true → a ≤ c → c < a + b → Stands T (child (link_of T c).target) (link_of T c).target × Proper (child (link_of T c).target)
    child-stands b a c h l k = right _ (bare-below i (link_of T c) (run_at (bare_link T i) b a c h l k))

    -- A good node stands for its shape, which is proper.
    node-stands : (n : Node) → node_of T i ≡ n → n.a < 65536 → Kept i n → Stands T (node_shape T child n) i × Proper (node_shape T child n)
    unfolding node_shape Stands Proper
    node-stands n e s (prim_node p) = rw (lt-ltb (code p) array_kind (code-small p), prim-code p) (e, tt)
    node-stands n e s (array_node a h) = let c = child-stands 1 a a h (omega arith) (omega arith) in ((a, e, c.0), c.1)
    node-stands n e s (map_node a h) =
        let c = child-stands 2 a a h (omega arith) (omega arith) in
        let d = child-stands 2 a (suc a) h (omega arith) (omega arith) in
        ((a, e, c.0, d.0), (c.1, d.1))
    node-stands n e s (record_node a b h) =
        let r = fields-stand b a h in
        ((a, rw r.2 e, r.0), r.1)
    node-stands n e s (function_node a b h) =
        let r = parameters-stand b a (run-front (bare_link T i) b a h) in
        let c = child-stands (suc b) a (a + b) h (omega arith) (omega arith) in
        rw (one_less b) ((a, rw r.2 e, r.0, rw r.2 c.0), (r.1, c.1))
    node-stands n e s (symbol_node a b h) =
        let r = texts-stand b a h in
        ((a, rw r.2 e, r.0), r.1)
    node-stands n e s (variable_node a) = (e, s)

  -- the shapes of the children, where there are at most n nodes below
  abbrev child_in : ℕ → ℕ → Shape
  child_in zero = λ j. blank 0
  child_in (suc n) = shape_in T n

  -- The shape of a node is made of its children's.
  shape-in : (n i : ℕ) → shape_in T n i ≡ node_shape T (child_in n) (node_of T i)
  unfolding shape_in
  shape-in zero i = refl
  shape-in (suc n) i = refl

  -- The texts that links stand for are those that they name.
  texts-built : (ts : List Text) (a : ℕ) → StandsTexts T ts a → texts_from T a (length ts) ≡ ts
  unfolding StandsTexts texts_from
  texts-built [] a h = refl
  texts-built (t ∷ ts) a h = ap₂ ◌∷◌ h.0 (texts-built ts (suc a) h.1)

  -- the tree of a sort at i, of so many links where it is a list
  abbrev tree_in : (s : Sort) → ℕ → ℕ → ℕ → Tree s
  tree_in shape n b i = child_in n i
  tree_in fields n b i = fields_from T (child_in n) i b
  tree_in parameters n b i = parameters_from T (child_in n) i b

  -- The shape of a node of which one knows what it is.
  node-built : (n i k a b : ℕ) → node_of T i ≡ node k a b → shape_in T n i ≡ node_shape T (child_in n) (node k a b)
  node-built n i k a b e = shape-in n i ∙ ap (node_shape T (child_in n)) e

  -- What a node or links stand for is what is made of them, where there are levels enough.
  built : {s : Sort} (t : Tree s) (n i : ℕ) → depth t ≤ n → Stands T t i → tree_in s n (count t) i ≡ t
  unfolding Stands depth count node_shape fields_from parameters_from
  built (prim p) zero i d h = absurd (omega arith)
  built (prim p) (suc n) i d h = node-built n i (code p) 0 0 h ∙ rw (lt-ltb (code p) array_kind (code-small p), prim-code p)
  built (blank m) zero i d h = absurd (omega arith)
  built (blank m) (suc n) i d h = node-built n i variable_kind m 0 h
  built (array_of s) zero i d h = absurd (omega arith)
  built (array_of s) (suc n) i d h = node-built n i array_kind h.0 1 h.1 ∙ ap array_of (built s n _ (omega arith) h.2)
  built (map_of s t) zero i d h = absurd (omega arith)
  built (map_of s t) (suc n) i d h = node-built n i map_kind h.0 2 h.1 ∙ ap₂ map_of (built s n _ (omega arith) h.2) (built t n _ (omega arith) h.3)
  built (record_of f) zero i d h = absurd (omega arith)
  built (record_of f) (suc n) i d h = node-built n i record_kind h.0 (count f) h.1 ∙ ap record_of (built f n h.0 (omega arith) h.2)
  built (function_of p r) zero i d h = absurd (omega arith)
  built (function_of p r) (suc n) i d h = node-built n i function_kind h.0 (suc (count p)) h.1 ∙ rw (one_less (count p)) (ap₂ function_of (built p n h.0 (omega arith) h.2) (built r n _ (omega arith) h.3))
  built (symbol_of ts) zero i d h = absurd (omega arith)
  built (symbol_of ts) (suc n) i d h = node-built n i symbol_kind h.0 (length ts) h.1 ∙ ap symbol_of (texts-built ts h.0 h.2)
  built no_fields n i d h = refl
  built (field m s f) n i d h = rw (h.0, built s n _ (omega arith) h.1, built f n (suc i) (omega arith) h.2)
  built no_parameters n i d h = refl
  built (parameter s p) n i d h = ap₂ parameter (built s n _ (omega arith) h.0) (built p n (suc i) (omega arith) h.1)

  module _ (w : TableWithin T) where
    -- Every node of a table within the limits is good.
    pub node-good : (i : ℕ) → i < length T.nodes → good_node T i (node_of T i) ≡ true
    node-good i l = rw zero-add at (node-from T.nodes 0 i w.nodes_good l)

    -- Every name of it is UTF-8.
    pub name-good : (k : ℕ) → k < length T.names → utf8 (text_of T k) ≡ true
    name-good k l = rw zero-add at (name-from T.names 0 k w.names_good l)

    -- Where the children are the same, so is the node.
    step_same : (m n i : ℕ) → i < length T.nodes → ((j : ℕ) → j < i → child_in m j ≡ child_in n j) → shape_in T m i ≡ shape_in T n i
    step_same m n i l same = shape-in m i ∙ node-same i (child_in m) (child_in n) same (node_of T i) (kept i (node_of T i) (node-good i l)) ∙ sym (shape-in n i)

    -- The shape of a node is the same, however many nodes below are allowed, if there are enough.
    shape_same : (m n i : ℕ) → i ≤ m → i ≤ n → i < length T.nodes → shape_in T m i ≡ shape_in T n i
    shape_same zero n i p q l = step_same zero n i l λ j k. absurd (omega arith)
    shape_same (suc m) zero i p q l = step_same (suc m) zero i l λ j k. absurd (omega arith)
    shape_same (suc m) (suc n) i p q l = step_same (suc m) (suc n) i l λ j k. shape_same m n j (omega arith) (omega arith) (omega arith)

    -- Targets are smaller than the node's own index, so i nodes below node i are enough.
    pub shape-enough : (n i : ℕ) → i ≤ n → i < length T.nodes → shape_in T n i ≡ shape_of T i
    shape-enough n i p l = shape_same n i i p (omega arith) l

    -- A node stands for its shape where its children do.
    step-stands : (n i : ℕ) → i < length T.nodes → ((j : ℕ) → j < i → Stands T (child_in n j) j × Proper (child_in n j)) → Stands T (shape_in T n i) i × Proper (shape_in T n i)
    step-stands n i l right = rw (shape-in n i) (node-stands i (child_in n) right name-good (node_of T i) refl (node-fits T.nodes i w.nodes_fit) (kept i (node_of T i) (node-good i l)))

    -- So every node stands for its shape.
    stands-in : (n i : ℕ) → i ≤ n → i < length T.nodes → Stands T (shape_in T n i) i × Proper (shape_in T n i)
    stands-in zero i p l = step-stands zero i l λ j k. absurd (omega arith)
    stands-in (suc n) i p l = step-stands (suc n) i l λ j k. stands-in n j (omega arith) (omega arith)

    -- A node stands for its shape, and for no other.
    pub one-shape : (i : ℕ) → i < length T.nodes → Stands T (shape_of T i) i × ((t : Shape) → Stands T t i → t ≡ shape_of T i)
    one-shape i l = ((stands-in i i (omega arith) l).0, λ t h. sym (built t (suc (max i (depth t))) i (omega arith) h) ∙ shape-enough (max i (depth t)) i (omega arith) l)

    -- The shape of a node is proper.
    pub table-proper : (i : ℕ) → i < length T.nodes → Proper (shape_of T i)
    table-proper i l = (stands-in i i (omega arith) l).1
