-- What the links of a good node say, kind by kind.
--     cases, clash, and_left, and_right                 tests that hold and fail
--     bare-below, named-below                           the target of a good link stands before its node
--     named-inside, text-inside                         its name is there
--     first_good, others-good                           the first link of a good run, and the others
--     array-has, map-has, record-has, function-has, symbol-has     the links of a good node, by its kind
--     link-room, links-room                             a good link and its target are there
--     every-good                                        where no node is broken, each is good
-- Assumes nothing.
use mathlib.Core.Path.{◌≡◌, refl, sym, ◌∙◌}
use mathlib.Core.Bool.{Bool, true, false, ◌&&◌}
use mathlib.Core.List.{List}
use Prim.Native.Nat.{ℕ, zero, suc, ◌+◌, ◌*◌, ◌-◌, ◌≤◌, ◌<◌}
use native.Mathlib.Numerals.{add-one}
use native.Mathlib.Omega.{arith}
use lib.Dec.{ltb, leb, eqb}
use lib.ListN.{length}
use borrow.Author.Tests.{ltb-true, ltb-false, leb-true, eqb-true, eqb-false}
use Rattle.meaning.specs.Limits.{max_nodes, max_links}
use Rattle.meaning.specs.TableReading.{node_size}
use Rattle.meaning.specs.Table.{Node, Link, array_kind, map_kind, record_kind, function_kind, symbol_kind}
use Rattle.tables.specs.declared.Way.{Way}
use Rattle.tables.specs.declared.Way.TheVariants.{Bare, Named, Texts}
use Rattle.tables.specs.Places.{link_place, name_place, node_at, link_at, Aimed, good_by, good_from, good_span, good_at, first_bad_node}
use Rattle.tables.proofs.ByKind.{at_second, at-array, at_map, at-record, at-function, at_symbol}

-- A test holds or fails.
pub cases : {X : Type 0} (t : Bool) → (t ≡ true → X) → (t ≡ false → X) → X
cases true f g = f refl
cases false f g = g refl

-- A test does not both fail and hold.
pub clash : {X : Type 0} → false ≡ true → X
clash h = let z : ◌≡◌ {A = ℕ} 0 1 = cc in absurd (omega arith)

-- Where two tests hold, the first does.
pub and_left : (t u : Bool) → (t && u) ≡ true → t ≡ true
and_left true u h = refl
and_left false u h = h

-- So does the second.
pub and_right : (t u : Bool) → (t && u) ≡ true → u ≡ true
and_right true u h = h
and_right false u h = clash h

module _ (i names : ℕ) (l : Link) where
  -- The target of a good link without a name stands before its node.
  pub bare-below : good_by Bare i names l ≡ true → l.target < i
  bare-below h = ltb-true l.target i (and_left _ (eqb l.name 0) h)

  -- So does that of one with a name.
  pub named-below : good_by Named i names l ≡ true → l.target < i
  named-below h = ltb-true l.target i (and_left _ (ltb l.name names) h)

  -- The name of a good link with a name is there.
  pub named-inside : good_by Named i names l ≡ true → l.name < names
  named-inside h = ltb-true l.name names (and_right (ltb l.target i) _ h)

  -- So is the text of a Symbol's.
  pub text-inside : good_by Texts i names l ≡ true → l.name < names
  text-inside h = ltb-true l.name names (and_right (eqb l.target 0) _ h)

-- The first link of a good run is good.
pub first_good : (rest : List ℕ) (way : Way) (i names x due : ℕ) → 0 < due → good_from rest way i names x due ≡ true → good_by way i names (link_at rest x) ≡ true
unfolding good_from
first_good rest way i names x zero h g = absurd (omega arith)
first_good rest way i names x (suc due) h g = and_left _ (good_from rest way i names (suc x) due) g

-- So are the others.
pub others-good : (rest : List ℕ) (way : Way) (i names x due : ℕ) → 0 < due → good_from rest way i names x due ≡ true → good_from rest way i names (x + 1) (due - 1) ≡ true
unfolding good_from
others-good rest way i names x zero h g = absurd (omega arith)
others-good rest way i names x (suc due) h g =
    let z : suc due - 1 ≡ due = omega arith in
    rw (add-one, z) (and_right (good_by way i names (link_at rest x)) _ g)

-- what the links of a node have: they are there and good
pub record Linked (rest : List ℕ) (way : Way) (i links names : ℕ) (n : Node) : Type 0 where
  pub inside : n.a + n.b ≤ links
  pub good : good_from rest way i names n.a n.b ≡ true

-- A span that is good has both.
span-has : (rest : List ℕ) (way : Way) (i links names : ℕ) (n : Node) → good_span rest way i links names n.a n.b ≡ true → Linked rest way i links names n
unfolding good_span
span-has rest way i links names n h =
    cases (ltb links (n.a + n.b))
    (λ t. clash (rw t at h))
    (λ t. record { inside = ltb-false _ _ t; good = rw t at h })

module _ (rest : List ℕ) (links names i : ℕ) (n : Node) (g : good_at rest links names i n ≡ true) where
  -- The second byte of a good node is zero.
  no_second : n.second ≡ 0
  no_second =
      cases (eqb n.second 0)
      (λ t. eqb-true _ _ t)
      (λ t. clash (sym (at_second rest links names i n (eqb-false _ _ t)) ∙ g))

  -- A good Array has one link, there and good.
  pub array-has : n.kind ≡ array_kind → (n.b ≡ 1) × Linked rest Bare i links names n
  array-has k =
      let h = sym (at-array rest links names i n no_second k) ∙ g in
      (eqb-true _ _ (and_left _ (good_span rest Bare i links names n.a n.b) h), span-has rest Bare i links names n (and_right (eqb n.b 1) _ h))

  -- A good Map has two.
  pub map-has : n.kind ≡ map_kind → (n.b ≡ 2) × Linked rest Bare i links names n
  map-has k =
      let h = sym (at_map rest links names i n no_second k) ∙ g in
      (eqb-true _ _ (and_left _ (good_span rest Bare i links names n.a n.b) h), span-has rest Bare i links names n (and_right (eqb n.b 2) _ h))

  -- A good Record has good links with names.
  pub record-has : n.kind ≡ record_kind → Linked rest Named i links names n
  record-has k = span-has rest Named i links names n (sym (at-record rest links names i n no_second k) ∙ g)

  -- A good Function has one good link at least.
  pub function-has : n.kind ≡ function_kind → (1 ≤ n.b) × Linked rest Bare i links names n
  function-has k =
      let h = sym (at-function rest links names i n no_second k) ∙ g in
      (leb-true _ _ (and_left _ (good_span rest Bare i links names n.a n.b) h), span-has rest Bare i links names n (and_right (leb 1 n.b) _ h))

  -- A good Symbol has good links to texts.
  pub symbol-has : n.kind ≡ symbol_kind → Linked rest Texts i links names n
  symbol-has k = span-has rest Texts i links names n (sym (at_symbol rest links names i n no_second k) ∙ g)

module _ (nodes rest : List ℕ) (links names i x due : ℕ) (l : links ≤ max_links) (r : name_place links names ≤ length rest) (m : i < max_nodes) (f : node_size * i + node_size ≤ length nodes) where
  -- The first link of a good run is there, and so is its target.
  pub link-room : 0 < due → x + due ≤ links → good_from rest Bare i names x due ≡ true → (link_place x + 4 ≤ length rest) × (x < 65536) × Aimed nodes rest x
  link-room d e g = let h = bare-below i names (link_at rest x) (first_good rest Bare i names x due d g) in (omega arith, omega arith, (omega arith, omega arith))

-- So are the first two.
pub links-room : (nodes rest : List ℕ) (links names i x due : ℕ) → links ≤ max_links → name_place links names ≤ length rest → i < max_nodes → node_size * i + node_size ≤ length nodes → 1 < due → x + due ≤ links → good_from rest Bare i names x due ≡ true → (link_place (x + 1) + 4 ≤ length rest) × (x + 1 < 65536) × Aimed nodes rest x × Aimed nodes rest (x + 1)
links-room nodes rest links names i x due l r m f d e g =
    let h = link-room nodes rest links names i (x + 1) (due - 1) l r m f (omega arith) (omega arith) (others-good rest Bare i names x due (omega arith) g) in
    (h.0, h.1, (link-room nodes rest links names i x due l r m f (omega arith) e g).2, h.2)

module _ (nodes rest : List ℕ) (links names : ℕ) where
  -- Where none of c nodes from node i on is broken, each is good.
  all-good : (c i : ℕ) → first_bad_node nodes rest links names c i ≡ i + c → (j : ℕ) → i ≤ j → j < i + c → good_at rest links names j (node_at nodes j) ≡ true
  unfolding first_bad_node
  all-good zero i e j p q = absurd (omega arith)
  all-good (suc c) i e j p q =
      cases (good_at rest links names i (node_at nodes i))
      (λ t. cases (eqb i j)
      (λ u. let w : i ≡ j = eqb-true _ _ u in rw (← w) t)
      (λ u. let w = eqb-false i j u in
      all-good c (suc i) (let d : first_bad_node nodes rest links names c (suc i) ≡ i + suc c = rw t at e in omega (arith, d)) j (omega (arith, w)) (omega arith)))
      (λ t. let d : i ≡ i + suc c = rw t at e in absurd (omega arith))

  -- Where none of all is, each is.
  pub every-good : (count : ℕ) → first_bad_node nodes rest links names count 0 ≡ count → (j : ℕ) → j < count → good_at rest links names j (node_at nodes j) ≡ true
  every-good count e j h = all-good count 0 (omega (arith, e)) j (omega arith) (omega arith)
