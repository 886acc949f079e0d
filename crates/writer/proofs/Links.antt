-- What is known of a node of a table that was read, and of its links.
--     node-formed, node-by-form     it has a form, which says its encoding
--     node-linked                   where it becomes a list, its links are good and its count is small
--     link-named                    the name of the first of good links is there
--     target-before                 its target stands before the node, where it stands for one
-- Assumes nothing.
use mathlib.Core.Path.{◌≡◌, sym, ◌∙◌, ap}
use mathlib.Core.Bool.{true}
use mathlib.Core.List.{List}
use mathlib.Core.Logic.{◌⊎◌, inl, inr}
use Prim.Native.Nat.{ℕ, ◌+◌, ◌*◌, ◌-◌, ◌≤◌, ◌<◌}
use native.Mathlib.Omega.{arith}
use lib.Dec.{ltb, eqb}
use lib.ListN.{length}
use Rattle.std.specs.Prelude.{Option, Some, None, IfSome}
use borrow.Author.Tests.{eqb-true}
use Rattle.meaning.specs.Table.{Node, Link, array_kind, map_kind, record_kind, function_kind, symbol_kind}
use Rattle.meaning.specs.TableReading.{node_size}
use Rattle.meaning.proofs.Rules.{rule}
use Rattle.payloads.specs.declared.first.Kind.{Kind}
use Rattle.payloads.specs.declared.first.Kind.TheVariants.{Array, Map, Record, Function, Symbol}
use Rattle.tables.specs.declared.Table.{Table}
use Rattle.tables.specs.declared.Way.{Way}
use Rattle.tables.specs.declared.Way.TheVariants.{Bare, Named, Texts}
use Rattle.tables.specs.Places.{text_place, node_at, link_at, target_kind, good_by, good_at}
use Rattle.extents.proofs.Sound as Good
use Rattle.extents.proofs.Sound.{bare-below, named-below, named-inside, text-inside, first_good, array-has, map-has, record-has, function-has, symbol-has, link-room, links-room, every-good}
use Rattle.extents.proofs.Shapes.{names-inside}
use Rattle.forms.specs.declared.Form.{Form}
use Rattle.forms.specs.declared.Form.TheVariants as form
use Rattle.forms.specs.Forms.{array_form, map_form, form_of}
use Rattle.writer.specs.Bytes.{form_bytes, encoded_at, node_bytes}
use Rattle.forms.specs.Forms.{HasName, NamedBy, Aims, Formed}
use Rattle.writer.specs.Sound.{Linked}
use Rattle.writer.proofs.Shapes.{node-encoded}

module _ (table : Table) where
  -- its parts
  abbrev nodes : List ℕ
  nodes = table.nodes.now

  abbrev rest : List ℕ
  rest = table.rest.now

  abbrev links : ℕ
  links = table.links

  abbrev names : ℕ
  names = table.names

  -- The sections before the text are there.
  front : text_place links names ≤ length rest
  front = omega (arith, table.sound.fits.ends)

  module _ (i : ℕ) (below : i < table.count) where
    -- The bytes of a node are there.
    there : node_size * i + node_size ≤ length nodes
    there = omega (arith, table.sound.whole)

    module _ (n : Node) (is : n ≡ node_at nodes i) where
      -- The node is good.
      good : good_at rest links names i n ≡ true
      good = rw is (every-good nodes rest links names table.count table.sound.nodes_good i below)

      -- The target of an Array is there.
      array-aims : n.kind ≡ array_kind → Aims nodes rest n.a
      array-aims k =
          let h = array-has rest links names i n good k in
          let r = link-room nodes rest links names i n.a n.b table.sound.fits.links_few (omega (arith, front)) (omega (arith, table.sound.few)) there (omega (arith, h.0)) h.1.inside h.1.good in
          record { here = r.0; small = r.1; aimed = r.2 }

      -- So are the two of a Map.
      map-aims : n.kind ≡ map_kind → Aims nodes rest n.a × Aims nodes rest (n.a + 1)
      map-aims k =
          let h = map-has rest links names i n good k in
          let r = links-room nodes rest links names i n.a n.b table.sound.fits.links_few (omega (arith, front)) (omega (arith, table.sound.few)) there (omega (arith, h.0)) h.1.inside h.1.good in
          (record { here = omega (arith, r.0); small = omega (arith, r.1); aimed = r.2 }, record { here = r.0; small = r.1; aimed = r.3 })

      -- So the node has a form.
      pub node-formed : Formed nodes rest n
      node-formed = (array-aims, map-aims, λ k. (function-has rest links names i n good k).0)

      -- Its encoding is what the form says.
      pub node-by-form : (f : Form) → form_of nodes rest n ≡ f → encoded_at table i ≡ form_bytes (encoded_at table) rest links names f n.a n.b
      node-by-form f e =
          node-encoded table i below
          ∙ ap (node_bytes table) (sym is)
          ∙ ap (λ (g : Form). form_bytes (encoded_at table) rest links names g n.a n.b) e

      module _ (kind : Kind) (way : Way) (c : Option ℕ) where
        -- what is known of a list: its links are good, and its count is small
        abbrev Lists : Way → Option ℕ → Type 0
        Lists v d = Linked table v i n.a n.b × IfSome d (λ k. k < 16384)

        -- A list that has good links keeps them by other words.
        same : (k : Kind) (v : Way) (d : Option ℕ) → Good.Linked rest v i links names n → (n.b < 16384 → IfSome d (λ k. k < 16384)) → form.List k v d ≡ form.List kind way c → Lists way c
        same k v d h few e =
            let p : v ≡ way = cc in
            let q : d ≡ c = cc in
            rw (← p, ← q) (record { below = omega arith; inside = h.inside; good = h.good }, few (omega (arith, h.inside, table.sound.fits.links_few)))

        -- One byte is no list.
        byte-not : {b : ℕ} → form.Byte b ≡ form.List kind way c → Lists way c
        byte-not e = let z : ◌≡◌ {A = ℕ} 0 1 = cc in absurd (omega arith)

        -- Neither is a blank.
        blank-not : form.Blank ≡ form.List kind way c → Lists way c
        blank-not e = let z : ◌≡◌ {A = ℕ} 0 1 = cc in absurd (omega arith)

        -- Where the node becomes a list, its links are good, and its count is small.
        pub node-linked : form_of nodes rest n ≡ form.List kind way c → Lists way c
        unfolding form_of array_form map_form
        node-linked =
            rule P (ltb n.kind array_kind) _ _ (λ _. byte-not) λ _.
            rule P (eqb n.kind array_kind) _ _ (λ t.
            rule P (ltb (target_kind nodes rest n.a) array_kind) _ _ (λ _. byte-not) λ _.
            same Array Bare None (array-has rest links names i n good (eqb-true _ _ t)).1 (λ _. tt)) λ _.
            rule P (eqb n.kind map_kind) _ _ (λ t.
            let h = same Map Bare None (map-has rest links names i n good (eqb-true _ _ t)).1 (λ _. tt) in
            rule P (ltb (target_kind nodes rest n.a) array_kind) _ _ (λ _.
            rule P (ltb (target_kind nodes rest (n.a + 1)) array_kind) _ _ (λ _. byte-not) (λ _. h)) (λ _. h)) λ _.
            rule P (eqb n.kind record_kind) _ _ (λ t. same Record Named (Some n.b) (record-has rest links names i n good (eqb-true _ _ t)) (λ k. k)) λ _.
            rule P (eqb n.kind function_kind) _ _ (λ t. same Function Bare (Some (n.b - 1)) (function-has rest links names i n good (eqb-true _ _ t)).1 (λ k. omega arith)) λ _.
            rule P (eqb n.kind symbol_kind) _ _ (λ t. same Symbol Texts (Some n.b) (symbol-has rest links names i n good (eqb-true _ _ t)) (λ k. k)) λ _.
            blank-not
          where
            P : Form → Type 0
            P f = f ≡ form.List kind way c → Lists way c

  -- A name below the names' count is there, and its text.
  has-name : (k : ℕ) → k < names → HasName rest links names k
  has-name k h =
      let f = table.sound.fits in let l = names-inside rest links names (length rest - text_place links names) names 0 (omega (arith, table.sound.names_good)) k (omega arith) (omega arith) in
      record { links_few = f.links_few; names_few = f.names_few; below = h; sections = front; short = omega (arith, f.text_few); inside = omega (arith, front) }

  -- The name of a good link is there, where it has one.
  named : (way : Way) (i : ℕ) (l : Link) → good_by way i names l ≡ true → NamedBy rest links names way l.name
  named Bare i l g = tt
  named Named i l g = has-name l.name (named-inside i names l g)
  named Texts i l g = has-name l.name (text-inside i names l g)

  module _ (way : Way) (i x due : ℕ) (linked : Linked table way i x due) (pos : 0 < due) (l : Link) (is : l ≡ link_at rest x) where
    -- The first of good links is good.
    first : good_by way i names l ≡ true
    first = rw is (first_good rest way i names x due pos linked.good)

    -- So its name is there.
    pub link-named : NamedBy rest links names way l.name
    link-named = named way i l first

    -- Where it stands for its target, that stands before the node.
    pub target-before : (way ≡ Bare) ⊎ (way ≡ Named) → l.target < i
    target-before (inl w) = bare-below i names l (rw w at first)
    target-before (inr w) = named-below i names l (rw w at first)
