-- The table of a shape has what the shape adds, section by section.
--     grown              a table grows by what a shape adds
--     table-counts       how many entries the table of a shape has
--     table-sections     its bytes
--     table-needs        how many they are
--     table-few          each count of it can be said in two bytes
-- Assumes nothing.
use mathlib.Core.Path.{◌≡◌, refl, ap, ◌∙◌}
use mathlib.Core.List.{List, [], ◌∷◌, ◌++◌, append_assoc}
use Prim.Native.Nat.{ℕ, suc, ◌≤◌}
use native.Mathlib.Nat.{zero-add}
use native.Mathlib.Omega.{arith}
use lib.ListN.{length, length-append}
use Rattle.meaning.specs.Shape.{Sort, shape, fields, parameters, Tree, prim, blank, array_of, map_of, record_of, function_of, symbol_of, no_fields, field, no_parameters, parameter, Shape, count}
use Rattle.meaning.specs.FirstByte.{code}
use Rattle.meaning.specs.Encode.{text_bytes, texts_bytes, encode}
use Rattle.meaning.specs.Within.{Within}
use Rattle.meaning.specs.Parts.{field_names}
use Rattle.meaning.specs.Table.{Table, variable_kind, nodes_bytes, links_bytes, names_bytes, table_bytes, bare_links, named_links, text_links, grow, empty_table, table_of}
use Rattle.meaning.proofs.Complete.{leb-pos, array_long, map-long}
use Rattle.meaning.proofs.Lists.{fields-count, field-names}
use Rattle.meaning.proofs.TableBytes.{table-length}
use Rattle.meaning.proofs.TableSize.{made-within}
use Rattle.payloads.specs.declared.first.Kind.TheVariants.{Record, Function, Symbol}
use Rattle.counts.specs.declared.Counts.{Counts}
use Rattle.counts.specs.declared.Section.TheVariants.{Nodes, Links, Names, Text}
use Rattle.counts.specs.Pieces.{Few, Gathered, no_items, with_item, table_size, sections}
use Rattle.counts.proofs.OfShapes.{with_texts, piece_of}
use Rattle.counts.proofs.Gathers.{counts_of, Grows-by, Gathers, gathers-none, gathers-item, gathers-text, Listed, listed-none, named_more, bare-more, bare-last, text-more, list-grows, leaf-grows}

-- Texts are gathered.
texts-listed : (ts : List (List ℕ)) → length (texts_bytes ts) ≤ 16384 → {T : Table} {a : Gathered} → Gathers T T a → Listed Symbol T a T (with_texts ts a) (length ts) (λ k. text_links k ts) ts
unfolding with_texts texts_bytes text_links
texts-listed [] h g = listed-none g
texts-listed (t ∷ ts) h g =
    let l = simp length-append at h in
    text-more t (omega (arith, leb-pos (length t))) g (texts-listed ts (omega arith) (gathers-text _ g))

-- a table grows by what a shape adds; fields and parameters are gathered, after items that were gathered before, parameters with the return after
-- them
abbrev Adds : (k : Sort) → Tree k → Type 0
Adds shape s = (T : Table) → Grows-by T (grow s T) (piece_of s)
Adds fields f = (T D : Table) (a : Gathered) → Gathers T D a → Listed Record T a (grow f D).table (piece_of f a) (count f) (λ k. named_links k (grow f D).roots) (field_names f)
Adds parameters p = (T D : Table) (a : Gathered) (r : Shape) → ((E : Table) → Grows-by E (grow r E) (piece_of r)) → Gathers T D a
    → Listed Function T a (grow r (grow p D).table).table (with_item (piece_of p a) [] (piece_of r)) (suc (count p)) (λ k. bare_links ((grow p D).roots ++ (grow r (grow p D).table).roots)) []

-- Every tree adds what is said.
adds : {k : Sort} (t : Tree k) → length (encode t) ≤ 16384 → Adds k t
unfolding grow piece_of encode count field_names bare_links named_links
adds (prim p) h = leaf-grows (code p) 0 0
adds (blank n) h = leaf-grows variable_kind n 0
adds (array_of s) h = λ T. list-grows (bare-last (refl, refl) (gathers-none T) (adds s (omega (arith, array_long s)) T)) refl
adds (map_of s t) h = λ T.
    let g = adds s (omega (arith, (map-long s t).0)) T in
    let h = adds t (omega (arith, (map-long s t).1)) (grow s T).table in
    list-grows (bare-more (grow t (grow s T).table).roots (refl, refl) (gathers-none T) g (bare-last (refl, refl) (gathers-item [] (gathers-none T) g) h)) refl
adds (record_of f) h = λ T. let l = simp length-append at h in list-grows (adds f (omega arith) T T no_items (gathers-none T)) (field-names f ∙ fields-count f)
adds (function_of p r) h = λ T. let l = simp length-append at h in list-grows (adds p (omega arith) T T no_items r (adds r (omega arith)) (gathers-none T)) refl
adds (symbol_of ts) h = λ T. let l = simp length-append at h in list-grows (texts-listed ts (omega arith) (gathers-none T)) refl
adds no_fields h = λ T D a g. listed-none g
adds (field n s f) h = λ T D a g.
    let l = simp length-append at h in
    let E = (grow s D).table in
    let e = adds s (omega arith) D in
    named_more n (grow f E).roots (omega (arith, leb-pos (length n))) g e (adds f (omega arith) T E (with_item a (text_bytes n) (piece_of s)) (gathers-item (text_bytes n) g e))
adds no_parameters h = λ T D a r c g. bare-last (refl, refl) g (c D)
adds (parameter s p) h = λ T D a r c g.
    let l = simp length-append at h in
    let E = (grow s D).table in
    let e = adds s (omega arith) D in
    rw (append_assoc (grow s D).roots (grow p E).roots (grow r (grow p E).table).roots) (bare-more ((grow p E).roots ++ (grow r (grow p E).table).roots) (refl, refl) g e (adds p (omega arith) T E (with_item a [] (piece_of s)) r c (gathers-item [] g e)))

-- A table grows by what a shape adds.
pub grown : (t : Shape) → length (encode t) ≤ 16384 → (T : Table) → Grows-by T (grow t T) (piece_of t)
grown t h T = adds t h T

module _ (t : Shape) (h : length (encode t) ≤ 16384) where
  -- The table of a shape has as many entries as the shape adds.
  pub table-counts : counts_of (table_of t) ≡ (piece_of t).counts
  table-counts = (grown t h empty_table).counts ∙ simp zero-add

  -- Its bytes are the sections of what the shape adds.
  pub table-sections : table_bytes (table_of t) ≡ sections (piece_of t)
  unfolding table_bytes nodes_bytes links_bytes names_bytes
  table-sections =
      let g = (grown t h empty_table).bytes in
      rw (
        ap (λ (c : Counts). c.nodes) table-counts,
        ap (λ (c : Counts). c.links) table-counts,
        ap (λ (c : Counts). c.names) table-counts,
        ap (λ (c : Counts). c.text) table-counts,
        g Nodes,
        g Links,
        g Names,
        g Text,
      )

  -- So many are they.
  pub table-needs : length (table_bytes (table_of t)) ≡ table_size (piece_of t).counts
  table-needs = table-length (table_of t) ∙ rw (← table-counts) (omega arith)

-- Each count of it can be said in two bytes.
pub table-few : (t : Shape) → Within t → Few (piece_of t).counts
table-few t h =
    let w = made-within t h in
    rw (← table-counts t (omega (arith, h.short))) (omega arith, omega arith, omega arith, omega arith)
