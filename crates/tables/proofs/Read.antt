-- What reading a table in parts means, from what the code finds out.
--     read-section, read-node, read-name, read-made     each refusal, and the table
--     passed                                            what a table that is not refused has
-- Assumes nothing.
use Prim.Native.Nat.{ℕ, ◌+◌, ◌*◌, ◌-◌, ◌≤◌}
use mathlib.Core.Path.{◌≡◌, ◌∙◌}
use mathlib.Core.List.{List, []}
use native.Mathlib.Omega.{arith}
use lib.ListN.{length}
use Rattle.std.specs.Prelude.{Ok, Err, Some, None}
use Rattle.meaning.specs.Limits.{max_nodes}
use Rattle.meaning.specs.Reading.{got, bad}
use Rattle.meaning.specs.Refusals.{section_broken, node_broken, name_broken}
use Rattle.meaning.specs.TableReading.{node_size, links_place, read_table}
use Rattle.tables.specs.Places.{layout, broken, text_place, layout_at, whole, table_in, first_bad_node, first_bad_name, found_below, Sound}
use Rattle.tables.proofs.Turns.{node-within, name-within, found-some, found-none}
use Rattle.tables.proofs.Whole.{layout-fits, sections-broken, sections-laid, nodes-checked, names-checked, all_names}

module _ (nodes rest : List ℕ) (count : ℕ) (six : length nodes ≡ node_size * count) (some : 1 ≤ count) (few : count ≤ max_nodes) where
  -- A broken section after the nodes, or bytes left over, are refused at their place.
  pub read-section : {p : ℕ} → layout_at rest ≡ Err (broken p) → read_table (whole count nodes rest) ≡ bad section_broken (links_place count + p)
  read-section {p} h = sections-broken nodes rest count six some few p h

  -- l links, m names and c bytes of text
  module _ {l m c : ℕ} (laid : layout_at rest ≡ Ok (layout l m c)) where
    -- A broken node is refused.
    pub read-node : {node : ℕ} → found_below count (first_bad_node nodes rest l m count 0) ≡ Some node → read_table (whole count nodes rest) ≡ bad node_broken node
    read-node h =
        let f = found-some count (first_bad_node nodes rest l m count 0) _ h in
        rw (f.0, sections-laid nodes rest count six some few l m c laid, (nodes-checked nodes rest count l m six).0 (rw f.0 at f.1))

    -- no node is broken
    module _ (good : found_below count (first_bad_node nodes rest l m count 0) ≡ None) where
      -- The names are looked at.
      names-next : read_table (whole count nodes rest) ≡ all_names (table_in nodes rest count l m)
      names-next = sections-laid nodes rest count six some few l m c laid ∙ (nodes-checked nodes rest count l m six).1 (found-none count _ good)

      -- A broken name is refused.
      pub read-name : {name : ℕ} → found_below m (first_bad_name rest l m c m 0) ≡ Some name → read_table (whole count nodes rest) ≡ bad name_broken name
      read-name h =
          let f = found-some m (first_bad_name rest l m c m 0) _ h in
          rw (f.0, names-next, (names-checked nodes rest count l m (layout-fits rest l m c laid)).0 (rw f.0 at f.1))

      -- no name is broken
      module _ (named : found_below m (first_bad_name rest l m c m 0) ≡ None) where
        -- A table that is not refused has passed its checks.
        pub passed : Sound nodes rest count l m
        passed =
            let f = layout-fits rest l m c laid in
            let z : length rest - text_place l m ≡ c = omega (arith, f.ends) in
            record {
              whole = six;
              some = some;
              few = few;
              fits = rw z f;
              nodes_good = omega (arith, found-none count _ good, node-within nodes rest l m count 0);
              names_good = rw z (omega (arith, found-none m _ named, name-within rest l m c m 0));
            }

        -- It is read.
        pub read-made : read_table (whole count nodes rest) ≡ got (table_in nodes rest count l m) []
        read-made = names-next ∙ (names-checked nodes rest count l m (layout-fits rest l m c laid)).1 (found-none m _ named)
