-- `tables::Table::read` meets its contract: the sections are looked at first, then the nodes, then the names.
use native.Mathlib.Omega.{arith}
use mathlib.Core.Path.{refl, sym}
use Rattle.tables.proofs.Whole.{layout-fits, layout-near}
use Rattle.tables.proofs.Read.{read-section, read-node, read-name, passed, read-made}
use Rattle.tables.proofs.Table.read.Goals as goal

pub overflow_add-result-in-Err : goal.overflow_add-result-in-Err
overflow_add-result-in-Err c = omega (arith, layout-near c.args.rest.now _ (sym c.in-Err.ensures), c.requires.2)

pub returns-in-Err : goal.returns-in-Err
returns-in-Err c = let a = c.args in let q = c.requires in
    read-section a.nodes.now a.rest.now a.count q.0 q.1 q.2 (sym c.in-Err.ensures)

pub bad_node-requires : goal.bad_node-requires
bad_node-requires c = let f = layout-fits c.args.rest.now _ _ _ (sym c.in-Ok.ensures) in
    (omega (arith, c.requires.0), c.requires.2, f.links_few, omega (arith, f.ends))

pub returns-in-Some : goal.returns-in-Some
returns-in-Some c = let a = c.args in let q = c.requires in
    read-node a.nodes.now a.rest.now a.count q.0 q.1 q.2 (sym c.in-Ok.ensures) (sym c.in-Some.ensures)

pub bad_name-requires : goal.bad_name-requires
bad_name-requires c = let f = layout-fits c.args.rest.now _ _ _ (sym c.in-Ok.ensures) in (f.links_few, omega (arith, f.names_few), f.text_few, omega (arith, f.ends))

pub returns-in-Some-bad_name : goal.returns-in-Some-bad_name
returns-in-Some-bad_name c = let a = c.args in let q = c.requires in
    read-name a.nodes.now a.rest.now a.count q.0 q.1 q.2 (sym c.in-Ok.ensures) (sym c.in_default.ensures) (sym c.in-Some-bad_name.ensures)

pub invariant_of-result : goal.invariant_of-result
invariant_of-result c = let a = c.args in let q = c.requires in
    record { sound = passed a.nodes.now a.rest.now a.count q.0 q.1 q.2 (sym c.in-Ok.ensures) (sym c.in_default.ensures) (sym c.in_default-bad_name.ensures) }

pub returns : goal.returns
returns c = let a = c.args in let q = c.requires in
    (refl, refl, refl, read-made a.nodes.now a.rest.now a.count q.0 q.1 q.2 (sym c.in-Ok.ensures) (sym c.in_default.ensures) (sym c.in_default-bad_name.ensures))
