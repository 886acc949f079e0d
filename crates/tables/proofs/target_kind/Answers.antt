-- `tables::target_kind` meets its contract.
use native.Mathlib.Omega.{arith}
use mathlib.Core.Path.{◌≡◌, ap, ◌∙◌}
use Rattle.meaning.specs.Table as Meant
use Rattle.tables.specs.Places.{node_at, link_at}
use Rattle.tables.proofs.target_kind.Goals as goal

pub node_at-requires : goal.node_at-requires
node_at-requires c = let q : c.link_at.result.target ≡ (link_at c.args.rest.now c.args.x).target = ap (λ (l : Meant.Link). l.target) c.link_at.ensures in
    (omega (arith, c.requires.2.1), omega (arith, c.requires.2.0))

pub returns : goal.returns
returns c = ap (λ (m : Meant.Node). m.kind) c.node_at.ensures.is
    ∙ ap (λ (l : Meant.Link). (node_at c.args.nodes.now l.target).kind) c.link_at.ensures
