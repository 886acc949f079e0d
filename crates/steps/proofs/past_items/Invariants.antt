-- `steps::past_items` meets its contract. The invariant: the place is the one after the items that are counted.
use mathlib.Core.Path.{◌≡◌}
use Rattle.steps.specs.Steps.{past_items}
use Rattle.steps.proofs.past_items.Given as goal

abbrev pub invariant-loop : goal.invariant-loop
invariant-loop l = l.at ≡ past_items l.s l.kind l.counter l.from
