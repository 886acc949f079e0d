-- `turns::text_turn` meets its contract.
use mathlib.Core.Path.{refl, sym, ◌∙◌}
use native.Mathlib.Omega.{arith}
use Rattle.byte_steps.specs.declared.modes.Mode.TheVariants.{Length}
use Rattle.byte_steps.specs.Automaton.{taken}
use Rattle.items.proofs.Fronts.{run-window}
use Rattle.turns.proofs.Leading.{byte-leads, items-leads, named-mode}
use Rattle.turns.proofs.text_turn.Goals as goal

pub returns-then-t-run : goal.returns-then-t-run
returns-then-t-run c = rw c.ran.ensures
    (items-leads c.window_end-end.ensures (omega arith) Length c.items_run-run.result (named-mode c.args.t.top.items (sym c.is_named.ensures ∙ c.if-is_named.true)) refl (omega arith) (run-window c.args.s.now c.window_end-end.result c.window_end-end.ensures.within c.window_end-end.ensures.from (rw c.run.ensures at c.items_run-run.ensures)) (omega arith))

pub returns : goal.returns
unfolding taken
returns c = rw c.length_taken.ensures (byte-leads refl (omega arith) (omega arith) (omega arith))
