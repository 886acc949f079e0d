-- `turns::shape_turn` meets its contract.
use mathlib.Core.Path.{refl, sym, ◌∙◌}
use native.Mathlib.Omega.{arith}
use Rattle.byte_steps.specs.declared.modes.Mode.TheVariants.{Head}
use Rattle.byte_steps.specs.Automaton.{taken}
use Rattle.items.proofs.Fronts.{run-window, shape-window}
use Rattle.turns.proofs.Leading.{byte-leads, items-leads, shape-leads, bare-mode}
use Rattle.turns.proofs.shape_turn.Goals as goal

pub returns-then-t-run : goal.returns-then-t-run
returns-then-t-run c = rw c.ran.ensures
    (items-leads c.window_end-end.ensures (omega arith) Head c.items_run-run.result (bare-mode c.args.t.top.items (sym c.is_bare.ensures ∙ c.if-is_bare.true)) refl (omega arith) (run-window c.args.s.now c.window_end-end.result c.window_end-end.ensures.within c.window_end-end.ensures.from (rw c.run.ensures at c.items_run-run.ensures)) (omega arith))

pub returns-in-Ok : goal.returns-in-Ok
returns-in-Ok c = rw c.after_child.ensures (shape-leads c.window_end-end-then-n-gt0.ensures (omega arith) c.in-Ok.item c.requires.2 (shape-window c.args.s.now c.window_end-end-then-n-gt0.result c.window_end-end-then-n-gt0.ensures.within _ _ _ _ (rw c.in-Ok.is at c.shape_item.ensures)))

pub returns : goal.returns
unfolding taken
returns c = rw (c.took.ensures, c.first_taken.ensures) (byte-leads refl (omega arith) (omega arith) (omega arith))
