-- `turns::letters_turn` meets its contract.
use mathlib.Core.Path.{refl}
use Prim.Native.Nat.{◌+◌}
use native.Mathlib.Omega.{arith}
use Rattle.byte_steps.specs.Automaton.{taken}
use Rattle.leaves.proofs.Fronts.{well-window}
use Rattle.turns.proofs.Leading.{byte-leads, well-le, letters-go, letters-end}
use Rattle.turns.proofs.letters_turn.Goals as goal
use Rattle.turns.proofs.letters_turn.Goals.{then-left-size, else-left-size}

pub overflow_cast-size : goal.overflow_cast-size
overflow_cast-size c = let e = well-window c.args.s.now _ (c.args.t.i + c.min.result) _ (omega arith) c.well_formed_to-to.ensures in let w = well-le c.args.s.now c.args.t.i (c.args.t.i + c.min.result) (omega arith) in omega arith

pub overflow_add-t-then-left-size : goal.overflow_add-t-then-left-size
overflow_add-t-then-left-size c = let e = well-window c.args.s.now _ (c.args.t.i + c.min.result) _ (omega arith) c.well_formed_to-to.ensures in let w = well-le c.args.s.now c.args.t.i (c.args.t.i + c.min.result) (omega arith) in omega arith

pub overflow_add-result : goal.overflow_add-result
overflow_add-result c = let e = well-window c.args.s.now _ (c.args.t.i + c.min.result) _ (omega arith) c.well_formed_to-to.ensures in let w = well-le c.args.s.now c.args.t.i (c.args.t.i + c.min.result) (omega arith) in omega arith

pub returns-then-t-to : goal.returns-then-t-to
returns-then-t-to c = let e = well-window c.args.s.now _ (c.args.t.i + c.min.result) _ (omega arith) c.well_formed_to-to.ensures in let w = well-le c.args.s.now c.args.t.i (c.args.t.i + c.min.result) (omega arith) in
    elim c.if-left-size.branch [
      | then-left-size v ↦ rw (v.mode-is, v.text_done-mode.ensures, c.if-more-eq0.true)
          (letters-end {end = c.args.t.i + c.min.result} (omega arith) (omega arith) (omega arith) (omega arith) (omega arith) e (omega arith) (omega arith))
      | else-left-size v ↦ rw (v.mode-is, c.if-more-eq0.true)
          (letters-go {end = c.args.t.i + c.min.result} (omega arith) (omega arith) (omega arith) (omega arith) (omega arith) e (omega arith) (omega arith))
    ]

pub returns : goal.returns
unfolding taken
returns c = rw (c.text_taken.ensures, c.char_taken-char.ensures) (byte-leads refl (omega arith) (omega arith) (omega arith))
