-- `turns::byte_turn` meets its contract.
use mathlib.Core.Path.{refl}
use mathlib.Core.Logic.{inl, inr}
use native.Mathlib.Omega.{arith}
use Rattle.byte_steps.specs.Automaton.{taken}
use Rattle.turns.proofs.Leading.{byte-leads, between-leads, opening-leads, skip-leads}
use Rattle.turns.proofs.byte_turn.Goals as goal

pub returns-in-SizeLow : goal.returns-in-SizeLow
unfolding taken
returns-in-SizeLow c = let room = rw c.in-SizeLow.is at c.requires.2 in rw c.in-SizeLow.is (byte-leads refl (omega arith) (omega arith) room)

pub returns-in-SizeHigh : goal.returns-in-SizeHigh
unfolding taken
returns-in-SizeHigh c = let room = rw c.in-SizeHigh.is at c.requires.2 in rw (c.in-SizeHigh.is, c.size_taken.ensures) (byte-leads refl (omega arith) (omega arith) room)

pub returns-in-Opening : goal.returns-in-Opening
returns-in-Opening c = let room = rw c.in-Opening.is at c.requires.2 in
    rw (c.in-Opening.is, c.moved.ensures) (opening-leads c.opening_moved.result (omega arith) _ _ _ room c.opening_moved.ensures)

pub returns-in-Count : goal.returns-in-Count
unfolding taken
returns-in-Count c = rw (c.in-Count.is, c.took.ensures, c.count_taken.ensures) (byte-leads refl (omega arith) (omega arith) (omega arith))

pub returns-in-CountMore : goal.returns-in-CountMore
unfolding taken
returns-in-CountMore c = rw (c.in-CountMore.is, c.took-in-CountMore.ensures, c.count_more.ensures) (byte-leads refl (omega arith) (omega arith) (omega arith))

pub returns-in-LengthMore : goal.returns-in-LengthMore
unfolding taken
returns-in-LengthMore c = rw (c.in-LengthMore.is, c.length_more.ensures) (byte-leads refl (omega arith) (omega arith) (omega arith))

pub returns-in-BlankLow : goal.returns-in-BlankLow
unfolding taken
returns-in-BlankLow c = rw c.in-BlankLow.is (byte-leads refl (omega arith) (omega arith) (omega arith))

pub returns-in-BlankHigh : goal.returns-in-BlankHigh
unfolding taken
returns-in-BlankHigh c = rw (c.in-BlankHigh.is, c.max.ensures, c.blank_taken.ensures) (byte-leads refl (omega arith) (omega arith) (omega arith))

pub returns-in-Between : goal.returns-in-Between
returns-in-Between c = rw (c.in-Between.is, c.moved-in-Between.ensures) (between-leads c.between_moved.result (omega arith) (omega arith) c.between_moved.ensures)

pub returns-in-Done : goal.returns-in-Done
returns-in-Done c = rw c.skipped.ensures (skip-leads (elim c.in-Done.is [ inl e ↦ rw e | inr e ↦ rw e.2 ]) (omega arith) (omega arith))
