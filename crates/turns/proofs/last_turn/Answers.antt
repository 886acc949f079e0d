-- `turns::last_turn` meets its contract.
use Prim.Native.Nat.{ℕ}
use mathlib.Core.Path.{◌≡◌, refl}
use mathlib.Core.Bool.{true}
use mathlib.Core.List.{List, [], ◌∷◌}
use native.Mathlib.Omega.{arith}
use denote.Enum.Declared.{tag_of}
use types.Run.{OneOf, miss}
use borrow.Enum.Refused.{opened}
use Rattle.byte_steps.specs.declared.modes.Mode.{Mode}
use Rattle.byte_steps.specs.declared.modes.Mode.TheVariants.{Head, SizeLow, SizeHigh, Opening, Count, CountMore, Length, LengthMore, Letters, BlankLow, BlankHigh, Between, Done, Faulty}
use Rattle.byte_steps.specs.contracts.modes.Mode.{the_type}
use Rattle.turns.specs.Moves.{resting}
use Rattle.turns.proofs.Leading.{between-leads, opening-leads, wait-leads}
use Rattle.turns.proofs.last_turn.Goals as goal

-- the numbers of the variants that the last arm takes
abbrev others : List ℕ
others = 0 ∷ 1 ∷ 2 ∷ 4 ∷ 5 ∷ 6 ∷ 7 ∷ 8 ∷ 9 ∷ 10 ∷ 12 ∷ 13 ∷ []

-- each of these modes waits for a byte
waiting : (m : Mode) → OneOf others (tag_of the_type m) → resting m ≡ true
waiting Head k = refl
waiting (SizeLow kind from) k = refl
waiting (SizeHigh kind from low) k = refl
waiting (Opening kind from stop) k = absurd (miss others 3 (tt {0}) k)
waiting Count k = refl
waiting (CountMore from low) k = refl
waiting Length k = refl
waiting (LengthMore from low) k = refl
waiting (Letters from left m low high) k = refl
waiting (BlankLow from) k = refl
waiting (BlankHigh from low) k = refl
waiting Between k = absurd (miss others 11 (tt {0}) k)
waiting Done k = refl
waiting (Faulty number place) k = refl

pub returns-in-Opening : goal.returns-in-Opening
returns-in-Opening c = let room = rw c.in-Opening.is at c.requires.2 in
    rw (c.in-Opening.is, c.moved.ensures) (opening-leads c.opening_moved.result (omega arith) _ _ _ room c.opening_moved.ensures)

pub returns-in-Between : goal.returns-in-Between
returns-in-Between c = rw (c.in-Between.is, c.moved-in-Between.ensures) (between-leads c.between_moved.result (omega arith) (omega arith) c.between_moved.ensures)

pub returns-in_default : goal.returns-in_default
returns-in_default c = rw c.waits.ensures (wait-leads (waiting c.args.t.mode (opened c.in_default.in_default-own.keys3)) (omega arith) c.requires.1 (omega arith))
