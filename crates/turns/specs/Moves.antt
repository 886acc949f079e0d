-- NOT TO BE BELIEVED. What the code does without a byte, one level at a time.
use Rattle.std.specs.Prelude.{ℕ, ◌+◌, ◌-◌, max, Bool, true, false, ltb, eqb}
use Rattle.meaning.specs.Rules.{◌⇒◌∣◌}
use Rattle.meaning.specs.Refusals.{size_wrong, long_form}
use Rattle.payloads.specs.declared.first.Kind.{Kind}
use Rattle.payloads.specs.declared.first.Kind.TheVariants.{Array, Map, Record, Function, Symbol, Variable}
use Rattle.byte_steps.specs.declared.modes.Level.{Level}
use Rattle.byte_steps.specs.declared.modes.Mode.{Mode}
use Rattle.byte_steps.specs.declared.modes.Mode.TheVariants.{Head, SizeLow, SizeHigh, Opening, Count, CountMore, Length, LengthMore, Letters, BlankLow, BlankHigh, Between, Done, Faulty}
use Rattle.turns.specs.declared.moves.Act.{Act}
use Rattle.turns.specs.declared.moves.Act.TheVariants.{Stay, Push, Pop}
use Rattle.turns.specs.declared.moves.Moved.{Moved}
use Rattle.byte_steps.specs.Automaton.{plain, with_due, item_due, count_due, level_of}

abbrev pub moved : Mode → Level → ℕ → ℕ → Act → Moved
moved m l w d a = record { mode = m; top = l; whole = w; deepest = d; act = a }

unfoldable pub between_moved : Level → ℕ → ℕ → ℕ → ℕ → Moved
between_moved top n at whole deepest =
    eqb n 0 ⇒ moved Done top whole deepest Stay ∣ λ _.
    ltb 0 top.due ⇒ moved (item_due top.items top at) (with_due top (top.due - 1)) whole deepest Stay ∣ λ _.
    eqb at top.stop ⇒ (plain top.items ⇒ moved (Faulty long_form top.at) top whole deepest Stay ∣ λ _. moved Between top whole deepest Pop) ∣ λ _.
    moved (Faulty size_wrong top.at) top whole deepest Stay

unfoldable pub blank_due : ℕ → ℕ → ℕ → Mode
blank_due from stop at = eqb stop (at + 2) ⇒ BlankLow from ∣ λ _. Faulty size_wrong from

unfoldable pub opening_moved : Kind → ℕ → ℕ → Level → ℕ → ℕ → ℕ → ℕ → Moved
opening_moved Array from stop top n at whole deepest = moved Between (level_of Array from stop) (eqb n 0 ⇒ stop ∣ λ _. whole) (max deepest (n + 1)) Push
opening_moved Map from stop top n at whole deepest = moved Between (level_of Map from stop) (eqb n 0 ⇒ stop ∣ λ _. whole) (max deepest (n + 1)) Push
opening_moved Record from stop top n at whole deepest = moved (count_due stop at) (level_of Record from stop) (eqb n 0 ⇒ stop ∣ λ _. whole) (max deepest (n + 1)) Push
opening_moved Function from stop top n at whole deepest = moved (count_due stop at) (level_of Function from stop) (eqb n 0 ⇒ stop ∣ λ _. whole) (max deepest (n + 1)) Push
opening_moved Symbol from stop top n at whole deepest = moved (count_due stop at) (level_of Symbol from stop) (eqb n 0 ⇒ stop ∣ λ _. whole) (max deepest (n + 1)) Push
opening_moved Variable from stop top n at whole deepest = moved (blank_due from stop at) top (eqb n 0 ⇒ stop ∣ λ _. whole) deepest Stay

-- a state waits for a byte
abbrev pub resting : Mode → Bool
resting Head = true
resting (SizeLow kind from) = true
resting (SizeHigh kind from low) = true
resting (Opening kind from stop) = false
resting Count = true
resting (CountMore from low) = true
resting Length = true
resting (LengthMore from low) = true
resting (Letters from left m low high) = true
resting (BlankLow from) = true
resting (BlankHigh from low) = true
resting Between = false
resting Done = true
resting (Faulty number place) = true

-- a payload is about to open
abbrev pub sized : Mode → ℕ
sized Head = 0
sized (SizeLow kind from) = 1
sized (SizeHigh kind from low) = 1
sized (Opening kind from stop) = 1
sized Count = 0
sized (CountMore from low) = 0
sized Length = 0
sized (LengthMore from low) = 0
sized (Letters from left m low high) = 0
sized (BlankLow from) = 0
sized (BlankHigh from low) = 0
sized Between = 0
sized Done = 0
sized (Faulty number place) = 0
