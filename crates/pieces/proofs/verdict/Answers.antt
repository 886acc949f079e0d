-- `pieces::verdict` meets its contract.
use Prim.Native.Nat.{ℕ}
use mathlib.Core.Path.{◌≡◌, refl}
use mathlib.Core.List.{List, [], ◌∷◌}
use borrow.Author.Tests.{lt-ltb, le-ltb}
use denote.Enum.Declared.{tag_of}
use types.Run.{OneOf, miss}
use borrow.Enum.Refused.{opened}
use Rattle.meaning.specs.Refusals.{cut_short}
use Rattle.reader.specs.Walk.{stopped}
use Rattle.byte_steps.specs.declared.modes.Mode.{Mode}
use Rattle.byte_steps.specs.declared.modes.Mode.TheVariants.{Head, SizeLow, SizeHigh, Opening, Count, CountMore, Length, LengthMore, Letters, BlankLow, BlankHigh, Between, Done, Faulty}
use Rattle.byte_steps.specs.Automaton.{verdict}
use Rattle.byte_steps.specs.contracts.modes.Mode.{the_type}
use Rattle.pieces.proofs.verdict.Goals as goal

-- the numbers of the variants that the last arm takes
abbrev others : List ℕ
others = 0 ∷ 1 ∷ 2 ∷ 3 ∷ 4 ∷ 5 ∷ 6 ∷ 7 ∷ 8 ∷ 9 ∷ 10 ∷ 11 ∷ []

-- in each of these modes a byte is missing
missing : (m : Mode) (count whole deepest : ℕ) → OneOf others (tag_of the_type m) → verdict m count whole deepest ≡ stopped cut_short 0
unfolding verdict
missing Head count whole deepest k = refl
missing (SizeLow kind from) count whole deepest k = refl
missing (SizeHigh kind from low) count whole deepest k = refl
missing (Opening kind from stop) count whole deepest k = refl
missing Count count whole deepest k = refl
missing (CountMore from low) count whole deepest k = refl
missing Length count whole deepest k = refl
missing (LengthMore from low) count whole deepest k = refl
missing (Letters from left m low high) count whole deepest k = refl
missing (BlankLow from) count whole deepest k = refl
missing (BlankHigh from low) count whole deepest k = refl
missing Between count whole deepest k = refl
missing Done count whole deepest k = absurd (miss others 12 (tt {0}) k)
missing (Faulty number place) count whole deepest k = absurd (miss others 13 (tt {0}) k)

pub returns-in_default : goal.returns-in_default
returns-in_default c = let a = c.args in rw (missing a.mode a.count a.whole a.deepest (opened c.in_default.in_default-own.keys3), c.refused-in_default.ensures)
