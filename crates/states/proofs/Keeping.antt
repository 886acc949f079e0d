-- The state as numbers, and back.
--     stack_push                           the levels laid by, as entries
--     items-few, high-digits, level_in_lem     what items are, as digits
--     kinds-with                           a digit before those of the levels laid by
--     letters-in                           a text between two characters
-- Assumes nothing.
use mathlib.Core.Path.{◌≡◌, refl, ap}
use mathlib.Core.List.{List, [], ◌∷◌}
use Prim.Native.Nat.{ℕ, zero, suc, ◌+◌, ◌*◌, ◌/◌, ◌%◌, ◌≤◌, ◌<◌}
use native.Mathlib.Omega.{arith}
use lib.ListN.{length, set}
use lib.Seq.{get_or-set_same, get_or-set_other}
use Rattle.meaning.specs.Limits.{max_levels}
use Rattle.byte_steps.specs.declared.modes.Items.{Items}
use Rattle.byte_steps.specs.declared.modes.Items.TheVariants.{Plain, Bare, Fields, Texts}
use Rattle.byte_steps.specs.declared.modes.Level.{Level}
use Rattle.states.specs.declared.Entry.{Entry}
use Rattle.states.specs.declared.Word.{Word}
use Rattle.byte_steps.specs.declared.modes.Mode.TheVariants.{Letters}
use Rattle.byte_steps.specs.Automaton.{level}
use Rattle.states.specs.Kept.{items_number, items_of, entry_of, level_in, kinds_of, kinds_with, mode_in, mode_high, no_entry, stack_of}

-- the levels laid by
stack_same : (es : List Entry) (e : Entry) (kinds k n : ℕ) → n ≤ k → stack_of (set es k e) kinds n ≡ stack_of es kinds n
unfolding stack_of
stack_same es e kinds k zero h = refl
stack_same es e kinds k (suc n) h = rw (get_or-set_other es k n e no_entry (λ q. omega arith), stack_same es e (kinds / 4) k n (omega arith))

pub stack_push : (es : List Entry) (e : Entry) (kinds n : ℕ) → n < length es → stack_of (set es n e) kinds (suc n) ≡ level_in e kinds ∷ stack_of es (kinds / 4) n
unfolding stack_of
stack_push es e kinds n h = rw (get_or-set_same es n e no_entry h, stack_same es e (kinds / 4) n n (omega arith))

-- what items are, as digits
items-in : (i : Items) → items_of (items_number i) ≡ i
items-in Plain = refl
items-in Bare = refl
items-in Fields = refl
items-in Texts = refl

pub items-few : (i : Items) → items_number i < 4
items-few Plain = omega arith
items-few Bare = omega arith
items-few Fields = omega arith
items-few Texts = omega arith

low_digit : (kinds : ℕ) (i : Items) → (kinds * 4 + items_number i) % 4 ≡ items_number i
low_digit kinds i = omega (arith, items-few i)

pub high-digits : (kinds : ℕ) (i : Items) → (kinds * 4 + items_number i) / 4 ≡ kinds
high-digits kinds i = omega (arith, items-few i)

pub level_in_lem : (l : Level) (kinds : ℕ) → level_in (entry_of l) (kinds * 4 + items_number l.items) ≡ l
level_in_lem l kinds = rw (low_digit kinds l.items) (ap (λ i. level l.at l.stop l.due i) (items-in l.items))

-- the digits of so many levels are below a power of four
abbrev power : ℕ → ℕ
power zero = 1
power (suc n) = power n * 4

power-some : (n : ℕ) → 0 < power n
power-some zero = omega arith
power-some (suc n) = omega (arith, power-some n)

kinds-below : (ls : List Level) (n : ℕ) → length ls ≤ n → kinds_of ls < power n
unfolding kinds_of
kinds-below [] n h = power-some n
kinds-below (l ∷ ls) zero h = absurd (omega arith)
kinds-below (l ∷ ls) (suc n) h = omega (arith, kinds-below ls n (omega arith), items-few l.items)

-- a digit before those of the levels laid by
pub kinds-with : (ls : List Level) (l : Level) → length ls ≤ max_levels → kinds_with (kinds_of ls) l ≡ kinds_of (l ∷ ls)
unfolding kinds_of
kinds-with ls l h = let b = kinds-below ls max_levels h in omega arith

-- a text between two characters
pub letters-in : (w : Word) → w.code ≡ 7 → w.more ≡ 0 → mode_in w ≡ Letters w.a w.b 0 w.low w.high
unfolding mode_in mode_high
letters-in w e z = rw (e, z)
