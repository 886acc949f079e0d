-- NOT TO BE BELIEVED. What a turn of the loop over a part's bytes leads to.
use Rattle.std.specs.Prelude.{ℕ, ◌+◌, ◌*◌, ◌-◌, ◌≤◌, ◌<◌, ◌≡◌, Bool, true, false, List, [], ◌∷◌, length, drop, ltb, leb}
use Rattle.meaning.specs.Rules.{◌⇒◌∣◌}
use Rattle.meaning.specs.Limits.{max_bytes, max_levels}
use Rattle.byte_steps.specs.declared.modes.Level.{Level}
use Rattle.byte_steps.specs.declared.modes.Mode.{Mode}
use Rattle.byte_steps.specs.declared.modes.Mode.TheVariants.{Head, SizeLow, SizeHigh, Opening, Count, CountMore, Length, LengthMore, Letters, BlankLow, BlankHigh, Between, Done, Faulty}
use Rattle.turns.specs.declared.moves.Act.{Act}
use Rattle.turns.specs.declared.moves.Act.TheVariants.{Rest, Stay, Push, Pop}
use Rattle.turns.specs.declared.Turned.{Turned}
use Rattle.items.specs.declared.Run as Taken
use Rattle.byte_steps.specs.Automaton.{Run, entered, fed}
use Rattle.turns.specs.Moves.{resting, sized}

-- nothing is read any more, and bytes are counted only
abbrev pub idle : Mode → Bool
idle Head = false
idle (SizeLow kind from) = false
idle (SizeHigh kind from low) = false
idle (Opening kind from stop) = false
idle Count = false
idle (CountMore from low) = false
idle Length = false
idle (LengthMore from low) = false
idle (Letters from left m low high) = false
idle (BlankLow from) = false
idle (BlankHigh from low) = false
idle Between = false
idle Done = true
idle (Faulty number place) = true

-- so many bytes more, counted up to one over the limit
abbrev pub counted_to : ℕ → ℕ → ℕ
counted_to count more = ltb (max_bytes - count) more ⇒ max_bytes + 1 ∣ λ _. count + more

-- what a turn leads to; where a fault was met is nowhere said more of: it only saves time
abbrev pub turned : Mode → Level → ℕ → ℕ → ℕ → ℕ → ℕ → Act → Turned
turned m l count whole deepest i fault act = record { mode = m; top = l; count = count; whole = whole; deepest = deepest; i = i; fault = fault; act = act }

-- no item of a list is taken yet
abbrev pub run_from : ℕ → ℕ → ℕ → ℕ → Taken.Run
run_from i due deepest fault = record { i = i; due = due; deepest = deepest; fault = fault }

-- the levels laid by stay
abbrev pub stayed : Mode → Level → ℕ → ℕ → ℕ → ℕ → ℕ → Turned
stayed m l count whole deepest i fault = turned m l count whole deepest i fault Stay

-- and the part is at its end
abbrev pub rested : Mode → Level → ℕ → ℕ → ℕ → ℕ → Turned
rested m l count whole deepest i = turned m l count whole deepest i 0 Rest

-- where a byte would have to come, in a part of so many: it is at its end, or one byte more is one too many
abbrev pub waited : ℕ → Mode → Level → ℕ → ℕ → ℕ → ℕ → Turned
waited size m l count whole deepest i =
    leb size i ⇒ rested m l count whole deepest i ∣ λ _.
    rested m l (max_bytes + 1) whole deepest size

-- the level laid by last, and those before it
abbrev pub last_of : List Level → Level → Level
last_of [] l = l
last_of (x ∷ xs) l = x

abbrev pub before_last : List Level → List Level
before_last [] = []
before_last (x ∷ xs) = xs

-- how the automaton goes on after a turn, by what becomes of the levels
abbrev pub onward : Turned → List Level → Level → Act → Run
onward t stack top Rest = entered t.mode stack t.top t.count t.whole t.deepest
onward t stack top Stay = entered t.mode stack t.top t.count t.whole t.deepest
onward t stack top Push = entered t.mode (top ∷ stack) t.top t.count t.whole t.deepest
onward t stack top Pop = entered t.mode (before_last stack) (last_of stack top) t.count t.whole t.deepest

-- how many steps without a byte may follow
abbrev pub weight : Mode → ℕ → ℕ
weight Head n = 0
weight (SizeLow kind from) n = 0
weight (SizeHigh kind from low) n = 0
weight (Opening kind from stop) n = n + 3
weight Count n = 0
weight (CountMore from low) n = 0
weight Length n = 0
weight (LengthMore from low) n = 0
weight (Letters from left m low high) n = 0
weight (BlankLow from) n = 0
weight (BlankHigh from low) n = 0
weight Between n = n + 1
weight Done n = 0
weight (Faulty number place) n = 0

-- what is left to be done of a part's bytes from i on
abbrev pub to_do : List ℕ → ℕ → Mode → ℕ → ℕ
to_do s i m n = (length s - i) * 64 + weight m n

-- a turn leaves less to be done, and room for a payload that is about to open; there is a place for a level that is laid by, or one to take up
abbrev pub Lighter : List ℕ → ℕ → Mode → ℕ → Turned → Act → Type 0
Lighter s i m n t Rest = (resting t.mode ≡ true) × (length s ≤ t.i) × (n + sized t.mode ≤ max_levels)
Lighter s i m n t Stay = (to_do s t.i t.mode n < to_do s i m n) × (n + sized t.mode ≤ max_levels)
Lighter s i m n t Push = (n < max_levels) × (to_do s t.i t.mode (n + 1) < to_do s i m n) × (n + 1 + sized t.mode ≤ max_levels)
Lighter s i m n t Pop = (0 < n) × (to_do s t.i t.mode (n - 1) < to_do s i m n) × (n - 1 + sized t.mode ≤ max_levels)

-- a turn over the bytes s from i on: fed with what is left of them, the automaton comes to the same
pub record Leads (s : List ℕ) (i : ℕ) (m : Mode) (top : Level) (n count whole deepest : ℕ) (t : Turned) : Type 0 where
  pub same : (stack : List Level) → length stack ≡ n → fed (entered m stack top count whole deepest) (drop i s) ≡ fed (onward t stack top t.act) (drop t.i s)
  pub within : t.i ≤ length s
  pub lighter : Lighter s i m n t t.act
