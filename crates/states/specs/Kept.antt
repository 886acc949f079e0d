-- NOT TO BE BELIEVED. The state as numbers, and what it stands for.
use Rattle.std.specs.Prelude.{ℕ, zero, suc, ◌+◌, ◌*◌, ◌/◌, ◌%◌, List, [], ◌∷◌, get_or, set, length, replicate, eqb}
use Rattle.meaning.specs.Rules.{◌⇒◌∣◌}
use Rattle.meaning.specs.Limits.{max_levels}
use Rattle.payloads.specs.declared.first.Kind.{Kind}
use Rattle.payloads.specs.declared.first.Kind.TheVariants.{Array, Map, Record, Function, Symbol, Variable}
use Rattle.byte_steps.specs.declared.modes.Items.{Items}
use Rattle.byte_steps.specs.declared.modes.Items.TheVariants.{Plain, Bare, Fields, Texts}
use Rattle.byte_steps.specs.declared.modes.Level.{Level}
use Rattle.states.specs.declared.Entry.{Entry}
use Rattle.states.specs.declared.Word.{Word}
use Rattle.states.specs.declared.State.{State}
use Rattle.byte_steps.specs.declared.modes.Mode.{Mode}
use Rattle.byte_steps.specs.declared.modes.Mode.TheVariants.{Head, SizeLow, SizeHigh, Opening, Count, CountMore, Length, LengthMore, Letters, BlankLow, BlankHigh, Between, Done, Faulty}
use Rattle.byte_steps.specs.Automaton.{level, run, Run}

abbrev pub items_number : Items → ℕ
items_number Plain = 0
items_number Bare = 1
items_number Fields = 2
items_number Texts = 3

abbrev pub items_of : ℕ → Items
items_of n = eqb n 0 ⇒ Plain ∣ λ _. eqb n 1 ⇒ Bare ∣ λ _. eqb n 2 ⇒ Fields ∣ λ _. Texts

-- a level without what its items are, and the digit that says it: one for each level, the last one laid by the lowest
abbrev pub entry_of : Level → Entry
entry_of l = record { at = l.at; stop = l.stop; due = l.due }

abbrev pub level_in : Entry → ℕ → Level
level_in e kinds = level e.at e.stop e.due (items_of (kinds % 4))

unfoldable pub kinds_of : List Level → ℕ
kinds_of [] = 0
kinds_of (l ∷ ls) = kinds_of ls * 4 + items_number l.items

-- of a level above at most 16 that are laid by
abbrev pub kinds_with : ℕ → Level → ℕ
kinds_with kinds l = kinds % 4294967296 * 4 + items_number l.items

abbrev pub kind_number : Kind → ℕ
kind_number Array = 0
kind_number Map = 1
kind_number Record = 2
kind_number Function = 3
kind_number Symbol = 4
kind_number Variable = 5

abbrev pub kind_in : ℕ → Kind
kind_in n = eqb n 0 ⇒ Array ∣ λ _. eqb n 1 ⇒ Map ∣ λ _. eqb n 2 ⇒ Record ∣ λ _. eqb n 3 ⇒ Function ∣ λ _. eqb n 4 ⇒ Symbol ∣ λ _. Variable

abbrev pub word_with : ℕ → ℕ → ℕ → ℕ → ℕ → ℕ → Word
word_with code a b c low high = record { a = a; b = b; code = code; more = c; low = low; high = high }

unfoldable pub word_of : Mode → Word
word_of Head = word_with 0 0 0 0 0 0
word_of (SizeLow kind at) = word_with 1 at (kind_number kind) 0 0 0
word_of (SizeHigh kind at low) = word_with 2 at (kind_number kind) 0 low 0
word_of (Opening kind at stop) = word_with 10 0 0 0 0 0
word_of Count = word_with 3 0 0 0 0 0
word_of (CountMore at low) = word_with 4 at 0 0 low 0
word_of Length = word_with 5 0 0 0 0 0
word_of (LengthMore at low) = word_with 6 at 0 0 low 0
word_of (Letters from left more low high) = word_with 7 from left more low high
word_of (BlankLow at) = word_with 8 at 0 0 0 0
word_of (BlankHigh at low) = word_with 9 at 0 0 low 0
word_of Between = word_with 10 0 0 0 0 0
word_of Done = word_with 10 0 0 0 0 0
word_of (Faulty number place) = word_with 11 number place 0 0 0

unfoldable pub mode_high : Word → Mode
mode_high w =
    eqb w.code 6 ⇒ LengthMore w.a w.low ∣ λ _.
    eqb w.code 7 ⇒ Letters w.a w.b w.more w.low w.high ∣ λ _.
    eqb w.code 8 ⇒ BlankLow w.a ∣ λ _.
    eqb w.code 9 ⇒ BlankHigh w.a w.low ∣ λ _.
    eqb w.code 10 ⇒ Done ∣ λ _.
    Faulty w.a w.b

unfoldable pub mode_in : Word → Mode
mode_in w =
    eqb w.code 0 ⇒ Head ∣ λ _.
    eqb w.code 1 ⇒ SizeLow (kind_in w.b) w.a ∣ λ _.
    eqb w.code 2 ⇒ SizeHigh (kind_in w.b) w.a w.low ∣ λ _.
    eqb w.code 3 ⇒ Count ∣ λ _.
    eqb w.code 4 ⇒ CountMore w.a w.low ∣ λ _.
    eqb w.code 5 ⇒ Length ∣ λ _.
    mode_high w

-- an entry that is not in use
abbrev pub no_entry : Entry
no_entry = record { at = 0; stop = 0; due = 0 }

-- levels laid by, as entries
unfoldable pub laid_out : List Level → List Entry
laid_out [] = replicate max_levels no_entry
laid_out (l ∷ ls) = set (laid_out ls) (length ls) (entry_of l)

-- the levels laid by, the last one first
unfoldable pub stack_of : List Entry → ℕ → ℕ → List Level
stack_of es kinds zero = []
stack_of es kinds (suc n) = level_in (get_or es n no_entry) kinds ∷ stack_of es (kinds / 4) n

-- what a state stands for
abbrev pub run_of : State → Run
run_of s = run (stack_of s.levels (s.kinds / 4) s.used) (level_in s.top s.kinds) (mode_in s.next) s.count s.whole s.deepest

-- the one state that stands for a run
abbrev pub state_with : List Level → Level → Word → ℕ → ℕ → ℕ → State
state_with stack top next count whole deepest = record { next = next; count = count; whole = whole; used = length stack; deepest = deepest; kinds = kinds_of (top ∷ stack); top = entry_of top; closed = 0; levels = laid_out stack }

abbrev pub state_of : Run → State
state_of r = state_with r.stack r.top (word_of r.mode) r.count r.whole r.deepest
