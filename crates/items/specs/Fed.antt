-- NOT TO BE BELIEVED. What lies whole in a part's bytes: fed with it, the automaton is after it.
use Rattle.std.specs.Prelude.{ℕ, ◌+◌, ◌-◌, ◌≤◌, ◌<◌, max, ◌≡◌, List, ◌∷◌, length, get_or, drop, Result, Ok, Err}
use Rattle.meaning.specs.Limits.{max_bytes}
use Rattle.byte_steps.specs.declared.modes.Items.{Items}
use Rattle.byte_steps.specs.declared.modes.Items.TheVariants.{Plain, Bare, Fields, Texts}
use Rattle.byte_steps.specs.declared.modes.Level.{Level}
use Rattle.byte_steps.specs.declared.modes.Mode.{Mode}
use Rattle.byte_steps.specs.declared.modes.Mode.TheVariants.{Head, Length}
use Rattle.items.specs.declared.Item.{Item}
use Rattle.items.specs.declared.Cut.{Cut}
use Rattle.items.specs.declared.Run as Taken
use Rattle.byte_steps.specs.Automaton.{level, after_child, run, settle, fed}

-- the mode in which an item is due
abbrev pub item_mode : Items → Mode
item_mode Plain = Head
item_mode Bare = Head
item_mode Fields = Length
item_mode Texts = Length

-- the end of a window from i on that lies in the part, in the payload in hand and in the longest input
pub record WindowEnd (size i stop count end : ℕ) : Type 0 where
  pub from : i ≤ end
  pub within : end ≤ size
  pub inside : i < end → count + (end - i) ≤ stop
  pub few : count + (end - i) ≤ max_bytes

-- a shape that lies whole in the window that ends at end: fed with its bytes, the automaton is after it
abbrev pub ShapeFed : List ℕ → ℕ → ℕ → ℕ → ℕ → Result Item Cut → Type 0
ShapeFed s end at n deepest (Err cut) = Unit {0}
ShapeFed s end at n deepest (Ok item) =
    (at < item.next) × (item.next ≤ end)
    × ((l : Level) (ls : List Level) (top : Level) (count whole : ℕ) → length (l ∷ ls) ≡ n → count + (end - at) ≤ top.stop → count + (end - at) ≤ max_bytes
    → fed (run (l ∷ ls) top Head count whole deepest) (drop at s) ≡ fed (settle (l ∷ ls) (after_child top (get_or s at 0)) (count + (item.next - at)) whole item.deepest) (drop item.next s))

-- the same of an item of a list that has no short form
abbrev pub ItemFed : Items → List ℕ → ℕ → ℕ → ℕ → ℕ → Result Item Cut → Type 0
ItemFed items s end at n deepest (Err cut) = Unit {0}
ItemFed items s end at n deepest (Ok item) =
    (at < item.next) × (item.next ≤ end)
    × ((l : Level) (ls : List Level) (from stop due count whole : ℕ) → length (l ∷ ls) ≡ n → count + (end - at) ≤ stop → count + (end - at) ≤ max_bytes
    → fed (run (l ∷ ls) (level from stop due items) (item_mode items) count whole deepest) (drop at s)
    ≡ fed (settle (l ∷ ls) (level from stop due items) (count + (item.next - at)) whole item.deepest) (drop item.next s))

-- items taken one after the other from i on, each followed by another
pub record RunFed (items : Items) (s : List ℕ) (end at n due deepest : ℕ) (r : Taken.Run) : Type 0 where
  pub from : at ≤ r.i
  pub inside : r.i ≤ max at end
  pub fewer : r.due ≤ due
  pub same : (l : Level) (ls : List Level) (from stop count whole : ℕ) → length (l ∷ ls) ≡ n → count + (end - at) ≤ stop → count + (end - at) ≤ max_bytes
      → fed (run (l ∷ ls) (level from stop due items) (item_mode items) count whole deepest) (drop at s)
      ≡ fed (run (l ∷ ls) (level from stop r.due items) (item_mode items) (count + (r.i - at)) whole r.deepest) (drop r.i s)

-- after items of one byte up to a place
abbrev pub run_past : Taken.Run → ℕ → ℕ → Taken.Run
run_past r i deepest = record { i = i; due = r.due - (i - r.i); deepest = deepest; fault = r.fault }
