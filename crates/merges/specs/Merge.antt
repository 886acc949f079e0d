-- The joined sheet, entry by entry in rising order, as the code meets them. Contracts between our own crates cite it, no public one does.
use Rattle.std.specs.Prelude.{ℕ, ◌+◌, ◌-◌, ◌≤◌, ◌<◌, ◌≡◌, [], ◌∷◌, length, drop, ltb, Option, MatchOption, Result, Ok, Err}
use Rattle.meaning.specs.Rules.{◌⇒◌∣◌}
use Rattle.meaning.specs.Limits.{max_bytes, max_levels}
use Rattle.meaning.specs.Refusals.{made_too_deep, made_too_long}
use Rattle.meaning.specs.Shape.{Shape, depth}
use Rattle.meaning.specs.Encode.{encode}
use Rattle.meaning.specs.Numbered.{Numbered, All, over, each}
use Rattle.meaning.specs.Sheet.{Sheet, fill}
use Rattle.leaves.specs.Faults.{refusal}
use Rattle.leaves.specs.declared.refusals.Refusal.{Refusal}
use Rattle.sheets.specs.Index.{sheet_in, entry}
use Rattle.merges.specs.declared.Entry.{Entry}
use Rattle.merges.specs.declared.Entry.TheVariants.{First, Second}
use Rattle.merges.specs.declared.Turn.{Turn}
use Rattle.merges.specs.declared.Joined.{Joined}
use Rattle.merges.specs.declared.Span.{Span}

-- what is left of the joined sheet after i entries of the first and j of the second
abbrev pub joined_from : Sheet → Sheet → ℕ → ℕ → Sheet
joined_from σ τ i j = over (each (fill τ) (drop i σ)) (drop j τ)

-- an entry of the joined sheet: the first's, filled by the second, or the second's
abbrev pub next_entry : Sheet → Sheet → Entry → Numbered Shape
next_entry σ τ (First i) = record { number = (entry σ i).number; item = fill τ (entry σ i).item }
next_entry σ τ (Second j) = entry τ j

-- that entry is there
abbrev pub IsThere : Sheet → Sheet → Entry → Type 0
IsThere σ τ (First i) = i < length σ
IsThere σ τ (Second j) = j < length τ

-- after i entries of the first and j of the second, it is the one or the other's next
abbrev pub IsNext : ℕ → ℕ → Entry → Type 0
IsNext i j (First a) = a ≡ i
IsNext i j (Second b) = b ≡ j

-- how many entries of both are not passed
abbrev pub turns_left : Joined → ℕ
turns_left s = (length (sheet_in s.first.now.bytes.now) - s.i) + (length (sheet_in s.second.now.bytes.now) - s.j)

-- a turn, after i of the first and j of the second: the entry that comes next, after which k of the first and l of the second are passed
pub record TurnIs (σ τ : Sheet) (i j : ℕ) (t : Turn) (k l : ℕ) : Type 0 where
  pub there : IsThere σ τ t.entry
  pub next : IsNext i j t.entry
  pub blank : t.blank ≡ (next_entry σ τ t.entry).number
  pub goes : joined_from σ τ i j ≡ next_entry σ τ t.entry ∷ joined_from σ τ k l
  pub onward : i + j < k + l
  pub first : i ≤ length σ → k ≤ length σ
  pub second : j ≤ length τ → l ≤ length τ
  pub fewer : (length σ - k) + (length τ - l) < (length σ - i) + (length τ - j)

-- what is left of it
abbrev pub joined_left : Joined → Sheet
joined_left s = joined_from (sheet_in s.first.now.bytes.now) (sheet_in s.second.now.bytes.now) s.i s.j

-- a turn leaves the sheets as they are
pub record Goes (s : Joined) (t : Turn) (u : Joined) : Type 0 where
  pub first : u.first ≡ s.first
  pub second : u.second ≡ s.second
  pub turn : TurnIs (sheet_in s.first.now.bytes.now) (sheet_in s.second.now.bytes.now) s.i s.j t u.i u.j

-- the next turn; after the last, nothing is left
abbrev pub JoinedGives : Joined → Option Turn → Joined → Type 0
JoinedGives s r u = MatchOption r (joined_left s ≡ []) (λ t. Goes s t u)

-- the length and the depth of an entry's shape
abbrev pub span_of : Numbered Shape → Span
span_of e = record { length = length (encode e.item); depth = depth e.item }

-- each entry's shape is shallow and short
abbrev pub Fitting : Sheet → Type 0
Fitting = All (λ e. (depth e.item ≤ max_levels) × (length (encode e.item) ≤ max_bytes))

-- how entries measure, in order, after others of so many bytes: together so many bytes of encodings, or the first blank whose shape is too deep or
-- too long
unfoldable pub measured_all : Sheet → ℕ → Result ℕ Refusal
measured_all [] bytes = Ok bytes
measured_all (e ∷ es) bytes =
    ltb max_levels (depth e.item) ⇒ Err (refusal made_too_deep e.number) ∣ λ _.
    ltb max_bytes (length (encode e.item)) ⇒ Err (refusal made_too_long e.number) ∣ λ _.
    measured_all es (bytes + length (encode e.item))
