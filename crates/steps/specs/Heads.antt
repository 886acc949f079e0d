-- The head of a payload, by the reader's own words for its kind. Contracts between our own crates cite it, no public one does.
use Rattle.std.specs.Prelude.{ℕ, List, ◌∷◌}
use Rattle.meaning.specs.Numbers.{two_bytes}
use Rattle.meaning.specs.FirstByte.{kind_byte}
use Rattle.meaning.specs.FirstByte as Meant
use Rattle.payloads.specs.declared.first.Kind.{Kind}
use Rattle.payloads.specs.declared.first.Kind.TheVariants.{Array, Map, Record, Function, Symbol, Variable}

-- the first byte of a kind
abbrev pub kind_says : Kind → ℕ
kind_says Array = kind_byte Meant.array
kind_says Map = kind_byte Meant.map
kind_says Record = kind_byte Meant.rec
kind_says Function = kind_byte Meant.function
kind_says Symbol = kind_byte Meant.symbol
kind_says Variable = kind_byte Meant.variable

-- the first byte and the payload's size
abbrev pub head_bytes : Kind → ℕ → List ℕ
head_bytes kind n = kind_says kind ∷ two_bytes n
