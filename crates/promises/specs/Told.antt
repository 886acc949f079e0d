-- What the promises are said in: what an exported call says in its four numbers, what it leaves of a lent buffer, and what bytes are. To be believed.
use Rattle.std.specs.Prelude.{ℕ, ◌+◌, ◌≤◌, ◌<◌, ◌≡◌, List, [], ◌∷◌, ◌↔◌, length, take, drop}
use Rattle.meaning.specs.Refusals.{buffer_short}
use Rattle.meaning.specs.Shape.{Shape}
use Rattle.meaning.specs.Encode.{encode}
use Rattle.meaning.specs.Within.{Within}
use Rattle.meaning.specs.Sheet.{Sheet, sheet_bytes, SheetWithin}
use Rattle.meaning.specs.Table.{Table, table_bytes}
use Rattle.meaning.specs.TableReading.{TableWithin}
use Rattle.answers.specs.declared.Answer.{Answer}
use Rattle.answers.specs.Answers.{answered, refused}

-- bytes are the encoding of the shape s, which is within the limits
pub record IsShape (bytes : List ℕ) (s : Shape) : Type 0 where
  pub encoded : bytes ≡ encode s
  pub within : Within s

-- bytes are those of the sheet σ, which is within the limits
pub record IsSheet (bytes : List ℕ) (σ : Sheet) : Type 0 where
  pub encoded : bytes ≡ sheet_bytes σ
  pub within : SheetWithin σ

-- bytes are those of the table T, which is within the limits
pub record IsTable (bytes : List ℕ) (T : Table) : Type 0 where
  pub encoded : bytes ≡ table_bytes T
  pub within : TableWithin T

-- bytes are a shape within the limits that P holds of
abbrev pub Found : List ℕ → (Shape → Type 0) → Type 0
Found bytes P = (s : Shape) × IsShape bytes s × P s

-- the bytes of the empty sheet: no entries, and no encodings
abbrev pub empty_sheet : List ℕ
empty_sheet = 0 ∷ 0 ∷ 0 ∷ 0 ∷ []

-- an exported call has answered: number 0 is no refusal
abbrev pub Answered : Answer → Type 0
Answered r = r.number ≡ 0

-- when it refuses: with a number n other than 0 at a place p exactly where Refuses holds of both; the other two numbers are then 0
pub record Tells (r : Answer) (Refuses : ℕ → ℕ → Type 0) : Type 0 where
  pub exactly : (n p : ℕ) → ((0 < n) × (r.number ≡ n) × (r.place ≡ p)) ↔ Refuses n p
  pub bare : 0 < r.number → r ≡ refused r.number r.place

-- "An answer that writes n bytes writes the first n of the lent buffer only."
abbrev pub FrontOnly : ℕ → List ℕ → List ℕ → Type 0
FrontOnly n before after = (n ≤ length before) × (length after ≡ length before) × (drop n after ≡ drop n before)

-- what it leaves of a lent buffer
abbrev pub Keeps : Answer → List ℕ → List ℕ → Type 0
Keeps r before after = (0 < r.number → after ≡ before) × FrontOnly r.length before after

-- what it says when it has written n bytes
abbrev pub wrote : ℕ → Answer
wrote n = answered 0 n 0

-- it makes the bytes w: "given room enough", they are the answer and stand in the front of the lent buffer; else 12 is, at "the length needed", and
-- "no lent buffer is changed"
pub record Makes (w before : List ℕ) (r : Answer) (after : List ℕ) : Type 0 where
  pub enough : length w ≤ length before → (r ≡ wrote (length w)) × (take (length w) after ≡ w)
  pub short : length before < length w → (r ≡ refused buffer_short (length w)) × (after ≡ before)

-- it makes exactly what P holds of: where P holds of bytes it makes them, and what it has written P holds of
pub record MakesExactly (P : List ℕ → Type 0) (before : List ℕ) (r : Answer) (after : List ℕ) : Type 0 where
  pub makes : (w : List ℕ) → P w → Makes w before r after
  pub made : Answered r → P (take r.length after)

-- the answer for a child that has bytes, and for one of a packed parent, which has none
abbrev pub HasBytes : Answer → Type 0
HasBytes r = Answered r × (r.extra ≡ 0)

abbrev pub HasNone : Answer → Type 0
HasNone r = Answered r × (r.extra ≡ 1)

-- "inside the parent's payload": so many bytes at a place, after the first byte and the size, and up to the end or before it
abbrev pub InPayload : List ℕ → ℕ → ℕ → Type 0
InPayload bytes place size = (3 ≤ place) × (place + size ≤ length bytes)
