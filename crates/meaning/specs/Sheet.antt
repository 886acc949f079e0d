-- 01-scope.md, "Sheets": what a sheet is, what fill and join make, the bytes of a sheet, and the sheets within the limits.
use Rattle.std.specs.Prelude.{ℕ, ◌≤◌, ◌<◌, List, [], ◌∷◌, ◌++◌, length}
use Rattle.std.proofs.Math.Option.{Option, none, some}
use Rattle.meaning.specs.Limits.{max_entries, max_encodings}
use Rattle.meaning.specs.Numbers.{two_bytes}
use Rattle.meaning.specs.Shape.{Sort, Tree, prim, blank, array_of, map_of, record_of, function_of, symbol_of, no_fields, field, no_parameters, parameter, Shape}
use Rattle.meaning.specs.Encode.{encode}
use Rattle.meaning.specs.Within.{Within}
use Rattle.meaning.specs.Numbered.{Numbered, Rising, All, find, over, each}

-- a sheet names blanks by their numbers, each with a shape
abbrev pub Sheet : Type 0
Sheet = List (Numbered Shape)

-- "replaced together, once": every blank n becomes σ n at one moment, and what is put in is not looked at again
unfoldable pub plug : {k : Sort} → (ℕ → Shape) → Tree k → Tree k
plug σ (prim p) = prim p
plug σ (blank n) = σ n
plug σ (array_of s) = array_of (plug σ s)
plug σ (map_of s t) = map_of (plug σ s) (plug σ t)
plug σ (record_of f) = record_of (plug σ f)
plug σ (function_of p r) = function_of (plug σ p) (plug σ r)
plug σ (symbol_of ts) = symbol_of ts
plug σ no_fields = no_fields
plug σ (field n s f) = field n (plug σ s) (plug σ f)
plug σ no_parameters = no_parameters
plug σ (parameter s p) = parameter (plug σ s) (plug σ p)

-- "others stay": the blank n, where the sheet names no shape for it
unfoldable pub or_blank : Option Shape → ℕ → Shape
or_blank none n = blank n
or_blank (some s) n = s

-- what becomes of the blank n
abbrev pub at : Sheet → ℕ → Shape
at σ n = or_blank (find σ n) n

-- "Fill: blanks named by the sheet are replaced together, once; others stay."
abbrev pub fill : {k : Sort} → Sheet → Tree k → Tree k
fill σ = plug (at σ)

-- "each blank of the first with its shape filled by the second, and each blank only in the second as it is there"
abbrev pub join : Sheet → Sheet → Sheet
join σ τ = over (each (fill τ) σ) τ

-- the blanks of a sheet, each with the length of its shape's encoding
abbrev pub lengths : Sheet → List (Numbered ℕ)
lengths = each (λ s. length (encode s))

-- "entries (blank number, length ..)", two bytes each, low first
unfoldable pub entries_bytes : List (Numbered ℕ) → List ℕ
entries_bytes [] = []
entries_bytes (e ∷ es) = two_bytes e.number ++ (two_bytes e.item ++ entries_bytes es)

-- "then the encodings joined in that order"
unfoldable pub encodings : Sheet → List ℕ
encodings [] = []
encodings (e ∷ es) = encode e.item ++ encodings es

-- "Two sections, each after its count": how many entries there are, and how many bytes of encodings
unfoldable pub sheet_bytes : Sheet → List ℕ
sheet_bytes σ = two_bytes (length σ) ++ (entries_bytes (lengths σ) ++ (two_bytes (length (encodings σ)) ++ encodings σ))

-- "Variable (0 to 65,535; the "blank")", with a shape within the limits: its length is then "1 to 2,048"
pub record EntryWithin (e : Numbered Shape) : Type 0 where
  pub small : e.number < 65536
  pub within : Within e.item

-- "numbers strictly rising"; "up to 32 entries, up to 16,384 bytes of encodings"
pub record SheetWithin (σ : Sheet) : Type 0 where
  pub rising : Rising σ
  pub few : length σ ≤ max_entries
  pub short : length (encodings σ) ≤ max_encodings
  pub all : All EntryWithin σ
