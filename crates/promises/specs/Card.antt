-- 01-scope.md, "Bytes on the bench card (hex)": M1 to M14, and what each says. To be believed.
use Rattle.std.specs.Prelude.{ℕ, ◌≡◌, List, [], ◌∷◌, Ok}
use Rattle.meaning.specs.Shape.{int, bool, str, prim, blank, array_of, map_of, record_of, function_of, no_fields, field, no_parameters, Shape}
use Rattle.meaning.specs.Reading.{got, bad, reading}
use Rattle.meaning.specs.Numbered.{Numbered}
use Rattle.meaning.specs.Sheet.{sheet_bytes}
use Rattle.meaning.specs.Answers.{in_room, fill_answer, join_answer}
use Rattle.parts.specs.declared.FoundChild.TheVariants.{Part}
use Rattle.parts.specs.Said.{child_said}

-- a case of the card: an encoding with its shape; an input with the number and place of its refusal; an encoding and k with the place and length of
-- child k; a template and a sheet with what is made of them; two sheets with what is made of them
pub data Case : Type 0 where
  reads : List ℕ → Shape → Case
  refuses : List ℕ → ℕ → ℕ → Case
  finds : List ℕ → ℕ → ℕ → ℕ → Case
  fills : List ℕ → List ℕ → List ℕ → Case
  joins : List ℕ → List ℕ → List ℕ → Case

-- what a case says. What is made is the answer in any lent buffer that has the room for it, and is refused with 12 and its length in any other
unfoldable pub Holds : Case → Type 0
Holds (reads bytes s) = reading bytes ≡ got s []
Holds (refuses bytes number place) = reading bytes ≡ bad number place
Holds (finds bytes k place size) = child_said (reading bytes) k ≡ Ok (Part place size)
Holds (fills template sheet w) = (room : ℕ) → fill_answer template sheet room ≡ in_room room w
Holds (joins first second w) = (room : ℕ) → join_answer first second room ≡ in_room room w

-- P holds of each case
unfoldable pub All : (Case → Type 0) → List Case → Type 0
All P [] = Unit {0}
All P (c ∷ cs) = P c × All P cs

-- "n as s": the blank n with its shape, in a sheet
abbrev pub entry : ℕ → Shape → Numbered Shape
entry n s = record { number = n; item = s }

unfoldable pub card : List Case
card =
    -- M1 "Int"
    reads (0x20 ∷ []) (prim int)
    -- M2 "Map of Str to Bool"
    ∷ reads (0x76 ∷ []) (map_of (prim str) (prim bool))
    -- M3 "6 at 0"
    ∷ refuses (0x40 ∷ 0x01 ∷ 0x00 ∷ 0x20 ∷ []) 6 0
    -- M4 "Record a Int, b Array of Bool; child 1 is place 9, length 1"
    ∷ reads (0x42 ∷ 0x07 ∷ 0x00 ∷ 0x02 ∷ 0x01 ∷ 0x61 ∷ 0x20 ∷ 0x01 ∷ 0x62 ∷ 0x62 ∷ []) (record_of (field (0x61 ∷ []) (prim int) (field (0x62 ∷ []) (array_of (prim bool)) no_fields)))
    ∷ finds (0x42 ∷ 0x07 ∷ 0x00 ∷ 0x02 ∷ 0x01 ∷ 0x61 ∷ 0x20 ∷ 0x01 ∷ 0x62 ∷ 0x62 ∷ []) 1 9 1
    -- M5 "Variable 32"
    ∷ reads (0x45 ∷ 0x02 ∷ 0x00 ∷ 0x20 ∷ 0x00 ∷ []) (blank 32)
    -- M6 "6 at 0"
    ∷ refuses (0x45 ∷ 0x02 ∷ 0x00 ∷ 0x1F ∷ 0x00 ∷ []) 6 0
    -- M7 "empty: 1 at 0"
    ∷ refuses [] 1 0
    -- M8 "3 at 1"
    ∷ refuses (0x20 ∷ 0x20 ∷ []) 3 1
    -- M9 "Function, no parameters, Int"
    ∷ reads (0x43 ∷ 0x02 ∷ 0x00 ∷ 0x00 ∷ 0x20 ∷ []) (function_of no_parameters (prim int))
    -- M10 "4 at 3"
    ∷ refuses (0x44 ∷ 0x03 ∷ 0x00 ∷ 0x81 ∷ 0x00 ∷ 0x00 ∷ []) 4 3
    -- M11 "2 at 0"
    ∷ refuses (0xA0 ∷ []) 2 0
    -- M12 "filled with 0 as Variable 1, 1 as Variable 0"
    ∷ fills (0x41 ∷ 0x02 ∷ 0x00 ∷ 0x00 ∷ 0x01 ∷ []) (sheet_bytes (entry 0 (blank 1) ∷ entry 1 (blank 0) ∷ [])) (0x41 ∷ 0x02 ∷ 0x00 ∷ 0x01 ∷ 0x00 ∷ [])
    -- M13 "filled with `01 00 00 00 01 00 01 00 20`"
    ∷ fills (0x40 ∷ 0x01 ∷ 0x00 ∷ 0x00 ∷ []) (0x01 ∷ 0x00 ∷ 0x00 ∷ 0x00 ∷ 0x01 ∷ 0x00 ∷ 0x01 ∷ 0x00 ∷ 0x20 ∷ []) (0x60 ∷ [])
    -- M14 "sheets (0 as Variable 1) and (1 as Int) joined"
    ∷ joins (sheet_bytes (entry 0 (blank 1) ∷ [])) (sheet_bytes (entry 1 (prim int) ∷ [])) (0x02 ∷ 0x00 ∷ 0x00 ∷ 0x00 ∷ 0x01 ∷ 0x00 ∷ 0x01 ∷ 0x00 ∷ 0x01 ∷ 0x00 ∷ 0x02 ∷ 0x00 ∷ 0x20 ∷ 0x20 ∷ [])
    ∷ []
