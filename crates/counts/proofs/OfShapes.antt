-- What each shape adds to a table.
--     piece_of       what a shape adds; of fields and parameters, what they add to the items before them
--     with_texts     the items of a Symbol
-- Assumes nothing.
use mathlib.Core.List.{List, [], ◌∷◌}
use Rattle.meaning.specs.Shape.{Text, Sort, shape, fields, parameters, Tree, prim, blank, array_of, map_of, record_of, function_of, symbol_of, no_fields, field, no_parameters, parameter}
use Rattle.meaning.specs.FirstByte.{code}
use Rattle.meaning.specs.Encode.{text_bytes}
use Rattle.meaning.specs.Table.{variable_kind}
use Rattle.payloads.specs.declared.first.Kind.TheVariants.{Array, Map, Record, Function, Symbol}
use Rattle.counts.specs.Pieces.{Piece, Gathered, nothing, single, no_items, with_item, list_piece}

-- what is made of a shape, of fields and of parameters
abbrev pub Made : Sort → Type 0
Made shape = Piece
Made fields = Gathered → Gathered
Made parameters = Gathered → Gathered

-- texts one after the other
unfoldable pub with_texts : List Text → Gathered → Gathered
with_texts [] a = a
with_texts (t ∷ ts) a = with_texts ts (with_item a (text_bytes t) nothing)

unfoldable pub piece_of : {k : Sort} → Tree k → Made k
piece_of (prim p) = single (code p) 0 0
piece_of (blank n) = single variable_kind n 0
piece_of (array_of s) = list_piece Array (with_item no_items [] (piece_of s))
piece_of (map_of s t) = list_piece Map (with_item (with_item no_items [] (piece_of s)) [] (piece_of t))
piece_of (record_of f) = list_piece Record (piece_of f no_items)
piece_of (function_of p r) = list_piece Function (with_item (piece_of p no_items) [] (piece_of r))
piece_of (symbol_of ts) = list_piece Symbol (with_texts ts no_items)
piece_of no_fields = λ a. a
piece_of (field n s f) = λ a. piece_of f (with_item a (text_bytes n) (piece_of s))
piece_of no_parameters = λ a. a
piece_of (parameter s p) = λ a. piece_of p (with_item a [] (piece_of s))
