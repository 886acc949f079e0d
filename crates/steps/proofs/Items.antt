-- The items of a list are of its kind.
--     fields-all, parameters-all, texts-all
-- Assumes nothing.
use mathlib.Core.Path.{refl}
use mathlib.Core.List.{List, [], ◌∷◌, ◌++◌}
use Prim.Native.Nat.{◌<◌}
use native.Mathlib.Omega.{arith}
use lib.ListN.{length, length-append}
use Rattle.meaning.specs.Shape.{Text, Tree, fields, parameters, Shape, no_fields, field, no_parameters, parameter}
use Rattle.meaning.specs.Encode.{texts_bytes, encode}
use Rattle.meaning.specs.Parts.{bare, field_items, parameter_items, text_items}
use Rattle.payloads.specs.declared.first.Kind.TheVariants.{Record, Function, Symbol}
use Rattle.steps.proofs.Places.{of_bare, of-named, of-lone, AllOf}

-- no name is longer than the whole
pub fields-all : (f : Tree fields) → length (encode f) < 16384 → AllOf Record (field_items f)
unfolding field_items encode
fields-all no_fields h = tt
fields-all (field n s f) h = let k = simp length-append at h in (of-named n s refl refl (omega arith), fields-all f (omega arith))

pub parameters-all : (p : Tree parameters) (r : Shape) → AllOf Function (parameter_items p ++ (bare r ∷ []))
unfolding parameter_items
parameters-all no_parameters r = (of_bare r refl refl, tt)
parameters-all (parameter s p) r = (of_bare s refl refl, parameters-all p r)

pub texts-all : (ts : List Text) → length (texts_bytes ts) < 16384 → AllOf Symbol (text_items ts)
unfolding text_items texts_bytes
texts-all [] h = tt
texts-all (t ∷ ts) h = let k = simp length-append at h in (of-lone t refl refl (omega arith), texts-all ts (omega arith))
