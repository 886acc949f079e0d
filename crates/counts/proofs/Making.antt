-- The pass over an encoding makes of every shape what that shape adds to a table.
--     pieces-making     it makes what it should of what it meets
-- Assumes nothing.
use mathlib.Core.Path.{◌≡◌, refl, ap, ap₂}
use mathlib.Core.List.{List, [], ◌∷◌, ◌++◌}
use Prim.Native.Nat.{ℕ, ◌+◌, ◌≤◌}
use native.Mathlib.Omega.{arith}
use native.Mathlib.Nat.{add-zero}
use lib.ListN.{length, length-append}
use Rattle.meaning.specs.Numbers.{leb128, two_bytes}
use Rattle.meaning.specs.Shape.{Text, Tree, fields, parameters, Shape, no_fields, field, no_parameters, parameter, symbol_of}
use Rattle.meaning.specs.FirstByte.{kind_byte, symbol, Class, whole, packed, long, unassigned, class_of}
use Rattle.meaning.specs.Encode.{text_bytes, texts_bytes, encode}
use Rattle.meaning.specs.Parts.{bare, lone, field_items, parameter_items, name_bytes}
use Rattle.meaning.specs.Parts as Parts
use Rattle.meaning.proofs.Sound.{by-class}
use Rattle.meaning.proofs.Complete.{code-small, leb-pos, texts-le}
use Rattle.payloads.specs.declared.first.Kind.TheVariants.{Array, Map, Record, Function, Symbol}
use Rattle.steps.specs.Steps.{list_at}
use Rattle.steps.proofs.Places.{Stands, stands-length, stands_after, leb-at, of-lone, past-name}
use Rattle.steps.proofs.Passed.{stands-slice, gathered, Making}
use Rattle.counts.specs.Pieces.{Gathered, nothing, single, no_items, with_item, list_piece, packed_array, packed_map, short_piece, gather_texts, symbol_piece, pieces}
use Rattle.counts.proofs.OfShapes.{with_texts, piece_of}
use Rattle.counts.proofs.Shorts.{short-blank, short-prim, short-array, short-map}

-- what is made of a byte, by what the byte says
MadeBy : ℕ → Class → Type 0
MadeBy b (whole s) = short_piece b ≡ piece_of s
MadeBy b (packed s) = short_piece b ≡ piece_of s
MadeBy b (long k) = Unit {0}
MadeBy b unassigned = Unit {0}

-- Of a byte that is a shape what the shape adds is made.
byte-made : (b : ℕ) → MadeBy b (class_of b)
unfolding MadeBy piece_of
byte-made b =
    by-class (MadeBy b) b
    (short-blank b)
    (λ p e. rw (short-prim b (omega arith) (omega (arith, code-small p))) (ap (λ (n : ℕ). single n 0 0) (omega arith)))
    (λ p e. rw (short-array b (omega arith) (omega (arith, code-small p))) (ap (λ (n : ℕ). list_piece Array (packed_array n)) (omega arith)))
    (λ p q e. rw (short-map b (omega arith)) (ap₂ (λ (m n : ℕ). list_piece Map (packed_map m n)) (omega (arith, code-small q)) (omega (arith, code-small q))))
    (λ k e. tt)
    tt

-- What is gathered of fields is what they add,
fields-gathered : (f : Tree fields) (a : Gathered) → gathered pieces piece_of a (field_items f) ≡ piece_of f a
unfolding field_items name_bytes piece_of
fields-gathered no_fields a = refl
fields-gathered (field n s f) a = fields-gathered f _

-- and so of parameters and a return.
parameters-gathered : (p : Tree parameters) (r : Shape) (a : Gathered) → gathered pieces piece_of a (parameter_items p ++ (bare r ∷ [])) ≡ with_item (piece_of p a) [] (piece_of r)
unfolding parameter_items name_bytes piece_of
parameters-gathered no_parameters r a = refl
parameters-gathered (parameter s p) r a = parameters-gathered p r _

-- Texts that stand in a Symbol are gathered.
texts-gathered : (w : List ℕ) (ts : List Text) (at : ℕ) (a : Gathered) → at ≤ length w → length (texts_bytes ts) ≤ 16384 → Stands w at (texts_bytes ts) → gather_texts (length ts) w at a ≡ with_texts ts a
unfolding gather_texts with_texts texts_bytes name_bytes
texts-gathered w [] at a i l h = refl
texts-gathered w (t ∷ ts) at a i l h =
    let k = length-append (text_bytes t) (texts_bytes ts) in
    let j = length-append (leb128 (length t)) t in
    let g = stands-length w at _ h in
    let p = past-name w at Symbol (lone t) (texts_bytes ts) (of-lone t refl refl (omega (arith, leb-pos (length t)))) h in
    rw (gather_texts, p, stands-slice w at (text_bytes t) (texts_bytes ts) i h) (
    texts-gathered w ts (at + length (text_bytes t)) (with_item a (text_bytes t) nothing) (omega arith) (omega arith) (stands_after w at (text_bytes t) (texts_bytes ts) h))

-- So of a Symbol what it adds is made.
symbol-made : (ts : List Text) → length (encode (symbol_of ts)) ≤ 16384 → symbol_piece (encode (symbol_of ts)) ≡ piece_of (symbol_of ts)
unfolding symbol_piece piece_of encode list_at
symbol-made ts l =
    let c : List ℕ = leb128 (length ts) in
    let b : List ℕ = texts_bytes ts in
    let w : List ℕ = kind_byte symbol ∷ two_bytes (length (c ++ b)) ++ (c ++ b) in
    let k = length-append c b in
    let n = texts-le ts in
    let e = leb-at w 3 (length ts) b (omega (arith, leb-pos (length ts))) (omega arith) refl in
    rw (e, add-zero (length ts), texts-gathered w ts (3 + length c) no_items (omega arith) (omega arith) (stands_after w 3 c b refl))

-- The pass makes of every shape what it adds.
pub pieces-making : Making pieces piece_of
unfolding Parts.items name_bytes MadeBy piece_of
pieces-making =
    record {
      whole = λ b s e. rw e at (byte-made b);
      packed = λ b s e. rw e at (byte-made b);
      blanks = λ n h. refl;
      symbols = symbol-made;
      arrays = λ s h. refl;
      maps = λ s t h. refl;
      records = λ f. ap (list_piece Record) (fields-gathered f no_items);
      functions = λ p r. ap (list_piece Function) (parameters-gathered p r no_items);
    }
