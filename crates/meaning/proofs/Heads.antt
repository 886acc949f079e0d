-- How an encoding begins: with a byte that says the shape whole, or with a kind's byte and the size of the payload after it.
--     head_of     every encoding begins so
--     prim-by     whether an encoding is a primitive's is seen on single bytes
-- Assumes nothing.
use mathlib.Core.Path.{◌≡◌, refl}
use mathlib.Core.Bool.{Bool, true, false}
use mathlib.Core.Option.{Option, none, some}
use mathlib.Core.List.{List, [], ◌∷◌, ◌++◌}
use Prim.Native.Nat.{ℕ, ◌≤◌, ◌<◌}
use lib.Dec.{ltb}
use native.Mathlib.Omega.{arith}
use borrow.Author.Tests.{ltb-true}
use Rattle.meaning.specs.Numbers.{two_bytes, leb128}
use Rattle.meaning.specs.Shape.{Primitive, Shape, prim, blank, array_of, map_of, record_of, function_of, symbol_of, count}
use Rattle.meaning.specs.FirstByte.{code, short_blanks, prim_byte, array_byte, map_byte, Kind, array, map, rec, function, symbol, variable, whole, packed, class_of}
use Rattle.meaning.specs.Encode.{sized, as_prim, array_bytes, map_bytes, blank_bytes, texts_bytes, encode}
use Rattle.meaning.specs.Reading.{has_short}
use Rattle.meaning.proofs.Rules.{rule}
use Rattle.meaning.proofs.Complete.{class-prim, class-array, class-map, class-blank, as-prim}
use lib.ListN.{length}

-- a shape of one byte, or a payload of a kind
pub data Head (s : Shape) : Type 0 where
  whole-byte : (b : ℕ) → encode s ≡ b ∷ [] → class_of b ≡ whole s → has_short s ≡ true → Head s
  packed_byte : (b : ℕ) → encode s ≡ b ∷ [] → class_of b ≡ packed s → has_short s ≡ true → Head s
  payload : (k : Kind) (q : List ℕ) → encode s ≡ sized k q → has_short s ≡ false → Head s

pub head_of : (s : Shape) → Head s
unfolding encode blank_bytes array_bytes map_bytes has_short
head_of (prim p) = whole-byte (prim_byte (code p)) refl (class-prim p) refl
head_of (blank n) = go (ltb n short_blanks) refl
  where
    go : (t : Bool) → ltb n short_blanks ≡ t → Head (blank n)
    go true p = whole-byte n (rw p) (class-blank n (ltb-true _ _ p)) p
    go false p = payload variable (two_bytes n) (rw p) p
head_of (array_of s) = go (as_prim s) refl
  where
    go : (o : Option Primitive) → as_prim s ≡ o → Head (array_of s)
    go none p = payload array (encode s) (rw p) (rw p)
    go (some b) p = packed_byte (array_byte (code b)) (rw p) (rw (as-prim s b p) (class-array b)) (rw p)
head_of (map_of s t) = go (as_prim s) refl (as_prim t) refl
  where
    go : (o : Option Primitive) → as_prim s ≡ o → (o' : Option Primitive) → as_prim t ≡ o' → Head (map_of s t)
    go none p o q = payload map (encode s ++ encode t) (rw p) (rw p)
    go (some b) p none q = payload map (encode s ++ encode t) (rw (p, q)) (rw (p, q))
    go (some b) p (some c) q = packed_byte (map_byte (code b) (code c)) (rw (p, q)) (rw (as-prim s b p, as-prim t c q) (class-map b c)) (rw (p, q))
head_of (record_of f) = payload rec (leb128 (count f) ++ encode f) refl refl
head_of (function_of p r) = payload function (leb128 (count p) ++ (encode p ++ encode r)) refl refl
head_of (symbol_of ts) = payload symbol (leb128 (length ts) ++ texts_bytes ts) refl refl

module _ {X : Type 0} (f : List ℕ → X) (g : Option Primitive → X) (is : (p : Primitive) → f (prim_byte (code p) ∷ []) ≡ g (some p))
    (low : (b : ℕ) → b < prim_byte 0 → f (b ∷ []) ≡ g none) (high : (b : ℕ) → prim_byte 5 ≤ b → f (b ∷ []) ≡ g none)
    (long : (k : Kind) (q : List ℕ) → f (sized k q) ≡ g none) where
  -- What tells the primitives apart, and other single bytes and payloads from them, tells of every encoding which primitive its shape is, if any.
  pub prim-by : (t : Shape) → f (encode t) ≡ g (as_prim t)
  unfolding encode as_prim array_bytes map_bytes blank_bytes
  prim-by (prim p) = is p
  prim-by (blank n) = rule (λ (w : List ℕ). f w ≡ g none) (ltb n short_blanks) _ _ (λ p. low n (ltb-true _ _ p)) (λ p. long variable (two_bytes n))
  prim-by (array_of s) = go (as_prim s)
    where
      go : (o : Option Primitive) → f (array_bytes o (encode s)) ≡ g none
      go none = long array (encode s)
      go (some p) = high (array_byte (code p)) (omega arith)
  prim-by (map_of s t) = go (as_prim s) (as_prim t)
    where
      go : (o q : Option Primitive) → f (map_bytes o q (encode s ++ encode t)) ≡ g none
      go none q = long map (encode s ++ encode t)
      go (some p) none = long map (encode s ++ encode t)
      go (some p) (some q) = high (map_byte (code p) (code q)) (omega arith)
  prim-by (record_of h) = long rec (leb128 (count h) ++ encode h)
  prim-by (function_of p r) = long function (leb128 (count p) ++ (encode p ++ encode r))
  prim-by (symbol_of ts) = long symbol (leb128 (length ts) ++ texts_bytes ts)
