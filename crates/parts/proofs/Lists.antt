-- Each shape that has a list in its payload is listed: wherever its encoding stands, its list is found there.
--     array-listed, map-listed, record-listed, function-listed, symbol-listed
-- Assumes nothing.
use mathlib.Core.Path.{◌≡◌, refl, sym}
use mathlib.Core.Bool.{false}
use mathlib.Core.List.{List, [], ◌∷◌, ◌++◌, append_assoc}
use Prim.Native.Nat.{ℕ, ◌+◌, ◌≤◌, ◌<◌}
use native.Mathlib.Omega.{arith}
use lib.ListN.{length, length-append}
use Rattle.meaning.specs.Numbers.{two_bytes, leb128}
use Rattle.meaning.specs.Shape.{Text, Tree, fields, parameters, Shape, array_of, map_of, record_of, function_of, symbol_of, count}
use Rattle.meaning.specs.FirstByte as Meant
use Rattle.meaning.specs.Encode.{sized, array_bytes, texts_bytes, encode}
use Rattle.meaning.specs.Reading.{has_short}
use Rattle.meaning.specs.Parts.{bare, field_items, parameter_items, text_items, items, list_start, children, names}
use Rattle.meaning.proofs.Lists.{fields-count, parameters-count, texts-count, field-shapes, field-names, parameter-shapes}
use Rattle.meaning.proofs.Complete.{count-le, texts-le}
use Rattle.leaves.specs.Leb.{leb_at}
use Rattle.payloads.specs.declared.first.Kind.TheVariants.{Array, Map, Record, Function, Symbol}
use Rattle.steps.specs.Steps.{listing, counted_by, list_at}
use Rattle.steps.proofs.Places.{Stands, stands-length, stands_after, leb-at, of_bare}
use Rattle.steps.proofs.Items.{fields-all, parameters-all, texts-all}
use Rattle.parts.proofs.Listed.{Listed}

-- a count is read, and the list starts after it
counted : (k : Meant.Kind) (n more m : ℕ) (y : List ℕ) → n < 16384 → n + more ≡ m → (s : List ℕ) (at : ℕ) (x : List ℕ) → Stands s at (sized k (leb128 n ++ y) ++ x)
    → counted_by (at + 3) more (leb_at s (length s) (at + 3)) ≡ listing (at + (3 + length (leb128 n))) m
counted k n more m y h e s at x g =
    let l = stands-length s at _ g in
    let z : at + (3 + length (leb128 n)) ≡ at + 3 + length (leb128 n) = omega arith in
    rw (leb-at s (at + 3) n (y ++ x) h (omega arith) (rw append_assoc at (stands_after s at (Meant.kind_byte k ∷ two_bytes (length (leb128 n ++ y))) ((leb128 n ++ y) ++ x) g)), e, z)

-- each shape that has a list in its payload
pub array-listed : (s : Shape) → has_short (array_of s) ≡ false → Listed (array_of s) Array
unfolding items list_start children names encode list_at has_short array_bytes
array-listed s h = record {
  list = λ w at x i g. refl;
  all = (of_bare s refl refl, tt);
  children = refl;
  names = refl;
  long = h;
}

pub map-listed : (s t : Shape) → has_short (map_of s t) ≡ false → Listed (map_of s t) Map
unfolding items list_start children names encode list_at has_short
map-listed s t h = record {
  list = λ w at x i g. refl;
  all = (of_bare s refl refl, (of_bare t refl refl, tt));
  children = refl;
  names = refl;
  long = h;
}

pub record-listed : (f : Tree fields) → length (encode (record_of f)) ≤ 16384 → Listed (record_of f) Record
unfolding items list_start children names encode list_at has_short
record-listed f h =
    let k = simp length-append at h in let c = count-le f in let z : count f + 0 ≡ length (field_items f) = omega (arith, fields-count f) in
    record {
      list = λ s at x i g. counted Meant.rec (count f) 0 (length (field_items f)) (encode f) (omega arith) z s at x g;
      all = fields-all f (omega arith);
      children = field-shapes f;
      names = field-names f;
      long = refl;
    }

pub function-listed : (p : Tree parameters) (r : Shape) → length (encode (function_of p r)) ≤ 16384 → Listed (function_of p r) Function
unfolding items list_start children names encode list_at has_short
function-listed p r h =
    let k = simp length-append at h in let c = count-le p in
    record {
      list = λ s at x i g. counted Meant.function (count p) 1 (length (parameter_items p ++ (bare r ∷ []))) (encode p ++ encode r) (omega arith) (sym (parameters-count p r)) s at x g;
      all = parameters-all p r;
      children = parameter-shapes p r;
      names = refl;
      long = refl;
    }

pub symbol-listed : (ts : List Text) → length (encode (symbol_of ts)) ≤ 16384 → Listed (symbol_of ts) Symbol
unfolding items list_start children names encode list_at has_short
symbol-listed ts h =
    let k = simp length-append at h in let c = texts-le ts in let z : length ts + 0 ≡ length (text_items ts) = omega (arith, texts-count ts) in
    record {
      list = λ s at x i g. counted Meant.symbol (length ts) 0 (length (text_items ts)) (texts_bytes ts) (omega arith) z s at x g;
      all = texts-all ts (omega arith);
      children = refl;
      names = sym (texts-count ts);
      long = refl;
    }
