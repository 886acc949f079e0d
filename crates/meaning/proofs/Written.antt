-- What is written for a shape are bytes.
--     encode-bytes     of a shape, of a list of fields and of one of parameters
-- Assumes nothing.
use Prim.Native.Nat.{ℕ, ◌≤◌, ◌<◌}
use mathlib.Core.Option.{Option, none, some}
use mathlib.Core.List.{List, [], ◌∷◌, ◌++◌}
use native.Mathlib.Omega.{arith}
use native.Mathlib.Nat.{le_trans}
use lib.Dec.{ltb}
use lib.ListN.{length, length-append}
use Rattle.meaning.specs.Numbers.{two_bytes, leb128}
use Rattle.meaning.specs.Shape.{Text, Primitive, Sort, Tree, prim, blank, array_of, map_of, record_of, function_of, symbol_of, no_fields, field, no_parameters, parameter, count, Proper, ProperTexts}
use Rattle.meaning.specs.FirstByte.{short_blanks, Kind, array, map, rec, function, symbol, variable, kind_byte}
use Rattle.meaning.specs.Encode.{sized, as_prim, array_bytes, map_bytes, blank_bytes, text_bytes, texts_bytes, encode}
use Rattle.meaning.specs.Within.{Bytes}
use Rattle.meaning.proofs.Rules.{facts, rule}
use Rattle.meaning.proofs.Window.{bytes-append}
use Rattle.meaning.proofs.Utf8.{utf8-bytes}
use Rattle.meaning.proofs.Complete.{code-small, encode-pos, count-le, texts-le, array_long, map-long}

-- A count is written as bytes.
leb-bytes : (n : ℕ) → n < 16384 → Bytes (leb128 n)
unfolding leb128
leb-bytes n h = rule Bytes (ltb n 128) _ _ (λ p. (omega (arith, facts), tt)) λ _. (omega arith, (omega arith, tt))

-- So is a payload with its size, if the payload is.
sized-bytes : (k : Kind) (q : List ℕ) → kind_byte k < 256 → length q < 65536 → Bytes q → Bytes (sized k q)
sized-bytes k q h l a = (h, (omega arith, (omega arith, a)))

-- So is a blank.
blank-bytes : (n : ℕ) → n < 65536 → Bytes (blank_bytes n)
unfolding blank_bytes
blank-bytes n h =
    rule Bytes (ltb n short_blanks) _ _ (λ p. (omega (arith, facts), tt)) λ _.
    sized-bytes variable (two_bytes n) (omega arith) (omega arith) (omega arith, (omega arith, tt))

-- So is an Array, if its child is.
array-bytes : (o : Option Primitive) (q : List ℕ) → length (array_bytes o q) ≤ 16384 → Bytes q → Bytes (array_bytes o q)
unfolding array_bytes
array-bytes none q l a = sized-bytes array q (omega arith) (omega arith) a
array-bytes (some p) q l a = (omega (arith, code-small p), tt)

-- So is a Map, if its children are.
map-bytes : (o o' : Option Primitive) (q : List ℕ) → length (map_bytes o o' q) ≤ 16384 → Bytes q → Bytes (map_bytes o o' q)
unfolding map_bytes
map-bytes none o q l a = sized-bytes map q (omega arith) (omega arith) a
map-bytes (some p) none q l a = sized-bytes map q (omega arith) (omega arith) a
map-bytes (some p) (some p') q l a = (omega (arith, code-small p, code-small p'), tt)

-- So are texts.
texts-bytes : (ts : List Text) → ProperTexts ts → length (texts_bytes ts) < 16384 → Bytes (texts_bytes ts)
unfolding texts_bytes ProperTexts
texts-bytes [] u h = tt
texts-bytes (t ∷ ts) u h =
    let k = simp length-append at h in
    bytes-append (text_bytes t) (texts_bytes ts) (bytes-append (leb128 (length t)) t (leb-bytes (length t) (omega arith)) (utf8-bytes t u.0)) (texts-bytes ts u.1 (omega arith))

-- So is a tree of up to 16,384 bytes: its counts and lengths take two bytes at most.
pub encode-bytes : {k : Sort} (t : Tree k) → Proper t → length (encode t) ≤ 16384 → Bytes (encode t)
unfolding encode Proper
encode-bytes (prim p) u h = (omega (arith, code-small p), tt)
encode-bytes (blank n) u h = blank-bytes n u
encode-bytes (array_of s) u h = array-bytes (as_prim s) (encode s) h (encode-bytes s u (le_trans (array_long s) h))
encode-bytes (map_of s t) u h = map-bytes (as_prim s) (as_prim t) (encode s ++ encode t) h (bytes-append (encode s) (encode t) (encode-bytes s u.0 (le_trans (map-long s t).0 h)) (encode-bytes t u.1 (le_trans (map-long s t).1 h)))
encode-bytes (record_of f) u h =
    let k = simp length-append at h in
    sized-bytes rec (leb128 (count f) ++ encode f) (omega arith) (omega arith) (bytes-append (leb128 (count f)) (encode f) (leb-bytes (count f) (omega (arith, count-le f))) (encode-bytes f u (omega arith)))
encode-bytes (function_of p r) u h =
    let k = simp length-append at h in
    sized-bytes function (leb128 (count p) ++ (encode p ++ encode r)) (omega arith) (omega arith) (bytes-append (leb128 (count p)) (encode p ++ encode r) (leb-bytes (count p) (omega (arith, count-le p))) (bytes-append (encode p) (encode r) (encode-bytes p u.0 (omega arith)) (encode-bytes r u.1 (omega arith))))
encode-bytes (symbol_of ts) u h =
    let k = simp length-append at h in
    sized-bytes symbol (leb128 (length ts) ++ texts_bytes ts) (omega arith) (omega arith) (bytes-append (leb128 (length ts)) (texts_bytes ts) (leb-bytes (length ts) (omega (arith, texts-le ts))) (texts-bytes ts u (omega arith)))
encode-bytes no_fields u h = tt
encode-bytes (field n s f) u h =
    let k = simp length-append at h in
    bytes-append (text_bytes n) (encode s ++ encode f) (bytes-append (leb128 (length n)) n (leb-bytes (length n) (omega (arith, encode-pos s))) (utf8-bytes n u.0)) (bytes-append (encode s) (encode f) (encode-bytes s u.1 (omega arith)) (encode-bytes f u.2 (omega arith)))
encode-bytes no_parameters u h = tt
encode-bytes (parameter s r) u h =
    let k = simp length-append at h in
    bytes-append (encode s) (encode r) (encode-bytes s u.0 (omega arith)) (encode-bytes r u.1 (omega arith))
