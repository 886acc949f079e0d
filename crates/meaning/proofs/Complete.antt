-- Reading the bytes of a shape gives the shape, whatever follows them.
--     reads     of a shape, of a list of fields and of one of parameters
-- Assumes nothing.
use Prim.Native.Nat.{ℕ, zero, suc, ◌+◌, ◌/◌, ◌%◌, ◌≤◌, ◌<◌, zero-le, suc-le-suc}
use native.Mathlib.Nat.{le_trans}
use mathlib.Core.Path.{◌≡◌, refl, ◌∙◌, ap, ap₂}
use mathlib.Core.Bool.{true, false}
use mathlib.Core.Option.{Option, none, some}
use mathlib.Core.List.{List, [], ◌∷◌, ◌++◌, append_assoc, append-nil}
use native.Mathlib.Omega.{arith}
use lib.Dec.{ltb}
use lib.ListN.{length, length-append}
use lib.Seq.{take-append_seam, drop-append_seam}
use borrow.Author.Tests.{ltb-true, lt-ltb, le-ltb, lt-leb, ne_eqb}
use Rattle.meaning.specs.Numbers.{two_bytes, of_two, leb128}
use Rattle.meaning.specs.Utf8.{utf8}
use Rattle.meaning.specs.Shape.{Text, Primitive, int, float, bool, str, bytes, Sort, shape, fields, parameters, Tree, prim, blank, array_of, map_of, record_of, function_of, symbol_of, no_fields, field, no_parameters, parameter, Shape, depth, count, Proper, ProperTexts}
use Rattle.meaning.specs.FirstByte.{code, prim_of, short_blanks, prim_byte, Kind, array, map, rec, function, symbol, variable, kind_byte, array_byte, map_byte, whole, packed, long, class_of}
use Rattle.meaning.specs.Encode.{sized, as_prim, array_bytes, map_bytes, blank_bytes, text_bytes, texts_bytes, encode}
use Rattle.meaning.specs.Reading.{got, next, Reader, ◌>>=◌, give, second_byte, read_count, has_short, finish, read_blank, read_text, read_texts, read_fields, read_parameters, read_payload, read_long, read_class, read_shape}
use Rattle.meaning.proofs.Rules.{facts, rule}

-- the reader m takes the bytes q for a, whatever follows them
abbrev pub Reads : {A : Type 0} → Reader A → List ℕ → A → Type 0
Reads m q a = (e : ℕ) (x : List ℕ) → m e (q ++ x) ≡ got a x

-- Two readers one after the other take two parts one after the other.
reads_then : {A B : Type 0} (m : Reader A) (f : A → Reader B) (q r : List ℕ) (a : A) (b : B) → Reads m q a → Reads (f a) r b → Reads (m >>= f) (q ++ r) b
unfolding next
reads_then m f q r a b h k e x = rw (append_assoc q r x, h e (r ++ x)) (k e x)

-- What is made of a thing read takes no more bytes.
reads-last : {A B : Type 0} (m : Reader A) (f : A → B) (q : List ℕ) (a : A) → Reads m q a → Reads (m >>= λ a. give (f a)) q (f a)
unfolding next
reads-last m f q a h e x = rw (h e x)

-- A count of two bytes at most is read back.
pub count-reads : (n : ℕ) → n < 16384 → Reads read_count (leb128 n) n
unfolding leb128 read_count second_byte
count-reads n h e x =
    rule (λ (q : List ℕ). read_count e (q ++ x) ≡ got n x) (ltb n 128) _ _ (λ p. rw p) λ p.
    rw (le-ltb (128 + n % 128) 128 (omega arith), lt-leb 128 (n / 128) (omega arith), ne_eqb (n / 128) 0 (omega (arith, facts))) (ap (λ (k : ℕ). got k x) (omega arith))

-- Two bytes are the number that they were made of.
pub two-value : (n : ℕ) → of_two (n % 256) (n / 256) ≡ n
two-value n = omega arith

-- The byte of a primitive says that primitive.
pub class-prim : (p : Primitive) → class_of (prim_byte (code p)) ≡ whole (prim p)
unfolding class_of code prim_of
class-prim int = refl
class-prim float = refl
class-prim bool = refl
class-prim str = refl
class-prim bytes = refl

-- That of an Array of a primitive says that Array.
pub class-array : (p : Primitive) → class_of (array_byte (code p)) ≡ packed (array_of (prim p))
unfolding class_of code prim_of
class-array int = refl
class-array float = refl
class-array bool = refl
class-array str = refl
class-array bytes = refl

-- There are five primitives.
pub code-small : (p : Primitive) → code p < 5
unfolding code
code-small int = omega arith
code-small float = omega arith
code-small bool = omega arith
code-small str = omega arith
code-small bytes = omega arith

-- A primitive is told by its number.
pub prim-code : (p : Primitive) → prim_of (code p) ≡ p
unfolding code prim_of
prim-code int = refl
prim-code float = refl
prim-code bool = refl
prim-code str = refl
prim-code bytes = refl

-- The byte of a Map of two primitives says that Map.
pub class-map : (p q : Primitive) → class_of (map_byte (code p) (code q)) ≡ packed (map_of (prim p) (prim q))
unfolding class_of
class-map p q = go (code p) (code q) (code-small p) (code-small q) ∙ rw (prim-code p, prim-code q)
  where
    go : (c d : ℕ) → c < 5 → d < 5 → class_of (map_byte c d) ≡ packed (map_of (prim (prim_of c)) (prim (prim_of d)))
    go c d h k =
        let b : ℕ = map_byte c d in
        rw (
          le-ltb b short_blanks (omega arith),
          le-ltb b (prim_byte 5) (omega arith),
          ne_eqb b (kind_byte array) (omega arith),
          ne_eqb b (kind_byte map) (omega arith),
          ne_eqb b (kind_byte rec) (omega arith),
          ne_eqb b (kind_byte function) (omega arith),
          ne_eqb b (kind_byte symbol) (omega arith),
          ne_eqb b (kind_byte variable) (omega arith),
          le-ltb b (array_byte 0) (omega arith),
          le-ltb b (array_byte 5) (omega arith),
          lt-ltb b (map_byte 5 0) (omega arith),
        )
        (ap₂ (λ (i j : ℕ). packed (map_of (prim (prim_of i)) (prim (prim_of j)))) (omega arith) (omega arith))

-- That of a short blank says that blank.
pub class-blank : (n : ℕ) → n < short_blanks → class_of n ≡ whole (blank n)
unfolding class_of
class-blank n h = rw (lt-ltb n short_blanks h)

-- The first byte of a shape with a payload says its kind.
pub class-kind : (k : Kind) → class_of (kind_byte k) ≡ long k
unfolding class_of
class-kind array = refl
class-kind map = refl
class-kind rec = refl
class-kind function = refl
class-kind symbol = refl
class-kind variable = refl

-- A shape that is a primitive is that primitive.
pub as-prim : (s : Shape) (p : Primitive) → as_prim s ≡ some p → s ≡ prim p
unfolding as_prim
as-prim (prim q) p h = cc
as-prim (blank n) p h = cc
as-prim (array_of s) p h = cc
as-prim (map_of s t) p h = cc
as-prim (record_of f) p h = cc
as-prim (function_of a r) p h = cc
as-prim (symbol_of ts) p h = cc

-- A count has a byte.
pub leb-pos : (n : ℕ) → 0 < length (leb128 n)
unfolding leb128
leb-pos n = rule (λ (w : List ℕ). 0 < length w) (ltb n 128) _ _ (λ _. omega arith) (λ _. omega arith)

-- So has a blank.
pub blank-pos : (n : ℕ) → 0 < length (blank_bytes n)
unfolding blank_bytes
blank-pos n = rule (λ (w : List ℕ). 0 < length w) (ltb n short_blanks) _ _ (λ _. omega arith) (λ _. omega arith)

-- An Array is no shorter than its child.
pub array_long : (s : Shape) → length (encode s) ≤ length (encode (array_of s))
unfolding encode array_bytes
array_long s = go (as_prim s) refl
  where
    go : (o : Option Primitive) → as_prim s ≡ o → length (encode s) ≤ length (array_bytes o (encode s))
    go none p = omega arith
    go (some b) p = rw (as-prim s b p) (omega arith)

-- Nor is a Map shorter than either of its children.
pub map-long : (s t : Shape) → (length (encode s) ≤ length (encode (map_of s t))) × (length (encode t) ≤ length (encode (map_of s t)))
unfolding encode map_bytes
map-long s t = go (as_prim s) refl (as_prim t) refl
  where
    go : (o : Option Primitive) → as_prim s ≡ o → (o' : Option Primitive) → as_prim t ≡ o' → (length (encode s) ≤ length (map_bytes o o' (encode s ++ encode t))) × (length (encode t) ≤ length (map_bytes o o' (encode s ++ encode t)))
    go none p o q = simp length-append (omega arith)
    go (some b) p none q = simp length-append (omega arith)
    go (some b) p (some c) q = rw (as-prim s b p, as-prim t c q) (omega arith)

-- A shape has a byte.
pub encode-pos : (s : Shape) → 0 < length (encode s)
unfolding encode
encode-pos (prim p) = omega arith
encode-pos (blank n) = blank-pos n
encode-pos (array_of s) = le_trans (encode-pos s) (array_long s)
encode-pos (map_of s t) = le_trans (encode-pos s) (map-long s t).0
encode-pos (record_of f) = omega arith
encode-pos (function_of p r) = omega arith
encode-pos (symbol_of ts) = omega arith

-- A shape has a level.
pub depth_pos : (s : Shape) → 0 < depth s
unfolding depth
depth_pos (prim p) = omega arith
depth_pos (blank n) = omega arith
depth_pos (array_of s) = omega arith
depth_pos (map_of s t) = omega arith
depth_pos (record_of f) = omega arith
depth_pos (function_of p r) = omega arith
depth_pos (symbol_of ts) = omega arith

-- There are no more fields or parameters than bytes of them.
pub count-le : {k : Sort} (t : Tree k) → count t ≤ length (encode t)
unfolding encode count
count-le (prim p) = zero-le
count-le (blank n) = zero-le
count-le (array_of s) = zero-le
count-le (map_of s t) = zero-le
count-le (record_of f) = zero-le
count-le (function_of p r) = zero-le
count-le (symbol_of ts) = zero-le
count-le no_fields = zero-le
count-le (field n s f) = simp length-append (omega (arith, leb-pos (length n), count-le f))
count-le no_parameters = zero-le
count-le (parameter s r) = simp length-append (omega (arith, encode-pos s, count-le r))

-- There are no more texts than bytes of them.
pub texts-le : (ts : List Text) → length ts ≤ length (texts_bytes ts)
unfolding texts_bytes
texts-le [] = zero-le
texts-le (t ∷ ts) = simp length-append (omega (arith, leb-pos (length t), texts-le ts))

-- A text is read back.
text-reads : (t : Text) → utf8 t ≡ true → length t < 16384 → Reads read_text (text_bytes t) t
unfolding read_text next
text-reads t u h e x = rw (append_assoc, count-reads (length t) h e (t ++ x), le-ltb (length (t ++ x)) (length t) (rw length-append (omega arith)), take-append_seam t x, u, drop-append_seam t x)

-- So are texts.
texts-read : (ts : List Text) → ProperTexts ts → length (texts_bytes ts) < 16384 → Reads (read_texts (length ts)) (texts_bytes ts) ts
unfolding read_texts texts_bytes ProperTexts
texts-read [] u h = λ e x. refl
texts-read (t ∷ ts) u h =
    let k = simp length-append at h in
    reads_then read_text _ (text_bytes t) (texts_bytes ts) t (t ∷ ts) (text-reads t u.0 (omega arith))
    (reads-last (read_texts (length ts)) (λ us. t ∷ us) (texts_bytes ts) ts (texts-read ts u.1 (omega arith)))

-- So is a shape of one byte without children, where a level is left.
whole-reads : (b : ℕ) (s : Shape) (l : ℕ) → class_of b ≡ whole s → 0 < l → Reads (read_shape l) (b ∷ []) s
unfolding read_shape read_class
whole-reads b s zero c h e x = absurd (omega arith)
whole-reads b s (suc l) c h e x = rw c

-- So is one with children, where two levels are left.
packed-reads : (b : ℕ) (s : Shape) (l : ℕ) → class_of b ≡ packed s → 1 < l → Reads (read_shape l) (b ∷ []) s
unfolding read_shape read_class
packed-reads b s zero c h e x = absurd (omega arith)
packed-reads b s (suc zero) c h e x = absurd (omega arith)
packed-reads b s (suc (suc l)) c h e x = rw c

-- So is a shape with a payload, if its payload is and it has no form of one byte.
long-reads : (k : Kind) (s : Shape) (l : ℕ) (q : List ℕ) → has_short s ≡ false → ((p : ℕ) → Reads (read_payload (read_shape l) p k) q s) → Reads (read_shape (suc l)) (sized k q) s
unfolding read_shape read_class read_long finish read_payload
long-reads k s l q h r e x =
    let whole-payload : (p d : ℕ) → read_payload (read_shape l) p k d q ≡ got s [] = λ p d. rw append-nil at (r p d []) in
    rw (class-kind k, two-value (length q), le-ltb (length (q ++ x)) (length q) (rw length-append (omega arith)), take-append_seam q x, drop-append_seam q x, whole-payload, h)

-- So is a blank.
blank-reads : (n l : ℕ) → 0 < l → Reads (read_shape l) (blank_bytes n) (blank n)
unfolding blank_bytes read_payload read_blank has_short
blank-reads n zero h = absurd (omega arith)
blank-reads n (suc l) h =
    rule (λ (q : List ℕ). Reads (read_shape (suc l)) q (blank n)) (ltb n short_blanks) _ _ (λ p. whole-reads n (blank n) (suc l) (class-blank n (ltb-true _ _ p)) h) λ p.
    long-reads variable (blank n) l (two_bytes n) p (λ _ e x. rw (two-value n))

-- So is an Array, if its child is.
array-reads : (s : Shape) (l : ℕ) → depth s ≤ l → Reads (read_shape l) (encode s) s → Reads (read_shape (suc l)) (encode (array_of s)) (array_of s)
unfolding encode array_bytes has_short read_payload depth
array-reads s l d ih = go (as_prim s) refl
  where
    go : (o : Option Primitive) → as_prim s ≡ o → Reads (read_shape (suc l)) (array_bytes (as_prim s) (encode s)) (array_of s)
    go none p = rw p (long-reads array (array_of s) l (encode s) (search p) (λ p. reads-last (read_shape l) array_of (encode s) s ih))
    go (some b) p = rw (p, as-prim s b p) (packed-reads (array_byte (code b)) (array_of (prim b)) (suc l) (class-array b) (suc-le-suc (rw (as-prim s b p) at d)))

-- So is a Map, if its children are.
map-reads : (s t : Shape) (l : ℕ) → depth s ≤ l → Reads (read_shape l) (encode s) s → Reads (read_shape l) (encode t) t → Reads (read_shape (suc l)) (encode (map_of s t)) (map_of s t)
unfolding encode map_bytes has_short read_payload depth
map-reads s t l d ih jh = go (as_prim s) refl (as_prim t) refl
  where
    payload : (p : ℕ) → Reads (read_payload (read_shape l) p map) (encode s ++ encode t) (map_of s t)
    payload p = reads_then (read_shape l) _ (encode s) (encode t) s (map_of s t) ih (reads-last (read_shape l) (map_of s) (encode t) t jh)

    go : (o : Option Primitive) → as_prim s ≡ o → (o' : Option Primitive) → as_prim t ≡ o' → Reads (read_shape (suc l)) (map_bytes (as_prim s) (as_prim t) (encode s ++ encode t)) (map_of s t)
    go none p o q = rw p (long-reads map (map_of s t) l (encode s ++ encode t) (search p) payload)
    go (some b) p none q = rw (p, q) (long-reads map (map_of s t) l (encode s ++ encode t) (search (p, q)) payload)
    go (some b) p (some c) q = rw (p, q, as-prim s b p, as-prim t c q) (packed-reads (map_byte (code b) (code c)) (map_of (prim b) (prim c)) (suc l) (class-map b c) (suc-le-suc (rw (as-prim s b p) at d)))

-- the three readers as one: of a shape, of n fields, of n parameters
abbrev pub reader : (k : Sort) → ℕ → ℕ → Reader (Tree k)
reader shape l n = read_shape l
reader fields l n = read_fields (read_shape l) n
reader parameters l n = read_parameters (read_shape l) n

-- So is a tree of up to 16,384 bytes, where as many levels are left as it is deep.
pub reads : {k : Sort} (t : Tree k) (l : ℕ) → depth t ≤ l → Proper t → length (encode t) ≤ 16384 → Reads (reader k l (count t)) (encode t) t
unfolding encode depth Proper read_fields read_parameters count has_short read_payload
reads (prim p) l d u h = whole-reads (prim_byte (code p)) (prim p) l (class-prim p) d
reads (blank n) l d u h = blank-reads n l d
reads (array_of s) zero d u h = absurd (omega arith)
reads (array_of s) (suc l) d u h = array-reads s l (omega arith) (reads s l (omega arith) u (le_trans (array_long s) h))
reads (map_of s t) zero d u h = absurd (omega arith)
reads (map_of s t) (suc l) d u h = map-reads s t l (omega arith) (reads s l (omega arith) u.0 (le_trans (map-long s t).0 h)) (reads t l (omega arith) u.1 (le_trans (map-long s t).1 h))
reads (record_of f) zero d u h = absurd (omega arith)
reads (record_of f) (suc l) d u h =
    let k = simp length-append at h in
    long-reads rec (record_of f) l (leb128 (count f) ++ encode f) refl (λ p. reads_then read_count _ (leb128 (count f)) (encode f) (count f) (record_of f) (count-reads (count f) (omega (arith, count-le f))) (reads-last (reader fields l (count f)) record_of (encode f) f (reads f l (omega arith) u (omega arith))))
reads (function_of p r) zero d u h = absurd (omega arith)
reads (function_of p r) (suc l) d u h =
    let k = simp length-append at h in
    long-reads function (function_of p r) l (leb128 (count p) ++ (encode p ++ encode r)) refl (λ _. reads_then read_count _ (leb128 (count p)) (encode p ++ encode r) (count p) (function_of p r) (count-reads (count p) (omega (arith, count-le p)))
    (reads_then (reader parameters l (count p)) _ (encode p) (encode r) p (function_of p r) (reads p l (omega arith) u.0 (omega arith)) (reads-last (read_shape l) (function_of p) (encode r) r (reads r l (omega arith) u.1 (omega arith)))))
reads (symbol_of ts) zero d u h = absurd (omega arith)
reads (symbol_of ts) (suc l) d u h =
    let k = simp length-append at h in
    long-reads symbol (symbol_of ts) l (leb128 (length ts) ++ texts_bytes ts) refl (λ _. reads_then read_count _ (leb128 (length ts)) (texts_bytes ts) (length ts) (symbol_of ts) (count-reads (length ts) (omega (arith, texts-le ts)))
    (reads-last (read_texts (length ts)) symbol_of (texts_bytes ts) ts (texts-read ts u (omega arith))))
reads no_fields l d u h = λ e x. refl
reads (field n s f) l d u h =
    let k = simp length-append at h in
    reads_then read_text _ (text_bytes n) (encode s ++ encode f) n (field n s f) (text-reads n u.0 (omega (arith, encode-pos s)))
    (reads_then (read_shape l) _ (encode s) (encode f) s (field n s f) (reads s l (omega arith) u.1 (omega arith))
    (reads-last (reader fields l (count f)) (field n s) (encode f) f (reads f l (omega arith) u.2 (omega arith))))
reads no_parameters l d u h = λ e x. refl
reads (parameter s r) l d u h =
    let k = simp length-append at h in
    reads_then (read_shape l) _ (encode s) (encode r) s (parameter s r) (reads s l (omega arith) u.0 (omega arith)) (reads-last (reader parameters l (count r)) (parameter s) (encode r) r (reads r l (omega arith) u.1 (omega arith)))
