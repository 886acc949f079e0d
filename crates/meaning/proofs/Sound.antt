-- What is read as a shape are the bytes of that shape.
--     by_next, by-if, by-else     a reading that got something, taken apart
--     code-prim                   a number under 5 is that of its primitive
--     by-class                    what a first byte says, case by case
--     shape-right                 of the reader of shapes
-- Assumes nothing.
use Prim.Native.Nat.{ℕ, zero, suc, ◌+◌, ◌*◌, ◌-◌, ◌/◌, ◌%◌, ◌≤◌, ◌<◌, zero-le, suc-le-suc}
use mathlib.Core.Path.{◌≡◌, refl, sym, ◌∙◌, ap, ap₂}
use mathlib.Core.Bool.{Bool, true, false, ◌&&◌}
use mathlib.Core.Option.{Option, none, some}
use mathlib.Core.List.{List, [], ◌∷◌, ◌++◌, append_assoc, append-nil}
use native.Mathlib.Omega.{arith}
use lib.Dec.{leb, ltb, eqb}
use lib.ListN.{length, take, drop, take-append-drop}
use lib.Seq.{length-take-le}
use borrow.Author.Tests.{ltb-true, ltb-false, eqb-true, eqb-false, lt-ltb, le-ltb}
use Rattle.meaning.specs.Rules.{◌⇒◌∣◌}
use Rattle.meaning.specs.Numbers.{of_two, leb128}
use Rattle.meaning.specs.Utf8.{utf8}
use Rattle.meaning.specs.Shape.{Text, Primitive, Sort, Tree, prim, blank, array_of, map_of, record_of, function_of, symbol_of, Shape, depth, count, Proper, ProperTexts}
use Rattle.meaning.specs.FirstByte.{code, prim_of, short_blanks, prim_byte, Kind, array, map, rec, function, symbol, variable, kind_byte, array_byte, map_byte, Class, whole, packed, long, unassigned, class_of}
use Rattle.meaning.specs.Encode.{sized, as_prim, array_bytes, map_bytes, blank_bytes, text_bytes, texts_bytes, encode}
use Rattle.meaning.specs.Within.{Bytes}
use Rattle.meaning.specs.Reading.{Reading, got, bad, next, Reader, second_byte, read_count, some?, has_short, finish, read_blank, read_text, read_texts, read_fields, read_parameters, read_payload, read_long, read_class, no_level, read_shape}
use Rattle.meaning.proofs.Rules.{facts, rule}
use Rattle.meaning.proofs.Window.{bytes_take}

-- A fault is no thing read.
pub not-got : {A : Type 0} {n p : ℕ} {a : A} {v : List ℕ} → bad n p ≡ got a v → ⊥
not-got h = let z : ◌≡◌ {A = ℕ} 0 1 = cc in omega arith

-- One reading has one thing and one rest.
pub same-got : {A : Type 0} {a b : A} {u v : List ℕ} → got a u ≡ got b v → (a ≡ b) × (u ≡ v)
same-got h = (cc, cc)

-- Of two readers one after the other, both got something.
pub by_next : {A B P : Type 0} (x : Reading A) (f : A → List ℕ → Reading B) {b : B} {v : List ℕ} → next x f ≡ got b v → ((a : A) (u : List ℕ) → x ≡ got a u → f a u ≡ got b v → P) → P
unfolding next
by_next (got a u) f h k = k a u refl h
by_next (bad n p) f h k = absurd (not-got h)

-- Of two rules the first gave it, where the second refuses.
pub by-if : {A P : Type 0} {a : A} {v : List ℕ} (t : Bool) (x : Reading A) (n p : ℕ) → (t ⇒ x ∣ λ _. bad n p) ≡ got a v → (t ≡ true → x ≡ got a v → P) → P
by-if true x n p h k = k refl h
by-if false x n p h k = absurd (not-got h)

-- The rules below gave it, where the first refuses.
pub by-else : {A P : Type 0} {a : A} {v : List ℕ} (t : Bool) (n p : ℕ) (rest : Unit {0} → Reading A) → (t ⇒ bad n p ∣ rest) ≡ got a v → (t ≡ false → rest tt ≡ got a v → P) → P
by-else true n p rest h k = absurd (not-got h)
by-else false n p rest h k = k refl h

-- What follows, in bytes, is bytes.
pub bytes_rest : (q w v : List ℕ) → w ≡ q ++ v → Bytes w → Bytes v
bytes_rest q w v h b = go q (rw h at b)
  where
    go : (q : List ℕ) → Bytes (q ++ v) → Bytes v
    go [] b = b
    go (x ∷ q) b = go q b.1

-- Two parts, one after the other, are one.
pub glue : (v p q : List ℕ) {w u : List ℕ} → w ≡ p ++ u → u ≡ q ++ v → w ≡ (p ++ q) ++ v
glue v p q h k = h ∙ ap (λ (r : List ℕ). p ++ r) k ∙ sym (append_assoc p q v)

-- A part with nothing after it is the whole.
pub end : (p : List ℕ) {w u : List ℕ} → w ≡ p ++ u → u ≡ [] → p ≡ w
end p h k = sym (h ∙ ap (λ (r : List ℕ). p ++ r) k ∙ append-nil p)

-- A number under 128 is its own count.
short-leb : (x n : ℕ) → x ≡ n → ltb x 128 ≡ true → leb128 n ≡ x ∷ []
unfolding leb128
short-leb x n e p = rw (← e, p)

-- Two bytes, the first from 128 up and the second not 0, are the count of what they say.
long-leb : (x y n : ℕ) → x % 128 + 128 * y ≡ n → 128 ≤ x → x < 256 → (y ≡ 0 → ⊥) → leb128 n ≡ x ∷ y ∷ []
unfolding leb128
long-leb x y n e h k l = rw (le-ltb n 128 (omega arith)) (ap₂ (λ (i j : ℕ). i ∷ j ∷ []) (omega arith) (omega arith))

-- What is read as a count's second byte is that byte.
second-sound : (p x : ℕ) (w : List ℕ) (n : ℕ) (v : List ℕ) → 128 ≤ x → Bytes (x ∷ w) → second_byte p x w ≡ got n v → x ∷ w ≡ leb128 n ++ v
unfolding second_byte
second-sound p x [] n v g b h = absurd (not-got h)
second-sound p x (y ∷ w) n v g b h =
    by-else (leb 128 y) _ _ _ h λ _ h.
    by-else (eqb y 0) _ _ _ h λ q h.
    rw (long-leb x y n (same-got h).0 g b.0 (eqb-false _ _ q)) (ap (λ (u : List ℕ). x ∷ y ∷ u) (same-got h).1)

-- What is read as a count is the count's bytes.
count-sound : (e : ℕ) (w : List ℕ) (n : ℕ) (v : List ℕ) → Bytes w → read_count e w ≡ got n v → w ≡ leb128 n ++ v
unfolding read_count
count-sound e [] n v b h = absurd (not-got h)
count-sound e (x ∷ w) n v b h =
    rule (λ (r : Reading ℕ). r ≡ got n v → x ∷ w ≡ leb128 n ++ v) (ltb x 128) (got x w) _ (λ p h. rw (short-leb x n (same-got h).0 p) (ap (λ (u : List ℕ). x ∷ u) (same-got h).1))
    (λ p h. second-sound _ x w n v (ltb-false _ _ p) b h) h

-- A count and as many bytes are the bytes of a text.
text-was : (n : ℕ) (w u t v : List ℕ) → w ≡ leb128 n ++ u → n ≤ length u → take n u ≡ t → drop n u ≡ v → w ≡ text_bytes t ++ v
text-was n w u t v h k p q = rw (append_assoc, ← p, ← q, length-take-le n u, take-append-drop n u) h

-- An Array has the long form if it has no form of one byte.
pub long-array : (o : Option Primitive) (x : List ℕ) → some? o ≡ false → array_bytes o x ≡ sized array x
unfolding array_bytes
long-array none x h = refl
long-array (some p) x h = cc

-- So has a blank.
long-blank : (x y : ℕ) → x < 256 → y < 256 → ltb (of_two x y) short_blanks ≡ false → blank_bytes (of_two x y) ≡ sized variable (x ∷ y ∷ [])
unfolding blank_bytes
long-blank x y h k p = rw p (ap₂ (λ (i j : ℕ). sized variable (i ∷ j ∷ [])) (omega arith) (omega arith))

-- So has a Map.
pub long-map : (o o' : Option Primitive) (x : List ℕ) → (some? o && some? o') ≡ false → map_bytes o o' x ≡ sized map x
unfolding map_bytes
long-map none o x h = refl
long-map (some p) none x h = refl
long-map (some p) (some q) x h = cc

-- Two bytes and as many bytes as they say are a payload with its size.
split-sized : (k : Kind) (x y : ℕ) (w v : List ℕ) → x < 256 → y < 256 → of_two x y ≤ length w → drop (of_two x y) w ≡ v → sized k (take (of_two x y) w) ++ v ≡ kind_byte k ∷ x ∷ y ∷ w
split-sized k x y w v h g l e = rw (← e, length-take-le (of_two x y) w l, take-append-drop (of_two x y) w) (ap₂ (λ (i j : ℕ). kind_byte k ∷ i ∷ j ∷ w) (omega arith) (omega arith))

-- A shape is no list, so its count is 0.
shape-count : (s : Shape) → count s ≡ 0
unfolding count
shape-count (prim p) = refl
shape-count (blank n) = refl
shape-count (array_of s) = refl
shape-count (map_of s t) = refl
shape-count (record_of f) = refl
shape-count (function_of p r) = refl
shape-count (symbol_of ts) = refl

-- A number under 5 is that of its primitive.
pub code-prim : (n : ℕ) → n < 5 → code (prim_of n) ≡ n
unfolding code prim_of
code-prim zero h = refl
code-prim (suc zero) h = refl
code-prim (suc (suc zero)) h = refl
code-prim (suc (suc (suc zero))) h = refl
code-prim (suc (suc (suc (suc n)))) h = omega arith

-- What is read as a text is the text's bytes, and UTF-8.
text-sound : (e : ℕ) (w : List ℕ) (t : Text) (v : List ℕ) → Bytes w → read_text e w ≡ got t v → (w ≡ text_bytes t ++ v) × (utf8 t ≡ true)
unfolding read_text
text-sound e w t v b h =
    by_next (read_count e w) _ h λ n u hn h.
    by-else (ltb (length u) n) _ _ _ h λ p h.
    by-if (utf8 (take n u)) _ _ _ h λ q h.
    (text-was n w u t v (count-sound e w n u b hn) (ltb-false _ _ p) (same-got h).0 (same-got h).1, ap utf8 (sym (same-got h).0) ∙ q)

-- So are texts, as many as were asked for.
texts-sound : (n e : ℕ) (w : List ℕ) (ts : List Text) (v : List ℕ) → Bytes w → read_texts n e w ≡ got ts v → (w ≡ texts_bytes ts ++ v) × (length ts ≡ n) × ProperTexts ts
unfolding read_texts texts_bytes ProperTexts
texts-sound zero e w ts v b h = rw (← (same-got h).0) ((same-got h).1, refl, tt)
texts-sound (suc n) e w ts v b h =
    by_next (read_text e w) _ h λ t u ht h.
    by_next (read_texts n e u) _ h λ ts' u' hts h.
    let s = text-sound e w t u b ht in
    let r = texts-sound n e u ts' u' (bytes_rest (text_bytes t) w u s.0 b) hts in
    rw (← (same-got h).0) (glue v (text_bytes t) (texts_bytes ts') s.0 (rw (same-got h).1 at r.0), ap suc r.1, (s.1, r.2))

-- the bytes w are those of t and then v; t has n members and is at most l deep
pub record Took (l n : ℕ) {k : Sort} (w : List ℕ) (t : Tree k) (v : List ℕ) : Type 0 where
  pub is : w ≡ encode t ++ v
  pub counted : count t ≡ n
  pub shallow : depth t ≤ l
  pub proper : Proper t

-- a reader of trees that is right
abbrev pub Right : ℕ → ℕ → {k : Sort} → Reader (Tree k) → Type 0
Right l n {k} m = (e : ℕ) (w : List ℕ) (t : Tree k) (v : List ℕ) → Bytes w → m e w ≡ got t v → Took l n w t v

module _ (P : Class → Type 0) (b : ℕ) (blanks : b < short_blanks → P (whole (blank b))) (prims : (p : Primitive) → b ≡ prim_byte (code p) → P (whole (prim p)))
    (arrays : (p : Primitive) → b ≡ array_byte (code p) → P (packed (array_of (prim p))))
    (maps : (p q : Primitive) → b ≡ map_byte (code p) (code q) → P (packed (map_of (prim p) (prim q))))
    (kinds : (k : Kind) → b ≡ kind_byte k → P (long k)) (others : P unassigned) where
  -- What holds of all that a first byte may say holds of what it says.
  pub by-class : P (class_of b)
  unfolding class_of
  by-class =
      rule P (ltb b short_blanks) _ _ (λ p. blanks (ltb-true _ _ p)) λ p₁.
      rule P (ltb b (prim_byte 5)) _ _ (λ p. prims _ (omega (arith, facts, code-prim (b - prim_byte 0) (omega (arith, facts))))) λ p₂.
      rule P (eqb b (kind_byte array)) _ _ (λ p. kinds array (eqb-true _ _ p)) λ _.
      rule P (eqb b (kind_byte map)) _ _ (λ p. kinds map (eqb-true _ _ p)) λ _.
      rule P (eqb b (kind_byte rec)) _ _ (λ p. kinds rec (eqb-true _ _ p)) λ _.
      rule P (eqb b (kind_byte function)) _ _ (λ p. kinds function (eqb-true _ _ p)) λ _.
      rule P (eqb b (kind_byte symbol)) _ _ (λ p. kinds symbol (eqb-true _ _ p)) λ _.
      rule P (eqb b (kind_byte variable)) _ _ (λ p. kinds variable (eqb-true _ _ p)) λ _.
      rule P (ltb b (array_byte 0)) _ _ (λ p. others) λ p₃.
      rule P (ltb b (array_byte 5)) _ _ (λ p. arrays _ (omega (arith, facts, code-prim (b - array_byte 0) (omega (arith, facts))))) λ p₄.
      rule P (ltb b (map_byte 5 0)) _ _ (λ p. maps _ _ (omega (arith, facts, code-prim ((b - map_byte 0 0) / 5) (omega (arith, facts)), code-prim ((b - map_byte 0 0) % 5) (omega arith)))) λ p₅.
      others

-- what a first byte says is right
ClassFits : ℕ → Class → Type 0
ClassFits b (whole s) = (encode s ≡ b ∷ []) × (depth s ≡ 1) × Proper s
ClassFits b (packed s) = (encode s ≡ b ∷ []) × (depth s ≡ 2) × Proper s
ClassFits b (long k) = b ≡ kind_byte k
ClassFits b unassigned = Unit {0}

-- What any first byte says is right.
class-fits : (b : ℕ) → ClassFits b (class_of b)
unfolding ClassFits encode depth Proper blank_bytes array_bytes map_bytes as_prim
class-fits b =
    by-class (ClassFits b) b
    (λ h. (rw (lt-ltb b short_blanks h), refl, omega arith))
    (λ p e. (rw e, refl, tt))
    (λ p e. (rw e, refl, tt))
    (λ p q e. (rw e, refl, (tt, tt)))
    (λ k e. e)
    tt

-- A payload that was taken was read to its end, and is no long form of a short one.
finish-got : (p : ℕ) (d v : List ℕ) (s : Shape) (r : Reading Shape) → finish p d r ≡ got s v → (r ≡ got s []) × (has_short s ≡ false) × (d ≡ v)
unfolding finish
finish-got p d v s (bad n q) h = absurd (not-got h)
finish-got p d v s (got t (b ∷ w)) h = absurd (not-got h)
finish-got p d v s (got t []) h = by-else (has_short t) _ _ _ h λ q k. (ap (λ (x : Shape). got x []) (same-got k).0, ap has_short (sym (same-got k).0) ∙ q, (same-got k).1)

module _ (l : ℕ) (child : Reader Shape) (right : Right l 0 child) where
  -- The reader of fields is right.
  fields-right : (n : ℕ) → Right l n (read_fields child n)
  unfolding read_fields encode depth count Proper
  fields-right zero e w f v b h = rw (← (same-got h).0) (record { is = (same-got h).1; counted = refl; shallow = zero-le; proper = tt })
  fields-right (suc n) e w f v b h =
      by_next (read_text e w) _ h λ t u ht h.
      by_next (child e u) _ h λ s u' hs h.
      by_next (read_fields child n e u') _ h λ f' u'' hf h.
      let b₁ = text-sound e w t u b ht in
      let u-bytes = bytes_rest (text_bytes t) w u b₁.0 b in
      let b₂ = right e u s u' u-bytes hs in
      let b₃ = fields-right n e u' f' u'' (bytes_rest (encode s) u u' b₂.is u-bytes) hf in
      rw (← (same-got h).0) (record {
        is = glue v (text_bytes t) (encode s ++ encode f') b₁.0 (glue v (encode s) (encode f') b₂.is (rw (same-got h).1 at b₃.is));
        counted = ap suc b₃.counted;
        shallow = omega (arith, b₂.shallow, b₃.shallow);
        proper = (b₁.1, b₂.proper, b₃.proper);
      })

  -- So is that of parameters.
  parameters-right : (n : ℕ) → Right l n (read_parameters child n)
  unfolding read_parameters encode depth count Proper
  parameters-right zero e w f v b h = rw (← (same-got h).0) (record { is = (same-got h).1; counted = refl; shallow = zero-le; proper = tt })
  parameters-right (suc n) e w f v b h =
      by_next (child e w) _ h λ s u hs h.
      by_next (read_parameters child n e u) _ h λ r u' hr h.
      let b₁ = right e w s u b hs in
      let b₂ = parameters-right n e u r u' (bytes_rest (encode s) w u b₁.is b) hr in
      rw (← (same-got h).0) (record {
        is = glue v (encode s) (encode r) b₁.is (rw (same-got h).1 at b₂.is);
        counted = ap suc b₂.counted;
        shallow = omega (arith, b₁.shallow, b₂.shallow);
        proper = (b₁.proper, b₂.proper);
      })

  -- the payload q of the kind k is that of s
  record Whole (q : List ℕ) (k : Kind) (s : Shape) : Type 0 where
    is : encode s ≡ sized k q
    shallow : depth s ≤ suc l
    proper : Proper s

  -- A long Variable, read to its end, is right.
  variable-right : (p : ℕ) (q : List ℕ) (s : Shape) → Bytes q → has_short s ≡ false → read_blank p q ≡ got s [] → Whole q variable s
  unfolding read_blank encode depth Proper has_short
  variable-right p [] s b n h = absurd (not-got h)
  variable-right p (x ∷ []) s b n h = absurd (not-got h)
  variable-right p (x ∷ y ∷ r) s b n h =
      let z = rw (← (same-got h).0) at n in
      rw (← (same-got h).0, (same-got h).1) (record {
        is = long-blank x y b.0 b.1.0 z;
        shallow = omega arith;
        proper = omega arith;
      })

  -- So is any payload.
  payload-right : (k : Kind) (p e : ℕ) (q : List ℕ) (s : Shape) → Bytes q → has_short s ≡ false → read_payload child p k e q ≡ got s [] → Whole q k s
  unfolding read_payload encode depth Proper has_short
  payload-right array p e q s b n h =
      by_next (child e q) _ h λ t u ht h.
      let b₁ = right e q t u b ht in
      let z = rw (← (same-got h).0) at n in
      rw (← (same-got h).0) (record {
        is = long-array (as_prim t) (encode t) z ∙ ap (sized array) (end (encode t) b₁.is (same-got h).1);
        shallow = suc-le-suc b₁.shallow;
        proper = b₁.proper;
      })
  payload-right map p e q s b n h =
      by_next (child e q) _ h λ t u ht h.
      by_next (child e u) _ h λ t' u' ht' h.
      let b₁ = right e q t u b ht in
      let b₂ = right e u t' u' (bytes_rest (encode t) q u b₁.is b) ht' in
      let z = rw (← (same-got h).0) at n in
      rw (← (same-got h).0) (record {
        is = long-map (as_prim t) (as_prim t') (encode t ++ encode t') z ∙ ap (sized map) (end (encode t ++ encode t') (glue u' (encode t) (encode t') b₁.is b₂.is) (same-got h).1);
        shallow = omega (arith, b₁.shallow, b₂.shallow);
        proper = (b₁.proper, b₂.proper);
      })
  payload-right rec p e q s b n h =
      by_next (read_count e q) _ h λ c u hc h.
      by_next (read_fields child c e u) _ h λ f u' hf h.
      let b₁ = count-sound e q c u b hc in
      let b₂ = fields-right c e u f u' (bytes_rest (leb128 c) q u b₁ b) hf in
      rw (← (same-got h).0) (record {
        is = rw b₂.counted (ap (sized rec) (end (leb128 c ++ encode f) (glue u' (leb128 c) (encode f) b₁ b₂.is) (same-got h).1));
        shallow = suc-le-suc b₂.shallow;
        proper = b₂.proper;
      })
  payload-right function p e q s b n h =
      by_next (read_count e q) _ h λ c u hc h.
      by_next (read_parameters child c e u) _ h λ a u' ha h.
      by_next (child e u') _ h λ r u'' hr h.
      let b₁ = count-sound e q c u b hc in
      let u-bytes = bytes_rest (leb128 c) q u b₁ b in
      let b₂ = parameters-right c e u a u' u-bytes ha in
      let b₃ = right e u' r u'' (bytes_rest (encode a) u u' b₂.is u-bytes) hr in
      rw (← (same-got h).0) (record {
        is = rw b₂.counted (ap (sized function) (end (leb128 c ++ (encode a ++ encode r)) (glue u'' (leb128 c) (encode a ++ encode r) b₁ (glue u'' (encode a) (encode r) b₂.is b₃.is)) (same-got h).1));
        shallow = omega (arith, b₂.shallow, b₃.shallow);
        proper = (b₂.proper, b₃.proper);
      })
  payload-right symbol p e q s b n h =
      by_next (read_count e q) _ h λ c u hc h.
      by_next (read_texts c e u) _ h λ ts u' hts h.
      let b₁ = count-sound e q c u b hc in
      let b₂ = texts-sound c e u ts u' (bytes_rest (leb128 c) q u b₁ b) hts in
      rw (← (same-got h).0) (record {
        is = rw b₂.1 (ap (sized symbol) (end (leb128 c ++ texts_bytes ts) (glue u' (leb128 c) (texts_bytes ts) b₁ b₂.0) (same-got h).1));
        shallow = omega arith;
        proper = b₂.2;
      })
  payload-right variable p e q s b n h = variable-right p q s b n h

  -- The reader of a size and its payload is right.
  long-right : (k : Kind) (p e : ℕ) (w : List ℕ) (s : Shape) (v : List ℕ) → Bytes w → read_long child p k e w ≡ got s v → Took (suc l) 0 (kind_byte k ∷ w) s v
  unfolding read_long
  long-right k p e [] s v b h = absurd (not-got h)
  long-right k p e (x ∷ []) s v b h = absurd (not-got h)
  long-right k p e (x ∷ y ∷ w) s v b h =
      by-else (ltb (length w) (of_two x y)) _ _ _ h λ c h.
      let f = finish-got p (drop (of_two x y) w) v s _ h in
      let g = payload-right k p _ (take (of_two x y) w) s (bytes_take w (of_two x y) b.1.1) f.1 f.0 in
      record {
        is = rw g.is (sym (split-sized k x y w v b.0 b.1.0 (ltb-false _ _ c) f.2));
        counted = shape-count s;
        shallow = g.shallow;
        proper = g.proper;
      }

-- A shape of one byte is right.
short-right : (l x : ℕ) (w : List ℕ) (t s : Shape) (v : List ℕ) → encode t ≡ x ∷ [] → depth t ≤ l → Proper t → got t w ≡ got s v → Took l 0 (x ∷ w) s v
short-right l x w t s v f d u h = rw (← (same-got h).0, ← (same-got h).1) (record { is = rw f; counted = shape-count t; shallow = d; proper = u })

-- What is read after a first byte is right.
class-right : (l : ℕ) (child : Reader Shape) (right : Right l 0 child) (p x : ℕ) (c : Class) → ClassFits x c → (e : ℕ) (w : List ℕ) (s : Shape) (v : List ℕ) → Bytes w → read_class child l p c e w ≡ got s v → Took (suc l) 0 (x ∷ w) s v
unfolding read_class ClassFits
class-right l child right p x unassigned f e w s v b h = absurd (not-got h)
class-right l child right p x (whole t) f e w s v b h = short-right (suc l) x w t s v f.0 (omega arith) f.2 h
class-right zero child right p x (packed t) f e w s v b h = absurd (not-got h)
class-right (suc l) child right p x (packed t) f e w s v b h = short-right (suc (suc l)) x w t s v f.0 (omega arith) f.2 h
class-right l child right p x (long k) f e w s v b h = rw f (long-right l child right k p e w s v b h)

-- The reader of shapes is right, with any number of levels.
pub shape-right : (l : ℕ) → Right l 0 (read_shape l)
unfolding read_shape no_level
shape-right zero e [] s v b h = absurd (not-got h)
shape-right zero e (x ∷ w) s v b h = absurd (never (class_of x) h)
  where
    never : (c : Class) → no_level (e - length (x ∷ w)) c ≡ got s v → ⊥
    never (whole t) h = not-got h
    never (packed t) h = not-got h
    never (long k) h = not-got h
    never unassigned h = not-got h
shape-right (suc l) e [] s v b h = absurd (not-got h)
shape-right (suc l) e (x ∷ w) s v b h = class-right l (read_shape l) (shape-right l) _ x (class_of x) (class-fits x) e w s v b.1 h
