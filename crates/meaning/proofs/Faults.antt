-- What a refusal of reading carries: a number of its own, 1 to 8, and a place no further on than the input's end, or its limit.
--     refusal-small     so for any input
-- Assumes nothing.
use Prim.Native.Nat.{ℕ, zero, suc, ◌≤◌, ◌<◌}
use mathlib.Core.Path.{◌≡◌, sym, ap₂}
use mathlib.Core.List.{List, [], ◌∷◌}
use native.Mathlib.Omega.{arith}
use lib.Dec.{ltb, leb, eqb}
use lib.ListN.{length, take}
use Rattle.meaning.specs.Limits.{max_bytes, max_levels}
use Rattle.meaning.specs.Refusals.{input_too_long}
use Rattle.meaning.specs.Numbers.{of_two}
use Rattle.meaning.specs.Utf8.{utf8}
use Rattle.meaning.specs.Shape.{Shape}
use Rattle.meaning.specs.FirstByte.{Kind, array, map, rec, function, symbol, variable, Class, whole, packed, long, unassigned, class_of}
use Rattle.meaning.specs.Reading.{Reading, got, bad, next, Reader, ◌>>=◌, give, second_byte, read_count, read_text, read_texts, has_short, finish, read_blank, read_fields, read_parameters, read_payload, read_long, read_class, no_level, read_shape, at_end, reading}
use Rattle.meaning.proofs.Rules.{facts, rule}
use Rattle.meaning.proofs.Sound.{not-got}

-- a refusal's number is one of reading's, and its place lies no further on than top
pub record Fault (top n p : ℕ) : Type 0 where
  pub some : 0 < n
  pub known : n ≤ input_too_long
  pub inside : p ≤ top

-- the faults of a reader lie no further on than top, in every window that ends no further on
abbrev Faulty : {A : Type 0} → ℕ → Reader A → Type 0
Faulty top m = (e : ℕ) (w : List ℕ) (n p : ℕ) → e ≤ top → m e w ≡ bad n p → Fault top n p

pub not-bad : {A : Type 0} {n p : ℕ} {a : A} {v : List ℕ} → got a v ≡ bad n p → ⊥
not-bad h = not-got (sym h)

this : {A : Type 0} {top k q n p : ℕ} → 0 < k → k ≤ 8 → q ≤ top → ◌≡◌ {A = Reading A} (bad k q) (bad n p) → Fault top n p
this {A} {top} {k} {q} {n} {p} s l i h = let a : k ≡ n = cc in let b : q ≡ p = cc in record { some = omega arith; known = omega arith; inside = omega arith }

-- The fault of two readings is that of the first, or of the second.
pub by-bad : {A B P : Type 0} (x : Reading A) (f : A → List ℕ → Reading B) {n p : ℕ} → next x f ≡ bad n p → (x ≡ bad n p → P) → ((a : A) (u : List ℕ) → f a u ≡ bad n p → P) → P
unfolding next
by-bad (got a u) f h j k = k a u h
by-bad (bad m q) f {n} {p} h j k = let a : m ≡ n = cc in let b : q ≡ p = cc in j (ap₂ bad a b)

module _ (top : ℕ) where
  then-faulty : {A B : Type 0} (m : Reader A) (f : A → Reader B) → Faulty top m → ((a : A) → Faulty top (f a)) → Faulty top (m >>= f)
  then-faulty m f h k e w n p l g = by-bad (m e w) _ g (λ b. h e w n p l b) (λ a u b. k a e u n p l b)

  give-faulty : {A : Type 0} (a : A) → Faulty top (give a)
  give-faulty a e w n p l h = absurd (not-bad h)

  second-faulty : (q b : ℕ) (w : List ℕ) (n p : ℕ) → q ≤ top → second_byte q b w ≡ bad n p → Fault top n p
  unfolding second_byte
  second-faulty q b [] n p i = this (omega arith) (omega arith) i
  second-faulty q b (c ∷ w) n p i =
      rule (λ r. r ≡ bad n p → Fault top n p) (leb 128 c) _ _ (λ _. this (omega arith) (omega arith) i) λ _.
      rule (λ r. r ≡ bad n p → Fault top n p) (eqb c 0) _ _ (λ _. this (omega arith) (omega arith) i) λ _ h. absurd (not-bad h)

  count-faulty : Faulty top read_count
  unfolding read_count
  count-faulty e [] n p l = this (omega arith) (omega arith) l
  count-faulty e (b ∷ w) n p l =
      rule (λ r. r ≡ bad n p → Fault top n p) (ltb b 128) _ _ (λ _ h. absurd (not-bad h)) λ _. second-faulty _ b w n p (omega arith)

  text-faulty : Faulty top read_text
  unfolding read_text
  text-faulty e w n p l h = by-bad (read_count e w) _ h (count-faulty e w n p l) λ c v.
      rule (λ r. r ≡ bad n p → Fault top n p) (ltb (length v) c) _ _ (λ _. this (omega arith) (omega arith) (omega arith)) λ _.
      rule (λ r. r ≡ bad n p → Fault top n p) (utf8 (take c v)) _ _ (λ _ g. absurd (not-bad g)) λ _. this (omega arith) (omega arith) (omega arith)

  texts-faulty : (c : ℕ) → Faulty top (read_texts c)
  unfolding read_texts
  texts-faulty zero = give-faulty []
  texts-faulty (suc c) = then-faulty read_text _ text-faulty λ t. then-faulty (read_texts c) _ (texts-faulty c) λ ts. give-faulty (t ∷ ts)

  module _ (child : Reader Shape) (right : Faulty top child) where
    fields-faulty : (c : ℕ) → Faulty top (read_fields child c)
    unfolding read_fields
    fields-faulty zero = give-faulty _
    fields-faulty (suc c) = then-faulty read_text _ text-faulty λ t. then-faulty child _ right λ s. then-faulty (read_fields child c) _ (fields-faulty c) λ f. give-faulty _

    parameters-faulty : (c : ℕ) → Faulty top (read_parameters child c)
    unfolding read_parameters
    parameters-faulty zero = give-faulty _
    parameters-faulty (suc c) = then-faulty child _ right λ s. then-faulty (read_parameters child c) _ (parameters-faulty c) λ r. give-faulty _

    blank-faulty : (q : ℕ) (w : List ℕ) (n p : ℕ) → q ≤ top → read_blank q w ≡ bad n p → Fault top n p
    unfolding read_blank
    blank-faulty q [] n p i = this (omega arith) (omega arith) i
    blank-faulty q (x ∷ []) n p i = this (omega arith) (omega arith) i
    blank-faulty q (x ∷ y ∷ w) n p i = λ h. absurd (not-bad h)

    payload-faulty : (q : ℕ) (k : Kind) → q ≤ top → Faulty top (read_payload child q k)
    unfolding read_payload
    payload-faulty q array i = then-faulty child _ right λ s. give-faulty _
    payload-faulty q map i = then-faulty child _ right λ s. then-faulty child _ right λ t. give-faulty _
    payload-faulty q rec i = then-faulty read_count _ count-faulty λ c. then-faulty (read_fields child c) _ (fields-faulty c) λ f. give-faulty _
    payload-faulty q function i =
        then-faulty read_count _ count-faulty λ c. then-faulty (read_parameters child c) _ (parameters-faulty c) λ a. then-faulty child _ right λ r. give-faulty _
    payload-faulty q symbol i = then-faulty read_count _ count-faulty λ c. then-faulty (read_texts c) _ (texts-faulty c) λ ts. give-faulty _
    payload-faulty q variable i = λ e w n p l. blank-faulty q w n p i

    finish-faulty : (q : ℕ) (d : List ℕ) (r : Reading Shape) (n p : ℕ) → q ≤ top → (r ≡ bad n p → Fault top n p) → finish q d r ≡ bad n p → Fault top n p
    unfolding finish
    finish-faulty q d (bad m o) n p i k = k
    finish-faulty q d (got s (b ∷ w)) n p i k = this (omega arith) (omega arith) i
    finish-faulty q d (got s []) n p i k =
        rule (λ r. r ≡ bad n p → Fault top n p) (has_short s) _ _ (λ _. this (omega arith) (omega arith) i) λ _ h. absurd (not-bad h)

    long-faulty : (q : ℕ) (k : Kind) → q ≤ top → Faulty top (read_long child q k)
    unfolding read_long
    long-faulty q k i e [] n p l = this (omega arith) (omega arith) i
    long-faulty q k i e (x ∷ []) n p l = this (omega arith) (omega arith) i
    long-faulty q k i e (x ∷ y ∷ w) n p l =
        rule (λ r. r ≡ bad n p → Fault top n p) (ltb (length w) (of_two x y)) _ _ (λ _. this (omega arith) (omega arith) i) λ _.
        finish-faulty q _ _ n p i (payload-faulty q k i _ _ n p (omega arith))

    class-faulty : (l q : ℕ) (c : Class) → q ≤ top → Faulty top (read_class child l q c)
    unfolding read_class
    class-faulty l q unassigned i = λ e w n p m. this (omega arith) (omega arith) i
    class-faulty l q (whole s) i = λ e w n p m h. absurd (not-bad h)
    class-faulty zero q (packed s) i = λ e w n p m. this (omega arith) (omega arith) i
    class-faulty (suc l) q (packed s) i = λ e w n p m h. absurd (not-bad h)
    class-faulty l q (long k) i = long-faulty q k i

  level-faulty : (q : ℕ) (c : Class) (n p : ℕ) → q ≤ top → no_level q c ≡ bad n p → Fault top n p
  unfolding no_level
  level-faulty q unassigned n p i = this (omega arith) (omega arith) i
  level-faulty q (whole s) n p i = this (omega arith) (omega arith) i
  level-faulty q (packed s) n p i = this (omega arith) (omega arith) i
  level-faulty q (long k) n p i = this (omega arith) (omega arith) i

  shape-faulty : (l : ℕ) → Faulty top (read_shape l)
  unfolding read_shape
  shape-faulty zero e [] n p m = this (omega arith) (omega arith) m
  shape-faulty zero e (b ∷ w) n p m = level-faulty _ (class_of b) n p (omega arith)
  shape-faulty (suc l) e [] n p m = this (omega arith) (omega arith) m
  shape-faulty (suc l) e (b ∷ w) n p m = class-faulty (read_shape l) (shape-faulty l) l _ (class_of b) (omega arith) e w n p m

end-faulty : (e : ℕ) (s : Shape) (w : List ℕ) (n p : ℕ) → e ≤ max_bytes → at_end e s w ≡ bad n p → Fault max_bytes n p
unfolding at_end
end-faulty e s [] n p l = λ h. absurd (not-bad h)
end-faulty e s (b ∷ w) n p l = this (omega arith) (omega arith) (omega arith)

-- A refusal of reading has a number of 1 to 8, and a place of 2,048 at most.
pub refusal-small : (w : List ℕ) (n p : ℕ) → reading w ≡ bad n p → Fault max_bytes n p
unfolding reading
refusal-small w n p =
    rule (λ r. r ≡ bad n p → Fault max_bytes n p) (ltb max_bytes (length w)) _ _ (λ _. this (omega arith) (omega arith) (omega arith)) λ t h.
    let l : length w ≤ max_bytes = omega (arith, facts) in
    by-bad (read_shape max_levels (length w) w) _ h (shape-faulty max_bytes max_levels (length w) w n p l) (λ s v. end-faulty (length w) s v n p l)
