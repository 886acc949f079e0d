-- 01-scope.md, "Reading order": what bytes mean. This is the one meaning of reading; everything else hangs on it.
use Rattle.std.specs.Prelude.{ℕ, zero, suc, ◌+◌, ◌*◌, ◌-◌, ◌%◌, List, [], ◌∷◌, Bool, true, false, ◌&&◌, leb, ltb, eqb, length, take, drop}
use Rattle.std.proofs.Math.Option.{Option, none, some}
use Rattle.meaning.specs.Rules.{◌⇒◌∣◌}
use Rattle.meaning.specs.Limits.{max_bytes, max_levels}
use Rattle.meaning.specs.Refusals.{cut_short, not_assigned, size_wrong, unfinished, over_two_bytes, not_shortest, not_utf8, long_form, too_deep, input_too_long}
use Rattle.meaning.specs.Numbers.{of_two}
use Rattle.meaning.specs.Utf8.{utf8}
use Rattle.meaning.specs.Shape.{Text, Tree, fields, parameters, prim, blank, array_of, map_of, record_of, function_of, symbol_of, no_fields, field, no_parameters, parameter, Shape}
use Rattle.meaning.specs.FirstByte.{short_blanks, Kind, array, map, rec, function, symbol, variable, Class, whole, packed, long, unassigned, class_of}
use Rattle.meaning.specs.Encode.{as_prim}

-- a thing read with the bytes left in the window, or a fault's number and place
pub data Reading (A : Type 0) : Type 0 where
  got : A → List ℕ → Reading A
  bad : ℕ → ℕ → Reading A

-- "the first fault met is the answer"
unfoldable pub next : {A B : Type 0} → Reading A → (A → List ℕ → Reading B) → Reading B
next (got a w) f = f a w
next (bad n p) f = bad n p

-- a reader is handed the place where its window ends ("the enclosing payload, or the input") and the bytes from its own place up to there
abbrev pub Reader : Type 0 → Type 0
Reader A = ℕ → List ℕ → Reading A

infixl 20 ◌>>=◌
abbrev pub ◌>>=◌ : {A B : Type 0} → Reader A → (A → Reader B) → Reader B
◌>>=◌ m f = λ e w. next (m e w) (λ a v. f a e v)

abbrev pub give : {A : Type 0} → A → Reader A
give a = λ e w. got a w

-- the place at which w begins, in a window that ends at e
abbrev pub place : ℕ → List ℕ → ℕ
place e w = e - length w

-- "a LEB128 fault is 4, at the byte where it starts or should start"; p is that place, b the first byte
unfoldable pub second_byte : ℕ → ℕ → List ℕ → Reading ℕ
second_byte p b [] = bad unfinished p
second_byte p b (c ∷ w) =
    leb 128 c ⇒ bad over_two_bytes p ∣ λ _.
    eqb c 0 ⇒ bad not_shortest p ∣ λ _.
    got (b % 128 + 128 * c) w

unfoldable pub read_count : Reader ℕ
read_count e [] = bad unfinished e
read_count e (b ∷ w) =
    ltb b 128 ⇒ got b w ∣ λ _.
    second_byte (place e (b ∷ w)) b w

-- "a text that passes the payload is 1 at its length's place; then 5" at the text's first byte
unfoldable pub read_text : Reader Text
read_text e w = next (read_count e w) λ n v.
    ltb (length v) n ⇒ bad cut_short (place e w) ∣ λ _.
    utf8 (take n v) ⇒ got (take n v) (drop n v) ∣ λ _.
    bad not_utf8 (place e v)

unfoldable pub read_texts : ℕ → Reader (List Text)
read_texts zero = give []
read_texts (suc n) = do
  t ← read_text
  ts ← read_texts n
  give (t ∷ ts)

-- whether a shape has a form of one byte
abbrev pub some? : {A : Type 0} → Option A → Bool
some? none = false
some? (some a) = true

unfoldable pub has_short : Shape → Bool
has_short (prim p) = true
has_short (blank n) = ltb n short_blanks
has_short (array_of s) = some? (as_prim s)
has_short (map_of s t) = some? (as_prim s) && some? (as_prim t)
has_short (record_of f) = false
has_short (function_of p r) = false
has_short (symbol_of ts) = false

-- "Payload bytes left over: 3. Then 6": p is the shape's place, r what follows its payload
unfoldable pub finish : ℕ → List ℕ → Reading Shape → Reading Shape
finish p r (bad n q) = bad n q
finish p r (got s (b ∷ w)) = bad size_wrong p
finish p r (got s []) =
    has_short s ⇒ bad long_form p ∣ λ _.
    got s r

-- "A long Variable whose size is not 2 is 3": here the size under 2; a larger one leaves bytes over
unfoldable pub read_blank : ℕ → List ℕ → Reading Shape
read_blank p [] = bad size_wrong p
read_blank p (x ∷ []) = bad size_wrong p
read_blank p (x ∷ y ∷ w) = got (blank (of_two x y)) w

-- "A shape reads its list of children and each child reads a shape again": child reads one child
module _ (child : Reader Shape) where
  unfoldable pub read_fields : ℕ → Reader (Tree fields)
  read_fields zero = give no_fields
  read_fields (suc n) = do
    t ← read_text
    s ← child
    f ← read_fields n
    give (field t s f)

  unfoldable pub read_parameters : ℕ → Reader (Tree parameters)
  read_parameters zero = give no_parameters
  read_parameters (suc n) = do
    s ← child
    r ← read_parameters n
    give (parameter s r)

  -- a payload by its kind; p is the place of the shape whose payload it is
  unfoldable pub read_payload : ℕ → Kind → Reader Shape
  read_payload p array = do
    s ← child
    give (array_of s)
  read_payload p map = do
    s ← child
    t ← child
    give (map_of s t)
  read_payload p rec = do
    n ← read_count
    f ← read_fields n
    give (record_of f)
  read_payload p function = do
    n ← read_count
    a ← read_parameters n
    r ← child
    give (function_of a r)
  read_payload p symbol = do
    n ← read_count
    ts ← read_texts n
    give (symbol_of ts)
  read_payload p variable = λ e w. read_blank p w

  -- "For 64 to 69: 1 at the first byte if the size bytes or the payload pass the window. Then the payload"
  unfoldable pub read_long : ℕ → Kind → Reader Shape
  read_long p k e [] = bad cut_short p
  read_long p k e (x ∷ []) = bad cut_short p
  read_long p k e (x ∷ y ∷ w) =
      ltb (length w) (of_two x y) ⇒ bad cut_short p ∣ λ _.
      finish p (drop (of_two x y) w) (read_payload p k (place e (drop (of_two x y) w)) (take (of_two x y) w))

  -- "Then 2. Then 7, if its level is over 16, or is 16 and the byte is packed": l levels are left below the shape at p
  unfoldable pub read_class : ℕ → ℕ → Class → Reader Shape
  read_class l p unassigned e w = bad not_assigned p
  read_class l p (whole s) e w = got s w
  read_class zero p (packed s) e w = bad too_deep p
  read_class (suc l) p (packed s) e w = got s w
  read_class l p (long k) e w = read_long p k e w

-- no level is left for the shape at p
unfoldable pub no_level : ℕ → Class → Reading Shape
no_level p unassigned = bad not_assigned p
no_level p (whole s) = bad too_deep p
no_level p (packed s) = bad too_deep p
no_level p (long k) = bad too_deep p

-- "At a shape whose window ends at its place: 1 there": l levels are left, the shape's own among them, and its children have one less
unfoldable pub read_shape : ℕ → Reader Shape
read_shape zero e [] = bad cut_short e
read_shape zero e (b ∷ w) = no_level (place e (b ∷ w)) (class_of b)
read_shape (suc l) e [] = bad cut_short e
read_shape (suc l) e (b ∷ w) = read_class (read_shape l) l (place e (b ∷ w)) (class_of b) e w

-- "After the root, bytes left over: 3", at the first byte left over
unfoldable pub at_end : ℕ → Shape → List ℕ → Reading Shape
at_end e s [] = got s []
at_end e s (b ∷ w) = bad size_wrong (place e (b ∷ w))

-- "8 comes first. Then the bytes are read from the left": the shape that an input is, or its refusal
unfoldable pub reading : List ℕ → Reading Shape
reading w =
    ltb max_bytes (length w) ⇒ bad input_too_long max_bytes ∣ λ _.
    next (read_shape max_levels (length w) w) (at_end (length w))
