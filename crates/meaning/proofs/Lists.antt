-- The payload of a shape is its list of items, after the count.
--     list_of          from list_start on, the bytes of a shape that has items are those of its items
--     list-drop        after k items the rest of the list stands
--     child-is         the shape of item k is child k
--     name-is          the text of item k is name k
-- Assumes nothing.
use mathlib.Core.Path.{◌≡◌, refl, sym, ap, ◌∙◌}
use mathlib.Core.Bool.{false}
use mathlib.Core.List.{List, [], ◌∷◌, ◌++◌, append_assoc, append-nil}
use Prim.Native.Nat.{ℕ, zero, suc, ◌+◌, ◌<◌}
use native.Mathlib.Omega.{arith}
use lib.ListN.{length, take, drop, get_or, length-append}
use lib.Seq.{drop-append_seam, drop-append-add}
use Rattle.meaning.specs.Numbers.{leb128}
use Rattle.meaning.specs.Shape.{Text, Tree, fields, parameters, prim, blank, array_of, map_of, record_of, function_of, symbol_of, no_fields, field, no_parameters, parameter, Shape, count}
use Rattle.meaning.specs.Encode.{as_prim, texts_bytes, encode}
use Rattle.meaning.specs.Reading.{has_short}
use Rattle.meaning.specs.Parts.{field_shapes, parameter_shapes, children, field_names, names, Item, bare, named, lone, field_items, parameter_items, text_items, items, name_bytes, shape_bytes, list_bytes, list_start, item_of, child_shape, name_text}
use Rattle.meaning.proofs.Sound.{long-array, long-map}

pub list-append : (a b : List Item) → list_bytes (a ++ b) ≡ list_bytes a ++ list_bytes b
unfolding list_bytes
list-append [] b = refl
list-append (i ∷ a) b = rw (list-append a b, append_assoc (name_bytes i) (shape_bytes i ++ list_bytes a) (list_bytes b), append_assoc (shape_bytes i) (list_bytes a) (list_bytes b))

pub fields-list : (f : Tree fields) → list_bytes (field_items f) ≡ encode f
unfolding list_bytes field_items encode name_bytes shape_bytes
fields-list no_fields = refl
fields-list (field n s f) = rw (fields-list f)

pub parameters-list : (p : Tree parameters) → list_bytes (parameter_items p) ≡ encode p
unfolding list_bytes parameter_items encode name_bytes shape_bytes
parameters-list no_parameters = refl
parameters-list (parameter s p) = rw (parameters-list p)

pub texts-list : (ts : List Text) → list_bytes (text_items ts) ≡ texts_bytes ts
unfolding list_bytes text_items texts_bytes name_bytes shape_bytes
texts-list [] = refl
texts-list (t ∷ ts) = rw (texts-list ts)

one_list : (s : Shape) → list_bytes (bare s ∷ []) ≡ encode s
unfolding list_bytes name_bytes shape_bytes
one_list s = append-nil (encode s)

two-list : (s t : Shape) → list_bytes (bare s ∷ bare t ∷ []) ≡ encode s ++ encode t
unfolding list_bytes name_bytes shape_bytes
two-list s t = rw (append-nil (encode t))

function-list : (p : Tree parameters) (r : Shape) → list_bytes (parameter_items p ++ (bare r ∷ [])) ≡ encode p ++ encode r
function-list p r = list-append (parameter_items p) (bare r ∷ []) ∙ rw (parameters-list p, one_list r)

past_head : (x y : ℕ) (b : ℕ) (c q : List ℕ) → drop (3 + length c) (b ∷ x ∷ y ∷ (c ++ q)) ≡ q
past_head x y b c q = drop-append-add (b ∷ x ∷ y ∷ []) (c ++ q) (length c) ∙ drop-append_seam c q

-- From where its list starts, a shape that has items in its payload is those items.
pub list_of : (s : Shape) → has_short s ≡ false → 0 < length (items s) → drop (list_start s) (encode s) ≡ list_bytes (items s)
unfolding has_short items list_start encode
list_of (prim p) h k = absurd (omega arith)
list_of (blank n) h k = absurd (omega arith)
list_of (array_of s) h k = rw (long-array (as_prim s) (encode s) h) (sym (one_list s))
list_of (map_of s t) h k = rw (long-map (as_prim s) (as_prim t) (encode s ++ encode t) h) (sym (two-list s t))
list_of (record_of f) h k = past_head _ _ _ (leb128 (count f)) (encode f) ∙ sym (fields-list f)
list_of (function_of p r) h k = past_head _ _ _ (leb128 (count p)) (encode p ++ encode r) ∙ sym (function-list p r)
list_of (symbol_of ts) h k = past_head _ _ _ (leb128 (length ts)) (texts_bytes ts) ∙ sym (texts-list ts)

-- After the bytes of k items come those of the others.
pub list-drop : (is : List Item) (k : ℕ) → drop (length (list_bytes (take k is))) (list_bytes is) ≡ list_bytes (drop k is)
unfolding list_bytes
list-drop is zero = refl
list-drop [] (suc k) = refl
list-drop (i ∷ is) (suc k) =
    simp length-append
    (drop-append-add (name_bytes i) (shape_bytes i ++ list_bytes is) (length (shape_bytes i) + length (list_bytes (take k is)))
    ∙ drop-append-add (shape_bytes i) (list_bytes is) (length (list_bytes (take k is)))
    ∙ list-drop is k)

-- As many items as fields, parameters and a return, texts.
pub fields-count : (f : Tree fields) → length (field_items f) ≡ count f
unfolding field_items count
fields-count no_fields = refl
fields-count (field n s f) = ap suc (fields-count f)

pub parameters-count : (p : Tree parameters) (r : Shape) → length (parameter_items p ++ (bare r ∷ [])) ≡ count p + 1
unfolding parameter_items count
parameters-count no_parameters r = refl
parameters-count (parameter s p) r = omega (arith, parameters-count p r)

pub texts-count : (ts : List Text) → length (text_items ts) ≡ length ts
unfolding text_items
texts-count [] = refl
texts-count (t ∷ ts) = ap suc (texts-count ts)

pub field-shapes : (f : Tree fields) → length (field_shapes f) ≡ length (field_items f)
unfolding field_items field_shapes
field-shapes no_fields = refl
field-shapes (field n s f) = ap suc (field-shapes f)

pub field-names : (f : Tree fields) → length (field_names f) ≡ length (field_items f)
unfolding field_items field_names
field-names no_fields = refl
field-names (field n s f) = ap suc (field-names f)

pub parameter-shapes : (p : Tree parameters) (r : Shape) → length (parameter_shapes p ++ (r ∷ [])) ≡ length (parameter_items p ++ (bare r ∷ []))
unfolding parameter_items parameter_shapes
parameter-shapes no_parameters r = refl
parameter-shapes (parameter s p) r = ap suc (parameter-shapes p r)

field_is : (f : Tree fields) (k : ℕ) → k < length (field_shapes f) → shape_bytes (get_or (field_items f) k (lone [])) ≡ encode (get_or (field_shapes f) k (blank 0))
unfolding field_items field_shapes shape_bytes
field_is no_fields k h = absurd (omega arith)
field_is (field n s f) zero h = refl
field_is (field n s f) (suc k) h = field_is f k (omega arith)

parameter-is : (p : Tree parameters) (r : Shape) (k : ℕ) → k < length (parameter_shapes p ++ (r ∷ []))
    → shape_bytes (get_or (parameter_items p ++ (bare r ∷ [])) k (lone [])) ≡ encode (get_or (parameter_shapes p ++ (r ∷ [])) k (blank 0))
unfolding parameter_items parameter_shapes shape_bytes
parameter-is no_parameters r zero h = refl
parameter-is no_parameters r (suc k) h = absurd (omega arith)
parameter-is (parameter s p) r zero h = refl
parameter-is (parameter s p) r (suc k) h = parameter-is p r k (omega arith)

-- The shape of item k is child k.
pub child-is : (s : Shape) (k : ℕ) → k < length (children s) → shape_bytes (item_of s k) ≡ encode (child_shape s k)
unfolding items children shape_bytes
child-is (prim p) k h = absurd (omega arith)
child-is (blank n) k h = absurd (omega arith)
child-is (array_of s) zero h = refl
child-is (array_of s) (suc k) h = absurd (omega arith)
child-is (map_of s t) zero h = refl
child-is (map_of s t) (suc zero) h = refl
child-is (map_of s t) (suc (suc k)) h = absurd (omega arith)
child-is (record_of f) k h = field_is f k h
child-is (function_of p r) k h = parameter-is p r k h
child-is (symbol_of ts) k h = absurd (omega arith)

-- the text of an item, empty where it has none
unfoldable pub text_of : Item → Text
text_of (bare s) = []
text_of (named t s) = t
text_of (lone t) = t

field-text : (f : Tree fields) (k : ℕ) → text_of (get_or (field_items f) k (lone [])) ≡ get_or (field_names f) k []
unfolding field_items field_names text_of
field-text no_fields k = refl
field-text (field n s f) zero = refl
field-text (field n s f) (suc k) = field-text f k

parameter-text : (p : Tree parameters) (r : Shape) (k : ℕ) → text_of (get_or (parameter_items p ++ (bare r ∷ [])) k (lone [])) ≡ []
unfolding parameter_items text_of
parameter-text no_parameters r zero = refl
parameter-text no_parameters r (suc k) = refl
parameter-text (parameter s p) r zero = refl
parameter-text (parameter s p) r (suc k) = parameter-text p r k

symbol-text : (ts : List Text) (k : ℕ) → text_of (get_or (text_items ts) k (lone [])) ≡ get_or ts k []
unfolding text_items text_of
symbol-text [] k = refl
symbol-text (t ∷ ts) zero = refl
symbol-text (t ∷ ts) (suc k) = symbol-text ts k

-- The text of item k is name k.
pub name-is : (s : Shape) (k : ℕ) → text_of (item_of s k) ≡ name_text s k
unfolding items names text_of
name-is (prim p) k = refl
name-is (blank n) k = refl
name-is (array_of s) zero = refl
name-is (array_of s) (suc k) = refl
name-is (map_of s t) zero = refl
name-is (map_of s t) (suc zero) = refl
name-is (map_of s t) (suc (suc k)) = refl
name-is (record_of f) k = field-text f k
name-is (function_of p r) k = parameter-text p r k
name-is (symbol_of ts) k = symbol-text ts k
