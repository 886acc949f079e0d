-- The steps over an accepted encoding find what the meaning says of its shape's children and names.
--     child-steps, name-steps     of every shape within the limits
-- Assumes nothing.
use mathlib.Core.Path.{◌≡◌, refl, ap, ap₂, ◌∙◌}
use mathlib.Core.Bool.{Bool, true, false}
use mathlib.Core.Option.{Option, none, some}
use mathlib.Core.List.{List, [], ◌∷◌, ◌++◌}
use Prim.Native.Nat.{ℕ, zero, suc, ◌-◌, ◌/◌, ◌%◌, ◌≤◌, ◌<◌}
use native.Mathlib.Omega.{arith}
use lib.ListN.{length}
use lib.Dec.{ltb, eqb}
use borrow.Author.Tests.{ltb-true, le-ltb, lt-ltb, lt-leb, ne_eqb}
use Rattle.meaning.specs.Rules.{◌⇒◌∣◌}
use Rattle.meaning.specs.Refusals.{no_such_part}
use Rattle.meaning.specs.Numbers.{two_bytes, leb128}
use Rattle.meaning.specs.Shape.{Primitive, Shape, prim, blank, array_of, map_of, record_of, function_of, symbol_of, count}
use Rattle.meaning.specs.FirstByte.{code, short_blanks, prim_byte, array_byte, map_byte, class_of}
use Rattle.meaning.specs.FirstByte as Meant
use Rattle.meaning.specs.Encode.{sized, as_prim, array_bytes, map_bytes, blank_bytes, texts_bytes, encode}
use Rattle.meaning.specs.Reading.{got, has_short}
use Rattle.meaning.specs.Parts.{items, children, names, child_of}
use Rattle.meaning.proofs.Complete.{class-prim, class-array, class-map, class-blank, class-kind, code-small}
use Rattle.payloads.specs.First.{kind_said}
use Rattle.payloads.specs.declared.first.Kind.TheVariants.{Array, Map, Record, Function, Symbol, Variable}
use Rattle.steps.specs.declared.Listing.{Listing}
use Rattle.std.specs.Prelude.{Ok, Err}
use Rattle.leaves.specs.Faults.{refusal}
use Rattle.parts.specs.declared.FoundChild.TheVariants as child
use Rattle.parts.specs.Said.{child_said, name_said}
use Rattle.steps.specs.Steps.{head_size, first_at, list_at}
use Rattle.parts.specs.Found.{child_in, name_in, packed_child, child_by, name_with, child_steps, name_steps}
use Rattle.parts.proofs.Listed.{child-listed, name-listed}
use Rattle.parts.proofs.Lists.{array-listed, map-listed, record-listed, function-listed, symbol-listed}

-- a shape without children, without names
no-child : (t : Shape) (k : ℕ) → length (children t) ≡ 0 → Err (refusal no_such_part 0) ≡ child_said (got t []) k
no-child t k h = rw (h, le-ltb k 0 (omega arith))

no_name : (t : Shape) (k : ℕ) → length (names t) ≡ 0 → Err (refusal no_such_part 0) ≡ name_said (got t []) k
no_name t k h = rw (h, le-ltb k 0 (omega arith))

-- a byte that is a shape without children
low-child : (b k : ℕ) (t : Shape) → class_of b ≡ Meant.whole t → b < 96 → child_steps (b ∷ []) k ≡ Err (refusal no_such_part 0)
unfolding child_steps child_by first_at packed_child
low-child b k t c h = rw (c, lt-ltb b 96 h)

low-name : (b k : ℕ) (f : Bool) (t : Shape) → class_of b ≡ (f ⇒ Meant.whole t ∣ λ _. Meant.packed t) → name_steps (b ∷ []) k ≡ Err (refusal no_such_part 0)
unfolding name_steps name_with first_at
low-name b k true t c = rw c
low-name b k false t c = rw c

-- a shape with a payload
long-child : (s : List ℕ) (kind : Meant.Kind) (q : List ℕ) (k : ℕ) → s ≡ sized kind q → child_steps s k ≡ child_in s (kind_said kind) k (list_at s head_size (kind_said kind))
unfolding child_steps child_by first_at
long-child s kind q k e = rw (e, lt-leb (length (sized kind q)) 0 (omega arith), class-kind kind)

long-name : (s : List ℕ) (kind : Meant.Kind) (q : List ℕ) (k : ℕ) → s ≡ sized kind q → name_steps s k ≡ name_in s (kind_said kind) k (list_at s head_size (kind_said kind))
unfolding name_steps name_with first_at
long-name s kind q k e = rw (e, lt-leb (length (sized kind q)) 0 (omega arith), class-kind kind)

blank-child : (s : List ℕ) (k : ℕ) (l : Listing) → child_in s Variable k l ≡ Err (refusal no_such_part 0)
unfolding child_in
blank-child s k l = rw (le-ltb k 0 (omega arith))

blank-name : (s : List ℕ) (k : ℕ) (l : Listing) → name_in s Variable k l ≡ Err (refusal no_such_part 0)
unfolding name_in
blank-name s k l = rw (le-ltb k 0 (omega arith))

-- packed bytes
packed-array : (s : Shape) (p : Primitive) (k : ℕ) → as_prim s ≡ some p → child_steps (array_byte (code p) ∷ []) k ≡ child_said (got (array_of s) []) k
unfolding child_steps child_by first_at packed_child children child_of has_short items
packed-array s p k e = rw (class-array p, le-ltb (array_byte (code p)) 96 (omega arith), lt-ltb (array_byte (code p)) 101 (omega (arith, code-small p))) (go k)
  where
    go : (k : ℕ) → (eqb k 0 ⇒ Ok (child.Primitive (array_byte (code p) - 96)) ∣ λ _. Err (refusal no_such_part 1)) ≡ child_said (got (array_of s) []) k
    go zero = rw e (ap (λ n. Ok (child.Primitive n)) (omega arith))
    go (suc k) = rw (ne_eqb (suc k) 0 (omega arith), le-ltb (suc k) 1 (omega arith))

packed-map : (s t : Shape) (p q : Primitive) (k : ℕ) → as_prim s ≡ some p → as_prim t ≡ some q → child_steps (map_byte (code p) (code q) ∷ []) k ≡ child_said (got (map_of s t) []) k
unfolding child_steps child_by first_at packed_child children child_of has_short items
packed-map s t p q k e f = rw (class-map p q, le-ltb b 96 (omega arith), le-ltb b 101 (omega arith)) (go k)
  where
    b : ℕ
    b = map_byte (code p) (code q)

    go : (k : ℕ) → (eqb k 0 ⇒ Ok (child.Primitive ((b - 101) / 5)) ∣ λ _. eqb k 1 ⇒ Ok (child.Primitive ((b - 101) % 5)) ∣ λ _. Err (refusal no_such_part 2)) ≡ child_said (got (map_of s t) []) k
    go zero = rw (e, f) (ap (λ n. Ok (child.Primitive n)) (omega (arith, code-small q)))
    go (suc zero) = rw (e, f) (ap (λ n. Ok (child.Primitive n)) (omega (arith, code-small q)))
    go (suc (suc k)) = rw (ne_eqb (suc (suc k)) 0 (omega arith), ne_eqb (suc (suc k)) 1 (omega arith), le-ltb (suc (suc k)) 2 (omega arith))

pub child-steps : (t : Shape) → length (encode t) ≤ 16384 → (k : ℕ) → child_steps (encode t) k ≡ child_said (got t []) k
unfolding encode blank_bytes array_bytes map_bytes children has_short
child-steps (prim p) h k = low-child (prim_byte (code p)) k (prim p) (class-prim p) (omega (arith, code-small p)) ∙ no-child (prim p) k refl
child-steps (blank n) h k = go (ltb n short_blanks) refl ∙ no-child (blank n) k refl
  where
    go : (b : Bool) → ltb n short_blanks ≡ b → child_steps (blank_bytes n) k ≡ Err (refusal no_such_part 0)
    go true p = rw p (low-child n k (blank n) (class-blank n (ltb-true _ _ p)) (omega (arith, ltb-true n short_blanks p)))
    go false p =
        let s : List ℕ = sized Meant.variable (two_bytes n) in
        rw p (long-child s Meant.variable (two_bytes n) k refl ∙ blank-child s k (list_at s head_size Variable))
child-steps (array_of s) h k = go (as_prim s) refl
  where
    go : (o : Option Primitive) → as_prim s ≡ o → child_steps (array_bytes (as_prim s) (encode s)) k ≡ child_said (got (array_of s) []) k
    go none p = long-child _ Meant.array (encode s) k (rw p) ∙ child-listed (array_of s) Array (array-listed s (rw p)) k
    go (some b) p = ap (λ (o : Option Primitive). child_steps (array_bytes o (encode s)) k) p ∙ packed-array s b k p
child-steps (map_of s t) h k = go (as_prim s) refl (as_prim t) refl
  where
    go : (o : Option Primitive) → as_prim s ≡ o → (o' : Option Primitive) → as_prim t ≡ o' → child_steps (map_bytes (as_prim s) (as_prim t) (encode s ++ encode t)) k ≡ child_said (got (map_of s t) []) k
    go none p o q = long-child _ Meant.map (encode s ++ encode t) k (rw p) ∙ child-listed (map_of s t) Map (map-listed s t (rw p)) k
    go (some b) p none q = long-child _ Meant.map (encode s ++ encode t) k (rw (p, q)) ∙ child-listed (map_of s t) Map (map-listed s t (rw (p, q))) k
    go (some b) p (some c) q = ap₂ (λ (o o' : Option Primitive). child_steps (map_bytes o o' (encode s ++ encode t)) k) p q ∙ packed-map s t b c k p q
child-steps (record_of f) h k = long-child _ Meant.rec (leb128 (count f) ++ encode f) k refl ∙ child-listed (record_of f) Record (record-listed f h) k
child-steps (function_of p r) h k = long-child _ Meant.function (leb128 (count p) ++ (encode p ++ encode r)) k refl ∙ child-listed (function_of p r) Function (function-listed p r h) k
child-steps (symbol_of ts) h k = long-child _ Meant.symbol (leb128 (length ts) ++ texts_bytes ts) k refl ∙ child-listed (symbol_of ts) Symbol (symbol-listed ts h) k

pub name-steps : (t : Shape) → length (encode t) ≤ 16384 → (k : ℕ) → name_steps (encode t) k ≡ name_said (got t []) k
unfolding encode blank_bytes array_bytes map_bytes names has_short
name-steps (prim p) h k = low-name (prim_byte (code p)) k true (prim p) (class-prim p) ∙ no_name (prim p) k refl
name-steps (blank n) h k = go (ltb n short_blanks) refl ∙ no_name (blank n) k refl
  where
    go : (b : Bool) → ltb n short_blanks ≡ b → name_steps (blank_bytes n) k ≡ Err (refusal no_such_part 0)
    go true p = rw p (low-name n k true (blank n) (class-blank n (ltb-true _ _ p)))
    go false p =
        let s : List ℕ = sized Meant.variable (two_bytes n) in
        rw p (long-name s Meant.variable (two_bytes n) k refl ∙ blank-name s k (list_at s head_size Variable))
name-steps (array_of s) h k = go (as_prim s) refl
  where
    go : (o : Option Primitive) → as_prim s ≡ o → name_steps (array_bytes (as_prim s) (encode s)) k ≡ name_said (got (array_of s) []) k
    go none p = long-name _ Meant.array (encode s) k (rw p) ∙ name-listed (array_of s) Array (array-listed s (rw p)) k
    go (some b) p = ap (λ (o : Option Primitive). name_steps (array_bytes o (encode s)) k) p ∙ low-name _ k false (array_of (prim b)) (class-array b) ∙ no_name (array_of s) k refl
name-steps (map_of s t) h k = go (as_prim s) refl (as_prim t) refl
  where
    go : (o : Option Primitive) → as_prim s ≡ o → (o' : Option Primitive) → as_prim t ≡ o' → name_steps (map_bytes (as_prim s) (as_prim t) (encode s ++ encode t)) k ≡ name_said (got (map_of s t) []) k
    go none p o q = long-name _ Meant.map (encode s ++ encode t) k (rw p) ∙ name-listed (map_of s t) Map (map-listed s t (rw p)) k
    go (some b) p none q = long-name _ Meant.map (encode s ++ encode t) k (rw (p, q)) ∙ name-listed (map_of s t) Map (map-listed s t (rw (p, q))) k
    go (some b) p (some c) q = ap₂ (λ (o o' : Option Primitive). name_steps (map_bytes o o' (encode s ++ encode t)) k) p q ∙ low-name _ k false (map_of (prim b) (prim c)) (class-map b c) ∙ no_name (map_of s t) k refl
name-steps (record_of f) h k = long-name _ Meant.rec (leb128 (count f) ++ encode f) k refl ∙ name-listed (record_of f) Record (record-listed f h) k
name-steps (function_of p r) h k = long-name _ Meant.function (leb128 (count p) ++ (encode p ++ encode r)) k refl ∙ name-listed (function_of p r) Function (function-listed p r h) k
name-steps (symbol_of ts) h k = long-name _ Meant.symbol (leb128 (length ts) ++ texts_bytes ts) k refl ∙ name-listed (symbol_of ts) Symbol (symbol-listed ts h) k
