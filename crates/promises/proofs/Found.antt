-- What `child` and `name` found, by the shape of the bytes.
--     child-exact                   `child` says exactly what child k of the shape is: a place and a length, or a primitive's number
--     name-exact                    `name` says exactly where name k of the shape is, and how long
--     child-stands                  the bytes at a child's place are its encoding, inside the parent's payload
--     children-apart                children with bytes stand in order, and share none
--     packed-is                     a child of a packed parent is the primitive of that number
--     name-stands                   the bytes at a name's place are its text, inside the payload
-- Assumes nothing.
use Prim.Native.Nat.{ℕ, ◌+◌, ◌≤◌, ◌<◌}
use mathlib.Core.Path.{◌≡◌, refl, sym, ◌∙◌, ap, ap₂}
use mathlib.Core.Bool.{false}
use mathlib.Core.Logic.{◌↔◌}
use mathlib.Core.List.{List}
use native.Mathlib.Omega.{arith}
use lib.Dec.{ltb}
use lib.ListN.{length, take, drop}
use borrow.Author.Tests.{ltb-true, lt-ltb}
use Rattle.meaning.specs.Shape.{Primitive, prim, Shape}
use Rattle.meaning.specs.Within.{Bytes}
use Rattle.meaning.specs.FirstByte.{code}
use Rattle.meaning.specs.Encode.{as_prim, encode}
use Rattle.meaning.specs.Reading.{Reading, got, bad, has_short, reading}
use Rattle.meaning.specs.Parts.{Child, part, packed_prim, children, child_shape, child_of, number_of, names, name_text, name_place}
use Rattle.meaning.proofs.Rules.{rule}
use Rattle.meaning.proofs.Laws.{reading-encode, encode-reading}
use Rattle.meaning.proofs.Parts.{child_place, child-bytes, child-inside, child-apart, child-within, packed-child, name-bytes, name-inside}
use Rattle.std.specs.Prelude.{Result, Ok, Err}
use Rattle.leaves.specs.declared.refusals.Refusal.{Refusal}
use Rattle.parts.specs.declared.FoundChild.TheVariants as child
use Rattle.parts.specs.declared.FoundName.{FoundName}
use Rattle.parts.specs.Said.{told_child, child_said, name_of, name_said}
use Rattle.promises.specs.Told.{IsShape, InPayload, Found}
use Rattle.promises.proofs.Calls.{ChildSaid, NameSaid, ChildOf, NameOf}
use Rattle.promises.proofs.Says.{child-says, name-says}
use Rattle.promises.proofs.Exact.{same-exactly}

-- What is no refusal was found in the shape of the bytes.
by_shape : {R : Type 0} {bytes : List ℕ} (f : Reading Shape → R) {r : R} (P : Shape → Type 0) → Bytes bytes → r ≡ f (reading bytes) → ((s : Shape) (v : List ℕ) → r ≡ f (got s v) → P s) → ((n p : ℕ) → r ≡ f (bad n p) → ⊥) → Found bytes P
by_shape {R} {bytes} f {r} P b e found none = go (reading bytes) refl e
  where
    go : (x : Reading Shape) → reading bytes ≡ x → r ≡ f x → Found bytes P
    go (got s v) p h = let i = encode-reading bytes s v b p in (s, record { encoded = i.0; within = i.1 }, found s v h)
    go (bad n p) q h = absurd (none n p h)

-- What is told of two children alike is one child.
told-once : (c d : Child) → told_child c ≡ told_child d → c ≡ d
told-once (part p l) (part q m) h = cc
told-once (part p l) (packed_prim n) h = let z : ◌≡◌ {A = ℕ} 0 1 = cc in absurd (omega arith)
told-once (packed_prim n) (part p l) h = let z : ◌≡◌ {A = ℕ} 0 1 = cc in absurd (omega arith)
told-once (packed_prim n) (packed_prim m) h = cc

-- What is answered alike is one,
ok-once : {A : Type 0} {a b : A} → ◌≡◌ {A = Result A Refusal} (Ok a) (Ok b) → a ≡ b
ok-once h = cc

-- and no refusal.
answered-fine : {A : Type 0} {a : A} {r : Refusal} → ◌≡◌ {A = Result A Refusal} (Ok a) (Err r) → ⊥
answered-fine h = let z : ◌≡◌ {A = ℕ} 0 1 = cc in omega arith

module _ {bytes : List ℕ} {k : ℕ} where
  -- `child` says exactly what child k of the shape is: a place and a length, or a primitive's number where the parent is packed.
  pub child-exact : {r : ChildSaid} → ChildOf bytes k r → (d : Child) → (r ≡ Ok (told_child d)) ↔ Found bytes (λ s. (k < length (children s)) × (child_of s k ≡ d))
  child-exact {r} c d = (λ h. by_shape (λ x. child_said x k) _ c.small (sym h ∙ child-says c) found (λ n p. answered-fine), λ f. child-says c ∙ said-so f.1 f.2.0 ∙ ap (λ (c : Child). Ok (told_child c)) f.2.1)
    where
      found : (s : Shape) (v : List ℕ) → Ok (told_child d) ≡ child_said (got s v) k → (k < length (children s)) × (child_of s k ≡ d)
      found s v = rule (λ e. Ok (told_child d) ≡ e → (k < length (children s)) × (child_of s k ≡ d)) (ltb k (length (children s))) _ _ (λ t h. (ltb-true _ _ t, told-once _ _ (ok-once (sym h)))) (λ _ h. absurd (answered-fine h))

      said-so : {s : Shape} → IsShape bytes s → k < length (children s) → child_said (reading bytes) k ≡ Ok (told_child (child_of s k))
      said-so {s} i l = rw (i.encoded, reading-encode s i.within, lt-ltb k (length (children s)) l)

  -- `name` says exactly where name k of the shape is, and how long.
  pub name-exact : {r : NameSaid} → NameOf bytes k r → (place size : ℕ) → (r ≡ Ok (name_of place size)) ↔ Found bytes (λ s. (k < length (names s)) × (name_place s k ≡ place) × (length (name_text s k) ≡ size))
  name-exact {r} c place size = (
    λ h. by_shape (λ x. name_said x k) _ c.small (sym h ∙ name-says c) found (λ n p. answered-fine),
    λ f. name-says c ∙ said-so f.1 f.2.0 ∙ ap₂ (λ place size. Ok (name_of place size)) f.2.1 f.2.2,
  )
    where
      found : (s : Shape) (v : List ℕ) → Ok (name_of place size) ≡ name_said (got s v) k → (k < length (names s)) × (name_place s k ≡ place) × (length (name_text s k) ≡ size)
      found s v =
          rule (λ d. Ok (name_of place size) ≡ d → (k < length (names s)) × (name_place s k ≡ place) × (length (name_text s k) ≡ size)) (ltb k (length (names s))) _ _
          (λ t h. let e = ok-once h in (ltb-true _ _ t, sym (ap (λ (a : FoundName). a.place) e), sym (ap (λ (a : FoundName). a.length) e))) (λ _ h. absurd (answered-fine h))

      said-so : {s : Shape} → IsShape bytes s → k < length (names s) → name_said (reading bytes) k ≡ Ok (name_of (name_place s k) (length (name_text s k)))
      said-so {s} i l = rw (i.encoded, reading-encode s i.within, lt-ltb k (length (names s)) l)

-- child k of s has size bytes at place
record PartOf (s : Shape) (k place size : ℕ) : Type 0 where
  there : k < length (children s)
  long : has_short s ≡ false
  placed : place ≡ child_place s k
  sized : size ≡ length (encode (child_shape s k))

part_of : {s : Shape} {k place size : ℕ} → k < length (children s) → child_of s k ≡ part place size → PartOf s k place size
unfolding child_of
part_of {s} {k} {place} {size} l =
    rule (λ c. c ≡ part place size → PartOf s k place size) (has_short s) _ _ (λ _ h. let z : ◌≡◌ {A = ℕ} 0 1 = cc in absurd (omega arith)) (λ e h. record { there = l; long = e; placed = cc; sized = cc })

-- The bytes at a child's place are its encoding, inside the parent's payload.
pub child-stands : {bytes : List ℕ} {k place size : ℕ} → ChildOf bytes k (Ok (child.Part place size))
    → Found bytes (λ s. (k < length (children s)) × IsShape (take size (drop place bytes)) (child_shape s k) × InPayload bytes place size)
child-stands {bytes} {k} {place} {size} c = let f = (child-exact c (part place size)).0 refl in (f.0, f.1, stands f.1 (part_of f.2.0 f.2.1))
  where
    stands : {s : Shape} → IsShape bytes s → PartOf s k place size → (k < length (children s)) × IsShape (take size (drop place bytes)) (child_shape s k) × InPayload bytes place size
    stands {s} w p =
        (p.there, rw (p.placed, p.sized, w.encoded) (record { encoded = child-bytes s k p.long p.there; within = child-within s k w.within p.there }), rw (p.placed, p.sized, w.encoded) (child-inside s k p.long p.there))

-- Two children of one shape stand in order, and share no byte.
parts-apart : {s t : Shape} {j k place size place' size' : ℕ} → t ≡ s → PartOf s j place size → PartOf t k place' size' → j < k → place + size ≤ place'
parts-apart {s} {j = j} {k = k} e p q l = let q = rw e at q in rw (p.placed, p.sized, q.placed) (child-apart s j k l q.there)

-- So do two children of the same bytes.
pub children-apart : {bytes : List ℕ} {j k place size place' size' : ℕ} → ChildOf bytes j (Ok (child.Part place size)) → ChildOf bytes k (Ok (child.Part place' size')) → j < k → place + size ≤ place'
children-apart {place = place} {size = size} {place' = place'} {size' = size'} c d =
    let f = (child-exact c (part place size)).0 refl in let g = (child-exact d (part place' size')).0 refl in
    parts-apart ((same-exactly g.1 f.1).0 refl) (part_of f.2.0 f.2.1) (part_of g.2.0 g.2.1)

-- The number of a packed child is that of a primitive.
packed-of : (s : Shape) {k number : ℕ} → k < length (children s) → child_of s k ≡ packed_prim number → (p : Primitive) × (child_shape s k ≡ prim p) × (number ≡ code p)
unfolding child_of as_prim
packed-of s {k} {number} l =
    rule (λ c. c ≡ packed_prim number → (p : Primitive) × (child_shape s k ≡ prim p) × (number ≡ code p)) (has_short s) _ _
    (λ e h. let p = packed-child s k e l in let q : number ≡ number_of (as_prim (child_shape s k)) = cc in (p.0, p.1, rw p.1 at q))
    (λ _ h. let z : ◌≡◌ {A = ℕ} 0 1 = cc in absurd (omega arith))

-- A child of a packed parent is the primitive of that number.
pub packed-is : {bytes : List ℕ} {k number : ℕ} → ChildOf bytes k (Ok (child.Primitive number)) → Found bytes (λ s. (k < length (children s)) × ((p : Primitive) × (child_shape s k ≡ prim p) × (number ≡ code p)))
packed-is {number = number} c = let f = (child-exact c (packed_prim number)).0 refl in (f.0, f.1, (f.2.0, packed-of f.0 f.2.0 f.2.1))

-- The bytes at a name's place are its text, inside the payload.
pub name-stands : {bytes : List ℕ} {k place size : ℕ} → NameOf bytes k (Ok (name_of place size)) → Found bytes (λ s. (k < length (names s)) × (take size (drop place bytes) ≡ name_text s k) × InPayload bytes place size)
name-stands {bytes} {k} {place} {size} c = let f = (name-exact c place size).0 refl in (f.0, f.1, stands f.1 f.2.0 f.2.1 f.2.2)
  where
    stands : {s : Shape} → IsShape bytes s → k < length (names s) → name_place s k ≡ place → length (name_text s k) ≡ size → (k < length (names s)) × (take size (drop place bytes) ≡ name_text s k) × InPayload bytes place size
    stands {s} w l p q = (l, rw (← p, ← q, w.encoded) (name-bytes s k l), rw (← p, ← q, w.encoded) (name-inside s k l))
