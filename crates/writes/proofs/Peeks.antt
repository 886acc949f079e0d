-- What a look tells of what the pass makes.
--     prim-encoded            the primitive that an encoding is, is that of its shape
--     prim-blank              a blank that stays is none
--     peek-small              the number that a look says is a primitive's
--     look-nothing .. -blank  what a look at a shape says is right
--     array_long .. map-packed  what it says of a list of shapes
-- Assumes nothing.
use mathlib.Core.Path.{◌≡◌, refl, ap}
use mathlib.Core.Bool.{Bool, true, false}
use mathlib.Core.List.{List, [], ◌∷◌, ◌++◌}
use mathlib.Core.Option.{none, some}
use mathlib.Core.Option as Core
use Prim.Native.Nat.{ℕ, ◌+◌, ◌*◌, ◌-◌, ◌≤◌, ◌<◌}
use native.Mathlib.Omega.{arith}
use lib.ListN.{length, get_or}
use lib.Seq.{slice, slice_empty, length-slice}
use lib.Dec.{ltb, eqb}
use borrow.Author.Tests.{lt-ltb, le-ltb, ltb-true, ltb-false}
use Rattle.std.specs.Prelude.{Option, Some, None}
use Rattle.meaning.specs.Rules.{◌⇒◌∣◌}
use Rattle.meaning.specs.Shape.{Primitive, Shape, blank}
use Rattle.meaning.specs.FirstByte.{code, prim_byte, array_byte, map_byte}
use Rattle.meaning.specs.Encode.{as_prim, encode}
use Rattle.meaning.proofs.Rules.{rule}
use Rattle.meaning.proofs.Complete.{code-small}
use Rattle.meaning.proofs.Heads.{prim-by}
use Rattle.payloads.specs.Payload.{named, shaped, size_at}
use Rattle.payloads.specs.declared.first.Kind.{Kind}
use Rattle.payloads.specs.declared.first.Kind.TheVariants.{Array, Map, Record, Function, Symbol, Variable}
use Rattle.payloads.specs.declared.first.First.TheVariants.{Unassigned, Short, Long}
use Rattle.steps.specs.Heads.{head_bytes}
use Rattle.steps.specs.Steps.{head_size, first_at, past_long, past_name, list_at}
use Rattle.steps.specs.declared.Listing.{Listing}
use Rattle.steps.specs.Pass.{Came, came, Passer, long_blank, pass_items, pass_list, pass_shape}
use Rattle.steps.proofs.Passing.{below, shape-none, shape-short, shape-symbol, blank_cut, shape-blank, shape-list}
use Rattle.writes.specs.declared.Packed.{Packed}
use Rattle.writes.specs.declared.Peek.{Peek}
use Rattle.writes.specs.Writes.{prim_code, Items, more, pack_byte, byte_or, list_bytes, short_bytes, writes, peek_said, PeekIs, packed_said, PackedIs}

-- A byte before the primitives is none,
pub prim-low : (b : ℕ) → b < prim_byte 0 → prim_code (b ∷ []) ≡ None
prim-low b h = rw (lt-ltb b 32 h)

-- and so is one after them.
pub prim-high : (b : ℕ) → prim_byte 5 ≤ b → prim_code (b ∷ []) ≡ None
prim-high b h = rw (le-ltb b 32 (omega arith), le-ltb b 37 h)

-- What is not one byte is no primitive.
pub prim-long : (x : List ℕ) → (length x ≡ 1 → ⊥) → prim_code x ≡ None
prim-long [] h = refl
prim-long (b ∷ []) h = absurd (h refl)
prim-long (b ∷ c ∷ x) h = refl

-- A primitive's number is below 5.
pub prim-small : (x : List ℕ) (c : ℕ) → prim_code x ≡ Some c → c < 5
prim-small [] c h = absurd (cc)
prim-small (b ∷ []) c h = go (ltb b 32) (ltb b 37) refl h
  where
    go : (t u : Bool) → ltb b 37 ≡ u → (t ⇒ None ∣ λ _. u ⇒ Some (b - 32) ∣ λ _. None) ≡ Some c → c < 5
    go true u p e = absurd (cc)
    go false true p e = let z : b - 32 ≡ c = cc in omega (arith, ltb-true b 37 p)
    go false false p e = absurd (cc)
prim-small (b ∷ d ∷ x) c h = absurd (cc)

-- the number of a primitive, where there is one
abbrev pub code_if : Core.Option Primitive → Option ℕ
code_if none = None
code_if (some p) = Some (code p)

-- The primitive that an encoding is, is that of its shape.
pub prim-encoded : (t : Shape) → prim_code (encode t) ≡ code_if (as_prim t)
prim-encoded =
    prim-by prim_code code_if
    (λ p. rw (le-ltb (prim_byte (code p)) 32 (omega arith), lt-ltb (prim_byte (code p)) 37 (omega (arith, code-small p))) (ap Some (omega arith)))
    prim-low
    prim-high
    (λ k q. refl)

-- A blank that stays is none.
pub prim-blank : (n : ℕ) (t : Shape) → t ≡ blank n → prim_code (encode t) ≡ None
unfolding as_prim
prim-blank n t e = rw e (prim-encoded (blank n))

-- A list is no primitive: its form of one byte comes after the primitives.
prim-items : (kind : Kind) (count : List ℕ) (a : Items) → prim_code (list_bytes kind count a) ≡ None
prim-items kind count a = go kind a.code
  where
    go : (k : Kind) (o : Option ℕ) → prim_code (byte_or (pack_byte k o) (head_bytes kind (length (count ++ a.bytes)) ++ (count ++ a.bytes))) ≡ None
    go Array None = refl
    go Array (Some c) = prim-high (array_byte c) (omega arith)
    go Map None = refl
    go Map (Some c) = prim-high (map_byte 0 c) (omega arith)
    go Record o = refl
    go Function o = refl
    go Symbol o = refl
    go Variable o = refl

-- A Symbol is no primitive.
prim-symbol : (s : List ℕ) (at : ℕ) → prim_code (slice at (past_long s at) s) ≡ None
unfolding past_long
prim-symbol s at =
    rule (λ (p : ℕ). prim_code (slice at p s) ≡ None) (ltb (length s - at) head_size) at _ (λ h. rw (slice_empty at s)) λ h.
    rule (λ (p : ℕ). prim_code (slice at p s) ≡ None) (ltb (length s - at - head_size) (size_at s (at + 1))) at _ (λ k. rw (slice_empty at s)) λ k.
    let end : ℕ = at + head_size + size_at s (at + 1) in
    let n = length-slice at end s (omega (arith, ltb-false (length s - at) head_size h, ltb-false (length s - at - head_size) (size_at s (at + 1)) k)) in
    prim-long (slice at end s) (λ l. omega arith)

-- Nor is a list, cut short or not.
prim-list : (σ : ℕ → Shape) (left : ℕ) (inner : Passer (List ℕ)) (s : List ℕ) (at : ℕ) (kind : Kind) → prim_code (pass_list (writes σ) left inner s at kind).made ≡ None
unfolding pass_list
prim-list σ left inner s at kind =
    rule (λ (r : Came (List ℕ)). prim_code r.made ≡ None) (eqb left 0) (came at []) _ (λ h. refl) λ h.
    rule (λ (r : Came (List ℕ)). prim_code r.made ≡ None) (ltb (length s - at) head_size) (came at []) _ (λ k. refl) λ k.
    let l : Listing = list_at s (at + head_size) kind in
    prim-items kind (slice (at + head_size) l.from s) (pass_items (writes σ) inner kind l.count s l.from (writes σ).start).made

module _ (σ : ℕ → Shape) (s : List ℕ) (at : ℕ) where
  -- Where no shape stands, none is seen.
  pub look-nothing : first_at s at ≡ Unassigned → PeekIs σ s at None
  look-nothing f left = rw (shape-none (writes σ) left s at f)

  -- Of a shape of one byte its bytes are seen.
  pub look-short : (levels : ℕ) (o : Option ℕ) (r : Option Peek) → first_at s at ≡ Short levels → o ≡ prim_code (short_bytes σ (get_or s at 0)) → r ≡ peek_said o (at + 1) → PeekIs σ s at r
  look-short levels o r f e g left = rw (shape-short (writes σ) left s at f, g, e)

  module _ (kind : Kind) (f : first_at s at ≡ Long kind) where
    -- No list is a primitive,
    pub look-list : shaped kind ≡ true → PeekIs σ s at None
    look-list h left = rw (shape-list (writes σ) left s at f h, prim-list σ left (below (writes σ) left) s at kind)

    -- no Symbol,
    pub look-symbol : shaped kind ≡ false → named kind ≡ true → PeekIs σ s at None
    look-symbol h n left = rw (shape-symbol (writes σ) left s at f h n, prim-symbol s at)

    -- and no blank that is cut short;
    pub look-cut : shaped kind ≡ false → named kind ≡ false → length s - at < long_blank → PeekIs σ s at None
    look-cut h n l left = rw (blank_cut (writes σ) left s at f h n l)

    -- of another blank what becomes of it is seen.
    pub look-blank : shaped kind ≡ false → named kind ≡ false → long_blank ≤ length s - at → (o : Option ℕ) (r : Option Peek)
        → o ≡ prim_code (encode (σ (size_at s (at + head_size)))) → r ≡ peek_said o (at + long_blank) → PeekIs σ s at r
    look-blank h n l o r e g left = rw (shape-blank (writes σ) left s at f h n l, g, e)

-- The number that a look says is a primitive's.
pub peek-small : (σ : ℕ → Shape) (s : List ℕ) (at : ℕ) (p : Peek) → PeekIs σ s at (Some p) → p.code < 5
peek-small σ s at p h = go (prim_code x.made) refl (h 0)
  where
    x : Came (List ℕ)
    x = pass_shape (writes σ) 0 s at

    go : (o : Option ℕ) → prim_code x.made ≡ o → Some p ≡ peek_said o x.next → p.code < 5
    go None e k = absurd (cc)
    go (Some c) e k = let z : p.code ≡ c = cc in rw z (prim-small x.made c e)

-- a form of one byte, and the place after its list
abbrev packed : ℕ → ℕ → Option Packed
packed next b = Some (record { next = next; byte = b })

module _ (σ : ℕ → Shape) (s : List ℕ) (from : ℕ) where
  -- An Array of no primitive keeps its payload,
  pub array_long : PeekIs σ s from None → PackedIs σ s from Array None
  unfolding pass_items past_name
  array_long pk left = let x : Came (List ℕ) = pass_shape (writes σ) left s from in go (prim_code x.made) x.next (pk left)
    where
      go : (o : Option ℕ) (next : ℕ) → None ≡ peek_said o next → None ≡ packed_said (pack_byte Array (more (Some 0) o)) next
      go None next h = refl
      go (Some c) next h = absurd (cc)

  -- and so does a Map whose key is none.
  pub map-long : PeekIs σ s from None → PackedIs σ s from Map None
  unfolding pass_items past_name
  map-long pk left =
      let x : Came (List ℕ) = pass_shape (writes σ) left s from in
      let y : Came (List ℕ) = pass_shape (writes σ) left s x.next in
      go (prim_code x.made) (prim_code y.made) x.next y.next (pk left)
    where
      go : (o q : Option ℕ) (next after : ℕ) → None ≡ peek_said o next → None ≡ packed_said (pack_byte Map (more (more (Some 0) o) q)) after
      go None q next after h = refl
      go (Some c) q next after h = absurd (cc)

  -- An Array of a primitive is one byte.
  pub array-packed : (p : Peek) (b : ℕ) → PeekIs σ s from (Some p) → b ≡ array_byte p.code → PackedIs σ s from Array (packed p.next b)
  unfolding pass_items past_name
  array-packed p b pk e left = let x : Came (List ℕ) = pass_shape (writes σ) left s from in go (prim_code x.made) x.next (pk left)
    where
      go : (o : Option ℕ) (next : ℕ) → Some p ≡ peek_said o next → packed p.next b ≡ packed_said (pack_byte Array (more (Some 0) o)) next
      go None next h = absurd (cc)
      go (Some c) next h =
          let z : p.code ≡ c = cc in
          let w : p.next ≡ next = cc in
          let y : b ≡ array_byte (5 * 0 + c) = omega arith in
          cc

  module _ (p : Peek) (pk : PeekIs σ s from (Some p)) where
    -- A Map whose key is a primitive is what its value says:
    map-by : (r : Option Packed) → ((left : ℕ) → r ≡ packed_said (pack_byte Map (more (more (Some 0) (Some p.code)) (prim_code (pass_shape (writes σ) left s p.next).made))) (pass_shape (writes σ) left s p.next).next)
        → PackedIs σ s from Map r
    unfolding pass_items past_name
    map-by r k left = let x : Came (List ℕ) = pass_shape (writes σ) left s from in go (prim_code x.made) x.next (pk left)
      where
        go : (o : Option ℕ) (next : ℕ) → Some p ≡ peek_said o next
            → r ≡ packed_said (pack_byte Map (more (more (Some 0) o) (prim_code (pass_shape (writes σ) left s next).made))) (pass_shape (writes σ) left s next).next
        go None next h = absurd (cc)
        go (Some c) next h = let z : p.code ≡ c = cc in let w : p.next ≡ next = cc in rw (← z, ← w) (k left)

    -- it keeps its payload where that is none,
    pub map-half : PeekIs σ s p.next None → PackedIs σ s from Map None
    map-half qk = map-by None (λ left. go (prim_code (pass_shape (writes σ) left s p.next).made) (pass_shape (writes σ) left s p.next).next (qk left))
      where
        go : (o : Option ℕ) (next : ℕ) → None ≡ peek_said o next → None ≡ packed_said (pack_byte Map (more (more (Some 0) (Some p.code)) o)) next
        go None next h = refl
        go (Some c) next h = absurd (cc)

    -- and is one byte where both are primitives.
    pub map-packed : (q : Peek) (b : ℕ) → PeekIs σ s p.next (Some q) → b ≡ map_byte p.code q.code → PackedIs σ s from Map (packed q.next b)
    map-packed q b qk e = map-by (packed q.next b) (λ left. go (prim_code (pass_shape (writes σ) left s p.next).made) (pass_shape (writes σ) left s p.next).next (qk left))
      where
        go : (o : Option ℕ) (next : ℕ) → Some q ≡ peek_said o next → packed q.next b ≡ packed_said (pack_byte Map (more (more (Some 0) (Some p.code)) o)) next
        go None next h = absurd (cc)
        go (Some c) next h =
            let z : q.code ≡ c = cc in
            let w : q.next ≡ next = cc in
            let y : b ≡ map_byte 0 (5 * (5 * 0 + p.code) + c) = omega arith in
            cc
