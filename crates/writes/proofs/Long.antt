-- A shape with a list: how its bytes are written, its head last.
--     packed-room, packed-wrote     it becomes one byte
--     long-room, long-wrote         it keeps its payload
-- Assumes nothing.
use mathlib.Core.Path.{◌≡◌, refl, ◌∙◌}
use mathlib.Core.Bool.{true}
use mathlib.Core.List.{List, [], ◌∷◌, ◌++◌}
use Prim.Native.Nat.{ℕ, ◌+◌, ◌-◌, ◌≤◌, ◌<◌}
use native.Mathlib.Omega.{arith}
use lib.ListN.{length, length-append}
use lib.Seq.{slice, length-slice}
use Rattle.std.specs.Prelude.{Option, Some, None}
use Rattle.meaning.specs.Shape.{Shape}
use Rattle.buffers.specs.Written.{written}
use Rattle.buffers.proofs.Written.{written_after, written-before}
use Rattle.payloads.specs.Payload.{shaped}
use Rattle.payloads.specs.declared.first.Kind.{Kind}
use Rattle.payloads.specs.declared.first.Kind.TheVariants.{Array, Map, Record, Function, Symbol, Variable}
use Rattle.payloads.specs.declared.first.First.TheVariants.{Long}
use Rattle.steps.specs.Heads.{head_bytes}
use Rattle.steps.specs.Steps.{first_at, list_at}
use Rattle.steps.specs.declared.Listing.{Listing}
use Rattle.steps.specs.Pass.{Came, came, pass_items, pass_shape}
use Rattle.steps.proofs.Passing.{list-items}
use Rattle.writes.specs.Writes.{Items, writes, pack_byte, byte_or, list_bytes, Fits, Wrote, WroteItems, packed_said, PackedOf, PackedIs}
use Rattle.writes.specs.declared.Places.{Places}
use Rattle.writes.specs.declared.Packed.{Packed}

-- the items of a list
abbrev pub all_of : (ℕ → Shape) → ℕ → List ℕ → Kind → Listing → Came Items
all_of σ left s kind l = pass_items (writes σ) (pass_shape (writes σ) (left - 1)) kind l.count s l.from (writes σ).start

-- A look at a list's items tells what its items are: where the list may be packed, it has as many.
peeked : (σ : ℕ → Shape) (left : ℕ) (s : List ℕ) (start : ℕ) (kind : Kind) (l : Listing) (look : Option Packed) → l ≡ list_at s start kind → PackedIs σ s l.from kind look
    → PackedOf kind (all_of σ left s kind l) look
unfolding list_at
peeked σ left s start Array l look e p = let z : l.count ≡ 1 = rw e in rw z (p (left - 1))
peeked σ left s start Map l look e p = let z : l.count ≡ 2 = rw e in rw z (p (left - 1))
peeked σ left s start Record l look e p = p 0
peeked σ left s start Function l look e p = p 0
peeked σ left s start Symbol l look e p = p 0
peeked σ left s start Variable l look e p = p 0

module _ (σ : ℕ → Shape) (left : ℕ) (s : List ℕ) (at : ℕ) (kind : Kind) (is : first_at s at ≡ Long kind) (list : shaped kind ≡ true)
    (some : 0 < left) (head : 3 ≤ length s - at) (l : Listing) (listed : l ≡ list_at s (at + 3) kind)
    (room to : ℕ) (fits : Fits room to (pass_shape (writes σ) left s at)) where
  -- What the pass makes of the list.
  made : pass_shape (writes σ) left s at ≡ came (all_of σ left s kind l).next (list_bytes kind (slice (at + 3) l.from s) (all_of σ left s kind l).made)
  made = rw listed (list-items (writes σ) left s at is list some head)

  module _ (one : Packed) (look : PackedIs σ s l.from kind (Some one)) where
    -- It is one byte, if the look says so,
    packed : pass_shape (writes σ) left s at ≡ came one.next (one.byte ∷ [])
    packed = made ∙ go (pack_byte kind (all_of σ left s kind l).made.code) (all_of σ left s kind l).next _ (peeked σ left s (at + 3) kind l (Some one) listed look)
      where
        go : (o : Option ℕ) (next : ℕ) (w : List ℕ) → Some one ≡ packed_said o next → came next (byte_or o w) ≡ came one.next (one.byte ∷ [])
        go None next w h = absurd (cc)
        go (Some b) next w h = let z : one.byte ≡ b = cc in let y : one.next ≡ next = cc in rw (z, y)

    -- which has room,
    pub packed-room : to < room
    packed-room = let f = rw packed at fits in omega (arith, f.0)

    -- and which is written.
    pub packed-wrote : (d e : List ℕ) (p : Places) → e ≡ written d to (one.byte ∷ []) → p.next ≡ one.next → p.to ≡ to + 1
        → Wrote d e to p (pass_shape (writes σ) left s at)
    packed-wrote d e p w n t = rw packed (record { next_is = n; to_is = t; wrote = w })

  module _ (look : PackedIs σ s l.from kind None) (inside : l.from ≤ length s) (onward : at + 3 ≤ l.from) where
    -- Else it has its head, its count's bytes and its items',
    long : pass_shape (writes σ) left s at
        ≡ came (all_of σ left s kind l).next (head_bytes kind (length (slice (at + 3) l.from s ++ (all_of σ left s kind l).made.bytes)) ++ (slice (at + 3) l.from s ++ (all_of σ left s kind l).made.bytes))
    long = made ∙ go (pack_byte kind (all_of σ left s kind l).made.code) (all_of σ left s kind l).next _ (peeked σ left s (at + 3) kind l None listed look)
      where
        go : (o : Option ℕ) (next : ℕ) (w : List ℕ) → None ≡ packed_said o next → came next (byte_or o w) ≡ came next w
        go None next w h = refl
        go (Some b) next w h = absurd (cc)

    -- which have room,
    pub long-room : (to + (l.from - at) + length (all_of σ left s kind l).made.bytes ≤ room) × ((l.from - at) + length (all_of σ left s kind l).made.bytes < 65536)
    long-room =
        let f = rw long at fits in
        let a = length-append (slice (at + 3) l.from s) (all_of σ left s kind l).made.bytes in
        let b = length-slice (at + 3) l.from s inside in
        (omega (arith, f.0, a, b), omega (arith, f.1, a, b))

    -- and which are written, the head last.
    pub long-wrote : (d e f g : List ℕ) (p : Places) → length d ≡ room → e ≡ written d (to + 3) (slice (at + 3) l.from s)
        → WroteItems e f (to + (l.from - at)) p (all_of σ left s kind l) → g ≡ written f to (head_bytes kind (p.to - to - 3))
        → Wrote d g to p (pass_shape (writes σ) left s at)
    long-wrote d e f g p r w1 w2 w3 =
        let x : List ℕ = slice (at + 3) l.from s in
        let y : List ℕ = (all_of σ left s kind l).made.bytes in
        let a = length-append x y in
        let b : length x ≡ l.from - (at + 3) = length-slice (at + 3) l.from s inside in
        let m = long-room in
        let o : to + (l.from - at) ≡ to + 3 + length x = omega arith in
        let k : p.to - to - 3 ≡ length (x ++ y) = omega (arith, w2.to_is) in
        let u : f ≡ written d (to + 3) (x ++ y) = w2.wrote ∙ rw (w1, o) (written_after d (to + 3) x y (omega (arith, m.0))) in
        rw long
        (record {
          next_is = w2.next_is;
          to_is = omega (arith, w2.to_is);
          wrote = w3 ∙ rw (k, u) (written-before d to (head_bytes kind (length (x ++ y))) (x ++ y) (omega (arith, m.0)));
        })
