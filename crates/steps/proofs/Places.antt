-- What stands at a place of an input, and the places after it.
--     past-shape     the place after a shape, by its head, is the place after its bytes
--     past-text      so of a text with its length
--     past-items     so of items, k of them
-- Assumes nothing.
use mathlib.Core.Path.{◌≡◌, sym, ap, ◌∙◌}
use mathlib.Core.Bool.{true, false}
use mathlib.Core.List.{List, [], ◌∷◌, ◌++◌, append_assoc}
use Prim.Native.Nat.{ℕ, zero, suc, ◌+◌, ◌-◌, ◌≤◌, ◌<◌, ◌/◌}
use native.Mathlib.Omega.{arith}
use native.Mathlib.Nat.{add-zero}
use lib.ListN.{length, take, drop, get_or, length-append, length-drop}
use lib.Seq.{take-length, get_or-drop, drop-drop, drop-append_seam}
use borrow.Author.Tests.{le-ltb, lt-leb}
use Rattle.meaning.specs.Rules.{◌⇒◌∣◌}
use Rattle.meaning.specs.Numbers.{leb128, two_bytes}
use Rattle.meaning.specs.Shape.{Text, Shape}
use Rattle.meaning.specs.FirstByte.{Kind, kind_byte, class_of}
use Rattle.meaning.specs.Encode.{sized, text_bytes, encode}
use Rattle.meaning.specs.Parts.{Item, bare, named, lone, name_bytes, shape_bytes, list_bytes}
use Rattle.meaning.proofs.Complete.{count-reads, two-value, class-kind, encode-pos, leb-pos}
use Rattle.meaning.proofs.Heads.{Head, whole-byte, packed_byte, payload, head_of}
use Rattle.leaves.specs.Leb.{leb_of, leb_at}
use Rattle.std.specs.Prelude.{Ok}
use Rattle.payloads.specs.First.{first_said}
use Rattle.payloads.specs.Payload as Payload
use Rattle.payloads.specs.declared.first.Kind as first
use Rattle.steps.specs.Steps.{first_at, past_long, past_first, past_shape, past_text, past_name, past_item, past_items}

-- a list stands at a place of the input, up to its end
abbrev pub Stands : List ℕ → ℕ → List ℕ → Type 0
Stands s at w = drop at s ≡ w

module _ (s : List ℕ) (at : ℕ) (w : List ℕ) (h : Stands s at w) where
  -- what stands there is as long as the rest of the input
  pub stands-length : length s - at ≡ length w
  stands-length = sym (length-drop at s) ∙ ap length h

  -- its bytes are the input's
  pub stands-byte : (i : ℕ) → get_or s (at + i) 0 ≡ get_or w i 0
  stands-byte i = sym (get_or-drop at s i 0) ∙ ap (λ (l : List ℕ). get_or l i 0) h

-- after a part of it the rest stands
pub stands_after : (s : List ℕ) (at : ℕ) (p q : List ℕ) → Stands s at (p ++ q) → Stands s (at + length p) q
stands_after s at p q h = sym (drop-drop (length p) at s) ∙ ap (drop (length p)) h ∙ drop-append_seam p q

pub past-long : (s : List ℕ) (at : ℕ) (k : Kind) (q x : List ℕ) → Stands s at (sized k q ++ x) → past_long s at ≡ at + length (sized k q)
unfolding past_long
past-long s at k q x h =
    let l = stands-length s at _ h in
    let n : length s - at ≡ 3 + (length q + length x) = l ∙ simp length-append (omega arith) in
    let a = stands-byte s at _ h 1 in
    let b : get_or s (at + 1 + 1) 0 ≡ length q / 256 = let z : at + 1 + 1 ≡ at + 2 = omega arith in rw z (stands-byte s at _ h 2) in
    rw (a, b, two-value (length q), le-ltb (length s - at) 3 (omega arith), le-ltb (length s - at - 3) (length q) (omega arith)) (omega arith)

pub past-shape : (s : List ℕ) (at : ℕ) (c : Shape) (x : List ℕ) → Stands s at (encode c ++ x) → past_shape s at ≡ at + length (encode c)
unfolding past_shape first_at
past-shape s at c x h = rw (lt-leb (length s) at some) (go (head_of c))
  where
    some : at < length s
    some = let l = stands-length s at _ h in let n = simp length-append at l in omega (arith, encode-pos c)

    first : (b : ℕ) (w : List ℕ) → encode c ≡ b ∷ w → get_or s at 0 ≡ b
    first b w e = rw (← add-zero at) (stands-byte s at _ h 0 ∙ rw e)

    go : Head c → past_first s at (first_said (class_of (get_or s at 0))) ≡ at + length (encode c)
    go (whole-byte b e k p) = rw (first b [] e, k, e)
    go (packed_byte b e k p) = rw (first b [] e, k, e)
    go (payload k q e p) = rw (first (kind_byte k) (two_bytes (length q) ++ q) e, class-kind k, e) (past-long s at k q x (rw e at h))

-- the LEB128 number that stands at a place
pub leb-at : (s : List ℕ) (at n : ℕ) (y : List ℕ) → n < 16384 → at ≤ length s → Stands s at (leb128 n ++ y) → leb_at s (length s) at ≡ Ok (leb_of n (at + length (leb128 n)))
unfolding leb_at
leb-at s at n y b i h =
    let l = simp length-append at (stands-length s at _ h) in
    rw (take-length s, h, count-reads n b (length s) y) (ap (λ x. Ok (leb_of n x)) (omega arith))

pub past-text : (s : List ℕ) (at : ℕ) (t x : List ℕ) → length t < 16384 → Stands s at (text_bytes t ++ x) → past_text s at ≡ at + length (text_bytes t)
unfolding past_text
past-text s at t x b h =
    let l = simp length-append at (stands-length s at _ h) in
    rw (leb-at s at (length t) (t ++ x) b (omega (arith, leb-pos (length t))) (rw append_assoc at h), le-ltb (length s - (at + length (leb128 (length t)))) (length t) (omega (arith, leb-pos (length t)))) (rw length-append (omega arith))

-- an item of a kind's list has a name where the kind has names, and a shape where it has shapes; its name is no longer than a length can say
pub data Of (kind : first.Kind) : Item → Type 0 where
  of_bare : (s : Shape) → Payload.named kind ≡ false → Payload.shaped kind ≡ true → Of kind (bare s)
  of-named : (t : Text) (s : Shape) → Payload.named kind ≡ true → Payload.shaped kind ≡ true → length t < 16384 → Of kind (named t s)
  of-lone : (t : Text) → Payload.named kind ≡ true → Payload.shaped kind ≡ false → length t < 16384 → Of kind (lone t)

abbrev pub AllOf : first.Kind → List Item → Type 0
AllOf kind [] = Unit {0}
AllOf kind (i ∷ is) = Of kind i × AllOf kind is

pub past-name : (s : List ℕ) (at : ℕ) (kind : first.Kind) (i : Item) (x : List ℕ) → Of kind i → Stands s at (name_bytes i ++ x) → past_name s at kind ≡ at + length (name_bytes i)
unfolding past_name name_bytes
past-name s at kind i x (of_bare c n p) h = rw n (sym (add-zero at))
past-name s at kind i x (of-named t c n p b) h = rw n (past-text s at t x b h)
past-name s at kind i x (of-lone t n p b) h = rw n (past-text s at t x b h)

past-item : (s : List ℕ) (at : ℕ) (kind : first.Kind) (i : Item) (x : List ℕ) → Of kind i → Stands s at (name_bytes i ++ (shape_bytes i ++ x))
    → past_item s at kind ≡ at + length (name_bytes i) + length (shape_bytes i)
unfolding past_item shape_bytes
past-item s at kind i x o h = rw (past-name s at kind i _ o h) (go i o (stands_after s at (name_bytes i) _ h))
  where
    go : (j : Item) → Of kind j → Stands s (at + length (name_bytes i)) (shape_bytes j ++ x)
        → (Payload.shaped kind ⇒ past_shape s (at + length (name_bytes i)) ∣ λ _. at + length (name_bytes i)) ≡ at + length (name_bytes i) + length (shape_bytes j)
    go j (of_bare c n p) g = rw p (past-shape s _ c x g)
    go j (of-named t c n p b) g = rw p (past-shape s _ c x g)
    go j (of-lone t n p b) g = rw p (sym (add-zero _))

-- the place after k items of a list is the place after their bytes
pub past-items : (s : List ℕ) (kind : first.Kind) (k at : ℕ) (is : List Item) → AllOf kind is → k ≤ length is → Stands s at (list_bytes is)
    → past_items s kind k at ≡ at + length (list_bytes (take k is))
unfolding past_items list_bytes
past-items s kind zero at is o h g = sym (add-zero at)
past-items s kind (suc k) at [] o h g = absurd (omega arith)
past-items s kind (suc k) at (i ∷ is) o h g =
    rw (
      past-item s at kind i (list_bytes is) o.0 g,
      past-items s kind k (at + length (name_bytes i) + length (shape_bytes i)) is o.1 (omega arith) (stands_after s _ (shape_bytes i) _ (stands_after s at (name_bytes i) _ g)),
    )
    (simp length-append (omega arith))
