-- A shape with a list in its payload: what the steps find of its children and names is what the meaning says.
-- Assumes nothing.
use mathlib.Core.Path.{◌≡◌, refl, sym, ap, ◌∙◌}
use mathlib.Core.Bool.{Bool, true, false}
use mathlib.Core.List.{List, [], ◌∷◌, ◌++◌, append_assoc, append-nil}
use Prim.Native.Nat.{ℕ, zero, suc, ◌+◌, ◌≤◌, ◌<◌}
use native.Mathlib.Omega.{arith}
use lib.ListN.{length, drop, get_or, length-append}
use lib.Dec.{ltb}
use borrow.Author.Tests.{ltb-true, le-ltb}
use Rattle.meaning.specs.Rules.{◌⇒◌∣◌}
use Rattle.meaning.specs.Refusals.{no_such_part}
use Rattle.meaning.specs.Shape.{Shape}
use Rattle.meaning.specs.Encode.{text_bytes, encode}
use Rattle.meaning.specs.Reading.{got, has_short}
use Rattle.meaning.specs.Parts.{Item, lone, items, name_bytes, shape_bytes, list_bytes, list_start, item_of, item_place, children, child_of, names, name_text, name_place}
use Rattle.meaning.specs.Numbers.{leb128}
use Rattle.meaning.proofs.Rules.{both}
use Rattle.meaning.proofs.Complete.{leb-pos}
use Rattle.meaning.proofs.Parts.{item-bytes}
use Rattle.meaning.proofs.Lists.{list_of, child-is, text_of, name-is}
use Rattle.payloads.specs.declared.first.Kind as first
use Rattle.payloads.specs.Payload as Payload
use Rattle.parts.specs.declared.FoundChild.TheVariants as child
use Rattle.std.specs.Prelude.{Ok, Err}
use Rattle.leaves.specs.Faults.{refusal}
use Rattle.parts.specs.Said.{child_said, name_said, name_of, told_child}
use Rattle.steps.specs.Steps.{past_name, past_items, listing, list_at}
use Rattle.parts.specs.Found.{child_from, name_from, child_in, name_in}
use Rattle.steps.proofs.Places.{Stands, stands-length, stands_after, past-shape, leb-at, Of, of_bare, of-named, of-lone, AllOf, past-name, past-items}

-- a shape whose payload is a list of items of a kind; the list is found wherever the encoding stands
pub record Listed (t : Shape) (kind : first.Kind) : Type 0 where
  pub list : (s : List ℕ) (at : ℕ) (x : List ℕ) → at ≤ length s → Stands s at (encode t ++ x) → list_at s (at + 3) kind ≡ listing (at + list_start t) (length (items t))
  pub all : AllOf kind (items t)
  pub children : length (children t) ≡ (Payload.shaped kind ⇒ length (items t) ∣ λ _. 0)
  pub names : length (names t) ≡ (Payload.named kind ⇒ length (items t) ∣ λ _. 0)
  pub long : has_short t ≡ false

of_at : (kind : first.Kind) (is : List Item) (k : ℕ) (d : Item) → AllOf kind is → k < length is → Of kind (get_or is k d)
of_at kind [] k d o h = absurd (omega arith)
of_at kind (i ∷ is) zero d o h = o.0
of_at kind (i ∷ is) (suc k) d o h = of_at kind is k d o.1 (omega arith)

-- item k of a shape, where it stands
record Here (t : Shape) (kind : first.Kind) (k : ℕ) : Type 0 where
  place : past_items (encode t) kind k (list_start t) ≡ item_place t k
  of : Of kind (item_of t k)
  after : List ℕ
  stands : Stands (encode t) (item_place t k) (name_bytes (item_of t k) ++ (shape_bytes (item_of t k) ++ after))

here : (t : Shape) (kind : first.Kind) → Listed t kind → (k : ℕ) → k < length (items t) → Here t kind k
here t kind l k h =
    record {
      place = past-items (encode t) kind k (list_start t) (items t) l.all (omega arith) (list_of t l.long (omega arith));
      of = of_at kind (items t) k (lone []) l.all h;
      after = list_bytes (drop (suc k) (items t));
      stands = item-bytes t k l.long h;
    }

child-at : (s : List ℕ) (start : ℕ) (kind : first.Kind) (i : Item) (x : List ℕ) → Of kind i → Payload.shaped kind ≡ true → Stands s start (shape_bytes i ++ x)
    → child_from s start ≡ child.Part start (length (shape_bytes i))
unfolding shape_bytes
child-at s start kind i x (of_bare c n p) q h = rw (past-shape s start c x h) (ap (child.Part start) (omega arith))
child-at s start kind i x (of-named t c n p b) q h = rw (past-shape s start c x h) (ap (child.Part start) (omega arith))
child-at s start kind i x (of-lone t n p b) q h = cc

text-inside : (s : List ℕ) (at : ℕ) (t x : List ℕ) → Stands s at (text_bytes t ++ x) → at ≤ length s
text-inside s at t x h = let l = simp length-append at (stands-length s at _ h) in omega (arith, leb-pos (length t))

name-at : (s : List ℕ) (at : ℕ) (kind : first.Kind) (i : Item) (x : List ℕ) → Of kind i → Payload.named kind ≡ true → Stands s at (name_bytes i ++ x)
    → name_from s at ≡ Ok (name_of (at + length (leb128 (length (text_of i)))) (length (text_of i)))
unfolding name_bytes name_from text_of
name-at s at kind i x (of_bare c n p) q h = cc
name-at s at kind i x (of-named t c n p b) q h = rw (leb-at s at (length t) (t ++ x) b (text-inside s at t x h) (rw append_assoc at h))
name-at s at kind i x (of-lone t n p b) q h = rw (leb-at s at (length t) (t ++ x) b (text-inside s at t x h) (rw append_assoc at h))

-- where the encoding is the whole input
at-root : (t : Shape) (kind : first.Kind) → Listed t kind → list_at (encode t) 3 kind ≡ listing (list_start t) (length (items t))
at-root t kind l = l.list (encode t) 0 [] (omega arith) (sym (append-nil (encode t))) ∙ ap (λ (n : ℕ). listing n (length (items t))) (omega arith)

module _ (t : Shape) (kind : first.Kind) (l : Listed t kind) (k : ℕ) where
  pub child-listed : child_in (encode t) kind k (list_at (encode t) 3 kind) ≡ child_said (got t []) k
  unfolding child_in child_of
  child-listed = rw (at-root t kind l, l.children) (go (Payload.shaped kind) refl)
    where
      found : k < length (items t) → Payload.shaped kind ≡ true → child_from (encode t) (past_name (encode t) (past_items (encode t) kind k (list_start t)) kind) ≡ told_child (child_of t k)
      found h q =
          let e = here t kind l k h in
          let n : k < length (children t) = rw (l.children, q) h in
          rw (e.place, past-name (encode t) (item_place t k) kind (item_of t k) _ e.of e.stands, l.long, ← child-is t k n)
          (child-at (encode t) _ kind (item_of t k) e.after e.of q (stands_after (encode t) (item_place t k) (name_bytes (item_of t k)) _ e.stands))

      go : (b : Bool) → Payload.shaped kind ≡ b
          → (ltb k (Payload.shaped kind ⇒ length (items t) ∣ λ _. 0) ⇒ Ok (child_from (encode t) (past_name (encode t) (past_items (encode t) kind k (list_start t)) kind)) ∣ λ _. Err (refusal no_such_part (Payload.shaped kind ⇒ length (items t) ∣ λ _. 0)))
          ≡ (ltb k (Payload.shaped kind ⇒ length (items t) ∣ λ _. 0) ⇒ Ok (told_child (child_of t k)) ∣ λ _. Err (refusal no_such_part (Payload.shaped kind ⇒ length (items t) ∣ λ _. 0)))
      go true q = rw q (both (λ a b. a ≡ b) (ltb k (length (items t))) _ _ _ _ (λ p. ap Ok (found (ltb-true _ _ p) q)) (λ p. refl))
      go false q = rw (q, le-ltb k 0 (omega arith))

  pub name-listed : name_in (encode t) kind k (list_at (encode t) 3 kind) ≡ name_said (got t []) k
  unfolding name_in
  name-listed = rw (at-root t kind l, l.names) (go (Payload.named kind) refl)
    where
      found : k < length (items t) → Payload.named kind ≡ true → name_from (encode t) (past_items (encode t) kind k (list_start t)) ≡ Ok (name_of (name_place t k) (length (name_text t k)))
      found h q =
          let e = here t kind l k h in
          rw (e.place, ← name-is t k) (name-at (encode t) (item_place t k) kind (item_of t k) _ e.of q e.stands)

      go : (b : Bool) → Payload.named kind ≡ b
          → (ltb k (Payload.named kind ⇒ length (items t) ∣ λ _. 0) ⇒ name_from (encode t) (past_items (encode t) kind k (list_start t)) ∣ λ _. Err (refusal no_such_part (Payload.named kind ⇒ length (items t) ∣ λ _. 0)))
          ≡ (ltb k (Payload.named kind ⇒ length (items t) ∣ λ _. 0) ⇒ Ok (name_of (name_place t k) (length (name_text t k))) ∣ λ _. Err (refusal no_such_part (Payload.named kind ⇒ length (items t) ∣ λ _. 0)))
      go true q = rw q (both (λ a b. a ≡ b) (ltb k (length (items t))) _ _ _ _ (λ p. found (ltb-true _ _ p) q) (λ p. refl))
      go false q = rw (q, le-ltb k 0 (omega arith))
