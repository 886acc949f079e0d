-- A window within a window: the walk with `depths` up to a place e is the same in any front of the input that has e bytes.
--     items-window, closing-window     the items of a payload, and its end, in the payload's own window
--     shape-front                      a shape
-- Assumes nothing.
use mathlib.Core.Path.{◌≡◌, refl, ◌∙◌}
use mathlib.Core.List.{List}
use Prim.Native.Nat.{ℕ, zero, suc, ◌+◌, ◌≤◌, ◌<◌, max}
use native.Mathlib.Omega.{arith}
use lib.ListN.{length, take, get_or}
use lib.Seq.{length-take-le}
use lib.Dec.{eqb, leb}
use Rattle.meaning.specs.FirstByte.{class_of}
use Rattle.meaning.proofs.Rules.{facts, both}
use Rattle.std.specs.Prelude.{Result, Ok, Err}
use Rattle.leaves.specs.declared.refusals.Refusal.{Refusal}
use Rattle.leaves.proofs.Fronts.{get-front}
use Rattle.payloads.specs.declared.first.Kind.{Kind}
use Rattle.payloads.specs.declared.first.First.{First}
use Rattle.payloads.specs.declared.first.First.TheVariants.{Unassigned, Short, Long}
use Rattle.payloads.specs.declared.Text.{Text}
use Rattle.payloads.specs.declared.Opening.{Opening}
use Rattle.payloads.specs.First.{first_said}
use Rattle.payloads.specs.Payload.{label_at, shaped, opening_at}
use Rattle.payloads.proofs.Fronts.{label-front, opening-front, short-front, StopsBy, opening-stop}
use Rattle.reader.specs.Walk.{Out, Walker, came, stopped, after_text, after, after_opening, closing, walk_items, by_first, shape_with, walk_shape, depths}
use Rattle.reader.proofs.Steps.{made-depth}

-- What goes on alike ends alike: after a text, after a shape or its items, after a payload's opening.
text-alike : {X : Type 0} (t : Result Text Refusal) (f g : ℕ → ℕ → Out X) → ((a b : ℕ) → f a b ≡ g a b) → after_text t f ≡ after_text t g
text-alike (Ok t) f g h = h t.start t.next
text-alike (Err r) f g h = refl

alike : {X Y : Type 0} (o : Out X) (f g : ℕ → X → Out Y) → ((next : ℕ) (v : X) → f next v ≡ g next v) → after o f ≡ after o g
alike (came next v) f g h = h next v
alike (stopped number place) f g h = refl

opening-alike : {X : Type 0} (e : ℕ) (o : Result Opening Refusal) → StopsBy e o → (f g : ℕ → ℕ → ℕ → Out X)
    → ((stop from count : ℕ) → stop ≤ e → f stop from count ≡ g stop from count) → after_opening o f ≡ after_opening o g
opening-alike e (Ok o) k f g h = h o.stop o.from o.count k
opening-alike e (Err r) k f g h = refl

-- A payload's end is the same.
closing-front : (s : List ℕ) (n e at : ℕ) (kind : Kind) (next deep : ℕ) → e ≤ n → closing depths (take n s) at e kind next deep ≡ closing depths s at e kind next deep
unfolding closing
closing-front s n e at kind next deep k = rw (short-front s e n k (at + 3) kind, made-depth (take n s) (at + 3) kind deep, made-depth s (at + 3) kind deep)

-- what walks is the same in any front of s that has what it walks over
abbrev Same : Walker ℕ → List ℕ → ℕ → Type 0
Same inner s n = (e at : ℕ) → e ≤ n → inner (take n s) e at ≡ inner s e at

module _ (s : List ℕ) (n : ℕ) where
  -- So are the items of a payload,
  items-front : (inner : Walker ℕ) → Same inner s n → (kind : Kind) (count e at deep : ℕ) → e ≤ n
      → walk_items depths inner kind count (take n s) e at deep ≡ walk_items depths inner kind count s e at deep
  unfolding walk_items
  items-front inner same kind zero e at deep k = refl
  items-front inner same kind (suc count) e at deep k =
      rw (label-front s e n k at kind)
      (text-alike (label_at s e at kind) _ _ λ start next.
      both (λ x y. x ≡ y) (shaped kind) _ _ _ _
      (λ _. rw (same e next k) (alike (inner s e next) _ _ λ past v. items-front inner same kind count e past (max deep v) k))
      λ _. items-front inner same kind count e next deep k)

  -- a shape by its first byte,
  by-front : (left : ℕ) (inner : Walker ℕ) → Same inner s n → (e at : ℕ) → at < e → e ≤ n → (f : First) → by_first depths left inner (take n s) e at f ≡ by_first depths left inner s e at f
  unfolding by_first
  by-front left inner same e at h k Unassigned = refl
  by-front left inner same e at h k (Short levels) = refl
  by-front left inner same e at h k (Long kind) =
      both (λ x y. x ≡ y) (eqb left 0) _ _ _ _ (λ _. refl) λ _.
      rw (opening-front s e n k at kind)
      (opening-alike e (opening_at s e at kind) (opening-stop s e at kind) _ _ λ stop from count j.
      rw (items-front inner same kind count stop from 0 (omega arith))
      (alike (walk_items depths inner kind count s stop from 0) _ _ λ next a. closing-front s n stop at kind next a (omega arith)))

  -- a shape by the walk over those in it,
  head-front : (left : ℕ) (inner : Walker ℕ) → Same inner s n → Same (shape_with depths left inner) s n
  unfolding shape_with
  head-front left inner same e at k =
      both (λ x y. x ≡ y) (leb e at) _ _ _ _ (λ _. refl) λ p.
      rw (get-front s n at (omega (arith, facts)))
      (by-front left inner same e at (omega (arith, facts)) k (first_said (class_of (get_or s at 0))))

  -- and every shape.
  pub shape-front : (left : ℕ) → Same (walk_shape depths left) s n
  unfolding walk_shape
  shape-front zero = head-front zero _ (λ e at k. refl)
  shape-front (suc left) = head-front (suc left) (walk_shape depths left) (shape-front left)

-- What is told of a payload's items, or of its end, in the window that ends where it does, is told of them in the input.
module _ (s : List ℕ) {o : Out ℕ} {stop : ℕ} (h : stop ≤ length s) where
  pub items-window : (left : ℕ) (kind : Kind) (count from deep : ℕ) → o ≡ walk_items depths (walk_shape depths left) kind count (take stop s) (length (take stop s)) from deep
      → o ≡ walk_items depths (walk_shape depths left) kind count s stop from deep
  items-window left kind count from deep e =
      e ∙ rw (length-take-le stop s h) (items-front s stop (walk_shape depths left) (shape-front s stop left) kind count stop from deep (omega arith))

  pub closing-window : (at : ℕ) (kind : Kind) (next deep : ℕ) → o ≡ closing depths (take stop s) at (length (take stop s)) kind next deep
      → o ≡ closing depths s at stop kind next deep
  closing-window at kind next deep e = e ∙ rw (length-take-le stop s h) (closing-front s stop stop at kind next deep (omega arith))
