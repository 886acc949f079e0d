-- A pass stays inside the input, whatever the input's bytes are.
--     shape-inside     the place after a shape is no further than the input's end
-- Assumes nothing.
use mathlib.Core.Path.{◌≡◌, refl}
use mathlib.Core.Bool.{Bool, true, false}
use mathlib.Core.List.{List}
use Prim.Native.Nat.{ℕ, zero, suc, ◌+◌, ◌-◌, ◌≤◌, ◌<◌}
use native.Mathlib.Omega.{arith}
use lib.ListN.{length, get_or}
use lib.Dec.{ltb, leb, eqb}
use Rattle.meaning.proofs.Rules.{facts, rule}
use Rattle.leaves.specs.Leb.{leb_at}
use Rattle.leaves.specs.declared.refusals.Refusal.{Refusal}
use Rattle.leaves.specs.declared.Leb.{Leb}
use Rattle.std.specs.Prelude.{Result, Ok, Err}
use Rattle.leaves.proofs.Numbers.{steps, leb-steps}
use Rattle.payloads.specs.Payload.{named, size_at}
use Rattle.payloads.specs.declared.first.Kind.{Kind}
use Rattle.payloads.specs.declared.first.Kind.TheVariants.{Array, Map, Record, Function, Symbol, Variable}
use Rattle.payloads.specs.declared.first.First.{First}
use Rattle.payloads.specs.declared.first.First.TheVariants.{Unassigned, Short, Long}
use Rattle.steps.specs.Steps.{first_at, past_long, past_leb, past_text, past_name, counted_by, list_at}
use Rattle.steps.specs.Pass.{Came, Pass, Passer, pass_items, pass_list, pass_long, pass_first, pass_shape}

-- a number's end is no further than a place
abbrev Ends : ℕ → Result Leb Refusal → Type 0
Ends end (Ok l) = l.next ≤ end
Ends end (Err r) = Unit {0}

module _ (s : List ℕ) where
  -- A number ends inside the input.
  leb-inside : (at : ℕ) → Ends (length s) (leb_at s (length s) at)
  unfolding steps
  leb-inside at =
      rw (leb-steps s (length s) at (omega arith))
      (rule (Ends (length s)) (leb (length s) at) _ _ (λ p. tt) λ p.
      rule (Ends (length s)) (ltb (get_or s at 0) 128) _ _ (λ q. omega (arith, facts)) λ q.
      rule (Ends (length s)) (leb (length s) (at + 1)) _ _ (λ r. tt) λ r.
      rule (Ends (length s)) (leb 128 (get_or s (at + 1) 0)) _ _ (λ x. tt) λ x.
      rule (Ends (length s)) (eqb (get_or s (at + 1) 0) 0) _ _ (λ y. tt) λ y.
      omega (arith, facts))

  -- So does a text,
  text-inside : (at : ℕ) → at ≤ length s → past_text s at ≤ length s
  unfolding past_text
  text-inside at h = go (leb_at s (length s) at) (leb-inside at)
    where
      go : (l : Result Leb Refusal) → Ends (length s) l → past_leb s at l ≤ length s
      go (Err r) e = h
      go (Ok size) e = rule (λ n. n ≤ length s) (ltb (length s - size.next) size.value) _ _ (λ p. h) (λ p. omega (arith, facts))

  -- a name,
  name-inside : (at : ℕ) (kind : Kind) → at ≤ length s → past_name s at kind ≤ length s
  unfolding past_name
  name-inside at kind h = rule (λ n. n ≤ length s) (named kind) _ _ (λ p. text-inside at h) (λ p. h)

  -- what a head tells the size of,
  long-inside : (at : ℕ) → at ≤ length s → past_long s at ≤ length s
  unfolding past_long
  long-inside at h =
      rule (λ n. n ≤ length s) (ltb (length s - at) 3) _ _ (λ p. h) λ p.
      rule (λ n. n ≤ length s) (ltb (length s - at - 3) (size_at s (at + 1))) _ _ (λ q. h) λ q.
      omega (arith, facts)

  -- a list's count.
  counted-inside : (start more : ℕ) → start ≤ length s → (l : Result Leb Refusal) → Ends (length s) l → (counted_by start more l).from ≤ length s
  counted-inside start more h (Err r) e = h
  counted-inside start more h (Ok l) e = e

  -- So the items of a list start inside.
  list_inside : (start : ℕ) (kind : Kind) → start ≤ length s → (list_at s start kind).from ≤ length s
  unfolding list_at
  list_inside start Array h = h
  list_inside start Map h = h
  list_inside start Record h = counted-inside start 0 h (leb_at s (length s) start) (leb-inside start)
  list_inside start Function h = counted-inside start 1 h (leb_at s (length s) start) (leb-inside start)
  list_inside start Symbol h = counted-inside start 0 h (leb_at s (length s) start) (leb-inside start)
  list_inside start Variable h = h

  -- Where a shape of one byte stands, there is a byte.
  short-inside : (at levels : ℕ) → first_at s at ≡ Short levels → at < length s
  unfolding first_at
  short-inside at levels h = go (leb (length s) at) refl
    where
      go : (t : Bool) → leb (length s) at ≡ t → at < length s
      go true p = let e : Unassigned ≡ Short levels = rw p at h in absurd (let z : ◌≡◌ {A = ℕ} 0 1 = cc in omega arith)
      go false p = omega (arith, facts)

  module _ {X A : Type 0} (F : Pass X A) where
    -- The items end inside, if the shapes do,
    items-inside : (inner : Passer X) → ((at : ℕ) → at ≤ length s → (inner s at).next ≤ length s)
        → (kind : Kind) (count at : ℕ) (a : A) → at ≤ length s → (pass_items F inner kind count s at a).next ≤ length s
    unfolding pass_items
    items-inside inner ih kind zero at a h = h
    items-inside inner ih kind (suc count) at a h =
        items-inside inner ih kind count (inner s (past_name s at kind)).next _ (ih (past_name s at kind) (name-inside at kind h))

    -- a shape with a list,
    list-ends : (left : ℕ) (inner : Passer X) → ((at : ℕ) → at ≤ length s → (inner s at).next ≤ length s)
        → (at : ℕ) (kind : Kind) → at ≤ length s → (pass_list F left inner s at kind).next ≤ length s
    unfolding pass_list
    list-ends left inner ih at kind h =
        rule (λ (r : Came X). r.next ≤ length s) (eqb left 0) _ _ (λ p. h) λ p.
        rule (λ (r : Came X). r.next ≤ length s) (ltb (length s - at) 3) _ _ (λ q. h) λ q.
        items-inside inner ih kind (list_at s (at + 3) kind).count (list_at s (at + 3) kind).from F.start (list_inside (at + 3) kind (omega (arith, facts)))

    -- a shape with a payload,
    payload-ends : (left : ℕ) (inner : Passer X) → ((at : ℕ) → at ≤ length s → (inner s at).next ≤ length s)
        → (at : ℕ) (kind : Kind) → at ≤ length s → (pass_long F left inner s at kind).next ≤ length s
    unfolding pass_long
    payload-ends left inner ih at Array h = list-ends left inner ih at Array h
    payload-ends left inner ih at Map h = list-ends left inner ih at Map h
    payload-ends left inner ih at Record h = list-ends left inner ih at Record h
    payload-ends left inner ih at Function h = list-ends left inner ih at Function h
    payload-ends left inner ih at Symbol h = long-inside at h
    payload-ends left inner ih at Variable h = rule (λ (r : Came X). r.next ≤ length s) (ltb (length s - at) 5) _ _ (λ p. h) λ p. omega (arith, facts)

    -- a shape by its first byte,
    first_ends : (left : ℕ) (inner : Passer X) → ((at : ℕ) → at ≤ length s → (inner s at).next ≤ length s)
        → (at : ℕ) → at ≤ length s → (f : First) → first_at s at ≡ f → (pass_first F left inner s at f).next ≤ length s
    unfolding pass_first
    first_ends left inner ih at h Unassigned e = h
    first_ends left inner ih at h (Short levels) e = omega (arith, short-inside at levels e)
    first_ends left inner ih at h (Long kind) e = payload-ends left inner ih at kind h

    -- and so every shape.
    pub shape-inside : (left at : ℕ) → at ≤ length s → (pass_shape F left s at).next ≤ length s
    unfolding pass_shape
    shape-inside zero at h = first_ends zero (λ s at. record { next = at; made = F.nothing }) (λ at h. h) at h (first_at s at) refl
    shape-inside (suc left) at h = first_ends (suc left) (pass_shape F left) (λ at h. shape-inside left at h) at h (first_at s at) refl
