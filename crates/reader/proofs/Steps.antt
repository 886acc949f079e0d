-- The walk's definitions, as the code counts: down by one.
--     shape-by       a shape is walked over by its first byte, its payload's shapes by `below`
--     shape-more     one with a payload: by its opening, its items with one level less, and its end
--     items-bad      of the items that are due, one is walked over: its text is bad
--     items_refused  or its shape is
--     items-plain    or it has no shape, and the others follow it
--     items-shaped   or it has one, and the others follow that
--     items-bare     or it is a shape alone, and the others follow that
--     made-depth     a payload is one level deeper than its items
-- Assumes nothing.
use mathlib.Core.Path.{◌≡◌, refl}
use mathlib.Core.List.{List}
use mathlib.Core.Bool.{true, false}
use Prim.Native.Nat.{ℕ, zero, suc, ◌+◌, ◌-◌, ◌<◌}
use native.Mathlib.Numerals.{sub-one}
use native.Mathlib.Omega.{arith}
use borrow.Author.Tests.{lt-leb, ne_eqb}
use lib.ListN.{get_or}
use lib.Seq.{slice}
use Rattle.meaning.specs.Refusals.{too_deep}
use Rattle.meaning.specs.FirstByte.{class_of}
use Rattle.payloads.specs.First.{first_said}
use Rattle.payloads.specs.declared.first.Kind.{Kind}
use Rattle.payloads.specs.declared.first.Kind.TheVariants.{Array, Map, Record, Function, Symbol, Variable}
use Rattle.payloads.specs.declared.first.First.TheVariants.{Long}
use Rattle.std.specs.Prelude.{Ok, Err}
use Rattle.leaves.specs.declared.refusals.Refusal.{Refusal}
use Rattle.payloads.specs.declared.Text.{Text}
use Rattle.payloads.specs.Payload.{text_of, label_at, named, shaped, opening_at}
use Rattle.reader.specs.Walk.{came, stopped, stopped_by, Fold, Walker, after_opening, after, closing, walk_items, by_first, shape_with, walk_shape, made_of, depths}

module _ {X A : Type 0} (F : Fold X A) where
  pub below : ℕ → Walker X
  below zero = λ s end at. stopped too_deep at
  below (suc left) = walk_shape F left

  pub shape-by : (left : ℕ) (s : List ℕ) (end at : ℕ) → walk_shape F left s end at ≡ shape_with F left (below left) s end at
  unfolding walk_shape below
  shape-by zero s end at = refl
  shape-by (suc left) s end at = refl

  pub shape-more : {kind : Kind} (left : ℕ) (s : List ℕ) (end at : ℕ) → at < end → 0 < left → first_said (class_of (get_or s at 0)) ≡ Long kind
      → walk_shape F left s end at
      ≡ after_opening (opening_at s end at kind) λ stop from count.
      after (walk_items F (walk_shape F (left - 1)) kind count s stop from F.start) λ next a.
      closing F s at stop kind next a
  unfolding walk_shape shape_with by_first
  shape-more zero s end at h p f = absurd (omega arith)
  shape-more (suc left) s end at h p f = rw (lt-leb end at h, f, ne_eqb (suc left) 0 (λ e. omega arith), sub-one)

-- one item of those that are due
module _ {X A : Type 0} (F : Fold X A) (inner : Walker X) (kind : Kind) (s : List ℕ) (end at : ℕ) (a : A) where
  pub items-bad : {r : Refusal} (due : ℕ) → 0 < due → label_at s end at kind ≡ Err r
      → walk_items F inner kind due s end at a ≡ stopped_by r
  unfolding walk_items
  items-bad zero h e = absurd (omega arith)
  items-bad (suc due) h e = rw e

  pub items_refused : {t : Text} (r : Refusal) (due : ℕ) → 0 < due → label_at s end at kind ≡ Ok t
      → shaped kind ≡ true → inner s end t.next ≡ stopped_by r
      → walk_items F inner kind due s end at a ≡ stopped_by r
  unfolding walk_items
  items_refused r zero h e k i = absurd (omega arith)
  items_refused r (suc due) h e k i = rw (e, k, i)

  pub items-plain : {t : Text} (due : ℕ) → 0 < due → label_at s end at kind ≡ Ok t → shaped kind ≡ false
      → walk_items F inner kind due s end at a ≡ walk_items F inner kind (due - 1) s end t.next (F.text kind a (slice t.start t.next s))
  unfolding walk_items
  items-plain zero h e k = absurd (omega arith)
  items-plain (suc due) h e k = rw (e, k, sub-one)

  pub items-shaped : {t : Text} {past : ℕ} {v : X} (due : ℕ) → 0 < due → label_at s end at kind ≡ Ok t
      → shaped kind ≡ true → inner s end t.next ≡ came past v
      → walk_items F inner kind due s end at a ≡ walk_items F inner kind (due - 1) s end past (F.item (F.text kind a (slice t.start t.next s)) v)
  unfolding walk_items
  items-shaped zero h e k i = absurd (omega arith)
  items-shaped (suc due) h e k i = rw (e, k, i, sub-one)

  pub items-bare : {past : ℕ} {v : X} (due : ℕ) → 0 < due → named kind ≡ false → shaped kind ≡ true → inner s end at ≡ came past v
      → walk_items F inner kind due s end at a ≡ walk_items F inner kind (due - 1) s end past (F.item (F.text kind a (slice at at s)) v)
  unfolding label_at
  items-bare due h n k i = items-shaped {t = text_of at at} due h (rw n) k i

pub made-depth : (s : List ℕ) (start : ℕ) (kind : Kind) (deep : ℕ) → made_of depths s start kind deep ≡ deep + 1
unfolding made_of
made-depth s start Array deep = refl
made-depth s start Map deep = refl
made-depth s start Record deep = refl
made-depth s start Function deep = refl
made-depth s start Symbol deep = refl
made-depth s start Variable deep = refl

-- what the functions' attributes name
pub ruleset walking = (shape-by, made-depth)

pub ruleset taking = (items-bad, items_refused)
