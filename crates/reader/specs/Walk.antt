-- NOT TO BE BELIEVED: proved equal to reading (proofs/Whole.antt, `walk-reading`). Private functions' contracts cite it, no public one does.
-- 01-scope.md, "Reading order", once more, as the code goes: by places in the input s, in a window that ends at end. What is made of the
-- shapes on the way is left open (`Fold`), so that one theorem serves every walk over an input.
use Rattle.std.specs.Prelude.{ℕ, zero, suc, ◌+◌, ◌<◌, ◌≤◌, max, ◌≡◌, List, length, get_or, ltb, leb, eqb, Result, Ok, Err}
use Rattle.std.proofs.Math.Seq.{slice}
use Rattle.meaning.specs.Rules.{◌⇒◌∣◌}
use Rattle.meaning.specs.Limits.{max_bytes, max_levels}
use Rattle.meaning.specs.Refusals.{cut_short, not_assigned, size_wrong, long_form, too_deep, input_too_long}
use Rattle.meaning.specs.FirstByte.{class_of}
use Rattle.payloads.specs.First.{first_said}
use Rattle.payloads.specs.Payload.{size_at, label_at, shaped, opening_at, short_form_of}
use Rattle.leaves.specs.Faults.{number_of}
use Rattle.leaves.specs.declared.refusals.Refusal.{Refusal}
use Rattle.payloads.specs.declared.first.Kind.{Kind}
use Rattle.payloads.specs.declared.first.Kind.TheVariants.{Array, Map, Record, Function, Symbol, Variable}
use Rattle.payloads.specs.declared.first.First.{First}
use Rattle.payloads.specs.declared.first.First.TheVariants.{Unassigned, Short, Long}
use Rattle.payloads.specs.declared.Text.{Text}
use Rattle.payloads.specs.declared.Opening.{Opening}
use Rattle.reader.specs.declared.Head.{Head}
use Rattle.reader.specs.declared.Head.TheVariants.{One, More}
use Rattle.reader.specs.declared.Walked.{Walked}

-- what is made on the way and the place after it, or where the walk stopped, with the refusal's number
pub data Out (X : Type 0) : Type 0 where
  came : ℕ → X → Out X
  stopped : ℕ → ℕ → Out X

-- what is made: of a shape of one byte (the byte, its depth), of a payload's items one after the other (from start on, each one's text and
-- then its shape), of a Variable's number, and of a payload by its kind
pub record Fold (X A : Type 0) : Type 0 where
  pub short : ℕ → ℕ → X
  pub start : A
  pub text : Kind → A → List ℕ → A
  pub item : A → X → A
  pub variable : ℕ → A → X
  pub made : Kind → A → X

-- the first fault ends the walk
abbrev pub stopped_by : {X : Type 0} → Refusal → Out X
stopped_by r = stopped (number_of r.fault) r.place

abbrev pub after_text : {X : Type 0} → Result Text Refusal → (ℕ → ℕ → Out X) → Out X
after_text (Ok t) go = go t.start t.next
after_text (Err r) go = stopped_by r

abbrev pub after : {X Y : Type 0} → Out X → (ℕ → X → Out Y) → Out Y
after (came next v) go = go next v
after (stopped number place) go = stopped number place

abbrev pub after_opening : {X : Type 0} → Result Opening Refusal → (ℕ → ℕ → ℕ → Out X) → Out X
after_opening (Ok o) go = go o.stop o.from o.count
after_opening (Err r) go = stopped_by r

-- what walks over something at a place of a window
abbrev pub Walker : Type 0 → Type 0
Walker X = List ℕ → ℕ → ℕ → Out X

module _ {X A : Type 0} (F : Fold X A) where
  unfoldable pub made_of : List ℕ → ℕ → Kind → A → X
  made_of s start Array a = F.made Array a
  made_of s start Map a = F.made Map a
  made_of s start Record a = F.made Record a
  made_of s start Function a = F.made Function a
  made_of s start Symbol a = F.made Symbol a
  made_of s start Variable a = F.variable (size_at s start) a

  -- a payload's end: the items came to next
  unfoldable pub closing : List ℕ → ℕ → ℕ → Kind → ℕ → A → Out X
  closing s at stop kind next a =
      eqb next stop ⇒ (short_form_of s (at + 3) stop kind ⇒ stopped long_form at ∣ λ _. came stop (made_of s (at + 3) kind a)) ∣ λ _.
      stopped size_wrong at

  -- the items of a payload's list, of which inner walks over each shape; a is made of those before
  unfoldable pub walk_items : Walker X → Kind → ℕ → List ℕ → ℕ → ℕ → A → Out A
  walk_items inner kind zero s end at a = came at a
  walk_items inner kind (suc count) s end at a =
      after_text (label_at s end at kind) λ start next.
      shaped kind ⇒
      (after (inner s end next) λ past v. walk_items inner kind count s end past (F.item (F.text kind a (slice start next s)) v))
      ∣ λ _. walk_items inner kind count s end next (F.text kind a (slice start next s))

  -- a shape by its first byte, with so many levels left, its own among them; inner walks over the shapes of its payload
  unfoldable pub by_first : ℕ → Walker X → List ℕ → ℕ → ℕ → First → Out X
  by_first left inner s end at Unassigned = stopped not_assigned at
  by_first left inner s end at (Short levels) =
      ltb left levels ⇒ stopped too_deep at ∣ λ _.
      came (at + 1) (F.short (get_or s at 0) levels)
  by_first left inner s end at (Long kind) =
      eqb left 0 ⇒ stopped too_deep at ∣ λ _.
      after_opening (opening_at s end at kind) λ stop from count.
      after (walk_items inner kind count s stop from F.start) λ next a.
      closing s at stop kind next a

  unfoldable pub shape_with : ℕ → Walker X → Walker X
  shape_with left inner s end at =
      leb end at ⇒ stopped cut_short at ∣ λ _.
      by_first left inner s end at (first_said (class_of (get_or s at 0)))

  unfoldable pub walk_shape : ℕ → Walker X
  walk_shape zero = shape_with zero (λ s end at. stopped too_deep at)
  walk_shape (suc left) = shape_with (suc left) (walk_shape left)

  -- the whole input
  unfoldable pub walk_all : List ℕ → Out X
  walk_all s =
      ltb max_bytes (length s) ⇒ stopped input_too_long max_bytes ∣ λ _.
      after (walk_shape max_levels s (length s) 0) λ next v.
      eqb next (length s) ⇒ came next v ∣ λ _.
      stopped size_wrong next

-- the depth, made on the way
abbrev pub depths : Fold ℕ ℕ
depths = record {
  short = λ b levels. levels;
  start = 0;
  text = λ kind deep t. deep;
  item = max;
  variable = λ n deep. deep + 1;
  made = λ kind deep. deep + 1;
}

-- what the code's own answers say
abbrev pub told : Result Walked Refusal → Out ℕ
told (Ok shape) = came shape.next shape.depth
told (Err r) = stopped_by r

-- what every answer of the reader has: the shape is no deeper than the levels left
abbrev pub WalkedInside : ℕ → Result Walked Refusal → Type 0
WalkedInside left (Ok shape) = shape.depth ≤ left
WalkedInside left (Err r) = Unit {0}

-- what the head of a shape says of it: where the walk over it stops, or that it is one byte, or that it has a payload and a level for it
abbrev pub HeadIs : ℕ → List ℕ → ℕ → ℕ → Result Head Refusal → Type 0
HeadIs left s end at (Err r) = walk_shape depths left s end at ≡ stopped_by r
HeadIs left s end at (Ok (One depth)) = (walk_shape depths left s end at ≡ came (at + 1) depth) × (depth ≤ left) × (at < end)
HeadIs left s end at (Ok (More kind)) = (at < end) × (0 < left) × (first_said (class_of (get_or s at 0)) ≡ Long kind)
