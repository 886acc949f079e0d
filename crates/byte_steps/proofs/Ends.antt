-- Laws of what is still meant: what follows a shape, an item, a payload.
--     after-after, after_same     a walk that goes on and on; that goes on alike
--     prims-none                  a list one of whose items is no primitive has no short form
--     rest-long, rest-one         what follows a shape that is no primitive, and a shape of one byte
--     resume-shape, resume-text   the next item is due: a shape, a text
--     resume-end                  none is due
-- Assumes nothing.
use mathlib.Core.Path.{◌≡◌, refl, ap, ◌∙◌}
use mathlib.Core.Bool.{Bool, true, false, ◌&&◌}
use mathlib.Core.List.{List, [], ◌∷◌}
use Prim.Native.Nat.{ℕ, zero, suc, ◌+◌}
use Rattle.payloads.specs.Payload.{primitive, primitive_at, label_at, named, shaped}
use Rattle.reader.specs.Walk.{Out, came, stopped, after, walk_items, walk_shape, depths}
use Rattle.byte_steps.specs.declared.modes.Items.{Items}
use Rattle.byte_steps.specs.declared.modes.Items.TheVariants.{Plain, Bare, Fields, Texts}
use Rattle.byte_steps.specs.declared.modes.Level.{Level}
use Rattle.byte_steps.specs.Automaton.{plain, unplain, no_primitive, after_child, with_due, level}
use Rattle.byte_steps.proofs.Meant.{hd, tl, deepen, kind_of, prims, closes, listed, resume, rest, rest_at, headed, texts, left_for}

pub after-after : {X Y Z : Type 0} (o : Out X) (f : ℕ → X → Out Y) (g : ℕ → Y → Out Z) → after (after o f) g ≡ after o (λ n v. after (f n v) g)
after-after (came n v) f g = refl
after-after (stopped n p) f g = refl

pub after_same : {X Y : Type 0} (o : Out X) (f g : ℕ → X → Out Y) → ((n : ℕ) (v : X) → f n v ≡ g n v) → after o f ≡ after o g
after_same (came n v) f g h = h n v
after_same (stopped n p) f g h = refl

no-and : (p : Bool) → (p && false) ≡ false
no-and true = refl
no-and false = refl

yes_and : (p : Bool) → (p && true) ≡ p
yes_and true = refl
yes_and false = refl

module _ (s : List ℕ) where
  pub prims-none : (n stop at : ℕ) → prims s n false stop at ≡ false
  unfolding prims
  prims-none zero stop at = refl
  prims-none (suc n) stop at = prims-none n stop (at + 1)

  prims-long : (n : ℕ) (p : Bool) (stop at : ℕ) → primitive_at s stop at ≡ false → prims s (suc n) p stop at ≡ false
  unfolding prims
  prims-long n p stop at h = ap (λ q. prims s n q stop (at + 1)) (rw h (no-and p)) ∙ prims-none n stop (at + 1)

  prims-one : (n : ℕ) (p : Bool) (stop at : ℕ) → primitive_at s stop at ≡ true → prims s (suc n) p stop at ≡ prims s n p stop (at + 1)
  unfolding prims
  prims-one n p stop at h = ap (λ q. prims s n q stop (at + 1)) (rw h (yes_and p))

  -- only the kind of a list's items is asked for
  unplained : (k : ℕ → ℕ → Out ℕ) (left at stop due : ℕ) (items : Items) (short : Bool) (n a : ℕ) → listed s k left (level at stop due items) due short n a ≡ listed s k left (level at stop due (unplain items)) due short n a
  unfolding listed
  unplained k left at stop due Plain short n a = refl
  unplained k left at stop due Bare short n a = refl
  unplained k left at stop due Fields short n a = refl
  unplained k left at stop due Texts short n a = refl

  not_plain : (items : Items) → plain (unplain items) ≡ false
  not_plain Plain = refl
  not_plain Bare = refl
  not_plain Fields = refl
  not_plain Texts = refl

  pub rest-long : (stack : List Level) (top : Level) (ds : List ℕ) (at n d : ℕ) → primitive_at s top.stop at ≡ false → rest_at s stack top ds at n d ≡ rest s stack (no_primitive top) ds n d
  unfolding resume
  rest-long [] top ds at n d h = refl
  rest-long (l ∷ ls) top ds at n d h =
      rw (prims-long top.due (plain top.items) top.stop at h, not_plain top.items, prims-none top.due top.stop n)
      (unplained _ _ top.at top.stop top.due top.items false n _)

  pub rest-one : (stack : List Level) (top : Level) (ds : List ℕ) (at b d : ℕ) → primitive_at s top.stop at ≡ primitive b → rest_at s stack top ds at (at + 1) d ≡ resume s stack (after_child top b) (deepen d ds) (at + 1)
  unfolding resume
  rest-one stack top ds at b d h = go (primitive b) refl
    where
      yes : (stack : List Level) → primitive_at s top.stop at ≡ true → rest_at s stack top ds at (at + 1) d ≡ resume s stack top (deepen d ds) (at + 1)
      yes [] h = refl
      yes (l ∷ ls) h = rw (prims-one top.due (plain top.items) top.stop at h)

      go : (t : Bool) → primitive b ≡ t → rest_at s stack top ds at (at + 1) d ≡ resume s stack (after_child top b) (deepen d ds) (at + 1)
      go true p = rw p (yes stack (h ∙ p))
      go false p = rw p (rest-long stack top ds at (at + 1) d (h ∙ p))

  module _ (l : Level) (ls : List Level) (top : Level) (ds : List ℕ) (at : ℕ) where
    -- a shape is due
    pub resume-shape : (k : ℕ) → top.due ≡ suc k → named (kind_of top.items) ≡ false → shaped (kind_of top.items) ≡ true
        → resume s (l ∷ ls) top ds at ≡ headed s (l ∷ ls) (with_due top k) ds at
    unfolding resume listed walk_items label_at
    resume-shape k h n z = rw (h, n, z) (after-after (walk_shape depths (left_for s (l ∷ ls)) s top.stop at) _ _)

    -- a text is due
    pub resume-text : (k : ℕ) → top.due ≡ suc k → plain top.items ≡ false → resume s (l ∷ ls) top ds at ≡ texts s (l ∷ ls) (with_due top k) ds at
    unfolding resume listed
    resume-text k h p = rw (h, p, prims-none (suc k) top.stop at)

    -- none is due
    pub resume-end : top.due ≡ 0 → resume s (l ∷ ls) top ds at ≡ after (closes s (plain top.items) top.at top.stop at (hd ds)) (rest s ls l (tl ds))
    unfolding resume listed walk_items prims
    resume-end h = rw h
