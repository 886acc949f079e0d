-- What lies whole in a window of a part, as the code takes it.
--     short-whole, shape-whole                  a shape: of one byte, and any
--     bare-whole, field-whole, text-whole       an item of a list
--     run_none, run-fault, run_more             items one after the other
-- Assumes nothing.
use mathlib.Core.Path.{◌≡◌, refl, ap, ◌∙◌}
use mathlib.Core.Bool.{Bool, true, false}
use mathlib.Core.List.{List, ◌∷◌}
use Prim.Native.Nat.{ℕ, zero, suc, ◌+◌, ◌-◌, ◌≤◌, ◌<◌, max}
use native.Mathlib.Omega.{arith}
use lib.ListN.{length, get_or, drop}
use borrow.Author.Tests.{lt-leb, lt-ltb, le-ltb}
use Rattle.meaning.specs.Limits.{max_levels}
use Rattle.meaning.specs.FirstByte.{class_of}
use Rattle.payloads.specs.First.{first_said}
use Rattle.std.specs.Prelude.{Result, Ok, Err}
use Rattle.payloads.specs.declared.Text.{Text}
use Rattle.payloads.specs.Payload.{primitive, text_at}
use Rattle.payloads.specs.declared.first.First.TheVariants as By
use Rattle.reader.specs.Walk.{came, by_first, shape_with, walk_shape, depths}
use Rattle.byte_steps.specs.declared.modes.Items.{Items}
use Rattle.byte_steps.specs.declared.modes.Items.TheVariants.{Plain, Bare, Fields, Texts}
use Rattle.byte_steps.specs.declared.modes.Level.{Level}
use Rattle.items.specs.declared.Item.{Item}
use Rattle.items.specs.declared.Cut.{Cut}
use Rattle.items.specs.declared.Run as Taken
use Rattle.byte_steps.specs.Automaton.{level, after_child, unplain, shape_due, length_due, item_due, settle, entered, fed, run}
use Rattle.items.specs.Fed.{item_mode, ShapeFed, ItemFed, RunFed}
use Rattle.items.proofs.Taking.{text-spans, shape-spans}
use Rattle.items.proofs.Inside.{text-fed, shape-fed}

-- an item up to a place, and how deep the deepest shape is then
abbrev pub whole_of : ℕ → ℕ → Item
whole_of next deepest = record { next = next; deepest = deepest }

-- a shape of one byte is walked over
short-walk : (left : ℕ) (s : List ℕ) (end at levels : ℕ) → at < end → first_said (class_of (get_or s at 0)) ≡ By.Short levels → levels ≤ left → walk_shape depths left s end at ≡ came (at + 1) levels
unfolding walk_shape shape_with by_first
short-walk zero s end at levels h f k = rw (lt-leb end at h, f, le-ltb 0 levels k)
short-walk (suc left) s end at levels h f k = rw (lt-leb end at h, f, le-ltb (suc left) levels k)

pub shape-whole : (s : List ℕ) (end at n deepest next d : ℕ) → walk_shape depths (max_levels - n) s end at ≡ came next d → n ≤ max_levels → end ≤ length s → ShapeFed s end at n deepest (Ok (whole_of next (max deepest (n + d))))
shape-whole s end at n deepest next d w k b =
    let p = shape-spans (max_levels - n) s end at next d w in (
      p.on,
      p.within,
      λ l ls top count whole e h j.
          shape-fed (max_levels - n) s end at next d l ls top count whole deepest w (omega (arith, e)) b h j
          ∙ ap (λ q. fed (settle (l ∷ ls) (after_child top (get_or s at 0)) (count + (next - at)) whole (max deepest (q + d))) (drop next s)) e,
    )

pub short-whole : (s : List ℕ) (end at n deepest levels : ℕ) → first_said (class_of (get_or s at 0)) ≡ By.Short levels → at < end → n + levels ≤ max_levels → end ≤ length s → ShapeFed s end at n deepest (Ok (whole_of (at + 1) (max deepest (n + levels))))
short-whole s end at n deepest levels f h k b = shape-whole s end at n deepest (at + 1) levels (short-walk (max_levels - n) s end at levels h f (omega arith)) (omega arith) b

-- a list that has no short form is the same after an item
after_same : (at stop due b : ℕ) (items : Items) → unplain items ≡ items → after_child (level at stop due items) b ≡ level at stop due items
after_same at stop due b items e = go (primitive b) refl
  where
    go : (t : Bool) → primitive b ≡ t → after_child (level at stop due items) b ≡ level at stop due items
    go true p = rw p
    go false p = rw p (ap (λ x. level at stop due x) e)

pub bare-whole : (s : List ℕ) (end at n deepest : ℕ) (r : Result Item Cut) → ShapeFed s end at n deepest r → ItemFed Bare s end at n deepest r
bare-whole s end at n deepest (Err cut) h = h
bare-whole s end at n deepest (Ok item) h = (
  h.0,
  h.1,
  λ l ls from stop due count whole e j k.
      h.2 l ls (level from stop due Bare) count whole e j k
      ∙ ap (λ x. fed (settle (l ∷ ls) x (count + (item.next - at)) whole item.deepest) (drop item.next s)) (after_same from stop due (get_or s at 0) Bare refl),
)

pub text-whole : (s : List ℕ) (end at n deepest : ℕ) (t : Text) → text_at s end at ≡ Ok t → end ≤ length s → ItemFed Texts s end at n deepest (Ok (whole_of t.next deepest))
unfolding entered
text-whole s end at n deepest t e b =
    let p = text-spans s end at t.start t.next e b in
    (p.0, p.1, λ l ls from stop due count whole o j k. text-fed s (l ∷ ls) (level from stop due Texts) whole deepest end at t.start t.next count e b j k)

pub field-whole : (s : List ℕ) (end at n deepest : ℕ) (t : Text) (r : Result Item Cut) → text_at s end at ≡ Ok t → end ≤ length s → ShapeFed s end t.next n deepest r → ItemFed Fields s end at n deepest r
unfolding entered shape_due
field-whole s end at n deepest t (Err cut) g b h = h
field-whole s end at n deepest t (Ok item) g b h =
    let p = text-spans s end at t.start t.next g b in (
      omega (arith, p.0, h.0),
      h.1,
      λ l ls from stop due count whole e j k.
          text-fed s (l ∷ ls) (level from stop due Fields) whole deepest end at t.start t.next count g b j k
          ∙ rw (lt-leb stop (count + (t.next - at)) (omega (arith, p.0, h.0, h.1)))
          (h.2 l ls (level from stop due Fields) (count + (t.next - at)) whole e (omega (arith, p.0, p.1)) (omega (arith, p.0, p.1))
          ∙ rw (after_same from stop due (get_or s t.next 0) Fields refl)
          (ap (λ x. fed (settle (l ∷ ls) (level from stop due Fields) x whole item.deepest) (drop item.next s)) (omega (arith, p.0, h.0)))),
    )

-- an item is due before its payload's end
item-due : (items : Items) (top : Level) (at : ℕ) → at < top.stop → item_due items top at ≡ item_mode items
unfolding shape_due length_due
item-due Plain top at h = rw (lt-leb top.stop at h)
item-due Bare top at h = rw (lt-leb top.stop at h)
item-due Fields top at h = rw (lt-leb top.stop at h)
item-due Texts top at h = rw (lt-leb top.stop at h)

abbrev taken : ℕ → ℕ → ℕ → ℕ → Taken.Run
taken i due deepest fault = record { i = i; due = due; deepest = deepest; fault = fault }

-- whatever fault is known of
pub run-fault : {items : Items} {s : List ℕ} {end at n due deepest i d deep f : ℕ} (fault : ℕ) → RunFed items s end at n due deepest (taken i d deep f) → RunFed items s end at n due deepest (taken i d deep fault)
run-fault fault r = record { from = r.from; inside = r.inside; fewer = r.fewer; same = r.same }

-- none yet
pub run_none : (items : Items) (s : List ℕ) (end at n due deepest fault : ℕ) → RunFed items s end at n due deepest (taken at due deepest fault)
run_none items s end at n due deepest fault = record {
  from = omega arith;
  inside = omega arith;
  fewer = omega arith;
  same = λ l ls from stop count whole e j k. ap (λ x. fed (run (l ∷ ls) (level from stop due items) (item_mode items) x whole deepest) (drop at s)) (omega arith);
}

-- one more
pub run_more : (items : Items) (s : List ℕ) (end at n due deepest i d deep fault next deeper : ℕ) → RunFed items s end at n due deepest (taken i d deep fault) → 0 < d
    → ItemFed items s end i n deep (Ok (whole_of next deeper)) → next < end → RunFed items s end at n due deepest (taken next (d - 1) deeper fault)
unfolding settle
run_more items s end at n due deepest i d deep fault next deeper r p h q = record {
  from = omega (arith, r.from, h.0);
  inside = omega (arith, r.inside, h.1);
  fewer = omega (arith, r.fewer);
  same = λ l ls from stop count whole e j k.
      r.same l ls from stop count whole e j k
      ∙ h.2 l ls from stop d (count + (i - at)) whole e (omega (arith, r.from, h.0, h.1)) (omega (arith, r.from, h.0, h.1))
      ∙ rw (lt-ltb 0 d p, item-due items (level from stop d items) (count + (i - at) + (next - i)) (omega (arith, r.from, h.0)))
      (ap (λ x. fed (run (l ∷ ls) (level from stop (d - 1) items) (item_mode items) x whole deeper) (drop next s)) (omega (arith, r.from, h.0)));
}
