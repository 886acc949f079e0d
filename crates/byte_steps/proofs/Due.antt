-- What is due after an item: the next one, or the payload's end, and so on outwards.
--     nested-le, nested_same, nested-down     payloads lie inside the root
--     deep-down                               a level that ends leaves the deepest as it is
--     texts-bad, texts-whole                  an item's text is bad, or whole
--     shape-due, text-due, settled            the state is good where a shape, a text, or something is due
-- Assumes nothing.
use mathlib.Core.Path.{◌≡◌, refl, ap, sym, ◌∙◌}
use mathlib.Core.Bool.{Bool, true, false, not, false≢true}
use mathlib.Core.List.{List, [], ◌∷◌}
use Prim.Native.Nat.{ℕ, suc, ◌+◌, ◌-◌, ◌≤◌, ◌<◌}
use native.Mathlib.Omega.{arith}
use lib.ListN.{length}
use lib.Dec.{ltb, leb, eqb}
use borrow.Author.Tests.{ltb-true, ltb-false, eqb-true}
use Rattle.meaning.specs.Refusals.{cut_short, unfinished}
use Rattle.meaning.proofs.Rules.{facts, rule}
use Rattle.leaves.proofs.Numbers.{steps, leb-steps}
use Rattle.std.specs.Prelude.{Ok, Err}
use Rattle.leaves.specs.Faults.{refusal}
use Rattle.leaves.specs.declared.refusals.Refusal.{Refusal}
use Rattle.payloads.specs.Payload.{text_of, label_at, text_at, text_from, named}
use Rattle.reader.specs.Walk.{stopped_by, stopped, walk_items, walk_shape, walk_all, shape_with, depths}
use Rattle.reader.proofs.Steps.{shape-by}
use Rattle.byte_steps.specs.declared.modes.Items.{Items}
use Rattle.byte_steps.specs.declared.modes.Items.TheVariants.{Plain, Bare, Fields, Texts}
use Rattle.byte_steps.specs.declared.modes.Level.{Level}
use Rattle.byte_steps.specs.declared.modes.Mode.TheVariants.{Head, Length, Between}
use Rattle.byte_steps.specs.Automaton.{plain, level, shape_due, length_due, item_due, settle}
use Rattle.byte_steps.proofs.Meant.{hd, tl, deepen, deepest_of, kind_of, closes, listed, resume, rest_at, texts, worded, left_for, meant, Fits, Ending, Nested, Held, Good, GoodRun}
use Rattle.byte_steps.proofs.Ends.{after-after, after_same, prims-none, resume-shape, resume-text, resume-end}

pub nested-le : (l : Level) (ls : List Level) (top : Level) (whole : ℕ) → Nested (l ∷ ls) top whole → top.stop ≤ whole
unfolding Nested
nested-le l [] top whole h = omega arith
nested-le l (m ∷ ls) top whole h = let k = nested-le m ls l whole h.1 in omega arith

pub nested_same : (stack : List Level) (a b : Level) (whole : ℕ) → a.stop ≡ b.stop → Nested stack a whole → Nested stack b whole
unfolding Nested
nested_same [] a b whole e h = tt
nested_same (l ∷ []) a b whole e h = sym e ∙ h
nested_same (l ∷ m ∷ ls) a b whole e h = (omega arith, h.1)

pub nested-down : (l : Level) (ls : List Level) (top : Level) (whole : ℕ) → Nested (l ∷ ls) top whole → Nested ls l whole
unfolding Nested
nested-down l [] top whole h = tt
nested-down l (m ∷ ls) top whole h = h.1

ending-down : (l : Level) (ls : List Level) (top : Level) (at whole : ℕ) → at ≡ top.stop → Nested (l ∷ ls) top whole → Ending [] ls l at whole
unfolding Nested
ending-down l [] top at whole e h = e ∙ h
ending-down l (m ∷ ls) top at whole e h = omega arith

deep-down : (l : Level) (ls : List Level) (ds : List ℕ) → deepest_of (l ∷ ls) ds ≡ deepest_of ls (deepen (hd ds + 1) (tl ds))
unfolding deepest_of
deep-down l [] ds = omega arith
deep-down l (m ∷ ls) ds = omega arith

not-true : (t : Bool) → not t ≡ true → t ≡ false
not-true true h = absurd (false≢true h)
not-true false h = refl

not-false : (t : Bool) → not t ≡ false → t ≡ true
not-false true h = refl
not-false false h = absurd (false≢true (sym h))

module _ (s : List ℕ) where
  -- a window that ends
  pub head-none : (left end at : ℕ) → leb end at ≡ true → walk_shape depths left s end at ≡ stopped cut_short at
  unfolding shape_with
  head-none left end at p = rw (shape-by depths left s end at, p)

  module _ (l : Level) (ls : List Level) (ds : List ℕ) (from stop due at : ℕ) where
    pub texts-bad : (items : Items) (r : Refusal) → named (kind_of items) ≡ true → text_at s stop at ≡ Err r → texts s (l ∷ ls) (level from stop due items) ds at ≡ stopped_by r
    unfolding listed walk_items label_at
    texts-bad items r h e = rw (h, e)

    pub texts-whole : (items : Items) (start next : ℕ) → named (kind_of items) ≡ true → text_at s stop at ≡ Ok (text_of start next)
        → texts s (l ∷ ls) (level from stop due items) ds at ≡ worded s items (l ∷ ls) (level from stop due items) ds next
    unfolding listed walk_items label_at resume
    texts-whole Plain start next h e = absurd (false≢true h)
    texts-whole Bare start next h e = absurd (false≢true h)
    texts-whole Fields start next h e = rw e
        (after-after (walk_shape depths (left_for s (l ∷ ls)) s stop next) _ _
        ∙ after_same (walk_shape depths (left_for s (l ∷ ls)) s stop next) _ (rest_at s (l ∷ ls) (level from stop due Fields) ds next) (λ n v. rw (prims-none s (suc due) stop next)))
    texts-whole Texts start next h e = rw (e, prims-none s due stop next)

    -- no byte is left for a length
    pub texts-none : (items : Items) → named (kind_of items) ≡ true → stop ≤ length s → leb stop at ≡ true → texts s (l ∷ ls) (level from stop due items) ds at ≡ stopped unfinished at
    unfolding text_at text_from steps
    texts-none items h k p = texts-bad items (refusal unfinished at) h (rw (leb-steps s stop at k, p))

  module _ {l : Level} {ls : List Level} {top : Level} {at whole deepest : ℕ}
      (short : length s < whole → walk_all depths s ≡ stopped cut_short 0) (nested : Nested (l ∷ ls) top whole) where
    pub shape-due : (whole ≤ length s → Held s Head (l ∷ ls) top at whole deepest) → Good s (shape_due top at) (l ∷ ls) top at whole deepest
    unfolding shape_due meant Fits
    shape-due held =
        rule (λ m. Good s m (l ∷ ls) top at whole deepest) (leb top.stop at) _ _
        (λ p. record {
          short = short;
          held = λ w. let h = held w in record { ds = h.ds; is = h.is ∙ rw (head-none (left_for s (l ∷ ls)) top.stop at p); deep = h.deep };
          nested = nested;
          fits = tt;
        })
        (λ p. record { short = short; held = held; nested = nested; fits = omega (arith, facts) })

    pub text-due : named (kind_of top.items) ≡ true → (whole ≤ length s → Held s Length (l ∷ ls) top at whole deepest) → Good s (length_due top at) (l ∷ ls) top at whole deepest
    unfolding length_due meant Fits
    text-due n held =
        rule (λ m. Good s m (l ∷ ls) top at whole deepest) (leb top.stop at) _ _
        (λ p. record {
          short = short;
          held = λ w. let h = held w in let k = nested-le l ls top whole nested in record {
            ds = h.ds;
            is = h.is ∙ texts-none l ls h.ds top.at top.stop top.due at top.items n (omega arith) p;
            deep = h.deep;
          };
          nested = nested;
          fits = tt;
        })
        (λ p. record { short = short; held = held; nested = nested; fits = (omega (arith, facts), n) })

  -- the next item is due
  item-due : (l : Level) (ls : List Level) (from stop due : ℕ) (items : Items) (at whole deepest : ℕ) → 0 < due → Good s Between (l ∷ ls) (level from stop due items) at whole deepest
      → Good s (item_due items (level from stop due items) at) (l ∷ ls) (level from stop (due - 1) items) at whole deepest
  unfolding meant shape_due length_due
  item-due l ls from stop due Plain at whole deepest h g =
      shape-due g.short (nested_same (l ∷ ls) _ (level from stop (due - 1) Plain) whole refl g.nested) λ w.
      let e = g.held w in
      record { ds = e.ds; is = e.is ∙ resume-shape s l ls _ e.ds at (due - 1) (omega arith) refl refl; deep = e.deep }
  item-due l ls from stop due Bare at whole deepest h g =
      shape-due g.short (nested_same (l ∷ ls) _ (level from stop (due - 1) Bare) whole refl g.nested) λ w.
      let e = g.held w in
      record { ds = e.ds; is = e.is ∙ resume-shape s l ls _ e.ds at (due - 1) (omega arith) refl refl; deep = e.deep }
  item-due l ls from stop due Fields at whole deepest h g =
      text-due g.short (nested_same (l ∷ ls) _ (level from stop (due - 1) Fields) whole refl g.nested) refl λ w.
      let e = g.held w in
      record { ds = e.ds; is = e.is ∙ resume-text s l ls _ e.ds at (due - 1) (omega arith) refl; deep = e.deep }
  item-due l ls from stop due Texts at whole deepest h g =
      text-due g.short (nested_same (l ∷ ls) _ (level from stop (due - 1) Texts) whole refl g.nested) refl λ w.
      let e = g.held w in
      record { ds = e.ds; is = e.is ∙ resume-text s l ls _ e.ds at (due - 1) (omega arith) refl; deep = e.deep }

  -- what is due after an item
  pub settled : (stack : List Level) (top : Level) (at whole deepest : ℕ) → Good s Between stack top at whole deepest → GoodRun s (settle stack top at whole deepest)
  unfolding settle meant Fits closes
  settled [] top at whole deepest g = record {
    short = g.short;
    held = λ w. let h = g.held w in record { ds = h.ds; is = h.is ∙ ap (resume s [] top h.ds) g.fits; deep = h.deep };
    nested = g.nested;
    fits = (refl, omega (arith, g.fits));
  }
  settled (l ∷ ls) top at whole deepest g =
      rule (GoodRun s) (ltb 0 top.due) _ _ (λ p. item-due l ls top.at top.stop top.due top.items at whole deepest (ltb-true _ _ p) g) λ p.
      let z : top.due ≡ 0 = omega (arith, ltb-false 0 top.due p) in
      let m = g.nested in
      rule (GoodRun s) (not (eqb at top.stop)) _ _
      (λ q. record {
        short = g.short;
        held = λ w. let h = g.held w in record { ds = h.ds; is = h.is ∙ resume-end s l ls top h.ds at z ∙ rw (not-true (eqb at top.stop) q); deep = h.deep };
        nested = m;
        fits = tt;
      }) λ q.
      rule (GoodRun s) (plain top.items) _ _
      (λ r. record {
        short = g.short;
        held = λ w. let h = g.held w in record { ds = h.ds; is = h.is ∙ resume-end s l ls top h.ds at z ∙ rw (not-false (eqb at top.stop) q, r); deep = h.deep };
        nested = m;
        fits = tt;
      }) λ r.
      let e : at ≡ top.stop = eqb-true _ _ (not-false (eqb at top.stop) q) in
      settled ls l at whole deepest (record {
        short = g.short;
        held = λ w. let h = g.held w in record {
          ds = deepen (hd h.ds + 1) (tl h.ds);
          is = h.is ∙ resume-end s l ls top h.ds at z ∙ rw (not-false (eqb at top.stop) q, r) (ap (resume s ls l (deepen (hd h.ds + 1) (tl h.ds))) (sym e));
          deep = h.deep ∙ deep-down l ls h.ds;
        };
        nested = nested-down l ls top whole m;
        fits = ending-down l ls top at whole e m;
      })
