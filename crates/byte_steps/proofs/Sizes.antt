-- A payload's size, and how it opens.
-- Assumes nothing.
use mathlib.Core.Path.{◌≡◌, refl, ap, sym, ◌∙◌}
use mathlib.Core.Bool.{Bool, true, false, ◌&&◌}
use mathlib.Core.List.{List, [], ◌∷◌}
use Prim.Native.Nat.{ℕ, ◌+◌, ◌*◌, ◌-◌, ◌≤◌, ◌<◌, max}
use native.Mathlib.Omega.{arith}
use lib.ListN.{length, get_or}
use lib.Dec.{ltb, leb, eqb}
use borrow.Author.Tests.{ltb-true, ltb-false, leb-true, leb-false, lt-ltb, le-ltb, eq-eqb, ne_eqb, eqb-true, eqb-false}
use Rattle.meaning.specs.Rules.{◌⇒◌∣◌}
use Rattle.meaning.specs.Limits.{max_bytes}
use Rattle.meaning.specs.Refusals.{cut_short}
use Rattle.meaning.proofs.Rules.{facts, rule}
use Rattle.leaves.proofs.Numbers.{steps, leb-steps}
use Rattle.payloads.specs.Payload.{primitive_at, opening_at, list_of, counted_at, counted_by, size_at, short_form_of, label_at}
use Rattle.std.specs.Prelude.{Err}
use Rattle.leaves.specs.Faults.{fault_at}
use Rattle.leaves.specs.declared.refusals.Fault.TheVariants.{CutShort}
use Rattle.payloads.specs.declared.first.Kind.{Kind}
use Rattle.payloads.specs.declared.first.Kind.TheVariants.{Array, Map, Record, Function, Symbol, Variable}
use Rattle.reader.specs.Walk.{stopped, after, after_opening, closing, walk_items, walk_shape, walk_all, depths}
use Rattle.reader.proofs.Steps.{made-depth}
use Rattle.byte_steps.specs.declared.modes.Level.{Level}
use Rattle.byte_steps.specs.declared.modes.Mode.TheVariants as Now
use Rattle.byte_steps.specs.Automaton.{plain, size_taken, count_due, level_of, whole_of, opened}
use Rattle.byte_steps.proofs.Meant.{deepest_of, prims, closes, listed, rest, resume, body, window, left_for, meant, Fits, Room, Ending, Nested, Held, Good, GoodRun}
use Rattle.byte_steps.proofs.Ends.{after-after, after_same}
use Rattle.byte_steps.proofs.Due.{nested-le, settled}
use Rattle.byte_steps.proofs.Heads.{stands}

-- the payload's end, as the walk and as the automaton have it
pub closing-closes : (s : List ℕ) (at stop : ℕ) (kind : Kind) (n a : ℕ) → closing depths s at stop kind n a ≡ closes s (short_form_of s (at + 3) stop kind) at stop n a
unfolding closing closes
closing-closes s at stop kind n a = rw (made-depth s (at + 3) kind a)

two-prims : (p q : Bool) → (p ⇒ q ∣ λ _. false) ≡ (p && q)
two-prims true q = refl
two-prims false q = refl

module _ (s : List ℕ) (few : length s ≤ max_bytes) where
  -- the payload passes the window, or lies in it
  cut : (end from : ℕ) (kind : Kind) → end < from + 3 + size_at s (from + 1) → opening_at s end from kind ≡ Err (fault_at CutShort from)
  unfolding opening_at
  cut end from kind h =
      rule (λ o. o ≡ Err (fault_at CutShort from)) (ltb (end - from) 3) _ _ (λ _. refl) λ p.
      rw (lt-ltb (end - from - 3) (size_at s (from + 1)) (omega (arith, facts)))

  fit : (end from : ℕ) (kind : Kind) → from + 3 + size_at s (from + 1) ≤ end → opening_at s end from kind ≡ list_of s from (from + 3) (from + 3 + size_at s (from + 1)) kind
  unfolding opening_at
  fit end from kind h = rw (le-ltb (end - from) 3 (omega arith), le-ltb (end - from - 3) (size_at s (from + 1)) (omega arith))

  -- the size's first byte
  pub low-taken : (kind : Kind) (from : ℕ) (stack : List Level) (top : Level) (at whole deepest : ℕ) → Good s (Now.SizeLow kind from) stack top at whole deepest
      → Good s (Now.SizeHigh kind from (get_or s at 0)) stack top (at + 1) whole deepest
  unfolding meant Fits
  low-taken kind from stack top at whole deepest g = record {
    short = g.short;
    held = λ w. let h = g.held w in record { ds = h.ds; is = h.is; deep = h.deep };
    nested = g.nested;
    fits = (omega (arith, g.fits.0), g.fits.1, ap (λ i. get_or s i 0) g.fits.0);
  }

  -- the size's second byte
  pub high_taken : (kind : Kind) (from low : ℕ) (stack : List Level) (top : Level) (at whole deepest : ℕ) → Good s (Now.SizeHigh kind from low) stack top at whole deepest
      → Good s (size_taken top kind from (at + 1) (low + 256 * get_or s at 0)) stack top (at + 1) whole deepest
  unfolding size_taken meant Fits
  high_taken kind from low stack top at whole deepest g =
      rw size
      (rule (λ m. Good s m stack top (at + 1) whole deepest) (ltb top.stop (from + 3 + size_at s (from + 1))) _ _
      (λ p. stands s g refl λ w ds i. i ∙ rw (cut (window s stack top) from kind (past stack g.fits.1 (ltb-true _ _ p))))
      λ p. record {
        short = g.short;
        held = λ w. let h = g.held w in record { ds = h.ds; is = h.is; deep = h.deep };
        nested = g.nested;
        fits = (omega (arith, g.fits.0), g.fits.1, refl, ltb-false _ _ p);
      })
    where
      size : at + 1 + (low + 256 * get_or s at 0) ≡ from + 3 + size_at s (from + 1)
      size =
          let a : at ≡ from + 1 + 1 = omega (arith, g.fits.0) in let b = ap (λ i. get_or s i 0) a in
          omega (arith, g.fits.0, g.fits.2)

      past : (stack : List Level) → Room s stack top from 3 whole → top.stop < from + 3 + size_at s (from + 1) → window s stack top < from + 3 + size_at s (from + 1)
      past [] r h = omega arith
      past (l ∷ ls) r h = h

  -- a payload opens: what its list says
  module _ (kind : Kind) (from stop : ℕ) (stack : List Level) (top : Level) (at whole deepest : ℕ) (g : Good s (Now.Opening kind from stop) stack top at whole deepest) where
    place : at ≡ from + 3
    unfolding Fits
    place = g.fits.0

    room : Room s stack top from 3 whole
    unfolding Fits
    room = g.fits.1

    size : stop ≡ from + 3 + size_at s (from + 1)
    unfolding Fits
    size = g.fits.2

    inside : stop ≤ top.stop
    unfolding Fits
    inside = g.fits.3

    -- how many bytes the root has is known from its size on
    abbrev all : ℕ
    all = whole_of stack stop whole

    small : (stack : List Level) → Room s stack top from 3 whole → whole_of stack stop whole ≤ length s → whole ≤ length s
    small [] r h = omega (arith, size)
    small (l ∷ ls) r h = h

    fits_in : (stack : List Level) → whole_of stack stop whole ≤ length s → from + 3 + size_at s (from + 1) ≤ window s stack top
    fits_in [] h = omega (arith, size)
    fits_in (l ∷ ls) h = omega (arith, size, inside)

    shorter : (stack : List Level) → Good s (Now.Opening kind from stop) stack top at whole deepest → Room s stack top from 3 whole → length s < whole_of stack stop whole → walk_all depths s ≡ stopped cut_short 0
    unfolding meant
    shorter [] g r h = go (leb whole (length s)) refl
      where
        go : (t : Bool) → leb whole (length s) ≡ t → walk_all depths s ≡ stopped cut_short 0
        go true p = (g.held (leb-true _ _ p)).is ∙ rw (cut (length s) from kind (omega (arith, size)), r.0)
        go false p = g.short (leb-false _ _ p)
    shorter (l ∷ ls) g r h = g.short h

    short : length s < all → walk_all depths s ≡ stopped cut_short 0
    short = shorter stack g room

    -- the walk goes by the payload's list
    record Opened : Type 0 where
      ds : List ℕ
      is : walk_all depths s ≡ after (after_opening (list_of s from (from + 3) stop kind) (body s (left_for s stack - 1) kind from)) (rest s stack top ds)
      deep : deepest ≡ deepest_of stack ds

    opened-is : all ≤ length s → Opened
    unfolding meant
    opened-is w =
        let h = g.held (small stack room w) in
        record {
          ds = h.ds;
          is = h.is ∙ rw (fit (window s stack top) from kind (fits_in stack w), ← size);
          deep = h.deep;
        }

  less : (top : Level) (stack : List Level) → left_for s stack - 1 ≡ left_for s (top ∷ stack)
  less top stack = omega arith

  nest : (stack : List Level) (top new : Level) (stop whole : ℕ) → new.stop ≡ stop → stop ≤ top.stop → Nested stack top whole → Nested (top ∷ stack) new (whole_of stack stop whole)
  unfolding Nested
  nest [] top new stop whole e i h = e
  nest (l ∷ ls) top new stop whole e i h = (omega arith, h)

  deep-open : (stack : List Level) (top : Level) (ds : List ℕ) (deepest : ℕ) → deepest ≡ deepest_of stack ds → max deepest (length stack + 1) ≡ deepest_of (top ∷ stack) (0 ∷ ds)
  unfolding deepest_of
  deep-open stack top ds deepest h = omega arith

  -- the items of an Array and of a Map are walked over as those of any list of shapes
  array-items : (stack : List Level) (top : Level) (ds : List ℕ) (from stop : ℕ)
      → after (body s (left_for s stack - 1) Array from stop (from + 3) 1) (rest s stack top ds) ≡ resume s (top ∷ stack) (level_of Array from stop) (0 ∷ ds) (from + 3)
  unfolding resume listed walk_items label_at prims short_form_of
  array-items stack top ds from stop =
      rw (less top stack)
      (after-after (walk_items depths (walk_shape depths (left_for s (top ∷ stack))) Array 1 s stop (from + 3) 0) _ _
      ∙ after_same (walk_items depths (walk_shape depths (left_for s (top ∷ stack))) Array 1 s stop (from + 3) 0) _ _ (λ n a. ap (λ o. after o (rest s stack top ds)) (closing-closes s from stop Array n a)))

  map-items : (stack : List Level) (top : Level) (ds : List ℕ) (from stop : ℕ)
      → after (body s (left_for s stack - 1) Map from stop (from + 3) 2) (rest s stack top ds) ≡ resume s (top ∷ stack) (level_of Map from stop) (0 ∷ ds) (from + 3)
  unfolding resume listed walk_items label_at prims short_form_of
  map-items stack top ds from stop =
      rw (less top stack)
      (after-after (walk_items depths (walk_shape depths (left_for s (top ∷ stack))) Map 2 s stop (from + 3) 0) _ _
      ∙ after_same (walk_items depths (walk_shape depths (left_for s (top ∷ stack))) Map 2 s stop (from + 3) 0) _ _ (λ n a. ap (λ o. after o (rest s stack top ds)) (closing-closes s from stop Map n a ∙ ap (λ q. closes s q from stop n a) (two-prims (primitive_at s stop (from + 3)) (primitive_at s stop (from + 3 + 1))))))

  -- a list with its count before it
  counted : (stack : List Level) (top : Level) (from stop whole deepest : ℕ) (new : Level) → plain new.items ≡ false → new.stop ≡ stop → stop ≤ top.stop → Nested stack top whole
      → (length s < whole_of stack stop whole → walk_all depths s ≡ stopped cut_short 0)
      → (whole_of stack stop whole ≤ length s → Held s Now.Count (top ∷ stack) new (from + 3) (whole_of stack stop whole) deepest)
      → Good s (count_due stop (from + 3)) (top ∷ stack) new (from + 3) (whole_of stack stop whole) deepest
  unfolding count_due meant Fits counted_at counted_by steps
  counted stack top from stop whole deepest new pl e i n short held =
      rule (λ m. Good s m (top ∷ stack) new (from + 3) (whole_of stack stop whole) deepest) (leb stop (from + 3)) _ _
      (λ p. record {
        short = short;
        held = λ w. let h = held w in let k = nested-le top stack new _ (nest stack top new stop whole e i n) in
            let l : new.stop ≤ length s = omega arith in let q : leb new.stop (from + 3) ≡ true = rw e p in
            record { ds = h.ds; is = h.is ∙ rw (leb-steps s new.stop (from + 3) l, q); deep = h.deep };
        nested = nest stack top new stop whole e i n;
        fits = tt;
      })
      (λ p. record { short = short; held = held; nested = nest stack top new stop whole e i n; fits = (omega (arith, facts, e), pl) })

  keep : (stack : List Level) (top : Level) (stop whole : ℕ) → Nested stack top whole → Nested stack top (whole_of stack stop whole)
  unfolding Nested
  keep [] top stop whole h = tt
  keep (l ∷ ls) top stop whole h = h

  ending : (stack : List Level) (top : Level) (from stop whole : ℕ) → stop ≡ from + 5 → stop ≤ top.stop → Ending s stack top (from + 5) (whole_of stack stop whole)
  ending [] top from stop whole e h = sym e
  ending (l ∷ ls) top from stop whole e h = omega arith

  -- a payload opens
  pub opening : (kind : Kind) (from stop : ℕ) (stack : List Level) (top : Level) (at whole deepest : ℕ) → Good s (Now.Opening kind from stop) stack top at whole deepest
      → GoodRun s (opened kind stack top from stop at (whole_of stack stop whole) deepest)
  unfolding opened meant Fits list_of walk_items
  opening Array from stop stack top at whole deepest g =
      rw (place Array from stop stack top at whole deepest g)
      (settled s (top ∷ stack) (level_of Array from stop) (from + 3) (whole_of stack stop whole) (max deepest (length stack + 1)) (record {
        short = short Array from stop stack top at whole deepest g;
        held = λ w. let h = opened-is Array from stop stack top at whole deepest g w in record {
          ds = 0 ∷ h.ds;
          is = h.is ∙ array-items stack top h.ds from stop;
          deep = deep-open stack top h.ds deepest h.deep;
        };
        nested = nest stack top (level_of Array from stop) stop whole refl (inside Array from stop stack top at whole deepest g) g.nested;
        fits = omega (arith, size Array from stop stack top at whole deepest g);
      }))
  opening Map from stop stack top at whole deepest g =
      rw (place Map from stop stack top at whole deepest g)
      (settled s (top ∷ stack) (level_of Map from stop) (from + 3) (whole_of stack stop whole) (max deepest (length stack + 1)) (record {
        short = short Map from stop stack top at whole deepest g;
        held = λ w. let h = opened-is Map from stop stack top at whole deepest g w in record {
          ds = 0 ∷ h.ds;
          is = h.is ∙ map-items stack top h.ds from stop;
          deep = deep-open stack top h.ds deepest h.deep;
        };
        nested = nest stack top (level_of Map from stop) stop whole refl (inside Map from stop stack top at whole deepest g) g.nested;
        fits = omega (arith, size Map from stop stack top at whole deepest g);
      }))
  opening Record from stop stack top at whole deepest g =
      rw (place Record from stop stack top at whole deepest g)
      (counted stack top from stop whole (max deepest (length stack + 1)) (level_of Record from stop) refl refl (inside Record from stop stack top at whole deepest g) g.nested
      (short Record from stop stack top at whole deepest g)
      (λ w. let h = opened-is Record from stop stack top at whole deepest g w in record { ds = 0 ∷ h.ds; is = h.is ∙ rw (less top stack); deep = deep-open stack top h.ds deepest h.deep }))
  opening Function from stop stack top at whole deepest g =
      rw (place Function from stop stack top at whole deepest g)
      (counted stack top from stop whole (max deepest (length stack + 1)) (level_of Function from stop) refl refl (inside Function from stop stack top at whole deepest g) g.nested
      (short Function from stop stack top at whole deepest g)
      (λ w. let h = opened-is Function from stop stack top at whole deepest g w in record { ds = 0 ∷ h.ds; is = h.is ∙ rw (less top stack); deep = deep-open stack top h.ds deepest h.deep }))
  opening Symbol from stop stack top at whole deepest g =
      rw (place Symbol from stop stack top at whole deepest g)
      (counted stack top from stop whole (max deepest (length stack + 1)) (level_of Symbol from stop) refl refl (inside Symbol from stop stack top at whole deepest g) g.nested
      (short Symbol from stop stack top at whole deepest g)
      (λ w. let h = opened-is Symbol from stop stack top at whole deepest g w in record { ds = 0 ∷ h.ds; is = h.is ∙ rw (less top stack); deep = deep-open stack top h.ds deepest h.deep }))
  opening Variable from stop stack top at whole deepest g =
      rule (GoodRun s) (eqb stop (at + 2)) _ _
      (λ p.
      let e : stop ≡ from + 5 = omega (arith, eqb-true stop (at + 2) p, place Variable from stop stack top at whole deepest g) in
      record {
        short = short Variable from stop stack top at whole deepest g;
        held = λ w. let h = opened-is Variable from stop stack top at whole deepest g w in record {
          ds = h.ds;
          is = h.is ∙ rw (eq-eqb (stop - (from + 3)) 2 (omega arith)) (ap (λ x. after (closing depths s from x Variable x 0) (rest s stack top h.ds)) e);
          deep = h.deep;
        };
        nested = keep stack top stop whole g.nested;
        fits = (place Variable from stop stack top at whole deepest g, ending stack top from stop whole e (inside Variable from stop stack top at whole deepest g));
      })
      λ p. record {
        short = short Variable from stop stack top at whole deepest g;
        held = λ w. let h = opened-is Variable from stop stack top at whole deepest g w in record {
          ds = h.ds;
          is = h.is ∙ rw (ne_eqb (stop - (from + 3)) 2 (λ q. absurd (eqb-false stop (at + 2) p (omega (arith, size Variable from stop stack top at whole deepest g, place Variable from stop stack top at whole deepest g)))));
          deep = h.deep;
        };
        nested = keep stack top stop whole g.nested;
        fits = tt;
      }
