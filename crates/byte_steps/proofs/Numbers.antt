-- A count, a text's length, a text, a long Variable's number.
-- Assumes nothing.
use mathlib.Core.Path.{◌≡◌, refl, ap, sym, ◌∙◌}
use mathlib.Core.Bool.{Bool, true, false}
use mathlib.Core.List.{List, [], ◌∷◌}
use Prim.Native.Nat.{ℕ, ◌+◌, ◌*◌, ◌-◌, ◌%◌, ◌≤◌, ◌<◌, max}
use native.Mathlib.Omega.{arith}
use lib.ListN.{length, get_or}
use lib.Dec.{ltb, leb, eqb}
use borrow.Author.Tests.{ltb-false, lt-leb, le-ltb, eq-eqb}
use Rattle.meaning.specs.Rules.{◌⇒◌∣◌}
use Rattle.meaning.specs.Refusals.{unfinished, over_two_bytes, not_shortest, long_form}
use Rattle.meaning.specs.FirstByte.{short_blanks}
use Rattle.meaning.proofs.Rules.{facts, rule}
use Rattle.std.specs.Prelude.{Ok, Err}
use Rattle.leaves.specs.Faults.{number_of, fault_of, fault_at, refusal}
use Rattle.leaves.specs.declared.refusals.Fault.{Fault}
use Rattle.leaves.specs.Leb.{leb_of, leb_at}
use Rattle.leaves.proofs.Numbers.{steps, leb-steps}
use Rattle.payloads.specs.Payload.{counted_at, counted_by, short_form_of, small_at}
use Rattle.payloads.specs.declared.first.Kind.TheVariants.{Variable}
use Rattle.reader.specs.Walk.{Out, came, stopped, after, closing, made_of, walk_items, walk_shape, depths}
use Rattle.byte_steps.specs.declared.modes.Items.{Items}
use Rattle.byte_steps.specs.declared.modes.Items.TheVariants.{Plain, Bare, Fields, Texts}
use Rattle.byte_steps.specs.declared.modes.Level.{Level}
use Rattle.byte_steps.specs.declared.modes.Mode.{Mode}
use Rattle.byte_steps.specs.declared.modes.Mode.TheVariants as Now
use Rattle.byte_steps.specs.Automaton.{plain, more, with_due, leb_first, leb_second, blank_taken}
use Rattle.byte_steps.proofs.Meant.{hd, tl, deepen, kind_of, closes, listed, rest, resume, counts, left_for, meant, Fits, Good}
use Rattle.byte_steps.proofs.Ends.{after-after, after_same, prims-none}
use Rattle.byte_steps.proofs.Due.{nested-le, nested_same}
use Rattle.byte_steps.proofs.Heads.{stands, deep_one}
use Rattle.byte_steps.proofs.Sizes.{closing-closes}

module _ (s : List ℕ) where
  -- a long Variable's number
  pub blank-low : (from : ℕ) (stack : List Level) (top : Level) (at whole deepest : ℕ) → Good s (Now.BlankLow from) stack top at whole deepest
      → Good s (Now.BlankHigh from (get_or s at 0)) stack top (at + 1) whole deepest
  unfolding meant Fits
  blank-low from stack top at whole deepest g = record {
    short = g.short;
    held = λ w. let h = g.held w in record { ds = h.ds; is = h.is; deep = h.deep };
    nested = g.nested;
    fits = (omega (arith, g.fits.0), g.fits.1, ap (λ i. get_or s i 0) g.fits.0);
  }

  -- its payload's end, by its two bytes
  blank-closes : (from : ℕ) (t : Bool) → small_at s (from + 5) (from + 3) ≡ t → closing depths s from (from + 5) Variable (from + 5) 0 ≡ (t ⇒ stopped long_form from ∣ λ _. came (from + 5) 1)
  unfolding closing short_form_of made_of
  blank-closes from t e = rw (eq-eqb (from + 5) (from + 5) refl, e)

  small_is : (from : ℕ) → small_at s (from + 5) (from + 3) ≡ (eqb (get_or s (from + 4) 0) 0 ⇒ ltb (get_or s (from + 3) 0) short_blanks ∣ λ _. false)
  unfolding small_at
  small_is from = let z : from + 3 + 1 ≡ from + 4 = omega arith in rw (le-ltb (from + 5 - (from + 3)) 2 (omega arith), z)

  pub blank-high : (from low : ℕ) (stack : List Level) (top : Level) (at whole deepest : ℕ) → Good s (Now.BlankHigh from low) stack top at whole deepest
      → Good s (blank_taken from low (get_or s at 0)) stack top (at + 1) whole (max deepest (length stack + 1))
  unfolding blank_taken meant Fits
  blank-high from low stack top at whole deepest g =
      rule P (eqb (get_or s at 0) 0) _ _
      (λ p. rule P (ltb low short_blanks) _ _
      (λ q. record {
        short = g.short;
        held = λ w. let h = g.held w in record {
          ds = deepen 1 h.ds;
          is = h.is ∙ rw (blank-closes from true (small_is from ∙ rw (← here, p, ← g.fits.2, q)));
          deep = ap (λ x. max x (length stack + 1)) h.deep ∙ deep_one stack h.ds 1;
        };
        nested = g.nested;
        fits = tt;
      })
      (λ q. over (small_is from ∙ rw (← here, p, ← g.fits.2, q))))
      (λ p. over (small_is from ∙ rw (← here, p)))
    where
      P : Mode → Type 0
      P m = Good s m stack top (at + 1) whole (max deepest (length stack + 1))

      here : get_or s at 0 ≡ get_or s (from + 4) 0
      here = ap (λ i. get_or s i 0) g.fits.0

      over : small_at s (from + 5) (from + 3) ≡ false → P Now.Between
      over e =
          let z : at + 1 ≡ from + 5 = omega (arith, g.fits.0) in
          record {
            short = g.short;
            held = λ w. let h = g.held w in record {
              ds = deepen 1 h.ds;
              is = h.is ∙ rw (blank-closes from false e) (ap (resume s stack top (deepen 1 h.ds)) (sym z));
              deep = ap (λ x. max x (length stack + 1)) h.deep ∙ deep_one stack h.ds 1;
            };
            nested = g.nested;
            fits = rw z g.fits.1;
          }

  -- a LEB128 number by its bytes
  module _ (stop at : ℕ) (k : stop ≤ length s) where
    pub leb-one : at < stop → ltb (get_or s at 0) 128 ≡ true → leb_at s stop at ≡ Ok (leb_of (get_or s at 0) (at + 1))
    unfolding steps
    leb-one h p = rw (leb-steps s stop at k, lt-leb stop at h, p)

    pub leb-cut : at < stop → ltb (get_or s at 0) 128 ≡ false → leb stop (at + 1) ≡ true → leb_at s stop at ≡ Err (refusal unfinished at)
    unfolding steps
    leb-cut h p q = rw (leb-steps s stop at k, lt-leb stop at h, p, q)

    pub leb-over : at + 1 < stop → ltb (get_or s at 0) 128 ≡ false → leb 128 (get_or s (at + 1) 0) ≡ true → leb_at s stop at ≡ Err (refusal over_two_bytes at)
    unfolding steps
    leb-over h p q = rw (leb-steps s stop at k, lt-leb stop at (omega arith), p, lt-leb stop (at + 1) h, q)

    pub leb_long : at + 1 < stop → ltb (get_or s at 0) 128 ≡ false → leb 128 (get_or s (at + 1) 0) ≡ false → eqb (get_or s (at + 1) 0) 0 ≡ true → leb_at s stop at ≡ Err (refusal not_shortest at)
    unfolding steps
    leb_long h p q r = rw (leb-steps s stop at k, lt-leb stop at (omega arith), p, lt-leb stop (at + 1) h, q, r)

    pub leb-two : at + 1 < stop → ltb (get_or s at 0) 128 ≡ false → leb 128 (get_or s (at + 1) 0) ≡ false → eqb (get_or s (at + 1) 0) 0 ≡ false
        → leb_at s stop at ≡ Ok (leb_of (get_or s at 0 % 128 + 128 * get_or s (at + 1) 0) (at + 2))
    unfolding steps
    leb-two h p q r = rw (leb-steps s stop at k, lt-leb stop at (omega arith), p, lt-leb stop (at + 1) h, q, r)

  no_short : (start stop : ℕ) (items : Items) → short_form_of s start stop (kind_of items) ≡ false
  unfolding short_form_of
  no_short start stop Plain = refl
  no_short start stop Bare = refl
  no_short start stop Fields = refl
  no_short start stop Texts = refl

  -- a list's count
  module _ (l : Level) (ls : List Level) (top : Level) (ds : List ℕ) (at : ℕ) where
    counts-fault : (f : Fault) → leb_at s top.stop at ≡ Err (fault_at f at) → counts s (l ∷ ls) top ds at ≡ stopped (number_of f) at
    unfolding counted_at counted_by
    counts-fault f e = rw e

    counts-number : (v next : ℕ) → plain top.items ≡ false → leb_at s top.stop at ≡ Ok (leb_of v next) → counts s (l ∷ ls) top ds at ≡ resume s (l ∷ ls) (with_due top (v + more top.items)) ds next
    unfolding counted_at counted_by resume listed
    counts-number v next p e =
        rw (e, p, prims-none s (v + more top.items) top.stop next)
        (after-after W _ _ ∙ after_same W _ _ (λ n b. ap (λ o. after o (rest s ls l (tl ds))) (closing-closes s top.at top.stop (kind_of top.items) n b ∙ ap (λ q. closes s q top.at top.stop n b) (no_short (top.at + 3) top.stop top.items))))
      where
        W : Out ℕ
        W = walk_items depths (walk_shape depths (left_for s (l ∷ ls))) (kind_of top.items) (v + more top.items) s top.stop next (hd ds)

  pub count-taken : (stack : List Level) (top : Level) (at whole deepest : ℕ) → Good s Now.Count stack top at whole deepest
      → Good s (leb_first top at (get_or s at 0) Now.Between (Now.CountMore at (get_or s at 0))) stack (ltb (get_or s at 0) 128 ⇒ with_due top (get_or s at 0 + more top.items) ∣ λ _. top) (at + 1) whole deepest
  unfolding leb_first meant Fits
  count-taken [] top at whole deepest g = absurd g.fits.0
  count-taken (l ∷ ls) top at whole deepest g = go (ltb (get_or s at 0) 128) refl
    where
      b : ℕ
      b = get_or s at 0

      in-s : whole ≤ length s → top.stop ≤ length s
      in-s w = let k = nested-le l ls top whole g.nested in omega arith

      go : (t : Bool) → ltb (get_or s at 0) 128 ≡ t → Good s (leb_first top at (get_or s at 0) Now.Between (Now.CountMore at (get_or s at 0))) (l ∷ ls) (ltb (get_or s at 0) 128 ⇒ with_due top (get_or s at 0 + more top.items) ∣ λ _. top) (at + 1) whole deepest
      go true p = rw p (record {
        short = g.short;
        held = λ w. let h = g.held w in record {
          ds = h.ds;
          is = h.is ∙ counts-number l ls top h.ds at (get_or s at 0) (at + 1) g.fits.1 (leb-one top.stop at (in-s w) (omega (arith, g.fits.0)) p);
          deep = h.deep;
        };
        nested = nested_same (l ∷ ls) top (with_due top (get_or s at 0 + more top.items)) whole refl g.nested;
        fits = g.fits.0;
      })
      go false p = rw p
          (rule (λ m. Good s m (l ∷ ls) top (at + 1) whole deepest) (leb top.stop (at + 1)) _ _
          (λ q. stands s g refl λ w ds i. i ∙ counts-fault l ls top ds at (fault_of unfinished) (leb-cut top.stop at (in-s w) (omega (arith, g.fits.0)) p q))
          λ q. record {
            short = g.short;
            held = λ w. let h = g.held w in record { ds = h.ds; is = h.is; deep = h.deep };
            nested = g.nested;
            fits = (refl, omega (arith, facts), refl, ltb-false _ _ p, g.fits.1);
          })

  pub count-more : (from low : ℕ) (stack : List Level) (top : Level) (at whole deepest : ℕ) → Good s (Now.CountMore from low) stack top at whole deepest
      → Good s (leb_second from (get_or s at 0) Now.Between) stack (with_due top (low % 128 + 128 * get_or s at 0 + more top.items)) (at + 1) whole deepest
  unfolding leb_second meant Fits
  count-more from low [] top at whole deepest g = absurd g.fits.1
  count-more from low (l ∷ ls) top at whole deepest g =
      rule P (leb 128 (get_or s at 0)) _ _
      (λ p. stands s g refl λ w ds i. i ∙ counts-fault l ls top ds from (fault_of over_two_bytes) (leb-over top.stop from (in-s w) room first (rw here at p)))
      λ p. rule P (eqb (get_or s at 0) 0) _ _
      (λ q. stands s g refl λ w ds i. i ∙ counts-fault l ls top ds from (fault_of not_shortest) (leb_long top.stop from (in-s w) room first (rw here at p) (rw here at q)))
      λ q. record {
        short = g.short;
        held = λ w. let h = g.held w in record {
          ds = h.ds;
          is = h.is ∙ counts-number l ls top h.ds from (low % 128 + 128 * get_or s at 0) (at + 1) g.fits.4 (leb-two top.stop from (in-s w) room first (rw here at p) (rw here at q) ∙ rw (← here, ← g.fits.2, next));
          deep = h.deep;
        };
        nested = nested_same (l ∷ ls) top (with_due top (low % 128 + 128 * get_or s at 0 + more top.items)) whole refl g.nested;
        fits = g.fits.1;
      }
    where
      P : Mode → Type 0
      P m = Good s m (l ∷ ls) (with_due top (low % 128 + 128 * get_or s at 0 + more top.items)) (at + 1) whole deepest

      here : get_or s at 0 ≡ get_or s (from + 1) 0
      here = ap (λ i. get_or s i 0) g.fits.0

      next : from + 2 ≡ at + 1
      next = omega (arith, g.fits.0)

      room : from + 1 < top.stop
      room = omega (arith, g.fits.0, g.fits.1)

      first : ltb (get_or s from 0) 128 ≡ false
      first = le-ltb (get_or s from 0) 128 (omega (arith, g.fits.2, g.fits.3))

      in-s : whole ≤ length s → top.stop ≤ length s
      in-s w = let k = nested-le l ls top whole g.nested in omega arith
