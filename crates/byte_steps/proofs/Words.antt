-- A text: its length, its letters, and what is due after it.
-- Assumes nothing.
use mathlib.Core.Path.{◌≡◌, refl, ap, ◌∙◌}
use mathlib.Core.Bool.{Bool, true, false}
use mathlib.Core.List.{List, [], ◌∷◌}
use Prim.Native.Nat.{ℕ, zero, suc, ◌+◌, ◌*◌, ◌-◌, ◌%◌, ◌≤◌, ◌<◌}
use native.Mathlib.Omega.{arith}
use lib.ListN.{length, get_or}
use lib.Seq.{slice}
use lib.Dec.{ltb, leb, eqb}
use borrow.Author.Tests.{ltb-false, lt-ltb, le-ltb, eqb-true, eqb-false}
use Rattle.meaning.specs.Rules.{◌⇒◌∣◌}
use Rattle.meaning.specs.Refusals.{cut_short, unfinished, over_two_bytes, not_shortest, not_utf8}
use Rattle.meaning.specs.Utf8.{utf8, goes_on, well_formed, chars_size}
use Rattle.meaning.proofs.Rules.{facts, rule}
use Rattle.meaning.proofs.Window.{window-none, window-some}
use Rattle.std.specs.Prelude.{Option, Some, None, Ok, Err}
use Rattle.leaves.specs.Faults.{number_of, fault_of, fault_at}
use Rattle.leaves.specs.declared.refusals.Fault.{Fault}
use Rattle.leaves.specs.declared.refusals.Fault.TheVariants.{CutShort, NotUtf8}
use Rattle.leaves.specs.Leb.{leb_of, leb_at}
use Rattle.payloads.specs.Payload.{text_at, text_from, named}
use Rattle.reader.specs.Walk.{Out, stopped, walk_all, depths}
use Rattle.byte_steps.specs.declared.modes.Items.{Items}
use Rattle.byte_steps.specs.declared.modes.Items.TheVariants.{Plain, Bare, Fields, Texts}
use Rattle.byte_steps.specs.declared.modes.Level.{Level}
use Rattle.byte_steps.specs.declared.Asked.{Asked}
use Rattle.byte_steps.specs.declared.modes.Mode.{Mode}
use Rattle.byte_steps.specs.declared.modes.Mode.TheVariants as Now
use Rattle.byte_steps.specs.Automaton.{level, leb_first, leb_second, text_due, text_done, text_taken, char_taken}
use Rattle.byte_steps.proofs.Letters.{goes, char_says, char-step}
use Rattle.byte_steps.proofs.Meant.{deepest_of, kind_of, texts, worded, meant, Fits, Nested, Good}
use Rattle.byte_steps.proofs.Due.{nested-le, texts-bad, texts-whole, shape-due}
use Rattle.byte_steps.proofs.Heads.{stands}
use Rattle.byte_steps.proofs.Numbers.{leb-one, leb-cut, leb-over, leb_long, leb-two}

module _ (s : List ℕ) where
  -- the walk says so, with the depths so far
  pub record Says (stack : List Level) (deepest : ℕ) (o : List ℕ → Out ℕ) : Type 0 where
    pub ds : List ℕ
    pub is : walk_all depths s ≡ o ds
    pub deep : deepest ≡ deepest_of stack ds

  -- after a text
  text-done : (l : Level) (ls : List Level) (from stop due : ℕ) (items : Items) (at whole deepest : ℕ)
      → (length s < whole → walk_all depths s ≡ stopped cut_short 0) → Nested (l ∷ ls) (level from stop due items) whole → at ≤ stop
      → (whole ≤ length s → Says (l ∷ ls) deepest (λ ds. worded s items (l ∷ ls) (level from stop due items) ds at))
      → Good s (text_done items (level from stop due items) at) (l ∷ ls) (level from stop due items) at whole deepest
  unfolding meant Fits
  text-done l ls from stop due Plain at whole deepest short nested i f = shape-due s short nested (λ w. let h = f w in record { ds = h.ds; is = h.is; deep = h.deep })
  text-done l ls from stop due Bare at whole deepest short nested i f = shape-due s short nested (λ w. let h = f w in record { ds = h.ds; is = h.is; deep = h.deep })
  text-done l ls from stop due Fields at whole deepest short nested i f = shape-due s short nested (λ w. let h = f w in record { ds = h.ds; is = h.is; deep = h.deep })
  text-done l ls from stop due Texts at whole deepest short nested i f = record {
    short = short;
    held = λ w. let h = f w in record { ds = h.ds; is = h.is; deep = h.deep };
    nested = nested;
    fits = i;
  }

  -- an item whose text's length is read
  module _ (l : Level) (ls : List Level) (top : Level) (ds : List ℕ) (at : ℕ) (n : named (kind_of top.items) ≡ true) where
    texts-fault : (f : Fault) → leb_at s top.stop at ≡ Err (fault_at f at) → texts s (l ∷ ls) top ds at ≡ stopped (number_of f) at
    unfolding text_at text_from
    texts-fault f e = texts-bad s l ls ds top.at top.stop top.due at top.items (fault_at f at) n (rw e)

    texts-cut : (size start : ℕ) → leb_at s top.stop at ≡ Ok (leb_of size start) → top.stop - start < size → texts s (l ∷ ls) top ds at ≡ stopped cut_short at
    unfolding text_at text_from
    texts-cut size start e h = texts-bad s l ls ds top.at top.stop top.due at top.items (fault_at CutShort at) n (rw (e, lt-ltb (top.stop - start) size h))

    texts-letters : (size start : ℕ) → leb_at s top.stop at ≡ Ok (leb_of size start) → size ≤ top.stop - start
        → texts s (l ∷ ls) top ds at ≡ (utf8 (slice start (start + size) s) ⇒ worded s top.items (l ∷ ls) top ds (start + size) ∣ λ _. stopped not_utf8 start)
    unfolding text_at text_from
    texts-letters size start e h = go (utf8 (slice start (start + size) s)) refl
      where
        go : (t : Bool) → utf8 (slice start (start + size) s) ≡ t → texts s (l ∷ ls) top ds at ≡ (utf8 (slice start (start + size) s) ⇒ worded s top.items (l ∷ ls) top ds (start + size) ∣ λ _. stopped not_utf8 start)
        go true p = rw p (texts-whole s l ls ds top.at top.stop top.due at top.items start (start + size) n (rw (e, le-ltb (top.stop - start) size h, p)))
        go false p = rw p (texts-bad s l ls ds top.at top.stop top.due at top.items (fault_at NotUtf8 start) n (rw (e, le-ltb (top.stop - start) size h, p)))

  empty-text : (start : ℕ) → utf8 (slice start (start + 0) s) ≡ true
  unfolding well_formed chars_size
  empty-text start = rw (window-none s start (start + 0) (omega arith))

  -- a text of so many bytes is due
  text-due : (l : Level) (ls : List Level) (top : Level) (at from size whole deepest : ℕ) → named (kind_of top.items) ≡ true → from ≤ top.stop
      → (length s < whole → walk_all depths s ≡ stopped cut_short 0) → Nested (l ∷ ls) top whole
      → (whole ≤ length s → (leb_at s top.stop at ≡ Ok (leb_of size from)) × Says (l ∷ ls) deepest (λ ds. texts s (l ∷ ls) top ds at))
      → Good s (text_due top at from size) (l ∷ ls) top from whole deepest
  unfolding text_due meant Fits goes_on
  text-due l ls top at from size whole deepest n i short nested f =
      rule P (ltb top.stop (from + size)) _ _
      (λ p. record {
        short = short;
        held = λ w. let h = f w in record {
          ds = h.1.ds;
          is = h.1.is ∙ texts-cut l ls top h.1.ds at n size from h.0 (omega (arith, facts));
          deep = h.1.deep;
        };
        nested = nested;
        fits = tt;
      })
      λ p. rule P (eqb size 0) _ _
      (λ q.
      let z : size ≡ 0 = eqb-true size 0 q in let y : from + 0 ≡ from = omega arith in
      text-done l ls top.at top.stop top.due top.items from whole deepest short nested i λ w. let h = f w in record {
        ds = h.1.ds;
        is = h.1.is ∙ texts-letters l ls top h.1.ds at n size from h.0 (omega (arith, facts)) ∙ rw (z, empty-text from, y);
        deep = h.1.deep;
      })
      λ q. record {
        short = short;
        held = λ w. let h = f w in record {
          ds = h.1.ds;
          is = h.1.is ∙ texts-letters l ls top h.1.ds at n size from h.0 (omega (arith, facts));
          deep = h.1.deep;
        };
        nested = nested;
        fits = (omega (arith, facts), omega (arith, facts));
      }
    where
      P : Mode → Type 0
      P m = Good s m (l ∷ ls) top from whole deepest

  -- a text's length
  pub length_taken_lem : (stack : List Level) (top : Level) (at whole deepest : ℕ) → Good s Now.Length stack top at whole deepest
      → Good s (leb_first top at (get_or s at 0) (text_due top at (at + 1) (get_or s at 0)) (Now.LengthMore at (get_or s at 0))) stack top (at + 1) whole deepest
  unfolding leb_first meant Fits
  length_taken_lem [] top at whole deepest g = absurd g.fits.0
  length_taken_lem (l ∷ ls) top at whole deepest g =
      rule P (ltb (get_or s at 0) 128) _ _
      (λ p. text-due l ls top at (at + 1) (get_or s at 0) whole deepest g.fits.1 g.fits.0 g.short g.nested λ w.
      let h = g.held w in
      (leb-one s top.stop at (in-s w) (omega (arith, g.fits.0)) p, record { ds = h.ds; is = h.is; deep = h.deep }))
      λ p. rule P (leb top.stop (at + 1)) _ _
      (λ q. stands s g refl λ w ds i. i ∙ texts-fault l ls top ds at g.fits.1 (fault_of unfinished) (leb-cut s top.stop at (in-s w) (omega (arith, g.fits.0)) p q))
      λ q. record {
        short = g.short;
        held = λ w. let h = g.held w in record { ds = h.ds; is = h.is; deep = h.deep };
        nested = g.nested;
        fits = (refl, omega (arith, facts), refl, ltb-false _ _ p, g.fits.1);
      }
    where
      P : Mode → Type 0
      P m = Good s m (l ∷ ls) top (at + 1) whole deepest

      in-s : whole ≤ length s → top.stop ≤ length s
      in-s w = let k = nested-le l ls top whole g.nested in omega arith

  pub length_more_lem : (from low : ℕ) (stack : List Level) (top : Level) (at whole deepest : ℕ) → Good s (Now.LengthMore from low) stack top at whole deepest
      → Good s (leb_second from (get_or s at 0) (text_due top from (at + 1) (low % 128 + 128 * get_or s at 0))) stack top (at + 1) whole deepest
  unfolding leb_second meant Fits
  length_more_lem from low [] top at whole deepest g = absurd g.fits.1
  length_more_lem from low (l ∷ ls) top at whole deepest g =
      rule P (leb 128 (get_or s at 0)) _ _
      (λ p. stands s g refl λ w ds i. i ∙ texts-fault l ls top ds from g.fits.4 (fault_of over_two_bytes) (leb-over s top.stop from (in-s w) room first (rw here at p)))
      λ p. rule P (eqb (get_or s at 0) 0) _ _
      (λ q. stands s g refl λ w ds i. i ∙ texts-fault l ls top ds from g.fits.4 (fault_of not_shortest) (leb_long s top.stop from (in-s w) room first (rw here at p) (rw here at q)))
      λ q. text-due l ls top from (at + 1) (low % 128 + 128 * get_or s at 0) whole deepest g.fits.4 g.fits.1 g.short g.nested λ w.
      let h = g.held w in
      (leb-two s top.stop from (in-s w) room first (rw here at p) (rw here at q) ∙ rw (← here, ← g.fits.2, next), record { ds = h.ds; is = h.is; deep = h.deep })
    where
      P : Mode → Type 0
      P m = Good s m (l ∷ ls) top (at + 1) whole deepest

      here : get_or s at 0 ≡ get_or s (from + 1) 0
      here = ap (λ i. get_or s i 0) g.fits.0

      next : from + 2 ≡ at + 1
      next = omega (arith, g.fits.0)

      room : from + 1 < top.stop
      room = omega (arith, g.fits.0, g.fits.1)

      first : ltb (get_or s from 0) 128 ≡ false
      first = le-ltb (get_or s from 0) 128 (omega (arith, g.fits.2, g.fits.3))

      in-s : whole ≤ length s → top.stop ≤ length s
      in-s w = let k = nested-le l ls top whole g.nested in omega arith

  goes_over : (m low high : ℕ) → eqb m 0 ≡ true → goes m low high [] ≡ true
  unfolding goes_on well_formed chars_size
  goes_over zero low high p = refl
  goes_over (suc m) low high p = absurd (omega (arith, eqb-true (suc m) 0 p))

  goes-not : (m low high : ℕ) → eqb m 0 ≡ false → goes m low high [] ≡ false
  unfolding goes_on
  goes-not zero low high p = absurd (eqb-false 0 0 p refl)
  goes-not (suc m) low high p = refl

  -- a text's byte
  pub letter-taken : (from left m low high : ℕ) (stack : List Level) (top : Level) (at whole deepest : ℕ) → Good s (Now.Letters from left m low high) stack top at whole deepest
      → Good s (text_taken top from left (at + 1) (char_taken m low high (get_or s at 0))) stack top (at + 1) whole deepest
  unfolding text_taken meant Fits
  letter-taken from left m low high [] top at whole deepest g = absurd g.fits.1
  letter-taken from left m low high (l ∷ ls) top at whole deepest g = go (char_taken m low high (get_or s at 0)) refl
    where
      P : Mode → Type 0
      P m = Good s m (l ∷ ls) top (at + 1) whole deepest

      in-s : whole ≤ length s → at + left ≤ length s
      in-s w = let k = nested-le l ls top whole g.nested in omega (arith, g.fits.1)

      -- what the bytes after this one say
      says : (c : Option Asked) → char_taken m low high (get_or s at 0) ≡ c → whole ≤ length s → goes m low high (slice at (at + left) s) ≡ char_says c (slice (at + 1) (at + left) s)
      says c e w =
          ap (goes m low high) (window-some s at (at + left) (omega (arith, g.fits.0)) (in-s w))
          ∙ char-step m low high (get_or s at 0) (slice (at + 1) (at + left) s)
          ∙ ap (λ c. char_says c (slice (at + 1) (at + left) s)) e

      go : (c : Option Asked) → char_taken m low high (get_or s at 0) ≡ c → P (text_taken top from left (at + 1) c)
      go None e = stands s g refl λ w ds i. i ∙ rw (says None e w)
      go (Some c) e =
          rule P (leb left 1) _ _
          (λ p.
          let z : at + left ≡ at + 1 = omega (arith, facts, g.fits.0) in
          rule P (eqb c.more 0) _ _
          (λ q. text-done l ls top.at top.stop top.due top.items (at + 1) whole deepest g.short g.nested (omega (arith, g.fits.1)) λ w. let h = g.held w in record {
            ds = h.ds;
            is = h.is ∙ rw (says (Some c) e w, z, window-none s (at + 1) (at + 1) (omega arith), goes_over c.more c.low c.high q);
            deep = h.deep;
          })
          (λ q. stands s g refl λ w ds i. i ∙ rw (says (Some c) e w, z, window-none s (at + 1) (at + 1) (omega arith), goes-not c.more c.low c.high q)))
          λ p.
          let z : at + left ≡ at + 1 + (left - 1) = omega (arith, facts) in
          record {
            short = g.short;
            held = λ w. let h = g.held w in record { ds = h.ds; is = h.is ∙ rw (says (Some c) e w, z); deep = h.deep };
            nested = g.nested;
            fits = (omega (arith, facts), omega (arith, facts, g.fits.1));
          }
