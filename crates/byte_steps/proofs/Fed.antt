-- The reader that is fed answers as the walk over the whole input does, and so as reading means.
--     fed-walk      for any input
--     fed-said      for any bytes: what reading means
--     fed-parts     fed in parts, fed with the parts joined
-- Assumes nothing.
use mathlib.Core.Path.{◌≡◌, refl, ap, ap₂, sym, ◌∙◌}
use mathlib.Core.Bool.{Bool, true, false, not}
use mathlib.Core.List.{List, [], ◌∷◌, ◌++◌}
use Prim.Native.Nat.{ℕ, zero, suc, ◌+◌, ◌-◌, ◌≤◌, ◌<◌, max}
use native.Mathlib.Omega.{arith}
use native.Mathlib.Numerals.{add-one}
use lib.ListN.{length, get_or, drop, drop_of_length-le}
use lib.Seq.{drop-cons}
use lib.Dec.{ltb, leb, eqb}
use borrow.Author.Tests.{ltb-true, ltb-false, leb-false, lt-leb, le-leb, lt-ltb, le-ltb, eq-eqb, ne_eqb}
use Rattle.meaning.specs.Rules.{◌⇒◌∣◌}
use Rattle.meaning.specs.Limits.{max_bytes, max_levels}
use Rattle.meaning.specs.Refusals.{cut_short}
use Rattle.meaning.specs.Shape.{Shape, depth}
use Rattle.meaning.specs.Encode.{encode}
use Rattle.meaning.specs.Reading.{Reading, got, bad, reading}
use Rattle.meaning.proofs.Window.{bytes-by-index}
use Rattle.meaning.proofs.Laws.{encode-reading, nothing_left}
use Rattle.reader.proofs.Folding.{fold-depth}
use Rattle.meaning.proofs.Rules.{rule, both}
use Rattle.payloads.specs.Payload.{opening_at}
use Rattle.payloads.specs.declared.first.Kind.{Kind}
use Rattle.payloads.specs.declared.first.Kind.TheVariants.{Array, Map, Record, Function, Symbol, Variable}
use Rattle.reader.specs.Walk.{Out, came, stopped, walk_shape, walk_all, depths}
use Rattle.reader.proofs.Whole.{made_from, walk-reading}
use Rattle.byte_steps.specs.declared.modes.Items.{Items}
use Rattle.byte_steps.specs.declared.modes.Items.TheVariants.{Plain, Bare, Fields, Texts}
use Rattle.byte_steps.specs.declared.modes.Level.{Level}
use Rattle.byte_steps.specs.declared.modes.Mode.{Mode}
use Rattle.byte_steps.specs.declared.modes.Mode.TheVariants as Now
use Rattle.byte_steps.specs.Automaton.{plain, taken, count_taken, count_more, length_taken, length_more, settle, opened, entered, step, fed, start, verdict, finish, Run, whole_of, shape_due, length_due, item_due, count_due, level_of}
use Rattle.byte_steps.proofs.Meant.{deepest_of, resume, opens, meant, Fits, Nested, Good, GoodRun}
use Rattle.byte_steps.proofs.Ends.{after_same}
use Rattle.byte_steps.proofs.Due.{nested-le, head-none, settled}
use Rattle.byte_steps.proofs.Heads.{Taken, head-taken}
use Rattle.byte_steps.proofs.Sizes.{low-taken, high_taken, opening}
use Rattle.byte_steps.proofs.Numbers.{blank-low, blank-high, count-taken, count-more}
use Rattle.byte_steps.proofs.Words.{length_taken_lem, length_more_lem, letter-taken}

-- a state waits for a byte
abbrev pub Resting : Mode → Type 0
Resting Now.Head = Unit {0}
Resting (Now.SizeLow kind from) = Unit {0}
Resting (Now.SizeHigh kind from low) = Unit {0}
Resting (Now.Opening kind from stop) = ⊥
Resting Now.Count = Unit {0}
Resting (Now.CountMore from low) = Unit {0}
Resting Now.Length = Unit {0}
Resting (Now.LengthMore from low) = Unit {0}
Resting (Now.Letters from left m low high) = Unit {0}
Resting (Now.BlankLow from) = Unit {0}
Resting (Now.BlankHigh from low) = Unit {0}
Resting Now.Between = ⊥
Resting Now.Done = Unit {0}
Resting (Now.Faulty number place) = Unit {0}

abbrev Rests : Run → Type 0
Rests r = Resting r.mode

shape-rests : (top : Level) (at : ℕ) → Resting (shape_due top at)
unfolding shape_due
shape-rests top at = rule Resting (leb top.stop at) _ _ (λ _. tt) (λ _. tt)

length-rests : (top : Level) (at : ℕ) → Resting (length_due top at)
unfolding length_due
length-rests top at = rule Resting (leb top.stop at) _ _ (λ _. tt) (λ _. tt)

item-rests : (items : Items) (top : Level) (at : ℕ) → Resting (item_due items top at)
item-rests Plain top at = shape-rests top at
item-rests Bare top at = shape-rests top at
item-rests Fields top at = length-rests top at
item-rests Texts top at = length-rests top at

count-rests : (stop at : ℕ) → Resting (count_due stop at)
unfolding count_due
count-rests stop at = rule Resting (leb stop at) _ _ (λ _. tt) (λ _. tt)

-- a state that waits, after so many bytes
abbrev Waits : ℕ → Run → Type 0
Waits at r = Rests r × (r.count ≡ at)

settle-waits : (stack : List Level) (top : Level) (at whole deepest : ℕ) → Waits at (settle stack top at whole deepest)
unfolding settle
settle-waits [] top at whole deepest = (tt, refl)
settle-waits (l ∷ ls) top at whole deepest =
    rule (Waits at) (ltb 0 top.due) _ _ (λ _. (item-rests top.items top at, refl)) λ _.
    rule (Waits at) (not (eqb at top.stop)) _ _ (λ _. (tt, refl)) λ _.
    rule (Waits at) (plain top.items) _ _ (λ _. (tt, refl)) λ _.
    settle-waits ls l at whole deepest

opened-waits : (kind : Kind) (stack : List Level) (top : Level) (from stop at whole deepest : ℕ) → Waits at (opened kind stack top from stop at whole deepest)
unfolding opened
opened-waits Array stack top from stop at whole deepest = settle-waits (top ∷ stack) (level_of Array from stop) at whole (max deepest (length stack + 1))
opened-waits Map stack top from stop at whole deepest = settle-waits (top ∷ stack) (level_of Map from stop) at whole (max deepest (length stack + 1))
opened-waits Record stack top from stop at whole deepest = (count-rests stop at, refl)
opened-waits Function stack top from stop at whole deepest = (count-rests stop at, refl)
opened-waits Symbol stack top from stop at whole deepest = (count-rests stop at, refl)
opened-waits Variable stack top from stop at whole deepest = rule (Waits at) (eqb stop (at + 2)) _ _ (λ _. (tt, refl)) (λ _. (tt, refl))

entered-waits : (m : Mode) (stack : List Level) (top : Level) (at whole deepest : ℕ) → Waits at (entered m stack top at whole deepest)
unfolding entered
entered-waits Now.Head stack top at whole deepest = (tt, refl)
entered-waits (Now.SizeLow kind from) stack top at whole deepest = (tt, refl)
entered-waits (Now.SizeHigh kind from low) stack top at whole deepest = (tt, refl)
entered-waits (Now.Opening kind from stop) stack top at whole deepest = opened-waits kind stack top from stop at (whole_of stack stop whole) deepest
entered-waits Now.Count stack top at whole deepest = (tt, refl)
entered-waits (Now.CountMore from low) stack top at whole deepest = (tt, refl)
entered-waits Now.Length stack top at whole deepest = (tt, refl)
entered-waits (Now.LengthMore from low) stack top at whole deepest = (tt, refl)
entered-waits (Now.Letters from left n low high) stack top at whole deepest = (tt, refl)
entered-waits (Now.BlankLow from) stack top at whole deepest = (tt, refl)
entered-waits (Now.BlankHigh from low) stack top at whole deepest = (tt, refl)
entered-waits Now.Between stack top at whole deepest = settle-waits stack top at whole deepest
entered-waits Now.Done stack top at whole deepest = (tt, refl)
entered-waits (Now.Faulty number place) stack top at whole deepest = (tt, refl)

module _ (s : List ℕ) (few : length s ≤ max_bytes) where
  entered-good : (m : Mode) (stack : List Level) (top : Level) (at whole deepest : ℕ) → Good s m stack top at whole deepest → GoodRun s (entered m stack top at whole deepest)
  unfolding entered
  entered-good Now.Head stack top at whole deepest g = g
  entered-good (Now.SizeLow kind from) stack top at whole deepest g = g
  entered-good (Now.SizeHigh kind from low) stack top at whole deepest g = g
  entered-good (Now.Opening kind from stop) stack top at whole deepest g = opening s few kind from stop stack top at whole deepest g
  entered-good Now.Count stack top at whole deepest g = g
  entered-good (Now.CountMore from low) stack top at whole deepest g = g
  entered-good Now.Length stack top at whole deepest g = g
  entered-good (Now.LengthMore from low) stack top at whole deepest g = g
  entered-good (Now.Letters from left n low high) stack top at whole deepest g = g
  entered-good (Now.BlankLow from) stack top at whole deepest g = g
  entered-good (Now.BlankHigh from low) stack top at whole deepest g = g
  entered-good Now.Between stack top at whole deepest g = settled s stack top at whole deepest g
  entered-good Now.Done stack top at whole deepest g = g
  entered-good (Now.Faulty number place) stack top at whole deepest g = g

  taken-good : (m : Mode) (stack : List Level) (top : Level) (at whole deepest : ℕ) → at < length s → Resting m → Good s m stack top at whole deepest
      → Taken s stack (at + 1) whole (taken m top (length stack) deepest at (get_or s at 0))
  unfolding taken count_taken count_more length_taken length_more meant Fits
  taken-good Now.Head stack top at whole deepest l r g = head-taken s stack top at whole deepest l g
  taken-good (Now.SizeLow kind from) stack top at whole deepest l r g = low-taken s few kind from stack top at whole deepest g
  taken-good (Now.SizeHigh kind from low) stack top at whole deepest l r g = high_taken s few kind from low stack top at whole deepest g
  taken-good (Now.Opening kind from stop) stack top at whole deepest l r g = absurd r
  taken-good Now.Count stack top at whole deepest l r g = count-taken s stack top at whole deepest g
  taken-good (Now.CountMore from low) stack top at whole deepest l r g = count-more s from low stack top at whole deepest g
  taken-good Now.Length stack top at whole deepest l r g = length_taken_lem s stack top at whole deepest g
  taken-good (Now.LengthMore from low) stack top at whole deepest l r g = length_more_lem s from low stack top at whole deepest g
  taken-good (Now.Letters from left n low high) stack top at whole deepest l r g = letter-taken s from left n low high stack top at whole deepest g
  taken-good (Now.BlankLow from) stack top at whole deepest l r g = blank-low s from stack top at whole deepest g
  taken-good (Now.BlankHigh from low) stack top at whole deepest l r g = blank-high s from low stack top at whole deepest g
  taken-good Now.Between stack top at whole deepest l r g = absurd r
  taken-good Now.Done stack top at whole deepest l r g = record {
    short = g.short;
    held = λ w. let h = g.held w in record { ds = h.ds; is = h.is; deep = h.deep };
    nested = g.nested;
    fits = (g.fits.0, omega (arith, g.fits.1));
  }
  taken-good (Now.Faulty number place) stack top at whole deepest l r g = record {
    short = g.short;
    held = λ w. let h = g.held w in record { ds = h.ds; is = h.is; deep = h.deep };
    nested = g.nested;
    fits = tt;
  }

  -- a byte
  step-good : (r : Run) (at : ℕ) → at < length s → Waits at r → GoodRun s r → GoodRun s (step r (get_or s at 0)) × Waits (at + 1) (step r (get_or s at 0))
  unfolding step
  step-good r at l w g =
      let c = w.1 in
      rw (c, lt-leb max_bytes at (omega arith))
      (entered-good _ r.stack _ (at + 1) r.whole _ (taken-good r.mode r.stack r.top at r.whole r.deepest l w.0 (rw c at g)), entered-waits _ r.stack _ (at + 1) r.whole _)

  -- all bytes from a place on
  all-good : (n at : ℕ) → at + n ≡ length s → (r : Run) → Waits at r → GoodRun s r → GoodRun s (fed r (drop at s)) × Waits (length s) (fed r (drop at s))
  unfolding fed
  all-good zero at e r w g = let z : drop at s ≡ [] = drop_of_length-le s {i = at} (omega arith) in rw z (g, (w.0, w.1 ∙ omega arith))
  all-good (suc n) at e r w g =
      let h = step-good r at (omega arith) w g in
      rw (drop-cons s at 0 (omega arith), ← add-one at) (all-good n (at + 1) (omega arith) (step r (get_or s at 0)) h.1 h.0)

  start-good : GoodRun s start
  unfolding start meant Fits Nested walk_all resume deepest_of
  start-good = record {
    short = λ h. let z : length s ≡ 0 = omega arith in empty z;
    held = λ w. record { ds = []; is = rw (le-ltb max_bytes (length s) few) (after_same (walk_shape depths max_levels s (length s) 0) _ _ (λ n d. let z : max 0 d ≡ d = omega arith in rw z)); deep = refl };
    nested = tt;
    fits = (refl, refl, refl);
  }
    where
      empty : length s ≡ 0 → walk_all depths s ≡ stopped cut_short 0
      empty z = rw (le-ltb max_bytes (length s) few, head-none s max_levels (length s) 0 (le-leb (length s) 0 (omega arith)))

  -- the finish, after all bytes
  cut-open : (kind : Kind) (from : ℕ) (top : Level) (ds : List ℕ) → from ≡ 0 → length s < 3 → opens s [] top ds kind from ≡ stopped cut_short 0
  unfolding opening_at
  cut-open kind from top ds z h = rw z (rw (lt-ltb (length s - 0) 3 (omega arith)))

  finish-good : (m : Mode) (stack : List Level) (top : Level) (whole deepest : ℕ) → Resting m → Good s m stack top (length s) whole deepest → whole ≤ length s
      → verdict m (length s) whole deepest ≡ walk_all depths s
  unfolding verdict meant Fits resume deepest_of
  finish-good Now.Head [] top whole deepest r g w = absurd (omega (arith, g.fits.0, g.fits.2))
  finish-good Now.Head (l ∷ ls) top whole deepest r g w = absurd (omega (arith, nested-le l ls top whole g.nested, g.fits))
  finish-good (Now.SizeLow kind from) [] top whole deepest r g w =
      let h = g.held w in sym (h.is ∙ cut-open kind from top h.ds g.fits.1.0 (omega (arith, g.fits.0, g.fits.1.0)))
  finish-good (Now.SizeLow kind from) (l ∷ ls) top whole deepest r g w = absurd (omega (arith, nested-le l ls top whole g.nested, g.fits.0, g.fits.1))
  finish-good (Now.SizeHigh kind from low) [] top whole deepest r g w =
      let h = g.held w in sym (h.is ∙ cut-open kind from top h.ds g.fits.1.0 (omega (arith, g.fits.0, g.fits.1.0)))
  finish-good (Now.SizeHigh kind from low) (l ∷ ls) top whole deepest r g w = absurd (omega (arith, nested-le l ls top whole g.nested, g.fits.0, g.fits.1))
  finish-good (Now.Opening kind from stop) stack top whole deepest r g w = absurd r
  finish-good Now.Count [] top whole deepest r g w = absurd g.fits.0
  finish-good Now.Count (l ∷ ls) top whole deepest r g w = absurd (omega (arith, nested-le l ls top whole g.nested, g.fits.0))
  finish-good (Now.CountMore from low) [] top whole deepest r g w = absurd g.fits.1
  finish-good (Now.CountMore from low) (l ∷ ls) top whole deepest r g w = absurd (omega (arith, nested-le l ls top whole g.nested, g.fits.1))
  finish-good Now.Length [] top whole deepest r g w = absurd g.fits.0
  finish-good Now.Length (l ∷ ls) top whole deepest r g w = absurd (omega (arith, nested-le l ls top whole g.nested, g.fits.0))
  finish-good (Now.LengthMore from low) [] top whole deepest r g w = absurd g.fits.1
  finish-good (Now.LengthMore from low) (l ∷ ls) top whole deepest r g w = absurd (omega (arith, nested-le l ls top whole g.nested, g.fits.1))
  finish-good (Now.Letters from left n low high) [] top whole deepest r g w = absurd g.fits.1
  finish-good (Now.Letters from left n low high) (l ∷ ls) top whole deepest r g w = absurd (omega (arith, nested-le l ls top whole g.nested, g.fits.0, g.fits.1))
  finish-good (Now.BlankLow from) [] top whole deepest r g w = absurd (omega (arith, g.fits.0, g.fits.1))
  finish-good (Now.BlankLow from) (l ∷ ls) top whole deepest r g w = absurd (omega (arith, nested-le l ls top whole g.nested, g.fits.0, g.fits.1))
  finish-good (Now.BlankHigh from low) [] top whole deepest r g w = absurd (omega (arith, g.fits.0, g.fits.1))
  finish-good (Now.BlankHigh from low) (l ∷ ls) top whole deepest r g w = absurd (omega (arith, nested-le l ls top whole g.nested, g.fits.0, g.fits.1))
  finish-good Now.Between stack top whole deepest r g w = absurd r
  finish-good Now.Done [] top whole deepest r g w =
      let h = g.held w in
      rule (λ o. o ≡ walk_all depths s) (ltb whole (length s)) _ _
      (λ p. sym (h.is ∙ rw (ne_eqb whole (length s) (λ q. absurd (omega (arith, ltb-true whole (length s) p))))))
      λ p. let z : whole ≡ length s = omega (arith, ltb-false whole (length s) p) in
      sym (h.is ∙ rw (eq-eqb whole (length s) z, z, ← h.deep))
  finish-good Now.Done (l ∷ ls) top whole deepest r g w = absurd (let e = g.fits.0 in let z : ◌≡◌ {A = ℕ} 0 1 = cc in omega arith)
  finish-good (Now.Faulty number place) stack top whole deepest r g w = sym (g.held w).is

  -- an input that is not too long
  few-walk : finish (fed start s) ≡ walk_all depths s
  unfolding finish start
  few-walk =
      let h = all-good (length s) 0 (omega arith) start (tt, refl) start-good in let r = fed start s in
      let c : r.count ≡ length s = h.1.1 in
      rw (c, le-ltb max_bytes (length s) few)
      (rule (λ o. o ≡ walk_all depths s) (ltb (length s) r.whole) _ _
      (λ p. sym (h.0.short (ltb-true _ _ p)))
      λ p. finish-good r.mode r.stack r.top r.whole r.deepest h.1.0 (rw c at h.0) (ltb-false _ _ p))

-- how many bytes came
abbrev counted : ℕ → ℕ
counted n = leb max_bytes n ⇒ max_bytes + 1 ∣ λ _. n + 1

step_count : (r : Run) (b : ℕ) → (step r b).count ≡ counted r.count
unfolding step
step_count r b =
    both (λ (x : Run) n. x.count ≡ n) (leb max_bytes r.count) _ _ _ _ (λ _. refl) λ _.
    (entered-waits _ r.stack _ (r.count + 1) r.whole _).1

fed-count : (w : List ℕ) (r : Run) → max_bytes < r.count + length w → max_bytes < (fed r w).count
unfolding fed
fed-count [] r h = omega arith
fed-count (b ∷ w) r h = fed-count w (step r b) (rw (step_count r b) (rule (λ n. max_bytes < n + length w) (leb max_bytes r.count) _ _ (λ _. omega arith) λ p. omega (arith, leb-false max_bytes r.count p)))

too_long : (s : List ℕ) → max_bytes < length s → finish (fed start s) ≡ walk_all depths s
unfolding finish start walk_all
too_long s h = rw (lt-ltb max_bytes (fed start s).count (fed-count s start (omega arith)), lt-ltb max_bytes (length s) h)

-- For any input, the reader that is fed says at the finish what the walk says.
pub fed-walk : (s : List ℕ) → finish (fed start s) ≡ walk_all depths s
fed-walk s = go (ltb max_bytes (length s)) refl
  where
    go : (t : Bool) → ltb max_bytes (length s) ≡ t → finish (fed start s) ≡ walk_all depths s
    go false p = few-walk s (ltb-false _ _ p)
    go true p = too_long s (ltb-true _ _ p)

-- what reading means, as the finish says it
abbrev pub read_out : Reading Shape → Out ℕ
read_out (got t w) = came (length (encode t)) (depth t)
read_out (bad number place) = stopped number place

-- For any bytes it says that.
pub fed-said : (s : List ℕ) → ((i : ℕ) → get_or s i 0 < 256) → finish (fed start s) ≡ read_out (reading s)
fed-said s b = fed-walk s ∙ walk-reading depths s ∙ go (reading s) refl
  where
    go : (r : Reading Shape) → reading s ≡ r → made_from depths (length s) r ≡ read_out r
    go (got t w) p =
        let z = nothing_left s t w p in let l = ap length (encode-reading s t w (bytes-by-index s b) p).0 in
        rw z (ap₂ came (omega arith) (fold-depth t))
    go (bad number place) p = refl

-- Fed in parts or with the parts joined is the same.
pub fed-parts : (r : Run) (u v : List ℕ) → fed (fed r u) v ≡ fed r (u ++ v)
unfolding fed
fed-parts r [] v = refl
fed-parts r (b ∷ u) v = fed-parts (step r b) u v
