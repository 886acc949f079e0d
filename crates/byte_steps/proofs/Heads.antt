-- A shape's first byte.
-- Assumes nothing.
use mathlib.Core.Path.{◌≡◌, refl, ap, ◌∙◌}
use mathlib.Core.Bool.{false}
use mathlib.Core.List.{List, [], ◌∷◌}
use Prim.Native.Nat.{ℕ, ◌+◌, ◌-◌, ◌≤◌, ◌<◌, max}
use native.Mathlib.Omega.{arith}
use lib.ListN.{length, get_or}
use lib.Dec.{ltb, leb}
use borrow.Author.Tests.{ltb-true, ltb-false, lt-leb, lt-ltb, le-ltb, eq-eqb}
use Rattle.meaning.specs.Limits.{max_levels}
use Rattle.meaning.specs.Refusals.{cut_short}
use Rattle.meaning.specs.FirstByte.{Class, class_of}
use Rattle.meaning.proofs.Rules.{facts, rule}
use Rattle.payloads.specs.First.{first_said, kind_said}
use Rattle.payloads.specs.Payload.{primitive, primitive_at, opening_at}
use Rattle.payloads.specs.declared.first.Kind.{Kind}
use Rattle.payloads.specs.declared.first.First.{First}
use Rattle.payloads.specs.declared.first.First.TheVariants.{Short, Long}
use Rattle.std.specs.Prelude.{Err}
use Rattle.leaves.specs.Faults.{fault_at}
use Rattle.leaves.specs.declared.refusals.Fault.TheVariants.{CutShort}
use Rattle.reader.specs.Walk.{stopped, after, after_opening, by_first, walk_shape, walk_all, shape_with, depths}
use Rattle.reader.proofs.Steps.{below, shape-by, shape-more}
use Rattle.reader.proofs.Firsts.{ToldFirst, none, one, two, more, first-told}
use Rattle.byte_steps.specs.declared.modes.Level.{Level}
use Rattle.byte_steps.specs.declared.modes.Mode.{Mode}
use Rattle.byte_steps.specs.declared.modes.Mode.TheVariants.{Head, Faulty}
use Rattle.byte_steps.specs.declared.Took.{Took}
use Rattle.byte_steps.specs.Automaton.{first_taken, after_child, no_primitive}
use Rattle.byte_steps.proofs.Meant.{deepen, deepest_of, rest_at, opens, body, window, left_for, meant, Fits, Room, Ending, Good}
use Rattle.byte_steps.proofs.Ends.{after_same, rest-long, rest-one}
use Rattle.byte_steps.proofs.Due.{nested_same}

-- a shape of the innermost list, d deep
pub deep_one : (stack : List Level) (ds : List ℕ) (d : ℕ) → max (deepest_of stack ds) (length stack + d) ≡ deepest_of stack (deepen d ds)
unfolding deepest_of
deep_one [] ds d = omega arith
deep_one (l ∷ ls) ds d = omega arith

after-child-stop : (top : Level) (b : ℕ) → top.stop ≡ (after_child top b).stop
after-child-stop top b = rule (λ (l : Level). top.stop ≡ l.stop) (primitive b) top (λ _. no_primitive top) (λ _. refl) (λ _. refl)

module _ (s : List ℕ) where
  abbrev pub Taken : List Level → ℕ → ℕ → Took → Type 0
  Taken stack at whole t = Good s t.mode stack t.top at whole t.deepest

  -- a state that stands stopped
  pub stands : {mode : Mode} {stack : List Level} {top top' : Level} {at at' whole deepest number place : ℕ} → Good s mode stack top at whole deepest → top.stop ≡ top'.stop
      → (whole ≤ length s → (ds : List ℕ) → walk_all depths s ≡ meant s mode stack top ds at whole → walk_all depths s ≡ stopped number place)
      → Good s (Faulty number place) stack top' at' whole deepest
  unfolding meant Fits
  stands {stack = stack} {top = top} {top' = top'} {whole = whole} g e f = record {
    short = g.short;
    held = λ w. let h = g.held w in record { ds = h.ds; is = f w h.ds h.is; deep = h.deep };
    nested = nested_same stack top top' whole e g.nested;
    fits = tt;
  }

  head-some : (left end at : ℕ) → at < end → walk_shape depths left s end at ≡ by_first depths left (below depths left) s end at (first_said (class_of (get_or s at 0)))
  unfolding shape_with
  head-some left end at h = rw (shape-by depths left s end at, lt-leb end at h)

  module _ (stack : List Level) (top : Level) (at whole deepest : ℕ) (l : at < length s) (g : Good s Head stack top at whole deepest) where
    inside : (stack : List Level) → Room s stack top at 1 whole → at < window s stack top
    inside [] r = l
    inside (m ∷ ls) r = omega arith

    below-stop : (stack : List Level) → Room s stack top at 1 whole → at < top.stop
    below-stop [] r = omega arith
    below-stop (m ∷ ls) r = omega arith

    room : Room s stack top at 1 whole
    unfolding Fits
    room = g.fits

    prim-is : primitive_at s top.stop at ≡ primitive (get_or s at 0)
    unfolding primitive_at
    prim-is = rw (lt-leb top.stop at (below-stop stack room))

    ends : (stack : List Level) (d : Level) → top.stop ≡ d.stop → Room s stack top at 1 whole → Ending s stack d (at + 1) whole
    ends [] d e r = omega arith
    ends (m ∷ ls) d e r = omega arith

    -- a shape of one byte
    short-taken : (levels : ℕ) → 0 < levels → first_said (class_of (get_or s at 0)) ≡ Short levels → Taken stack (at + 1) whole (first_taken top (length stack) deepest at (get_or s at 0) (Short levels))
    unfolding first_taken by_first meant Fits
    short-taken levels pos e =
        rule (Taken stack (at + 1) whole) (ltb max_levels (length stack + levels)) _ _
        (λ p. stands g refl λ w ds i. i ∙ rw (head-some (left_for s stack) (window s stack top) at (inside stack room), e, lt-ltb (left_for s stack) levels (omega (arith, facts))))
        λ p.
        let b = get_or s at 0 in
        record {
          short = g.short;
          held = λ w. let h = g.held w in record {
            ds = deepen levels h.ds;
            is = h.is
                ∙ rw (head-some (left_for s stack) (window s stack top) at (inside stack room), e, le-ltb (left_for s stack) levels (omega (arith, facts)))
                (rest-one s stack top h.ds at b levels prim-is);
            deep = ap (λ x. max x (length stack + levels)) h.deep ∙ deep_one stack h.ds levels;
          };
          nested = nested_same stack top (after_child top b) whole (after-child-stop top b) g.nested;
          fits = ends stack (after_child top b) (after-child-stop top b) room;
        }

    -- the size passes the window
    cut : (stack : List Level) (kind : Kind) → Room s stack top at 1 whole → top.stop < at + 3 → opening_at s (window s stack top) at kind ≡ Err (fault_at CutShort at)
    unfolding opening_at
    cut [] kind r h = absurd (omega arith)
    cut (m ∷ ls) kind r h = rw (lt-ltb (top.stop - at) 3 (omega arith))

    room-three : (stack : List Level) → Room s stack top at 1 whole → at + 3 ≤ top.stop → Room s stack (no_primitive top) at 3 whole
    room-three [] r h = r
    room-three (m ∷ ls) r h = h

    opens-is : (stack : List Level) (ds : List ℕ) (kind : Kind) → primitive_at s top.stop at ≡ false
        → after (after_opening (opening_at s (window s stack top) at kind) (body s (left_for s stack - 1) kind at)) (rest_at s stack top ds at) ≡ opens s stack (no_primitive top) ds kind at
    opens-is [] ds kind h = after_same (after_opening (opening_at s (length s) at kind) (body s (left_for s [] - 1) kind at)) _ _ (λ n d. rest-long s [] top ds at n d h)
    opens-is (m ∷ ls) ds kind h = after_same (after_opening (opening_at s top.stop at kind) (body s (left_for s (m ∷ ls) - 1) kind at)) _ _ (λ n d. rest-long s (m ∷ ls) top ds at n d h)

    -- a shape with a payload
    long-taken : (kind : Kind) → first_said (class_of (get_or s at 0)) ≡ Long kind → primitive (get_or s at 0) ≡ false
        → Taken stack (at + 1) whole (first_taken top (length stack) deepest at (get_or s at 0) (Long kind))
    unfolding first_taken by_first meant Fits
    long-taken kind e np =
        rule (Taken stack (at + 1) whole) (leb max_levels (length stack)) _ _
        (λ p. stands g refl λ w ds i. i ∙ rw (head-some (left_for s stack) (window s stack top) at (inside stack room), e, eq-eqb (left_for s stack) 0 (omega (arith, facts))))
        λ p.
        let pos : 0 < left_for s stack = omega (arith, facts) in
        rule (Taken stack (at + 1) whole) (ltb top.stop (at + 3)) _ _
        (λ q. stands g refl λ w ds i.
        i ∙ rw (shape-more depths (left_for s stack) s (window s stack top) at (inside stack room) pos e, cut stack kind room (ltb-true _ _ q)))
        λ q.
        record {
          short = g.short;
          held = λ w. let h = g.held w in record {
            ds = h.ds;
            is = h.is ∙ rw (shape-more depths (left_for s stack) s (window s stack top) at (inside stack room) pos e) (opens-is stack h.ds kind (prim-is ∙ np));
            deep = h.deep;
          };
          nested = nested_same stack top (no_primitive top) whole refl g.nested;
          fits = (refl, room-three stack room (ltb-false _ _ q));
        }

    by-class : (f : First) (c : Class) → first_said (class_of (get_or s at 0)) ≡ f → ToldFirst depths (get_or s at 0) f c → Taken stack (at + 1) whole (first_taken top (length stack) deepest at (get_or s at 0) f)
    unfolding first_taken by_first meant
    by-class f c e none = stands g refl λ w ds i. i ∙ rw (head-some (left_for s stack) (window s stack top) at (inside stack room), e)
    by-class f c e (one t d q) = short-taken 1 (omega arith) e
    by-class f c e (two t d q r) = short-taken 2 (omega arith) e
    by-class f c e (more k q) = long-taken (kind_said k) e q

    -- the first byte
    pub head-taken : Taken stack (at + 1) whole (first_taken top (length stack) deepest at (get_or s at 0) (first_said (class_of (get_or s at 0))))
    head-taken = by-class _ _ refl (first-told depths (get_or s at 0))
