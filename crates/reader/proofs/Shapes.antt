-- A shape with a payload: its size, its list, its end.
-- Assumes nothing.
use mathlib.Core.Path.{◌≡◌, refl, ap}
use mathlib.Core.Bool.{Bool, true, false}
use mathlib.Core.List.{List}
use Prim.Native.Nat.{ℕ, ◌+◌, ◌-◌, ◌≤◌, ◌<◌}
use native.Mathlib.Omega.{arith}
use native.Mathlib.Nat.{add-zero}
use lib.ListN.{length, get_or}
use lib.Seq.{slice}
use lib.Dec.{eqb, ltb, leb}
use borrow.Author.Tests.{eqb-true, eqb-false, lt-ltb, le-ltb, ltb-false, leb-true, leb-false}
use Rattle.meaning.specs.Rules.{◌⇒◌∣◌}
use Rattle.meaning.specs.Numbers.{of_two}
use Rattle.meaning.specs.Shape.{Tree, shape, blank}
use Rattle.meaning.specs.FirstByte as Meant
use Rattle.meaning.specs.Encode.{as_prim}
use Rattle.meaning.specs.Reading.{Reading, has_short, finish, read_blank, read_payload, read_long}
use Rattle.meaning.proofs.Rules.{facts, both}
use Rattle.meaning.proofs.Window.{window-none, window-some, window-length, window-take, window-drop, window-place}
use Rattle.leaves.proofs.Numbers.{leb-told}
use Rattle.payloads.specs.declared.first.Kind.{Kind}
use Rattle.payloads.specs.declared.first.Kind.TheVariants.{Array, Map, Record, Function, Symbol, Variable}
use Rattle.std.specs.Prelude.{Result}
use Rattle.leaves.specs.Faults.{number_of}
use Rattle.leaves.specs.declared.refusals.Refusal.{Refusal}
use Rattle.payloads.specs.declared.Opening.{Opening}
use Rattle.payloads.specs.First.{kind_said}
use Rattle.payloads.specs.Payload.{list_of, counted_at, counted_by, opening_at, short_form_of, primitive_at, small_at}
use Rattle.reader.specs.Walk.{Out, came, stopped, Fold, Walker, after, after_opening, walk_items, closing, made_of}
use Rattle.reader.proofs.Folding.{fold}
use Rattle.reader.proofs.Told.{Told, tree, refused, after-leb}
use Rattle.reader.proofs.Ends.{Seen, closing-told}
use Rattle.reader.proofs.Payloads.{array-held, map-held, record-held, symbol-held, function-held}

small-blank : (s : List ℕ) (start stop : ℕ) → stop - start ≡ 2 → small_at s stop start ≡ ltb (of_two (get_or s start 0) (get_or s (start + 1) 0)) 32
unfolding small_at
small-blank s start stop h = rw (le-ltb (stop - start) 2 (omega arith)) (go (eqb y 0) refl)
  where
    x : ℕ
    x = get_or s start 0

    y : ℕ
    y = get_or s (start + 1) 0

    go : (t : Bool) → eqb y 0 ≡ t → (eqb y 0 ⇒ ltb x 32 ∣ λ _. false) ≡ ltb (of_two x y) 32
    go true p = let z : x ≡ of_two x y = omega (arith, eqb-true y 0 p) in rw p (ap (λ (n : ℕ). ltb n 32) z)
    go false p = rw (p, le-ltb (of_two x y) 32 (omega (arith, eqb-false y 0 p)))

module _ (s : List ℕ)
    {X A : Type 0} (F : Fold X A) (inner : Walker X) (child : ℕ → List ℕ → Reading (Tree shape))
    (agree : (e at : ℕ) → at ≤ e → e ≤ length s → Told s e (Seen F s e at) (inner s e at) (child e (slice at e s))) where
  -- after a payload's list is opened
  abbrev opened : Kind → ℕ → Result Opening Refusal → Out X
  opened kind at o = after_opening o λ stop from count. after (walk_items F inner kind count s stop from F.start) (closing F s at stop kind)

  module _ (e at stop : ℕ) (h : at + 3 ≤ stop) (i : stop ≤ e) (k : e ≤ length s) (np : primitive_at s e at ≡ false) where
    abbrev R : Kind → Result Opening Refusal → Reading (Tree shape) → Type 0
    R kind o r = Told s e (Seen F s e at) (opened kind at o) (finish at (slice stop e s) r)

    abbrev x : ℕ
    x = get_or s (at + 3) 0

    abbrev y : ℕ
    y = get_or s (at + 3 + 1) 0

    blank-told : R Variable (list_of s at (at + 3) stop Variable) (read_blank at (slice (at + 3) stop s))
    unfolding list_of walk_items finish read_blank as_prim has_short short_form_of made_of fold
    blank-told = go (eqb (stop - (at + 3)) 2) refl
      where
        go : (t : Bool) → eqb (stop - (at + 3)) 2 ≡ t → R Variable (list_of s at (at + 3) stop Variable) (read_blank at (slice (at + 3) stop s))
        go true p =
            let q : stop - (at + 3) ≡ 2 = eqb-true _ _ p in
            let z : at + 3 + 1 + 1 ≡ stop = omega arith in
            rw (p, window-some s (at + 3) stop (omega arith) (omega arith), window-some s (at + 3 + 1) stop (omega arith) (omega arith), z)
            (closing-told F s e at stop Variable (came stop F.start) _ i k np
            (tree stop F.start (blank (of_two x y)) (omega arith) (record { is = λ w. rw w; no_prim = refl; short = λ w. small-blank s (at + 3) stop q })))
        go false p = rw p (more (leb stop (at + 3)) (leb stop (at + 3 + 1)) refl refl)
          where
            more : (t u : Bool) → leb stop (at + 3) ≡ t → leb stop (at + 3 + 1) ≡ u → Told s e (Seen F s e at) (stopped 3 at) (finish at (slice stop e s) (read_blank at (slice (at + 3) stop s)))
            more true u q v = rw (window-none s (at + 3) stop (leb-true _ _ q)) (refused 3 at)
            more false true q v = rw (window-some s (at + 3) stop (leb-false _ _ q) (omega arith), window-none s (at + 3 + 1) stop (leb-true _ _ v)) (refused 3 at)
            more false false q v =
                let w : at + 3 + 1 + 1 < stop = omega (arith, facts) in
                rw (window-some s (at + 3) stop (leb-false _ _ q) (omega arith), window-some s (at + 3 + 1) stop (leb-false _ _ v) (omega arith), window-some s (at + 3 + 1 + 1) stop w (omega arith)) (refused 3 at)

    pub payload-told : (k : Meant.Kind) → R (kind_said k) (list_of s at (at + 3) stop (kind_said k)) (read_payload child at k stop (slice (at + 3) stop s))
    unfolding list_of read_payload counted_at counted_by finish
    payload-told Meant.array = closing-told F s e at stop Array _ _ i k np (array-held s F inner child agree at stop h (omega arith))
    payload-told Meant.map = closing-told F s e at stop Map _ _ i k np (map-held s F inner child agree at stop h (omega arith))
    payload-told Meant.rec = after-leb (R Record) (counted_by stop 0) _ (leb-told s stop (at + 3) h (omega arith))
        (λ v n l m. rw add-zero (closing-told F s e at stop Record _ _ i k np (record-held s F inner child agree at stop n v m (omega arith)))) (λ f. refused (number_of f) (at + 3))
    payload-told Meant.function = after-leb (R Function) (counted_by stop 1) _ (leb-told s stop (at + 3) h (omega arith))
        (λ v n l m. closing-told F s e at stop Function _ _ i k np (function-held s F inner child agree at stop n v m (omega arith))) (λ f. refused (number_of f) (at + 3))
    payload-told Meant.symbol = after-leb (R Symbol) (counted_by stop 0) _ (leb-told s stop (at + 3) h (omega arith))
        (λ v n l m. rw add-zero (closing-told F s e at stop Symbol _ _ i k np (symbol-held s F inner child agree at stop n v m (omega arith)))) (λ f. refused (number_of f) (at + 3))
    payload-told Meant.variable = blank-told

  -- the size, two bytes, and the payload
  pub long-told : (e at : ℕ) (kind : Meant.Kind) → at < e → e ≤ length s → primitive_at s e at ≡ false
      → Told s e (Seen F s e at) (opened (kind_said kind) at (opening_at s e at (kind_said kind))) (read_long child at kind e (slice (at + 1) e s))
  unfolding opening_at read_long
  long-told e at kind h k np = go (leb e (at + 1)) (leb e (at + 1 + 1)) refl refl
    where
      R' : Result Opening Refusal → Reading (Tree shape) → Type 0
      R' o r = Told s e (Seen F s e at) (opened (kind_said kind) at o) r

      go : (t u : Bool) → leb e (at + 1) ≡ t → leb e (at + 1 + 1) ≡ u → R' (opening_at s e at (kind_said kind)) (read_long child at kind e (slice (at + 1) e s))
      go true u p q =
          let l : e - at < 3 = omega (arith, facts) in
          rw (lt-ltb _ _ l, window-none s (at + 1) e (leb-true _ _ p)) (refused 1 at)
      go false true p q =
          let l : e - at < 3 = omega (arith, facts) in
          rw (lt-ltb _ _ l, window-some s (at + 1) e (leb-false _ _ p) k, window-none s (at + 1 + 1) e (leb-true _ _ q)) (refused 1 at)
      go false false p q =
          let l : 3 ≤ e - at = omega (arith, facts) in
          let n : ℕ = of_two (get_or s (at + 1) 0) (get_or s (at + 1 + 1) 0) in
          let z : at + 1 + 1 + 1 ≡ at + 3 = omega arith in
          let y : e - (at + 3) ≡ e - at - 3 = omega arith in
          rw (le-ltb _ _ l, window-some s (at + 1) e (leb-false _ _ p) k, window-some s (at + 1 + 1) e (leb-false _ _ q) k, z, window-length s (at + 3) e k, y)
          (both R' (ltb (e - at - 3) n) _ _ _ _ (λ w. refused 1 at) λ w.
          let v : n ≤ e - at - 3 = ltb-false _ _ w in
          rw (window-drop s (at + 3) e n, window-take s (at + 3) e n (omega arith), window-place s (at + 3 + n) e (omega arith) k)
          (payload-told e at (at + 3 + n) (omega arith) (omega arith) k np kind))
