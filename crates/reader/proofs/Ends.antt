-- The end of a payload.
-- Assumes nothing.
use mathlib.Core.Path.{◌≡◌, refl, sym, ◌∙◌}
use mathlib.Core.Bool.{Bool, true, false}
use mathlib.Core.List.{List}
use Prim.Native.Nat.{ℕ, ◌+◌, ◌≤◌, ◌<◌}
use native.Mathlib.Omega.{arith}
use lib.ListN.{length}
use lib.Seq.{slice}
use lib.Dec.{eqb}
use borrow.Author.Tests.{eqb-true, eqb-false}
use Rattle.meaning.specs.Shape.{Tree, shape}
use Rattle.meaning.specs.Encode.{as_prim}
use Rattle.meaning.specs.Reading.{Reading, got, some?, has_short, finish}
use Rattle.meaning.proofs.Rules.{both}
use Rattle.meaning.proofs.Window.{window-none, window-some}
use Rattle.payloads.specs.declared.first.Kind.{Kind}
use Rattle.payloads.specs.Payload.{short_form_of, primitive_at}
use Rattle.reader.specs.Walk.{Out, Fold, after, closing, made_of}
use Rattle.reader.proofs.Folding.{fold}
use Rattle.reader.proofs.Told.{Told, tree, refused}

-- a shape read at a place: what is made of it, and whether it is a primitive, which the byte there says
pub record Seen {X A : Type 0} (F : Fold X A) (s : List ℕ) (e at n : ℕ) (v : X) (a : Tree shape) : Type 0 where
  pub is : v ≡ fold F a
  pub is_prim : some? (as_prim a) ≡ primitive_at s e at
  pub one : primitive_at s e at ≡ true → n ≡ at + 1

-- a payload read: what is made of it, and whether the shape has a short form
pub record Held {X A : Type 0} (F : Fold X A) (s : List ℕ) (at stop : ℕ) (kind : Kind) (n : ℕ) (v : A) (a : Tree shape) : Type 0 where
  pub is : has_short a ≡ false → made_of F s (at + 3) kind v ≡ fold F a
  pub no_prim : some? (as_prim a) ≡ false
  pub short : n ≡ stop → short_form_of s (at + 3) stop kind ≡ has_short a

pub closing-told : {X A : Type 0} (F : Fold X A) (s : List ℕ) (e at stop : ℕ) (kind : Kind) (o : Out A) (r : Reading (Tree shape)) → stop ≤ e → e ≤ length s → primitive_at s e at ≡ false
    → Told s stop (Held F s at stop kind) o r → Told s e (Seen F s e at) (after o (closing F s at stop kind)) (finish at (slice stop e s) r)
unfolding closing finish
closing-told F s e at stop kind o r h k np (refused i p) = refused i p
closing-told F s e at stop kind o r h k np (tree n v a l q) = go (eqb n stop) refl
  where
    go : (t : Bool) → eqb n stop ≡ t → Told s e (Seen F s e at) (closing F s at stop kind n v) (finish at (slice stop e s) (got a (slice n stop s)))
    go true p =
        let z : n ≡ stop = eqb-true _ _ p in
        rw (p, window-none s n stop (omega arith), q.short z)
        (both (Told s e (Seen F s e at)) (has_short a) _ _ _ _ (λ x. refused 6 at) λ x.
        tree stop (made_of F s (at + 3) kind v) a h (record { is = q.is x; is_prim = q.no_prim ∙ sym np; one = λ y. cc }))
    go false p =
        let z : n < stop = omega (arith, eqb-false n stop p) in
        rw (p, window-some s n stop z (omega arith)) (refused 3 at)
