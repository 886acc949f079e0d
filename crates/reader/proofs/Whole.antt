-- The walk over places is reading: of a shape, and of the whole input. `walk-reading` is one theorem for every walk; `walk-said` is the
-- reader's own answer.
-- Assumes nothing.
use mathlib.Core.Path.{◌≡◌, refl, sym, ap, ap₂, ◌∙◌}
use mathlib.Core.Bool.{Bool, true, false}
use mathlib.Core.List.{List}
use Prim.Native.Nat.{ℕ, zero, suc, ◌+◌, ◌-◌, ◌≤◌, ◌<◌}
use native.Mathlib.Omega.{arith}
use lib.ListN.{length, get_or}
use lib.Seq.{slice}
use lib.Dec.{eqb, ltb, leb}
use borrow.Author.Tests.{ne_eqb, eqb-true, eqb-false, le-ltb, leb-true, leb-false, lt-leb}
use Rattle.meaning.specs.Rules.{◌⇒◌∣◌}
use Rattle.meaning.specs.Limits.{max_bytes, max_levels}
use Rattle.meaning.specs.Refusals.{size_wrong}
use Rattle.meaning.specs.Shape.{Tree, shape}
use Rattle.meaning.specs.FirstByte.{Class}
use Rattle.meaning.specs.Reading.{Reading, got, bad, next, read_class, no_level, read_shape, at_end, reading}
use Rattle.meaning.proofs.Rules.{facts}
use Rattle.meaning.proofs.Window.{window-none, window-some, window-all, place-some, bytes-by-index}
use Rattle.meaning.proofs.Laws.{encode-reading, nothing_left}
use Rattle.payloads.specs.declared.first.First.{First}
use Rattle.std.specs.Prelude.{Result, Ok, Err}
use Rattle.leaves.specs.Faults.{refusal}
use Rattle.leaves.specs.declared.refusals.Refusal.{Refusal}
use Rattle.reader.specs.declared.Accepted.{Accepted}
use Rattle.reader.specs.Said.{accepted, said}
use Rattle.payloads.specs.Payload.{primitive, primitive_at}
use Rattle.reader.specs.Walk.{Out, came, stopped, Fold, Walker, after, by_first, shape_with, walk_shape, walk_all, depths}
use Rattle.reader.proofs.Folding.{fold, fold-depth}
use Rattle.reader.proofs.Told.{Told, tree, refused}
use Rattle.reader.proofs.Ends.{Seen}
use Rattle.reader.proofs.Firsts.{ToldFirst, none, one, two, more, first-told}
use Rattle.reader.proofs.Shapes.{long-told}

prim-at : (s : List ℕ) (e at : ℕ) → at < e → primitive_at s e at ≡ primitive (get_or s at 0)
unfolding primitive_at
prim-at s e at h = rw (lt-leb e at h)

module _ (s : List ℕ) {X A : Type 0} (F : Fold X A) where
  -- no level left
  shut-told : (inner : Walker X) (e at : ℕ) (f : First) (c : Class) → ToldFirst F (get_or s at 0) f c → Told s e (Seen F s e at) (by_first F 0 inner s e at f) (no_level at c)
  unfolding by_first no_level
  shut-told inner e at f c none = refused 2 at
  shut-told inner e at f c (one t d p) = refused 7 at
  shut-told inner e at f c (two t d p q) = refused 7 at
  shut-told inner e at f c (more kind q) = refused 7 at

  module _ (inner : Walker X) (child : ℕ → List ℕ → Reading (Tree shape)) (agree : (e at : ℕ) → at ≤ e → e ≤ length s → Told s e (Seen F s e at) (inner s e at) (child e (slice at e s))) where
    open_told : (l e at : ℕ) → at < e → e ≤ length s → (f : First) (c : Class) → ToldFirst F (get_or s at 0) f c
        → Told s e (Seen F s e at) (by_first F (suc l) inner s e at f) (read_class child l at c e (slice (at + 1) e s))
    unfolding by_first read_class
    open_told l e at h k f c none = refused 2 at
    open_told l e at h k f c (one t d p) = rw (le-ltb (suc l) 1 (omega arith))
        (tree (at + 1) (F.short (get_or s at 0) 1) t (omega arith) (record { is = d; is_prim = p ∙ sym (prim-at s e at h); one = λ x. refl }))
    open_told zero e at h k f c (two t d p q) = refused 7 at
    open_told (suc l) e at h k f c (two t d p q) = rw (le-ltb (suc (suc l)) 2 (omega arith))
        (tree (at + 1) (F.short (get_or s at 0) 2) t (omega arith) (record { is = d; is_prim = p ∙ sym (prim-at s e at h ∙ q); one = λ x. refl }))
    open_told l e at h k f c (more kind q) = rw (ne_eqb (suc l) 0 (λ x. omega arith)) (long-told s F inner child agree e at kind h k (prim-at s e at h ∙ q))

  -- walk and reading agree at every place of every window
  abbrev Agree : ℕ → Type 0
  Agree left = (e at : ℕ) → at ≤ e → e ≤ length s → Told s e (Seen F s e at) (walk_shape F left s e at) (read_shape left e (slice at e s))

  last-told : Agree 0
  unfolding walk_shape shape_with read_shape
  last-told e at h k = go (leb e at) refl
    where
      go : (t : Bool) → leb e at ≡ t → Told s e (Seen F s e at) (walk_shape F 0 s e at) (read_shape 0 e (slice at e s))
      go true p = let z : at ≡ e = omega (arith, facts) in rw (p, window-none s at e (leb-true _ _ p), ← z) (refused 1 at)
      go false p = let lt = leb-false _ _ p in rw (p, window-some s at e lt k, place-some s at e lt k) (shut-told _ e at _ _ (first-told F (get_or s at 0)))

  next-told : (left : ℕ) → Agree left → Agree (suc left)
  unfolding walk_shape shape_with read_shape
  next-told left agree e at h k = go (leb e at) refl
    where
      go : (t : Bool) → leb e at ≡ t → Told s e (Seen F s e at) (walk_shape F (suc left) s e at) (read_shape (suc left) e (slice at e s))
      go true p = let z : at ≡ e = omega (arith, facts) in rw (p, window-none s at e (leb-true _ _ p), ← z) (refused 1 at)
      go false p = let lt = leb-false _ _ p in rw (p, window-some s at e lt k, place-some s at e lt k) (open_told (walk_shape F left) (read_shape left) agree left e at lt k _ _ (first-told F (get_or s at 0)))

  pub shape-told : (left : ℕ) → Agree left
  shape-told zero = last-told
  shape-told (suc left) = next-told left (shape-told left)

-- what a walk says of an input that is a shape, or of its refusal
abbrev pub made_from : {X A : Type 0} (F : Fold X A) → ℕ → Reading (Tree shape) → Out X
made_from F e (got t w) = came (e - length w) (fold F t)
made_from F e (bad number place) = stopped number place

end-told : {X A : Type 0} (F : Fold X A) (s : List ℕ) (o : Out X) (r : Reading (Tree shape)) → Told s (length s) (Seen F s (length s) 0) o r
    → (after o λ past v. eqb past (length s) ⇒ came past v ∣ λ _. stopped size_wrong past) ≡ made_from F (length s) (next r (at_end (length s)))
unfolding next at_end
end-told F s o r (refused k p) = refl
end-told F s o r (tree n d a l q) = go (eqb n (length s)) refl
  where
    go : (t : Bool) → eqb n (length s) ≡ t → (eqb n (length s) ⇒ came n d ∣ λ _. stopped size_wrong n) ≡ made_from F (length s) (at_end (length s) a (slice n (length s) s))
    go true p =
        let z : n ≡ length s = eqb-true _ _ p in
        rw (p, window-none s n (length s) (omega arith)) (ap₂ came (omega arith) q.is)
    go false p =
        let lt : n < length s = omega (arith, eqb-false n (length s) p) in
        rw (p, window-some s n (length s) lt (omega arith), place-some s n (length s) lt (omega arith))

-- One theorem for every walk over an input: what it makes is what the Fold makes of the shape that the input is read as.
pub walk-reading : {X A : Type 0} (F : Fold X A) (s : List ℕ) → walk_all F s ≡ made_from F (length s) (reading s)
unfolding walk_all reading
walk-reading F s = go (ltb max_bytes (length s)) refl
  where
    all : slice 0 (length s) s ≡ s
    all = window-all s

    go : (t : Bool) → ltb max_bytes (length s) ≡ t → walk_all F s ≡ made_from F (length s) (reading s)
    go true p = rw p
    go false p = rw p (rw all at (end-told F s _ _ (shape-told s F max_levels (length s) 0 (omega arith) (omega arith))))

-- the answer that a walk makes
abbrev pub judged : Out ℕ → Result Accepted Refusal
judged (came next depth) = Ok (accepted next depth)
judged (stopped number place) = Err (refusal number place)

-- The walk with `depths` over a list of bytes says what reading means.
pub walk-said : (s : List ℕ) → ((i : ℕ) → get_or s i 0 < 256) → judged (walk_all depths s) ≡ said (reading s)
walk-said s b = rw (walk-reading depths s) (go (reading s) refl)
  where
    go : (r : Reading (Tree shape)) → reading s ≡ r → judged (made_from depths (length s) r) ≡ said r
    go (got t w) p =
        let z = nothing_left s t w p in let l = ap length (encode-reading s t w (bytes-by-index s b) p).0 in
        rw z (ap₂ (λ n d. Ok (accepted n d)) (omega arith) (fold-depth t))
    go (bad number place) p = refl
