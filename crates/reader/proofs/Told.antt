-- What the walk over places says tells what reading over windows gives: the relation, and texts.
-- Assumes nothing.
use mathlib.Core.Path.{◌≡◌}
use mathlib.Core.List.{List}
use Prim.Native.Nat.{ℕ, ◌+◌, ◌-◌, ◌≤◌}
use native.Mathlib.Omega.{arith}
use lib.ListN.{length, take, drop}
use lib.Seq.{slice}
use lib.Dec.{ltb}
use Rattle.meaning.specs.Rules.{◌⇒◌∣◌}
use Rattle.meaning.specs.Refusals.{cut_short, not_utf8}
use Rattle.meaning.specs.Utf8.{utf8}
use Rattle.meaning.specs.Reading.{Reading, got, bad, next, read_text}
use Rattle.meaning.proofs.Rules.{facts, both}
use Rattle.meaning.proofs.Window.{window-length, window-place, window-take, window-drop}
use Rattle.std.specs.Prelude.{Result, Ok, Err}
use Rattle.leaves.specs.Faults.{number_of, fault_at}
use Rattle.leaves.specs.declared.refusals.Fault.{Fault}
use Rattle.leaves.specs.declared.refusals.Fault.TheVariants.{CutShort, NotUtf8}
use Rattle.leaves.specs.declared.refusals.Refusal.{Refusal}
use Rattle.leaves.specs.declared.Leb.{Leb}
use Rattle.leaves.specs.Leb.{leb_of}
use Rattle.leaves.proofs.Numbers.{ToldLeb, number, fault, leb-told}
use Rattle.payloads.specs.declared.Text.{Text}
use Rattle.payloads.specs.Payload.{text_of, text_from, text_at}
use Rattle.reader.specs.Walk.{Out, came, stopped, after_text, after}

-- a text that came: its bytes are got, and the window after them; one that is bad is bad there too
pub data ToldText (s : List ℕ) (e : ℕ) : Result Text Refusal → Reading (List ℕ) → Type 0 where
  whole : (a n : ℕ) → n ≤ e → ToldText s e (Ok (text_of a n)) (got (slice a n s) (slice n e s))
  wrong : (r : Refusal) → ToldText s e (Err r) (bad (number_of r.fault) r.place)

-- what was made of a thing: the thing is got, P relates the two, and the window after it is left; a stop is a fault
pub data Told (s : List ℕ) (e : ℕ) {X A : Type 0} (P : ℕ → X → A → Type 0) : Out X → Reading A → Type 0 where
  tree : (n : ℕ) (v : X) (a : A) → n ≤ e → P n v a → Told s e P (came n v) (got a (slice n e s))
  refused : (k p : ℕ) → Told s e P (stopped k p) (bad k p)

-- goes on after a number, a text, a tree
pub after-leb : {B O : Type 0} {s : List ℕ} {e at : ℕ} {l : Result Leb Refusal} {r : Reading ℕ} (R : O → Reading B → Type 0) (k : Result Leb Refusal → O) (f : ℕ → List ℕ → Reading B) → ToldLeb s e at l r
    → ((v n : ℕ) → at ≤ n → n ≤ e → R (k (Ok (leb_of v n))) (f v (slice n e s))) → ((f : Fault) → R (k (Err (fault_at f at))) (bad (number_of f) at)) → R (k l) (next r f)
unfolding next
after-leb R k f (number v n h i) g j = g v n h i
after-leb R k f (fault i) g j = j i

module _ {X Y A B : Type 0} {s : List ℕ} {e : ℕ} (P : ℕ → X → A → Type 0) (R : Out Y → Reading B → Type 0) (non : (k p : ℕ) → R (stopped k p) (bad k p)) where
  pub after_text_lem : {t : Result Text Refusal} {r : Reading (List ℕ)} (k : ℕ → ℕ → Out Y) (f : List ℕ → List ℕ → Reading B) → ToldText s e t r
      → ((a n : ℕ) → n ≤ e → R (k a n) (f (slice a n s) (slice n e s))) → R (after_text t k) (next r f)
  unfolding next
  after_text_lem k f (whole a n h) g = g a n h
  after_text_lem k f (wrong r) g = non (number_of r.fault) r.place

  pub after-tree : {o : Out X} {r : Reading A} (k : ℕ → X → Out Y) (f : A → List ℕ → Reading B) → Told s e P o r
      → ((n : ℕ) (a : A) (v : X) → n ≤ e → P n v a → R (k n v) (f a (slice n e s))) → R (after o k) (next r f)
  unfolding next
  after-tree k f (tree n v a h q) g = g n a v h q
  after-tree k f (refused i p) g = non i p

-- the same reading, made into another tree
pub re-told : {X A B : Type 0} {s : List ℕ} {e : ℕ} {o : Out X} {r : Reading A} (P : ℕ → X → A → Type 0) (Q : ℕ → X → B → Type 0) (g : A → B)
    → ((n : ℕ) (v : X) (a : A) → n ≤ e → P n v a → Q n v (g a)) → Told s e P o r → Told s e Q o (next r (λ a w. got (g a) w))
unfolding next
re-told P Q g f (tree n v a h i) = tree n v (g a) h (f n v a h i)
re-told P Q g f (refused k p) = refused k p

-- a text by its place is the text of the window there
pub text-told : (s : List ℕ) (e at : ℕ) → at ≤ e → e ≤ length s → ToldText s e (text_at s e at) (read_text e (slice at e s))
unfolding text_at text_from read_text
text-told s e at h k = rw (window-place s at e h k) (after-leb (ToldText s e) (text_from s e at) _ (leb-told s e at h k) (λ v n i j. found v n i j) (λ f. wrong (fault_at f at)))
  where
    R : Result Text Refusal → Reading (List ℕ) → Type 0
    R = ToldText s e

    found : (v n : ℕ) → at ≤ n → n ≤ e
        → R (text_from s e at (Ok (leb_of v n))) (ltb (length (slice n e s)) v ⇒ bad cut_short at ∣ λ _. utf8 (take v (slice n e s)) ⇒ got (take v (slice n e s)) (drop v (slice n e s)) ∣ λ _. bad not_utf8 (e - length (slice n e s)))
    found v n i j = rw (window-length s n e k)
        (both R (ltb (e - n) v) _ _ _ _ (λ p. wrong (fault_at CutShort at)) λ p.
        let l : n + v ≤ e = omega (arith, facts) in
        rw (window-take s n e v l, window-drop s n e v)
        (both R (utf8 (slice n (n + v) s)) _ _ _ _ (λ q. whole n (n + v) l) λ q. let z : e - (e - n) ≡ n = omega arith in rw z (wrong (fault_at NotUtf8 n))))
