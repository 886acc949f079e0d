-- A window within a window: a payload's parts up to a place e are the same in any front of the input that has e bytes.
--     text-front, label-front, opening-front, short-front     a text, an item's text, a payload's list, its short form
--     list-window                                             a payload's list in its own window
--     opening-stop                                            a payload ends in its window
-- Assumes nothing.
use mathlib.Core.Path.{◌≡◌, refl}
use mathlib.Core.Bool.{Bool, true, false}
use mathlib.Core.List.{List}
use Prim.Native.Nat.{ℕ, ◌+◌, ◌-◌, ◌≤◌}
use native.Mathlib.Omega.{arith}
use lib.ListN.{length, take}
use lib.Seq.{slice, length-take-le}
use lib.Dec.{ltb, leb, eqb}
use Rattle.meaning.specs.Rules.{◌⇒◌∣◌}
use Rattle.meaning.proofs.Rules.{facts, both, rule}
use Rattle.meaning.proofs.Window.{window-none}
use Rattle.meaning.specs.Refusals.{not_utf8}
use Rattle.meaning.specs.Utf8.{utf8}
use Rattle.std.specs.Prelude.{Result, Ok, Err}
use Rattle.leaves.specs.Faults.{refusal}
use Rattle.leaves.specs.Leb.{leb_at}
use Rattle.leaves.specs.declared.refusals.Refusal.{Refusal}
use Rattle.leaves.specs.declared.Leb.{Leb}
use Rattle.leaves.proofs.Fronts.{slice-front, leb-front, get-front}
use Rattle.payloads.specs.declared.first.Kind.{Kind}
use Rattle.payloads.specs.declared.first.Kind.TheVariants.{Array, Map, Record, Function, Symbol, Variable}
use Rattle.payloads.specs.declared.Opening.{Opening}
use Rattle.payloads.specs.Payload.{text_of, text_from, text_at, label_at, counted_by, counted_at, list_of, size_at, opening_at, primitive_at, small_at, short_form_of}

-- The list of a payload that ends at e.
pub list-front : (s : List ℕ) (e n at start : ℕ) (kind : Kind) → e ≤ n → list_of (take n s) at start e kind ≡ list_of s at start e kind
unfolding list_of counted_at
list-front s e n at start Array k = refl
list-front s e n at start Map k = refl
list-front s e n at start Record k = rw (leb-front s e n k start)
list-front s e n at start Function k = rw (leb-front s e n k start)
list-front s e n at start Symbol k = rw (leb-front s e n k start)
list-front s e n at start Variable k = refl

module _ (s : List ℕ) (e n : ℕ) (k : e ≤ n) where
  -- a text after its length
  from-front : (at : ℕ) (r : Result Leb Refusal) → text_from (take n s) e at r ≡ text_from s e at r
  unfolding text_from
  from-front at (Err r) = refl
  from-front at (Ok size) = both (λ x y. x ≡ y) (ltb (e - size.next) size.value) _ _ _ _ (λ _. refl) λ p. go p (leb e size.next) refl
    where
      -- where no byte is left the text is empty
      go : ltb (e - size.next) size.value ≡ false → (t : Bool) → leb e size.next ≡ t
          → (utf8 (slice size.next (size.next + size.value) (take n s)) ⇒ Ok (text_of size.next (size.next + size.value)) ∣ λ _. Err (refusal not_utf8 size.next)) ≡ (utf8 (slice size.next (size.next + size.value) s) ⇒ Ok (text_of size.next (size.next + size.value)) ∣ λ _. Err (refusal not_utf8 size.next))
      go p true q = rw (window-none (take n s) size.next (size.next + size.value) (omega (arith, facts)), window-none s size.next (size.next + size.value) (omega (arith, facts)))
      go p false q = rw (slice-front s (size.next + size.value) n (omega (arith, facts)) size.next)

  -- A text, and an item's text.
  pub text-front : (at : ℕ) → text_at (take n s) e at ≡ text_at s e at
  unfolding text_at
  text-front at = rw (leb-front s e n k at) (from-front at (leb_at s e at))

  pub label-front : (at : ℕ) (kind : Kind) → label_at (take n s) e at kind ≡ label_at s e at kind
  unfolding label_at
  label-front at kind = rw (text-front at)

  -- what a short form asks
  primitive-front : (at : ℕ) → primitive_at (take n s) e at ≡ primitive_at s e at
  unfolding primitive_at
  primitive-front at = both (λ x y. x ≡ y) (leb e at) _ _ _ _ (λ _. refl) λ p. rw (get-front s n at (omega (arith, facts)))

  small-front : (at : ℕ) → small_at (take n s) e at ≡ small_at s e at
  unfolding small_at
  small-front at = both (λ x y. x ≡ y) (ltb (e - at) 2) _ _ _ _ (λ _. refl) λ p. rw (get-front s n at (omega (arith, facts)), get-front s n (at + 1) (omega (arith, facts)))

  -- Whether a payload that ends at e has a short form.
  pub short-front : (start : ℕ) (kind : Kind) → short_form_of (take n s) start e kind ≡ short_form_of s start e kind
  unfolding short_form_of
  short-front start Array = primitive-front start
  short-front start Map = rw (primitive-front start, primitive-front (start + 1))
  short-front start Record = refl
  short-front start Function = refl
  short-front start Symbol = refl
  short-front start Variable = small-front start

  -- The size and the list of a payload in a window that ends at e.
  pub opening-front : (at : ℕ) (kind : Kind) → opening_at (take n s) e at kind ≡ opening_at s e at kind
  unfolding opening_at
  opening-front at kind = both (λ x y. x ≡ y) (ltb (e - at) 3) _ _ _ _ (λ _. refl) λ p. rw (get-front s n (at + 1) (omega (arith, facts)), get-front s n (at + 1 + 1) (omega (arith, facts)))
      (both (λ x y. x ≡ y) (ltb (e - at - 3) (size_at s (at + 1))) _ _ _ _ (λ _. refl) λ q. list-front s (at + 3 + size_at s (at + 1)) n at (at + 3) kind (omega (arith, facts)))

-- A payload's list in the window that ends where it does.
pub list-window : (s : List ℕ) (at start stop : ℕ) (kind : Kind) → stop ≤ length s → list_of (take stop s) at start (length (take stop s)) kind ≡ list_of s at start stop kind
list-window s at start stop kind h = rw (length-take-le stop s h) (list-front s stop stop at start kind (omega arith))

pub ruleset list_window = (list-window)

-- where a payload ends
abbrev pub StopsBy : ℕ → Result Opening Refusal → Type 0
StopsBy e (Ok o) = o.stop ≤ e
StopsBy e (Err r) = Unit {0}

-- a list's payload ends where it is said to
counted-stop : (stop more : ℕ) (r : Result Leb Refusal) → StopsBy stop (counted_by stop more r)
unfolding counted_by
counted-stop stop more (Err r) = tt
counted-stop stop more (Ok count) = omega arith

list-stop : (s : List ℕ) (at start stop : ℕ) (kind : Kind) → StopsBy stop (list_of s at start stop kind)
unfolding list_of counted_at
list-stop s at start stop Array = omega arith
list-stop s at start stop Map = omega arith
list-stop s at start stop Record = counted-stop stop 0 (leb_at s stop start)
list-stop s at start stop Function = counted-stop stop 1 (leb_at s stop start)
list-stop s at start stop Symbol = counted-stop stop 0 (leb_at s stop start)
list-stop s at start stop Variable = rule (StopsBy stop) (eqb (stop - start) 2) _ _ (λ _. omega arith) λ _. tt

stop-more : (a b : ℕ) (r : Result Opening Refusal) → a ≤ b → StopsBy a r → StopsBy b r
stop-more a b (Ok o) h i = omega arith
stop-more a b (Err r) h i = tt

-- A payload ends in its window.
pub opening-stop : (s : List ℕ) (e at : ℕ) (kind : Kind) → StopsBy e (opening_at s e at kind)
unfolding opening_at
opening-stop s e at kind =
    rule (StopsBy e) (ltb (e - at) 3) _ _ (λ _. tt) λ p.
    rule (StopsBy e) (ltb (e - at - 3) (size_at s (at + 1))) _ _ (λ _. tt) λ q.
    stop-more (at + 3 + size_at s (at + 1)) e _ (omega (arith, facts)) (list-stop s at (at + 3) (at + 3 + size_at s (at + 1)) kind)
