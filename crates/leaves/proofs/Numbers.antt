-- Laws of LEB128 numbers at a place of a window.
--     leb-steps     the number by index: the tests that the code makes, in its order
--     leb-told      what `leb128` answers tells what the meaning reads
-- Assumes nothing.
use mathlib.Core.Path.{◌≡◌, refl, sym}
use mathlib.Core.Bool.{Bool, true, false}
use mathlib.Core.List.{List}
use Prim.Native.Nat.{ℕ, ◌+◌, ◌*◌, ◌%◌, ◌≤◌, ◌<◌}
use native.Mathlib.Omega.{arith}
use lib.ListN.{length, get_or}
use lib.Seq.{slice}
use lib.Dec.{ltb, leb, eqb}
use Rattle.meaning.specs.Rules.{◌⇒◌∣◌}
use Rattle.meaning.specs.Refusals.{unfinished, over_two_bytes, not_shortest}
use Rattle.meaning.specs.Reading.{Reading, got, bad, read_count, second_byte}
use Rattle.meaning.proofs.Rules.{facts, both}
use Rattle.meaning.proofs.Window.{window-none, window-some, window-place, place-some}
use Rattle.leaves.proofs.Faults.{fault-number}
use Rattle.leaves.specs.Leb.{leb_of, leb_said, leb_at}
use Rattle.std.specs.Prelude.{Result, Ok, Err}
use Rattle.leaves.specs.Faults.{number_of, fault_of, fault_at, refusal}
use Rattle.leaves.specs.declared.refusals.Fault.{Fault}
use Rattle.leaves.specs.declared.refusals.Refusal.{Refusal}
use Rattle.leaves.specs.declared.Leb.{Leb}

-- the number at a place whose first byte is b and has another after it, by index
abbrev second_step : List ℕ → ℕ → ℕ → ℕ → Result Leb Refusal
second_step s e at b =
    leb e (at + 1) ⇒ Err (refusal unfinished at) ∣ λ _.
    leb 128 (get_or s (at + 1) 0) ⇒ Err (refusal over_two_bytes at) ∣ λ _.
    eqb (get_or s (at + 1) 0) 0 ⇒ Err (refusal not_shortest at) ∣ λ _.
    Ok (leb_of (b % 128 + 128 * get_or s (at + 1) 0) (at + 2))

-- the number at a place by index
unfoldable pub steps : List ℕ → ℕ → ℕ → Result Leb Refusal
steps s e at =
    leb e at ⇒ Err (refusal unfinished at) ∣ λ _.
    ltb (get_or s at 0) 128 ⇒ Ok (leb_of (get_or s at 0) (at + 1)) ∣ λ _.
    second_step s e at (get_or s at 0)

-- What is said and what is read, step by step: a relation that holds at every fault and at every number holds of them.
module _ (s : List ℕ) (e at : ℕ) (k : e ≤ length s) (R : Result Leb Refusal → Reading ℕ → Type 0)
    (faulty : (f : Fault) → R (Err (fault_at f at)) (bad (number_of f) at)) (sound : (v n : ℕ) → at < n → n ≤ e → R (Ok (leb_of v n)) (got v (slice n e s))) where
  -- It holds from the second byte on.
  second : (b : ℕ) → R (second_step s e at b) (second_byte at b (slice (at + 1) e s))
  unfolding second_byte
  second b = go (leb e (at + 1)) refl
    where
      c : ℕ
      c = get_or s (at + 1) 0

      go : (t : Bool) → leb e (at + 1) ≡ t → R (second_step s e at b) (second_byte at b (slice (at + 1) e s))
      go true p = rw (p, window-none s (at + 1) e (omega (arith, facts))) (faulty (fault_of unfinished))
      go false p =
          let z : at + 1 + 1 ≡ at + 2 = omega arith in
          rw (p, window-some s (at + 1) e (omega (arith, facts)) k, z)
          (both R (leb 128 c) _ _ _ _ (λ q. faulty (fault_of over_two_bytes)) λ q.
          both R (eqb c 0) _ _ _ _ (λ q. faulty (fault_of not_shortest)) λ q.
          sound _ (at + 2) (omega arith) (omega (arith, facts)))

  -- It holds from the first byte on.
  stepwise : at ≤ e → R (steps s e at) (read_count e (slice at e s))
  unfolding steps read_count
  stepwise h = go (leb e at) refl
    where
      go : (t : Bool) → leb e at ≡ t → R (steps s e at) (read_count e (slice at e s))
      go true p =
          let z : at ≡ e = omega (arith, facts) in
          rw (p, window-none s at e (omega (arith, facts)), ← z) (faulty (fault_of unfinished))
      go false p =
          let l : at < e = omega (arith, facts) in
          rw (p, window-some s at e l k, place-some s at e l k)
          (both R (ltb (get_or s at 0) 128) _ _ _ _ (λ q. sound _ (at + 1) (omega arith) (omega arith)) λ q. second (get_or s at 0))

-- The number at a place is what the steps say.
pub leb-steps : (s : List ℕ) (e at : ℕ) → e ≤ length s → leb_at s e at ≡ steps s e at
unfolding leb_at steps read_count
leb-steps s e at k = go (leb e at) refl
  where
    go : (t : Bool) → leb e at ≡ t → leb_at s e at ≡ steps s e at
    go true p = rw (p, window-none s at e (omega (arith, facts)))
    go false p =
        sym (stepwise s e at k (λ l r. l ≡ leb_said e at r) (λ f. rw (fault-number f)) (λ v n h i. rw (window-place s n e i k)) (omega (arith, facts)))

pub ruleset leb_by_steps = (leb-steps)

-- What `leb128` answers, and what the meaning reads from there on.
pub data ToldLeb (s : List ℕ) (e at : ℕ) : Result Leb Refusal → Reading ℕ → Type 0 where
  number : (v n : ℕ) → at ≤ n → n ≤ e → ToldLeb s e at (Ok (leb_of v n)) (got v (slice n e s))
  fault : (f : Fault) → ToldLeb s e at (Err (fault_at f at)) (bad (number_of f) at)

-- The answer tells the reading.
pub leb-told : (s : List ℕ) (e at : ℕ) → at ≤ e → e ≤ length s → ToldLeb s e at (leb_at s e at) (read_count e (slice at e s))
leb-told s e at h k =
    rw (leb-steps s e at k) (stepwise s e at k (ToldLeb s e at) (λ n. fault n) (λ v n i j. number v n (omega arith) j) h)
