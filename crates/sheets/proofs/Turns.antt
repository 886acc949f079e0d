-- The steps' definitions, as the code counts: up by one, to the count.
--     entries-turn, entries-end     one entry of those that are due, and none
--     encodings-refused, encodings-accepted, encodings-end     one encoding of those that are due, and none
--     sum-turn                      one length of those that are due
--     rising-sum                    entries in order have what their lengths say together
-- Assumes nothing.
use mathlib.Core.Path.{◌≡◌, sym}
use mathlib.Core.List.{List}
use Prim.Native.Nat.{ℕ, zero, suc, ◌+◌, ◌-◌, ◌≤◌, ◌<◌}
use native.Mathlib.Omega.{arith}
use lib.Dec.{ltb, eqb}
use lib.ListN.{take, drop}
use Rattle.meaning.specs.Rules.{◌⇒◌∣◌}
use Rattle.meaning.specs.Limits.{max_bytes}
use Rattle.meaning.specs.Reading.{reading}
use Rattle.meaning.proofs.Rules.{rule}
use Rattle.reader.specs.Said.{said}
use Rattle.std.specs.Prelude.{Result, Ok, Err, Some, None}
use Rattle.leaves.specs.declared.refusals.Refusal.{Refusal}
use Rattle.reader.specs.declared.Accepted.{Accepted}
use Rattle.sheets.specs.Steps.{blank_at, length_at, sum_from, broken, entries_from, judged, encodings_from}

-- entry i of count is due
module _ (s : List ℕ) (count i : ℕ) (h : i < count) where
  due : count - i ≡ suc (count - (i + 1))
  due = omega arith

  pub sum-turn : sum_from s (count - i) i ≡ length_at s i + sum_from s (count - (i + 1)) (i + 1)
  unfolding sum_from
  sum-turn = rw due

  pub entries-turn : (least sum : ℕ) → entries_from s (count - i) i least sum ≡ (
      ltb (blank_at s i) least ⇒ Err (broken i) ∣ λ _.
      eqb (length_at s i) 0 ⇒ Err (broken i) ∣ λ _.
      ltb max_bytes (length_at s i) ⇒ Err (broken i) ∣ λ _.
      entries_from s (count - (i + 1)) (i + 1) (blank_at s i + 1) (sum + length_at s i))
  unfolding entries_from
  entries-turn least sum = rw due

  encodings-turn : (at : ℕ) → encodings_from s (count - i) i at ≡ judged i (said (reading (take (length_at s i) (drop at s)))) (encodings_from s (count - (i + 1)) (i + 1) (at + length_at s i))
  unfolding encodings_from
  encodings-turn at = rw due

  -- the reader's judgement of the part that the code hands it
  module _ {l : ℕ} {r : Result Accepted Refusal} (at : ℕ) (p : l ≡ length_at s i) (q : r ≡ said (reading (take (at + l - at) (drop at s)))) where
    part : said (reading (take (length_at s i) (drop at s))) ≡ r
    part = let e : at + l - at ≡ length_at s i = omega arith in sym (rw e at q)

    pub encodings-refused : {f : Refusal} → r ≡ Err f → encodings_from s (count - i) i at ≡ Some i
    encodings-refused e = rw (encodings-turn at, part, e)

    pub encodings-accepted : {a : Accepted} → r ≡ Ok a → encodings_from s (count - i) i at ≡ encodings_from s (count - (i + 1)) (i + 1) (at + l)
    encodings-accepted e = rw (encodings-turn at, part, e, p)

-- none is due
module _ (s : List ℕ) (count i : ℕ) (h : count ≤ i) where
  none : count - i ≡ 0
  none = omega arith

  pub entries-end : (least sum : ℕ) → entries_from s (count - i) i least sum ≡ Ok sum
  unfolding entries_from
  entries-end least sum = rw none

  pub encodings-end : (at : ℕ) → encodings_from s (count - i) i at ≡ None
  unfolding encodings_from
  encodings-end at = rw none

-- Entries in order say together what their lengths do.
pub rising-sum : (s : List ℕ) (c i least t x : ℕ) → entries_from s c i least t ≡ Ok x → x ≡ t + sum_from s c i
unfolding entries_from sum_from
rising-sum s zero i least t x = λ h. let e : t ≡ x = cc in omega arith
rising-sum s (suc c) i least t x =
    rule (λ r. r ≡ Ok x → x ≡ t + sum_from s (suc c) i) (ltb (blank_at s i) least) _ _ (λ _ h. cc) λ _.
    rule (λ r. r ≡ Ok x → x ≡ t + sum_from s (suc c) i) (eqb (length_at s i) 0) _ _ (λ _ h. cc) λ _.
    rule (λ r. r ≡ Ok x → x ≡ t + sum_from s (suc c) i) (ltb max_bytes (length_at s i)) _ _ (λ _ h. cc) λ _ h.
    omega (arith, rising-sum s c (i + 1) (blank_at s i + 1) (t + length_at s i) x h)
