-- The slots of a sheet are filled one at a turn.
--     sum-last       one length more of those before
--     index-turn     one slot more is its entry's after a turn
--     part-deep      the reader's depth of a part is no more than the levels
--     deep-told      the depth that the code has is the reader's
-- Assumes nothing.
use Prim.Native.Nat.{ℕ, zero, suc, ◌+◌, ◌-◌, ◌≤◌, ◌<◌}
use mathlib.Core.Path.{◌≡◌, refl, sym, ap, ◌∙◌}
use mathlib.Core.List.{List}
use mathlib.Core.Bool.{Bool, true, false}
use native.Mathlib.Numerals.{add-one}
use native.Mathlib.Omega.{arith}
use lib.Dec.{ltb}
use lib.ListN.{length, get_or, set, take, drop, take-append-drop}
use lib.Seq.{get_or-set_same, get_or-set_other}
use borrow.Author.Tests.{ltb-true, ltb-false}
use Rattle.meaning.specs.Limits.{max_levels}
use Rattle.meaning.specs.Shape.{Shape, depth}
use Rattle.meaning.specs.Within.{Bytes}
use Rattle.meaning.specs.Reading.{Reading, got, bad, reading}
use Rattle.meaning.proofs.Window.{bytes-by-index, bytes_take}
use Rattle.meaning.proofs.Sound.{bytes_rest}
use Rattle.meaning.proofs.Laws.{encode-reading}
use Rattle.reader.specs.Said.{said}
use Rattle.std.specs.Prelude.{Result, Ok}
use Rattle.leaves.specs.declared.refusals.Refusal.{Refusal}
use Rattle.reader.specs.declared.Accepted.{Accepted}
use Rattle.sheets.specs.declared.Slot.{Slot}
use Rattle.sheets.specs.Steps.{length_at, sum_from}
use Rattle.sheets.specs.Index.{deep_as, slot_at, Indexed, IndexTo}

-- What c + 1 lengths say together is what c say, and the last.
sum_more : (s : List ℕ) (c i j : ℕ) → j ≡ i + c → sum_from s (suc c) i ≡ sum_from s c i + length_at s j
unfolding sum_from
sum_more s zero i j h = let e : j ≡ i = omega arith in rw e (omega arith)
sum_more s (suc c) i j h = omega (arith, sum_more s c (i + 1) j (omega arith))

-- So from the first on.
pub sum-last : (s : List ℕ) (i : ℕ) → sum_from s (i + 1) 0 ≡ sum_from s i 0 + length_at s i
sum-last s i = rw add-one (sum_more s i 0 i (omega arith))

-- What is accepted of bytes has a depth no more than the levels.
deep-small : (w : List ℕ) (a : Accepted) → Bytes w → said (reading w) ≡ Ok a → a.depth ≤ max_levels
deep-small w a b = go (reading w) refl
  where
    go : (r : Reading Shape) → reading w ≡ r → said r ≡ Ok a → a.depth ≤ max_levels
    go (got t v) e h = let k = (encode-reading w t v b e).1.shallow in let q : depth t ≡ a.depth = ap deep_as h in omega arith
    go (bad n p) e h = cc

-- So where a part of bytes is accepted.
pub part-deep : {r : Result Accepted Refusal} (s : List ℕ) (at n : ℕ) (a : Accepted) → ((i : ℕ) → get_or s i 0 < 256) → r ≡ said (reading (take n (drop at s))) → r ≡ Ok a → a.depth ≤ max_levels
part-deep s at n a b p q = deep-small (take n (drop at s)) a (bytes_take (drop at s) n (bytes_rest (take at s) s (drop at s) (sym (take-append-drop at s)) (bytes-by-index s b))) (sym p ∙ q)

-- Its depth is that of the judgement, whatever the code calls the part's length.
pub deep-told : {r : Result Accepted Refusal} (s : List ℕ) (at n m : ℕ) (a : Accepted) → n ≡ m → r ≡ said (reading (take (at + n - at) (drop at s))) → r ≡ Ok a → a.depth ≡ deep_as (said (reading (take m (drop at s))))
deep-told s at n m a e p q =
    let z : at + n - at ≡ m = omega arith in
    let h : said (reading (take m (drop at s))) ≡ Ok a = sym (rw z at p) ∙ q in
    rw h

-- Slot i is that of entry i, which stands at a place and is d deep: so each of the slots up to it is its entry's.
pub index-turn : (s : List ℕ) (slots : List Slot) (from i at d : ℕ) → i < length slots → IndexTo s slots from i → at ≡ from + sum_from s i 0 → d ≡ deep_as (said (reading (take (length_at s i) (drop at s))))
    → IndexTo s (set slots i (record { start = at; depth = d })) from (i + 1)
index-turn s slots from i at d n x p q k h = go (ltb k i) refl
  where
    more : List Slot
    more = set slots i (record { start = at; depth = d })

    go : (b : Bool) → ltb k i ≡ b → Indexed s more from k
    go true t =
        let l : k < i = ltb-true k i t in
        let a : slot_at more k ≡ slot_at slots k = get_or-set_other slots i k _ _ (λ q. omega arith) in
        record { start = rw a (x k l).start; deep = rw a (x k l).deep }
    go false t =
        let e : k ≡ i = omega (arith, ltb-false) in
        let a : slot_at more i ≡ record { start = at; depth = d } = get_or-set_same slots i _ _ n in
        rw e (record { start = rw a p; deep = rw a q })
