-- A blank is sought in an accepted sheet by halves.
--     search-start           before, it may be any entry's
--     search-up, search-down     the entry in the middle has a smaller number, or a larger
--     search-end             where no entry is left, the sheet has nothing for it
-- Assumes nothing.
use Prim.Native.Nat.{ℕ, ◌+◌, ◌≤◌, ◌<◌}
use mathlib.Core.Path.{◌≡◌, refl}
use mathlib.Core.List.{List}
use mathlib.Core.Bool.{Bool, true, false}
use native.Mathlib.Omega.{arith}
use lib.Dec.{ltb}
use lib.ListN.{length}
use borrow.Author.Tests.{ltb-true, ltb-false}
use Rattle.meaning.specs.Shape.{blank}
use Rattle.sheets.specs.declared.Slot.{Slot}
use Rattle.sheets.specs.Index.{sheet_in, entry, blank_in, Ready}
use Rattle.sheets.proofs.Places.{ready-rises, ready-absent}

-- what holds at each turn: the blank n can be only that of an entry from low on and before high
pub record Turn (s : List ℕ) (n low high : ℕ) : Type 0 where
  pub order : low ≤ high
  pub inside : high ≤ length (sheet_in s)
  pub below : (k : ℕ) → k < low → (entry (sheet_in s) k).number < n
  pub above : (k : ℕ) → high ≤ k → k < length (sheet_in s) → n < (entry (sheet_in s) k).number

module _ {s : List ℕ} {slots : List Slot} (r : Ready s slots) (n : ℕ) where
  -- Before the first turn it may be any entry's.
  pub search-start : Turn s n 0 (length (sheet_in s))
  search-start = record { order = omega arith; inside = omega arith; below = λ k h. absurd (omega arith); above = λ k h g. absurd (omega arith) }

  module _ (low high m : ℕ) (t : Turn s n low high) (h : m < high) where
    -- Where the number of entry m is smaller, so are those of the entries before it.
    pub search-up : low ≤ m → (entry (sheet_in s) m).number < n → Turn s n (m + 1) high
    search-up l g = record { order = omega arith; inside = t.inside; below = smaller; above = t.above }
      where
        smaller : (k : ℕ) → k < m + 1 → (entry (sheet_in s) k).number < n
        smaller k q = go (ltb k m) refl
          where
            go : (b : Bool) → ltb k m ≡ b → (entry (sheet_in s) k).number < n
            go true p = omega (arith, ready-rises r k m (ltb-true k m p) (omega (arith, t.inside)))
            go false p = let e : k ≡ m = omega (arith, ltb-false) in rw e g

    -- Where it is larger, so are those of the entries after it.
    pub search-down : low ≤ m → n < (entry (sheet_in s) m).number → Turn s n low m
    search-down l g = record { order = l; inside = omega (arith, t.inside); below = t.below; above = larger }
      where
        larger : (k : ℕ) → m ≤ k → k < length (sheet_in s) → n < (entry (sheet_in s) k).number
        larger k q f = go (ltb m k) refl
          where
            go : (b : Bool) → ltb m k ≡ b → n < (entry (sheet_in s) k).number
            go true p = omega (arith, ready-rises r m k (ltb-true m k p) f)
            go false p = let e : k ≡ m = omega (arith, ltb-false) in rw e g

  -- Where no entry is left, the sheet has nothing for the blank.
  pub search-end : (low high : ℕ) → Turn s n low high → high ≤ low → blank_in s n ≡ blank n
  search-end low high t h = ready-absent r n other
    where
      other : (k : ℕ) → k < length (sheet_in s) → (entry (sheet_in s) k).number ≡ n → ⊥
      other k f e = go (ltb k low) refl
        where
          go : (b : Bool) → ltb k low ≡ b → ⊥
          go true p = omega (arith, t.below k (ltb-true k low p))
          go false p = omega (arith, t.above k (omega (arith, ltb-false)) f)
