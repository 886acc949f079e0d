-- A window within a window: what stands up to a place e is the same in any front of the input that has e bytes.
--     slice-front, get-front     a slice, a byte
--     leb-front                  a LEB128 number
--     well-window                how far a text is well formed in a window `&s[..e]`, as a call says it
-- Assumes nothing.
use mathlib.Core.Path.{◌≡◌, ap}
use mathlib.Core.List.{List}
use Prim.Native.Nat.{ℕ, ◌+◌, ◌≤◌, ◌<◌}
use native.Mathlib.Omega.{arith}
use lib.ListN.{length, take, drop, get_or}
use lib.Seq.{slice, take-take, get_or-take, length-take-le}
use Rattle.meaning.specs.Utf8.{well_formed}
use Rattle.leaves.specs.Leb.{leb_at}

module _ (s : List ℕ) (e n : ℕ) (k : e ≤ n) where
  -- A slice up to e is the same.
  pub slice-front : (a : ℕ) → slice a e (take n s) ≡ slice a e s
  slice-front a = ap (drop a) (take-take e n s k)

  -- So is a LEB128 number.
  pub leb-front : (at : ℕ) → leb_at (take n s) e at ≡ leb_at s e at
  unfolding leb_at
  leb-front at = rw (slice-front at)

-- A byte of a front is the input's.
pub get-front : (s : List ℕ) (n a : ℕ) → a < n → get_or (take n s) a 0 ≡ get_or s a 0
get-front s n a h = get_or-take n s a 0 h

-- A text that is well formed as far as n in the window that ends at e is so in the input.
pub well-window : (s : List ℕ) (a e n : ℕ) → e ≤ length s → n ≡ a + well_formed (slice a (length (take e s)) (take e s)) → n ≡ a + well_formed (slice a e s)
well-window s a e n h w = rw (length-take-le e s h, slice-front s e e (omega arith) a) at w
