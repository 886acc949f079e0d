-- A window of an input: the bytes from a place up to an end, `slice at end s` of lib.Seq.
--     window-none, window-some     past its end it is empty; before, the byte there and the window after it
--     window-length                its length
--     window-place, place-some     a window's place is its end less its length
--     window-take, window-drop     a front and a rest of a window are windows
--     window-all                   the whole input is a window
--     bytes-by-index, bytes-append, bytes_take     lists of bytes
-- Assumes nothing.
use Prim.Native.Nat.{ℕ, zero, suc, ◌+◌, ◌-◌, ◌≤◌, ◌<◌}
use mathlib.Core.Path.{◌≡◌, ◌∙◌, ap}
use mathlib.Core.List.{List, [], ◌∷◌, ◌++◌}
use native.Mathlib.Nat.{zero-add, suc-add}
use native.Mathlib.Numerals.{add-one}
use native.Mathlib.Omega.{arith}
use lib.ListN.{length, take, drop, get_or}
use lib.Seq.{slice, slice-cons, length-slice, drop-drop, take-take, take-nil, drop-nil, take-length}
use Rattle.meaning.specs.Within.{Bytes}

-- A window that begins at its end or after it is empty.
pub window-none : (s : List ℕ) (a e : ℕ) → e ≤ a → slice a e s ≡ []
window-none s a zero h = drop-nil a
window-none [] a (suc e) h = drop-nil a
window-none (x ∷ s) zero (suc e) h = absurd (omega arith)
window-none (x ∷ s) (suc a) (suc e) h = window-none s a e (omega arith)

-- Any other is the byte at its place and the window after that.
pub window-some : (s : List ℕ) (a e : ℕ) → a < e → e ≤ length s → slice a e s ≡ get_or s a 0 ∷ slice (a + 1) e s
window-some s a e h k = rw add-one (slice-cons a e s 0 h k)

-- A window is as long as its end is after its place.
pub window-length : (s : List ℕ) (a e : ℕ) → e ≤ length s → length (slice a e s) ≡ e - a
window-length s a e h = length-slice a e s h

-- A window's place is its end less its length.
pub window-place : (s : List ℕ) (a e : ℕ) → a ≤ e → e ≤ length s → e - length (slice a e s) ≡ a
window-place s a e h k = rw (window-length s a e k) (omega arith)

-- Of a list without its first m elements the first n are the first m + n of the list, without the first m.
take-drop : (n m : ℕ) (l : List ℕ) → take n (drop m l) ≡ drop m (take (m + n) l)
take-drop n zero l = rw zero-add
take-drop n (suc m) [] = rw (take-nil n, take-nil (suc m + n))
take-drop n (suc m) (x ∷ l) = rw suc-add (take-drop n m l)

-- The first n bytes of a window are a window.
pub window-take : (s : List ℕ) (a e n : ℕ) → a + n ≤ e → take n (slice a e s) ≡ slice a (a + n) s
window-take s a e n h = take-drop n a (take e s) ∙ ap (drop a) (take-take (a + n) e s h)

-- What follows them is a window.
pub window-drop : (s : List ℕ) (a e n : ℕ) → drop n (slice a e s) ≡ slice (a + n) e s
window-drop s a e n = drop-drop n a (take e s)

-- The place of a window that is not empty, by the window after its first byte.
pub place-some : (s : List ℕ) (a e : ℕ) → a < e → e ≤ length s → e - suc (length (slice (a + 1) e s)) ≡ a
place-some s a e h k = rw (window-length s (a + 1) e k) (omega arith)

-- The whole input is a window.
pub window-all : (s : List ℕ) → slice 0 (length s) s ≡ s
window-all s = take-length s

-- A list whose elements are bytes, one by one, is a list of bytes.
pub bytes-by-index : (w : List ℕ) → ((i : ℕ) → get_or w i 0 < 256) → Bytes w
bytes-by-index [] h = tt
bytes-by-index (x ∷ w) h = (h 0, bytes-by-index w (λ i. h (suc i)))

-- Bytes and then bytes are bytes.
pub bytes-append : (s t : List ℕ) → Bytes s → Bytes t → Bytes (s ++ t)
bytes-append [] t a b = b
bytes-append (x ∷ s) t a b = (a.0, bytes-append s t a.1 b)

-- The first of some bytes are bytes.
pub bytes_take : (s : List ℕ) (n : ℕ) → Bytes s → Bytes (take n s)
bytes_take s zero b = tt
bytes_take [] (suc n) b = tt
bytes_take (x ∷ s) (suc n) b = (b.0, bytes_take s n b.1)
