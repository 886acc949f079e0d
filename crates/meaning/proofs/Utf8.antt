-- What is UTF-8 is bytes, and the characters at the front of a list end within it.
--     char-le        the first character ends within the list
--     utf8-bytes     what is UTF-8 is bytes
-- Assumes nothing.
use Prim.Native.Nat.{ℕ, zero, suc, ◌+◌, ◌≤◌, ◌<◌, zero-le, suc-le-suc}
use mathlib.Core.Path.{◌≡◌}
use mathlib.Core.Bool.{Bool, true, false≢true}
use mathlib.Core.List.{List, [], ◌∷◌}
use native.Mathlib.Omega.{arith}
use lib.Dec.{ltb, eqb}
use lib.ListN.{length, take, drop, length-drop}
use lib.Seq.{take-add, take-length}
use borrow.Author.Tests.{eqb-true}
use Rattle.meaning.specs.Utf8.{goes_on, size_with, char_size, chars_size, well_formed, utf8}
use Rattle.meaning.specs.Within.{Bytes}
use Rattle.meaning.proofs.Rules.{facts, rule}
use Rattle.meaning.proofs.Window.{bytes-append}

-- the first n elements are there, and are bytes
abbrev Fits : List ℕ → ℕ → Type 0
Fits w n = (n ≤ length w) × Bytes (take n w)

-- What goes on fits.
goes-fit : (n low high : ℕ) (w : List ℕ) → high < 256 → goes_on n low high w ≡ true → Fits w n
unfolding goes_on
goes-fit zero low high w h g = (zero-le, tt)
goes-fit (suc n) low high [] h g = absurd (false≢true g)
goes-fit (suc n) low high (c ∷ w) h g =
    rule P (ltb c low) _ _ (λ _ g. absurd (false≢true g)) (λ _.
    rule P (ltb high c) _ _ (λ _ g. absurd (false≢true g)) λ q g.
    let r = goes-fit n 128 191 w (omega arith) g in
    (suc-le-suc r.0, (omega (arith, facts), r.1))) g
  where
    P : Bool → Type 0
    P t = t ≡ true → Fits (c ∷ w) (suc n)

-- A first byte fits with what it asks for.
with-fit : (b n low high : ℕ) (w : List ℕ) → b < 256 → high < 256 → Fits (b ∷ w) (size_with n low high w)
with-fit b n low high w h k = rule (Fits (b ∷ w)) (goes_on n low high w) (suc n) (λ _. 0) (λ g. let r = goes-fit n low high w k g in (suc-le-suc r.0, (h, r.1))) λ _.
    (zero-le, tt)

-- The character at the front fits.
char-fits : (w : List ℕ) → Fits w (char_size w)
unfolding char_size
char-fits [] = (zero-le, tt)
char-fits (b ∷ w) =
    rule (Fits (b ∷ w)) (ltb b 128) _ _ (λ p. (omega arith, (omega (arith, facts), tt))) λ _.
    rule (Fits (b ∷ w)) (ltb b 194) _ _ (λ p. (zero-le, tt)) λ _.
    rule (Fits (b ∷ w)) (ltb b 224) _ _ (λ p. with-fit b 1 128 191 w (omega (arith, facts)) (omega arith)) λ _.
    rule (Fits (b ∷ w)) (eqb b 224) _ _ (λ p. with-fit b 2 160 191 w (omega (arith, facts)) (omega arith)) λ _.
    rule (Fits (b ∷ w)) (eqb b 237) _ _ (λ p. with-fit b 2 128 159 w (omega (arith, facts)) (omega arith)) λ _.
    rule (Fits (b ∷ w)) (ltb b 240) _ _ (λ p. with-fit b 2 128 191 w (omega (arith, facts)) (omega arith)) λ _.
    rule (Fits (b ∷ w)) (eqb b 240) _ _ (λ p. with-fit b 3 144 191 w (omega (arith, facts)) (omega arith)) λ _.
    rule (Fits (b ∷ w)) (ltb b 244) _ _ (λ p. with-fit b 3 128 191 w (omega (arith, facts)) (omega arith)) λ _.
    rule (Fits (b ∷ w)) (eqb b 244) _ _ (λ p. with-fit b 3 128 143 w (omega (arith, facts)) (omega arith)) λ _.
    (zero-le, tt)

-- A character is no longer than the bytes that it begins.
pub char-le : (w : List ℕ) → char_size w ≤ length w
char-le w = (char-fits w).0

-- Two parts that follow one another fit.
fits-add : (w : List ℕ) (m n : ℕ) → Fits w m → Fits (drop m w) n → Fits w (m + n)
fits-add w m n h k =
    let l = rw length-drop at k.0 in
    (omega arith, rw (take-add m n w) (bytes-append (take m w) (take n (drop m w)) h.1 k.1))

-- The characters at the front fit.
chars-fit : (n : ℕ) (w : List ℕ) → Fits w (chars_size n w)
unfolding chars_size
chars-fit zero w = (zero-le, tt)
chars-fit (suc n) w = rule (Fits w) (eqb (char_size w) 0) _ _ (λ _. (zero-le, tt)) λ _.
    fits-add w (char_size w) (chars_size n (drop (char_size w) w)) (char-fits w) (chars-fit n (drop (char_size w) w))

-- What is UTF-8 is bytes.
pub utf8-bytes : (t : List ℕ) → utf8 t ≡ true → Bytes t
unfolding well_formed
utf8-bytes t h = rw (eqb-true (well_formed t) (length t) h, take-length t) at (chars-fit (length t) t).1
