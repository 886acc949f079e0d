-- Laws of text: how far bytes are well-formed characters.
--     goes-short                no character goes on past its window
--     chars-fuel                how far the characters go does not depend on the bound, where it is large enough
--     well-on, well-stop        a character takes the text past itself; where none is, the text stops
--     char-first, size-steps    a character by index: the tests that the code makes, in its order
--     utf8-to                   a text is UTF-8 where it is well formed to its window's end
-- Assumes nothing.
use mathlib.Core.Path.{◌≡◌, refl, sym, ap, ◌∙◌}
use mathlib.Core.Bool.{Bool, true, false}
use mathlib.Core.List.{List, [], ◌∷◌}
use Prim.Native.Nat.{ℕ, zero, suc, ◌+◌, ◌-◌, ◌≤◌, ◌<◌}
use native.Mathlib.Omega.{arith}
use lib.ListN.{length, get_or, drop, length-drop}
use lib.Seq.{slice}
use lib.Dec.{ltb, leb, eqb}
use borrow.Author.Tests.{ne_eqb, lt-leb}
use Rattle.meaning.specs.Rules.{◌⇒◌∣◌}
use Rattle.meaning.specs.Utf8.{goes_on, size_with, char_size, chars_size, well_formed, utf8}
use Rattle.meaning.proofs.Rules.{tests, facts, rule, both}
use Rattle.meaning.proofs.Utf8.{char-le}
use Rattle.meaning.proofs.Window.{window-some, window-length}

-- Where fewer bytes are left than a character asks for, it does not go on.
pub goes-short : (n low high : ℕ) (w : List ℕ) → length w < n → goes_on n low high w ≡ false
unfolding goes_on
goes-short zero low high w h = absurd (omega arith)
goes-short (suc n) low high [] h = refl
goes-short (suc n) low high (c ∷ w) h =
    rule (λ t. t ≡ false) (ltb c low) _ _ (λ _. refl) λ _.
    rule (λ t. t ≡ false) (ltb high c) _ _ (λ _. refl) λ _.
    goes-short n 128 191 w (omega arith)

-- Where no character is, the characters end.
chars-stop : (n : ℕ) (w : List ℕ) → char_size w ≡ 0 → chars_size n w ≡ 0
unfolding chars_size
chars-stop zero w h = refl
chars-stop (suc n) w h = search tests

-- A bound of as many characters as there are bytes is large enough.
pub chars-fuel : (n m : ℕ) (w : List ℕ) → length w ≤ n → length w ≤ m → chars_size n w ≡ chars_size m w
unfolding chars_size
chars-fuel zero m w h k = sym (chars-stop m w (let f = char-le w in omega arith))
chars-fuel (suc n) zero w h k = chars-stop (suc n) w (let f = char-le w in omega arith)
chars-fuel (suc n) (suc m) w h k =
    both (λ x y. x ≡ y) (eqb (char_size w) 0) _ _ _ _ (λ _. refl) λ p.
    ap (λ x. char_size w + x)
    (chars-fuel n m (drop (char_size w) w) (rw length-drop (omega (arith, facts))) (rw length-drop (omega (arith, facts))))

-- Where no character is, the text stops.
pub well-stop : (w : List ℕ) → char_size w ≡ 0 → well_formed w ≡ 0
unfolding well_formed
well-stop w h = chars-stop (length w) w h

-- A character takes the text past itself.
pub well-on : (w : List ℕ) → (char_size w ≡ 0 → ⊥) → well_formed w ≡ char_size w + well_formed (drop (char_size w) w)
unfolding well_formed chars_size
well-on w h =
    let f = char-le w in
    chars-fuel (length w) (suc (length w)) w (omega arith) (omega arith)
    ∙ rw (ne_eqb (char_size w) 0 h)
    (ap (λ x. char_size w + x)
    (chars-fuel (length w) (length (drop (char_size w) w)) (drop (char_size w) w) (rw length-drop (omega arith)) (omega arith)))

-- The character at a place begins with the byte there.
pub char-first : (s : List ℕ) (e at : ℕ) → at < e → e ≤ length s → char_size (slice at e s) ≡ char_size (get_or s at 0 ∷ slice (at + 1) e s)
char-first s e at h k = rw (window-some s at e h k)

pub ruleset char_by_first = (char-first)

-- the size of the character at a place whose first byte asks for 1 to 3 more, by index
unfoldable pub size_steps : List ℕ → ℕ → ℕ → ℕ → ℕ → ℕ → ℕ
size_steps s e at more low high =
    leb (e - at) more ⇒ 0 ∣ λ _.
    ltb (get_or s (at + 1) 0) low ⇒ 0 ∣ λ _.
    ltb high (get_or s (at + 1) 0) ⇒ 0 ∣ λ _.
    eqb more 1 ⇒ 2 ∣ λ _.
    ltb (get_or s (at + 2) 0) 128 ⇒ 0 ∣ λ _.
    ltb 191 (get_or s (at + 2) 0) ⇒ 0 ∣ λ _.
    eqb more 2 ⇒ 3 ∣ λ _.
    ltb (get_or s (at + 3) 0) 128 ⇒ 0 ∣ λ _.
    ltb 191 (get_or s (at + 3) 0) ⇒ 0 ∣ λ _.
    4

module _ (s : List ℕ) (e : ℕ) (k : e ≤ length s) where
  -- One more byte of a character, with what is known of those after it.
  more-on : (n low high size a b : ℕ) (rest : Unit {0} → ℕ) → a < e → a + 1 ≡ b → (goes_on n 128 191 (slice b e s) ⇒ size ∣ λ _. 0) ≡ rest tt
      → (goes_on (suc n) low high (slice a e s) ⇒ size ∣ λ _. 0) ≡ (ltb (get_or s a 0) low ⇒ 0 ∣ λ _. ltb high (get_or s a 0) ⇒ 0 ∣ rest)
  unfolding goes_on
  more-on n low high size a b rest h i q =
      rw (window-some s a e h k, i)
      (both R (ltb (get_or s a 0) low) _ _ _ _ (λ _. refl) λ _.
      both R (ltb high (get_or s a 0)) _ _ _ _ (λ _. refl) λ _. q)
    where
      R : Bool → ℕ → Type 0
      R t x = (t ⇒ size ∣ λ _. 0) ≡ x

-- The size of a character is what the steps say.
pub size-steps : (s : List ℕ) (e at more low high : ℕ) → e ≤ length s → at < e → 0 < more → more < 4
    → size_with more low high (slice (at + 1) e s) ≡ size_steps s e at more low high
unfolding size_steps goes_on
size-steps s e at more low high k h i j = go (leb (e - at) more) refl
  where
    long : (m : ℕ) → 0 < m → m < 4 → m < e - at → size_with m low high (slice (at + 1) e s) ≡ size_steps s e at m low high
    long zero i j l = absurd (omega arith)
    long (suc zero) i j l =
        rw (lt-leb (e - at) 1 l)
        (more-on s e k 0 low high 2 (at + 1) (at + 2) _ (omega arith) (omega arith) refl)
    long (suc (suc zero)) i j l =
        rw (lt-leb (e - at) 2 l)
        (more-on s e k 1 low high 3 (at + 1) (at + 2) _ (omega arith) (omega arith)
        (more-on s e k 0 128 191 3 (at + 2) (at + 3) _ (omega arith) (omega arith) refl))
    long (suc (suc (suc zero))) i j l =
        rw (lt-leb (e - at) 3 l)
        (more-on s e k 2 low high 4 (at + 1) (at + 2) _ (omega arith) (omega arith)
        (more-on s e k 1 128 191 4 (at + 2) (at + 3) _ (omega arith) (omega arith)
        (more-on s e k 0 128 191 4 (at + 3) (at + 4) _ (omega arith) (omega arith) refl)))
    long (suc (suc (suc (suc m)))) i j l = absurd (omega arith)

    go : (t : Bool) → leb (e - at) more ≡ t → size_with more low high (slice (at + 1) e s) ≡ size_steps s e at more low high
    go true p =
        let z : length (slice (at + 1) e s) < more = rw (window-length s (at + 1) e k) (omega (arith, facts)) in
        rw (p, goes-short more low high (slice (at + 1) e s) z)
    go false p = long more i j (omega (arith, facts))

pub ruleset size_by_steps = (size-steps)

-- A text is UTF-8 where it is well formed to its window's end.
pub utf8-to : (s : List ℕ) (a e : ℕ) → a ≤ e → e ≤ length s → eqb (a + well_formed (slice a e s)) e ≡ utf8 (slice a e s)
utf8-to s a e h k = rw (window-length s a e k) (go (eqb (well_formed (slice a e s)) (e - a)) refl)
  where
    go : (t : Bool) → eqb (well_formed (slice a e s)) (e - a) ≡ t → eqb (a + well_formed (slice a e s)) e ≡ t
    go true p = let q : a + well_formed (slice a e s) ≡ e = omega (arith, facts) in search tests
    go false p = ne_eqb _ _ (λ (q : a + well_formed (slice a e s) ≡ e). omega (arith, facts))
