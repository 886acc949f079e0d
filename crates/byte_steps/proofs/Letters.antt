-- UTF-8, byte by byte.
--     utf8-first     what a character's first byte asks for
--     char-step      a text goes on with a byte as the automaton says
-- Assumes nothing.
use mathlib.Core.Path.{◌≡◌, refl, ap, sym, ◌∙◌}
use mathlib.Core.Bool.{Bool, true, false}
use mathlib.Core.List.{List, ◌∷◌}
use Prim.Native.Nat.{ℕ, zero, suc, ◌+◌, ◌-◌, ◌≤◌}
use native.Mathlib.Omega.{arith}
use native.Mathlib.Numerals.{sub-one}
use lib.ListN.{length, drop, length-drop}
use lib.Dec.{ltb, eqb}
use borrow.Author.Tests.{ltb-true, ltb-false, eqb-false, eq-eqb, ne_eqb}
use Rattle.meaning.specs.Rules.{◌⇒◌∣◌}
use Rattle.meaning.specs.Utf8.{goes_on, size_with, char_size, well_formed, utf8}
use Rattle.meaning.proofs.Rules.{facts, both}
use Rattle.leaves.proofs.Text.{goes-short, well-on, well-stop}
use Rattle.std.specs.Prelude.{Option, Some, None}
use Rattle.byte_steps.specs.declared.Asked.{Asked}
use Rattle.byte_steps.specs.Automaton.{asks, char_first, char_taken}

-- the bytes go on with so many of a character, and are UTF-8 then
abbrev pub goes : ℕ → ℕ → ℕ → List ℕ → Bool
goes more low high w = goes_on more low high w ⇒ utf8 (drop more w) ∣ λ _. false

abbrev pub char_says : Option Asked → List ℕ → Bool
char_says None w = false
char_says (Some c) w = goes c.more c.low c.high w

abbrev size_of : Option Asked → List ℕ → ℕ
size_of None w = 0
size_of (Some c) w = size_with c.more c.low c.high w

pub first-size : (b : ℕ) (w : List ℕ) → char_size (b ∷ w) ≡ size_of (char_first b) w
unfolding char_size char_first goes_on
first-size b w =
    both R (ltb b 128) _ _ _ _ (λ _. refl) λ _.
    both R (ltb b 194) _ _ _ _ (λ _. refl) λ _.
    both R (ltb b 224) _ _ _ _ (λ _. refl) λ _.
    both R (eqb b 224) _ _ _ _ (λ _. refl) λ _.
    both R (eqb b 237) _ _ _ _ (λ _. refl) λ _.
    both R (ltb b 240) _ _ _ _ (λ _. refl) λ _.
    both R (eqb b 240) _ _ _ _ (λ _. refl) λ _.
    both R (ltb b 244) _ _ _ _ (λ _. refl) λ _.
    both R (eqb b 244) _ _ _ _ (λ _. refl) λ _.
    refl
  where
    R : ℕ → Option Asked → Type 0
    R n c = n ≡ size_of c w

-- no character there: no UTF-8
none-there : (b : ℕ) (w : List ℕ) → char_size (b ∷ w) ≡ 0 → utf8 (b ∷ w) ≡ false
none-there b w h = rw (well-stop (b ∷ w) h) (ne_eqb 0 (length (b ∷ w)) (λ q. absurd (omega arith)))

goes-room : (m low high : ℕ) (w : List ℕ) → goes_on m low high w ≡ true → m ≤ length w
goes-room m low high w h = go (ltb (length w) m) refl
  where
    go : (t : Bool) → ltb (length w) m ≡ t → m ≤ length w
    go true p = absurd (let z : ◌≡◌ {A = Bool} true false = cc (goes-short m low high w (ltb-true _ _ p)) in mathlib.Core.Bool.false≢true (sym z))
    go false p = ltb-false _ _ p

same_test : (x n m : ℕ) → m ≤ n → eqb (suc m + x) (suc n) ≡ eqb x (n - m)
same_test x n m h = go (eqb x (n - m)) refl
  where
    go : (t : Bool) → eqb x (n - m) ≡ t → eqb (suc m + x) (suc n) ≡ t
    go true p = eq-eqb (suc m + x) (suc n) (omega (arith, facts))
    go false p = ne_eqb (suc m + x) (suc n) (λ (q : suc m + x ≡ suc n). eqb-false x (n - m) p (omega arith))

utf8-with : (b m low high : ℕ) (w : List ℕ) → char_size (b ∷ w) ≡ size_with m low high w → utf8 (b ∷ w) ≡ goes m low high w
utf8-with b m low high w h = go (goes_on m low high w) refl
  where
    go : (t : Bool) → goes_on m low high w ≡ t → utf8 (b ∷ w) ≡ goes m low high w
    go true p =
        let c : char_size (b ∷ w) ≡ suc m = h ∙ rw p in
        let n : char_size (b ∷ w) ≡ 0 → ⊥ = λ z. omega arith in
        rw (p, well-on (b ∷ w) n, c, length-drop m w)
        (same_test (well_formed (drop m w)) (length w) m (goes-room m low high w p))
    go false p = none-there b w (h ∙ rw p) ∙ rw p

pub utf8-first : (b : ℕ) (w : List ℕ) → utf8 (b ∷ w) ≡ char_says (char_first b) w
utf8-first b w = go (char_first b) refl
  where
    go : (c : Option Asked) → char_first b ≡ c → utf8 (b ∷ w) ≡ char_says c w
    go None e = none-there b w (first-size b w ∙ ap (λ c. size_of c w) e)
    go (Some a) e = utf8-with b a.more a.low a.high w (first-size b w ∙ ap (λ c. size_of c w) e)

-- a byte of a text
pub char-step : (m low high b : ℕ) (w : List ℕ) → goes m low high (b ∷ w) ≡ char_says (char_taken m low high b) w
unfolding char_taken goes_on
char-step zero low high b w = utf8-first b w
char-step (suc m) low high b w =
    rw (ne_eqb (suc m) 0 (λ q. absurd (omega arith)), sub-one)
    (both R (ltb b low) _ _ _ _ (λ _. refl) λ _.
    both R (ltb high b) _ _ _ _ (λ _. refl) λ _.
    last m)
  where
    R : Bool → Option Asked → Type 0
    R t c = (t ⇒ utf8 (drop m w) ∣ λ _. false) ≡ char_says c w

    last : (k : ℕ) → (goes_on k 128 191 w ⇒ utf8 (drop k w) ∣ λ _. false) ≡ char_says (eqb (suc k) 1 ⇒ asks 0 0 0 ∣ λ _. asks k 128 191) w
    last zero = refl
    last (suc k) = rw (ne_eqb (suc (suc k)) 1 (λ q. absurd (omega arith)))
