-- "text is UTF-8 by RFC 3629" (01-scope.md). The rules are those of RFC 3629, section 4, in its order; the numbers there are hex.
use Rattle.std.specs.Prelude.{ℕ, zero, suc, ◌+◌, List, [], ◌∷◌, Bool, true, false, ltb, eqb, length, drop}
use Rattle.meaning.specs.Rules.{◌⇒◌∣◌}

-- the bytes go on with n more of a character: the first of them from low to high, the others from 128 to 191 (UTF8-tail)
unfoldable pub goes_on : ℕ → ℕ → ℕ → List ℕ → Bool
goes_on zero low high w = true
goes_on (suc n) low high [] = false
goes_on (suc n) low high (c ∷ w) =
    ltb c low ⇒ false ∣ λ _.
    ltb high c ⇒ false ∣ λ _.
    goes_on n 128 191 w

-- the size of a character whose first byte asks for n more: 0 where they do not follow
abbrev pub size_with : ℕ → ℕ → ℕ → List ℕ → ℕ
size_with n low high w = goes_on n low high w ⇒ suc n ∣ λ _. 0

-- the size of the character that the bytes begin with, by its first byte; 0 where they begin with none
unfoldable pub char_size : List ℕ → ℕ
char_size [] = 0
char_size (b ∷ w) =
    ltb b 128 ⇒ 1 ∣ λ _.
    ltb b 194 ⇒ 0 ∣ λ _.
    ltb b 224 ⇒ size_with 1 128 191 w ∣ λ _.
    eqb b 224 ⇒ size_with 2 160 191 w ∣ λ _.
    eqb b 237 ⇒ size_with 2 128 159 w ∣ λ _.
    ltb b 240 ⇒ size_with 2 128 191 w ∣ λ _.
    eqb b 240 ⇒ size_with 3 144 191 w ∣ λ _.
    ltb b 244 ⇒ size_with 3 128 191 w ∣ λ _.
    eqb b 244 ⇒ size_with 3 128 143 w ∣ λ _.
    0

-- how many bytes the characters from the front on have, at most n characters
unfoldable pub chars_size : ℕ → List ℕ → ℕ
chars_size zero w = 0
chars_size (suc n) w =
    eqb (char_size w) 0 ⇒ 0 ∣ λ _.
    char_size w + chars_size n (drop (char_size w) w)

-- how far the bytes are well-formed characters: a character has a byte at least, so there are no more of them than bytes
unfoldable pub well_formed : List ℕ → ℕ
well_formed w = chars_size (length w) w

-- text is UTF-8 where it is well formed to its end
abbrev pub utf8 : List ℕ → Bool
utf8 w = eqb (well_formed w) (length w)
