-- How numbers are written. 01-scope.md, "First bytes": sizes take two bytes, low first; counts and lengths are LEB128 "in the fewest bytes
-- and never more than two".
use Rattle.std.specs.Prelude.{ℕ, ◌+◌, ◌*◌, ◌/◌, ◌%◌, List, [], ◌∷◌, ltb}
use Rattle.meaning.specs.Rules.{◌⇒◌∣◌}

-- two bytes, low first, and the number that two bytes are
abbrev pub two_bytes : ℕ → List ℕ
two_bytes n = (n % 256) ∷ (n / 256) ∷ []

abbrev pub of_two : ℕ → ℕ → ℕ
of_two low high = low + 256 * high

-- LEB128 of a number under 16,384: seven bits a byte, low first; a byte of 128 or more says that another follows
unfoldable pub leb128 : ℕ → List ℕ
leb128 n =
    ltb n 128 ⇒ n ∷ [] ∣ λ _.
    (128 + n % 128) ∷ (n / 128) ∷ []
