-- What a lent buffer holds after bytes were written into it.
use Rattle.std.specs.Prelude.{ℕ, ◌+◌, List, ◌++◌, length, take, drop}

-- the buffer d with the bytes w from the place to on, and else as it was
unfoldable pub written : List ℕ → ℕ → List ℕ → List ℕ
written d to w = take to d ++ (w ++ drop (to + length w) d)
