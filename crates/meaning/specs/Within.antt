-- 01-scope.md, "Sizes" and "Shapes": a shape within the limits.
use Rattle.std.specs.Prelude.{ℕ, ◌≤◌, ◌<◌, List, [], ◌∷◌, length}
use Rattle.meaning.specs.Limits.{max_bytes, max_levels}
use Rattle.meaning.specs.Shape.{Shape, depth, Proper}
use Rattle.meaning.specs.Encode.{encode}

-- a list of bytes: every element is under 256
abbrev pub Bytes : List ℕ → Type 0
Bytes [] = Unit {0}
Bytes (b ∷ w) = (b < 256) × Bytes w

-- "Encoding 1 to 2,048 bytes; depth 1 to 16": a shape within the limits is stored in bytes, few enough, is no deeper than the levels, and holds
-- UTF-8 texts and Variables up to 65,535 (an encoding has a byte and a shape a level in any case)
pub record Within (s : Shape) : Type 0 where
  pub short : length (encode s) ≤ max_bytes
  pub shallow : depth s ≤ max_levels
  pub small : Bytes (encode s)
  pub proper : Proper s
