-- From the reader's judgement to what is said of children and names.
--     accepted-child, accepted-name     of an accepted input the steps are what is said
-- Assumes nothing.
use mathlib.Core.Path.{◌≡◌}
use mathlib.Core.List.{List}
use Prim.Native.Nat.{ℕ, ◌<◌}
use native.Mathlib.Omega.{arith}
use lib.ListN.{get_or}
use Rattle.meaning.specs.Reading.{reading}
use Rattle.meaning.proofs.Window.{bytes-by-index}
use Rattle.meaning.proofs.Laws.{by-reading}
use Rattle.std.specs.Prelude.{Ok}
use Rattle.reader.specs.declared.Accepted.{Accepted}
use Rattle.reader.specs.Said.{said}
use Rattle.parts.specs.Said.{child_said, name_said}
use Rattle.parts.specs.Found.{child_steps, name_steps}
use Rattle.parts.proofs.Whole.{child-steps, name-steps}

module _ (s : List ℕ) (bytes : (i : ℕ) → get_or s i 0 < 256) (k : ℕ) where
  pub accepted-child : {a : Accepted} → Ok a ≡ said (reading s) → child_steps s k ≡ child_said (reading s) k
  accepted-child {a} =
      by-reading (λ s r. Ok a ≡ said r → child_steps s k ≡ child_said r k) s (bytes-by-index s bytes) (λ t w h _. child-steps t (omega (arith, h.short)) k) (λ n q h. cc)

  pub accepted-name : {a : Accepted} → Ok a ≡ said (reading s) → name_steps s k ≡ name_said (reading s) k
  accepted-name {a} =
      by-reading (λ s r. Ok a ≡ said r → name_steps s k ≡ name_said r k) s (bytes-by-index s bytes) (λ t w h _. name-steps t (omega (arith, h.short)) k) (λ n q h. cc)
