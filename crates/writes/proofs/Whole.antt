-- From an accepted template to the pass over its bytes.
--     whole_room      where there is room for the filled template, there is for what the pass makes
--     whole-wrote     where what the pass makes is written, the filled template is
-- Assumes nothing.
use mathlib.Core.List.{List}
use Prim.Native.Nat.{ℕ, ◌<◌}
use native.Mathlib.Omega.{arith}
use lib.ListN.{get_or}
use Rattle.meaning.specs.Limits.{max_levels}
use Rattle.meaning.specs.Shape.{Shape}
use Rattle.meaning.specs.Reading.{reading}
use Rattle.meaning.proofs.Window.{bytes-by-index}
use Rattle.meaning.proofs.Laws.{by-reading}
use Rattle.steps.specs.Pass.{pass_shape}
use Rattle.steps.proofs.Passed.{pass-whole}
use Rattle.writes.specs.Writes.{writes, Fits, Wrote, RoomFor, WroteFor}
use Rattle.writes.specs.declared.Places.{Places}
use Rattle.writes.proofs.Making.{writes-making}

module _ (σ : ℕ → Shape) (s : List ℕ) (bytes : (i : ℕ) → get_or s i 0 < 256) where
  -- The room that is asked for is room for what the pass makes.
  pub whole_room : (room to : ℕ) → RoomFor σ room to (reading s) → Fits room to (pass_shape (writes σ) max_levels s 0)
  whole_room room to =
      by-reading (λ s r. RoomFor σ room to r → Fits room to (pass_shape (writes σ) max_levels s 0)) s (bytes-by-index s bytes)
      (λ t w i h. rw (pass-whole (writes-making σ) t i) (h.0, omega (arith, h.1)))
      (λ n q h. absurd h)

  -- What the pass makes is what is to be written.
  pub whole-wrote : (d e : List ℕ) (to : ℕ) (p : Places) → Wrote d e to p (pass_shape (writes σ) max_levels s 0) → WroteFor σ d e to p.to (reading s)
  whole-wrote d e to p =
      by-reading (λ s r. Wrote d e to p (pass_shape (writes σ) max_levels s 0) → WroteFor σ d e to p.to r) s (bytes-by-index s bytes)
      (λ t w i h. let g = rw (pass-whole (writes-making σ) t i) at h in (g.to_is, g.wrote))
      (λ n q h. tt)
