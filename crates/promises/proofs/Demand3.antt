-- Demand 3, over the exported calls: "When the first fill, the second fill and the join are all answered, one fill with the joined sheet, given room
-- enough, is answered with the very bytes of the second fill. Joining three sheets gives the same bytes however they are paired, whenever all four
-- joinings are answered. The empty sheet, given room enough, changes no shape and no sheet." The lent buffers hold b₁, b₂, .. before, and a₁, a₂, ..
-- after.
--     board-two-stages           filled by the workshop and then on site is filled once by the joined sheet; without the room, 12 has the length of
--                                those very bytes
--     board-three-sheets         three sheets are joined to the same bytes, whichever two are joined first
--     board-other-pair-first, board-other-pair-last     where one pairing is answered, so is the other, given room enough
--     board-empty-fills          the empty sheet changes no shape
--     board-empty-first, board-empty-second     the empty sheet changes no sheet
-- Assumes nothing.
use Prim.Native.Nat.{ℕ}
use mathlib.Core.Path.{◌≡◌, sym, ◌∙◌, ap}
use mathlib.Core.List.{List}
use lib.ListN.{take}
use Rattle.answers.specs.declared.Answer.{Answer}
use Rattle.promises.specs.Told.{empty_sheet, Answered, wrote, Makes}
use Rattle.promises.proofs.Calls.{BoardRead, BoardSheet, BoardFill, BoardJoin}
use Rattle.promises.proofs.Stages.{two-stages, three-sheets, other-pair-first, other-pair-last, empty-fills, empty-first, empty-second}
use Rattle.promises.proofs.Below.{fill-below, join-below, read-accepted, sheet-sound, fill-wrote, join-wrote, makes}

module _ {b₁ a₁ b₂ a₂ b₃ a₃ b₄ a₄ : List ℕ} {r₁ r₂ r₃ r₄ : Answer} where
  -- Filled by the workshop and then on site is filled once by the joined sheet: where the two fills and the joining are answered, the one fill makes
  -- the very bytes of the second.
  pub board-two-stages : {template workshop site : List ℕ}
      → BoardFill template workshop b₁ r₁ a₁ → Answered r₁
      → BoardFill (take r₁.length a₁) site b₂ r₂ a₂ → Answered r₂
      → BoardJoin workshop site b₃ r₃ a₃ → Answered r₃
      → BoardFill template (take r₃.length a₃) b₄ r₄ a₄ → Makes (take r₂.length a₂) b₄ r₄ a₄
  board-two-stages c₁ z₁ c₂ z₂ c₃ z₃ c₄ = let b = fill-below c₄ in makes b (two-stages (fill-wrote z₁ c₁).0 (fill-wrote z₂ c₂).0 (join-wrote z₃ c₃).0 b.run)

  module _ {first second third : List ℕ} where
    -- Three sheets are joined to the same bytes, whichever two are joined first.
    pub board-three-sheets : BoardJoin first second b₁ r₁ a₁ → Answered r₁
        → BoardJoin (take r₁.length a₁) third b₂ r₂ a₂ → Answered r₂
        → BoardJoin second third b₃ r₃ a₃ → Answered r₃
        → BoardJoin first (take r₃.length a₃) b₄ r₄ a₄ → Answered r₄ → (r₂ ≡ r₄) × (take r₂.length a₂ ≡ take r₄.length a₄)
    board-three-sheets c₁ z₁ c₂ z₂ c₃ z₃ c₄ z₄ =
        let w₂ = join-wrote z₂ c₂ in let w₄ = join-wrote z₄ c₄ in
        let e = three-sheets (join-wrote z₁ c₁).0 w₂.0 (join-wrote z₃ c₃).0 w₄.0 in
        (w₂.1 ∙ ap wrote e.0 ∙ sym w₄.1, e.1)

    -- Where the first two are joined first, and the last two are joined, the first joined with those makes the same bytes.
    pub board-other-pair-first : BoardJoin first second b₁ r₁ a₁ → Answered r₁
        → BoardJoin (take r₁.length a₁) third b₂ r₂ a₂ → Answered r₂
        → BoardJoin second third b₃ r₃ a₃ → Answered r₃
        → BoardJoin first (take r₃.length a₃) b₄ r₄ a₄ → Makes (take r₂.length a₂) b₄ r₄ a₄
    board-other-pair-first c₁ z₁ c₂ z₂ c₃ z₃ c₄ = let b = join-below c₄ in makes b (other-pair-first (join-wrote z₁ c₁).0 (join-wrote z₂ c₂).0 (join-wrote z₃ c₃).0 b.run)

    -- Where the last two are joined first, and the first two are joined, those joined with the third make the same bytes.
    pub board-other-pair-last : BoardJoin second third b₁ r₁ a₁ → Answered r₁
        → BoardJoin first (take r₁.length a₁) b₂ r₂ a₂ → Answered r₂
        → BoardJoin first second b₃ r₃ a₃ → Answered r₃
        → BoardJoin (take r₃.length a₃) third b₄ r₄ a₄ → Makes (take r₂.length a₂) b₄ r₄ a₄
    board-other-pair-last c₁ z₁ c₂ z₂ c₃ z₃ c₄ = let b = join-below c₄ in makes b (other-pair-last (join-wrote z₁ c₁).0 (join-wrote z₂ c₂).0 (join-wrote z₃ c₃).0 b.run)

module _ {before after : List ℕ} {r r' : Answer} where
  -- The empty sheet changes no shape: filled with it, an accepted encoding is made again.
  pub board-empty-fills : {bytes : List ℕ} → BoardRead bytes r → Answered r → BoardFill bytes empty_sheet before r' after → Makes bytes before r' after
  board-empty-fills c z f = let b = fill-below f in makes b (empty-fills (read-accepted z c) b.run)

  -- It changes no sheet, as the first or as the second: joined with it, a sound sheet is made again.
  pub board-empty-first : {sheet : List ℕ} → BoardSheet sheet r → Answered r → BoardJoin empty_sheet sheet before r' after → Makes sheet before r' after
  board-empty-first c z f = let b = join-below f in makes b (empty-first (sheet-sound z c) b.run)

  pub board-empty-second : {sheet : List ℕ} → BoardSheet sheet r → Answered r → BoardJoin sheet empty_sheet before r' after → Makes sheet before r' after
  board-empty-second c z f = let b = join-below f in makes b (empty-second (sheet-sound z c) b.run)
