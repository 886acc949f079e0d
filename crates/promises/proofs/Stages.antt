-- The laws behind demand 3, over the calls, with lent buffers of any length and their refusals. The lent buffers hold b₁, b₂, .. before, and a₁, a₂, ..
-- after.
--     two-stages           filled by the workshop and then on site is filled once by the joined sheet
--     three-sheets         three sheets are joined to the same bytes, whichever two are joined first
--     other-pair-first, other-pair-last     where one pairing is answered, so is the other, given the room
--     empty-fills          the empty sheet changes no shape
--     empty-first, empty-second     the empty sheet changes no sheet
-- Assumes nothing.
use Prim.Native.Nat.{ℕ}
use mathlib.Core.Path.{◌≡◌, refl, sym, ◌∙◌, ap}
use mathlib.Core.List.{List, []}
use native.Mathlib.Nat.{le_refl}
use lib.ListN.{length, take}
use Rattle.meaning.specs.Numbered.{each}
use Rattle.meaning.specs.Sheet.{entries_bytes, encodings, sheet_bytes}
use Rattle.meaning.proofs.Answers.{fill-answered, join-answered, two-fills, other-pairing, first-pairing, three-joins, fill-by-empty, join-empty-first, join-empty-second}
use Rattle.std.specs.Prelude.{Ok}
use Rattle.reader.specs.Said.{accepted}
use Rattle.sheets.specs.Said.{sound}
use Rattle.promises.specs.Told.{empty_sheet}
use Rattle.promises.proofs.Calls.{Made, Read, Check, Fill, Join}
use Rattle.promises.proofs.Says.{MakesIn, join-says}
use Rattle.promises.proofs.Front.{front-is, fill-front-is, join-front-is, join-made, fill-makes-in, join-makes-in}
use Rattle.promises.proofs.Exact.{read-exact, check-exact}

-- Filled by the workshop and then on site is filled once by the joined sheet: where the two fills and the joining are answered, the one fill makes the
-- bytes of the second.
pub two-stages : {template workshop site b₁ a₁ b₂ a₂ b₃ a₃ b₄ a₄ : List ℕ} {n₁ n₂ n₃ : ℕ} {r : Made}
    → Fill template workshop b₁ (Ok n₁) a₁ → Fill (take n₁ a₁) site b₂ (Ok n₂) a₂ → Join workshop site b₃ (Ok n₃) a₃ → Fill template (take n₃ a₃) b₄ r a₄ → MakesIn (take n₂ a₂) b₄ r a₄
two-stages {template} {workshop} {site} c₁ c₂ c₃ c₄ =
    fill-makes-in (fill-answered template _ _ _ c₄.small.0 c₄.small.1 (two-fills template workshop site _ _ _ _ _ _ _ c₁.small.0 c₁.small.1 c₂.small.1 (fill-front-is c₁) (fill-front-is c₂) (join-front-is c₃) (le_refl _))) c₄

module _ {first second third b₁ a₁ b₂ a₂ b₃ a₃ b₄ a₄ : List ℕ} {n₁ n₂ n₃ : ℕ} where
  -- Three sheets are joined to the same bytes, whichever two are joined first.
  pub three-sheets : {n₄ : ℕ} → Join first second b₁ (Ok n₁) a₁ → Join (take n₁ a₁) third b₂ (Ok n₂) a₂ → Join second third b₃ (Ok n₃) a₃ → Join first (take n₃ a₃) b₄ (Ok n₄) a₄
      → (n₂ ≡ n₄) × (take n₂ a₂ ≡ take n₄ a₄)
  three-sheets {n₄} c₁ c₂ c₃ c₄ =
      let e = three-joins first second third _ _ _ _ _ _ (take n₂ a₂) (take n₄ a₄) c₁.small.0 c₁.small.1 c₂.small.1 (join-front-is c₁) (join-front-is c₂) (join-front-is c₃) (join-front-is c₄) in
      (sym (front-is _ b₂ (join-says c₂)).1 ∙ ap length e ∙ (front-is _ b₄ (join-says c₄)).1, e)

  -- Where the first two are joined first, and the last two are joined, the first joined with those makes the same bytes.
  pub other-pair-first : {r : Made} → Join first second b₁ (Ok n₁) a₁ → Join (take n₁ a₁) third b₂ (Ok n₂) a₂ → Join second third b₃ (Ok n₃) a₃ → Join first (take n₃ a₃) b₄ r a₄
      → MakesIn (take n₂ a₂) b₄ r a₄
  other-pair-first c₁ c₂ c₃ c₄ =
      join-makes-in (join-answered first _ _ _ c₄.small.0 c₄.small.1 (other-pairing first second third _ _ _ _ _ _ _ c₁.small.0 c₁.small.1 c₂.small.1 (join-front-is c₁) (join-front-is c₂) (join-front-is c₃) (le_refl _))) c₄

  -- Where the last two are joined first, and the first two are joined, those joined with the third make the same bytes.
  pub other-pair-last : {r : Made} → Join second third b₁ (Ok n₁) a₁ → Join first (take n₁ a₁) b₂ (Ok n₂) a₂ → Join first second b₃ (Ok n₃) a₃ → Join (take n₃ a₃) third b₄ r a₄
      → MakesIn (take n₂ a₂) b₄ r a₄
  other-pair-last c₁ c₂ c₃ = join-makes-in (first-pairing (join-made c₃) (join-made c₁) (join-made c₂))

empty-bytes : sheet_bytes [] ≡ empty_sheet
unfolding sheet_bytes entries_bytes encodings each
empty-bytes = refl

module _ {before after : List ℕ} {r : Made} where
  -- The empty sheet changes no shape: of an accepted encoding a fill with it makes its own bytes.
  pub empty-fills : {bytes : List ℕ} {l d : ℕ} → Read bytes (Ok (accepted l d)) → Fill bytes empty_sheet before r after → MakesIn bytes before r after
  empty-fills {bytes} {l} {d} c f =
      let s = (read-exact c l d).0 refl in
      fill-makes-in (fill-answered bytes empty_sheet (length bytes) bytes f.small.0 f.small.1 (rw (s.1.encoded, ← empty-bytes) (fill-by-empty s.0 _ s.1.within (le_refl _)))) f

  -- The empty sheet changes no sheet as the first: joined with a sound sheet it makes that sheet's own bytes.
  pub empty-first : {sheet : List ℕ} {e l : ℕ} → Check sheet (Ok (sound e l)) → Join empty_sheet sheet before r after → MakesIn sheet before r after
  empty-first {sheet} {e} {l} c f =
      let s = (check-exact c e l).0 refl in
      join-makes-in (join-answered empty_sheet sheet (length sheet) sheet f.small.0 f.small.1 (rw (s.1.encoded, ← empty-bytes) (join-empty-first s.0 _ s.1.within (le_refl _)))) f

  -- Nor does it as the second.
  pub empty-second : {sheet : List ℕ} {e l : ℕ} → Check sheet (Ok (sound e l)) → Join sheet empty_sheet before r after → MakesIn sheet before r after
  empty-second {sheet} {e} {l} c f =
      let s = (check-exact c e l).0 refl in
      join-makes-in (join-answered sheet empty_sheet (length sheet) sheet f.small.0 f.small.1 (rw (s.1.encoded, ← empty-bytes) (join-empty-second s.0 _ s.1.within (le_refl _)))) f
