-- Lists of numbered items, kept by rising number. 01-scope.md, "Sheets": the entries of a sheet have "numbers strictly rising".
use Rattle.std.specs.Prelude.{ℕ, suc, ◌≤◌, List, [], ◌∷◌, ltb, eqb}
use Rattle.std.proofs.Math.Option.{Option, none, some}
use Rattle.meaning.specs.Rules.{◌⇒◌∣◌}

-- an item with its number
pub record Numbered (A : Type 0) : Type 0 where
  pub number : ℕ
  pub item : A

module _ {A : Type 0} where
  -- the numbers rise strictly, and none is below n
  unfoldable pub RisingFrom : ℕ → List (Numbered A) → Type 0
  RisingFrom n [] = Unit {0}
  RisingFrom n (e ∷ es) = (n ≤ e.number) × RisingFrom (suc e.number) es

  -- "numbers strictly rising"
  abbrev pub Rising : List (Numbered A) → Type 0
  Rising = RisingFrom 0

  -- P holds of each
  unfoldable pub All : (Numbered A → Type 0) → List (Numbered A) → Type 0
  All P [] = Unit {0}
  All P (e ∷ es) = P e × All P es

  -- the item of the number n, if there is one
  unfoldable pub find : List (Numbered A) → ℕ → Option A
  find [] n = none
  find (e ∷ es) n =
      eqb n e.number ⇒ some e.item ∣ λ _.
      find es n

  -- d put in its place by its number, or in the place of the item of the same number
  unfoldable pub put : Numbered A → List (Numbered A) → List (Numbered A)
  put d [] = d ∷ []
  put d (e ∷ es) =
      ltb d.number e.number ⇒ d ∷ e ∷ es ∣ λ _.
      eqb d.number e.number ⇒ d ∷ es ∣ λ _.
      e ∷ put d es

  -- the first list laid over the second: all items of the first, and those of the second whose numbers are only there
  unfoldable pub over : List (Numbered A) → List (Numbered A) → List (Numbered A)
  over [] es = es
  over (d ∷ ds) es = put d (over ds es)

-- each item changed by f, under the same number
unfoldable pub each : {A B : Type 0} → (A → B) → List (Numbered A) → List (Numbered B)
each f [] = []
each f (e ∷ es) = record { number = e.number; item = f e.item } ∷ each f es
