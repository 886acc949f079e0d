-- What the calls below say fits in 32 bits a number, and is what the exported calls say.
--     exported           of the reader
--     exported-child     of a child
--     exported-name      of a name
--     exported-sheet     of a sheet
--     exported-made      of fill, join, the writer and the way back
--     made-fits          that it fits, of these four
--     Given              an answer that fits, and is the one to be given
-- Assumes nothing.
use Prim.Native.Nat.{ℕ, ◌≤◌, ◌<◌}
use mathlib.Core.Path.{◌≡◌, refl}
use mathlib.Core.List.{List}
use native.Mathlib.Omega.{arith}
use lib.Dec.{ltb}
use lib.ListN.{length}
use borrow.Author.Tests.{ltb-true}
use Rattle.meaning.specs.Refusals.{sheet_broken, no_such_part}
use Rattle.meaning.specs.Shape.{Shape}
use Rattle.meaning.specs.Within.{Bytes, Within}
use Rattle.meaning.specs.Reading.{Reading, got, bad, has_short, reading}
use Rattle.meaning.specs.Sheet.{Sheet}
use Rattle.meaning.specs.SheetReading.{read_sheet}
use Rattle.meaning.specs.Answers as Meant
use Rattle.meaning.specs.Parts.{children, child_of, names}
use Rattle.meaning.proofs.Rules.{rule, both}
use Rattle.meaning.proofs.Laws.{encode-reading}
use Rattle.meaning.proofs.Faults.{refusal-small}
use Rattle.meaning.proofs.SheetBytes.{sheet-read, sheet-refusal}
use Rattle.meaning.proofs.Bounds.{farthest, Small, Told}
use Rattle.meaning.proofs.Parts.{children-few, names_few, child-inside, packed-number, name-inside}
use Rattle.std.specs.Prelude.{Err}
use Rattle.leaves.specs.Faults.{fault_of, refusal}
use Rattle.leaves.proofs.Faults.{number-fault, fault-small}
use Rattle.buffers.specs.Said.{made_said}
use Rattle.reader.specs.Said.{said}
use Rattle.parts.specs.Said.{told_child, child_said, name_said}
use Rattle.sheets.specs.Said.{checked}
use Rattle.answers.specs.declared.Answer.{Answer}
use Rattle.answers.specs.Answers.{refused, Fits, said_put, accepted_put, child_put, name_put, sound_put, written_put}
use Rattle.answers.specs.Calls.{read_answer, child_answered, child_answer, name_answer, sheet_answer, made_answer}

-- an answer that fits, and is the one to be given
pub record Given (a b : Answer) : Type 0 where
  pub fits : Fits a
  pub is : a ≡ b

-- An answer fits whose number is one of the paper's, and whose others are no larger than the largest place.
given : (a : Answer) → a.number ≤ no_such_part → a.place ≤ farthest → a.length ≤ farthest → a.extra ≤ farthest → Given a a
given a n p l e = record { fits = (omega arith, omega arith, omega arith, omega arith); is = refl }

-- So does a refusal.
given-refusal : (number place : ℕ) → number ≤ no_such_part → place ≤ farthest → Given (refused number place) (refused number place)
given-refusal number place n p = given (refused number place) n p (omega arith) (omega arith)

-- So does a refusal as the calls below have it, whose number is told as it is.
refusal-told : {A : Type 0} (put : A → Answer) (number place : ℕ) → 0 < number → number ≤ no_such_part → place ≤ farthest → Given (said_put put (Err (refusal number place))) (refused number place)
refusal-told put number place s n p = rw (number-fault number s n) (given-refusal number place n p)

-- What a call that writes says, told as it is, is what the exported call says.
pub exported-made : (a : Meant.Answer) → Told a → Given (said_put written_put (made_said a)) (made_answer a)
exported-made (Meant.answered w) h = given _ (omega arith) (omega arith) (omega arith) (omega arith)
exported-made (Meant.refused number place) h = refusal-told written_put number place h.0 h.1 h.2

-- What a call that writes says, small as it is, fits.
pub made-fits : (a : Meant.Answer) → Small a → Fits (said_put written_put (made_said a))
made-fits (Meant.answered w) h = (omega arith, omega arith, omega arith, omega arith)
made-fits (Meant.refused number place) h = (omega (arith, fault-small (fault_of number)), omega arith, omega arith, omega arith)

module _ (s : List ℕ) (bytes : Bytes s) where
  -- An input is a shape within the limits, or is refused with small numbers.
  by-reading : (P : Reading Shape → Type 0) → ((t : Shape) (left : List ℕ) → Within t → P (got t left)) → ((number place : ℕ) → 0 < number → number ≤ no_such_part → place ≤ farthest → P (bad number place)) → P (reading s)
  by-reading P h k = go (reading s) refl
    where
      go : (r : Reading Shape) → reading s ≡ r → P r
      go (got t left) p = h t left (encode-reading s t left bytes p).1
      go (bad number place) p = let f = refusal-small s number place p in k number place f.some (omega arith) (omega arith)

  -- What the reader says of it is what `shiulbart_read` says.
  pub exported : Given (said_put accepted_put (said (reading s))) (read_answer (reading s))
  exported = by-reading (λ r. Given (said_put accepted_put (said r)) (read_answer r)) (λ t left w. given _ (omega arith) (omega arith) (omega (arith, w.short)) (omega (arith, w.shallow))) (refusal-told accepted_put)

  -- What is said of its child k is what `shiulbart_child` says.
  pub exported-child : (k : ℕ) → Given (said_put child_put (child_said (reading s) k)) (child_answer (reading s) k)
  unfolding child_of
  exported-child k = by-reading (λ r. Given (said_put child_put (child_said r k)) (child_answer r k)) found (refusal-told child_put)
    where
      child : (t : Shape) → Within t → k < length (children t) → Given (child_put (told_child (child_of t k))) (child_answered (child_of t k))
      child t w h =
          rule (λ c. Given (child_put (told_child c)) (child_answered c)) (has_short t) _ _ (λ p. given _ (omega arith) (omega (arith, packed-number t k p h)) (omega arith) (omega arith)) λ p.
          let i = child-inside t k p h in
          given _ (omega arith) (omega (arith, w.short)) (omega (arith, w.short)) (omega arith)

      found : (t : Shape) (left : List ℕ) → Within t → Given (said_put child_put (child_said (got t left) k)) (child_answer (got t left) k)
      found t left w = both (λ a b. Given (said_put child_put a) b) (ltb k (length (children t))) _ _ _ _ (λ p. child t w (ltb-true _ _ p)) (λ _. refusal-told child_put _ _ (omega arith) (omega arith) (omega (arith, children-few t, w.short)))

  -- What is said of its name k is what `shiulbart_name` says.
  pub exported-name : (k : ℕ) → Given (said_put name_put (name_said (reading s) k)) (name_answer (reading s) k)
  exported-name k = by-reading (λ r. Given (said_put name_put (name_said r k)) (name_answer r k)) found (refusal-told name_put)
    where
      found : (t : Shape) (left : List ℕ) → Within t → Given (said_put name_put (name_said (got t left) k)) (name_answer (got t left) k)
      found t left w =
          both (λ a b. Given (said_put name_put a) b) (ltb k (length (names t))) _ _ _ _
          (λ p. let i = name-inside t k (ltb-true _ _ p) in given _ (omega arith) (omega (arith, w.short)) (omega (arith, w.short)) (omega arith))
          (λ _. refusal-told name_put _ _ (omega arith) (omega arith) (omega (arith, names_few t, w.short)))

  -- What is said of it as a sheet is what `shiulbart_sheet` says.
  pub exported-sheet : Given (said_put sound_put (checked (read_sheet sheet_broken s))) (sheet_answer (read_sheet sheet_broken s))
  exported-sheet = go (read_sheet sheet_broken s) refl
    where
      go : (r : Reading Sheet) → read_sheet sheet_broken s ≡ r → Given (said_put sound_put (checked r)) (sheet_answer r)
      go (got σ left) p = let w = (sheet-read sheet_broken s σ left bytes p).1 in given _ (omega arith) (omega arith) (omega (arith, w.short)) (omega (arith, w.few))
      go (bad number place) p = let f = sheet-refusal sheet_broken s number place p in refusal-told sound_put number place (omega (arith, f.0)) (omega (arith, f.0)) (omega arith)
