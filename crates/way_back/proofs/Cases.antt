-- What the way back answers, case by case, from what the code finds out.
--     Found, found                 an input that the reader accepts is the encoding of a shape within the limits
--     found-few, found-short       what the shape adds is few, and its bytes are
--     unread-said, unread-buffer   an input that the reader refuses
--     answer-short, answer-made    of an accepted one, without and with room for the table
--     sections-fit                 which its sections then have
-- Assumes nothing.
use Prim.Native.Nat.{ℕ, ◌≤◌, ◌<◌}
use mathlib.Core.Path.{◌≡◌, refl, sym, ◌∙◌, ap}
use mathlib.Core.List.{List}
use native.Mathlib.Omega.{arith}
use lib.ListN.{length, get_or}
use Rattle.meaning.specs.Limits.{max_levels}
use Rattle.meaning.specs.Refusals.{buffer_short}
use Rattle.meaning.specs.Shape.{Shape}
use Rattle.meaning.specs.Encode.{encode}
use Rattle.meaning.specs.Within.{Within}
use Rattle.meaning.specs.Reading.{Reading, got, bad, reading}
use Rattle.meaning.specs.Table.{table_bytes, table_of}
use Rattle.meaning.specs.Answers.{answered, refused, onto, table_answer, buffer_after}
use Rattle.meaning.proofs.Window.{bytes-by-index}
use Rattle.meaning.proofs.Laws.{by-reading}
use Rattle.meaning.proofs.TableAnswers.{table-answers, table-short}
use Rattle.std.specs.Prelude.{Result, Ok, Err}
use Rattle.leaves.specs.Faults.{refusal}
use Rattle.leaves.specs.declared.refusals.Refusal.{Refusal}
use Rattle.buffers.specs.Said.{made_said}
use Rattle.reader.specs.declared.Accepted.{Accepted}
use Rattle.reader.specs.Said.{said}
use Rattle.steps.specs.Pass.{came, pass_shape}
use Rattle.steps.proofs.Passed.{pass-whole}
use Rattle.counts.specs.declared.Counts.{Counts}
use Rattle.counts.specs.Pieces.{Few, pieces, table_size, sections}
use Rattle.counts.proofs.OfShapes.{piece_of}
use Rattle.counts.proofs.Making.{pieces-making}
use Rattle.counts.proofs.Grown.{table-sections, table-needs, table-few}

-- an input that is the encoding of a shape within the limits
pub record Found (s : List ℕ) : Type 0 where
  pub t : Shape
  pub is : s ≡ encode t
  pub within : Within t

-- What the reader accepts is one.
pub found : (s : List ℕ) → ((i : ℕ) → get_or s i 0 < 256) → (a : Accepted) → said (reading s) ≡ Ok a → Found s
found s b a =
    by-reading (λ s r. said r ≡ Ok a → Found s) s (bytes-by-index s b)
    (λ t w i h. record { t = t; is = refl; within = i })
    (λ n q h. let z : ◌≡◌ {A = ℕ} 0 1 = cc in absurd (omega arith))

module _ (s : List ℕ) (room : ℕ) where
  -- The answer to a reading that is refused: the refusal,
  unread : (r : Reading Shape) → reading s ≡ r → (e : Refusal) → said r ≡ Err e → (n : ℕ) × (p : ℕ) × (table_answer s room ≡ refused n p) × (◌≡◌ {A = Result ℕ Refusal} (Err e) (Err (refusal n p)))
  unfolding table_answer onto
  unread (got t w) h e q = let z : ◌≡◌ {A = ℕ} 0 1 = cc in absurd (omega arith)
  unread (bad n p) h e q = (n, p, rw h, cc)

  -- What the reader refuses is refused so,
  pub unread-said : (e : Refusal) → said (reading s) ≡ Err e → ◌≡◌ {A = Result ℕ Refusal} (Err e) (made_said (table_answer s room))
  unread-said e q = let u = unread (reading s) refl e q in rw u.2 u.3

  -- and nothing is written.
  pub unread-buffer : (out : List ℕ) (e : Refusal) → said (reading s) ≡ Err e → out ≡ buffer_after out (table_answer s room)
  unfolding buffer_after
  unread-buffer out e q = let u = unread (reading s) refl e q in rw u.2

module _ (s : List ℕ) (f : Found s) where
  -- The pass makes of it what its shape adds.
  passed : pass_shape pieces max_levels s 0 ≡ came (length s) (piece_of f.t)
  passed = rw f.is (pass-whole pieces-making f.t f.within)

  -- That is few,
  pub found-few : Few (pass_shape pieces max_levels s 0).made.counts
  found-few = rw passed (table-few f.t f.within)

  -- and so are its bytes.
  pub found-short : length s < 65536
  found-short = let h = f.within.short in rw f.is (omega arith)

  -- its bytes are few enough for the length of a name
  abbrev bound : length (encode f.t) ≤ 16384
  bound = omega (arith, f.within.short)

  -- The sections are the bytes of the table.
  sections-are : sections (pass_shape pieces max_levels s 0).made ≡ table_bytes (table_of f.t)
  sections-are = rw passed (sym (table-sections f.t bound))

  module _ (c : Counts) (is : c ≡ (pass_shape pieces max_levels s 0).made.counts) (room : ℕ) where
    -- It is the table's.
    needed : table_size c ≡ length (table_bytes (table_of f.t))
    needed = rw (is, passed) (sym (table-needs f.t bound))

    -- Without the room, 12 has it;
    pub answer-short : room < table_size c → table_answer s room ≡ refused buffer_short (table_size c)
    answer-short h =
        ap (λ (w : List ℕ). table_answer w room) f.is
        ∙ table-short f.t room f.within (omega (arith, needed))
        ∙ ap (refused buffer_short) (sym needed)

    module _ (h : table_size c ≤ room) where
      -- else the sections have it,
      pub sections-fit : length (sections (pass_shape pieces max_levels s 0).made) ≤ room
      sections-fit = let e = ap length sections-are in omega (arith, e, needed)

      -- and are the answer.
      pub answer-made : table_answer s room ≡ answered (sections (pass_shape pieces max_levels s 0).made)
      answer-made =
          ap (λ (w : List ℕ). table_answer w room) f.is
          ∙ table-answers f.t room f.within (omega (arith, needed))
          ∙ ap answered (sym sections-are)
