-- What a fill answers, case by case, from what the code finds out.
--     short               an accepted template is no longer than an encoding may be
--     unread              a template that the reader refuses
--     broken              a sheet that the check refuses
--     found, answer-is    an accepted template and sheet: the shape, and that the size that was measured is that of the shape, filled
--     filled-comes        the verdict on the size is that on the filled shape
--     unfit               a filled shape that is refused
-- Assumes nothing.
use Prim.Native.Nat.{ℕ, ◌≤◌, ◌<◌}
use mathlib.Core.Path.{◌≡◌, refl, ap}
use mathlib.Core.List.{List}
use lib.ListN.{length, get_or}
use Rattle.std.specs.Prelude.{Result, Ok, Err}
use Rattle.meaning.specs.Limits.{max_bytes}
use Rattle.meaning.specs.Refusals.{sheet_broken}
use Rattle.meaning.specs.Shape.{Shape}
use Rattle.meaning.specs.Encode.{encode}
use Rattle.meaning.specs.Reading.{Reading, got, bad, reading}
use Rattle.meaning.specs.Sheet.{plug}
use Rattle.meaning.specs.SheetReading.{read_sheet}
use Rattle.meaning.specs.Answers.{Answer, onto, in_room, made, fill_answer, buffer_after}
use Rattle.meaning.proofs.Window.{bytes-by-index}
use Rattle.meaning.proofs.Laws.{by-reading}
use Rattle.leaves.specs.Faults.{fault_at, refusal}
use Rattle.leaves.specs.declared.refusals.Fault.{Fault}
use Rattle.leaves.specs.declared.refusals.Fault.TheVariants.{SheetBroken}
use Rattle.leaves.specs.declared.refusals.Refusal.{Refusal}
use Rattle.leaves.proofs.Faults.{fault-number}
use Rattle.buffers.specs.Said.{made_said}
use Rattle.buffers.specs.Verdicts.{verdict_of}
use Rattle.buffers.proofs.Verdicts.{Comes, comes}
use Rattle.reader.specs.Said.{said}
use Rattle.reader.specs.declared.Accepted.{Accepted}
use Rattle.sheets.specs.Index.{blank_in, Ready}
use Rattle.sheets.specs.declared.Slot.{Slot}
use Rattle.sheets.proofs.Places.{ready-accepted}
use Rattle.sizes.specs.declared.Size.{Size}
use Rattle.sizes.specs.Sizes.{size_of, MeasureIs}

-- the reader accepts a template
abbrev pub IsAccepted : Reading Shape → Type 0
IsAccepted r = (a : Accepted) × (Ok a ≡ said r)

-- An accepted template is no longer than an encoding may be.
pub short : (s : List ℕ) → ((i : ℕ) → get_or s i 0 < 256) → IsAccepted (reading s) → length s ≤ max_bytes
short s b = by-reading (λ s r. IsAccepted r → length s ≤ max_bytes) s (bytes-by-index s b) (λ t w h _. h.short) (λ n q h. absurd (cc h.1))

-- an answer is a refusal, and leaves the buffer as it is
pub record Refuses (e : Refusal) (d : List ℕ) (a : Answer) : Type 0 where
  pub is : Err e ≡ made_said a
  pub buffer : d ≡ buffer_after d a

-- A template that the reader refuses is refused so, whatever the sheet is.
pub unread : (template sheet d : List ℕ) (room : ℕ) (e : Refusal) → Err e ≡ said (reading template) → Refuses e d (fill_answer template sheet room)
unfolding fill_answer onto buffer_after
unread template sheet d room e = go (reading template) refl
  where
    go : (r : Reading Shape) → reading template ≡ r → Err e ≡ said r → Refuses e d (fill_answer template sheet room)
    go (got t w) k h = absurd (cc)
    go (bad m q) k h = let z : e ≡ refusal m q = cc in rw k (record { is = ap Err z; buffer = refl })

-- A sheet that the check refuses is refused with 13, after an accepted template.
pub broken : (template sheet d : List ℕ) (room : ℕ) (e : Refusal) → IsAccepted (reading template) → e.fault ≡ SheetBroken
    → read_sheet sheet_broken sheet ≡ bad sheet_broken e.place → Refuses e d (fill_answer template sheet room)
unfolding fill_answer onto buffer_after
broken template sheet d room e a f b = go (reading template) refl a.1
  where
    go : (r : Reading Shape) → reading template ≡ r → Ok a.0 ≡ said r → Refuses e d (fill_answer template sheet room)
    go (got t w) k h = rw (k, b) (record { is = ap (λ (g : Fault). Err (fault_at g e.place)) f; buffer = refl })
    go (bad m q) k h = absurd (cc)

-- an accepted template, the shape that it is, and that the size is the shape's, filled
pub record Found (template sheet : List ℕ) (r : Size) : Type 0 where
  pub t : Shape
  pub left : List ℕ
  pub is : reading template ≡ got t left
  pub size : r ≡ size_of (plug (blank_in sheet) t)

pub found : (template sheet : List ℕ) (r : Size) → IsAccepted (reading template) → MeasureIs (blank_in sheet) (reading template) r → Found template sheet r
found template sheet r a = go (reading template) refl a.1
  where
    go : (q : Reading Shape) → reading template ≡ q → Ok a.0 ≡ said q → MeasureIs (blank_in sheet) q r → Found template sheet r
    go (got t w) e h m = record { t = t; left = w; is = e; size = m }
    go (bad n p) e h m = absurd (cc)

module _ {template sheet : List ℕ} {slots : List Slot} {r : Size} (room : ℕ) (ready : Ready sheet slots) (f : Found template sheet r) where
  -- the filled shape, which the size is of
  abbrev filled : Shape
  filled = plug (blank_in sheet) f.t

  -- What is left to be looked at: the filled shape and the room.
  pub answer-is : fill_answer template sheet room ≡ made 0 filled (in_room room (encode filled))
  unfolding fill_answer onto
  answer-is = rw (f.is, ready-accepted ready)

  -- The verdict on the size is that on the filled shape.
  pub filled-comes : {v : Result ℕ Refusal} → v ≡ verdict_of r.length r.depth room → Comes filled room v
  filled-comes e = comes filled r.length r.depth room (rw f.size refl) (rw f.size refl) e

  -- A filled shape that is refused is refused so.
  pub unfit : (d : List ℕ) (e : Refusal) → Err e ≡ verdict_of r.length r.depth room → Refuses e d (fill_answer template sheet room)
  unfolding buffer_after
  unfit d e h = rw (answer-is, filled-comes h) (record { is = rw (fault-number e.fault); buffer = refl })
