-- What join answers, given how many entries the joined sheet has and how they measure.
--     join-first-broken, join-second-broken     a sheet that the check refuses
--     measured-fits     entries that measure as fitting fit, and so many are their bytes
--     join-many, join-made-large, join-large, join-short     each refusal
--     join_written      the answer
-- Assumes nothing.
use Prim.Native.Nat.{ℕ, ◌+◌, ◌≤◌, ◌<◌}
use mathlib.Core.Path.{◌≡◌, refl, sym, ◌∙◌, ap}
use mathlib.Core.List.{List, [], ◌∷◌}
use native.Mathlib.Nat.{zero-add}
use native.Mathlib.Omega.{arith}
use lib.Dec.{ltb}
use lib.ListN.{length, length-append}
use borrow.Author.Tests.{le-ltb, lt-ltb, ltb-false}
use Rattle.std.specs.Prelude.{Result, Ok, Err}
use Rattle.leaves.specs.Faults.{number_of, refusal}
use Rattle.leaves.specs.declared.refusals.Fault.TheVariants.{SheetBroken, SecondBroken}
use Rattle.leaves.specs.declared.refusals.Refusal.{Refusal}
use Rattle.leaves.proofs.Faults.{fault-number}
use Rattle.buffers.specs.Said.{made_said}
use Rattle.buffers.specs.Written.{written}
use Rattle.meaning.specs.Rules.{◌⇒◌∣◌}
use Rattle.meaning.specs.Limits.{max_bytes, max_levels, max_entries, max_encodings}
use Rattle.meaning.specs.Refusals.{buffer_short, sheet_broken, second_broken, joined_too_large}
use Rattle.meaning.specs.Shape.{depth}
use Rattle.meaning.specs.Encode.{encode}
use Rattle.meaning.specs.Reading.{got, bad}
use Rattle.meaning.specs.Numbered.{All}
use Rattle.meaning.specs.Sheet.{Sheet, join, encodings, sheet_bytes}
use Rattle.meaning.specs.SheetReading.{count_size, read_sheet}
use Rattle.meaning.specs.Answers.{Answer, answered, refused, onto, in_room, made, all_made, made_sheet, join_answer, buffer_after}
use Rattle.meaning.proofs.Window.{bytes-by-index}
use Rattle.meaning.proofs.Rules.{rule, both}
use Rattle.meaning.proofs.SheetBytes.{read-sheet, sheet-read, sheet-length}
use Rattle.sheets.specs.declared.Slot.{Slot}
use Rattle.sheets.specs.Steps.{entry_place}
use Rattle.sheets.specs.Index.{sheet_in, Ready}
use Rattle.sheets.proofs.Places.{ready-accepted, ready-within}
use Rattle.merges.specs.Merge.{Fitting, measured_all}

-- what is answered where entries measure so, and a is the answer if all fit
abbrev measured_answer : Result ℕ Refusal → Answer → Answer
measured_answer (Ok bytes) a = a
measured_answer (Err r) a = refused (number_of r.fault) r.place

-- The rules for made shapes go by how they measure.
all-measured : (σ : Sheet) (bytes : ℕ) (a : Answer) → all_made σ a ≡ measured_answer (measured_all σ bytes) a
unfolding all_made made measured_all
all-measured [] bytes a = refl
all-measured (e ∷ es) bytes a =
    both (λ x m. x ≡ measured_answer m a) (ltb max_levels (depth e.item)) _ _ _ _ (λ _. refl) λ _.
    both (λ x m. x ≡ measured_answer m a) (ltb max_bytes (length (encode e.item))) _ _ _ _ (λ _. refl) λ _.
    all-measured es (bytes + length (encode e.item)) a

-- Entries that are refused do not fit.
not-ok : {r : Refusal} {bytes : ℕ} → ◌≡◌ {A = Result ℕ Refusal} (Err r) (Ok bytes) → ⊥
not-ok h = cc

-- Entries that measure as fitting fit, and their bytes and those before are so many.
pub measured-fits : (σ : Sheet) (before bytes : ℕ) → measured_all σ before ≡ Ok bytes → (bytes ≡ before + length (encodings σ)) × Fitting σ
unfolding measured_all encodings All
measured-fits [] before bytes = λ h. let z : before ≡ bytes = cc in (omega (arith, z), tt)
measured-fits (e ∷ es) before bytes =
    rule (λ m. m ≡ Ok bytes → (bytes ≡ before + length (encodings (e ∷ es))) × Fitting (e ∷ es)) (ltb max_levels (depth e.item)) _ _ (λ _ h. absurd (not-ok h)) λ p.
    rule (λ m. m ≡ Ok bytes → (bytes ≡ before + length (encodings (e ∷ es))) × Fitting (e ∷ es)) (ltb max_bytes (length (encode e.item))) _ _ (λ _ h. absurd (not-ok h)) λ q h.
    let r = measured-fits es (before + length (encode e.item)) bytes h in
    (omega (arith, r.0, length-append (encode e.item) (encodings es)), ((ltb-false _ _ p, ltb-false _ _ q), r.1))

-- what join says and leaves in the buffer for an answer
abbrev Said : List ℕ → Answer → Result ℕ Refusal → List ℕ → Type 0
Said buffer a m after = (m ≡ made_said a) × (after ≡ buffer_after buffer a)

-- A refusal is said, and leaves the buffer.
refuses : (buffer : List ℕ) {a : Answer} {r : Refusal} → a ≡ refused (number_of r.fault) r.place → Said buffer a (Err r) buffer
unfolding buffer_after
refuses buffer {r = r} e = rw (e, fault-number r.fault) (refl, refl)

module _ {s t : List ℕ} {slots other : List Slot} (r : Ready s slots) (q : Ready t other) where
  -- the joined sheet
  abbrev joined : Sheet
  joined = join (sheet_in s) (sheet_in t)

  -- An accepted sheet is read the same whatever number breaks it.
  second-read : read_sheet second_broken t ≡ got (sheet_in t) []
  second-read = ap (read_sheet second_broken) (sheet-read sheet_broken t (sheet_in t) [] (bytes-by-index t q.small) (ready-accepted q)).0 ∙ read-sheet second_broken (sheet_in t) (ready-within q)

  -- What is answered is what the joined sheet makes.
  join-made : (room : ℕ) → join_answer s t room ≡ made_sheet room joined
  unfolding join_answer onto
  join-made room = rw (ready-accepted r, second-read)

  -- the answer where all entries fit
  abbrev when_fits : ℕ → Answer
  when_fits room =
      ltb max_encodings (length (encodings joined)) ⇒ refused joined_too_large (length (encodings joined)) ∣ λ _.
      in_room room (sheet_bytes joined)

  -- Where the entries are not too many, their measure decides.
  join-measured : (room : ℕ) → length joined ≤ max_entries → join_answer s t room ≡ measured_answer (measured_all joined 0) (when_fits room)
  unfolding made_sheet
  join-measured room h = join-made room ∙ rw (le-ltb max_entries (length joined) h) (all-measured joined 0 (when_fits room))

  module _ (buffer : List ℕ) {count : ℕ} (n : count ≡ length joined) where
    -- Too many entries are refused with how many they are.
    pub join-many : max_entries < count → Said buffer (join_answer s t (length buffer)) (Err (refusal joined_too_large count)) buffer
    unfolding made_sheet
    join-many h = refuses buffer (join-made (length buffer) ∙ rw (← n, lt-ltb max_entries count h))

    -- A shape too deep or too long is refused with its blank.
    pub join-made-large : {m : Refusal} → count ≤ max_entries → Err m ≡ measured_all joined 0 → Said buffer (join_answer s t (length buffer)) (Err m) buffer
    join-made-large h m = refuses buffer (join-measured (length buffer) (rw n at h) ∙ rw (sym m))

    module _ {bytes : ℕ} (h : count ≤ max_entries) (m : Ok bytes ≡ measured_all joined 0) where
      -- So many are their bytes.
      join-bytes : bytes ≡ length (encodings joined)
      join-bytes = omega (arith, (measured-fits joined 0 bytes (sym m)).0)

      -- So long is the sheet.
      join-length : length (sheet_bytes joined) ≡ entry_place count + count_size + bytes
      join-length = omega (arith, sheet-length joined, join-bytes)

      -- Entries that all fit leave the rules for all together.
      join-fitting : (room : ℕ) → join_answer s t room ≡ when_fits room
      join-fitting room = join-measured room (rw n at h) ∙ rw (sym m)

      -- Too many bytes are refused with how many they are.
      pub join-large : max_encodings < bytes → Said buffer (join_answer s t (length buffer)) (Err (refusal joined_too_large bytes)) buffer
      join-large l = refuses buffer (join-fitting (length buffer) ∙ rw (← join-bytes, lt-ltb max_encodings bytes l))

      -- A short buffer is refused with the length needed.
      pub join-short : bytes ≤ max_encodings → length buffer < entry_place count + count_size + bytes → Said buffer (join_answer s t (length buffer)) (Err (refusal buffer_short (entry_place count + count_size + bytes))) buffer
      unfolding in_room
      join-short l k = refuses buffer (join-fitting (length buffer) ∙ rw (← join-bytes, le-ltb max_encodings bytes l, join-length, lt-ltb (length buffer) (entry_place count + count_size + bytes) k))

      -- Else the sheet is the answer.
      join-answered : bytes ≤ max_encodings → entry_place count + count_size + bytes ≤ length buffer → join_answer s t (length buffer) ≡ answered (sheet_bytes joined)
      unfolding in_room
      join-answered l k = join-fitting (length buffer) ∙ rw (← join-bytes, le-ltb max_encodings bytes l, join-length, le-ltb (length buffer) (entry_place count + count_size + bytes) k)

      -- Written at the front of the buffer, it is what the buffer is to hold.
      pub join_written : {after : List ℕ} → bytes ≤ max_encodings → entry_place count + count_size + bytes ≤ length buffer → after ≡ written buffer 0 (sheet_bytes joined)
          → Said buffer (join_answer s t (length buffer)) (Ok (entry_place count + count_size + bytes)) after
      unfolding buffer_after written
      join_written l k e = rw (join-answered l k) (rw join-length, e ∙ rw zero-add)

-- The first is looked at first,
pub join-first-broken : (buffer first second : List ℕ) {r : Refusal} → r.fault ≡ SheetBroken → read_sheet sheet_broken first ≡ bad sheet_broken r.place
    → Said buffer (join_answer first second (length buffer)) (Err r) buffer
unfolding join_answer onto
join-first-broken buffer first second f h = refuses buffer (rw (h, f) refl)

-- and then the second.
pub join-second-broken : (buffer : List ℕ) {first : List ℕ} {slots : List Slot} (second : List ℕ) {r : Refusal} → Ready first slots → r.fault ≡ SecondBroken
    → read_sheet second_broken second ≡ bad second_broken r.place → Said buffer (join_answer first second (length buffer)) (Err r) buffer
unfolding join_answer onto
join-second-broken buffer second q f h = refuses buffer (rw (ready-accepted q, h, f) refl)
