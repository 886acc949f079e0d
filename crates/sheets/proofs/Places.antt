-- The entries of an accepted sheet, by their places in its bytes.
--     all-at           what holds of each holds of entry k
--     ready-made       a sheet that the steps accept is ready, with the slots that they fill
--     ready-accepted   its bytes are read as a sheet, and none is left over
--     ready-within     the sheet is within the limits
--     ready-count      it has as many entries as its first count says
--     ready-room       its counts, entries and encodings are all of its bytes
--     ready-checked    so the check says
--     entry-room       each entry stands in it
--     ready-rises      the numbers rise
--     ready-number, ready-blank     an entry's number stands there, and its shape is what the sheet has for that number
--     ready-part       its encoding stands where its slot says
--     ready-absent     a blank that no entry names stays
-- Assumes nothing.
use Prim.Native.Nat.{ℕ, zero, suc, ◌+◌, ◌*◌, ◌-◌, ◌≤◌, ◌<◌}
use mathlib.Core.Path.{◌≡◌, refl, sym, ◌∙◌, ap}
use mathlib.Core.List.{List, [], ◌∷◌, ◌++◌}
use mathlib.Core.Option.{none, some}
use mathlib.Core.Bool.{true}
use native.Mathlib.Omega.{arith}
use lib.ListN.{length, get_or, take, drop, length-append, length-drop}
use lib.Seq.{drop-drop, drop_at, take_at, take-length, drop-append-add}
use borrow.Author.Tests.{eq-eqb, ne_eqb}
use Rattle.meaning.specs.Numbers.{two_bytes}
use Rattle.meaning.specs.Shape.{Shape, blank, depth}
use Rattle.meaning.specs.Encode.{encode}
use Rattle.meaning.specs.Reading.{Reading, got, bad, reading}
use Rattle.meaning.specs.Refusals.{sheet_broken}
use Rattle.meaning.specs.Numbered.{Numbered, RisingFrom, All, find, each}
use Rattle.meaning.specs.Sheet.{Sheet, or_blank, lengths, entries_bytes, encodings, sheet_bytes, EntryWithin, SheetWithin}
use Rattle.meaning.specs.SheetReading.{count_size, entry_size, number_at, read_sheet}
use Rattle.meaning.proofs.Window.{window-take, bytes-by-index}
use Rattle.meaning.proofs.Complete.{two-value, encode-pos}
use Rattle.meaning.proofs.Laws.{reading-encode}
use Rattle.meaning.proofs.SheetBytes.{read-sheet, sheet-read, sheet-length}
use Rattle.reader.specs.Said.{said}
use Rattle.std.specs.Prelude.{Some, None, Result, Ok, Err}
use Rattle.sheets.specs.declared.Broken.{Broken}
use Rattle.sheets.specs.declared.Slot.{Slot}
use Rattle.sheets.specs.Said.{sound, checked}
use Rattle.sheets.specs.Steps.{entry_place, blank_at, length_at, sum_from, broken_at, sheet_at}
use Rattle.sheets.specs.Index.{deep_as, slot_at, IndexSaid, is_sheet, sheet_from, sheet_in, entry, blank_in, PartIs, part, Ready, ReadyIf}
use Rattle.sheets.proofs.Whole.{number-here, number-after, entry-after, ended, steps-ended}

-- No entry has a number below where the numbers rise from.
rising-least : (m : ℕ) (σ : Sheet) (k : ℕ) → RisingFrom m σ → k < length σ → m ≤ (entry σ k).number
unfolding RisingFrom
rising-least m [] k r h = absurd (omega arith)
rising-least m (e ∷ es) zero r h = r.0
rising-least m (e ∷ es) (suc k) r h = omega (arith, rising-least (suc e.number) es k r.1 (omega arith))

-- A later entry has a larger number.
rising-at : (m : ℕ) (σ : Sheet) (j k : ℕ) → RisingFrom m σ → j < k → k < length σ → (entry σ j).number < (entry σ k).number
unfolding RisingFrom
rising-at m [] j k r l h = absurd (omega arith)
rising-at m (e ∷ es) j zero r l h = absurd (omega arith)
rising-at m (e ∷ es) zero (suc k) r l h = rising-least (suc e.number) es k r.1 (omega arith)
rising-at m (e ∷ es) (suc j) (suc k) r l h = rising-at (suc e.number) es j k r.1 (omega arith) (omega arith)

-- An entry is found under its number.
find_at : (m : ℕ) (σ : Sheet) (k : ℕ) → RisingFrom m σ → k < length σ → find σ (entry σ k).number ≡ some (entry σ k).item
unfolding RisingFrom find
find_at m [] k r h = absurd (omega arith)
find_at m (e ∷ es) zero r h = rw (eq-eqb e.number e.number refl)
find_at m (e ∷ es) (suc k) r h =
    let l = rising-least (suc e.number) es k r.1 (omega arith) in
    rw (ne_eqb (entry es k).number e.number (λ q. omega arith)) (find_at (suc e.number) es k r.1 (omega arith))

-- Nothing is found under a number that no entry has.
find_none : (σ : Sheet) (n : ℕ) → ((k : ℕ) → k < length σ → (entry σ k).number ≡ n → ⊥) → find σ n ≡ none
unfolding find
find_none [] n f = refl
find_none (e ∷ es) n f = rw (ne_eqb n e.number (λ q. f 0 (omega arith) (sym q))) (find_none es n (λ k h. f (suc k) (omega arith)))

-- What holds of each holds of entry k.
pub all-at : (P : Numbered Shape → Type 0) (σ : Sheet) (k : ℕ) → All P σ → k < length σ → P (entry σ k)
unfolding All
all-at P [] k a h = absurd (omega arith)
all-at P (e ∷ es) zero a h = a.0
all-at P (e ∷ es) (suc k) a h = all-at P es k a.1 (omega arith)

-- entry i of a sheet is e, and its encoding stands at a place
record Stands (s : List ℕ) (i at : ℕ) (e : Numbered Shape) : Type 0 where
  number : blank_at s i ≡ e.number
  size : length_at s i ≡ length (encode e.item)
  room : entry_place i + entry_size ≤ length s
  inside : at + length_at s i ≤ length s
  bytes : take (length_at s i) (drop at s) ≡ encode e.item

module _ (s v : List ℕ) where
  -- entries stand from entry i on, and their encodings from a place to the end
  record Left (i at : ℕ) (τ : Sheet) : Type 0 where
    heads : drop (entry_place i) s ≡ entries_bytes (lengths τ) ++ v
    bodies : drop at s ≡ encodings τ
    ends : at + length (encodings τ) ≡ length s

  -- The first of those entries stands there.
  first-stands : (i at : ℕ) (e : Numbered Shape) (es : Sheet) → Left i at (e ∷ es) → Stands s i at e
  unfolding entries_bytes each encodings
  first-stands i at e es l =
      let n : ℕ = length (encode e.item) in
      let z : length_at s i ≡ n = sym (number-after s (entry_place i)) ∙ ap (λ (u : List ℕ). number_at u count_size) l.heads ∙ two-value n in
      let w = ap length l.heads in
      record {
        number = sym (number-here s (entry_place i)) ∙ ap (λ (u : List ℕ). number_at u 0) l.heads ∙ two-value e.number;
        size = z;
        room = omega (arith, length-drop (entry_place i) s, w);
        inside = omega (arith, l.ends, length-append (encode e.item) (encodings es), z);
        bytes = rw (z, l.bodies) (take_at (encode e.item) (encodings es) n refl);
      }

  -- After it stand the others.
  others-left : (i at : ℕ) (e : Numbered Shape) (es : Sheet) → Left i at (e ∷ es) → Left (i + 1) (at + length_at s i) es
  unfolding entries_bytes each encodings
  others-left i at e es l =
      let z = (first-stands i at e es l).size in
      record {
        heads = sym (entry-after s i) ∙ ap (drop entry_size) l.heads;
        bodies = sym (drop-drop (length_at s i) at s) ∙ ap (drop (length_at s i)) l.bodies ∙ drop_at (encode e.item) (encodings es) (length_at s i) (sym z);
        ends = omega (arith, l.ends, length-append (encode e.item) (encodings es), z);
      }

  -- The k-th of them stands after the lengths of those before it.
  stands : (τ : Sheet) (i at k j a : ℕ) → Left i at τ → k < length τ → j ≡ i + k → a ≡ at + sum_from s k i → Stands s j a (entry τ k)
  unfolding sum_from
  stands [] i at k j a l h p q = absurd (omega arith)
  stands (e ∷ es) i at zero j a l h p q =
      let p : j ≡ i = omega arith in
      let q : a ≡ at = omega arith in
      rw (p, q) (first-stands i at e es l)
  stands (e ∷ es) i at (suc k) j a l h p q = stands es (i + 1) (at + length_at s i) k j a (others-left i at e es l) (omega arith) (omega arith) (omega arith)

-- The reader's depth of an encoding within the limits is the shape's.
deep_is : (t : Shape) (r : Reading Shape) → r ≡ got t [] → deep_as (said r) ≡ depth t
deep_is t r h = rw h

-- A sheet that the steps accept, with slots that are its entries', is ready.
pub ready-made : {X : Type 0} (s : List ℕ) (slots : List Slot) (r : Result X Broken) → ((i : ℕ) → get_or s i 0 < 256) → broken_at r ≡ sheet_at s → IndexSaid s (number_at s 0) (entry_place (number_at s 0) + count_size) slots r → ReadyIf s slots r
ready-made s slots (Err p) b h i = tt
ready-made s slots (Ok x) b h i = record { small = b; accepted = go (read_sheet sheet_broken s) refl; placed = i }
  where
    go : (x : Reading Sheet) → read_sheet sheet_broken s ≡ x → is_sheet x ≡ true
    go (got σ v) e = refl
    go (bad n p) e = let z : None ≡ Some p = h ∙ steps-ended sheet_broken s ∙ ap ended e in cc

module _ {s : List ℕ} {slots : List Slot} (r : Ready s slots) where
  -- Its bytes are read as a sheet, and none is left over.
  pub ready-accepted : read_sheet sheet_broken s ≡ got (sheet_in s) []
  unfolding sheet_in
  ready-accepted = go (read_sheet sheet_broken s) refl r.accepted
    where
      go : (x : Reading Sheet) → read_sheet sheet_broken s ≡ x → is_sheet x ≡ true → read_sheet sheet_broken s ≡ got (sheet_from (read_sheet sheet_broken s)) []
      go (got σ v) e a = let g = sheet-read sheet_broken s σ v (bytes-by-index s r.small) e in rw e (sym e ∙ ap (read_sheet sheet_broken) g.0 ∙ read-sheet sheet_broken σ g.1)
      go (bad n p) e a = cc

  -- The sheet that was read has the bytes that were read.
  whole : s ≡ sheet_bytes (sheet_in s)
  whole = (sheet-read sheet_broken s (sheet_in s) [] (bytes-by-index s r.small) ready-accepted).0

  -- It is within the limits.
  pub ready-within : SheetWithin (sheet_in s)
  ready-within = (sheet-read sheet_broken s (sheet_in s) [] (bytes-by-index s r.small) ready-accepted).1

  -- It has as many entries as its first count says.
  pub ready-count : number_at s 0 ≡ length (sheet_in s)
  unfolding sheet_bytes
  ready-count = ap (λ (u : List ℕ). number_at u 0) whole ∙ two-value (length (sheet_in s))

  -- Its two counts, its entries and its encodings are all of its bytes.
  pub ready-room : length s ≡ entry_place (number_at s 0) + count_size + length (encodings (sheet_in s))
  ready-room = rw ready-count (ap length whole ∙ sheet-length (sheet_in s))

  -- The check says of it how many entries it has, and how many bytes follow its second count.
  pub ready-checked : (t : List ℕ) (n : ℕ) → s ≡ t → n ≡ length (sheet_in s) → Ok (sound n (length t - (entry_place n + count_size))) ≡ checked (read_sheet sheet_broken t)
  ready-checked t n e h = rw (← e, ready-accepted, h) (ap (λ (m : ℕ). Ok (sound (length (sheet_in s)) m)) (omega (arith, ready-room, ready-count)))

  -- what follows the entries
  abbrev rest : List ℕ
  rest = two_bytes (length (encodings (sheet_in s))) ++ encodings (sheet_in s)

  -- The entries stand from the first on, and their encodings after the second count.
  left : Left s rest 0 (entry_place (number_at s 0) + count_size) (sheet_in s)
  unfolding sheet_bytes
  left =
      let x : List ℕ = entries_bytes (lengths (sheet_in s)) in
      let h : drop 2 s ≡ x ++ rest = ap (drop 2) whole in
      let n : length x ≡ entry_size * number_at s 0 = omega (arith, ap length whole, length-append x rest, ready-room) in
      let m : entry_place (number_at s 0) + count_size ≡ 2 + (length x + count_size) = omega arith in
      record {
        heads = h;
        bodies = rw m (sym (drop-drop (length x + count_size) 2 s) ∙ ap (drop (length x + count_size)) h ∙ drop-append-add x rest count_size);
        ends = sym ready-room;
      }

  -- Entry k stands where its slot says.
  ready-stands : (k : ℕ) → k < length (sheet_in s) → Stands s k (slot_at slots k).start (entry (sheet_in s) k)
  ready-stands k h = stands s rest (sheet_in s) 0 _ k k _ left h (omega arith) (r.placed k (omega (arith, ready-count))).start

  -- Entry k has room.
  pub entry-room : (k : ℕ) → k < length (sheet_in s) → entry_place k + entry_size ≤ length s
  entry-room k h = (ready-stands k h).room

  -- A later entry has a larger number.
  pub ready-rises : (j k : ℕ) → j < k → k < length (sheet_in s) → (entry (sheet_in s) j).number < (entry (sheet_in s) k).number
  ready-rises j k l h = rising-at 0 (sheet_in s) j k ready-within.rising l h

  -- Entry k has the number that stands there.
  pub ready-number : (k : ℕ) → k < length (sheet_in s) → blank_at s k ≡ (entry (sheet_in s) k).number
  ready-number k h = (ready-stands k h).number

  -- What the sheet has for that number is the entry's shape.
  pub ready-blank : (k : ℕ) → k < length (sheet_in s) → blank_in s (entry (sheet_in s) k).number ≡ (entry (sheet_in s) k).item
  unfolding or_blank
  ready-blank k h = rw (find_at 0 (sheet_in s) k ready-within.rising h)

  -- The entry's encoding stands where its slot says, and is as deep.
  pub ready-part : (k : ℕ) → k < length (sheet_in s)
      → PartIs s (entry (sheet_in s) k).item (part (slot_at slots k).start ((slot_at slots k).start + length_at s k) (slot_at slots k).depth)
  ready-part k h =
      let t = ready-stands k h in
      let e : Shape = (entry (sheet_in s) k).item in
      let w = (all-at EntryWithin (sheet_in s) k ready-within.all h).within in
      let d = (r.placed k (omega (arith, ready-count))).deep in
      record {
        some = omega (arith, t.size, encode-pos e);
        inside = t.inside;
        is = sym (rw take-length at (window-take s (slot_at slots k).start (length s) (length_at s k) t.inside)) ∙ t.bytes;
        deep = d ∙ rw t.bytes (deep_is e (reading (encode e)) (reading-encode e w));
        within = w;
      }

  -- A blank that no entry names stays.
  pub ready-absent : (n : ℕ) → ((k : ℕ) → k < length (sheet_in s) → (entry (sheet_in s) k).number ≡ n → ⊥) → blank_in s n ≡ blank n
  unfolding or_blank
  ready-absent n f = rw (find_none (sheet_in s) n f)
