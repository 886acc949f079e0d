-- The steps of the sheet check are what reading a sheet means.
--     steps-ended       so for every list of bytes, whatever the refusal's number
--     checked-place     the place of a broken sheet does not depend on the refusal's number
--     broken-is         a sheet that the steps refuse is refused so by reading
-- Assumes nothing.
use Prim.Native.Nat.{ℕ, zero, suc, ◌+◌, ◌*◌, ◌-◌, ◌<◌}
use mathlib.Core.Path.{◌≡◌, refl, sym, ◌∙◌, ap, ap₂}
use mathlib.Core.List.{List, [], ◌∷◌}
use mathlib.Core.Bool.{not}
use native.Mathlib.Nat.{zero-add}
use native.Mathlib.Numerals.{add-one}
use native.Mathlib.Omega.{arith}
use lib.Dec.{ltb, eqb}
use lib.ListN.{length, get_or, take, drop, length-drop}
use lib.Seq.{drop-drop, get_or-drop}
use borrow.Author.Tests.{le-ltb, lt-ltb}
use Rattle.meaning.specs.Limits.{max_bytes, max_entries, max_encodings}
use Rattle.meaning.specs.Numbers.{of_two}
use Rattle.meaning.specs.Shape.{Shape}
use Rattle.meaning.specs.Reading.{Reading, got, bad, next, reading}
use Rattle.meaning.specs.Numbered.{Numbered}
use Rattle.meaning.specs.Sheet.{Sheet}
use Rattle.meaning.specs.SheetReading.{count_size, entry_size, number_at, sum, read_entries, or_entry, read_encodings, read_second, read_sheet}
use Rattle.meaning.proofs.Rules.{facts, both}
use Rattle.meaning.proofs.Sound.{same-got, by_next, by-else}
use Rattle.meaning.proofs.SheetBytes.{sheet-read, sheet-refusal, same-sheet-bytes}
use Rattle.meaning.proofs.Window.{bytes-by-index}
use Rattle.reader.specs.Said.{said}
use Rattle.std.specs.Prelude.{Option, Some, None, Result, Ok, Err}
use Rattle.sheets.specs.declared.Broken.{Broken}
use Rattle.sheets.specs.Steps.{entry_place, blank_at, length_at, broken, entries_from, judged, encodings_from, second_at, after_entries, sheet_at}

-- The number that stands at a place is the one at the front of what is left from there on.
pub number-here : (s : List ℕ) (k : ℕ) → number_at (drop k s) 0 ≡ number_at s k
number-here s k = ap₂ of_two (get_or-drop k s 0 0 ∙ ap (λ (n : ℕ). get_or s n 0) (omega arith)) (get_or-drop k s 1 0)

-- So is the one after it.
pub number-after : (s : List ℕ) (k : ℕ) → number_at (drop k s) count_size ≡ number_at s (k + count_size)
number-after s k = ap₂ of_two (get_or-drop k s 2 0) (get_or-drop k s 3 0 ∙ ap (λ (n : ℕ). get_or s n 0) (omega arith))

-- What is left from a place on is left from the same place on.
same_place : (s : List ℕ) (m n : ℕ) → m ≡ n → drop m s ≡ drop n s
same_place s m n e = rw e

-- After entry i comes the next.
pub entry-after : (s : List ℕ) (i : ℕ) → drop entry_size (drop (entry_place i) s) ≡ drop (entry_place (i + 1)) s
entry-after s i = drop-drop entry_size (entry_place i) s ∙ same_place s (entry_place i + entry_size) (entry_place (i + 1)) (omega arith)

-- what entries say: their sum, after t, or which is wrong
abbrev entered : ℕ → Reading (List (Numbered ℕ)) → Result ℕ Broken
entered t (got es v) = Ok (t + sum es)
entered t (bad n p) = Err (broken p)

-- the entries es from entry i on have the lengths that stand there
abbrev Listed : List ℕ → ℕ → List (Numbered ℕ) → Type 0
Listed s i [] = Unit {0}
Listed s i (e ∷ es) = (e.item ≡ length_at s i) × Listed s (i + 1) es

-- where a sheet is broken, if it is
abbrev pub ended : Reading Sheet → Option ℕ
ended (got σ v) = None
ended (bad n p) = Some p

module _ (number : ℕ) where
  -- An entry before others adds its length.
  then-entered : (t : ℕ) (e : Numbered ℕ) (r : Reading (List (Numbered ℕ))) → entered (t + e.item) r ≡ entered t (next r λ es v. got (e ∷ es) v)
  unfolding next sum
  then-entered t e (got es v) = ap (λ (m : ℕ). Ok m) (omega arith)
  then-entered t e (bad n p) = refl

  -- The steps over the entries are what reading them means.
  entries-are : (s : List ℕ) (c i m t : ℕ) → entries_from s c i m t ≡ entered t (read_entries number i m c (drop (entry_place i) s))
  unfolding entries_from read_entries sum
  entries-are s zero i m t = ap (λ (m : ℕ). Ok m) (omega arith)
  entries-are s (suc c) i m t =
      rw (number-here s (entry_place i), number-after s (entry_place i)) (
      both (λ a r. a ≡ entered t r) (ltb (blank_at s i) m) (Err (broken i)) _ (bad number i) _ (λ _. refl) λ _.
      both (λ a r. a ≡ entered t r) (eqb (length_at s i) 0) (Err (broken i)) _ (bad number i) _ (λ _. refl) λ _.
      both (λ a r. a ≡ entered t r) (ltb max_bytes (length_at s i)) (Err (broken i)) _ (bad number i) _ (λ _. refl) λ _.
      rw (entry-after s i, ← add-one i, ← add-one (blank_at s i)) (entries-are s c (i + 1) (blank_at s i + 1) (t + length_at s i) ∙ then-entered t (record { number = blank_at s i; item = length_at s i }) _))

  -- Entries that are read have the lengths that stand there, are as many as were asked for, and what is left follows them.
  entries-listed : (s : List ℕ) (c i m : ℕ) (es : List (Numbered ℕ)) (v : List ℕ) → read_entries number i m c (drop (entry_place i) s) ≡ got es v → Listed s i es × (length es ≡ c) × (v ≡ drop (entry_place (i + c)) s)
  unfolding read_entries
  entries-listed s zero i m es v h = rw (← (same-got h).0) (tt, refl, sym (same-got h).1 ∙ same_place s (entry_place i) (entry_place (i + 0)) (omega arith))
  entries-listed s (suc c) i m es v h =
      let w : List ℕ = drop (entry_place i) s in
      by-else (ltb (number_at w 0) m) _ _ _ h λ _ h.
      by-else (eqb (number_at w 2) 0) _ _ _ h λ _ h.
      by-else (ltb max_bytes (number_at w 2)) _ _ _ h λ _ h.
      by_next (read_entries number (suc i) (suc (number_at w 0)) c (drop entry_size w)) _ h λ ds u hd h.
      let r = entries-listed s c (i + 1) (suc (number_at w 0)) ds u (rw (entry-after s i, ← add-one i) at hd) in
      rw (← (same-got h).0) ((number-after s (entry_place i), r.0), ap suc r.1, sym (same-got h).1 ∙ r.2 ∙ same_place s (entry_place (i + 1 + c)) (entry_place (i + suc c)) (omega arith))

  -- An encoding before others is judged first.
  then-ended : (x : Option ℕ) (i : ℕ) (e : Numbered ℕ) (r : Reading Shape) (y : Reading Sheet) → x ≡ ended y → judged i (said r) x ≡ ended (next (or_entry number i r) λ s _. next y λ σ v. got (record { number = e.number; item = s } ∷ σ) v)
  unfolding next or_entry
  then-ended x i e (got s w) (got σ v) h = h
  then-ended x i e (got s w) (bad n p) h = h
  then-ended x i e (bad n p) y h = refl

  -- The steps over the encodings are what reading them means.
  encodings-are : (s : List ℕ) (es : List (Numbered ℕ)) (i at : ℕ) → Listed s i es → encodings_from s (length es) i at ≡ ended (read_encodings number i es (drop at s))
  unfolding encodings_from read_encodings
  encodings-are s [] i at l = refl
  encodings-are s (e ∷ es) i at l =
      rw (← l.0, drop-drop e.item at s, ← add-one i) (then-ended _ i e (reading (take e.item (drop at s))) _ (encodings-are s es (i + 1) (at + e.item) l.1))

  -- The steps from the second count on are what reading from there on means.
  second-are : (s : List ℕ) (p c : ℕ) (es : List (Numbered ℕ)) (v : List ℕ) → v ≡ drop p s → Listed s 0 es → length es ≡ c → second_at s p c (sum es) ≡ ended (read_second number p es v)
  unfolding second_at read_second
  second-are s p c es [] h l n = let k = ap length h ∙ length-drop p s in rw (lt-ltb (length s - p) count_size (omega arith))
  second-are s p c es (x ∷ []) h l n = let k = ap length h ∙ length-drop p s in rw (lt-ltb (length s - p) count_size (omega arith))
  second-are s p c es (x ∷ y ∷ w) h l n =
      let k = ap length h ∙ length-drop p s in
      let q : number_at s p ≡ of_two x y = sym (number-here s p) ∙ ap (λ (u : List ℕ). number_at u 0) (sym h) in
      let f : length s - (p + count_size) ≡ length w = omega arith in
      let d : drop (p + count_size) s ≡ w = sym (drop-drop count_size p s) ∙ ap (drop count_size) (sym h) in
      rw (le-ltb (length s - p) count_size (omega arith), q, f) (
      both (λ a r. a ≡ ended r) (ltb max_encodings (of_two x y)) (Some p) _ (bad number p) _ (λ _. refl) λ _.
      both (λ a r. a ≡ ended r) (not (eqb (of_two x y) (sum es))) (Some p) _ (bad number p) _ (λ _. refl) λ _.
      both (λ a r. a ≡ ended r) (ltb (length w) (of_two x y)) (Some p) _ (bad number p) _ (λ _. refl) λ t.
      both (λ a r. a ≡ ended r) (ltb (of_two x y) (length w)) (Some (p + count_size + of_two x y)) _ (bad number (p + count_size + of_two x y)) _ (λ _. refl) λ u.
      let z : of_two x y ≡ length w = omega (arith, facts) in
      rw (← n, ← d) (encodings-are s es 0 (p + count_size) l))

  -- The steps after the first count are what reading after it means.
  after-are : (s : List ℕ) (c : ℕ) (r : Reading (List (Numbered ℕ))) → read_entries number 0 0 c (drop count_size s) ≡ r → after_entries (entries_from s c 0 0 0) (second_at s (entry_place c) c) ≡ ended (next r (read_second number (entry_place c)))
  unfolding next
  after-are s c (bad n p) h = rw (entries-are s c 0 0 0, h)
  after-are s c (got es v) h =
      let g = entries-listed s c 0 0 es v h in
      rw (entries-are s c 0 0 0, h, zero-add) (second-are s (entry_place c) c es v (g.2 ∙ ap (λ (n : ℕ). drop (entry_place n) s) (zero-add c)) g.0 g.1)

  -- The steps are what reading means, of any list.
  pub steps-ended : (s : List ℕ) → sheet_at s ≡ ended (read_sheet number s)
  unfolding sheet_at read_sheet
  steps-ended [] = refl
  steps-ended (x ∷ []) = refl
  steps-ended (x ∷ y ∷ w) =
      let f : length (x ∷ y ∷ w) - count_size ≡ length w = omega arith in
      rw (le-ltb (length (x ∷ y ∷ w)) count_size (omega arith), f) (
      both (λ a r. a ≡ ended r) (ltb max_entries (of_two x y)) (Some 0) _ (bad number 0) _ (λ _. refl) λ _.
      both (λ a r. a ≡ ended r) (ltb (length w) (entry_size * of_two x y)) (Some 0) _ (bad number 0) _ (λ _. refl) λ _.
      after-are (x ∷ y ∷ w) (of_two x y) _ refl)

-- A sheet that the steps refuse is refused at that place, with the number of whose it is.
pub broken-is : (number : ℕ) (s : List ℕ) (p : ℕ) → Some p ≡ sheet_at s → read_sheet number s ≡ bad number p
broken-is number s p h = go (read_sheet number s) refl
  where
    go : (r : Reading Sheet) → read_sheet number s ≡ r → r ≡ bad number p
    go (got σ w) e = let z : Some p ≡ None = h ∙ steps-ended number s ∙ ap ended e in cc
    go (bad n q) e = let a = (sheet-refusal number s n q e).0 in let z : Some p ≡ Some q = h ∙ steps-ended number s ∙ ap ended e in cc

-- What reading a sheet says, but for the number of a refusal: a sheet, or the place where it is broken.
abbrev pub told_place : Reading Sheet → Result Sheet ℕ
told_place (got σ v) = Ok σ
told_place (bad n p) = Err p

-- The check of a sheet says the same, whether it is refused as the first or as the second.
pub checked-place : (m n : ℕ) (s : List ℕ) → ((i : ℕ) → get_or s i 0 < 256) → told_place (read_sheet m s) ≡ told_place (read_sheet n s)
checked-place m n s b = go (read_sheet m s) (read_sheet n s) refl refl
  where
    go : (a c : Reading Sheet) → read_sheet m s ≡ a → read_sheet n s ≡ c → told_place a ≡ told_place c
    go (got σ v) (got τ w) e f =
        let g = sheet-read m s σ v (bytes-by-index s b) e in let h = sheet-read n s τ w (bytes-by-index s b) f in
        ap (λ (x : Sheet). Ok x) (same-sheet-bytes σ τ g.1 h.1 (sym g.0 ∙ h.0))
    go (got σ v) (bad k q) e f = let z : None ≡ Some q = sym (ap ended e) ∙ sym (steps-ended m s) ∙ steps-ended n s ∙ ap ended f in cc
    go (bad k p) (got τ w) e f = let z : Some p ≡ None = sym (ap ended e) ∙ sym (steps-ended m s) ∙ steps-ended n s ∙ ap ended f in cc
    go (bad k p) (bad l q) e f = let z : Some p ≡ Some q = sym (ap ended e) ∙ sym (steps-ended m s) ∙ steps-ended n s ∙ ap ended f in cc
