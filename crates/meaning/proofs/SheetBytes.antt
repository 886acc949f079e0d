-- Reading a sheet accepts exactly the bytes of the sheets within the limits.
--     read-sheet            the bytes of a sheet are read as that sheet
--     sheet-read            what is read as a sheet are the bytes of that sheet, and it is within the limits
--     accepts-sheet         both in one
--     same-sheet-bytes      bytes and sheet determine each other
--     sheet-refusal         a refusal has the number that it was handed, and a place no further on than the end, nor than longest
--     sheet-length          how many bytes a sheet has
--     longest               how many at the limits
--     sheet-small           a sheet is written as bytes
-- Assumes nothing.
use Prim.Native.Nat.{ℕ, zero, suc, ◌+◌, ◌*◌, ◌-◌, ◌≤◌, ◌<◌, min}
use mathlib.Core.Path.{◌≡◌, refl, sym, ◌∙◌, ap, ap₂}
use mathlib.Core.Logic.{◌↔◌}
use mathlib.Core.Bool.{not}
use mathlib.Core.List.{List, [], ◌∷◌, ◌++◌}
use native.Mathlib.Omega.{arith}
use lib.Dec.{ltb, eqb}
use lib.ListN.{length, take, drop, length-append, length-drop, take-append-drop}
use lib.Seq.{take-append_seam, drop-append_seam, length-take-le}
use borrow.Author.Tests.{ltb-false, eqb-true, not-false, le-ltb, eq-eqb, ne_eqb}
use Rattle.meaning.specs.Limits.{max_bytes, max_entries, max_encodings}
use Rattle.meaning.specs.Numbers.{two_bytes, of_two}
use Rattle.meaning.specs.Shape.{Shape}
use Rattle.meaning.specs.Encode.{encode}
use Rattle.meaning.specs.Within.{Bytes}
use Rattle.meaning.specs.Reading.{Reading, got, bad, next, reading}
use Rattle.meaning.specs.Numbered.{Numbered, RisingFrom, All, each}
use Rattle.meaning.specs.Sheet.{Sheet, lengths, entries_bytes, encodings, sheet_bytes, EntryWithin, SheetWithin}
use Rattle.meaning.specs.SheetReading.{count_size, entry_size, number_at, sum, read_entries, or_entry, read_encodings, read_second, read_sheet}
use Rattle.meaning.proofs.Rules.{facts, rule}
use Rattle.meaning.proofs.Window.{bytes-append, bytes_take}
use Rattle.meaning.proofs.Complete.{two-value, encode-pos}
use Rattle.meaning.proofs.Sound.{not-got, same-got, by_next, by-else, bytes_rest, glue, end}
use Rattle.meaning.proofs.Faults.{by-bad, not-bad}
use Rattle.meaning.proofs.Laws.{reading-encode, encode-reading}
use Rattle.meaning.proofs.Numbered.{each-length, each-rising⁻¹}

-- Entries have 4 bytes each.
entries-length : (es : List (Numbered ℕ)) → length (entries_bytes es) ≡ entry_size * length es
unfolding entries_bytes
entries-length [] = refl
entries-length (e ∷ es) = omega (arith, entries-length es)

-- The lengths of a sheet's encodings say together how long they are, joined.
sum-lengths : (σ : Sheet) → sum (lengths σ) ≡ length (encodings σ)
unfolding sum each encodings
sum-lengths [] = refl
sum-lengths (e ∷ es) = rw length-append (omega (arith, sum-lengths es))

-- What follows the first count of a sheet has as many bytes as its entries, the second count and the encodings.
rest-length : (σ : Sheet) → length (entries_bytes (lengths σ) ++ (two_bytes (length (encodings σ)) ++ encodings σ)) ≡ entry_size * length σ + (count_size + length (encodings σ))
rest-length σ = rw length-append (omega (arith, entries-length (lengths σ), each-length (λ s. length (encode s)) σ))

-- A sheet has two counts, 4 bytes for each entry, and the encodings.
pub sheet-length : (σ : Sheet) → length (sheet_bytes σ) ≡ count_size + entry_size * length σ + count_size + length (encodings σ)
unfolding sheet_bytes
sheet-length σ = omega (arith, rest-length σ)

-- how many bytes a sheet has whose entries and encodings are at their limits
abbrev pub longest : ℕ
longest = count_size + entry_size * max_entries + count_size + max_encodings

-- Two bytes are those of the number that they are.
pub two_bytes_lem : (x y : ℕ) → x < 256 → y < 256 → two_bytes (of_two x y) ≡ x ∷ y ∷ []
two_bytes_lem x y h k = ap₂ (λ (i j : ℕ). i ∷ j ∷ []) (omega arith) (omega arith)

-- So are the first four of some bytes those of two numbers.
pub four_bytes : {x y z u : ℕ} {w v : List ℕ} → Bytes (x ∷ y ∷ z ∷ u ∷ w) → w ≡ v → x ∷ y ∷ z ∷ u ∷ w ≡ two_bytes (of_two x y) ++ (two_bytes (of_two z u) ++ v)
four_bytes {x} {y} {z} {u} {w} {v} b h =
    ap (λ (t : List ℕ). x ∷ y ∷ z ∷ u ∷ t) h
    ∙ sym (ap₂ (λ (s t : List ℕ). s ++ t ++ v) (two_bytes_lem x y b.0 b.1.0) (two_bytes_lem z u b.1.1.0 b.1.1.1.0))

-- The entries of a sheet within the limits are written as bytes.
entries-small : (σ : Sheet) → All EntryWithin σ → Bytes (entries_bytes (lengths σ))
unfolding entries_bytes each All
entries-small [] a = tt
entries-small (e ∷ es) a = let s = a.0.small in let l = a.0.within.short in (omega arith, (omega arith, (omega arith, (omega arith, entries-small es a.1))))

-- So are its encodings.
encodings-small : (σ : Sheet) → All EntryWithin σ → Bytes (encodings σ)
unfolding encodings All
encodings-small [] a = tt
encodings-small (e ∷ es) a = bytes-append (encode e.item) (encodings es) a.0.within.small (encodings-small es a.1)

-- So is the sheet.
pub sheet-small : (σ : Sheet) → SheetWithin σ → Bytes (sheet_bytes σ)
unfolding sheet_bytes
sheet-small σ h =
    let f = h.few in
    let l = h.short in
    (omega arith, (omega arith, bytes-append (entries_bytes (lengths σ)) (two_bytes (length (encodings σ)) ++ encodings σ) (entries-small σ h.all) (omega arith, (omega arith, encodings-small σ h.all))))

-- Nothing is left where no length is left.
pub no-rest : (v : List ℕ) → length v ≡ 0 → v ≡ []
no-rest [] h = refl
no-rest (x ∷ v) h = absurd (omega arith)

-- the numbers fit two bytes
abbrev AllSmall : List (Numbered ℕ) → Type 0
AllSmall [] = Unit {0}
AllSmall (e ∷ es) = (e.number < 65536) × AllSmall es

module _ (broken : ℕ) where
  -- The entries of a sheet are read back.
  entries-read : (σ : Sheet) (i m : ℕ) (x : List ℕ) → RisingFrom m σ → All EntryWithin σ → read_entries broken i m (length σ) (entries_bytes (lengths σ) ++ x) ≡ got (lengths σ) x
  unfolding read_entries entries_bytes each RisingFrom All next
  entries-read [] i m x r a = refl
  entries-read (e ∷ es) i m x r a =
      let n : ℕ = length (encode e.item) in
      rw (
        two-value e.number,
        two-value n,
        le-ltb e.number m r.0,
        ne_eqb n 0 (omega (arith, encode-pos e.item)),
        le-ltb max_bytes n a.0.within.short,
        entries-read es (suc i) (suc e.number) x r.1 a.1,
      )

  -- So are its encodings.
  encodings-read : (σ : Sheet) (i : ℕ) → All EntryWithin σ → read_encodings broken i (lengths σ) (encodings σ) ≡ got σ []
  unfolding read_encodings encodings each All next or_entry
  encodings-read [] i a = refl
  encodings-read (e ∷ es) i a = rw (take-append_seam (encode e.item) (encodings es), reading-encode e.item a.0.within, drop-append_seam (encode e.item) (encodings es), encodings-read es (suc i) a.1)

  -- The bytes of a sheet within the limits are read as that sheet.
  pub read-sheet : (σ : Sheet) → SheetWithin σ → read_sheet broken (sheet_bytes σ) ≡ got σ []
  unfolding read_sheet read_second sheet_bytes next
  read-sheet σ h =
      let n : ℕ = length σ in
      let m : ℕ = length (encodings σ) in
      rw (
        two-value n,
        le-ltb max_entries n h.few,
        rest-length σ,
        le-ltb (entry_size * n + (count_size + m)) (entry_size * n) (omega arith),
        entries-read σ 0 0 (two_bytes m ++ encodings σ) h.rising h.all,
        two-value m,
        sum-lengths σ,
        le-ltb max_encodings m h.short,
        eq-eqb m m refl,
        le-ltb m m (omega arith),
      )
      (encodings-read σ 0 h.all)

  -- the bytes w are those of c entries, which rise from m on, and then v
  record Entered (m c : ℕ) (w : List ℕ) (es : List (Numbered ℕ)) (v : List ℕ) : Type 0 where
    is : w ≡ entries_bytes es ++ v
    rising : RisingFrom m es
    counted : length es ≡ c
    small : AllSmall es

  -- What is read as entries are their bytes.
  entries-right : (i m c : ℕ) (w : List ℕ) (es : List (Numbered ℕ)) (v : List ℕ) → Bytes w → entry_size * c ≤ length w → read_entries broken i m c w ≡ got es v → Entered m c w es v
  unfolding read_entries entries_bytes RisingFrom
  entries-right i m zero w es v b l h = rw (← (same-got h).0) (record { is = (same-got h).1; rising = tt; counted = refl; small = tt })
  entries-right i m (suc c) [] es v b l h = absurd (omega arith)
  entries-right i m (suc c) (x ∷ []) es v b l h = absurd (omega arith)
  entries-right i m (suc c) (x ∷ y ∷ []) es v b l h = absurd (omega arith)
  entries-right i m (suc c) (x ∷ y ∷ z ∷ []) es v b l h = absurd (omega arith)
  entries-right i m (suc c) (x ∷ y ∷ z ∷ z' ∷ w) es v b l h =
      by-else (ltb (of_two x y) m) _ _ _ h λ p h.
      by-else (eqb (of_two z z') 0) _ _ _ h λ _ h.
      by-else (ltb max_bytes (of_two z z')) _ _ _ h λ _ h.
      by_next (read_entries broken (suc i) (suc (of_two x y)) c w) _ h λ ds u hd h.
      let r = entries-right (suc i) (suc (of_two x y)) c w ds u b.1.1.1.1 (omega arith) hd in
      rw (← (same-got h).0) (record {
        is = four_bytes b (rw (same-got h).1 at r.is);
        rising = (ltb-false _ _ p, r.rising);
        counted = ap suc r.counted;
        small = (omega (arith, b.0, b.1.0), r.small);
      })

  -- the bytes w are the encodings of a sheet, of the lengths that the entries say, and then v
  record Encoded (es : List (Numbered ℕ)) (w : List ℕ) (σ : Sheet) (v : List ℕ) : Type 0 where
    is : w ≡ encodings σ ++ v
    entered : lengths σ ≡ es
    all : All EntryWithin σ

  -- An encoding that was not refused was read.
  entry-got : (i : ℕ) (r : Reading Shape) (s : Shape) (v : List ℕ) → or_entry broken i r ≡ got s v → r ≡ got s v
  unfolding or_entry
  entry-got i (got t w) s v h = h
  entry-got i (bad n p) s v h = absurd (not-got h)

  -- What is read as encodings are their bytes.
  encodings-right : (i : ℕ) (es : List (Numbered ℕ)) (w : List ℕ) (σ : Sheet) (v : List ℕ) → Bytes w → sum es ≤ length w → AllSmall es → read_encodings broken i es w ≡ got σ v → Encoded es w σ v
  unfolding read_encodings encodings sum each All
  encodings-right i [] w σ v b l a h = rw (← (same-got h).0) (record { is = (same-got h).1; entered = refl; all = tt })
  encodings-right i (d ∷ es) w σ v b l a h =
      by_next (or_entry broken i (reading (take d.item w))) _ h λ s u hr h.
      by_next (read_encodings broken (suc i) es (drop d.item w)) _ h λ τ u' he h.
      let e = encode-reading (take d.item w) s u (bytes_take w d.item b) (entry-got i _ s u hr) in
      let r = encodings-right (suc i) es (drop d.item w) τ u' (bytes_rest (take d.item w) w _ (sym (take-append-drop d.item w)) b) (rw length-drop (omega arith)) a.1 he in
      let n : length (encode s) ≡ d.item = ap length (sym e.0) ∙ length-take-le d.item w (omega arith) in
      rw (← (same-got h).0) (record {
        is = glue v (encode s) (encodings τ) (sym (rw e.0 at (take-append-drop d.item w))) (rw (same-got h).1 at r.is);
        entered = ap₂ ◌∷◌ (λ i. record { number = d.number; item = n i }) r.entered;
        all = (record { small = a.0; within = e.1 }, r.all);
      })

  -- the bytes w are the second section of a sheet
  record Second (es : List (Numbered ℕ)) (w : List ℕ) (σ : Sheet) : Type 0 where
    is : w ≡ two_bytes (length (encodings σ)) ++ encodings σ
    entered : lengths σ ≡ es
    short : length (encodings σ) ≤ max_encodings
    all : All EntryWithin σ

  -- What is read as the second section are its bytes.
  second-right : (p : ℕ) (es : List (Numbered ℕ)) (w : List ℕ) (σ : Sheet) (v : List ℕ) → Bytes w → AllSmall es → read_second broken p es w ≡ got σ v → Second es w σ
  unfolding read_second
  second-right p es [] σ v b a h = absurd (not-got h)
  second-right p es (x ∷ []) σ v b a h = absurd (not-got h)
  second-right p es (x ∷ y ∷ w) σ v b a h =
      by-else (ltb max_encodings (of_two x y)) _ _ _ h λ p₁ h.
      by-else (not (eqb (of_two x y) (sum es))) _ _ _ h λ p₂ h.
      by-else (ltb (length w) (of_two x y)) _ _ _ h λ p₃ h.
      by-else (ltb (of_two x y) (length w)) _ _ _ h λ p₄ h.
      let q : of_two x y ≡ sum es = eqb-true _ _ (not-false _ p₂) in
      let r = encodings-right 0 es w σ v b.1.1 (omega (arith, facts, q)) a h in
      let n : length (encodings σ) ≡ of_two x y = sym (sum-lengths σ) ∙ ap sum r.entered ∙ sym q in
      let z : v ≡ [] = no-rest v (omega (arith, n, facts, ap length r.is ∙ length-append (encodings σ) v)) in
      record {
        is = sym (ap₂ ◌++◌ (ap two_bytes n ∙ two_bytes_lem x y b.0 b.1.0) (end (encodings σ) r.is z));
        entered = r.entered;
        short = omega (arith, n, facts);
        all = r.all;
      }

  -- What is read as a sheet are the bytes of that sheet, and it is within the limits.
  pub sheet-read : (w : List ℕ) (σ : Sheet) (v : List ℕ) → Bytes w → read_sheet broken w ≡ got σ v → (w ≡ sheet_bytes σ) × SheetWithin σ
  unfolding read_sheet sheet_bytes
  sheet-read [] σ v b h = absurd (not-got h)
  sheet-read (x ∷ []) σ v b h = absurd (not-got h)
  sheet-read (x ∷ y ∷ w) σ v b h =
      by-else (ltb max_entries (of_two x y)) _ _ _ h λ p₁ h.
      by-else (ltb (length w) (entry_size * of_two x y)) _ _ _ h λ p₂ h.
      by_next (read_entries broken 0 0 (of_two x y) w) _ h λ es u he h.
      let f = entries-right 0 0 (of_two x y) w es u b.1.1 (ltb-false _ _ p₂) he in
      let g = second-right _ es u σ v (bytes_rest (entries_bytes es) w u f.is b.1.1) f.small h in
      let n : length σ ≡ of_two x y = sym (each-length (λ s. length (encode s)) σ) ∙ ap length g.entered ∙ f.counted in (
        sym (ap₂ ◌++◌ (ap two_bytes n ∙ two_bytes_lem x y b.0 b.1.0) (ap₂ (λ (i : List (Numbered ℕ)) (j : List ℕ). entries_bytes i ++ j) g.entered (sym g.is) ∙ sym f.is)),
        record { rising = each-rising⁻¹ (λ s. length (encode s)) 0 σ (rw g.entered f.rising); few = omega (arith, n, facts); short = g.short; all = g.all },
      )

  -- The inputs that are read as a sheet, with nothing left, are exactly the bytes of the sheets within the limits.
  pub accepts-sheet : (w : List ℕ) → (Bytes w × ((σ : Sheet) × (read_sheet broken w ≡ got σ []))) ↔ ((σ : Sheet) × (w ≡ sheet_bytes σ) × SheetWithin σ)
  accepts-sheet w = (λ a. let g = sheet-read w a.1.0 [] a.0 a.1.1 in (a.1.0, g.0, g.1), λ a. (rw a.1 (sheet-small a.0 a.2), (a.0, rw a.1 (read-sheet a.0 a.2))))

  -- a refusal's number is the one that was handed in, and its place lies no further on than top
  abbrev pub Broken : ℕ → ℕ → ℕ → Type 0
  Broken top n p = (n ≡ broken) × (p ≤ top)

  -- A fault at a place no further on is such a refusal.
  this : {A : Type 0} {top q n p : ℕ} → q ≤ top → ◌≡◌ {A = Reading A} (bad broken q) (bad n p) → Broken top n p
  this {A} {top} {q} {n} {p} l h = let a : broken ≡ n = cc in let b : q ≡ p = cc in (sym a, omega arith)

  -- A refusal of entries is at one of them.
  entries-refusal : (top i m c : ℕ) (w : List ℕ) (n p : ℕ) → i + c ≤ top → read_entries broken i m c w ≡ bad n p → Broken top n p
  unfolding read_entries
  entries-refusal top i m zero w n p l = λ h. absurd (not-bad h)
  entries-refusal top i m (suc c) w n p l =
      rule (λ r. r ≡ bad n p → Broken top n p) (ltb (number_at w 0) m) _ _ (λ _. this (omega arith)) λ _.
      rule (λ r. r ≡ bad n p → Broken top n p) (eqb (number_at w 2) 0) _ _ (λ _. this (omega arith)) λ _.
      rule (λ r. r ≡ bad n p → Broken top n p) (ltb max_bytes (number_at w 2)) _ _ (λ _. this (omega arith)) λ _ h.
      by-bad (read_entries broken (suc i) (suc (number_at w 0)) c (drop entry_size w)) _ h (entries-refusal top (suc i) _ c _ n p (omega arith)) (λ es v g. absurd (not-bad g))

  -- A refusal of encodings is at the entry of one of them.
  encodings-refusal : (top i : ℕ) (es : List (Numbered ℕ)) (w : List ℕ) (n p : ℕ) → i + length es ≤ top → read_encodings broken i es w ≡ bad n p → Broken top n p
  unfolding read_encodings or_entry
  encodings-refusal top i [] w n p l h = absurd (not-bad h)
  encodings-refusal top i (e ∷ es) w n p l h =
      by-bad (or_entry broken i (reading (take e.item w))) _ h (at_entry (reading (take e.item w))) λ s u h.
      by-bad (read_encodings broken (suc i) es (drop e.item w)) _ h (encodings-refusal top (suc i) es _ n p (omega arith)) (λ σ v g. absurd (not-bad g))
    where
      at_entry : (r : Reading Shape) → or_entry broken i r ≡ bad n p → Broken top n p
      at_entry (got s u) g = absurd (not-bad g)
      at_entry (bad k q) g = this (omega arith) g

  -- A refusal of the second section is at its count, at a byte left over or at an entry.
  second-refusal : (top q : ℕ) (es : List (Numbered ℕ)) (w : List ℕ) (n p : ℕ) → q + min (length w) (count_size + max_encodings) ≤ top → length es ≤ top → read_second broken q es w ≡ bad n p → Broken top n p
  unfolding read_second
  second-refusal top q es [] n p l k = this (omega arith)
  second-refusal top q es (x ∷ []) n p l k = this (omega arith)
  second-refusal top q es (x ∷ y ∷ w) n p l k =
      rule (λ r. r ≡ bad n p → Broken top n p) (ltb max_encodings (of_two x y)) _ _ (λ _. this (omega arith)) λ m.
      rule (λ r. r ≡ bad n p → Broken top n p) (not (eqb (of_two x y) (sum es))) _ _ (λ _. this (omega arith)) λ _.
      rule (λ r. r ≡ bad n p → Broken top n p) (ltb (length w) (of_two x y)) _ _ (λ _. this (omega arith)) λ _.
      rule (λ r. r ≡ bad n p → Broken top n p) (ltb (of_two x y) (length w)) _ _ (λ t. this (omega (arith, facts))) λ _.
      encodings-refusal top 0 es w n p (omega arith)

  -- As many entries are read as were asked for, and the rest is as much shorter.
  entries-rest : (i m c : ℕ) (w : List ℕ) (es : List (Numbered ℕ)) (v : List ℕ) → read_entries broken i m c w ≡ got es v → (length es ≡ c) × (length v ≡ length w - entry_size * c)
  unfolding read_entries
  entries-rest i m zero w es v h = let l = ap length (same-got h).1 in (ap length (sym (same-got h).0), omega arith)
  entries-rest i m (suc c) w es v h =
      by-else (ltb (number_at w 0) m) _ _ _ h λ _ h.
      by-else (eqb (number_at w 2) 0) _ _ _ h λ _ h.
      by-else (ltb max_bytes (number_at w 2)) _ _ _ h λ _ h.
      by_next (read_entries broken (suc i) (suc (number_at w 0)) c (drop entry_size w)) _ h λ ds u hd h.
      let r = entries-rest (suc i) _ c (drop entry_size w) ds u hd in
      let l = rw length-drop at r.1 in
      rw (← (same-got h).0, ← (same-got h).1) (ap suc r.0, omega arith)

  -- After the first count, a refusal is one of the entries or of the second section.
  after-count : (top c : ℕ) (w : List ℕ) (n p : ℕ) → c ≤ max_entries → entry_size * c ≤ length w → min (count_size + length w) longest ≤ top → (r : Reading (List (Numbered ℕ))) → read_entries broken 0 0 c w ≡ r → next r (read_second broken (count_size + entry_size * c)) ≡ bad n p → Broken top n p
  unfolding next
  after-count top c w n p f l k (bad m q) e h = let a : m ≡ n = cc in let b : q ≡ p = cc in entries-refusal top 0 0 c w n p (omega arith) (e ∙ ap₂ bad a b)
  after-count top c w n p f l k (got es u) e h =
      let r = entries-rest 0 0 c w es u e in
      second-refusal top _ es u n p (omega (arith, r.1)) (omega (arith, r.0)) h

  -- A refusal of a sheet has the number that was handed in, and a place no further on than its end, nor than that of the longest sheet.
  pub sheet-refusal : (w : List ℕ) (n p : ℕ) → read_sheet broken w ≡ bad n p → Broken (min (length w) longest) n p
  unfolding read_sheet
  sheet-refusal [] n p = this (omega arith)
  sheet-refusal (x ∷ []) n p = this (omega arith)
  sheet-refusal (x ∷ y ∷ w) n p =
      rule (λ r. r ≡ bad n p → Broken (min (length (x ∷ y ∷ w)) longest) n p) (ltb max_entries (of_two x y)) _ _ (λ _. this (omega arith)) λ f.
      rule (λ r. r ≡ bad n p → Broken (min (length (x ∷ y ∷ w)) longest) n p) (ltb (length w) (entry_size * of_two x y)) _ _ (λ _. this (omega arith)) λ t.
      after-count _ (of_two x y) w n p (ltb-false _ _ f) (ltb-false _ _ t) (omega arith) _ refl

-- Two sheets within the limits that have the same bytes are the same.
pub same-sheet-bytes : (σ τ : Sheet) → SheetWithin σ → SheetWithin τ → sheet_bytes σ ≡ sheet_bytes τ → σ ≡ τ
same-sheet-bytes σ τ h k e = (same-got (sym (read-sheet 0 σ h) ∙ ap (read_sheet 0) e ∙ read-sheet 0 τ k)).0
