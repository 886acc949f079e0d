-- The joined sheet, written entry by entry: two runs of bytes, each after the place of its count.
--     next-short, next-room, next_place, next_small     the entry that comes next fits
--     put-none      before the first entry nothing is written
--     put-more      an entry more
--     put_all       after the last all are written
--     put-counts    and with the two counts the sheet is
-- Assumes nothing.
use Prim.Native.Nat.{ℕ, ◌+◌, ◌*◌, ◌-◌, ◌≤◌, ◌<◌}
use mathlib.Core.Path.{◌≡◌, refl, sym, ◌∙◌, ap}
use mathlib.Core.List.{List, [], ◌∷◌, ◌++◌, append-nil, append_assoc}
use native.Mathlib.Omega.{arith}
use lib.ListN.{length, length-append}
use Rattle.meaning.specs.Limits.{max_bytes, max_entries}
use Rattle.meaning.specs.Numbers.{two_bytes}
use Rattle.meaning.specs.Shape.{Shape}
use Rattle.meaning.specs.Encode.{encode}
use Rattle.meaning.specs.Numbered.{Numbered, All, each}
use Rattle.meaning.specs.Sheet.{Sheet, join, lengths, entries_bytes, encodings, sheet_bytes, EntryWithin}
use Rattle.meaning.specs.SheetReading.{count_size, entry_size}
use Rattle.buffers.specs.Written.{written}
use Rattle.buffers.proofs.Written.{written-length, written_none, written_after, written-before, written_apart}
use Rattle.sheets.specs.Steps.{entry_place}
use Rattle.sheets.proofs.Places.{all-at}
use Rattle.merges.specs.declared.Entry.{Entry}
use Rattle.merges.specs.declared.Entry.TheVariants.{First, Second}
use Rattle.merges.specs.declared.Turn.{Turn}
use Rattle.merges.specs.Merge.{joined_from, next_entry, IsThere, TurnIs, Fitting}

-- Each of two runs goes on, the first up to the second.
two_runs : (d x y v e : List ℕ) (at to : ℕ) → at + length x + length v ≤ to → to + length y + length e ≤ length d
    → written (written (written (written d at x) to y) (to + length y) e) (at + length x) v ≡ written (written d at (x ++ v)) to (y ++ e)
two_runs d x y v e at to h k =
    let f : List ℕ = written d at x in
    let l : length f ≡ length d = written-length d at x (omega arith) in
    let m : to + length (y ++ e) ≤ length f = rw length-append (omega arith) in
    rw (written_after f to y e (omega arith), written_apart f (at + length x) to v (y ++ e) h m, written_after d at x v (omega arith))

-- the numbers and the lengths of entries, as they are written
abbrev heads : Sheet → List ℕ
heads σ = entries_bytes (lengths σ)

-- Entries have 4 bytes each.
heads-length : (σ : Sheet) → length (heads σ) ≡ entry_size * length σ
unfolding entries_bytes each
heads-length [] = refl
heads-length (e ∷ σ) = omega (arith, heads-length σ)

-- Those of two sheets, one after the other.
heads-append : (σ τ : Sheet) → heads (σ ++ τ) ≡ heads σ ++ heads τ
unfolding entries_bytes each
heads-append [] τ = refl
heads-append (e ∷ σ) τ = rw (heads-append σ τ)

-- So are the encodings.
encodings-append : (σ τ : Sheet) → encodings (σ ++ τ) ≡ encodings σ ++ encodings τ
unfolding encodings
encodings-append [] τ = refl
encodings-append (e ∷ σ) τ = rw (encodings-append σ τ) (sym (append_assoc (encode e.item) (encodings σ) (encodings τ)))

-- An entry has its two numbers.
head-one : (e : Numbered Shape) → heads (e ∷ []) ≡ two_bytes e.number ++ two_bytes (length (encode e.item))
unfolding entries_bytes each
head-one e = refl

-- An entry's encoding is its shape's.
encoding-one : (e : Numbered Shape) → encodings (e ∷ []) ≡ encode e.item
unfolding encodings
encoding-one e = append-nil (encode e.item)

-- Of entries in a row, one in the middle takes its part of the encodings.
encodings-room : (σ : Sheet) (e : Numbered Shape) (τ : Sheet) → length (encodings σ) + length (encode e.item) ≤ length (encodings (σ ++ (e ∷ τ)))
unfolding encodings
encodings-room σ e τ = rw (encodings-append σ (e ∷ τ)) (simp length-append (omega arith))

-- What holds of each holds of one in the middle.
all_middle : (P : Numbered Shape → Type 0) (σ : Sheet) (e : Numbered Shape) (τ : Sheet) → All P (σ ++ (e ∷ τ)) → P e
unfolding All
all_middle P [] e τ a = a.0
all_middle P (d ∷ σ) e τ a = all_middle P σ e τ a.1

-- where the encodings of so many entries start
abbrev bodies : ℕ → ℕ
bodies count = entry_place count + count_size

-- the joined sheet has so many entries, and each of them has room in the buffer d
pub record Room (σ τ : Sheet) (count : ℕ) (d : List ℕ) : Type 0 where
  pub counted : count ≡ length (join σ τ)
  pub few : count ≤ max_entries
  pub fitting : Fitting (join σ τ)
  pub room : bodies count + length (encodings (join σ τ)) ≤ length d

-- out is the buffer d with the entries written that come before those left after i of the first sheet and j of the second
pub record Put (σ τ : Sheet) (count : ℕ) (d out : List ℕ) (i j at to : ℕ) : Type 0 where
  pub fits : Room σ τ count d
  pub done : Sheet
  pub goes : join σ τ ≡ done ++ joined_from σ τ i j
  pub at-is : at ≡ entry_place (length done)
  pub to_is : to ≡ bodies count + length (encodings done)
  pub same : length out ≡ length d
  pub wrote : out ≡ written (written d count_size (heads done)) (bodies count) (encodings done)

-- Before the first entry nothing is written.
pub put-none : (σ τ : Sheet) (count : ℕ) (d : List ℕ) → Room σ τ count d → Put σ τ count d d 0 0 count_size (bodies count)
unfolding entries_bytes each encodings
put-none σ τ count d f = record {
  fits = f;
  done = [];
  goes = refl;
  at-is = refl;
  to_is = omega arith;
  same = refl;
  wrote = sym (written_none (written d count_size []) (bodies count) ∙ written_none d count_size);
}

-- After the last entry all are written.
pub put_all : {σ τ : Sheet} {count : ℕ} {d out : List ℕ} {i j at to : ℕ} → Put σ τ count d out i j at to → joined_from σ τ i j ≡ []
    → out ≡ written (written d count_size (heads (join σ τ))) (bodies count) (encodings (join σ τ))
put_all {σ} {τ} p r =
    let w : join σ τ ≡ p.done = p.goes ∙ ap (λ (ρ : Sheet). p.done ++ ρ) r ∙ append-nil p.done in
    rw w p.wrote

-- The number of an entry is small.
number_small : (σ τ : Sheet) (e : Entry) → All EntryWithin σ → All EntryWithin τ → IsThere σ τ e → (next_entry σ τ e).number < 65536
number_small σ τ (First i) a b w = (all-at EntryWithin σ i a w).small
number_small σ τ (Second j) a b w = (all-at EntryWithin τ j b w).small

-- So is that of the entry that a turn passes.
pub next_small : {σ τ : Sheet} {i j k l : ℕ} {t : Turn} → TurnIs σ τ i j t k l → All EntryWithin σ → All EntryWithin τ → t.blank < 65536
next_small {σ} {τ} {t = t} u a b = rw u.blank (number_small σ τ t.entry a b u.there)

module _ {σ τ : Sheet} {count : ℕ} {d out : List ℕ} {i j k l at to : ℕ} {t : Turn} (p : Put σ τ count d out i j at to) (u : TurnIs σ τ i j t k l) where
  -- the entry that a turn passes, its encoding, and what is left after it
  abbrev passed : Numbered Shape
  passed = next_entry σ τ t.entry

  abbrev encoded : List ℕ
  encoded = encode passed.item

  abbrev left : Sheet
  left = joined_from σ τ k l

  -- The entry stands after those written, before those left.
  split : join σ τ ≡ p.done ++ (passed ∷ left)
  split = p.goes ∙ ap (λ (ρ : Sheet). p.done ++ ρ) u.goes

  -- Its encoding is short.
  pub next-short : length encoded ≤ max_bytes
  next-short = (all_middle _ p.done passed left (rw split at p.fits.fitting)).1

  -- There is room for its encoding.
  pub next-room : to + length encoded ≤ length out
  next-room =
      let m : bodies count + length (encodings (p.done ++ (passed ∷ left))) ≤ length d = rw split at p.fits.room in
      let a = p.to_is in let b = p.same in
      omega (arith, encodings-room p.done passed left)

  -- There is room for its two numbers.
  pub next_place : at + entry_size ≤ entry_place count
  next_place =
      let m : count ≡ length (p.done ++ (passed ∷ left)) = rw split at p.fits.counted in
      let a = p.at-is in
      omega (arith, length-append p.done (passed ∷ left))

  -- It is written: its encoding, its number and its length.
  pub put-more : (end : ℕ) (a b c : List ℕ) → end ≡ to + length encoded → a ≡ written out to encoded
      → b ≡ written a at (two_bytes t.blank) → c ≡ written b (at + count_size) (two_bytes (end - to)) → length c ≡ length out
      → Put σ τ count d c k l (at + entry_size) end
  put-more end a b c ends ha hb hc same =
      let e : Numbered Shape = passed in
      let w : List ℕ = encode e.item in
      let x : List ℕ = heads p.done in
      let y : List ℕ = encodings p.done in
      let n : List ℕ = two_bytes e.number in
      let m : List ℕ = two_bytes (length w) in
      let hx = heads-length p.done in let ta = p.at-is in let tt = p.to_is in let ps = p.same in let np = next_place in let nr = next-room in
      let l : end - to ≡ length w = omega arith in
      let q : at ≡ count_size + length x = omega arith in
      let k : length (written out to w) ≡ length out = written-length out to w nr in
      let g : c ≡ written (written out to w) at (n ++ m) = rw (hc, hb, ha, u.blank, l) (written_after (written out to w) at n m (omega arith)) in
      let z : written (written out to w) at (n ++ m) ≡ written (written d count_size (x ++ (n ++ m))) (bodies count) (y ++ w) =
      rw (q, tt, p.wrote) (two_runs d x y (n ++ m) w count_size (bodies count) (omega arith) (omega arith)) in
      record {
        fits = p.fits;
        done = p.done ++ (e ∷ []);
        goes = split ∙ sym (append_assoc p.done (e ∷ []) left);
        at-is = omega (arith, length-append p.done (e ∷ []));
        to_is = rw (encodings-append p.done (e ∷ []), encoding-one e, length-append y w) (omega arith);
        same = same ∙ ps;
        wrote = rw (heads-append p.done (e ∷ []), head-one e, encodings-append p.done (e ∷ []), encoding-one e) (g ∙ z);
      }

-- With the two counts the sheet is written.
pub put-counts : (d : List ℕ) (σ : Sheet) (count bytes : ℕ) (a b c : List ℕ) → count ≡ length σ → bytes ≡ length (encodings σ)
    → bodies count + bytes ≤ length d → a ≡ written (written d count_size (heads σ)) (bodies count) (encodings σ)
    → b ≡ written a 0 (two_bytes count) → c ≡ written b (entry_place count) (two_bytes bytes) → c ≡ written d 0 (sheet_bytes σ)
unfolding sheet_bytes
put-counts d σ count bytes a b c hn hm r ha hb hc =
    let x : List ℕ = heads σ in
    let y : List ℕ = encodings σ in
    let u : List ℕ = two_bytes count in
    let v : List ℕ = two_bytes bytes in
    let f : List ℕ = written d 0 (u ++ x) in
    let hx = heads-length σ in
    let l : length (written d count_size x) ≡ length d = written-length d count_size x (omega arith) in
    let m : length f ≡ length d = written-length d 0 (u ++ x) (omega arith) in
    let z : 0 + length (u ++ x) ≡ entry_place count = omega arith in
    let o : written f (entry_place count) (v ++ y) ≡ written d 0 ((u ++ x) ++ (v ++ y)) = rw z at (written_after d 0 (u ++ x) (v ++ y) (omega arith)) in
    rw (
      hc,
      hb,
      ha,
      written_apart (written d count_size x) 0 (bodies count) u y (omega arith) (omega arith),
      written-before d 0 u x (omega arith),
      written-before f (entry_place count) v y (omega arith),
      o,
      hn,
      hm,
    )
