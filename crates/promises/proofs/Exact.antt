-- The laws behind demand 2, over the calls: what is accepted, that tables and bytes undo each other, and what `fill` and `join` make.
--     read-exact         `read` accepts exactly the encodings of the shapes within the limits
--     check-exact        `check` accepts exactly the bytes of the sheets within the limits
--     same-exactly       two shapes within the limits have the same bytes exactly if they are the same
--     table-back         `write` turns a table that `to_table` made back into the bytes that it was made of
--     table-again        made once more of those bytes, the table is the same, byte for byte
--     write-back         `to_table` turns what `write` made into a table that means the same shape
--     table-longest      no table that `to_table` made has more than 61,448 bytes
--     fill-replaces      what `fill` made is the template's shape with the named blanks replaced, all at one moment
--     join-joins         what `join` made is the first sheet filled by the second, with what only the second names
-- Assumes nothing.
use Prim.Native.Nat.{ℕ, ◌≤◌}
use mathlib.Core.Path.{◌≡◌, refl, sym, ◌∙◌, ap}
use mathlib.Core.Logic.{◌↔◌}
use mathlib.Core.List.{List}
use native.Mathlib.Omega.{arith}
use lib.ListN.{length, take}
use Rattle.meaning.specs.Limits.{longest_made}
use Rattle.meaning.specs.Refusals.{sheet_broken}
use Rattle.meaning.specs.Shape.{Shape, depth}
use Rattle.meaning.specs.Encode.{encode}
use Rattle.meaning.specs.Reading.{Reading, got, bad, reading}
use Rattle.meaning.specs.Sheet.{Sheet, fill, join, encodings, sheet_bytes}
use Rattle.meaning.specs.SheetReading.{read_sheet}
use Rattle.meaning.specs.Table.{Table, table_bytes, table_shape, table_of}
use Rattle.meaning.specs.TableReading.{TableWithin}
use Rattle.meaning.proofs.Laws.{reading-encode, encode-reading, same_bytes}
use Rattle.meaning.proofs.SheetBytes.{read-sheet, sheet-read}
use Rattle.meaning.proofs.TableSize.{made-length, made-within}
use Rattle.meaning.proofs.Answers.{room-answered}
use Rattle.meaning.proofs.TableAnswers.{table-write, write-table, same-meaning}
use Rattle.std.specs.Prelude.{Ok}
use Rattle.reader.specs.declared.Accepted.{Accepted}
use Rattle.reader.specs.Said.{said, accepted}
use Rattle.sheets.specs.declared.Sound.{Sound}
use Rattle.sheets.specs.Said.{checked, sound}
use Rattle.promises.specs.Told.{IsShape, IsSheet, IsTable}
use Rattle.promises.proofs.Calls.{Judged, Checked, Made, Read, Check, Fill, Join, Write, Tabled}
use Rattle.promises.proofs.Says.{MakesIn, read-says, check-says, fill-says, join-says, table-says}
use Rattle.promises.proofs.Front.{front-is, write-front-is, fill-made, join-made, write-made, table-made, wrote-in, write-makes-in, table-makes-in}

-- What is said of the encoding of a shape within the limits.
shape-said : (bytes : List ℕ) (s : Shape) → IsShape bytes s → said (reading bytes) ≡ Ok (accepted (length bytes) (depth s))
shape-said bytes s h = rw (h.encoded, reading-encode s h.within)

-- What is said of the bytes of a sheet within the limits.
sheet-said : (bytes : List ℕ) (σ : Sheet) → IsSheet bytes σ → checked (read_sheet sheet_broken bytes) ≡ Ok (sound (length σ) (length (encodings σ)))
sheet-said bytes σ h = rw (h.encoded, read-sheet sheet_broken σ h.within)

-- `read` accepts exactly the encodings of the shapes within the limits, and says their length and depth.
pub read-exact : {bytes : List ℕ} {r : Judged} → Read bytes r → (l d : ℕ) → (r ≡ Ok (accepted l d)) ↔ ((s : Shape) × IsShape bytes s × (l ≡ length bytes) × (d ≡ depth s))
read-exact {bytes} {r} c l d = (λ h. go (reading bytes) refl (sym (read-says c) ∙ h), λ h. read-says c ∙ shape-said bytes h.0 h.1 ∙ rw (h.2, h.3))
  where
    go : (m : Reading Shape) → reading bytes ≡ m → said m ≡ Ok (accepted l d) → (s : Shape) × IsShape bytes s × (l ≡ length bytes) × (d ≡ depth s)
    go (got s v) p h = let e = encode-reading bytes s v c.small p in
        let k : accepted (length (encode s)) (depth s) ≡ accepted l d = cc in
        (s, record { encoded = e.0; within = e.1 }, rw e.0 (sym (ap (λ (a : Accepted). a.length) k)), sym (ap (λ (a : Accepted). a.depth) k))
    go (bad n q) p h = let z : ◌≡◌ {A = ℕ} 0 1 = cc in absurd (omega arith)

-- `check` accepts exactly the bytes of the sheets within the limits, and says how many entries and bytes of encodings they have.
pub check-exact : {sheet : List ℕ} {r : Checked} → Check sheet r → (e l : ℕ) → (r ≡ Ok (sound e l)) ↔ ((σ : Sheet) × IsSheet sheet σ × (e ≡ length σ) × (l ≡ length (encodings σ)))
check-exact {sheet} {r} c e l = (λ h. go (read_sheet sheet_broken sheet) refl (sym (check-says c) ∙ h), λ h. check-says c ∙ sheet-said sheet h.0 h.1 ∙ rw (h.2, h.3))
  where
    go : (m : Reading Sheet) → read_sheet sheet_broken sheet ≡ m → checked m ≡ Ok (sound e l) → (σ : Sheet) × IsSheet sheet σ × (e ≡ length σ) × (l ≡ length (encodings σ))
    go (got σ v) p h = let f = sheet-read sheet_broken sheet σ v c.small p in
        let k : sound (length σ) (length (encodings σ)) ≡ sound e l = cc in
        (σ, record { encoded = f.0; within = f.1 }, sym (ap (λ (a : Sound). a.entries) k), sym (ap (λ (a : Sound). a.bytes) k))
    go (bad n q) p h = let z : ◌≡◌ {A = ℕ} 0 1 = cc in absurd (omega arith)

-- Two inputs that are shapes within the limits are the same bytes exactly if they are the same shape.
pub same-exactly : {bytes bytes' : List ℕ} {s s' : Shape} → IsShape bytes s → IsShape bytes' s' → (bytes ≡ bytes') ↔ (s ≡ s')
same-exactly {s = s} {s' = s'} a b =
    let e = same_bytes s s' a.within b.within in
    (λ h. e.0 (sym a.encoded ∙ h ∙ b.encoded), λ h. a.encoded ∙ e.1 h ∙ sym b.encoded)

-- `write` turns a table that `to_table` made back into the bytes that it was made of.
pub table-back : {bytes b₁ a₁ b₂ a₂ : List ℕ} {n : ℕ} {r : Made} → Tabled bytes b₁ (Ok n) a₁ → Write (take n a₁) b₂ r a₂ → MakesIn bytes b₂ r a₂
table-back c = write-makes-in (table-write (table-made c))

-- Whatever the room, what `write` makes of it are those bytes.
one-writing : {bytes b₁ a₁ b₂ a₂ : List ℕ} {n m : ℕ} → Tabled bytes b₁ (Ok n) a₁ → Write (take n a₁) b₂ (Ok m) a₂ → take m a₂ ≡ bytes
one-writing {bytes} {b₂ = b₂} c w = sym (room-answered _ bytes _ (sym (wrote-in (table-write (table-made c)) (length b₂)) ∙ write-front-is w)).0

-- A table that `to_table` made, written and made once more, is the same, byte for byte.
pub table-again : {bytes b₁ a₁ b₂ a₂ b₃ a₃ : List ℕ} {n m : ℕ} {r : Made} → Tabled bytes b₁ (Ok n) a₁ → Write (take n a₁) b₂ (Ok m) a₂ → Tabled (take m a₂) b₃ r a₃ → MakesIn (take n a₁) b₃ r a₃
table-again c w = table-makes-in (rw (one-writing c w) (table-made c))

-- `to_table` turns what `write` made into a table that means the same shape.
pub write-back : {table b₁ a₁ b₂ a₂ : List ℕ} {n : ℕ} {r : Made} → Write table b₁ (Ok n) a₁ → Tabled (take n a₁) b₂ r a₂
    → (T T' : Table) × IsTable table T × TableWithin T' × (table_shape T' ≡ table_shape T) × MakesIn (table_bytes T') b₂ r a₂
write-back w d =
    let x = write-made w in
    (x.T, table_of (table_shape x.T), record { encoded = x.T-is; within = x.T-within }, made-within _ x.made-within, same-meaning x.T, table-makes-in (write-table x) d)

-- No table that `to_table` made has more than 61,448 bytes.
pub table-longest : {bytes before after : List ℕ} {n : ℕ} → Tabled bytes before (Ok n) after → n ≤ longest_made
table-longest {before = before} c = let t = table-made c in let e = rw t.is at (front-is _ before (table-says c)).1 in rw (← e) (made-length t.s t.s-within)

-- What `fill` made is the template's shape with the blanks that the sheet names replaced, all at one moment.
pub fill-replaces : {template sheet before after : List ℕ} {n : ℕ} → Fill template sheet before (Ok n) after
    → (t : Shape) × (σ : Sheet) × IsShape template t × IsSheet sheet σ × IsShape (take n after) (fill σ t) × (n ≡ length (encode (fill σ t)))
fill-replaces {before = before} {n = n} c =
    let f = fill-made c in
    (f.t, f.σ, record { encoded = f.t-is; within = f.t_within }, record { encoded = f.σ-is; within = f.σ-within }, record { encoded = f.is; within = f.made-within }, rw (← f.is) (sym (front-is _ before (fill-says c)).1))

-- What `join` made is the joined sheet: each blank of the first with its shape filled by the second, and each blank only in the second as it is there.
pub join-joins : {first second before after : List ℕ} {n : ℕ} → Join first second before (Ok n) after
    → (σ τ : Sheet) × IsSheet first σ × IsSheet second τ × IsSheet (take n after) (join σ τ) × (n ≡ length (sheet_bytes (join σ τ)))
join-joins {before = before} {n = n} c =
    let f = join-made c in
    (f.σ, f.τ, record { encoded = f.σ-is; within = f.σ-within }, record { encoded = f.τ-is; within = f.τ-within }, record { encoded = f.is; within = f.made-within }, rw (← f.is) (sym (front-is _ before (join-says c)).1))
