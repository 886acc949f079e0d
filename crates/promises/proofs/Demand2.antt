-- Demand 2, over the exported calls: "The reader accepts exactly the encodings of shapes within the limits. Two such shapes have equal bytes exactly
-- when they are the same shape. Shape to bytes and bytes to shape undo each other. A fill gives the encoding of the template with all named blanks
-- replaced at one moment." (That such shapes have equal bytes exactly when they are the same is of no call: `same-exactly`, Exact.antt.) The lent
-- buffers hold b₁, b₂, .. before, and a₁, a₂, .. after.
--     board-read-exact       `shiulbart_read` accepts exactly the encodings of the shapes within the limits
--     board-sheet-exact      `shiulbart_sheet` accepts exactly the bytes of the sheets within the limits
--     board-fill-exact, board-join-exact, board-write-exact, board-records-exact, board-table-exact
--                            what each makes: exactly the bytes that it is to make, with the least room
--     board-fill-replaces    what `shiulbart_fill` made is the template's shape with the named blanks replaced, all at one moment
--     board-join-joins       what `shiulbart_join` made is the first sheet filled by the second, with what only the second names
--     board-table-back       a table that `shiulbart_table` made is written back to the bytes that it was made of
--     board-table-again      made once more of those bytes, the table is the same, byte for byte
--     board-write-back       what `shiulbart_write` made is made into a table that means the same shape
--     board-table-longest    no table that is made has more than 61,448 bytes
--     board-records-same     `shiulbart_write_records` does what `shiulbart_write` does of the same table in bytes
--     board-child-exact, board-packed-exact, board-name-exact     what is said of child k and of name k is what they are in the shape
--     board-child-is, board-child-apart, board-child-read         children with bytes are accepted encodings, inside the payload, and share no byte
--     board-child-packed     a packed parent's child is the primitive of its number
--     board-name-is          a name's bytes are its text
-- Assumes nothing.
use Prim.Native.Nat.{ℕ, ◌+◌, ◌≤◌, ◌<◌}
use mathlib.Core.Path.{◌≡◌, refl, sym, ◌∙◌, ap}
use mathlib.Core.Logic.{◌↔◌}
use mathlib.Core.List.{List}
use native.Mathlib.Omega.{arith}
use lib.ListN.{length, take, drop, length-take, length-drop}
use Rattle.meaning.specs.Limits.{max_nodes, longest_made}
use Rattle.meaning.specs.Shape.{Primitive, prim, Shape, depth}
use Rattle.meaning.specs.FirstByte.{code}
use Rattle.meaning.specs.Encode.{encode}
use Rattle.meaning.specs.Parts.{part, packed_prim, children, child_shape, child_of, names, name_text, name_place}
use Rattle.meaning.specs.Sheet.{Sheet, fill, join, encodings, sheet_bytes}
use Rattle.meaning.specs.Table.{Table, table_bytes, table_shape}
use Rattle.meaning.specs.TableReading.{TableWithin}
use Rattle.meaning.proofs.Answers.{Filled, Joined}
use Rattle.meaning.proofs.TableAnswers as Meant
use Rattle.editor.specs.declared.Node.{Node}
use Rattle.editor.specs.Records.{same_table}
use Rattle.answers.specs.declared.Answer.{Answer}
use Rattle.answers.specs.Answers.{answered, said_put, accepted_put, child_put, name_put, sound_put}
use Rattle.promises.specs.Told.{IsShape, IsSheet, IsTable, Found, Answered, wrote, Makes, MakesExactly, HasBytes, HasNone, InPayload}
use Rattle.promises.proofs.Calls.{BoardRead, BoardChild, BoardName, BoardSheet, BoardFill, BoardJoin, BoardWrite, BoardRecords, BoardTable}
use Rattle.promises.proofs.Front.{fill-made, join-made, write-made, table-made, filled_in, joined_in, wrote-in, tabled-in}
use Rattle.promises.proofs.Exact.{read-exact, check-exact, table-back, table-again, write-back, table-longest, fill-replaces, join-joins}
use Rattle.promises.proofs.Records.{RecordsWrote, records-same, records-made, records-in}
use Rattle.promises.proofs.Found.{child-exact, name-exact, child-stands, children-apart, packed-is, name-stands}
use Rattle.promises.proofs.Below.{alike, numbered, placed, sized, more, read_below, child-below, name_below, sheet-below, write-below, records-below, table_below, read-accepted, sheet-sound, child-part, child-packed, name-text, makes, fill-makes, join-makes, write-makes, records-makes, table-makes, fill-wrote, join-wrote, write-wrote, records-wrote, table-wrote}

module _ {r : Answer} where
  -- `shiulbart_read` accepts exactly the encodings of the shapes within the limits, and says their length and depth.
  pub board-read-exact : {bytes : List ℕ} → BoardRead bytes r → (l d : ℕ) → (r ≡ answered 0 l d) ↔ ((s : Shape) × IsShape bytes s × (l ≡ length bytes) × (d ≡ depth s))
  board-read-exact c l d = (
    λ h. let e = (read-exact (read-accepted (numbered h) c) r.length r.extra).0 refl in (e.0, e.1, sym (sized h) ∙ e.2, sym (more h) ∙ e.3),
    λ h. let b = read_below c in b.is ∙ ap (said_put accepted_put) ((read-exact b.run l d).1 h),
  )

  -- `shiulbart_sheet` accepts exactly the bytes of the sheets within the limits, and says how many bytes of encodings and entries they have.
  pub board-sheet-exact : {sheet : List ℕ} → BoardSheet sheet r → (l e : ℕ) → (r ≡ answered 0 l e) ↔ ((σ : Sheet) × IsSheet sheet σ × (l ≡ length (encodings σ)) × (e ≡ length σ))
  board-sheet-exact c l e = (
    λ h. let q = (check-exact (sheet-sound (numbered h) c) r.extra r.length).0 refl in (q.0, q.1, sym (sized h) ∙ q.3, sym (more h) ∙ q.2),
    λ h. let b = sheet-below c in b.is ∙ ap (said_put sound_put) ((check-exact b.run e l).1 (h.0, h.1, h.3, h.2)),
  )

module _ {b₁ a₁ b₂ a₂ : List ℕ} {r₁ r₂ : Answer} where
  -- A table that `shiulbart_table` made is written back to the bytes that it was made of.
  pub board-table-back : {bytes : List ℕ} → BoardTable bytes b₁ r₁ a₁ → Answered r₁ → BoardWrite (take r₁.length a₁) b₂ r₂ a₂ → Makes bytes b₂ r₂ a₂
  board-table-back c z w = let b = write-below w in makes b (table-back (table-wrote z c).0 b.run)

  -- Made once more of those bytes, the table is the same, byte for byte.
  pub board-table-again : {bytes b₃ a₃ : List ℕ} {r₃ : Answer} → BoardTable bytes b₁ r₁ a₁ → Answered r₁ → BoardWrite (take r₁.length a₁) b₂ r₂ a₂ → Answered r₂ → BoardTable (take r₂.length a₂) b₃ r₃ a₃
      → Makes (take r₁.length a₁) b₃ r₃ a₃
  board-table-again c z w y d = let b = table_below d in makes b (table-again (table-wrote z c).0 (write-wrote y w).0 b.run)

  -- What `shiulbart_write` made is made into a table that means the same shape.
  pub board-write-back : {table : List ℕ} → BoardWrite table b₁ r₁ a₁ → Answered r₁ → BoardTable (take r₁.length a₁) b₂ r₂ a₂
      → (T T' : Table) × IsTable table T × TableWithin T' × (table_shape T' ≡ table_shape T) × Makes (table_bytes T') b₂ r₂ a₂
  board-write-back w z d = let b = table_below d in let e = write-back (write-wrote z w).0 b.run in (e.0, e.1, e.2, e.3, e.4, makes b e.5)

module _ {before after : List ℕ} {r : Answer} where
  -- `shiulbart_fill` makes exactly the encoding of the filled template, where template, sheet and filled shape are within the limits.
  pub board-fill-exact : {template sheet : List ℕ} → BoardFill template sheet before r after → MakesExactly (Filled template sheet) before r after
  board-fill-exact c = record { makes = λ w f. fill-makes c (filled_in f); made = λ z. fill-made (fill-wrote z c).0 }

  -- `shiulbart_join` makes exactly the bytes of the joined sheet,
  pub board-join-exact : {first second : List ℕ} → BoardJoin first second before r after → MakesExactly (Joined first second) before r after
  board-join-exact c = record { makes = λ w f. join-makes c (joined_in f); made = λ z. join-made (join-wrote z c).0 }

  -- `shiulbart_write` the encoding of the shape that a table means,
  pub board-write-exact : {table : List ℕ} → BoardWrite table before r after → MakesExactly (Meant.Wrote table) before r after
  board-write-exact c = record { makes = λ w f. write-makes c (wrote-in f); made = λ z. write-made (write-wrote z c).0 }

  -- `shiulbart_write_records` the same of a table in records,
  pub board-records-exact : {nodes : List Node} {rest : List ℕ} → BoardRecords nodes rest before r after → MakesExactly (RecordsWrote nodes rest) before r after
  board-records-exact c = record { makes = λ w f. records-makes c (records-in f); made = λ z. records-made (records-wrote z c).0 }

  -- and `shiulbart_table` the table of an encoding.
  pub board-table-exact : {bytes : List ℕ} → BoardTable bytes before r after → MakesExactly (Meant.Tabled bytes) before r after
  board-table-exact c = record { makes = λ w f. table-makes c (tabled-in f); made = λ z. table-made (table-wrote z c).0 }

  -- No table that is made has more than 61,448 bytes.
  pub board-table-longest : {bytes : List ℕ} → BoardTable bytes before r after → Answered r → r.length ≤ longest_made
  board-table-longest c z = table-longest (table-wrote z c).0

  -- What `shiulbart_fill` made is the template's shape with the blanks that the sheet names replaced, all at one moment.
  pub board-fill-replaces : {template sheet : List ℕ} → BoardFill template sheet before r after → Answered r
      → (t : Shape) × (σ : Sheet) × IsShape template t × IsSheet sheet σ × IsShape (take r.length after) (fill σ t) × (r ≡ wrote (length (encode (fill σ t))))
  board-fill-replaces c z = let w = fill-wrote z c in let f = fill-replaces w.0 in (f.0, f.1, f.2, f.3, f.4, w.1 ∙ ap wrote f.5)

  -- What `shiulbart_join` made is the joined sheet: each blank of the first with its shape filled by the second, and each blank only in the second as
  -- it is there.
  pub board-join-joins : {first second : List ℕ} → BoardJoin first second before r after → Answered r
      → (σ τ : Sheet) × IsSheet first σ × IsSheet second τ × IsSheet (take r.length after) (join σ τ) × (r ≡ wrote (length (sheet_bytes (join σ τ))))
  board-join-joins c z = let w = join-wrote z c in let f = join-joins w.0 in (f.0, f.1, f.2, f.3, f.4, w.1 ∙ ap wrote f.5)

  -- `shiulbart_write_records` says and leaves what `shiulbart_write` does of the same table in bytes, where there can be one.
  pub board-records-same : {nodes : List Node} {rest after' : List ℕ} {r' : Answer} → BoardRecords nodes rest before r after → BoardWrite (same_table nodes rest) before r' after' → 1 ≤ length nodes → length nodes ≤ max_nodes
      → (r ≡ r') × (after ≡ after')
  board-records-same c w some few = let e = records-same (records-below c).run (write-below w).run some few in (alike (records-below c) (write-below w) e.0, e.1)

-- A part that ends inside has its length.
part_length : (size place : ℕ) (bytes : List ℕ) → place + size ≤ length bytes → length (take size (drop place bytes)) ≡ size
part_length size place bytes h = simp (length-take, length-drop) (omega arith)

module _ {bytes : List ℕ} {k : ℕ} {r : Answer} where
  -- What is said of a child is exactly what child k of the shape is: its place and length,
  pub board-child-exact : BoardChild bytes k r → (place size : ℕ) → (r ≡ answered place size 0) ↔ Found bytes (λ s. (k < length (children s)) × (child_of s k ≡ part place size))
  board-child-exact c place size = (
    λ h. rw (placed h, sized h) at ((child-exact (child-part (numbered h) c (more h)) (part r.place r.length)).0 refl),
    λ f. let b = child-below c in b.is ∙ ap (said_put child_put) ((child-exact b.run (part place size)).1 f),
  )

  -- or, where the parent is packed, a primitive's number.
  pub board-packed-exact : BoardChild bytes k r → (number : ℕ) → (r ≡ answered number 0 1) ↔ Found bytes (λ s. (k < length (children s)) × (child_of s k ≡ packed_prim number))
  board-packed-exact c number = (
    λ h. rw (placed h) at ((child-exact (child-packed (numbered h) c (more h)) (packed_prim r.place)).0 refl),
    λ f. let b = child-below c in b.is ∙ ap (said_put child_put) ((child-exact b.run (packed_prim number)).1 f),
  )

  -- What is said of a name is exactly where name k of the shape is, and how long.
  pub board-name-exact : BoardName bytes k r → (place size : ℕ) → (r ≡ answered place size 0) ↔ Found bytes (λ s. (k < length (names s)) × (name_place s k ≡ place) × (length (name_text s k) ≡ size))
  board-name-exact c place size = (
    λ h. rw (placed h, sized h) at ((name-exact (name-text (numbered h) c) r.place r.length).0 refl),
    λ f. let b = name_below c in b.is ∙ ap (said_put name_put) ((name-exact b.run place size).1 f),
  )

  -- A child with bytes stands inside the parent's payload, and is the encoding of the parent's child k, which is within the limits.
  pub board-child-is : BoardChild bytes k r → HasBytes r → Found bytes (λ s. (k < length (children s)) × IsShape (take r.length (drop r.place bytes)) (child_shape s k) × InPayload bytes r.place r.length)
  board-child-is c h = child-stands (child-part h.0 c h.1)

  -- So `shiulbart_read` accepts it, whole.
  pub board-child-read : {r' : Answer} → BoardChild bytes k r → HasBytes r → BoardRead (take r.length (drop r.place bytes)) r' → Answered r' × (r'.length ≡ r.length)
  board-child-read c h d =
      let f = (board-child-is c h).2 in
      let e = (board-read-exact d _ _).1 (_, f.1, refl, refl) in
      (numbered e, sized e ∙ part_length r.length r.place bytes f.2.1)

  -- Of two children with bytes the first ends where the second starts, or before: they share no byte.
  pub board-child-apart : {j : ℕ} {r' : Answer} → BoardChild bytes j r' → HasBytes r' → BoardChild bytes k r → HasBytes r → j < k → r'.place + r'.length ≤ r.place
  board-child-apart c h d g = children-apart (child-part h.0 c h.1) (child-part g.0 d g.1)

  -- A child without bytes, of a packed parent, is the primitive whose number is told.
  pub board-child-packed : BoardChild bytes k r → HasNone r → Found bytes (λ s. (k < length (children s)) × ((p : Primitive) × (child_shape s k ≡ prim p) × (r.place ≡ code p)))
  board-child-packed c h = packed-is (child-packed h.0 c h.1)

  -- A name's bytes are its text, inside the payload.
  pub board-name-is : BoardName bytes k r → Answered r → Found bytes (λ s. (k < length (names s)) × (take r.length (drop r.place bytes) ≡ name_text s k) × InPayload bytes r.place r.length)
  board-name-is c z = name-stands (name-text z c)
