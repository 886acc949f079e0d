-- Demand 1, over the exported calls: "Any bytes may arrive, in any call. Each call ends and answers, or refuses with a number and a place from the
-- table, exactly when the table says so; it trusts no caller to have looked first. After a refusal every lent buffer holds what it held before."
-- (That no call asks anything stands where the calls are: board/proofs/Asks.antt.)
--     board-read-runs .. board-table-runs           whatever bytes are lent, there is a run, and its four numbers fit 32 bits each
--     board-read-once .. board-table-once           one outcome: what was lent the same bytes says the same, and leaves the same bytes
--     board-read-tells .. board-table-tells         it refuses with number n at the place p exactly when a clause of specs/Order.antt, or for read and sheet
--                                                   reading itself, gives these, and the other two numbers are then 0; of a call that writes, what it leaves in the lent buffer besides
--     joined-rises                                  of no call: the entries of a joined sheet, by which the clauses of a joining go, stand by rising number
--     board-read-numbers .. board-table-numbers     the number of a refusal is one that the document lists for the call
-- Assumes nothing.
use Prim.Native.Nat.{ℕ, ◌<◌, zero-le}
use mathlib.Core.Path.{◌≡◌, refl, sym, subst}
use mathlib.Core.List.{List, [], ◌∷◌, ◌++◌, map, Memᴰ as OneOf}
use mathlib.Core.Logic.Iff
use mathlib.Core.Logic.{◌↔◌}
use native.Mathlib.Omega.{arith}
use contract.Lifetimes.{Lfts}
use denote.Ref.{Bor}
use lib.ListN.{length}
use Rattle.meaning.specs.Refusals.{buffer_short, sheet_broken, second_broken, section_broken, node_broken, name_broken, made_too_deep, made_too_long, joined_too_large, no_such_part}
use Rattle.meaning.specs.Within.{Bytes}
use Rattle.meaning.specs.Reading.{got, bad, reading}
use Rattle.meaning.specs.Parts.{children, names}
use Rattle.meaning.specs.Numbered.{Rising}
use Rattle.meaning.specs.Sheet.{Sheet, join}
use Rattle.meaning.specs.SheetReading.{read_sheet}
use Rattle.meaning.specs.TableReading.{NodesFit}
use Rattle.meaning.specs.Answers.{fill_answer, join_answer, write_answer, table_answer}
use Rattle.meaning.proofs.Join.{join-rising}
use Rattle.meaning.proofs.SheetBytes.{sheet-read}
use Rattle.meaning.proofs.Bounds.{fill-told, join-told}
use Rattle.meaning.proofs.TableAnswers.{write-told, table-told}
use Rattle.std.specs.Prelude.{Result, Ok, Err}
use Rattle.leaves.specs.declared.refusals.Refusal.{Refusal}
use Rattle.leaves.proofs.Faults.{fault-some}
use Rattle.parts.specs.declared.FoundChild.{FoundChild}
use Rattle.parts.specs.declared.FoundChild.TheVariants.{Part, Primitive}
use Rattle.editor.specs.declared.Node.{Node}
use Rattle.editor.specs.Records.{meant}
use Rattle.answers.specs.declared.Answer.{Answer}
use Rattle.answers.specs.Answers.{Fits, said_put, accepted_put, child_put, name_put, sound_put, written_put}
use Rattle.answers.proofs.Small.{Given, exported, exported-child, exported-name, exported-sheet, exported-made}
use Rattle.board.proofs.Small.{records-told}
use Rattle.promises.specs.Order.{read_numbers, PartRefuses, FillRefuses, JoinRefuses, WriteRefuses, RecordsRefuses, TableRefuses, Refused}
use Rattle.promises.specs.Told.{FrontOnly, Tells, Keeps}
use Rattle.promises.proofs.Calls.{Made, Lent, Buffer, Two, Three, Into, IntoOfTwo, BoardRead, BoardChild, BoardName, BoardSheet, BoardFill, BoardJoin, BoardWrite, BoardRecords, BoardTable}
use Rattle.promises.proofs.Once.{read-once, child-once, name-once, check-once, fill-once, join-once, write-once, records-once, table-once}
use Rattle.promises.proofs.Refusing.{read-refuses, read-numbers, child-refuses, name-refuses, part-numbers, check-refuses, check-numbers, fill-refuses, fill-numbers, fill-kept, fill-front, join-refuses, join-numbers, join_kept, join_front, write-refuses, write-numbers, write_kept, write-front, table-refuses, table-numbers, table_kept, table-front}
use Rattle.promises.proofs.Records.{records-refuses, records-numbers, records-kept, records-front}
use Rattle.promises.proofs.Below.{Below, alike, read_below, child-below, name_below, sheet-below, fill-below, join-below, write-below, records-below, table_below, made_put}

-- a slice lent at some place, for some time
abbrev pub lent_slice : {A : Type 0} → List A → Bor (List A)
lent_slice w = record { ref_ptr = (0, 0); now = w }

-- a buffer that is lent, wherever it stands and whatever its name
abbrev lent_buffer : List ℕ → Buffer
lent_buffer w = record { ref_ptr = (0, 0); ghost_name = 0; now = w }

abbrev pub some1 : Lfts 1
some1 = ([], tt)

abbrev some2 : Lfts 2
some2 = ([], some1)

abbrev some3 : Lfts 3
some3 = ([], some2)

-- What is given fits.
pub given-fits : {a b : Answer} → Given a b → Fits b
given-fits g = subst Fits g.is g.fits

-- There is a run, whatever is lent.
pub board-read-runs : (bytes : List ℕ) → Bytes bytes → (r : Answer) × BoardRead bytes r × Fits r
board-read-runs bytes h = (_, record { κs = some1; a = (lent_slice bytes, tt); s = (lent_slice bytes, tt); allowed = refl; lent = refl; small = h }, given-fits (exported bytes h))

pub board-child-runs : (bytes : List ℕ) (k : ℕ) → Bytes bytes → (r : Answer) × BoardChild bytes k r × Fits r
board-child-runs bytes k h = (_, record { κs = some1; a = (lent_slice bytes, (k, tt)); s = (lent_slice bytes, (k, tt)); allowed = refl; lent = refl; asked = refl; small = h }, given-fits (exported-child bytes h k))

pub board-name-runs : (bytes : List ℕ) (k : ℕ) → Bytes bytes → (r : Answer) × BoardName bytes k r × Fits r
board-name-runs bytes k h = (_, record { κs = some1; a = (lent_slice bytes, (k, tt)); s = (lent_slice bytes, (k, tt)); allowed = refl; lent = refl; asked = refl; small = h }, given-fits (exported-name bytes h k))

pub board-sheet-runs : (sheet : List ℕ) → Bytes sheet → (r : Answer) × BoardSheet sheet r × Fits r
board-sheet-runs sheet h = (_, record { κs = some1; a = (lent_slice sheet, tt); s = (lent_slice sheet, tt); allowed = refl; lent = refl; small = h }, given-fits (exported-sheet sheet h))

-- A run of a call that writes, made of what its contract allows.
two_run : {Post : Lfts 3 → Three Lent Lent Buffer → Answer → Three Lent Lent Buffer → Type 0} {first second before after : List ℕ} {r : Answer}
    → Post some3 (lent_slice first, (lent_slice second, (lent_buffer before, tt))) r (lent_slice first, (lent_slice second, (lent_buffer after, tt))) → Bytes first × Bytes second → IntoOfTwo Post first second before r after
two_run p h = record { κs = some3; a = (_, (_, (_, tt))); s = (_, (_, (_, tt))); allowed = p; first-lent = refl; second-lent = refl; buffer_lent = refl; buffer-left = refl; small = h }

into-run : {Post : Lfts 2 → Two Lent Buffer → Answer → Two Lent Buffer → Type 0} {bytes before after : List ℕ} {r : Answer}
    → Post some2 (lent_slice bytes, (lent_buffer before, tt)) r (lent_slice bytes, (lent_buffer after, tt)) → Bytes bytes → Into Post bytes before r after
into-run p h = record { κs = some2; a = (_, (_, tt)); s = (_, (_, tt)); allowed = p; lent = refl; buffer_lent = refl; buffer-left = refl; small = h }

pub board-fill-runs : (template sheet before : List ℕ) → Bytes template → Bytes sheet → (r : Answer) × (after : List ℕ) × BoardFill template sheet before r after × Fits r
board-fill-runs template sheet before h k = (_, _, two_run (refl, refl) (h, k), given-fits (exported-made (fill_answer template sheet (length before)) (fill-told _ _ _)))

pub board-join-runs : (first second before : List ℕ) → Bytes first → Bytes second → (r : Answer) × (after : List ℕ) × BoardJoin first second before r after × Fits r
board-join-runs first second before h k = (_, _, two_run (refl, refl) (h, k), given-fits (exported-made (join_answer first second (length before)) (join-told _ _ _ h k)))

pub board-write-runs : (table before : List ℕ) → Bytes table → (r : Answer) × (after : List ℕ) × BoardWrite table before r after × Fits r
board-write-runs table before h = (_, _, into-run (refl, refl) h, given-fits (exported-made (write_answer table (length before)) (write-told _ _)))

pub board-records-runs : (nodes : List Node) (rest before : List ℕ) → NodesFit (map meant nodes) → Bytes rest → (r : Answer) × (after : List ℕ) × BoardRecords nodes rest before r after × Fits r
board-records-runs nodes rest before h k = (
  _,
  _,
  record { κs = some3; a = (lent_slice nodes, (lent_slice rest, (lent_buffer before, tt))); s = (lent_slice nodes, (lent_slice rest, (lent_buffer _, tt))); allowed = refl; nodes-lent = refl; rest-lent = refl; buffer_lent = refl; buffer-left = refl; small = (h, k) },
  given-fits (exported-made _ (records-told nodes rest (length before))),
)

pub board-table-runs : (bytes before : List ℕ) → Bytes bytes → (r : Answer) × (after : List ℕ) × BoardTable bytes before r after × Fits r
board-table-runs bytes before h = (_, _, into-run (refl, refl) h, given-fits (exported-made (table_answer bytes (length before)) (table-told _ _ h)))

module _ {r r' : Answer} where
  -- One outcome, whatever the pointers: what was lent the same bytes says the same,
  pub board-read-once : {bytes : List ℕ} → BoardRead bytes r → BoardRead bytes r' → r ≡ r'
  board-read-once c d = alike (read_below c) (read_below d) (read-once (read_below c).run (read_below d).run)

  pub board-child-once : {bytes : List ℕ} {k : ℕ} → BoardChild bytes k r → BoardChild bytes k r' → r ≡ r'
  board-child-once c d = alike (child-below c) (child-below d) (child-once (child-below c).run (child-below d).run)

  pub board-name-once : {bytes : List ℕ} {k : ℕ} → BoardName bytes k r → BoardName bytes k r' → r ≡ r'
  board-name-once c d = alike (name_below c) (name_below d) (name-once (name_below c).run (name_below d).run)

  pub board-sheet-once : {sheet : List ℕ} → BoardSheet sheet r → BoardSheet sheet r' → r ≡ r'
  board-sheet-once c d = alike (sheet-below c) (sheet-below d) (check-once (sheet-below c).run (sheet-below d).run)

  module _ {before after after' : List ℕ} where
    -- and leaves the same bytes.
    pub board-fill-once : {template sheet : List ℕ} → BoardFill template sheet before r after → BoardFill template sheet before r' after' → (r ≡ r') × (after ≡ after')
    board-fill-once c d = let e = fill-once (fill-below c).run (fill-below d).run in (alike (fill-below c) (fill-below d) e.0, e.1)

    pub board-join-once : {first second : List ℕ} → BoardJoin first second before r after → BoardJoin first second before r' after' → (r ≡ r') × (after ≡ after')
    board-join-once c d = let e = join-once (join-below c).run (join-below d).run in (alike (join-below c) (join-below d) e.0, e.1)

    pub board-write-once : {table : List ℕ} → BoardWrite table before r after → BoardWrite table before r' after' → (r ≡ r') × (after ≡ after')
    board-write-once c d = let e = write-once (write-below c).run (write-below d).run in (alike (write-below c) (write-below d) e.0, e.1)

    pub board-records-once : {nodes : List Node} {rest : List ℕ} → BoardRecords nodes rest before r after → BoardRecords nodes rest before r' after' → (r ≡ r') × (after ≡ after')
    board-records-once c d = let e = records-once (records-below c).run (records-below d).run in (alike (records-below c) (records-below d) e.0, e.1)

    pub board-table-once : {bytes : List ℕ} → BoardTable bytes before r after → BoardTable bytes before r' after' → (r ≡ r') × (after ≡ after')
    board-table-once c d = let e = table-once (table_below c).run (table_below d).run in (alike (table_below c) (table_below d) e.0, e.1)

-- The four numbers tell a refusal, and of every other case they have the number 0.
told : {A : Type 0} (put : A → Answer) → ((a : A) → (put a).number ≡ 0) → (m : Result A Refusal) → Tells (said_put put m) (Refused m)
told put z (Ok a) = let e = z a in record { exactly = λ n p. (λ h. absurd (omega arith), λ h. absurd h); bare = λ h. absurd (omega arith) }
told put z (Err r) = let s = fault-some r.fault in record { exactly = λ n p. (λ h. (h.1, h.2), λ h. (omega (arith, h.0), h.0, h.1)); bare = λ h. refl }

-- A child that was found has the number 0, with bytes and without.
found-told : (c : FoundChild) → (child_put c).number ≡ 0
found-told (Part place length) = refl
found-told (Primitive number) = refl

-- By the same clauses, told of one answer and of four numbers that are it.
tells : {r a : Answer} {Q R : ℕ → ℕ → Type 0} → r ≡ a → Tells a Q → ((n p : ℕ) → Q n p ↔ R n p) → Tells r R
tells {r} {a} {Q} {R} e t o = subst (λ (r : Answer). Tells r R) (sym e) (record { exactly = λ n p. Iff.trans (t.exactly n p) (o n p); bare = t.bare })

module _ {r : Answer} where
  -- `shiulbart_read`: 1 to 8.
  pub board-read-tells : {bytes : List ℕ} → BoardRead bytes r → Tells r (λ n p. reading bytes ≡ bad n p)
  board-read-tells {bytes} c =
      let b = read_below c in let o = read-refuses b.run in
      tells b.is (told accepted_put (λ a. refl) b.m) o

  -- `shiulbart_child`: 1 to 8, then 18.
  pub board-child-tells : {bytes : List ℕ} {k : ℕ} → BoardChild bytes k r → Tells r (PartRefuses children bytes k)
  board-child-tells c =
      let b = child-below c in let o = child-refuses b.run in
      tells b.is (told child_put found-told b.m) o

  -- `shiulbart_name`: the same.
  pub board-name-tells : {bytes : List ℕ} {k : ℕ} → BoardName bytes k r → Tells r (PartRefuses names bytes k)
  board-name-tells c =
      let b = name_below c in let o = name-refuses b.run in
      tells b.is (told name_put (λ a. refl) b.m) o

  -- `shiulbart_sheet`: 13.
  pub board-sheet-tells : {sheet : List ℕ} → BoardSheet sheet r → Tells r (λ n p. read_sheet sheet_broken sheet ≡ bad n p)
  board-sheet-tells c = let b = sheet-below c in tells b.is (told sound_put (λ a. refl) b.m) (check-refuses b.run)

  -- Of a call that writes: when it refuses, and what it leaves of the lent buffer.
  made_tells : {Run : Made → Type 0} {before after : List ℕ} {R : ℕ → ℕ → Type 0} (b : Below made_put Run r) → ((n p : ℕ) → Refused b.m n p ↔ R n p)
      → ((e : Refusal) → Run (Err e) → after ≡ before) → ((n : ℕ) → Run (Ok n) → FrontOnly n before after) → Tells r R × Keeps r before after
  made_tells {Run} {before} {after} b o kept front = (tells b.is (told written_put (λ n. refl) b.m) o, keeps b.m b.run b.is)
    where
      keeps : (m : Made) → Run m → r ≡ made_put m → Keeps r before after
      keeps (Ok n) run e = rw e (λ l. absurd (omega arith), front n run)
      keeps (Err e') run e = rw (e, kept e' run) (λ _. refl, (zero-le, refl, refl))

  module _ {before after : List ℕ} where
    -- `shiulbart_fill`: 1 to 8, 13, 15, 16, 12.
    pub board-fill-tells : {template sheet : List ℕ} → BoardFill template sheet before r after → Tells r (FillRefuses template sheet (length before)) × Keeps r before after
    board-fill-tells c = let b = fill-below c in made_tells b (fill-refuses b.run) (λ e. fill-kept) (λ n. fill-front)

    -- `shiulbart_join`: 13, 14, 17, 15 and 16, 17, 12.
    pub board-join-tells : {first second : List ℕ} → BoardJoin first second before r after → Tells r (JoinRefuses first second (length before)) × Keeps r before after
    board-join-tells c = let b = join-below c in made_tells b (join-refuses b.run) (λ e. join_kept) (λ n. join_front)

    -- `shiulbart_write`: 9 to 11, 15, 16, 12.
    pub board-write-tells : {table : List ℕ} → BoardWrite table before r after → Tells r (WriteRefuses table (length before)) × Keeps r before after
    board-write-tells c = let b = write-below c in made_tells b (write-refuses b.run) (λ e. write_kept) (λ n. write-front)

    -- `shiulbart_write_records`: the same.
    pub board-records-tells : {nodes : List Node} {rest : List ℕ} → BoardRecords nodes rest before r after → Tells r (RecordsRefuses nodes rest (length before)) × Keeps r before after
    board-records-tells c = let b = records-below c in made_tells b (records-refuses b.run) (λ e. records-kept) (λ n. records-front)

    -- `shiulbart_table`: 1 to 8, 12.
    pub board-table-tells : {bytes : List ℕ} → BoardTable bytes before r after → Tells r (TableRefuses bytes (length before)) × Keeps r before after
    board-table-tells c = let b = table_below c in made_tells b (table-refuses b.run) (λ e. table_kept) (λ n. table-front)

-- The clauses of a joining go by the entries of the joined sheet in order: they stand by rising number.
pub joined-rises : (first second : List ℕ) {σ τ : Sheet} {v w : List ℕ} → Bytes first → Bytes second → read_sheet sheet_broken first ≡ got σ v → read_sheet second_broken second ≡ got τ w → Rising (join σ τ)
joined-rises first second b c h g = join-rising _ _ (sheet-read sheet_broken first _ _ b h).1.rising (sheet-read second_broken second _ _ c g).1.rising

-- The clause that gives a refusal.
clause : (r : Answer) {R : ℕ → ℕ → Type 0} → Tells r R → 0 < r.number → R r.number r.place
clause r t h = (t.exactly r.number r.place).0 (h, refl, refl)

module _ {r : Answer} where
  -- The number of a refusal: 1 to 8; of a part 18 besides; of a sheet 13.
  pub board-read-numbers : {bytes : List ℕ} → BoardRead bytes r → 0 < r.number → OneOf r.number read_numbers
  board-read-numbers {bytes} c h = read-numbers bytes (clause r (board-read-tells c) h)

  pub board-child-numbers : {bytes : List ℕ} {k : ℕ} → BoardChild bytes k r → 0 < r.number → OneOf r.number (read_numbers ++ (no_such_part ∷ []))
  board-child-numbers c h = part-numbers (clause r (board-child-tells c) h)

  pub board-name-numbers : {bytes : List ℕ} {k : ℕ} → BoardName bytes k r → 0 < r.number → OneOf r.number (read_numbers ++ (no_such_part ∷ []))
  board-name-numbers c h = part-numbers (clause r (board-name-tells c) h)

  pub board-sheet-numbers : {sheet : List ℕ} → BoardSheet sheet r → 0 < r.number → OneOf r.number (sheet_broken ∷ [])
  board-sheet-numbers {sheet} c h = check-numbers sheet (clause r (board-sheet-tells c) h)

  module _ {before after : List ℕ} where
    -- Of a call that writes.
    pub board-fill-numbers : {template sheet : List ℕ} → BoardFill template sheet before r after → 0 < r.number → OneOf r.number (read_numbers ++ (sheet_broken ∷ made_too_deep ∷ made_too_long ∷ buffer_short ∷ []))
    board-fill-numbers c h = fill-numbers (clause r (board-fill-tells c).0 h)

    pub board-join-numbers : {first second : List ℕ} → BoardJoin first second before r after → 0 < r.number → OneOf r.number (sheet_broken ∷ second_broken ∷ joined_too_large ∷ made_too_deep ∷ made_too_long ∷ buffer_short ∷ [])
    board-join-numbers c h = join-numbers (clause r (board-join-tells c).0 h)

    pub board-write-numbers : {table : List ℕ} → BoardWrite table before r after → 0 < r.number → OneOf r.number (section_broken ∷ node_broken ∷ name_broken ∷ made_too_deep ∷ made_too_long ∷ buffer_short ∷ [])
    board-write-numbers c h = write-numbers (clause r (board-write-tells c).0 h)

    pub board-records-numbers : {nodes : List Node} {rest : List ℕ} → BoardRecords nodes rest before r after → 0 < r.number → OneOf r.number (section_broken ∷ node_broken ∷ name_broken ∷ made_too_deep ∷ made_too_long ∷ buffer_short ∷ [])
    board-records-numbers c h = records-numbers (clause r (board-records-tells c).0 h)

    pub board-table-numbers : {bytes : List ℕ} → BoardTable bytes before r after → 0 < r.number → OneOf r.number (read_numbers ++ (buffer_short ∷ []))
    board-table-numbers c h = table-numbers (clause r (board-table-tells c).0 h)
