-- From the exported calls to the calls below them: what an exported call did, the call below did, and the four numbers are its answer. By these laws,
-- one a call, each promise over the exported calls follows from the law over the calls below.
--     Below                            a run of an exported call, as one of the call below
--     read_below .. table_below        every run of an exported call is one
--     alike                            what the calls below answer alike, the exported calls say alike
--     numbered, placed, sized, more    the fields of an answer that is known
--     read-accepted, sheet-sound, child-part, child-packed, name-text     by the four numbers, what the call below answered
--     fill-wrote .. table-wrote                                           the same of the calls that write
--     makes                            what is made, in four numbers
--     read-said .. sheet-said          what is said of bytes, in four numbers
--     fill-makes .. table-makes        what is answered in every room that there is for it, every run makes
-- Assumes nothing.
use Prim.Native.Nat.{ℕ, ◌<◌}
use mathlib.Core.Path.{◌≡◌, refl, sym, ◌∙◌, ap}
use mathlib.Core.List.{List}
use native.Mathlib.Omega.{arith}
use contract.Lifetimes.{Lfts}
use lib.ListN.{length}
use Rattle.meaning.specs.Refusals.{buffer_short, sheet_broken}
use Rattle.meaning.specs.Reading.{reading}
use Rattle.meaning.specs.SheetReading.{read_sheet}
use Rattle.meaning.specs.Answers.{in_room, fill_answer, join_answer, write_answer, table_answer}
use Rattle.meaning.proofs.Answers.{room-enough, room-lacks}
use Rattle.meaning.proofs.Bounds.{fill-told, join-told}
use Rattle.meaning.proofs.TableAnswers.{write-told, table-told}
use Rattle.std.specs.Prelude.{Ok, Err}
use Rattle.leaves.proofs.Faults.{fault-some}
use Rattle.buffers.specs.Said.{made_said}
use Rattle.reader.specs.Said.{said, accepted}
use Rattle.parts.specs.declared.FoundChild.TheVariants as child
use Rattle.sheets.specs.Said.{checked, sound}
use Rattle.parts.specs.Said.{child_said, name_said, name_of}
use Rattle.editor.specs.declared.Node.{Node}
use Rattle.editor.specs.Records.{records_answer, records_outcome}
use Rattle.answers.specs.declared.Answer.{Answer}
use Rattle.answers.specs.Answers.{refused, said_put, accepted_put, child_put, name_put, sound_put, written_put}
use Rattle.board.proofs.Plain.{Parameters}
use Rattle.board.proofs.Small.{records-told}
use Rattle.answers.proofs.Small.{exported, exported-child, exported-name, exported-sheet, exported-made}
use Rattle.promises.specs.Told.{Answered, wrote, Makes}
use Rattle.promises.proofs.Calls.{Judged, ChildSaid, NameSaid, Checked, Made, Lent, Buffer, One, Two, Three, OnBytes, OnPart, Into, IntoOfTwo, IntoOfRecords, Read, ChildOf, NameOf, Check, Fill, Join, Write, WriteRecords, Tabled, BoardRead, BoardChild, BoardName, BoardSheet, BoardFill, BoardJoin, BoardWrite, BoardRecords, BoardTable}
use Rattle.promises.proofs.Says.{MakesIn, read-says, child-says, name-says, check-says, fill-says, join-says, write-says, records-says, table-says}
use Rattle.promises.proofs.Front.{front-holds, all-kept}

-- what a call that writes says, in four numbers
abbrev pub made_put : Made → Answer
made_put = said_put written_put

-- the call below did the same and answered m, which the four numbers r tell
pub record Below {M : Type 0} (put : M → Answer) (Run : M → Type 0) (r : Answer) : Type 0 where
  pub m : M
  pub run : Run m
  pub is : r ≡ put m

-- Two runs that the calls below answer alike say the same four numbers.
pub alike : {M : Type 0} {put : M → Answer} {Run Run' : M → Type 0} {r r' : Answer} (b : Below put Run r) (d : Below put Run' r') → b.m ≡ d.m → r ≡ r'
alike {put = put} b d e = b.is ∙ ap put e ∙ sym d.is

-- A run of one contract is a run of any other that allows the same with its own answer.
module _ {R Q S : Type 0} where
  bytes-as : {P : Lfts 1 → One Lent → R → S → Type 0} {P' : Lfts 1 → One Lent → Q → S → Type 0} {bytes : List ℕ} {r : R} {q : Q} (c : OnBytes P bytes r) → P' c.κs c.a q c.s → OnBytes P' bytes q
  bytes-as c h = record { κs = c.κs; a = c.a; s = c.s; allowed = h; lent = c.lent; small = c.small }

  part-as : {P : Lfts 1 → Two Lent ℕ → R → S → Type 0} {P' : Lfts 1 → Two Lent ℕ → Q → S → Type 0} {bytes : List ℕ} {k : ℕ} {r : R} {q : Q} (c : OnPart P bytes k r) → P' c.κs c.a q c.s → OnPart P' bytes k q
  part-as c h = record { κs = c.κs; a = c.a; s = c.s; allowed = h; lent = c.lent; asked = c.asked; small = c.small }

module _ {R Q : Type 0} {before after : List ℕ} {r : R} {q : Q} where
  into-as : {P : Lfts 2 → Two Lent Buffer → R → Two Lent Buffer → Type 0} {P' : Lfts 2 → Two Lent Buffer → Q → Two Lent Buffer → Type 0} {bytes : List ℕ}
      (c : Into P bytes before r after) → P' c.κs c.a q c.s → Into P' bytes before q after
  into-as c h = record { κs = c.κs; a = c.a; s = c.s; allowed = h; lent = c.lent; buffer_lent = c.buffer_lent; buffer-left = c.buffer-left; small = c.small }

  two-as : {P : Lfts 3 → Three Lent Lent Buffer → R → Three Lent Lent Buffer → Type 0} {P' : Lfts 3 → Three Lent Lent Buffer → Q → Three Lent Lent Buffer → Type 0} {first second : List ℕ}
      (c : IntoOfTwo P first second before r after) → P' c.κs c.a q c.s → IntoOfTwo P' first second before q after
  two-as c h = record { κs = c.κs; a = c.a; s = c.s; allowed = h; first-lent = c.first-lent; second-lent = c.second-lent; buffer_lent = c.buffer_lent; buffer-left = c.buffer-left; small = c.small }

  records-as : {P : Lfts 3 → Parameters → R → Parameters → Type 0} {P' : Lfts 3 → Parameters → Q → Parameters → Type 0} {nodes : List Node} {rest : List ℕ}
      (c : IntoOfRecords P nodes rest before r after) → P' c.κs c.a q c.s → IntoOfRecords P' nodes rest before q after
  records-as c h = record { κs = c.κs; a = c.a; s = c.s; allowed = h; nodes-lent = c.nodes-lent; rest-lent = c.rest-lent; buffer_lent = c.buffer_lent; buffer-left = c.buffer-left; small = c.small }

module _ {r : Answer} where
  pub read_below : {bytes : List ℕ} → BoardRead bytes r → Below (said_put accepted_put) (Read bytes) r
  read_below {bytes} c = record { m = said (reading bytes); run = bytes-as c (rw c.lent); is = c.allowed ∙ rw c.lent (sym (exported bytes c.small).is) }

  pub child-below : {bytes : List ℕ} {k : ℕ} → BoardChild bytes k r → Below (said_put child_put) (ChildOf bytes k) r
  child-below {bytes} {k} c = record { m = child_said (reading bytes) k; run = part-as c (rw (c.lent, c.asked)); is = c.allowed ∙ rw (c.lent, c.asked) (sym (exported-child bytes c.small k).is) }

  pub name_below : {bytes : List ℕ} {k : ℕ} → BoardName bytes k r → Below (said_put name_put) (NameOf bytes k) r
  name_below {bytes} {k} c = record { m = name_said (reading bytes) k; run = part-as c (rw (c.lent, c.asked)); is = c.allowed ∙ rw (c.lent, c.asked) (sym (exported-name bytes c.small k).is) }

  pub sheet-below : {sheet : List ℕ} → BoardSheet sheet r → Below (said_put sound_put) (Check sheet) r
  sheet-below {sheet} c = record { m = checked (read_sheet sheet_broken sheet); run = bytes-as c (rw c.lent); is = c.allowed ∙ rw c.lent (sym (exported-sheet sheet c.small).is) }

  module _ {before after : List ℕ} where
    pub fill-below : {template sheet : List ℕ} → BoardFill template sheet before r after → Below made_put (λ m. Fill template sheet before m after) r
    fill-below c = record { m = _; run = two-as c (refl, c.allowed.1); is = c.allowed.0 ∙ sym (exported-made _ (fill-told _ _ _)).is }

    pub join-below : {first second : List ℕ} → BoardJoin first second before r after → Below made_put (λ m. Join first second before m after) r
    join-below c = record { m = _; run = two-as c (refl, c.allowed.1); is = c.allowed.0 ∙ sym (exported-made _ (join-told _ _ _ (rw c.first-lent c.small.0) (rw c.second-lent c.small.1))).is }

    pub write-below : {table : List ℕ} → BoardWrite table before r after → Below made_put (λ m. Write table before m after) r
    write-below c = record { m = _; run = into-as c (refl, c.allowed.1); is = c.allowed.0 ∙ sym (exported-made _ (write-told _ _)).is }

    pub records-below : {nodes : List Node} {rest : List ℕ} → BoardRecords nodes rest before r after → Below made_put (λ m. WriteRecords nodes rest before m after) r
    unfolding records_outcome
    records-below c =
        let w = records_answer c.a.0.now c.a.1.0.now (length c.a.1.1.0.now) in
        record {
          m = made_said w;
          run = records-as c (ap (λ (o : Answer × List ℕ). (made_said w, o.1)) c.allowed);
          is = ap (λ (o : Answer × List ℕ). o.0) c.allowed ∙ sym (exported-made w (records-told _ _ _)).is;
        }

    pub table_below : {bytes : List ℕ} → BoardTable bytes before r after → Below made_put (λ m. Tabled bytes before m after) r
    table_below c = record { m = _; run = into-as c (refl, c.allowed.1); is = c.allowed.0 ∙ sym (exported-made _ (table-told _ _ (rw c.lent c.small))).is }

-- The fields of an answer that is known.
pub numbered : {r a : Answer} → r ≡ a → r.number ≡ a.number
numbered e = ap (λ (r : Answer). r.number) e

pub sized : {r a : Answer} → r ≡ a → r.length ≡ a.length
sized e = ap (λ (r : Answer). r.length) e

pub placed : {r a : Answer} → r ≡ a → r.place ≡ a.place
placed e = ap (λ (r : Answer). r.place) e

pub more : {r a : Answer} → r ≡ a → r.extra ≡ a.extra
more e = ap (λ (r : Answer). r.extra) e

-- Number 0 is no refusal.
none-refused : {A : Type 0} {r : Answer} {n p : ℕ} → r ≡ refused n p → 0 < n → Answered r → A
none-refused e l z = let q = numbered e in absurd (omega arith)

module _ {r : Answer} (z : Answered r) where
  -- `shiulbart_read` answered: the encoding was accepted, with its length and depth.
  pub read-accepted : {bytes : List ℕ} → BoardRead bytes r → Read bytes (Ok (accepted r.length r.extra))
  read-accepted {bytes} c = let b = read_below c in go b.m b.run b.is
    where
      go : (m : Judged) → Read bytes m → r ≡ said_put accepted_put m → Read bytes (Ok (accepted r.length r.extra))
      go (Ok shape) run e = rw (sized e, more e) run
      go (Err e') run e = none-refused e (fault-some e'.fault) z

  -- `shiulbart_sheet` answered: the sheet is sound, with its entries and bytes of encodings.
  pub sheet-sound : {sheet : List ℕ} → BoardSheet sheet r → Check sheet (Ok (sound r.extra r.length))
  sheet-sound {sheet} c = let b = sheet-below c in go b.m b.run b.is
    where
      go : (m : Checked) → Check sheet m → r ≡ said_put sound_put m → Check sheet (Ok (sound r.extra r.length))
      go (Ok sheet) run e = rw (sized e, more e) run
      go (Err e') run e = none-refused e (fault-some e'.fault) z

  -- `shiulbart_child` answered, with extra 0: there is such a child, at its place, of its length.
  pub child-part : {bytes : List ℕ} {k : ℕ} → BoardChild bytes k r → r.extra ≡ 0 → ChildOf bytes k (Ok (child.Part r.place r.length))
  child-part {bytes} {k} c x = let b = child-below c in go b.m b.run b.is
    where
      go : (m : ChildSaid) → ChildOf bytes k m → r ≡ said_put child_put m → ChildOf bytes k (Ok (child.Part r.place r.length))
      go (Ok (child.Part p l)) run e = rw (placed e, sized e) run
      go (Ok (child.Primitive n)) run e = let q = more e in absurd (omega arith)
      go (Err e') run e = none-refused e (fault-some e'.fault) z

  -- With extra 1: there is such a child, a primitive of that number without bytes.
  pub child-packed : {bytes : List ℕ} {k : ℕ} → BoardChild bytes k r → r.extra ≡ 1 → ChildOf bytes k (Ok (child.Primitive r.place))
  child-packed {bytes} {k} c x = let b = child-below c in go b.m b.run b.is
    where
      go : (m : ChildSaid) → ChildOf bytes k m → r ≡ said_put child_put m → ChildOf bytes k (Ok (child.Primitive r.place))
      go (Ok (child.Part p l)) run e = let q = more e in absurd (omega arith)
      go (Ok (child.Primitive n)) run e = rw (placed e) run
      go (Err e') run e = none-refused e (fault-some e'.fault) z

  -- `shiulbart_name` answered: there is such a name, at its place, of its length.
  pub name-text : {bytes : List ℕ} {k : ℕ} → BoardName bytes k r → NameOf bytes k (Ok (name_of r.place r.length))
  name-text {bytes} {k} c = let b = name_below c in go b.m b.run b.is
    where
      go : (m : NameSaid) → NameOf bytes k m → r ≡ said_put name_put m → NameOf bytes k (Ok (name_of r.place r.length))
      go (Ok text) run e = rw (placed e, sized e) run
      go (Err e') run e = none-refused e (fault-some e'.fault) z

  -- A call that writes answered: it wrote so many bytes.
  made-wrote : {Run : Made → Type 0} → Below made_put Run r → Run (Ok r.length) × (r ≡ wrote r.length)
  made-wrote {Run} b = go b.m b.run b.is
    where
      go : (m : Made) → Run m → r ≡ made_put m → Run (Ok r.length) × (r ≡ wrote r.length)
      go (Ok n) run e = (rw (sized e) run, e ∙ rw (sized e))
      go (Err e') run e = none-refused e (fault-some e'.fault) z

-- What the call below makes, the exported call makes.
pub makes : {Run : Made → Type 0} {r : Answer} {w before after : List ℕ} (b : Below made_put Run r) → MakesIn w before b.m after → Makes w before r after
makes {w = w} {before = before} b s = record {
  enough = λ h. let f = front-holds _ before w s (room-enough _ w h) in (b.is ∙ ap made_put f.0, f.1);
  short = λ h. let f = all-kept _ before buffer_short (length w) s (room-lacks _ w h) in (b.is ∙ ap made_put f.0, f.1);
}

module _ {before after : List ℕ} where
  module _ {r : Answer} (z : Answered r) where
    -- A call that writes answered: it wrote so many bytes.
    pub fill-wrote : {template sheet : List ℕ} → BoardFill template sheet before r after → Fill template sheet before (Ok r.length) after × (r ≡ wrote r.length)
    fill-wrote c = made-wrote z (fill-below c)

    pub join-wrote : {first second : List ℕ} → BoardJoin first second before r after → Join first second before (Ok r.length) after × (r ≡ wrote r.length)
    join-wrote c = made-wrote z (join-below c)

    pub write-wrote : {table : List ℕ} → BoardWrite table before r after → Write table before (Ok r.length) after × (r ≡ wrote r.length)
    write-wrote c = made-wrote z (write-below c)

    pub records-wrote : {nodes : List Node} {rest : List ℕ} → BoardRecords nodes rest before r after → WriteRecords nodes rest before (Ok r.length) after × (r ≡ wrote r.length)
    records-wrote c = made-wrote z (records-below c)

    pub table-wrote : {bytes : List ℕ} → BoardTable bytes before r after → Tabled bytes before (Ok r.length) after × (r ≡ wrote r.length)
    table-wrote c = made-wrote z (table_below c)

module _ {r : Answer} where
  -- What is said of bytes, in four numbers.
  pub read-said : {bytes : List ℕ} {j : Judged} → BoardRead bytes r → said (reading bytes) ≡ j → r ≡ said_put accepted_put j
  read-said c e = let b = read_below c in b.is ∙ ap (said_put accepted_put) (read-says b.run ∙ e)

  pub child-said : {bytes : List ℕ} {k : ℕ} {j : ChildSaid} → BoardChild bytes k r → child_said (reading bytes) k ≡ j → r ≡ said_put child_put j
  child-said c e = let b = child-below c in b.is ∙ ap (said_put child_put) (child-says b.run ∙ e)

  pub name-said : {bytes : List ℕ} {k : ℕ} {j : NameSaid} → BoardName bytes k r → name_said (reading bytes) k ≡ j → r ≡ said_put name_put j
  name-said c e = let b = name_below c in b.is ∙ ap (said_put name_put) (name-says b.run ∙ e)

  pub sheet-said : {sheet : List ℕ} {j : Checked} → BoardSheet sheet r → checked (read_sheet sheet_broken sheet) ≡ j → r ≡ said_put sound_put j
  sheet-said c e = let b = sheet-below c in b.is ∙ ap (said_put sound_put) (check-says b.run ∙ e)

  module _ {w before after : List ℕ} where
    -- What is answered in every room that there is for it, every run makes.
    pub fill-makes : {template sheet : List ℕ} → BoardFill template sheet before r after → ((room : ℕ) → fill_answer template sheet room ≡ in_room room w) → Makes w before r after
    fill-makes c e = let b = fill-below c in makes b (rw (e (length before)) at (fill-says b.run))

    pub join-makes : {first second : List ℕ} → BoardJoin first second before r after → ((room : ℕ) → join_answer first second room ≡ in_room room w) → Makes w before r after
    join-makes c e = let b = join-below c in makes b (rw (e (length before)) at (join-says b.run))

    pub write-makes : {table : List ℕ} → BoardWrite table before r after → ((room : ℕ) → write_answer table room ≡ in_room room w) → Makes w before r after
    write-makes c e = let b = write-below c in makes b (rw (e (length before)) at (write-says b.run))

    pub records-makes : {nodes : List Node} {rest : List ℕ} → BoardRecords nodes rest before r after → ((room : ℕ) → records_answer nodes rest room ≡ in_room room w) → Makes w before r after
    records-makes c e = let b = records-below c in makes b (rw (e (length before)) at (records-says b.run))

    pub table-makes : {bytes : List ℕ} → BoardTable bytes before r after → ((room : ℕ) → table_answer bytes room ≡ in_room room w) → Makes w before r after
    table-makes c e = let b = table_below c in makes b (rw (e (length before)) at (table-says b.run))
