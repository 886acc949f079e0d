-- The laws behind demand 1, over the calls: when a call refuses, with which number and place, and what a lent buffer holds afterwards.
--     read-refuses .. table-refuses     a call refuses with number n at the place p exactly when a clause of specs/Order.antt, or for `read` and `check`
--                                       reading itself, gives these
--     read-numbers .. table-numbers     such a number is one of the call's list
--     positive                          so it is not 0, as no number of a list without 0 is (Positive)
--     made-refuses, made_kept, made-front     the same of any call that writes
--     fill-kept .. table_kept           after a refusal the lent buffer equals its entry
--     fill-front .. table-front         after an answer of n bytes only its first n differ
-- Assumes nothing.
use Prim.Native.Nat.{ℕ, ◌≤◌, ◌<◌}
use mathlib.Core.Path.{◌≡◌, refl, sym, ◌∙◌, ap₂}
use mathlib.Core.Bool.{Bool, true, false}
use mathlib.Core.List.Memᴰ.{head as here}
use mathlib.Core.List.Memᴰ.{tail as further}
use mathlib.Core.List.{List, [], ◌∷◌, ◌++◌, Memᴰ as OneOf}
use mathlib.Core.Logic.Iff
use mathlib.Core.Logic.{◌↔◌}
use native.Mathlib.Omega.{arith}
use lib.Dec.{ltb, eqb}
use lib.ListN.{length}
use borrow.Author.Tests.{eqb-true, eqb-false}
use Rattle.meaning.specs.Refusals.{buffer_short, sheet_broken, second_broken, section_broken, node_broken, name_broken, made_too_deep, made_too_long, joined_too_large, no_such_part}
use Rattle.meaning.specs.Shape.{Shape}
use Rattle.meaning.specs.Reading.{Reading, got, bad, reading}
use Rattle.meaning.specs.Parts.{children, names}
use Rattle.meaning.specs.Sheet.{Sheet}
use Rattle.meaning.specs.SheetReading.{read_sheet}
use Rattle.meaning.specs.Answers.{Answer, answered, refused, onto}
use Rattle.meaning.proofs.Rules.{both}
use Rattle.meaning.proofs.Faults.{not-bad, refusal-small}
use Rattle.meaning.proofs.SheetBytes.{sheet-refusal}
use Rattle.meaning.proofs.TableBytes.{table-refusal}
use Rattle.meaning.proofs.Bounds.{Told, fill-told, join-told}
use Rattle.meaning.proofs.Answers.{not-answered, fill-fits, join-fits, buffer-rest, buffer-kept, buffer-length}
use Rattle.meaning.proofs.TableAnswers.{write-fits, table_fits, write-told, table-told}
use Rattle.std.specs.Prelude.{Ok, Err}
use Rattle.leaves.specs.Faults.{number_of, fault_of}
use Rattle.leaves.specs.declared.refusals.Refusal.{Refusal}
use Rattle.leaves.proofs.Faults.{number-fault}
use Rattle.buffers.specs.Said.{made_said}
use Rattle.reader.specs.Said.{said}
use Rattle.parts.specs.Said.{child_said, name_said}
use Rattle.sheets.specs.Said.{checked}
use Rattle.promises.specs.Order.{read_numbers, PartRefuses, encoding_bad, no_part, deep, long, unfit, no_room, MadeRefuses, JoinedRefuses, FillRefuses, template_bad, sheet_bad, filled_bad, JoinRefuses, entries_over, entry_bad, bytes_over, sheet_no_room, first_bad, second_bad, joined_bad, WriteRefuses, table_bad, root_bad, TableRefuses, bytes_bad, table_no_room, Refused}
use Rattle.promises.specs.Told.{FrontOnly}
use Rattle.promises.proofs.Calls.{Judged, ChildSaid, NameSaid, Checked, Made, Read, ChildOf, NameOf, Check, Fill, Join, Write, Tabled}
use Rattle.promises.proofs.Says.{read-says, child-says, name-says, check-says, Says, fill-says, join-says, write-says, table-says}
use Rattle.promises.proofs.Ordered.{fill-order, join-order, write-order, table-order, part_answer, part-order}

-- what is said of a refusal m at q: that its number is n and its place p
abbrev Carries : ℕ → ℕ → ℕ → ℕ → Type 0
Carries m q n p = (number_of (fault_of m) ≡ n) × (q ≡ p)

-- A refusal whose number is one that a refusal carries is said with that number, and with its place.
refused-as : (m q n p : ℕ) → 0 < m → m ≤ no_such_part → Carries m q n p ↔ (m ≡ n) × (q ≡ p)
refused-as m q n p s l = rw (number-fault m s l) (λ h. h, λ h. h)

-- So is what reading refuses, handed on.
reading-as : (bytes : List ℕ) (m q n p : ℕ) → reading bytes ≡ bad m q → Carries m q n p ↔ ◌≡◌ {A = Reading Shape} (bad m q) (bad n p)
reading-as bytes m q n p e = let f = refusal-small bytes m q e in Iff.trans (refused-as m q n p f.some (omega (arith, f.known))) (λ h. ap₂ bad h.0 h.1, λ h. (cc, cc))

-- A judgement is a refusal where reading is refused.
judged-order : (bytes : List ℕ) (x : Reading Shape) → reading bytes ≡ x → (n p : ℕ) → Refused (said x) n p ↔ (x ≡ bad n p)
judged-order bytes (got s v) e n p = (λ h. absurd h, λ h. absurd (not-bad h))
judged-order bytes (bad m q) e n p = reading-as bytes m q n p e

-- `read` refuses exactly what reading refuses, with its number and place.
pub read-refuses : {bytes : List ℕ} {r : Judged} → Read bytes r → (n p : ℕ) → Refused r n p ↔ (reading bytes ≡ bad n p)
read-refuses {bytes} c n p = rw (read-says c) (judged-order bytes _ refl n p)

-- What is answered is no refusal,
there : (n p : ℕ) → ⊥ ↔ (answered [] ≡ refused n p)
there n p = (λ h. absurd h, λ h. absurd (not-answered (sym h)))

-- and what is refused is one with its number and place.
refused-with : (m q n p : ℕ) → 0 < m → m ≤ no_such_part → Carries m q n p ↔ (refused m q ≡ refused n p)
refused-with m q n p s l = Iff.trans (refused-as m q n p s l) (λ h. ap₂ refused h.0 h.1, λ h. (cc, cc))

-- What is said of a child is a refusal by the same rules.
child-order : (bytes : List ℕ) (x : Reading Shape) → reading bytes ≡ x → (k n p : ℕ) → Refused (child_said x k) n p ↔ (part_answer children x k ≡ refused n p)
unfolding part_answer onto
child-order bytes (bad m q) e k n p = let f = refusal-small bytes m q e in refused-with m q n p f.some (omega (arith, f.known))
child-order bytes (got s v) e k n p =
    both (λ (r : ChildSaid) a. Refused r n p ↔ (a ≡ refused n p)) (ltb k (length (children s))) _ _ _ _ (λ _. there n p) (λ _. refused-with _ _ n p (omega arith) (omega arith))

-- So of a name.
name-order : (bytes : List ℕ) (x : Reading Shape) → reading bytes ≡ x → (k n p : ℕ) → Refused (name_said x k) n p ↔ (part_answer names x k ≡ refused n p)
unfolding part_answer onto
name-order bytes (bad m q) e k n p = let f = refusal-small bytes m q e in refused-with m q n p f.some (omega (arith, f.known))
name-order bytes (got s v) e k n p = both (λ (r : NameSaid) a. Refused r n p ↔ (a ≡ refused n p)) (ltb k (length (names s))) _ _ _ _ (λ _. there n p) (λ _. refused-with _ _ n p (omega arith) (omega arith))

-- `child` refuses exactly by its clauses.
pub child-refuses : {bytes : List ℕ} {k : ℕ} {r : ChildSaid} → ChildOf bytes k r → (n p : ℕ) → Refused r n p ↔ PartRefuses children bytes k n p
child-refuses {bytes} {k} c n p = rw (child-says c) (Iff.trans (child-order bytes _ refl k n p) (part-order children bytes k n p))

-- So does `name`.
pub name-refuses : {bytes : List ℕ} {k : ℕ} {r : NameSaid} → NameOf bytes k r → (n p : ℕ) → Refused r n p ↔ PartRefuses names bytes k n p
name-refuses {bytes} {k} c n p = rw (name-says c) (Iff.trans (name-order bytes _ refl k n p) (part-order names bytes k n p))

-- A sheet is broken where it is refused: with 13.
checked-order : (sheet : List ℕ) (x : Reading Sheet) → read_sheet sheet_broken sheet ≡ x → (n p : ℕ) → Refused (checked x) n p ↔ (x ≡ bad n p)
checked-order sheet (got σ v) e n p = (λ h. absurd h, λ h. absurd (not-bad h))
checked-order sheet (bad m q) e n p =
    let i = (sheet-refusal sheet_broken sheet m q e).0 in
    Iff.trans (refused-as m q n p (omega (arith, i)) (omega (arith, i))) (λ h. ap₂ bad h.0 h.1, λ h. (cc, cc))

-- `check` finds a sheet broken exactly where reading refuses it, with 13 and its place.
pub check-refuses : {sheet : List ℕ} {r : Checked} → Check sheet r → (n p : ℕ) → Refused r n p ↔ (read_sheet sheet_broken sheet ≡ bad n p)
check-refuses {sheet} c n p = rw (check-says c) (checked-order sheet _ refl n p)

-- What is said by a call that writes is a refusal where its answer is.
made-order : (a : Answer) → Told a → (n p : ℕ) → Refused (made_said a) n p ↔ (a ≡ refused n p)
made-order (answered w) h n p = (λ h. absurd h, λ h. absurd (not-answered (sym h)))
made-order (refused m q) h n p = refused-with m q n p h.0 h.1

-- So it refuses exactly by the clauses R of its answer.
pub made-refuses : {a : Answer} {r : Made} {R : ℕ → ℕ → Type 0} → r ≡ made_said a → Told a → ((n p : ℕ) → (a ≡ refused n p) ↔ R n p) → (n p : ℕ) → Refused r n p ↔ R n p
made-refuses {a} s h o n p = rw s (Iff.trans (made-order a h n p) (o n p))

-- `fill` refuses exactly by its clauses.
pub fill-refuses : {template sheet before after : List ℕ} {r : Made} → Fill template sheet before r after → (n p : ℕ) → Refused r n p ↔ FillRefuses template sheet (length before) n p
fill-refuses c = made-refuses (fill-says c).0 (fill-told _ _ _) (fill-order _ _ _)

-- So does `join`.
pub join-refuses : {first second before after : List ℕ} {r : Made} → Join first second before r after → (n p : ℕ) → Refused r n p ↔ JoinRefuses first second (length before) n p
join-refuses c = made-refuses (join-says c).0 (join-told _ _ _ c.small.0 c.small.1) (join-order _ _ _)

-- `write` refuses exactly by its clauses.
pub write-refuses : {table before after : List ℕ} {r : Made} → Write table before r after → (n p : ℕ) → Refused r n p ↔ WriteRefuses table (length before) n p
write-refuses c = made-refuses (write-says c).0 (write-told _ _) (write-order _ _)

-- So does `to_table`.
pub table-refuses : {bytes before after : List ℕ} {r : Made} → Tabled bytes before r after → (n p : ℕ) → Refused r n p ↔ TableRefuses bytes (length before) n p
table-refuses c = made-refuses (table-says c).0 (table-told _ _ c.small) (table-order _ _)

-- A number from m on is m, or one of those that follow.
from : (m n : ℕ) {ms : List ℕ} → m ≤ n → (m < n → OneOf n ms) → OneOf n (m ∷ ms)
from m n {ms} h k = go (eqb n m) refl
  where
    go : (t : Bool) → eqb n m ≡ t → OneOf n (m ∷ ms)
    go true e = here (eqb-true _ _ e)
    go false e = further (k (omega (arith, eqb-false)))

-- Reading has the numbers 1 to 8, whatever a list goes on with.
eight : (bytes : List ℕ) {ms : List ℕ} {n p : ℕ} → reading bytes ≡ bad n p → OneOf n (read_numbers ++ ms)
eight bytes {ms} {n} {p} e =
    let f = refusal-small bytes n p e in
    from 1 n f.some λ h. from 2 n h λ h. from 3 n h λ h. from 4 n h λ h. from 5 n h λ h. from 6 n h λ h. from 7 n h λ h. from 8 n h λ h. absurd (omega (arith, f.known))

-- The numbers of `read`: 1 to 8.
pub read-numbers : (bytes : List ℕ) {n p : ℕ} → reading bytes ≡ bad n p → OneOf n read_numbers
read-numbers bytes = eight bytes {ms = []}

-- That of `check`: 13.
pub check-numbers : (sheet : List ℕ) {n p : ℕ} → read_sheet sheet_broken sheet ≡ bad n p → OneOf n (sheet_broken ∷ [])
check-numbers sheet {n} {p} e = here (sheet-refusal sheet_broken sheet n p e).0

-- Those of `child` and `name`: 1 to 8, 18.
pub part-numbers : {A : Type 0} {parts : Shape → List A} {bytes : List ℕ} {k n p : ℕ} → PartRefuses parts bytes k n p → OneOf n (read_numbers ++ (no_such_part ∷ []))
part-numbers {A} {parts} {bytes} (encoding_bad h) = eight bytes h
part-numbers (no_part h l) = search (here, further) depth 13

-- What a made shape is refused with is among those of `fill`.
made-for-fill : {s : Shape} {room n p : ℕ} → MadeRefuses s room n p → OneOf n (read_numbers ++ (sheet_broken ∷ made_too_deep ∷ made_too_long ∷ buffer_short ∷ []))
made-for-fill (unfit (deep l)) = search (here, further) depth 13
made-for-fill (unfit (long d l)) = search (here, further) depth 13
made-for-fill (no_room f l) = search (here, further) depth 13

-- Those of `fill`: 1 to 8, 13, 15, 16, 12.
pub fill-numbers : {template sheet : List ℕ} {room n p : ℕ} → FillRefuses template sheet room n p → OneOf n (read_numbers ++ (sheet_broken ∷ made_too_deep ∷ made_too_long ∷ buffer_short ∷ []))
fill-numbers {template} (template_bad h) = eight template h
fill-numbers (sheet_bad h g) = search (here, further) depth 13
fill-numbers (filled_bad h g m) = made-for-fill m

-- What a joined sheet is refused with is among those of `join`.
joined-for-join : {σ : Sheet} {room n p : ℕ} → JoinedRefuses σ room n p → OneOf n (sheet_broken ∷ second_broken ∷ joined_too_large ∷ made_too_deep ∷ made_too_long ∷ buffer_short ∷ [])
joined-for-join (entries_over l) = search (here, further)
joined-for-join (entry_bad before after e l q f (deep m)) = search (here, further)
joined-for-join (entry_bad before after e l q f (long d m)) = search (here, further)
joined-for-join (bytes_over l f m) = search (here, further)
joined-for-join (sheet_no_room l f m r) = search (here, further) depth 7

-- Those of `join`: 13, 14, 17, 15, 16, 12.
pub join-numbers : {first second : List ℕ} {room n p : ℕ} → JoinRefuses first second room n p → OneOf n (sheet_broken ∷ second_broken ∷ joined_too_large ∷ made_too_deep ∷ made_too_long ∷ buffer_short ∷ [])
join-numbers (first_bad h) = here refl
join-numbers (second_bad h g) = search (here, further)
join-numbers (joined_bad h g j) = joined-for-join j

-- What a made shape is refused with is among those of `write`.
made-for-write : {s : Shape} {room n p : ℕ} → MadeRefuses s room n p → OneOf n (section_broken ∷ node_broken ∷ name_broken ∷ made_too_deep ∷ made_too_long ∷ buffer_short ∷ [])
made-for-write (unfit (deep l)) = search (here, further)
made-for-write (unfit (long d l)) = search (here, further)
made-for-write (no_room f l) = search (here, further) depth 7

-- Those of `write`: 9 to 11, 15, 16, 12.
pub write-numbers : {table : List ℕ} {room n p : ℕ} → WriteRefuses table room n p → OneOf n (section_broken ∷ node_broken ∷ name_broken ∷ made_too_deep ∷ made_too_long ∷ buffer_short ∷ [])
write-numbers {table} {room} {n} {p} (table_bad h) = let f = table-refusal table n p h in from 9 n f.low λ h. from 10 n h λ h. from 11 n h λ h. absurd (omega (arith, f.high))
write-numbers (root_bad h m) = made-for-write m

-- Those of `to_table`: 1 to 8, 12.
pub table-numbers : {bytes : List ℕ} {room n p : ℕ} → TableRefuses bytes room n p → OneOf n (read_numbers ++ (buffer_short ∷ []))
table-numbers {bytes} (bytes_bad h) = eight bytes h
table-numbers (table_no_room h l) = search (here, further) depth 13

-- a list without 0
abbrev pub Positive : List ℕ → Type 0
Positive [] = Unit {0}
Positive (m ∷ ms) = (0 < m) × Positive ms

-- One of a list without 0 is not 0.
pub positive : {n : ℕ} {ms : List ℕ} → Positive ms → OneOf n ms → 0 < n
positive a (here e) = rw e a.0
positive a (further h) = positive a.1 h

-- A refusal leaves the lent buffer as it was.
pub made_kept : {e : Refusal} {before after : List ℕ} (a : Answer) → Says a before (Err e) after → after ≡ before
made_kept (answered w) s = cc
made_kept {before = before} (refused m q) s = s.1 ∙ buffer-kept before m q

-- An answer that fits leaves all but its own bytes as they were.
pub made-front : {n : ℕ} {after : List ℕ} (before : List ℕ) (a : Answer) → ((w : List ℕ) → a ≡ answered w → length w ≤ length before) → Says a before (Ok n) after → FrontOnly n before after
made-front {n} before (answered w) k s = let e : n ≡ length w = cc in rw (e, s.1) (k w refl, buffer-length before (answered w) k, buffer-rest before w)
made-front before (refused m q) k s = let z : ◌≡◌ {A = ℕ} 0 1 = cc in absurd (omega arith)

-- After a refusal of `fill` the lent buffer equals its entry.
pub fill-kept : {template sheet before after : List ℕ} {e : Refusal} → Fill template sheet before (Err e) after → after ≡ before
fill-kept c = made_kept _ (fill-says c)

-- So of `join`.
pub join_kept : {first second before after : List ℕ} {e : Refusal} → Join first second before (Err e) after → after ≡ before
join_kept c = made_kept _ (join-says c)

-- So of `write`.
pub write_kept : {table before after : List ℕ} {e : Refusal} → Write table before (Err e) after → after ≡ before
write_kept c = made_kept _ (write-says c)

-- So of `to_table`.
pub table_kept : {bytes before after : List ℕ} {e : Refusal} → Tabled bytes before (Err e) after → after ≡ before
table_kept c = made_kept _ (table-says c)

-- After an answer of n bytes of `fill` only the first n of the lent buffer differ.
pub fill-front : {template sheet before after : List ℕ} {n : ℕ} → Fill template sheet before (Ok n) after → FrontOnly n before after
fill-front {template} {sheet} {before} c = made-front before _ (fill-fits template sheet (length before)) (fill-says c)

-- So of `join`.
pub join_front : {first second before after : List ℕ} {n : ℕ} → Join first second before (Ok n) after → FrontOnly n before after
join_front {first} {second} {before} c = made-front before _ (join-fits first second (length before)) (join-says c)

-- So of `write`.
pub write-front : {table before after : List ℕ} {n : ℕ} → Write table before (Ok n) after → FrontOnly n before after
write-front {table} {before} c = made-front before _ (write-fits table (length before)) (write-says c)

-- So of `to_table`.
pub table-front : {bytes before after : List ℕ} {n : ℕ} → Tabled bytes before (Ok n) after → FrontOnly n before after
table-front {bytes} {before} c = made-front before _ (table_fits bytes (length before)) (table-says c)
