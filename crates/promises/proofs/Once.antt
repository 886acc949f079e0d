-- One outcome: any two outcomes that a call's contract allows agree, in the answer, the refusal and its place, and in every byte of a lent buffer.
--     read-once .. records-once     of each call
--     agree-both                    two answers and buffers that equal the same are equal
-- Assumes nothing.
use Prim.Native.Nat.{ℕ}
use mathlib.Core.Path.{◌≡◌, sym, ◌∙◌}
use mathlib.Core.List.{List}
use Rattle.editor.specs.declared.Node.{Node}
use Rattle.promises.proofs.Calls.{Judged, ChildSaid, NameSaid, Checked, Made, Read, ChildOf, NameOf, Check, Fill, Join, Write, WriteRecords, Tabled}
use Rattle.promises.proofs.Says.{read-says, child-says, name-says, check-says, fill-says, join-says, write-says, table-says, records-says}

-- What equals one thing twice is one.
agree : {A : Type 0} {x y z : A} → x ≡ z → y ≡ z → x ≡ y
agree p q = p ∙ sym q

-- So are an answer and a buffer.
pub agree-both : {A B : Type 0} {x y z : A} {u v w : B} → (x ≡ z) × (u ≡ w) → (y ≡ z) × (v ≡ w) → (x ≡ y) × (u ≡ v)
agree-both p q = (agree p.0 q.0, agree p.1 q.1)

pub read-once : {bytes : List ℕ} {r r' : Judged} → Read bytes r → Read bytes r' → r ≡ r'
read-once p q = agree (read-says p) (read-says q)

pub child-once : {bytes : List ℕ} {k : ℕ} {r r' : ChildSaid} → ChildOf bytes k r → ChildOf bytes k r' → r ≡ r'
child-once p q = agree (child-says p) (child-says q)

pub name-once : {bytes : List ℕ} {k : ℕ} {r r' : NameSaid} → NameOf bytes k r → NameOf bytes k r' → r ≡ r'
name-once p q = agree (name-says p) (name-says q)

pub check-once : {sheet : List ℕ} {r r' : Checked} → Check sheet r → Check sheet r' → r ≡ r'
check-once p q = agree (check-says p) (check-says q)

pub fill-once : {template sheet before after after' : List ℕ} {r r' : Made} → Fill template sheet before r after → Fill template sheet before r' after' → (r ≡ r') × (after ≡ after')
fill-once p q = agree-both (fill-says p) (fill-says q)

pub join-once : {first second before after after' : List ℕ} {r r' : Made} → Join first second before r after → Join first second before r' after' → (r ≡ r') × (after ≡ after')
join-once p q = agree-both (join-says p) (join-says q)

pub write-once : {table before after after' : List ℕ} {r r' : Made} → Write table before r after → Write table before r' after' → (r ≡ r') × (after ≡ after')
write-once p q = agree-both (write-says p) (write-says q)

pub table-once : {bytes before after after' : List ℕ} {r r' : Made} → Tabled bytes before r after → Tabled bytes before r' after' → (r ≡ r') × (after ≡ after')
table-once p q = agree-both (table-says p) (table-says q)

pub records-once : {nodes : List Node} {rest before after after' : List ℕ} {r r' : Made} → WriteRecords nodes rest before r after → WriteRecords nodes rest before r' after' → (r ≡ r') × (after ≡ after')
records-once p q = agree-both (records-says p) (records-says q)
