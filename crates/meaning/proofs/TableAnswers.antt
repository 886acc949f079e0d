-- What the writer and the way back answer.
--     write-answered, table-answered     when they answer, and with what
--     write-room, table-room             where all is within the limits they answer, or refuse for want of room alone
--     write-answers, table-answers       they do answer then, where the lent buffer has the room
--     write-short, table-short           they refuse with 12 then, where it has not
--     write-fits, table_fits             an answer is no longer than the lent buffer
--     write-needs, table-needs           the length that 12 carries is needed, and enough
--     write-told, table-told             what they answer is told
--     write-small, table-small           so it is small
--     table-write                        what the way back made of bytes, the writer makes into those bytes
--     write-table, same-meaning          what the writer made, the way back makes into a table, which means the same
-- Assumes nothing.
use Prim.Native.Nat.{ℕ, ◌-◌, ◌≤◌, ◌<◌}
use mathlib.Core.Path.{◌≡◌, refl, sym, ◌∙◌}
use mathlib.Core.List.{List}
use native.Mathlib.Omega.{arith}
use lib.ListN.{length}
use Rattle.meaning.specs.Refusals.{buffer_short}
use Rattle.meaning.specs.Shape.{Shape, Proper}
use Rattle.meaning.specs.Encode.{encode}
use Rattle.meaning.specs.Within.{Bytes, Within}
use Rattle.meaning.specs.Reading.{reading}
use Rattle.meaning.specs.Table.{Table, table_bytes, table_shape, table_of}
use Rattle.meaning.specs.TableReading.{read_table, TableWithin}
use Rattle.meaning.specs.Answers.{answered, refused, onto, in_room, write_answer, table_answer}
use Rattle.meaning.proofs.Laws.{reading-encode, encode-reading, within}
use Rattle.meaning.proofs.Faults.{refusal-small}
use Rattle.meaning.proofs.Answers.{by-onto, room-answered, room-enough, room-lacks, made-answered, made-fits, Needs, by_read, by-made, room-refused}
use Rattle.meaning.proofs.TableBytes.{read_table_lem, table-read, table-refusal}
use Rattle.meaning.proofs.TableShape.{table-proper}
use Rattle.meaning.proofs.TableOf.{table-shape}
use Rattle.meaning.proofs.TableSize.{made-length, made-within}
use Rattle.meaning.proofs.Bounds.{Small, Told, told-small, onto-told, room-told, made-told}

-- What a table within the limits means is proper.
pub root-proper : (T : Table) → TableWithin T → Proper (table_shape T)
root-proper T h = table-proper T h (length T.nodes - 1) (omega (arith, h.nodes_some))

-- a writing that is answered: the input is the bytes of a table, it and what it means are within the limits, and the answer is what it means
pub record Wrote (table w : List ℕ) : Type 0 where
  pub T : Table
  pub T-is : table ≡ table_bytes T
  pub T-within : TableWithin T
  pub made-within : Within (table_shape T)
  pub is : w ≡ encode (table_shape T)

-- When a writing is answered, and with what.
pub write-answered : (table : List ℕ) (room : ℕ) (w : List ℕ) → Bytes table → write_answer table room ≡ answered w → Wrote table w
unfolding write_answer
write-answered table room w b h =
    by-onto (read_table table) _ h λ T v p h.
    made-answered 0 (table_shape T) _ h λ d l h.
    let e = table-read table T v b p in
    record {
      T = T;
      T-is = e.0;
      T-within = e.2;
      made-within = within (table_shape T) l d (root-proper T e.2);
      is = sym (room-answered room _ w h).0;
    }

-- A writing where all is within the limits is answered with what the table means, or refused for want of room alone.
pub write-room : (T : Table) (room : ℕ) → TableWithin T → Within (table_shape T) → write_answer (table_bytes T) room ≡ in_room room (encode (table_shape T))
unfolding write_answer onto
write-room T room a b = rw (read_table_lem T a) (made-fits 0 (table_shape T) _ b.shallow b.short)

-- A writing is answered, with what the table means, where all is within the limits and the lent buffer has the room.
pub write-answers : (T : Table) (room : ℕ) → TableWithin T → Within (table_shape T) → length (encode (table_shape T)) ≤ room → write_answer (table_bytes T) room ≡ answered (encode (table_shape T))
write-answers T room a b r = write-room T room a b ∙ room-enough room _ r

-- It is refused with 12 and the length of that, where all is within the limits and the lent buffer has not the room.
pub write-short : (T : Table) (room : ℕ) → TableWithin T → Within (table_shape T) → room < length (encode (table_shape T)) → write_answer (table_bytes T) room ≡ refused buffer_short (length (encode (table_shape T)))
write-short T room a b r = write-room T room a b ∙ room-lacks room _ r

-- What is written is no longer than the lent buffer.
pub write-fits : (table : List ℕ) (room : ℕ) (w : List ℕ) → write_answer table room ≡ answered w → length w ≤ room
unfolding write_answer
write-fits table room w h =
    by-onto (read_table table) _ h λ T v p h.
    made-answered 0 (table_shape T) _ h λ d l h.
    (room-answered room _ w h).1

-- The length that a writing's 12 carries is needed, and enough.
pub write-needs : (table : List ℕ) (room n : ℕ) → write_answer table room ≡ refused buffer_short n → Needs (write_answer table) room n
unfolding write_answer onto
write-needs table room n h =
    by_read (read_table table) _ (λ m q e f. let k = (table-refusal table m q e).high in omega arith) h λ T v p h.
    by-made 0 (table_shape T) _ h λ d l h.
    let k = room-refused room (encode (table_shape T)) n h in
    record {
      w = encode (table_shape T);
      long = k.0;
      lacks = rw (← k.0) k.1;
      answers = λ r e. rw p (made-fits 0 (table_shape T) _ d l ∙ room-enough r _ (rw k.0 e));
    }

-- Whatever bytes come, and whatever the room: what a writing answers is told, and small.
pub write-told : (table : List ℕ) (room : ℕ) → Told (write_answer table room)
unfolding write_answer
write-told table room =
    onto-told (read_table table) _
    (λ T w p. made-told 0 (table_shape T) _ (omega arith) (λ h. room-told room _ (omega arith)))
    (λ n p q. let f = table-refusal table n p q in (omega (arith, f.low), omega (arith, f.high), omega (arith, f.inside)))

pub write-small : (table : List ℕ) (room : ℕ) → Small (write_answer table room)
write-small table room = told-small _ (write-told table room)

-- a way back that is answered: the input is the bytes of a shape within the limits, and the answer is the bytes of its table
pub record Tabled (bytes w : List ℕ) : Type 0 where
  pub s : Shape
  pub s-is : bytes ≡ encode s
  pub s-within : Within s
  pub is : w ≡ table_bytes (table_of s)

-- When a way back is answered, and with what.
pub table-answered : (bytes : List ℕ) (room : ℕ) (w : List ℕ) → Bytes bytes → table_answer bytes room ≡ answered w → Tabled bytes w
unfolding table_answer
table-answered bytes room w b h =
    by-onto (reading bytes) _ h λ s v p h.
    let e = encode-reading bytes s v b p in
    record { s = s; s-is = e.0; s-within = e.1; is = sym (room-answered room _ w h).0 }

-- A way back from a shape within the limits is answered with its table, or refused for want of room alone.
pub table-room : (s : Shape) (room : ℕ) → Within s → table_answer (encode s) room ≡ in_room room (table_bytes (table_of s))
unfolding table_answer onto
table-room s room a = rw (reading-encode s a)

-- It is answered, with the shape's table, where the lent buffer has the room.
pub table-answers : (s : Shape) (room : ℕ) → Within s → length (table_bytes (table_of s)) ≤ room → table_answer (encode s) room ≡ answered (table_bytes (table_of s))
table-answers s room a r = table-room s room a ∙ room-enough room _ r

-- It is refused with 12 and the table's length, where the lent buffer has not the room.
pub table-short : (s : Shape) (room : ℕ) → Within s → room < length (table_bytes (table_of s)) → table_answer (encode s) room ≡ refused buffer_short (length (table_bytes (table_of s)))
table-short s room a r = table-room s room a ∙ room-lacks room _ r

-- The table is no longer than the lent buffer.
pub table_fits : (bytes : List ℕ) (room : ℕ) (w : List ℕ) → table_answer bytes room ≡ answered w → length w ≤ room
unfolding table_answer
table_fits bytes room w h = by-onto (reading bytes) _ h λ s v p h. (room-answered room _ w h).1

-- The length that a way back's 12 carries is needed, and enough.
pub table-needs : (bytes : List ℕ) (room n : ℕ) → table_answer bytes room ≡ refused buffer_short n → Needs (table_answer bytes) room n
unfolding table_answer onto
table-needs bytes room n h =
    by_read (reading bytes) _ (λ m q e f. let k = (refusal-small bytes m q e).known in omega arith) h λ s v p h.
    let k = room-refused room (table_bytes (table_of s)) n h in
    record {
      w = table_bytes (table_of s);
      long = k.0;
      lacks = rw (← k.0) k.1;
      answers = λ r e. rw p (room-enough r _ (rw k.0 e));
    }

-- What a way back answers is told, and small.
pub table-told : (bytes : List ℕ) (room : ℕ) → Bytes bytes → Told (table_answer bytes room)
unfolding table_answer
table-told bytes room b =
    onto-told (reading bytes) _
    (λ s w p. room-told room _ (omega (arith, made-length s (encode-reading bytes s w b p).1)))
    (λ n p q. let f = refusal-small bytes n p q in (omega (arith, f.some), omega (arith, f.known), omega (arith, f.inside)))

pub table-small : (bytes : List ℕ) (room : ℕ) → Bytes bytes → Small (table_answer bytes room)
table-small bytes room b = told-small _ (table-told bytes room b)

-- What the way back makes of bytes means what they are: the writer makes those bytes of it.
pub table-write : {bytes w : List ℕ} → Tabled bytes w → Wrote w bytes
table-write t = record {
  T = table_of t.s;
  T-is = t.is;
  T-within = made-within t.s t.s-within;
  made-within = rw (table-shape t.s) t.s-within;
  is = rw (table-shape t.s) t.s-is;
}

-- What the writer makes of a table, the way back makes into the table of its shape,
pub write-table : {table w : List ℕ} (a : Wrote table w) → Tabled w (table_bytes (table_of (table_shape a.T)))
write-table a = record { s = table_shape a.T; s-is = a.is; s-within = a.made-within; is = refl }

-- which means the same shape.
pub same-meaning : (T : Table) → table_shape (table_of (table_shape T)) ≡ table_shape T
same-meaning T = table-shape (table_shape T)
