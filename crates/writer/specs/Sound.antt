-- What is known of a node's links, and of the room that bytes have. No public contract cites it.
use Rattle.std.specs.Prelude.{ℕ, ◌+◌, ◌≤◌, ◌<◌, ◌≡◌, true, List, length}
use Rattle.meaning.specs.Encode.{encode}
use Rattle.meaning.specs.Table as Meant
use Rattle.meaning.specs.Table.{table_shape}
use Rattle.meaning.specs.Answers.{Answer, made, in_room}
use Rattle.tables.specs.declared.Table.{Table}
use Rattle.tables.specs.declared.Way.{Way}
use Rattle.tables.specs.Places.{good_from}

-- node i of a table that was read has b good links from link a on
pub record Linked (t : Table) (way : Way) (i a b : ℕ) : Type 0 where
  pub below : i ≤ t.count
  pub inside : a + b ≤ t.links
  pub good : good_from t.rest.now way i t.names a b ≡ true

-- there is room from a place on for bytes, and their length can be said in two
abbrev pub Room : ℕ → ℕ → List ℕ → Type 0
Room room to w = (to + length w ≤ room) × (length w < 65536)

-- what is left to be answered once 9, 10 and 11 are passed
abbrev pub sound_answer : Meant.Table → ℕ → Answer
sound_answer T room = made 0 (table_shape T) (in_room room (encode (table_shape T)))
