-- What a shape adds to a table, section by section, and the pass over an encoding that finds it (steps/specs/Pass.antt). Proved to be what the table
-- of the shape has (proofs/Grown.antt, proofs/Making.antt). No public contract cites it.
use Rattle.std.specs.Prelude.{ℕ, zero, suc, ◌+◌, ◌-◌, ◌*◌, ◌/◌, ◌%◌, ◌≤◌, ◌<◌, List, [], ◌++◌, ltb, length, drop, Result, Ok, Err}
use Rattle.std.proofs.Math.Seq.{slice}
use Rattle.meaning.specs.Rules.{◌⇒◌∣◌}
use Rattle.meaning.specs.Numbers.{two_bytes}
use Rattle.meaning.specs.FirstByte.{short_blanks, prim_byte, array_byte, map_byte}
use Rattle.meaning.specs.Table.{array_kind, map_kind, record_kind, function_kind, symbol_kind, variable_kind}
use Rattle.leaves.specs.Leb.{leb_at}
use Rattle.leaves.specs.declared.Leb.{Leb}
use Rattle.leaves.specs.declared.refusals.Refusal.{Refusal}
use Rattle.payloads.specs.Payload.{named, shaped}
use Rattle.payloads.specs.declared.first.Kind.{Kind}
use Rattle.payloads.specs.declared.first.Kind.TheVariants.{Array, Map, Record, Function, Symbol, Variable}
use Rattle.steps.specs.Steps.{head_size, past_name, list_at}
use Rattle.steps.specs.Pass.{came, Pass, Passer, pass_shape}
use Rattle.tables.specs.Places.{node_bytes}
use Rattle.counts.specs.declared.Counts.{Counts}
use Rattle.counts.specs.declared.Section.{Section}
use Rattle.counts.specs.declared.Section.TheVariants.{Nodes, Links, Names, Text}

-- so many nodes, links, names and bytes of text
abbrev pub many : ℕ → ℕ → ℕ → ℕ → Counts
many n l m t = record { nodes = n; links = l; names = m; text = t }

abbrev pub none : Counts
none = many 0 0 0 0

abbrev pub plus : Counts → Counts → Counts
plus a b = many (a.nodes + b.nodes) (a.links + b.links) (a.names + b.names) (a.text + b.text)

-- each can be said in two bytes
abbrev pub Few : Counts → Type 0
Few c = (c.nodes < 65536) × (c.links < 65536) × (c.names < 65536) × (c.text < 65536)

-- each name stands beside a link, so the names are no more than the links
abbrev pub Linked : Counts → Type 0
Linked c = c.names ≤ c.links

-- where the text starts in the bytes of a name, after its length, and the text
abbrev pub text_by : List ℕ → Result Leb Refusal → ℕ
text_by w (Ok size) = size.next
text_by w (Err refusal) = length w

unfoldable pub text_from : List ℕ → ℕ
text_from w = text_by w (leb_at w (length w) 0)

abbrev pub text_in : List ℕ → List ℕ
text_in w = drop (text_from w) w

-- a node of a table has a number for its kind
abbrev pub kind_number : Kind → ℕ
kind_number Array = array_kind
kind_number Map = map_kind
kind_number Record = record_kind
kind_number Function = function_kind
kind_number Symbol = symbol_kind
kind_number Variable = variable_kind

-- what a section gets of a node, and of an item of a node's list: a link to a target with name k, and a name of the text w that starts at a place
abbrev pub node_entry : Section → ℕ → ℕ → ℕ → List ℕ
node_entry Nodes kind a b = node_bytes kind a b
node_entry Links kind a b = []
node_entry Names kind a b = []
node_entry Text kind a b = []

abbrev pub link_entry : Kind → ℕ → ℕ → List ℕ
link_entry kind target k = two_bytes (shaped kind ⇒ target ∣ λ _. 0) ++ two_bytes (named kind ⇒ k ∣ λ _. 0)

abbrev pub name_entry : Kind → ℕ → ℕ → List ℕ
name_entry kind start size = named kind ⇒ two_bytes start ++ two_bytes size ∣ λ _. []

abbrev pub item_entry : Section → Kind → ℕ → ℕ → ℕ → List ℕ → List ℕ
item_entry Nodes kind target k start w = []
item_entry Links kind target k start w = link_entry kind target k
item_entry Names kind target k start w = name_entry kind start (length w)
item_entry Text kind target k start w = w

-- what a shape adds: how many of each, and the bytes of a section, where so many are there before it
pub record Piece : Type 0 where
  pub counts : Counts
  pub bytes : Section → Counts → List ℕ

abbrev pub piece : Counts → (Section → Counts → List ℕ) → Piece
piece c b = record { counts = c; bytes = b }

abbrev pub nothing : Piece
nothing = piece none (λ section before. [])

abbrev pub single : ℕ → ℕ → ℕ → Piece
single kind a b = piece (many 1 0 0 0) (λ section before. node_entry section kind a b)

-- the items of a list so far: what their shapes add, how many they are, how long their texts are, and the entries that the list's node has for
-- them, by its kind, where so many are there before the list and so many after its shapes
pub record Gathered : Type 0 where
  pub counts : Counts
  pub shapes : Section → Counts → List ℕ
  pub items : ℕ
  pub text : ℕ
  pub own : Section → Kind → Counts → Counts → List ℕ

abbrev pub no_items : Gathered
no_items = record { counts = none; shapes = λ section before. []; items = 0; text = 0; own = λ section kind before after. [] }

-- the last node of a shape stands for it
abbrev pub with_item : Gathered → List ℕ → Piece → Gathered
with_item a name v = record {
  counts = plus a.counts v.counts;
  shapes = λ section before. a.shapes section before ++ v.bytes section (plus before a.counts);
  items = a.items + 1;
  text = a.text + length (text_in name);
  own = λ section kind before after.
      a.own section kind before after
      ++ item_entry section kind (before.nodes + (a.counts.nodes + v.counts.nodes) - 1) (after.names + a.items) (after.text + a.text) (text_in name);
}

-- "children first, then the node; with each node its links, names and texts are added in order"
abbrev pub own_counts : Kind → ℕ → ℕ → Counts
own_counts kind items text = many 1 items (named kind ⇒ items ∣ λ _. 0) text

abbrev pub own_bytes : Section → Kind → Gathered → Counts → List ℕ
own_bytes section kind a before =
    a.own section kind before (plus before a.counts) ++ node_entry section (kind_number kind) (plus before a.counts).links a.items

abbrev pub list_piece : Kind → Gathered → Piece
list_piece kind a =
    piece (plus a.counts (own_counts kind a.items a.text))
    (λ section before. a.shapes section before ++ own_bytes section kind a before)

-- a shape of one byte
abbrev pub packed_array : ℕ → Gathered
packed_array p = with_item no_items [] (single p 0 0)

abbrev pub packed_map : ℕ → ℕ → Gathered
packed_map p q = with_item (packed_array p) [] (single q 0 0)

unfoldable pub short_piece : ℕ → Piece
short_piece b =
    ltb b short_blanks ⇒ single variable_kind b 0 ∣ λ _.
    ltb b (array_byte 0) ⇒ single (b - prim_byte 0) 0 0 ∣ λ _.
    ltb b (map_byte 0 0) ⇒ list_piece Array (packed_array (b - array_byte 0)) ∣ λ _.
    list_piece Map (packed_map ((b - map_byte 0 0) / 5) ((b - map_byte 0 0) % 5))

-- a Symbol, from its bytes: so many texts from a place on
unfoldable pub gather_texts : ℕ → List ℕ → ℕ → Gathered → Gathered
gather_texts zero w at a = a
gather_texts (suc c) w at a = gather_texts c w (past_name w at Symbol) (with_item a (slice at (past_name w at Symbol) w) nothing)

abbrev pub texts_of : List ℕ → Gathered
texts_of w = gather_texts (list_at w head_size Symbol).count w (list_at w head_size Symbol).from no_items

unfoldable pub symbol_piece : List ℕ → Piece
symbol_piece w = list_piece Symbol (texts_of w)

abbrev pub pieces : Pass Piece Gathered
pieces = record {
  nothing = nothing;
  short = λ b levels. short_piece b;
  blank = λ n. single variable_kind n 0;
  symbol = symbol_piece;
  start = no_items;
  item = with_item;
  list = λ kind count a. list_piece kind a;
}

-- what passes over an item after its name: a Symbol's items have no shape
abbrev pub inner : ℕ → Kind → Passer Piece
inner left kind = shaped kind ⇒ pass_shape pieces left ∣ λ _. (λ s at. came at nothing)

-- how many bytes a table of so many entries has
abbrev pub table_size : Counts → ℕ
table_size c = 4 * 2 + 6 * c.nodes + 4 * c.links + 4 * c.names + c.text

-- the bytes of a table: each section after its count
abbrev pub sections : Piece → List ℕ
sections v =
    (two_bytes v.counts.nodes ++ v.bytes Nodes none)
    ++ ((two_bytes v.counts.links ++ v.bytes Links none)
    ++ ((two_bytes v.counts.names ++ v.bytes Names none)
    ++ (two_bytes v.counts.text ++ v.bytes Text none)))
