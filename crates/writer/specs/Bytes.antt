-- The bytes of a node, as the code writes them: by places in the bytes of the nodes and in the rest of the table, from the bytes of the nodes before
-- it. Proved to be the encoding of the node's shape (proofs/Shapes.antt, `node-encoded`). No public contract cites it.
use Rattle.std.specs.Prelude.{ℕ, zero, suc, List, [], ◌∷◌, ◌++◌, length}
use Rattle.meaning.specs.Encode.{blank_bytes, encode}
use Rattle.meaning.specs.Table as Meant
use Rattle.meaning.specs.Table.{Node, shape_of}
use Rattle.payloads.specs.declared.first.Kind.{Kind}
use Rattle.steps.specs.Heads.{head_bytes}
use Rattle.tables.specs.declared.Table.{Table}
use Rattle.tables.specs.declared.Way.{Way}
use Rattle.tables.specs.declared.Way.TheVariants.{Bare, Named, Texts}
use Rattle.tables.specs.Places.{table_in, link_at}
use Rattle.forms.specs.declared.Form.{Form}
use Rattle.forms.specs.declared.Form.TheVariants as form
use Rattle.forms.specs.Forms.{name_bytes, form_of, count_bytes}

-- child says the bytes of the nodes before
abbrev pub child_bytes : (ℕ → List ℕ) → Way → ℕ → List ℕ
child_bytes child Bare j = child j
child_bytes child Named j = child j
child_bytes child Texts j = []

-- a payload after its head
abbrev pub with_head : Kind → List ℕ → List ℕ
with_head kind payload = head_bytes kind (length payload) ++ payload

module _ (child : ℕ → List ℕ) (rest : List ℕ) (links names : ℕ) where
  -- b links from link a on
  unfoldable pub run_bytes : Way → ℕ → ℕ → List ℕ
  run_bytes way a zero = []
  run_bytes way a (suc b) =
      (name_bytes rest links names way (link_at rest a).name ++ child_bytes child way (link_at rest a).target) ++ run_bytes way (suc a) b

  abbrev pub form_bytes : Form → ℕ → ℕ → List ℕ
  form_bytes (form.Byte b) first due = b ∷ []
  form_bytes form.Blank first due = blank_bytes first
  form_bytes (form.List kind way c) first due = with_head kind (count_bytes c ++ run_bytes way first due)

-- what a table that was read is, and the encoding of a node's shape
abbrev pub table_of : Table → Meant.Table
table_of t = table_in t.nodes.now t.rest.now t.count t.links t.names

unfoldable pub encoded_at : Table → ℕ → List ℕ
encoded_at t i = encode (shape_of (table_of t) i)

-- the bytes of a node, and of links
abbrev pub node_bytes : Table → Node → List ℕ
node_bytes t n = form_bytes (encoded_at t) t.rest.now t.links t.names (form_of t.nodes.now t.rest.now n) n.a n.b

abbrev pub links_bytes : Table → Way → ℕ → ℕ → List ℕ
links_bytes t way a b = run_bytes (encoded_at t) t.rest.now t.links t.names way a b
