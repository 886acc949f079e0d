-- What a good node becomes, and the bytes of a link's name and of a count, by places in the bytes of the nodes and in the rest of the table. Contracts
-- between our own crates cite it, no public one does.
use Rattle.std.specs.Prelude.{ℕ, ◌+◌, ◌-◌, ◌≤◌, ◌<◌, ◌≡◌, List, [], ◌++◌, Option, Some, None, ltb, eqb, length}
use Rattle.std.proofs.Math.Seq.{slice}
use Rattle.meaning.specs.Rules.{◌⇒◌∣◌}
use Rattle.meaning.specs.Limits.{max_links, max_names, max_text}
use Rattle.meaning.specs.Numbers.{leb128}
use Rattle.meaning.specs.FirstByte.{prim_byte, array_byte, map_byte}
use Rattle.meaning.specs.Table.{Node, array_kind, map_kind, record_kind, function_kind, symbol_kind}
use Rattle.meaning.specs.TableReading.{link_size}
use Rattle.payloads.specs.declared.first.Kind.TheVariants.{Array, Map, Record, Function, Symbol}
use Rattle.tables.specs.declared.Way.{Way}
use Rattle.tables.specs.declared.Way.TheVariants.{Bare, Named, Texts}
use Rattle.tables.specs.Places.{link_place, text_place, name_at, target_kind, Aimed}
use Rattle.forms.specs.declared.Form.{Form}
use Rattle.forms.specs.declared.Form.TheVariants as form

-- the text of name k with its length before it; a link's name, by the way of its node
abbrev pub text_at : List ℕ → ℕ → ℕ → ℕ → List ℕ
text_at rest links names k =
    leb128 (name_at rest links k).size
    ++ slice (text_place links names + (name_at rest links k).start) (text_place links names + (name_at rest links k).start + (name_at rest links k).size) rest

abbrev pub name_bytes : List ℕ → ℕ → ℕ → Way → ℕ → List ℕ
name_bytes rest links names Bare k = []
name_bytes rest links names Named k = text_at rest links names k
name_bytes rest links names Texts k = text_at rest links names k

-- what an Array becomes, and a Map, by the kinds of their targets
unfoldable pub array_form : List ℕ → List ℕ → ℕ → Form
array_form nodes rest a =
    ltb (target_kind nodes rest a) array_kind ⇒ form.Byte (array_byte (target_kind nodes rest a)) ∣ λ _.
    form.List Array Bare None

unfoldable pub map_form : List ℕ → List ℕ → ℕ → Form
map_form nodes rest a =
    ltb (target_kind nodes rest a) array_kind ⇒
    (ltb (target_kind nodes rest (a + 1)) array_kind ⇒ form.Byte (map_byte (target_kind nodes rest a) (target_kind nodes rest (a + 1))) ∣ λ _. form.List Map Bare None) ∣ λ _.
    form.List Map Bare None

-- what a node becomes: one byte, a blank, or a list of a kind, with its count before it where it has one
unfoldable pub form_of : List ℕ → List ℕ → Node → Form
form_of nodes rest n =
    ltb n.kind array_kind ⇒ form.Byte (prim_byte n.kind) ∣ λ _.
    eqb n.kind array_kind ⇒ array_form nodes rest n.a ∣ λ _.
    eqb n.kind map_kind ⇒ map_form nodes rest n.a ∣ λ _.
    eqb n.kind record_kind ⇒ form.List Record Named (Some n.b) ∣ λ _.
    eqb n.kind function_kind ⇒ form.List Function Bare (Some (n.b - 1)) ∣ λ _.
    eqb n.kind symbol_kind ⇒ form.List Symbol Texts (Some n.b) ∣ λ _.
    form.Blank

-- a list's count, where it has one
abbrev pub count_bytes : Option ℕ → List ℕ
count_bytes (Some c) = leb128 c
count_bytes None = []

-- name k is there, and its text
pub record HasName (rest : List ℕ) (links names k : ℕ) : Type 0 where
  pub links_few : links ≤ max_links
  pub names_few : names ≤ max_names
  pub below : k < names
  pub sections : text_place links names ≤ length rest
  pub short : (name_at rest links k).size ≤ max_text
  pub inside : text_place links names + (name_at rest links k).start + (name_at rest links k).size ≤ length rest

abbrev pub NamedBy : List ℕ → ℕ → ℕ → Way → ℕ → Type 0
NamedBy rest links names Bare k = Unit {0}
NamedBy rest links names Named k = HasName rest links names k
NamedBy rest links names Texts k = HasName rest links names k

-- the target of link x is there
pub record Aims (nodes rest : List ℕ) (x : ℕ) : Type 0 where
  pub here : link_place x + link_size ≤ length rest
  pub small : x < 65536
  pub aimed : Aimed nodes rest x

-- an Array's target is there, and a Map's two; a Function has a link
abbrev pub Formed : List ℕ → List ℕ → Node → Type 0
Formed nodes rest n =
    (n.kind ≡ array_kind → Aims nodes rest n.a) × (n.kind ≡ map_kind → Aims nodes rest n.a × Aims nodes rest (n.a + 1)) × (n.kind ≡ function_kind → 1 ≤ n.b)
