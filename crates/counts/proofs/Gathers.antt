-- A table that grows by the items of a list and then by the list's node.
--     counts_of, bytes_of     how many entries a table has, and the bytes of a section
--     Grows-by              a table grew by what a shape adds, and its last node stands for the shape
--     Gathers               a table grew by what the shapes of items add
--     Listed                so it did, and the list's node will have these links and texts of its own
--     listed-none, named_more, bare-more, bare-last, text-more     no items; one item more, before the others, or as the last one
--     list-grows            with the list's node, the table grew by what the list adds
--     leaf-grows            so of a node without links
-- Assumes nothing.
use mathlib.Core.Path.{◌≡◌, refl, sym, ap, ◌∙◌}
use mathlib.Core.Bool.{true, false}
use mathlib.Core.List.{List, [], ◌∷◌, ◌++◌, append_assoc, append-nil}
use Prim.Native.Nat.{ℕ, suc, ◌+◌, ◌-◌, ◌<◌}
use native.Mathlib.Nat.{add-zero}
use native.Mathlib.Omega.{arith}
use lib.ListN.{length, length-append}
use Rattle.meaning.specs.Rules.{◌⇒◌∣◌}
use Rattle.meaning.specs.Encode.{text_bytes}
use Rattle.meaning.specs.Table.{Node, Link, Name, Table, node, nodes_bytes, links_bytes, names_bytes, Grown, names_from, joined, bare_links, named_links, text_links, with_node}
use Rattle.meaning.proofs.TableBytes.{nodes-append}
use Rattle.meaning.proofs.TableOf.{names-length}
use Rattle.payloads.specs.Payload.{named, shaped}
use Rattle.payloads.specs.declared.first.Kind.{Kind}
use Rattle.payloads.specs.declared.first.Kind.TheVariants.{Record, Symbol}
use Rattle.counts.specs.declared.Counts.{Counts}
use Rattle.counts.specs.declared.Section.{Section}
use Rattle.counts.specs.declared.Section.TheVariants.{Nodes, Links, Names, Text}
use Rattle.counts.specs.Pieces.{many, plus, text_in, kind_number, node_entry, item_entry, Piece, nothing, single, Gathered, no_items, with_item, own_bytes, list_piece}
use Rattle.counts.proofs.Texted.{text_in_lem, text-none}

-- how many entries a table has
abbrev pub counts_of : Table → Counts
counts_of T = many (length T.nodes) (length T.links) (length T.names) (length T.text)

-- the bytes of a section, without its count
abbrev pub bytes_of : Section → Table → List ℕ
bytes_of Nodes T = nodes_bytes T.nodes
bytes_of Links T = links_bytes T.links
bytes_of Names T = names_bytes T.names
bytes_of Text T = T.text

-- a table T grew by what a shape adds, and its last node stands for the shape
pub record Grows-by (T : Table) (d : Grown) (v : Piece) : Type 0 where
  pub counts : counts_of d.table ≡ plus (counts_of T) v.counts
  pub bytes : (section : Section) → bytes_of section d.table ≡ bytes_of section T ++ v.bytes section (counts_of T)
  pub roots : d.roots ≡ ((counts_of T).nodes + v.counts.nodes - 1) ∷ []

-- a table T grew by what the shapes of items add
pub record Gathers (T D : Table) (a : Gathered) : Type 0 where
  pub counts : counts_of D ≡ plus (counts_of T) a.counts
  pub bytes : (section : Section) → bytes_of section D ≡ bytes_of section T ++ a.shapes section (counts_of T)

-- Counts are the same if all four are.
same-counts : (a b : Counts) → a.nodes ≡ b.nodes → a.links ≡ b.links → a.names ≡ b.names → a.text ≡ b.text → a ≡ b
same-counts a b n l m t = λ i. many (n i) (l i) (m i) (t i)

-- A table gathers no items.
pub gathers-none : (T : Table) → Gathers T T no_items
gathers-none T = record { counts = same-counts _ _ (omega arith) (omega arith) (omega arith) (omega arith); bytes = λ section. sym (append-nil (bytes_of section T)) }

-- A shape more is an item more.
pub gathers-item : {T D : Table} {a : Gathered} {d : Grown} {v : Piece} (name : List ℕ) → Gathers T D a → Grows-by D d v → Gathers T d.table (with_item a name v)
gathers-item {T} {D} {a} {d} {v} name g h = record {
  counts = h.counts ∙ ap (λ (c : Counts). plus c v.counts) g.counts ∙ same-counts _ _ (omega arith) (omega arith) (omega arith) (omega arith);
  bytes = λ section. rw (h.bytes section, g.bytes section, g.counts, append_assoc);
}

-- So is a text alone.
pub gathers-text : {T D : Table} {a : Gathered} (name : List ℕ) → Gathers T D a → Gathers T D (with_item a name nothing)
gathers-text {T} {D} {a} name g = record {
  counts = g.counts ∙ same-counts _ _ (omega arith) (omega arith) (omega arith) (omega arith);
  bytes = λ section. rw (append-nil (a.shapes section (counts_of T))) (g.bytes section);
}

-- Entries one after the other are their bytes one after the other.
links-append : (ls ms : List Link) → links_bytes (ls ++ ms) ≡ links_bytes ls ++ links_bytes ms
unfolding links_bytes
links-append [] ms = refl
links-append (l ∷ ls) ms = rw (links-append ls ms)

names-append : (ns ms : List Name) → names_bytes (ns ++ ms) ≡ names_bytes ns ++ names_bytes ms
unfolding names_bytes
names-append [] ms = refl
names-append (n ∷ ns) ms = rw (names-append ns ms)

-- what a section gets of links, of the names of texts that stand from a place on, and of the texts
abbrev added : Section → List Link → ℕ → List (List ℕ) → List ℕ
added Nodes ls at ws = []
added Links ls at ws = links_bytes ls
added Names ls at ws = names_bytes (names_from at ws)
added Text ls at ws = joined ws

-- It gets nothing of none.
added_none : (section : Section) (at : ℕ) → added section [] at [] ≡ []
unfolding links_bytes names_bytes names_from joined
added_none Nodes at = refl
added_none Links at = refl
added_none Names at = refl
added_none Text at = refl

-- With a node, a section gets these and the node.
with-bytes : (section : Section) (D : Table) (kind a b : ℕ) (ls : List Link) (ws : List (List ℕ))
    → bytes_of section (with_node D (node kind a b) ls ws).table ≡ bytes_of section D ++ (added section ls (length D.text) ws ++ node_entry section kind a b)
unfolding with_node nodes_bytes
with-bytes Nodes D kind a b ls ws = nodes-append D.nodes (node kind a b ∷ [])
with-bytes Links D kind a b ls ws = rw append-nil (links-append D.links ls)
with-bytes Names D kind a b ls ws = rw append-nil (names-append D.names (names_from (length D.text) ws))
with-bytes Text D kind a b ls ws = rw append-nil refl

-- It has so many entries more.
with-counts : (D : Table) (n : Node) (ls : List Link) (ws : List (List ℕ)) → counts_of (with_node D n ls ws).table ≡ plus (counts_of D) (many 1 (length ls) (length ws) (length (joined ws)))
unfolding with_node
with-counts D n ls ws = simp (length-append, names-length)

-- D has what T has and the shapes of the items that made b of a. These are m items; the list's node will have m links for them, which with names
-- from k on are ls k, and the texts ws
pub record Listed (kind : Kind) (T : Table) (a : Gathered) (D : Table) (b : Gathered) (m : ℕ) (ls : ℕ → List Link) (ws : List (List ℕ)) : Type 0 where
  grew : Gathers T D b
  own : (section : Section) (after : Counts) → b.own section kind (counts_of T) after ≡ a.own section kind (counts_of T) after ++ added section (ls (after.names + a.items)) (after.text + a.text) ws
  items : b.items ≡ a.items + m
  text : b.text ≡ a.text + length (joined ws)
  links : (k : ℕ) → length (ls k) ≡ m

-- No items.
pub listed-none : {kind : Kind} {T D : Table} {a : Gathered} → Gathers T D a → Listed kind T a D a 0 (λ k. []) []
unfolding joined
listed-none {kind} {T} {D} {a} g = record {
  grew = g;
  own = λ section after. rw (added_none section (after.text + a.text), append-nil);
  items = omega arith;
  text = omega arith;
  links = λ k. refl;
}

module _ {kind : Kind} {T D E : Table} {a b : Gathered} {m : ℕ} {ls ls' : ℕ → List Link} {ws ws' : List (List ℕ)} (name : List ℕ) (v : Piece) where
  -- An item more, before the others: its entries come before theirs.
  listed_more : Gathers T D a
      → ((section : Section) (k at : ℕ) → item_entry section kind (length D.nodes + v.counts.nodes - 1) k at (text_in name) ++ added section (ls (suc k)) (at + length (text_in name)) ws ≡ added section (ls' k) at ws')
      → ((k : ℕ) → length (ls' k) ≡ suc m) → Listed kind T (with_item a name v) E b m ls ws → Listed kind T a E b (suc m) ls' ws'
  listed_more g f l h = record {
    grew = h.grew;
    own = λ section after.
        let target : length T.nodes + (a.counts.nodes + v.counts.nodes) - 1 ≡ length D.nodes + v.counts.nodes - 1 = omega (arith, ap (λ (c : Counts). c.nodes) g.counts) in
        let next : after.names + (a.items + 1) ≡ suc (after.names + a.items) = omega arith in
        let past : after.text + (a.text + length (text_in name)) ≡ after.text + a.text + length (text_in name) = omega arith in
        h.own section after ∙ rw (target, next, past, append_assoc, f section (after.names + a.items) (after.text + a.text));
    items = omega (arith, h.items);
    text = omega (arith, h.text, ap length (f Text 0 0), length-append (text_in name) (joined ws));
    links = l;
  }

-- What a section gets of an item with a name, and then of the others, is what it gets of all.
named-entries : (section : Section) (root k at : ℕ) (w : List ℕ) (rs : List ℕ) (ws : List (List ℕ))
    → item_entry section Record root k at w ++ added section (named_links (suc k) rs) (at + length w) ws ≡ added section (named_links k (root ∷ rs)) at (w ∷ ws)
unfolding named_links links_bytes names_bytes names_from joined
named-entries Nodes root k at w rs ws = refl
named-entries Links root k at w rs ws = refl
named-entries Names root k at w rs ws = refl
named-entries Text root k at w rs ws = refl

-- A name with its shape more.
pub named_more : {T D E : Table} {a b : Gathered} {m : ℕ} {ws : List (List ℕ)} {d : Grown} {v : Piece} (n : List ℕ) (rs : List ℕ) → length n < 16384
    → Gathers T D a → Grows-by D d v → Listed Record T (with_item a (text_bytes n) v) E b m (λ k. named_links k rs) ws → Listed Record T a E b (suc m) (λ k. named_links k (d.roots ++ rs)) (n ∷ ws)
unfolding named_links
named_more {ws = ws} {v = v} n rs l g e h =
    rw e.roots (listed_more (text_bytes n) v g (λ section k at. rw (text_in_lem n l) (named-entries section _ k at n rs ws)) (λ k. ap suc (h.links (suc k))) h)

-- a list of this kind has shapes without names
abbrev pub Bare : Kind → Type 0
Bare kind = (named kind ≡ false) × (shaped kind ≡ true)

-- So of an item without a name.
bare-entries : (kind : Kind) → Bare kind → (section : Section) (root k at : ℕ) (rs : List ℕ)
    → item_entry section kind root k at [] ++ added section (bare_links rs) (at + 0) [] ≡ added section (bare_links (root ∷ rs)) at []
unfolding bare_links links_bytes names_bytes names_from joined
bare-entries kind h Nodes root k at rs = refl
bare-entries kind h Links root k at rs = rw (h.0, h.1)
bare-entries kind h Names root k at rs = rw h.0
bare-entries kind h Text root k at rs = refl

-- A shape without a name more,
pub bare-more : {kind : Kind} {T D E : Table} {a b : Gathered} {m : ℕ} {d : Grown} {v : Piece} (rs : List ℕ) → Bare kind
    → Gathers T D a → Grows-by D d v → Listed kind T (with_item a [] v) E b m (λ k. bare_links rs) [] → Listed kind T a E b (suc m) (λ k. bare_links (d.roots ++ rs)) []
unfolding bare_links
bare-more {kind} {v = v} rs p g e h =
    rw e.roots (listed_more [] v g (λ section k at. rw text-none (bare-entries kind p section _ k at rs)) (λ k. ap suc (h.links k)) h)

-- or the last one.
pub bare-last : {kind : Kind} {T D : Table} {a : Gathered} {d : Grown} {v : Piece} → Bare kind → Gathers T D a → Grows-by D d v → Listed kind T a d.table (with_item a [] v) 1 (λ k. bare_links d.roots) []
unfolding bare_links
bare-last {d = d} p g e = rw (← append-nil d.roots) (bare-more [] p g e (listed-none (gathers-item [] g e)))

-- So of a text alone.
text-entries : (section : Section) (root k at : ℕ) (w : List ℕ) (ws : List (List ℕ))
    → item_entry section Symbol root k at w ++ added section (text_links (suc k) ws) (at + length w) ws ≡ added section (text_links k (w ∷ ws)) at (w ∷ ws)
unfolding text_links links_bytes names_bytes names_from joined
text-entries Nodes root k at w ws = refl
text-entries Links root k at w ws = refl
text-entries Names root k at w ws = refl
text-entries Text root k at w ws = refl

-- A text more.
pub text-more : {T D E : Table} {a b : Gathered} {m : ℕ} {ws : List (List ℕ)} (n : List ℕ) → length n < 16384
    → Gathers T D a → Listed Symbol T (with_item a (text_bytes n) nothing) E b m (λ k. text_links k ws) ws → Listed Symbol T a E b (suc m) (λ k. text_links k (n ∷ ws)) (n ∷ ws)
unfolding text_links
text-more {ws = ws} n l g h =
    listed_more (text_bytes n) nothing g (λ section k at. rw (text_in_lem n l) (text-entries section _ k at n ws)) (λ k. ap suc (h.links (suc k))) h

module _ {kind : Kind} {T D : Table} {b : Gathered} {m : ℕ} {ls : ℕ → List Link} {ws : List (List ℕ)} (h : Listed kind T no_items D b m ls ws) where
  -- What the list's node has of its own.
  list-own : (section : Section) → added section (ls (length D.names)) (length D.text) ws ++ node_entry section (kind_number kind) (length D.links) m ≡ own_bytes section kind b (counts_of T)
  list-own section =
      let e : b.items ≡ m = omega (arith, h.items) in
      ap (λ (l : List ℕ). l ++ node_entry section (kind_number kind) (length D.links) m) (sym (simp add-zero at (h.own section (counts_of D))))
      ∙ rw (← e) (ap (λ (after : Counts). b.own section kind (counts_of T) after ++ node_entry section (kind_number kind) after.links b.items) h.grew.counts)

  -- With the node of a list, a table grew by what the list adds.
  pub list-grows : length ws ≡ (named kind ⇒ m ∣ λ _. 0) → Grows-by T (with_node D (node (kind_number kind) (length D.links) m) (ls (length D.names)) ws) (list_piece kind b)
  unfolding with_node
  list-grows n =
      let c = h.grew.counts in
      let e : b.items ≡ m = omega (arith, h.items) in
      record {
        counts = with-counts D _ _ _ ∙ same-counts _ _
            (omega (arith, ap (λ (c : Counts). c.nodes) c))
            (omega (arith, ap (λ (c : Counts). c.links) c, h.links (length D.names)))
            (rw (e, ← n) (omega (arith, ap (λ (c : Counts). c.names) c)))
            (omega (arith, ap (λ (c : Counts). c.text) c, h.text));
        bytes = λ section. with-bytes section D _ _ _ _ _ ∙ rw (list-own section, h.grew.bytes section, append_assoc);
        roots = ap (λ (i : ℕ). i ∷ []) (omega (arith, ap (λ (c : Counts). c.nodes) c));
      }

-- With a node that has no links, it grew by that.
pub leaf-grows : (kind a b : ℕ) (T : Table) → Grows-by T (with_node T (node kind a b) [] []) (single kind a b)
unfolding with_node joined
leaf-grows kind a b T = record {
  counts = with-counts T _ [] [];
  bytes = λ section. with-bytes section T kind a b [] [] ∙ rw (added_none section (length T.text));
  roots = ap (λ (i : ℕ). i ∷ []) (omega arith);
}
