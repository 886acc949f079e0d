-- What the private functions do, by places in the encoding s and in the lent buffer. No public contract cites it.
use Rattle.std.specs.Prelude.{ℕ, ◌≤◌, ◌≡◌, List, [], ◌++◌, length}
use Rattle.meaning.specs.Numbers.{two_bytes}
use Rattle.steps.specs.Pass.{Came}
use Rattle.counts.specs.declared.Counts.{Counts}
use Rattle.counts.specs.declared.Section.{Section}
use Rattle.counts.specs.declared.Section.TheVariants.{Nodes, Links, Names, Text}
use Rattle.counts.specs.Pieces.{plus, Piece, Gathered}
use Rattle.entries.specs.Entries.{Wrote}
use Rattle.way_back.specs.declared.Put.{Put}

-- a link without a name
abbrev pub bare_entry : Section → ℕ → List ℕ
bare_entry Nodes target = []
bare_entry Links target = two_bytes target ++ two_bytes 0
bare_entry Names target = []
bare_entry Text target = []

-- what a section gets of a shape was written, which is what the pass makes of it, where so many entries are there before it; r says the places after it and
-- how many entries are there then
pub record PutIs (section : Section) (s : List ℕ) (base : Counts) (d e : List ℕ) (to : ℕ) (r : Put) (v : Came Piece) : Type 0 where
  pub wrote : Wrote d e to (v.made.bytes section base) r.to
  pub next_is : r.next ≡ v.next
  pub there_is : r.there ≡ plus base v.made.counts
  pub inside : r.next ≤ length s

-- so of the shapes of a list's items; text is the length of the items' texts
pub record PutItemsIs (section : Section) (s : List ℕ) (base : Counts) (d e : List ℕ) (to : ℕ) (r : Put) (text : ℕ) (v : Came Gathered) : Type 0 where
  pub wrote : Wrote d e to (v.made.shapes section base) r.to
  pub next_is : r.next ≡ v.next
  pub there_is : r.there ≡ plus base v.made.counts
  pub text_is : text ≡ v.made.text
  pub inside : r.next ≤ length s
