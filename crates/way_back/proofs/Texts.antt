-- Laws of a Symbol's texts (counts/specs/Pieces.antt, `gather_texts`).
--     texts-items      the texts are items without shapes
--     texts-counts, texts-shapes     such items have no counts and no bytes of their own
--     symbol-after, symbol-bytes, symbol-few     a Symbol's items add no counts; it adds its own entries only, of which there are few
--     symbol-cut       where its head is cut off, it is a node
--     symbol-here      a Symbol at a place of an encoding, of its bytes as the code takes them
-- Assumes nothing.
use mathlib.Core.Path.{◌≡◌, refl, sym}
use mathlib.Core.Bool.{true, false}
use mathlib.Core.List.{List, []}
use Prim.Native.Nat.{ℕ, zero, suc, ◌-◌, ◌≤◌, ◌<◌}
use native.Mathlib.Nat.{add-zero}
use native.Mathlib.Omega.{arith}
use lib.ListN.{length, take, drop}
use lib.Seq.{slice}
use borrow.Author.Tests.{le-leb}
use Rattle.meaning.specs.Table.{symbol_kind}
use Rattle.leaves.proofs.Numbers.{steps, leb-steps}
use Rattle.payloads.specs.Payload.{named, shaped}
use Rattle.payloads.specs.declared.first.Kind.{Kind}
use Rattle.payloads.specs.declared.first.Kind.TheVariants.{Symbol}
use Rattle.payloads.specs.declared.first.First.TheVariants.{Long}
use Rattle.steps.specs.declared.Listing.{Listing}
use Rattle.steps.specs.Steps.{head_size, first_at, past_long, past_name, list_at}
use Rattle.steps.specs.Pass.{pass_items, pass_shape}
use Rattle.steps.proofs.Passing.{shape-symbol}
use Rattle.counts.specs.declared.Counts.{Counts}
use Rattle.counts.specs.declared.Section.{Section}
use Rattle.counts.specs.Pieces.{none, plus, Few, node_entry, nothing, Gathered, no_items, with_item, own_bytes, list_piece, gather_texts, symbol_piece, pieces, inner}
use Rattle.counts.proofs.Counting.{part-is, plus_none}
use Rattle.entries.specs.Entries.{FewOwn, items_at}

module _ (w : List ℕ) where
  -- The texts are items without shapes.
  pub texts-items : (left c at : ℕ) (a : Gathered) → gather_texts c w at a ≡ (pass_items pieces (inner left Symbol) Symbol c w at a).made
  unfolding gather_texts pass_items
  texts-items left zero at a = refl
  texts-items left (suc c) at a = texts-items left c (past_name w at Symbol) (with_item a (slice at (past_name w at Symbol) w) nothing)

  -- Texts add no counts of shapes,
  pub texts-counts : (c at : ℕ) (a : Gathered) → a.counts ≡ none → (gather_texts c w at a).counts ≡ none
  unfolding gather_texts
  texts-counts zero at a h = h
  texts-counts (suc c) at a h = texts-counts c (past_name w at Symbol) (with_item a (slice at (past_name w at Symbol) w) nothing) (rw h)

  -- and no bytes.
  pub texts-shapes : (section : Section) (before : Counts) (c at : ℕ) (a : Gathered) → a.shapes section before ≡ [] → (gather_texts c w at a).shapes section before ≡ []
  unfolding gather_texts
  texts-shapes section before zero at a h = h
  texts-shapes section before (suc c) at a h = texts-shapes section before c (past_name w at Symbol) (with_item a (slice at (past_name w at Symbol) w) nothing) (rw h)

module _ (w : List ℕ) (list : Listing) (is : list ≡ list_at w head_size Symbol) where
  -- the items of a Symbol
  abbrev items : Gathered
  items = (items_at 0 Symbol list.count w list.from).made

  -- A Symbol is the list of its texts.
  symbol-is : symbol_piece w ≡ list_piece Symbol (gather_texts list.count w list.from no_items)
  unfolding symbol_piece
  symbol-is = rw is

  -- Its items add no counts of shapes,
  symbol-none : items.counts ≡ none
  symbol-none = rw (← texts-items w 0 list.count list.from no_items) (texts-counts w list.count list.from no_items refl)

  -- so that after them is what was there before.
  pub symbol-after : (base : Counts) → base ≡ plus base items.counts
  symbol-after base = rw symbol-none (sym (plus_none base))

  -- It adds its own entries only,
  pub symbol-bytes : (section : Section) (base : Counts) → (symbol_piece w).bytes section base ≡ own_bytes section Symbol items base
  symbol-bytes section base =
      rw (symbol-is, texts-shapes w section base list.count list.from no_items refl, texts-items w 0 list.count list.from no_items)

  -- of which there are few.
  pub symbol-few : (base : Counts) → Few (plus base (symbol_piece w).counts) → FewOwn base base items
  symbol-few base h =
      let f = rw (symbol-is, texts-items w 0 list.count list.from no_items, symbol-none) at h in
      rw symbol-none ((omega arith, omega arith, omega arith, omega arith), omega arith, omega arith, omega arith)

-- Where a Symbol's head is cut off, it is a node.
pub symbol-cut : (w : List ℕ) (section : Section) (base : Counts) → length w < head_size → (symbol_piece w).bytes section base ≡ node_entry section symbol_kind base.links 0
unfolding symbol_piece list_at steps gather_texts
symbol-cut w section base h = rw (leb-steps w (length w) 3 (omega arith), le-leb (length w) 3 (omega arith), add-zero base.links)

-- A Symbol at a place of an encoding is made of its bytes.
pub symbol-here : {kind : Kind} (left : ℕ) (s : List ℕ) (at next : ℕ) → first_at s at ≡ Long kind → shaped kind ≡ false → named kind ≡ true
    → next ≡ past_long s at → at ≤ next → next ≤ length s → (pass_shape pieces left s at).made ≡ symbol_piece (take (next - at) (drop at s))
symbol-here left s at next h p q e i k = rw (shape-symbol pieces left s at h p q, ← e, part-is at next s i k)
