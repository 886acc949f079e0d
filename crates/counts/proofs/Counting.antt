-- The counts of a shape with a list, as the code finds them, in loops over its items.
--     part, part-is, text_short                   a part of a list as the code takes it is a window; a text is no longer than the bytes of its name
--     texts-next, texts-none                      after some of the texts, one more is gathered, and the others follow it; after all, none more is
--     items-next, items-end                       so it is with the items of a list
--     Texts, texts-start, texts-turn, texts-end   what the loop over a Symbol's texts keeps, and what it has at the end
--     Tallied, tally-first, tally-turn, tally-end what the loop over a list's items keeps, with what it has at first and at the end
--     text-within, shape-within, text-short       a name that is due ends inside; with its text the texts are no longer than the bytes passed over
--     text_few, shape-few                         where all items add few, so does each sum on the way
--     none-counted                                where no shape stands, nothing is added
--     IsList, is-list                             at a place stands a list of these items
--     plus_none, plus_assoc                       nothing more changes no counts; they may be added in any grouping
--     short-plus                                  a shape of one byte adds nodes and links
--     list-few, list-sum, list_counted            a list, from what its items add
-- Assumes nothing.
use mathlib.Core.Path.{◌≡◌, refl, sym, ap, subst, ◌∙◌}
use mathlib.Core.List.{List}
use mathlib.Core.Bool.{Bool, true, false}
use Prim.Native.Nat.{ℕ, zero, suc, ◌+◌, ◌-◌, ◌≤◌, ◌<◌, max}
use native.Mathlib.Nat.{add-zero, zero-add, add_assoc, sub-zero}
use native.Mathlib.Numerals.{sub-one}
use native.Mathlib.Omega.{arith}
use lib.Dec.{leb}
use lib.ListN.{length, take, drop, length-drop}
use lib.Seq.{slice, length-slice, take-length}
use Rattle.meaning.proofs.Rules.{facts}
use Rattle.meaning.proofs.Window.{window-take}
use Rattle.leaves.proofs.Numbers.{steps, leb-steps}
use Rattle.payloads.specs.Payload.{shaped}
use Rattle.payloads.specs.declared.first.First.TheVariants.{Long}
use Rattle.payloads.specs.declared.first.Kind.{Kind}
use Rattle.payloads.specs.declared.first.Kind.TheVariants.{Symbol}
use Rattle.steps.specs.declared.Listing.{Listing}
use Rattle.steps.specs.Steps.{head_size, first_at, past_name, list_at, ListingInside}
use Rattle.steps.specs.Pass.{Came, came, Passer, pass_items, pass_shape}
use Rattle.steps.proofs.Passing.{list-items, items-one, items-none}
use Rattle.counts.specs.declared.Counts.{Counts}
use Rattle.counts.specs.declared.Tally.{Tally}
use Rattle.counts.specs.Pieces.{many, none, plus, Few, text_from, text_in, Piece, Gathered, nothing, no_items, with_item, own_counts, list_piece, gather_texts, texts_of, symbol_piece, pieces}
use Rattle.counts.specs.Counts.{AddedIs, TallyIs, FewItems}
use Rattle.counts.proofs.Grows.{grows, items-count}

-- Nothing added to counts leaves them, on either side.
none-plus : (c : Counts) → plus none c ≡ c
none-plus c = simp zero-add

pub plus_none : (c : Counts) → plus c none ≡ c
plus_none c = simp add-zero

-- Counts may be added in any grouping.
pub plus_assoc : (a b c : Counts) → plus (plus a b) c ≡ plus a (plus b c)
plus_assoc a b c = simp add_assoc

-- the part of a list from at up to start, as the code takes it
abbrev pub part : ℕ → ℕ → List ℕ → List ℕ
part at start w = take (start - at) (drop at w)

-- It is the window there.
pub part-is : (at start : ℕ) (w : List ℕ) → at ≤ start → start ≤ length w → part at start w ≡ slice at start w
part-is at start w h i = let n : at + (start - at) ≡ start = omega arith in rw (take-length w, n) at (window-take w at (length w) (start - at) (omega arith))

-- A text is no longer than the bytes of its name.
pub text_short : (w : List ℕ) → length (text_in w) ≤ length w
text_short w = omega (arith, length-drop (text_from w) w)

module _ (w : List ℕ) (at : ℕ) (a : Gathered) where
  -- One text is gathered, and the others follow it.
  pub texts-one : (due : ℕ) → 0 < due
      → gather_texts due w at a ≡ gather_texts (due - 1) w (past_name w at Symbol) (with_item a (slice at (past_name w at Symbol) w) nothing)
  unfolding gather_texts
  texts-one zero h = absurd (omega arith)
  texts-one (suc due) h = rw sub-one

  -- So it is after k of them,
  texts-next : (k count : ℕ) → k < count
      → gather_texts (count - k) w at a ≡ gather_texts (count - (k + 1)) w (past_name w at Symbol) (with_item a (slice at (past_name w at Symbol) w) nothing)
  texts-next k count h = let e : count - k - 1 ≡ count - (k + 1) = omega arith in rw e at (texts-one (count - k) (omega arith))

  -- and after all of them no more is gathered.
  pub texts-none : (k count : ℕ) → count ≤ k → gather_texts (count - k) w at a ≡ a
  unfolding gather_texts
  texts-none k count h = let e : count - k ≡ 0 = omega arith in rw e

module _ (inner : Passer Piece) (kind : Kind) (s : List ℕ) (at : ℕ) (a : Gathered) where
  -- After k items of a list one is passed over, and the others follow it.
  pub items-next : (k count : ℕ) → k < count
      → pass_items pieces inner kind (count - k) s at a
      ≡ pass_items pieces inner kind (count - (k + 1)) s (inner s (past_name s at kind)).next (with_item a (slice at (past_name s at kind) s) (inner s (past_name s at kind)).made)
  items-next k count h = let e : count - k - 1 ≡ count - (k + 1) = omega arith in rw e at (items-one pieces inner kind s at a (count - k) (omega arith))

  -- After all of them no more is.
  pub items-end : (k count : ℕ) → count ≤ k → pass_items pieces inner kind (count - k) s at a ≡ came at a
  items-end k count h = items-none pieces inner kind s at a (count - k) (omega arith)

-- what the loop over the texts keeps after k of them, which a gathers: they have no shapes, are no longer than the bytes passed over, and those that
-- are due stand inside
pub record Texts (w : List ℕ) (from count at text k : ℕ) : Type 0 where
  pub a : Gathered
  pub goes : gather_texts count w from no_items ≡ gather_texts (count - k) w at a
  pub shapeless : a.counts ≡ none
  pub text_is : text ≡ a.text
  pub items-are : a.items ≡ k
  pub short : text ≤ at
  pub inside : k < count → at ≤ length w

-- Where a Symbol has texts, they start inside.
symbol-inside : (w : List ℕ) → 0 < (list_at w head_size Symbol).count → head_size < length w
unfolding list_at steps
symbol-inside w h = go (leb (length w) 3) refl
  where
    go : (t : Bool) → leb (length w) 3 ≡ t → 3 < length w
    go true p = let z = rw (leb-steps w (length w) 3 (omega arith), p) at h in absurd (omega arith)
    go false p = omega (arith, facts)

-- At first none is gathered.
pub texts-start : (w : List ℕ) (l : Listing) → l ≡ list_at w head_size Symbol → ListingInside w head_size l → Texts w l.from l.count l.from 0 0
texts-start w l e i = record {
  a = no_items;
  goes = rw sub-zero;
  shapeless = refl;
  text_is = refl;
  items-are = refl;
  short = omega arith;
  inside = λ h. let k = symbol-inside w (rw (← e) h) in omega (arith, i.1);
}

module _ {w : List ℕ} {from count at text k : ℕ} (t : Texts w from count at text k) where
  module _ (due : k < count) {start : ℕ} (is : start ≡ past_name w at Symbol) (inside : (at ≤ start) × (start ≤ max at (length w))) where
    -- A text that is due ends inside.
    pub text-within : start ≤ length w
    text-within = omega (arith, inside.1, t.inside due)

    module _ {size : ℕ} (sized : size ≡ length (text_in (part at start w))) where
      -- With it the texts are no longer than the bytes passed over.
      pub text-short : text + size ≤ start
      text-short =
          let i = text-within in let p = part-is at start w inside.0 i in
          omega (arith, sized, t.short, text_short (part at start w), ap length p, length-slice at start w i)

      -- A turn keeps what is kept.
      pub texts-turn : Texts w from count start (text + size) (k + 1)
      texts-turn = record {
        a = with_item t.a (slice at start w) nothing;
        goes = t.goes ∙ texts-next w at t.a k count due ∙ rw (← is);
        shapeless = rw t.shapeless;
        text_is = rw (sized, t.text_is, part-is at start w inside.0 text-within);
        items-are = omega (arith, t.items-are);
        short = text-short;
        inside = λ _. text-within;
      }

  -- At the end they are what the Symbol has.
  pub texts-end : from ≡ (list_at w head_size Symbol).from → count ≡ (list_at w head_size Symbol).count → k ≡ count
      → own_counts Symbol count text ≡ (symbol_piece w).counts
  unfolding symbol_piece
  texts-end f n z =
      let e : texts_of w ≡ t.a = rw (← f, ← n) (t.goes ∙ texts-none w at t.a k count (omega arith)) in
      let i : t.a.items ≡ count = omega (arith, t.items-are) in
      rw (e, t.shapeless, i, ← t.text_is) (sym (none-plus _))

-- what the loop over a list's items keeps after k of them, which a passes over: their counts are added to those before the list and the length of
-- their texts is found, and those that are due end as the whole list does
pub record Tallied (inner : Passer Piece) (kind : Kind) (s : List ℕ) (from count : ℕ) (base : Counts) (at : ℕ) (counts : Counts) (text k : ℕ) : Type 0 where
  pub a : Gathered
  pub goes : pass_items pieces inner kind count s from no_items ≡ pass_items pieces inner kind (count - k) s at a
  pub counts-are : counts ≡ plus base a.counts
  pub text_is : text ≡ a.text
  pub inside : at ≤ length s

-- At first no item is.
pub tally-first : (inner : Passer Piece) (kind : Kind) (s : List ℕ) (from count : ℕ) (base : Counts) → from ≤ length s → Tallied inner kind s from count base from base 0 0
tally-first inner kind s from count base i = record { a = no_items; goes = rw sub-zero; counts-are = sym (plus_none base); text_is = refl; inside = i }

module _ {inner : Passer Piece} {kind : Kind} {s : List ℕ} {from count at : ℕ} {base counts : Counts} {text k : ℕ} (t : Tallied inner kind s from count base at counts text k)
    (few : FewItems base (pass_items pieces inner kind count s from no_items).made) (due : k < count)
    {start : ℕ} (is : start ≡ past_name s at kind) (inside : (at ≤ start) × (start ≤ max at (length s))) where
  -- A shape that is due starts inside.
  pub shape-within : start ≤ length s
  shape-within = omega (arith, inside.1, t.inside)

  -- the items with the next one
  abbrev more : Gathered
  more = with_item t.a (slice at start s) (inner s start).made

  -- They and those that are due then end as the whole list does.
  goes_on_lem : pass_items pieces inner kind count s from no_items ≡ pass_items pieces inner kind (count - (k + 1)) s (inner s start).next more
  goes_on_lem = t.goes ∙ items-next inner kind s at t.a k count due ∙ rw (← is)

  -- What they add is few.
  more-few : FewItems base more
  more-few =
      let f = rw goes_on_lem at few in let g = grows inner kind s (count - (k + 1)) (inner s start).next more in let c = g.counts in
      ((omega (arith, c.nodes, f.0.0), omega (arith, c.links, f.0.1), omega (arith, c.names, f.0.2), omega (arith, c.text, f.0.3)), omega (arith, g.text, f.1))

  -- So the text is counted without a loss,
  pub text_few : {size : ℕ} → size ≡ length (text_in (part at start s)) → text + size < 65536
  text_few z = rw (z, t.text_is, part-is at start s inside.0 shape-within) more-few.1

  -- and so is what the shape adds.
  pub shape-few : Few (plus counts (inner s start).made.counts)
  shape-few = let f = more-few.0 in rw t.counts-are (omega (arith, f.0), omega (arith, f.1), omega (arith, f.2), omega (arith, f.3))

  -- A turn keeps what is kept.
  pub tally-turn : {size next : ℕ} {r : Counts} → size ≡ length (text_in (part at start s)) → AddedIs s counts r next (inner s start)
      → Tallied inner kind s from count base next r (text + size) (k + 1)
  tally-turn z h = record {
    a = more;
    goes = goes_on_lem ∙ rw h.next_is;
    counts-are = h.counts_is ∙ rw t.counts-are (plus_assoc base t.a.counts (inner s start).made.counts);
    text_is = rw (z, t.text_is, part-is at start s inside.0 shape-within);
    inside = h.inside;
  }

-- At the end the items are passed over.
pub tally-end : {inner : Passer Piece} {kind : Kind} {s : List ℕ} {from count at : ℕ} {base counts : Counts} {text k : ℕ} → Tallied inner kind s from count base at counts text k → count ≤ k
    → TallyIs s base counts (record { next = at; text = text }) (pass_items pieces inner kind count s from no_items)
tally-end {inner} {kind} {s} {count = count} {at = at} {k = k} t z =
    rw (t.goes ∙ items-end inner kind s at t.a k count z)
    (record { next_is = refl; counts_is = t.counts-are; text_is = t.text_is; inside = t.inside })

-- Where no shape stands, nothing is added.
pub none-counted : {s : List ℕ} {base : Counts} {at : ℕ} {v : Came Piece} → v ≡ came at nothing → at ≤ length s → AddedIs s base base at v
none-counted {base = base} e i = rw e (record { next_is = refl; counts_is = sym (plus_none base); inside = i })

-- A shape of one byte adds its links, a node for each, and its own.
pub short-plus : (base : Counts) {links : ℕ} {c : Counts} → many (1 + links) links 0 0 ≡ c → many (base.nodes + (1 + links)) (base.links + links) base.names base.text ≡ plus base c
short-plus base e = rw (← e) (simp add-zero)

-- the items of a list, of which each has one level less
abbrev pub all_of : ℕ → List ℕ → Kind → Listing → Came Gathered
all_of left s kind l = pass_items pieces (pass_shape pieces (left - 1)) kind l.count s l.from no_items

-- at a place stands a list of the items that l tells of
pub record IsList (left : ℕ) (s : List ℕ) (at : ℕ) (kind : Kind) (l : Listing) : Type 0 where
  pub has-shapes : shaped kind ≡ true
  pub passed : pass_shape pieces left s at ≡ came (all_of left s kind l).next (list_piece kind (all_of left s kind l).made)

-- So it is where the first byte is a list's, a level is left for it, and its head is there.
pub is-list : (left : ℕ) (s : List ℕ) (at : ℕ) (kind : Kind) (l : Listing) → first_at s at ≡ Long kind → shaped kind ≡ true → 0 < left → head_size ≤ length s - at
    → l ≡ list_at s (at + head_size) kind → IsList left s at kind l
is-list left s at kind l h p z k e = record { has-shapes = p; passed = rw (e, list-items pieces left s at h p z k) }

module _ {left : ℕ} {s : List ℕ} {at : ℕ} {kind : Kind} {l : Listing} (m : IsList left s at kind l) where
  -- Where a list adds few, its items do.
  pub list-few : (base : Counts) → Few (plus base (pass_shape pieces left s at).made.counts) → FewItems base (all_of left s kind l).made
  list-few base few =
      let f = rw m.passed at few in
      ((omega (arith, f.0), omega (arith, f.1), omega (arith, f.2), omega (arith, f.3)), omega (arith, f.3))

  module _ {base after : Counts} {all : Tally} {own : Counts} (h : TallyIs s base after all (all_of left s kind l)) (o : own ≡ own_counts kind l.count all.text) where
    -- What it adds is what its items add, and its own.
    list_counts : plus after own ≡ plus base (pass_shape pieces left s at).made.counts
    list_counts =
        let a : Gathered = (all_of left s kind l).made in
        rw (o, h.counts_is, h.text_is, m.passed, items-count (pass_shape pieces (left - 1)) kind s l.count l.from) (plus_assoc base a.counts (own_counts kind l.count a.text))

    -- So they are few, where the list adds few,
    pub list-sum : Few (plus base (pass_shape pieces left s at).made.counts) → Few (plus after own)
    list-sum few = subst (λ (c : Counts). Few c) (sym list_counts) few

    -- and the list is added.
    pub list_counted : {r : Counts} → r ≡ plus after own → AddedIs s base r all.next (pass_shape pieces left s at)
    list_counted e = record { next_is = h.next_is ∙ rw m.passed; counts_is = e ∙ list_counts; inside = h.inside }
