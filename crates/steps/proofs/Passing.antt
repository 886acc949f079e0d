-- The pass's definitions (steps/specs/Pass.antt), as the code goes: by the first byte, and down by one.
--     shape-none, shape-short     nothing, or a shape of one byte
--     shape-symbol, blank_cut, shape-blank     a payload that is no list of shapes
--     below, shape-list     what passes over the shapes of a list, and the list
--     list-deep, list-cut, list-items     no level is left for it, its head is cut off, or it is its items
--     items-one, items-none     of the items that are due, one is passed over, and the others follow it; where none is due, nothing more is
-- Assumes nothing.
use mathlib.Core.Path.{◌≡◌, refl, ◌∙◌}
use mathlib.Core.List.{List}
use mathlib.Core.Bool.{true, false}
use Prim.Native.Nat.{ℕ, zero, suc, ◌+◌, ◌-◌, ◌<◌, ◌≤◌}
use native.Mathlib.Numerals.{sub-one}
use native.Mathlib.Omega.{arith}
use lib.ListN.{length, get_or}
use lib.Seq.{slice}
use borrow.Author.Tests.{le-ltb, lt-ltb, eq-eqb, ne_eqb}
use Rattle.meaning.specs.Rules.{◌⇒◌∣◌}
use Rattle.payloads.specs.Payload.{named, shaped, size_at}
use Rattle.payloads.specs.declared.first.Kind.{Kind}
use Rattle.payloads.specs.declared.first.Kind.TheVariants.{Array, Map, Record, Function, Symbol, Variable}
use Rattle.payloads.specs.declared.first.First.TheVariants.{Unassigned, Short, Long}
use Rattle.steps.specs.Steps.{head_size, first_at, past_long, past_name, list_at}
use Rattle.steps.specs.Pass.{came, Pass, Passer, long_blank, pass_items, passed, pass_list, pass_long, pass_first, pass_shape}

-- A kind without shapes is that of Symbols where it has texts, else that of blanks.
plain-kind : (kind : Kind) → shaped kind ≡ false → kind ≡ (named kind ⇒ Symbol ∣ λ _. Variable)
plain-kind Array p = cc
plain-kind Map p = cc
plain-kind Record p = cc
plain-kind Function p = cc
plain-kind Symbol p = refl
plain-kind Variable p = refl

module _ {X A : Type 0} (F : Pass X A) where
  -- what passes over the shapes of a list, where so many levels are left for the list
  pub below : ℕ → Passer X
  below zero = λ s at. came at F.nothing
  below (suc left) = pass_shape F left

  -- A shape is passed over by its first byte.
  shape-by : (left : ℕ) (s : List ℕ) (at : ℕ) → pass_shape F left s at ≡ pass_first F left (below left) s at (first_at s at)
  unfolding pass_shape below
  shape-by zero s at = refl
  shape-by (suc left) s at = refl

  -- Where nothing is assigned, nothing is made.
  pub shape-none : (left : ℕ) (s : List ℕ) (at : ℕ) → first_at s at ≡ Unassigned → pass_shape F left s at ≡ came at F.nothing
  unfolding pass_first
  shape-none left s at h = shape-by left s at ∙ rw h

  -- A shape of one byte is made of that byte.
  pub shape-short : {levels : ℕ} (left : ℕ) (s : List ℕ) (at : ℕ) → first_at s at ≡ Short levels → pass_shape F left s at ≡ came (at + 1) (F.short (get_or s at 0) levels)
  unfolding pass_first
  shape-short left s at h = shape-by left s at ∙ rw h

  -- One with a payload goes by its kind.
  shape-long : {kind : Kind} (left : ℕ) (s : List ℕ) (at : ℕ) → first_at s at ≡ Long kind → pass_shape F left s at ≡ pass_long F left (below left) s at kind
  unfolding pass_first
  shape-long left s at h = shape-by left s at ∙ rw h

  -- A Symbol is made of its own bytes.
  pub shape-symbol : {kind : Kind} (left : ℕ) (s : List ℕ) (at : ℕ) → first_at s at ≡ Long kind → shaped kind ≡ false → named kind ≡ true
      → pass_shape F left s at ≡ came (past_long s at) (F.symbol (slice at (past_long s at) s))
  unfolding pass_long
  shape-symbol {kind} left s at h p q = let k : kind ≡ Symbol = plain-kind kind p ∙ rw q in shape-long left s at h ∙ rw k

  -- A blank is passed over in its long form.
  blank-by : {kind : Kind} (left : ℕ) (s : List ℕ) (at : ℕ) → first_at s at ≡ Long kind → shaped kind ≡ false → named kind ≡ false
      → pass_shape F left s at ≡ pass_long F left (below left) s at Variable
  blank-by {kind} left s at h p q = let k : kind ≡ Variable = plain-kind kind p ∙ rw q in shape-long left s at h ∙ rw k

  -- Where its bytes are cut off, nothing is made,
  pub blank_cut : {kind : Kind} (left : ℕ) (s : List ℕ) (at : ℕ) → first_at s at ≡ Long kind → shaped kind ≡ false → named kind ≡ false
      → length s - at < long_blank → pass_shape F left s at ≡ came at F.nothing
  unfolding pass_long
  blank_cut left s at h p q k = blank-by left s at h p q ∙ rw (lt-ltb (length s - at) 5 k)

  -- else it is made of its number.
  pub shape-blank : {kind : Kind} (left : ℕ) (s : List ℕ) (at : ℕ) → first_at s at ≡ Long kind → shaped kind ≡ false → named kind ≡ false
      → long_blank ≤ length s - at → pass_shape F left s at ≡ came (at + long_blank) (F.blank (size_at s (at + head_size)))
  unfolding pass_long
  shape-blank left s at h p q k = blank-by left s at h p q ∙ rw (le-ltb (length s - at) 5 k)

  -- A kind with shapes has a list.
  list-by : (kind : Kind) (left : ℕ) (inner : Passer X) (s : List ℕ) (at : ℕ) → shaped kind ≡ true
      → pass_long F left inner s at kind ≡ pass_list F left inner s at kind
  unfolding pass_long
  list-by Array left inner s at p = refl
  list-by Map left inner s at p = refl
  list-by Record left inner s at p = refl
  list-by Function left inner s at p = refl
  list-by Symbol left inner s at p = cc
  list-by Variable left inner s at p = cc

  -- It is passed over.
  pub shape-list : {kind : Kind} (left : ℕ) (s : List ℕ) (at : ℕ) → first_at s at ≡ Long kind → shaped kind ≡ true
      → pass_shape F left s at ≡ pass_list F left (below left) s at kind
  shape-list {kind} left s at h p = shape-long left s at h ∙ list-by kind left (below left) s at p

  -- Where no level is left for it, nothing is made,
  pub list-deep : {kind : Kind} (left : ℕ) (s : List ℕ) (at : ℕ) → first_at s at ≡ Long kind → shaped kind ≡ true
      → left ≡ 0 → pass_shape F left s at ≡ came at F.nothing
  unfolding pass_list
  list-deep left s at h p z = shape-list left s at h p ∙ rw (eq-eqb left 0 z)

  -- nor where its head is cut off,
  pub list-cut : {kind : Kind} (left : ℕ) (s : List ℕ) (at : ℕ) → first_at s at ≡ Long kind → shaped kind ≡ true
      → 0 < left → length s - at < head_size → pass_shape F left s at ≡ came at F.nothing
  unfolding pass_list
  list-cut left s at h p z k = shape-list left s at h p ∙ rw (ne_eqb left 0 (omega arith), lt-ltb (length s - at) 3 k)

  -- else it is made of its items, which have one level less.
  pub list-items : {kind : Kind} (left : ℕ) (s : List ℕ) (at : ℕ) → first_at s at ≡ Long kind → shaped kind ≡ true
      → 0 < left → head_size ≤ length s - at
      → pass_shape F left s at
      ≡ passed F kind (slice (at + head_size) (list_at s (at + head_size) kind).from s)
      (pass_items F (pass_shape F (left - 1)) kind (list_at s (at + head_size) kind).count s (list_at s (at + head_size) kind).from F.start)
  unfolding pass_list below
  list-items zero s at h p z k = absurd (omega arith)
  list-items (suc left) s at h p z k = shape-list (suc left) s at h p ∙ rw (ne_eqb (suc left) 0 (omega arith), le-ltb (length s - at) 3 k, sub-one)

module _ {X A : Type 0} (F : Pass X A) (inner : Passer X) (kind : Kind) (s : List ℕ) (at : ℕ) (a : A) where
  -- One item is passed over, and the others follow it.
  pub items-one : (due : ℕ) → 0 < due
      → pass_items F inner kind due s at a
      ≡ pass_items F inner kind (due - 1) s (inner s (past_name s at kind)).next (F.item a (slice at (past_name s at kind) s) (inner s (past_name s at kind)).made)
  unfolding pass_items
  items-one zero h = absurd (omega arith)
  items-one (suc due) h = rw sub-one

  -- Where no item is due, the place stays.
  pub items-none : (due : ℕ) → due ≤ 0 → pass_items F inner kind due s at a ≡ came at a
  unfolding pass_items
  items-none zero h = refl
  items-none (suc due) h = absurd (omega arith)
