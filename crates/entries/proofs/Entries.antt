-- Laws of the entries of a table (counts/specs/Pieces.antt), as they are written.
--     pair-wrote     two numbers, written one after the other
--     no-entry, no_own     a section that has no entries for the items of a list of a kind gets nothing of them
--     own-bytes      a list's node after the entries for its items
-- Assumes nothing.
use mathlib.Core.Path.{◌≡◌, refl}
use mathlib.Core.Bool.{false}
use mathlib.Core.List.{List, [], ◌++◌}
use Prim.Native.Nat.{ℕ, zero, suc, ◌+◌, ◌≤◌}
use native.Mathlib.Omega.{arith}
use lib.ListN.{length}
use lib.Seq.{slice, slice_empty}
use Rattle.meaning.specs.Numbers.{two_bytes}
use Rattle.buffers.specs.Written.{written}
use Rattle.payloads.specs.declared.first.Kind.{Kind}
use Rattle.steps.specs.Steps.{past_name}
use Rattle.steps.specs.Pass.{Passer, pass_items}
use Rattle.counts.specs.declared.Counts.{Counts}
use Rattle.counts.specs.declared.Section.{Section}
use Rattle.counts.specs.declared.Section.TheVariants.{Nodes, Links, Names, Text}
use Rattle.counts.specs.Pieces.{plus, text_in, kind_number, node_entry, item_entry, Piece, Gathered, no_items, own_bytes, pieces, inner}
use Rattle.counts.proofs.Grows.{items-count}
use Rattle.counts.proofs.Texted.{text-none}
use Rattle.entries.specs.Entries.{has_entries, Wrote, items_at}
use Rattle.entries.proofs.Wrote.{wrote_after}

-- Two numbers, written one after the other.
pub pair-wrote : (d e f : List ℕ) (to m n : ℕ) → to + 4 ≤ length d → e ≡ written d to (two_bytes m) → f ≡ written e (to + 2) (two_bytes n)
    → Wrote d f to (two_bytes m ++ two_bytes n) (to + 4)
pair-wrote d e f to m n room p q =
    let two : Wrote d e to (two_bytes m) (to + 2) = record { after = omega arith; wrote = p } in
    let four : Wrote e f (to + 2) (two_bytes n) (to + 4) = record { after = omega arith; wrote = q } in
    wrote_after (omega arith) two four

-- Where a section has no entries for the items of a list of a kind, it gets nothing of an item,
no-entry : (section : Section) (kind : Kind) (m k start : ℕ) (s : List ℕ) (at : ℕ) → has_entries section kind ≡ false
    → item_entry section kind m k start (text_in (slice at (past_name s at kind) s)) ≡ []
unfolding past_name
no-entry Nodes kind m k start s at h = refl
no-entry Links kind m k start s at h = cc
no-entry Names kind m k start s at h = rw h
no-entry Text kind m k start s at h = rw (h, slice_empty at s) text-none

-- nor of several,
no_more : (section : Section) (kind : Kind) (base after : Counts) (inner : Passer Piece) (s : List ℕ) → has_entries section kind ≡ false
    → (due at : ℕ) (a : Gathered) → a.own section kind base after ≡ [] → (pass_items pieces inner kind due s at a).made.own section kind base after ≡ []
unfolding pass_items
no_more section kind base after inner s h zero at a e = e
no_more section kind base after inner s h (suc due) at a e =
    no_more section kind base after inner s h due _ _ (rw (e, no-entry section kind _ _ _ s at h))

-- and so the list's node has nothing there.
pub no_own : (section : Section) (kind : Kind) (base after : Counts) (left count : ℕ) (s : List ℕ) (from : ℕ) → has_entries section kind ≡ false
    → (items_at left kind count s from).made.own section kind base after ≡ []
no_own section kind base after left count s from h = no_more section kind base after (inner left kind) s h count from no_items refl

-- A list's node stands after the entries for its items, of which there are as many as the list has.
pub own-bytes : (section : Section) (left : ℕ) (kind : Kind) (count : ℕ) (s : List ℕ) (from : ℕ) (base after : Counts) {number : ℕ}
    → after ≡ plus base (items_at left kind count s from).made.counts → number ≡ kind_number kind
    → own_bytes section kind (items_at left kind count s from).made base ≡ (items_at left kind count s from).made.own section kind base after ++ node_entry section number after.links count
own-bytes section left kind count s from base after e n = rw (e, n, items-count (inner left kind) kind s count from)
