-- The turns of the loop that writes what links stand for, and the room that they have.
--     Turn                                  what the loop keeps: the links so far stand in the buffer, and those that are due are good
--     turn-first, turn_last                 it begins so, and ends with all written
--     child_is, no-child                    what a link stands for besides its name, by its way
--     room-name, room-child                 where all links have room, the link's name and its target have
--     turn_on                               a turn keeps it
-- Assumes nothing.
use mathlib.Core.Path.{◌≡◌, refl, sym, ◌∙◌, ap}
use mathlib.Core.List.{List, [], ◌++◌, append_assoc, append-nil}
use mathlib.Core.Logic.{◌⊎◌, inl, inr}
use Prim.Native.Nat.{ℕ, zero, suc, ◌+◌, ◌-◌, ◌≤◌, ◌<◌}
use native.Mathlib.Nat.{add-zero}
use native.Mathlib.Numerals.{add-one}
use native.Mathlib.Omega.{arith}
use lib.ListN.{length, length-append}
use Rattle.meaning.specs.Table.{Link}
use Rattle.buffers.specs.Written.{written}
use Rattle.buffers.proofs.Written.{written_none, written_after}
use Rattle.tables.specs.declared.Table.{Table}
use Rattle.tables.specs.declared.Way.{Way}
use Rattle.tables.specs.declared.Way.TheVariants.{Bare, Named, Texts}
use Rattle.tables.specs.Places.{link_at}
use Rattle.extents.proofs.Sound.{others-good}
use Rattle.forms.specs.Forms.{name_bytes}
use Rattle.writer.specs.Bytes.{child_bytes, run_bytes, encoded_at, links_bytes}
use Rattle.writer.specs.Sound.{Linked, Room}

-- what the loop keeps, of the buffer d that is now e: the links so far are w
pub record Turn (table : Table) (way : Way) (i a b first : ℕ) (d e : List ℕ) (x to due : ℕ) : Type 0 where
  pub w : List ℕ
  pub goes : links_bytes table way a b ≡ w ++ links_bytes table way x due
  pub wrote : e ≡ written d first w
  pub to_is : to ≡ first + length w
  pub long : length e ≡ length d
  pub linked : Linked table way i x due
  pub fewer : due ≤ b

module _ (table : Table) (way : Way) (i a b first : ℕ) (d : List ℕ) where
  -- Before the first turn nothing is written.
  pub turn-first : Linked table way i a b → Turn table way i a b first d d a first b
  turn-first h = record { w = []; goes = refl; wrote = sym (written_none d first); to_is = sym (add-zero first); long = refl; linked = h; fewer = omega arith }

  -- After the last all are.
  pub turn_last : (e : List ℕ) (x to due : ℕ) → Turn table way i a b first d e x to due → due ≤ 0
      → (to ≡ first + length (links_bytes table way a b)) × (e ≡ written d first (links_bytes table way a b))
  unfolding run_bytes
  turn_last e x to zero t h =
      let z : links_bytes table way a b ≡ t.w = t.goes ∙ append-nil t.w in
      rw z (t.to_is, t.wrote)
  turn_last e x to (suc due) t h = absurd (omega arith)

module _ (table : Table) (way : Way) (j : ℕ) where
  -- A link stands for its target, after the name where it has one,
  pub child_is : (way ≡ Bare) ⊎ (way ≡ Named) → child_bytes (encoded_at table) way j ≡ encoded_at table j
  child_is (inl h) = rw h
  child_is (inr h) = rw h

  -- and a Symbol's for its text alone.
  pub no-child : way ≡ Texts → child_bytes (encoded_at table) way j ≡ []
  no-child h = rw h

-- The bytes of links are the first one's, and then the others'.
first-bytes : (child : ℕ → List ℕ) (rest : List ℕ) (links names : ℕ) (way : Way) (x due : ℕ) (l : Link) → l ≡ link_at rest x → 0 < due
    → run_bytes child rest links names way x due ≡ (name_bytes rest links names way l.name ++ child_bytes child way l.target) ++ run_bytes child rest links names way (x + 1) (due - 1)
unfolding run_bytes
first-bytes child rest links names way x zero l is pos = absurd (omega arith)
first-bytes child rest links names way x (suc due) l is pos = let z : suc due - 1 ≡ due = omega arith in rw (add-one x, z, is)

module _ (table : Table) (way : Way) (i a b first : ℕ) (d e : List ℕ) (x to due : ℕ)
    (t : Turn table way i a b first d e x to due) (fits : Room (length d) first (links_bytes table way a b))
    (pos : 0 < due) (l : Link) (is : l ≡ link_at table.rest.now x)
    (v : List ℕ) (child : child_bytes (encoded_at table) way l.target ≡ v) where
  -- the bytes of the link's name
  abbrev n : List ℕ
  n = name_bytes table.rest.now table.links table.names way l.name

  -- All bytes are those so far, this link's, and the others'.
  goes_on_lem : links_bytes table way a b ≡ (t.w ++ (n ++ v)) ++ links_bytes table way (x + 1) (due - 1)
  goes_on_lem = t.goes ∙ rw (first-bytes (encoded_at table) table.rest.now table.links table.names way x due l is pos, child) (sym (append_assoc t.w _ _))

  -- The links so far, the name and the target fit together.
  room : (first + (length t.w + (length n + length v)) ≤ length d) × (length v < 65536)
  room =
      let r : List ℕ = links_bytes table way (x + 1) (due - 1) in
      let z = ap length goes_on_lem in
      let p = length-append (t.w ++ (n ++ v)) r in
      let q = length-append t.w (n ++ v) in
      let k = length-append n v in
      (omega (arith, fits.0), omega (arith, fits.1))

  -- The name has room.
  pub room-name : to + length n ≤ length e
  room-name = omega (arith, room.0, t.to_is, t.long)

  -- The target has room after it.
  pub room-child : (to + length n + length v ≤ length e) × (length v < 65536)
  room-child = (omega (arith, room.0, t.to_is, t.long), room.1)

  -- With both written the loop goes on.
  pub turn_on : (e1 e2 : List ℕ) (after next : ℕ) → e1 ≡ written e to n → length e1 ≡ length e → after ≡ to + length n
      → e2 ≡ written e1 after v → length e2 ≡ length e1 → next ≡ after + length v
      → Turn table way i a b first d e2 (x + 1) next (due - 1)
  turn_on e1 e2 after next w1 l1 u1 w2 l2 u2 =
      let h = room.0 in
      let k = length-append n v in
      let m = length-append t.w (n ++ v) in
      let q : e2 ≡ written e to (n ++ v) = w2 ∙ rw (w1, u1) (written_after e to n v (omega (arith, t.to_is, t.long))) in
      record {
        w = t.w ++ (n ++ v);
        goes = goes_on_lem;
        wrote = q ∙ rw (t.wrote, t.to_is) (written_after d first t.w (n ++ v) (omega arith));
        to_is = omega (arith, t.to_is);
        long = l2 ∙ l1 ∙ t.long;
        linked = record { below = t.linked.below; inside = omega (arith, t.linked.inside); good = others-good table.rest.now way i table.names x due pos t.linked.good };
        fewer = omega (arith, t.fewer);
      }
