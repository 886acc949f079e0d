-- The steps' definitions, as the code counts: up by one, to the count.
--     section-ended                     what a section that is whole has
--     run-good, run-bad                 one link of those that are due, by what is judged of it
--     node-good, node-bad, node_end     one node of those that are due, and none
--     name-good, name-bad, name-end     one name of those that are due, and none
--     node-within, name-within          the first that is broken is one of those that are due, or there is none
--     found-some, found-none            what is said of the first that is broken
--     name-wide, name-text              how a name is judged: by its range, and by its text
-- Assumes nothing.
use mathlib.Core.Path.{◌≡◌, sym, ap}
use mathlib.Core.Bool.{Bool, true, false}
use mathlib.Core.List.{List}
use Prim.Native.Nat.{ℕ, zero, suc, ◌+◌, ◌*◌, ◌-◌, ◌≤◌, ◌<◌}
use native.Mathlib.Numerals.{add-one}
use native.Mathlib.Omega.{arith}
use lib.Dec.{ltb, eqb}
use lib.ListN.{length}
use lib.Seq.{slice}
use borrow.Author.Tests.{le-ltb, lt-ltb}
use Rattle.meaning.specs.Utf8.{well_formed}
use Rattle.meaning.specs.SheetReading.{count_size, number_at}
use Rattle.meaning.specs.Table as Meant
use Rattle.meaning.proofs.Rules.{facts, rule}
use Rattle.leaves.proofs.Text.{utf8-to}
use Rattle.std.specs.Prelude.{Option, Some, None}
use Rattle.tables.specs.declared.Section.{Section}
use Rattle.tables.specs.declared.Way.{Way}
use Rattle.tables.specs.Places.{section, text_place, section_of, link_at, node_at, name_at, good_by, good_from, good_at, first_bad_node, good_name, first_bad_name, found_below}

-- a section with so many entries, and the place after them
pub record Ended (rest : List ℕ) (at most size count next : ℕ) : Type 0 where
  pub is : number_at rest at ≡ count
  pub few : count ≤ most
  pub after : next ≡ at + count_size + size * count
  pub inside : next ≤ length rest

-- what a section has
abbrev count_in : Option Section → ℕ
count_in (Some s) = s.count
count_in None = 0

abbrev next_in : Option Section → ℕ
next_in (Some s) = s.next
next_in None = 0

-- A section that is whole has its count, not too large, and its entries are there.
pub section-ended : (rest : List ℕ) (at most size count next : ℕ) → section_of rest at most size ≡ Some (section count next) → Ended rest at most size count next
unfolding section_of
section-ended rest at most size count next =
    rule (λ r. r ≡ Some (section count next) → Ended rest at most size count next) (ltb (length rest - at) count_size) _ _ (λ _ h. none h) λ t.
    rule (λ r. r ≡ Some (section count next) → Ended rest at most size count next) (ltb most (number_at rest at)) _ _ (λ _ h. none h) λ u.
    rule (λ r. r ≡ Some (section count next) → Ended rest at most size count next) (ltb (length rest - at - count_size) (size * number_at rest at)) _ _ (λ _ h. none h) λ v h.
    let p = ap count_in h in let q = ap next_in h in
    record { is = p; few = omega (arith, facts); after = rw (← p) (sym q); inside = omega (arith, facts) }
  where
    -- a broken section is not whole
    none : ◌≡◌ {A = Option Section} None (Some (section count next)) → Ended rest at most size count next
    none h = let z : ◌≡◌ {A = ℕ} 0 1 = cc in absurd (omega arith)

-- link x is the first of those that are due
module _ (rest : List ℕ) (way : Way) (i names x : ℕ) where
  -- Where it is good, the others decide.
  pub run-good : (due : ℕ) {l : Meant.Link} {g : Bool} → 0 < due → l ≡ link_at rest x → g ≡ good_by way i names l → g ≡ true → good_from rest way i names x due ≡ good_from rest way i names (x + 1) (due - 1)
  unfolding good_from
  run-good zero h e q t = absurd (omega arith)
  run-good (suc due) h e q t = let z : suc due - 1 ≡ due = omega arith in rw (← e, ← q, t, add-one, z)

  -- Where it is not, all are not.
  pub run-bad : (due : ℕ) {l : Meant.Link} {g : Bool} → 0 < due → l ≡ link_at rest x → g ≡ good_by way i names l → g ≡ false → good_from rest way i names x due ≡ false
  unfolding good_from
  run-bad zero h e q t = absurd (omega arith)
  run-bad (suc due) h e q t = rw (← e, ← q, t)

-- node i of count is due
module _ (nodes rest : List ℕ) (links names count i : ℕ) where
  module _ {n : Meant.Node} {g : Bool} (h : i < count) (e : n ≡ node_at nodes i) (q : g ≡ good_at rest links names i n) where
    -- So many are due, and one of them is this.
    due : count - i ≡ suc (count - (i + 1))
    due = omega arith

    -- Where it is good, the first that is broken comes later.
    pub node-good : g ≡ true → first_bad_node nodes rest links names (count - i) i ≡ first_bad_node nodes rest links names (count - (i + 1)) (i + 1)
    unfolding first_bad_node
    node-good t = rw (due, ← e, ← q, t, add-one)

    -- Where it is not, it is the first.
    pub node-bad : g ≡ false → first_bad_node nodes rest links names (count - i) i ≡ i
    unfolding first_bad_node
    node-bad t = rw (due, ← e, ← q, t)

  -- Where none is due, the count is where the search ends.
  pub node_end : count ≤ i → first_bad_node nodes rest links names (count - i) i ≡ i
  unfolding first_bad_node
  node_end h = let z : count - i ≡ 0 = omega arith in rw z

-- name k of count is due
module _ (rest : List ℕ) (links names text count k : ℕ) where
  module _ {n : Meant.Name} (h : k < count) (e : n ≡ name_at rest links k) where
    -- So many are due, and one of them is this.
    name-due : count - k ≡ suc (count - (k + 1))
    name-due = omega arith

    -- Where it is good, the first that is broken comes later.
    pub name-good : good_name rest links names text n ≡ true → first_bad_name rest links names text (count - k) k ≡ first_bad_name rest links names text (count - (k + 1)) (k + 1)
    unfolding first_bad_name
    name-good t = rw (name-due, ← e, t, add-one)

    -- Where it is not, it is the first.
    pub name-bad : good_name rest links names text n ≡ false → first_bad_name rest links names text (count - k) k ≡ k
    unfolding first_bad_name
    name-bad t = rw (name-due, ← e, t)

  -- Where none is due, the count is where the search ends.
  pub name-end : count ≤ k → first_bad_name rest links names text (count - k) k ≡ k
  unfolding first_bad_name
  name-end h = let z : count - k ≡ 0 = omega arith in rw z

module _ (rest : List ℕ) (links names text start size : ℕ) where
  -- A name that passes the end of the text is not good.
  pub name-wide : text < start + size → good_name rest links names text (Meant.name start size) ≡ false
  unfolding good_name
  name-wide h = rw (lt-ltb text (start + size) h)

  -- Any other is as its text is, well formed to its end or not.
  pub name-text : {r p : ℕ} → p ≡ text_place links names → start + size ≤ text → text_place links names + text ≤ length rest → r ≡ p + start + well_formed (slice (p + start) (p + start + size) rest) → good_name rest links names text (Meant.name start size) ≡ eqb r (p + start + size)
  unfolding good_name
  name-text q h k e =
      let a = text_place links names + start in
      let f = rw q at e in
      rw (q, le-ltb text (start + size) h, f) (sym (utf8-to rest a (a + size) (omega arith) (omega arith)))

-- The first node that is broken is one of those that are due, or there is none.
pub node-within : (nodes rest : List ℕ) (links names c i : ℕ) → first_bad_node nodes rest links names c i ≤ i + c
unfolding first_bad_node
node-within nodes rest links names zero i = omega arith
node-within nodes rest links names (suc c) i =
    let h = node-within nodes rest links names c (suc i) in
    rule (λ r. r ≤ i + suc c) (good_at rest links names i (node_at nodes i)) _ _ (λ _. omega arith) λ _. omega arith

-- So is the first name.
pub name-within : (rest : List ℕ) (links names text c k : ℕ) → first_bad_name rest links names text c k ≤ k + c
unfolding first_bad_name
name-within rest links names text zero k = omega arith
name-within rest links names text (suc c) k =
    let h = name-within rest links names text c (suc k) in
    rule (λ r. r ≤ k + suc c) (good_name rest links names text (name_at rest links k)) _ _ (λ _. omega arith) λ _. omega arith

-- Where the first that is broken is one of so many, it is found; where none is, the search ended at the count.
pub found-some : (count i n : ℕ) → found_below count i ≡ Some n → (n ≡ i) × (n < count)
found-some count i n =
    rule (λ o. o ≡ Some n → (n ≡ i) × (n < count)) (ltb i count) _ _ (λ t h. let e : i ≡ n = cc in (sym e, omega (arith, facts))) λ _ h. let z : ◌≡◌ {A = ℕ} 0 1 = cc in absurd (omega arith)

pub found-none : (count i : ℕ) → found_below count i ≡ None → count ≤ i
found-none count i = rule (λ o. o ≡ None → count ≤ i) (ltb i count) _ _ (λ _ h. let z : ◌≡◌ {A = ℕ} 0 1 = cc in absurd (omega arith)) λ t h. omega (arith, facts)
